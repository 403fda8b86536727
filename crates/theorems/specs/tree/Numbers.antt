-- Numbers that all differ, and lists that have each number below a bound once.
use Rattle.std.specs.Prelude.{ℕ, zero, suc, ◌+◌, ◌<◌, ◌≤◌, ◌≡◌, refl, Bool, true, false, List, [], ◌∷◌, ◌++◌, eqb, length, get_or}
use Rattle.std.proofs.Common.{arith, sym, ◌∙◌, ap, eqb-true, eq-eqb, ne_eqb}
use mathlib.Core.List.Permᴰ
use Rattle.std.proofs.lemmas.Bool.{eqb-false}
use Rattle.rules.specs.Lists.{from, count, one_if}
use Rattle.rules.specs.laws.All.{All, none, more, tail_of, all_zip, all_front, all_back, all_at, always}
use Rattle.rules.specs.laws.Lists.{Distinct, d_none, d_more, from_all}
use Rattle.rules.specs.laws.Order.{◌~◌, ◌then◌, all_reordered, count_reordered}

-- n is none of these
abbrev pub Off : ℕ → List ℕ → Type 0
Off n ns = All (λ m. m ≡ n → ⊥) ns

-- the parts of numbers that all differ
pub head_off : {x : ℕ} {xs : List ℕ} → Distinct (x ∷ xs) → Off x xs
head_off (d_more o d) = o

pub distinct_tail : {x : ℕ} {xs : List ℕ} → Distinct (x ∷ xs) → Distinct xs
distinct_tail (d_more o d) = d

pub distinct_front : (a b : List ℕ) → Distinct (a ++ b) → Distinct a
distinct_front [] b s = d_none
distinct_front (x ∷ a) b (d_more o s) = d_more (all_front a b o) (distinct_front a b s)

pub distinct_back : (a b : List ℕ) → Distinct (a ++ b) → Distinct b
distinct_back [] b s = s
distinct_back (x ∷ a) b (d_more o s) = distinct_back a b s

-- each of the second is none of the first
pub distinct_cross : (a b : List ℕ) → Distinct (a ++ b) → All (λ n. Off n a) b
distinct_cross [] b s = always (λ n. none) b
distinct_cross (x ∷ a) b (d_more o s) = all_zip (all_back a b o) (distinct_cross a b s) λ n h k. more (λ e. h (sym e)) k

-- ---- the numbers from n, k of them
pub length_from : (n k : ℕ) → length (from n k) ≡ k
unfolding from
length_from n zero = refl
length_from n (suc k) = ap suc (length_from (suc n) k)

-- they all differ
pub from-distinct : (n k : ℕ) → Distinct (from n k)
unfolding from
from-distinct n zero = d_none
from-distinct n (suc k) = d_more (from_all (suc n) k λ i low high. λ (e : i ≡ n). omega arith) (from-distinct (suc n) k)

-- ---- counted
-- what isn't there is counted 0 times, and the other way round
pub off_count : (p : ℕ) {xs : List ℕ} → Off p xs → count (eqb p) xs ≡ 0
unfolding count
off_count p none = refl
off_count p (more {x = x} h a) = rw (ne_eqb p x (λ e. h (sym e)), off_count p a)

count_off : (p : ℕ) (xs : List ℕ) → count (eqb p) xs ≡ 0 → Off p xs
unfolding count
count_off p [] h = none
count_off p (x ∷ xs) h = go (eqb p x) refl h (λ k. count_off p xs k)
  where
    go : (b : Bool) → eqb p x ≡ b → one_if b + count (eqb p) xs ≡ 0 → (count (eqb p) xs ≡ 0 → Off p xs) → Off p (x ∷ xs)
    go true e k f = absurd (omega arith)
    go false e k f = more (λ z. eqb-false p x e (sym z)) (f (omega arith))

-- each is counted once
pub count-from : (p n k : ℕ) → n ≤ p → p < n + k → count (eqb p) (from n k) ≡ 1
unfolding count from
count-from p n zero h j = absurd (omega arith)
count-from p n (suc k) h j = go (eqb p n) refl (λ a. count-from p (suc n) k a (omega arith))
  where
    go : (b : Bool) → eqb p n ≡ b → (suc n ≤ p → count (eqb p) (from (suc n) k) ≡ 1) → one_if b + count (eqb p) (from (suc n) k) ≡ 1
    go true e ih = omega (arith, off_count p (from_all (suc n) k λ i low high. λ (z : i ≡ p). omega (arith, eqb-true p n e)))
    go false e ih = omega (arith, ih (omega (arith, eqb-false)))

-- a number that is there, taken out to the front
record Found (p : ℕ) (xs : List ℕ) : Type 0 where
  rest : List ℕ
  order : xs ~ (p ∷ rest)

find : (p : ℕ) (xs : List ℕ) → 1 ≤ count (eqb p) xs → Found p xs
unfolding count
find p [] h = absurd (omega arith)
find p (x ∷ xs) h = go (eqb p x) refl h (λ k. find p xs k)
  where
    go : (b : Bool) → eqb p x ≡ b → 1 ≤ one_if b + count (eqb p) xs → (1 ≤ count (eqb p) xs → Found p xs) → Found p (x ∷ xs)
    go true e k f = record { rest = xs; order = Permᴰ.cons (sym (eqb-true p x e)) (Permᴰ.refl xs) }
    go false e k f =
        let r = f (omega arith) in
        record { rest = x ∷ r.rest; order = Permᴰ.cons refl r.order then Permᴰ.swap refl refl }

-- numbers within bounds that are counted once each are all of them, in another order
pub once_each : (n k : ℕ) (xs : List ℕ) → All (λ p. (n ≤ p) × (p < n + k)) xs → ((p : ℕ) → n ≤ p → p < n + k → count (eqb p) xs ≡ 1) → xs ~ from n k
unfolding from count
once_each n zero [] a f = Permᴰ.nil
once_each n zero (x ∷ xs) (more h a) f = absurd (omega arith)
once_each n (suc k) xs a f =
    let r = find n xs (omega (arith, f n (omega arith) (omega arith))) in
    let ys = r.rest in
    let a' = all_reordered r.order a in
    let c1 : one_if (eqb n n) + count (eqb n) ys ≡ 1 = sym (count_reordered (eqb n) r.order) ∙ f n (omega arith) (omega arith) in
    let off = count_off n ys (omega (arith, rw (eq-eqb n n refl) at c1)) in
    let low : All (λ p. (suc n ≤ p) × (p < suc n + k)) ys = all_zip (tail_of a') off λ p h o. omega arith in
    let once : (p : ℕ) → suc n ≤ p → p < suc n + k → count (eqb p) ys ≡ 1 =
    λ p h j.
    (let c2 : one_if (eqb p n) + count (eqb p) ys ≡ 1 = sym (count_reordered (eqb p) r.order) ∙ f p (omega arith) (omega arith) in
    let c3 : 0 + count (eqb p) ys ≡ 1 = rw (ne_eqb p n (omega arith)) at c2 in
    omega arith) in
    r.order then Permᴰ.cons refl (once_each (suc n) k ys low once)

-- ---- the first n of a list, the last first
abbrev pub picks : List ℕ → ℕ → List ℕ
picks fs zero = []
picks fs (suc n) = get_or fs n 0 ∷ picks fs n

-- how many they are, and what holds of them
pub length-picks : (fs : List ℕ) (n : ℕ) → length (picks fs n) ≡ n
length-picks fs zero = refl
length-picks fs (suc n) = ap suc (length-picks fs n)

pub picks_all : {P : ℕ → Type 0} {fs : List ℕ} (n : ℕ) → All P fs → n ≤ length fs → All P (picks fs n)
picks_all zero a h = none
picks_all (suc n) a h = more (all_at a n 0 h) (picks_all n a (omega arith))
