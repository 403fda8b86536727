-- Laws of lists of numbers, and of the tests on them.
use Rattle.std.specs.Prelude.{ℕ, zero, suc, ◌<◌, ◌≤◌, ◌+◌, ◌≡◌, refl, Bool, true, false, ◌||◌, List, [], ◌∷◌, eqb, ltb, length, replicate}
use Rattle.std.proofs.Common.{arith, sym, subst, ap₂, ltb-true, ltb-false, lt-ltb, eqb-true, eq-eqb}
use Rattle.std.proofs.lemmas.Bool.{false≢true, eqb-false}
use Rattle.rules.specs.Lists.{every, from, distinct, ascending, same_words}
use Rattle.rules.specs.laws.Tests.{and_left, and_right, and_both}
use Rattle.rules.specs.laws.All.{All, none, more, head_of, tail_of, all_map, every_all, all_every}

pub length-zero : {A : Type 0} (xs : List A) → length xs ≡ 0 → xs ≡ []
length-zero [] e = refl
length-zero (x ∷ xs) e = absurd (omega arith)

-- ---- what holds of the numbers from n, k of them
pub all_from : {P : ℕ → Type 0} (n k : ℕ) → All P (from n k) → (i : ℕ) → n ≤ i → i < n + k → P i
unfolding from
all_from n zero a i low high = absurd (omega arith)
all_from {P} n (suc k) a i low high = go (eqb i n) refl (λ lower. all_from (suc n) k (tail_of a) i lower (omega arith))
  where
    go : (b : Bool) → eqb i n ≡ b → (n < i → P i) → P i
    go true e later = subst P (sym (eqb-true i n e)) (head_of a)
    go false e later = later (omega (arith, eqb-false i n e))

pub from_all : {P : ℕ → Type 0} (n k : ℕ) → ((i : ℕ) → n ≤ i → i < n + k → P i) → All P (from n k)
unfolding from
from_all n zero h = none
from_all n (suc k) h = more (h n (omega arith) (omega arith)) (from_all (suc n) k λ i low high. h i (omega arith) (omega arith))

-- ---- the same words
pub same_words_equal : (xs ys : List ℕ) → same_words xs ys ≡ true → xs ≡ ys
unfolding same_words
same_words_equal [] [] e = refl
same_words_equal [] (y ∷ ys) e = absurd (false≢true e)
same_words_equal (x ∷ xs) [] e = absurd (false≢true e)
same_words_equal (x ∷ xs) (y ∷ ys) e =
    ap₂ (λ u v. u ∷ v) (eqb-true x y (and_left (eqb x y) (same_words xs ys) e)) (same_words_equal xs ys (and_right (eqb x y) (same_words xs ys) e))

pub same_words_self : (xs : List ℕ) → same_words xs xs ≡ true
unfolding same_words
same_words_self [] = refl
same_words_self (x ∷ xs) = and_both (eq-eqb x x refl) (same_words_self xs)

-- words that are all zero
pub zeros : (ws : List ℕ) → every (λ n. eqb n 0) ws ≡ true → ws ≡ replicate (length ws) 0
zeros [] e = refl
zeros (w ∷ ws) e = ap₂ (λ u v. u ∷ v) (eqb-true w 0 (and_left (eqb w 0) _ e)) (zeros ws (and_right (eqb w 0) _ e))

-- ---- no two equal
pub data Distinct : List ℕ → Type 0 where
  d_none : Distinct []
  d_more : {x : ℕ} {xs : List ℕ} → All (λ y. y ≡ x → ⊥) xs → Distinct xs → Distinct (x ∷ xs)

unequal : (x y : ℕ) → (ltb y x || ltb x y) ≡ true → y ≡ x → ⊥
unequal x y e q = go (ltb y x) refl (ltb x y) refl e
  where
    go : (a : Bool) → ltb y x ≡ a → (b : Bool) → ltb x y ≡ b → (a || b) ≡ true → ⊥
    go true f b g e = omega (arith, ltb-true)
    go false f true g e = omega (arith, ltb-true)
    go false f false g e = false≢true e

unequal_test : (x y : ℕ) → (y ≡ x → ⊥) → (ltb y x || ltb x y) ≡ true
unequal_test x y h = go (ltb y x) refl (ltb x y) refl
  where
    go : (a : Bool) → ltb y x ≡ a → (b : Bool) → ltb x y ≡ b → (a || b) ≡ true
    go true f b g = refl
    go false f true g = refl
    go false f false g = absurd (h (omega (arith, ltb-false)))

pub distinct-holds : (xs : List ℕ) → distinct xs ≡ true → Distinct xs
unfolding distinct
distinct-holds [] e = d_none
distinct-holds (x ∷ xs) e =
    d_more (all_map (every_all _ xs (and_left (every _ xs) (distinct xs) e)) λ y h. unequal x y h) (distinct-holds xs (and_right (every _ xs) (distinct xs) e))

pub distinct_test : {xs : List ℕ} → Distinct xs → distinct xs ≡ true
unfolding distinct
distinct_test d_none = refl
distinct_test (d_more {x = x} h d) = and_both (all_every _ (all_map h λ y k. unequal_test x y k)) (distinct_test d)

-- ---- each below all later ones
pub data Ascending : List ℕ → Type 0 where
  a_none : Ascending []
  a_more : {x : ℕ} {xs : List ℕ} → All (λ y. x < y) xs → Ascending xs → Ascending (x ∷ xs)

pub ascending-holds : (xs : List ℕ) → ascending xs ≡ true → Ascending xs
unfolding ascending
ascending-holds [] e = a_none
ascending-holds (x ∷ xs) e =
    a_more (all_map (every_all (ltb x) xs (and_left (every (ltb x) xs) (ascending xs) e)) λ y h. ltb-true x y h) (ascending-holds xs (and_right (every (ltb x) xs) (ascending xs) e))

pub ascending_test : {xs : List ℕ} → Ascending xs → ascending xs ≡ true
unfolding ascending
ascending_test a_none = refl
ascending_test (a_more {x = x} h d) = and_both (all_every (ltb x) (all_map h λ y k. lt-ltb x y k)) (ascending_test d)
