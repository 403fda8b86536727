-- Laws of counting those of a list that pass a test.
use Rattle.std.specs.Prelude.{ℕ, ◌≤◌, ◌+◌, suc, ◌≡◌, refl, Bool, true, false, not, ◌&&◌, List, [], ◌∷◌, ◌++◌, length, eqb}
use Rattle.std.proofs.Common.{arith, zero-add, sym, ◌∙◌, ne_eqb, eqb-true}
use mathlib.Core.List.Memᴰ
use Rattle.rules.specs.declared.Entry.{Entry}
use Rattle.rules.specs.Lists.{keep, count, put_if, one_if}
use Rattle.rules.specs.Store.{train_of}
use Rattle.rules.specs.laws.All.{All, none, more, all_map, all_unmapped, Mem}
use Rattle.rules.specs.laws.Rows.{Apart, first-apart, rest-apart}

-- two tests that agree on all count the same
pub count_same : {A : Type 0} (f g : A → Bool) {xs : List A} → All (λ x. f x ≡ g x) xs → count f xs ≡ count g xs
unfolding count
count_same f g none = refl
count_same f g (more h a) = rw (h, count_same f g a)

pub count_none : {A : Type 0} (f : A → Bool) {xs : List A} → All (λ x. f x ≡ false) xs → count f xs ≡ 0
unfolding count
count_none f none = refl
count_none f (more h a) = rw (h, count_none f a)

-- one more that doesn't pass
pub count-put : {A : Type 0} (f : A → Bool) (b : Bool) (x : A) (xs : List A) → f x ≡ false → count f (put_if b x xs) ≡ count f xs
unfolding count
count-put f true x xs e = rw e (zero-add (count f xs))
count-put f false x xs e = refl

-- those that pass a second test too are no more
pub count_fewer : {A : Type 0} (f g : A → Bool) (xs : List A) → count (λ x. f x && g x) xs ≤ count f xs
unfolding count
count_fewer f g [] = omega arith
count_fewer f g (x ∷ xs) = go (f x) (g x) (count_fewer f g xs)
  where
    go : (a b : Bool) → count (λ x. f x && g x) xs ≤ count f xs → one_if (a && b) + count (λ x. f x && g x) xs ≤ one_if a + count f xs
    go true true h = omega arith
    go true false h = omega arith
    go false b h = omega arith

-- of those that pass a test, some pass a second one and the others don't
pub count-parts : {A : Type 0} (f g : A → Bool) (xs : List A) → count f xs ≡ count f (keep g xs) + count (λ x. f x && not (g x)) xs
unfolding count keep
count-parts f g [] = refl
count-parts f g (x ∷ xs) = go (f x) refl (g x) (count-parts f g xs)
  where
    go : (a : Bool) → f x ≡ a → (b : Bool) → count f xs ≡ count f (keep g xs) + count (λ x. f x && not (g x)) xs
        → one_if a + count f xs ≡ count f (put_if b x (keep g xs)) + (one_if (a && not b) + count (λ x. f x && not (g x)) xs)
    go true e true h = rw e (omega arith)
    go true e false h = omega arith
    go false e true h = rw e (omega arith)
    go false e false h = omega arith

-- where trains are distinct, each has at most one entry
pub count-apart : (n : ℕ) (es : List Entry) → Apart es → count (λ e. eqb (train_of e).0 n) es ≤ 1
unfolding count
count-apart n [] d = omega arith
count-apart n (e ∷ es) d = go (eqb (train_of e).0 n) refl (count-apart n es (rest-apart d))
  where
    go : (b : Bool) → eqb (train_of e).0 n ≡ b → count (λ e. eqb (train_of e).0 n) es ≤ 1 → one_if b + count (λ e. eqb (train_of e).0 n) es ≤ 1
    go true q ih =
        let r : (train_of e).0 ≡ n = eqb-true _ _ q in
        omega (arith, count_none (λ e. eqb (train_of e).0 n) (all_map (all_unmapped _ es (first-apart d)) λ x h. ne_eqb (train_of x).0 n λ p. h (p ∙ sym r)))
    go false q ih = omega arith

-- ---- lists one after the other, and what all, some or none of a list make
pub count_append : {A : Type 0} (f : A → Bool) (xs ys : List A) → count f (xs ++ ys) ≡ count f xs + count f ys
unfolding count
count_append f [] ys = sym (zero-add (count f ys))
count_append f (x ∷ xs) ys = omega (arith, count_append f xs ys)

-- where all pass, all count
pub count_all : {A : Type 0} (f : A → Bool) {xs : List A} → All (λ x. f x ≡ true) xs → count f xs ≡ length xs
unfolding count
count_all f none = refl
count_all f (more h a) = rw h (omega (arith, count_all f a))

-- one that passes counts
pub count_some : {A : Type 0} (f : A → Bool) {x : A} {xs : List A} → Mem x xs → f x ≡ true → 1 ≤ count f xs
unfolding count
count_some f (Memᴰ.head e) h = rw (← e, h) (omega arith)
count_some f (Memᴰ.tail m) h = omega (arith, count_some f m h)

-- those that pass and those that are left make all
pub count_left : {A : Type 0} (f : A → Bool) (xs : List A) → length (keep (λ x. not (f x)) xs) + count f xs ≡ length xs
unfolding count keep
count_left f [] = refl
count_left {A} f (x ∷ xs) = go (f x) (count_left f xs)
  where
    left : List A
    left = keep (λ x. not (f x)) xs

    go : (b : Bool) → length left + count f xs ≡ length xs → length (put_if (not b) x left) + (one_if b + count f xs) ≡ suc (length xs)
    go true ih = omega arith
    go false ih = omega arith
