-- Laws of keeping those of a list that pass a test.
use Rattle.std.specs.Prelude.{suc, ◌≤◌, ◌≡◌, refl, Bool, true, false, ◌&&◌, List, [], ◌∷◌, ◌++◌, length}
use Rattle.std.proofs.Common.{arith, sym, ◌∙◌, ap}
use Rattle.std.proofs.Math.Path.{fun_ext}
use Rattle.std.proofs.Math.Bool.{and_comm}
use mathlib.Core.List.Memᴰ
use Rattle.rules.specs.Lists.{keep, put_if}
use Rattle.rules.specs.laws.All.{All, none, more, all_kept, Mem, all_member, all_members}

pub keep_yes : {A : Type 0} (f : A → Bool) (x : A) (xs : List A) → f x ≡ true → keep f (x ∷ xs) ≡ x ∷ keep f xs
unfolding keep
keep_yes f x xs e = rw e

pub keep_no : {A : Type 0} (f : A → Bool) (x : A) (xs : List A) → f x ≡ false → keep f (x ∷ xs) ≡ keep f xs
unfolding keep
keep_no f x xs e = rw e

pub keep-put : {A : Type 0} (f : A → Bool) (b : Bool) (x : A) (xs : List A) → f x ≡ true → keep f (put_if b x xs) ≡ put_if b x (keep f xs)
keep-put f true x xs e = keep_yes f x xs e
keep-put f false x xs e = refl

-- where all pass, all are kept
pub keep_all : {A : Type 0} (f : A → Bool) {xs : List A} → All (λ x. f x ≡ true) xs → keep f xs ≡ xs
unfolding keep
keep_all f none = refl
keep_all f (more h a) = rw (h, keep_all f a)

-- where none pass, none are
pub keep_none : {A : Type 0} (f : A → Bool) {xs : List A} → All (λ x. f x ≡ false) xs → keep f xs ≡ []
unfolding keep
keep_none f none = refl
keep_none f (more h a) = rw (h, keep_none f a)

-- those that are kept are no more than there were
pub keep_fewer : {A : Type 0} (f : A → Bool) (xs : List A) → length (keep f xs) ≤ length xs
unfolding keep
keep_fewer f [] = omega arith
keep_fewer f (x ∷ xs) = go (f x) (keep_fewer f xs)
  where
    go : (b : Bool) → length (keep f xs) ≤ length xs → length (put_if b x (keep f xs)) ≤ suc (length xs)
    go true h = omega arith
    go false h = omega arith

-- one test after the other is both at once
pub keep_both : {A : Type 0} (f g : A → Bool) (xs : List A) → keep (λ x. f x && g x) xs ≡ keep g (keep f xs)
unfolding keep
keep_both f g [] = refl
keep_both f g (x ∷ xs) = go (f x) (keep_both f g xs)
  where
    go : (b : Bool) → keep (λ x. f x && g x) xs ≡ keep g (keep f xs)
        → put_if (b && g x) x (keep (λ x. f x && g x) xs) ≡ keep g (put_if b x (keep f xs))
    go true ih = ap (put_if (g x) x) ih
    go false ih = ih

-- of two tests it doesn't matter which comes first
pub keep_swap : {A : Type 0} (f g : A → Bool) (xs : List A) → keep f (keep g xs) ≡ keep g (keep f xs)
keep_swap f g xs = sym (keep_both g f xs) ∙ ap (λ h. keep h xs) (fun_ext λ x. and_comm (g x) (f x)) ∙ keep_both f g xs

-- two tests that agree on all keep the same
pub keep_same : {A : Type 0} (f g : A → Bool) {xs : List A} → All (λ x. f x ≡ g x) xs → keep f xs ≡ keep g xs
unfolding keep
keep_same f g none = refl
keep_same f g (more h a) = rw (h, keep_same f g a)

-- the kept are the members that pass
pub kept : {A : Type 0} (f : A → Bool) {x : A} (xs : List A) → Mem x (keep f xs) → Mem x xs × (f x ≡ true)
kept f xs m = all_member {P = λ x. Mem x xs × (f x ≡ true)} (all_kept f (all_members xs λ x n e. (n, e))) m

pub keeps : {A : Type 0} (f : A → Bool) {x : A} {xs : List A} → Mem x xs → f x ≡ true → Mem x (keep f xs)
unfolding keep
keeps f (Memᴰ.head e) h = rw (rw e at h) (Memᴰ.head e)
keeps f {x = x} (Memᴰ.tail {x = y} {xs = ys} m) h = go (f y) (keeps f m h)
  where
    go : (b : Bool) → Mem x (keep f ys) → Mem x (put_if b y (keep f ys))
    go true k = Memᴰ.tail k
    go false k = k

-- those kept of two lists stand one after the other
put_append : {A : Type 0} (b : Bool) (x : A) (r ys : List A) → put_if b x (r ++ ys) ≡ put_if b x r ++ ys
put_append true x r ys = refl
put_append false x r ys = refl

pub keep_append : {A : Type 0} (f : A → Bool) (xs ys : List A) → keep f (xs ++ ys) ≡ keep f xs ++ keep f ys
unfolding keep
keep_append f [] ys = refl
keep_append f (x ∷ xs) ys = ap (put_if (f x) x) (keep_append f xs ys) ∙ put_append (f x) x (keep f xs) (keep f ys)
