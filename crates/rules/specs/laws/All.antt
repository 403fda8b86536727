-- What holds of every element of a list, and the tests that ask for it.
use Rattle.std.specs.Prelude.{ℕ, zero, suc, ◌<◌, ◌≡◌, refl, Bool, true, false, length, replicate, take, get_or, set}
use Rattle.std.proofs.Common.{arith, sym, ◌∙◌, ap, ap₂, not-suc-le-zero, le_of_suc-le-suc}
use mathlib.Core.List.{List, [], ◌∷◌, ◌++◌, map, flat_map, Memᴰ, append_assoc}
use Rattle.rules.specs.Lists.{every, keep, put_if}
use Rattle.rules.specs.laws.Tests.{and_left, and_right, and_both}

pub data All {A : Type 0} (P : A → Type 0) : List A → Type 0 where
  none : All P []
  more : {x : A} {xs : List A} → P x → All P xs → All P (x ∷ xs)

pub head_of : {A : Type 0} {P : A → Type 0} {x : A} {xs : List A} → All P (x ∷ xs) → P x
head_of (more h a) = h

pub tail_of : {A : Type 0} {P : A → Type 0} {x : A} {xs : List A} → All P (x ∷ xs) → All P xs
tail_of (more h a) = a

pub all_map : {A : Type 0} {P Q : A → Type 0} {xs : List A} → All P xs → ((x : A) → P x → Q x) → All Q xs
all_map none f = none
all_map (more {x = x} h a) f = more (f x h) (all_map a f)

pub all_zip : {A : Type 0} {P Q R : A → Type 0} {xs : List A} → All P xs → All Q xs → ((x : A) → P x → Q x → R x) → All R xs
all_zip none none f = none
all_zip (more {x = x} h a) (more k b) f = more (f x h k) (all_zip a b f)

-- ---- as a test
pub every_all : {A : Type 0} (f : A → Bool) (xs : List A) → every f xs ≡ true → All (λ x. f x ≡ true) xs
every_all f [] e = none
every_all f (x ∷ xs) e = more (and_left (f x) (every f xs) e) (every_all f xs (and_right (f x) (every f xs) e))

pub all_every : {A : Type 0} (f : A → Bool) {xs : List A} → All (λ x. f x ≡ true) xs → every f xs ≡ true
all_every f none = refl
all_every f (more h a) = and_both h (all_every f a)

-- where each element's test stands for a fact
pub every_holds : {A : Type 0} {P : A → Type 0} (f : A → Bool) (xs : List A) → ((x : A) → f x ≡ true → P x) → every f xs ≡ true → All P xs
every_holds f xs h e = all_map (every_all f xs e) h

pub every_test : {A : Type 0} {P : A → Type 0} (f : A → Bool) {xs : List A} → ((x : A) → P x → f x ≡ true) → All P xs → every f xs ≡ true
every_test f h a = all_every f (all_map a h)

-- ---- in lists that are made of others
pub all_append : {A : Type 0} {P : A → Type 0} {a b : List A} → All P a → All P b → All P (a ++ b)
all_append none k = k
all_append (more h t) k = more h (all_append t k)

pub all_front : {A : Type 0} {P : A → Type 0} (xs ys : List A) → All P (xs ++ ys) → All P xs
all_front [] ys a = none
all_front (x ∷ xs) ys (more h a) = more h (all_front xs ys a)

pub all_back : {A : Type 0} {P : A → Type 0} (xs ys : List A) → All P (xs ++ ys) → All P ys
all_back [] ys a = a
all_back (x ∷ xs) ys (more h a) = all_back xs ys a

pub all_flat : {A B : Type 0} {P : B → Type 0} (f : A → List B) (xs : List A) → All P (flat_map f xs) → All (λ x. All P (f x)) xs
unfolding flat_map
all_flat f [] a = none
all_flat f (x ∷ xs) a = more (all_front (f x) _ a) (all_flat f xs (all_back (f x) _ a))

pub flat_all : {A B : Type 0} {P : B → Type 0} (f : A → List B) {xs : List A} → All (λ x. All P (f x)) xs → All P (flat_map f xs)
unfolding flat_map
flat_all f none = none
flat_all f (more h a) = all_append h (flat_all f a)

pub all_mapped : {A B : Type 0} {P : B → Type 0} (g : A → B) {xs : List A} → All (λ x. P (g x)) xs → All P (map g xs)
all_mapped g none = none
all_mapped g (more h a) = more h (all_mapped g a)

pub all_kept : {A : Type 0} {P : A → Type 0} (f : A → Bool) {xs : List A} → All (λ x. f x ≡ true → P x) xs → All P (keep f xs)
unfolding keep
all_kept f none = none
all_kept {P = P} f (more {x = x} {xs = xs} h a) = go (f x) refl (all_kept f a)
  where
    go : (b : Bool) → f x ≡ b → All P (keep f xs) → All P (put_if b x (keep f xs))
    go true e r = more (h e) r
    go false e r = r

pub all_put : {A : Type 0} {P : A → Type 0} (b : Bool) (x : A) {xs : List A} → (b ≡ true → P x) → All P xs → All P (put_if b x xs)
all_put true x h a = more (h refl) a
all_put false x h a = a

pub all_replicate : {A : Type 0} {P : A → Type 0} (n : ℕ) (x : A) → P x → All P (replicate n x)
all_replicate zero x h = none
all_replicate (suc n) x h = more h (all_replicate n x h)

-- the parts of two lists stand one after the other
pub flat_append : {A B : Type 0} (f : A → List B) (xs ys : List A) → flat_map f (xs ++ ys) ≡ flat_map f xs ++ flat_map f ys
unfolding flat_map
flat_append f [] ys = refl
flat_append f (x ∷ xs) ys = rw (flat_append f xs ys) (sym (append_assoc (f x) (flat_map f xs) (flat_map f ys)))

-- what is gathered from what was gathered is gathered at once
pub flat_flat : {A B C : Type 0} (f : B → List C) (g : A → List B) (xs : List A) → flat_map f (flat_map g xs) ≡ flat_map (λ x. flat_map f (g x)) xs
unfolding flat_map
flat_flat f g [] = refl
flat_flat f g (x ∷ xs) = flat_append f (g x) (flat_map g xs) ∙ ap (λ r. flat_map f (g x) ++ r) (flat_flat f g xs)

-- ---- where all agree
pub flat_cong : {A B : Type 0} (f g : A → List B) {xs : List A} → All (λ x. f x ≡ g x) xs → flat_map f xs ≡ flat_map g xs
unfolding flat_map
flat_cong f g none = refl
flat_cong f g (more h a) = rw (h, flat_cong f g a)

pub map_back : {A B : Type 0} (f : B → A) (g : A → B) {xs : List A} → All (λ x. f (g x) ≡ x) xs → map f (map g xs) ≡ xs
map_back f g none = refl
map_back f g (more h a) = ap₂ (λ u v. u ∷ v) h (map_back f g a)

-- what holds always holds of every element
pub always : {A : Type 0} {P : A → Type 0} → ((x : A) → P x) → (xs : List A) → All P xs
always h [] = none
always h (x ∷ xs) = more (h x) (always h xs)

-- ---- at a place, and where a place is set
pub all_at : {A : Type 0} {P : A → Type 0} {xs : List A} → All P xs → (i : ℕ) (d : A) → i < length xs → P (get_or xs i d)
all_at none i d h = absurd (not-suc-le-zero h)
all_at (more p a) zero d h = p
all_at (more p a) (suc i) d h = all_at a i d (le_of_suc-le-suc h)

-- at any place, where it also holds of what stands past the end
pub all_anywhere : {A : Type 0} {P : A → Type 0} {xs : List A} → All P xs → (i : ℕ) (d : A) → P d → P (get_or xs i d)
all_anywhere none i d h = h
all_anywhere (more p a) zero d h = p
all_anywhere (more p a) (suc i) d h = all_anywhere a i d h

pub all_places : {A : Type 0} {P : A → Type 0} (xs : List A) (d : A) → ((i : ℕ) → i < length xs → P (get_or xs i d)) → All P xs
all_places [] d h = none
all_places (x ∷ xs) d h = more (h 0 (omega arith)) (all_places xs d λ i k. h (suc i) (omega arith))

pub all_take : {A : Type 0} {P : A → Type 0} {xs : List A} → All P xs → (i : ℕ) → All P (take i xs)
all_take a zero = none
all_take none (suc i) = none
all_take (more p a) (suc i) = more p (all_take a i)

pub all_set : {A : Type 0} {P : A → Type 0} {xs : List A} → All P xs → (i : ℕ) {x : A} → P x → All P (set xs i x)
all_set none i q = none
all_set (more p a) zero q = more q a
all_set (more p a) (suc i) q = more p (all_set a i q)

-- ---- members of any list
abbrev pub Mem : {A : Type 0} → A → List A → Type 0
Mem x xs = Memᴰ x xs

pub all_member : {A : Type 0} {P : A → Type 0} {x : A} {xs : List A} → All P xs → Mem x xs → P x
all_member none m = elim m [ ]
all_member (more h a) (Memᴰ.head e) = rw e h
all_member (more h a) (Memᴰ.tail m) = all_member a m

pub all_members : {A : Type 0} {P : A → Type 0} (xs : List A) → ((x : A) → Mem x xs → P x) → All P xs
all_members [] h = none
all_members (x ∷ xs) h = more (h x (Memᴰ.head refl)) (all_members xs λ y m. h y (Memᴰ.tail m))

pub all_unmapped : {A B : Type 0} {P : B → Type 0} (g : A → B) (xs : List A) → All P (map g xs) → All (λ x. P (g x)) xs
all_unmapped g [] a = none
all_unmapped g (x ∷ xs) a = more (head_of a) (all_unmapped g xs (tail_of a))
