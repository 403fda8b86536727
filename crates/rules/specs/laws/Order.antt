-- Lists in another order: what holds of all, and what is kept, gathered or counted, stays.
use Rattle.std.specs.Prelude.{ℕ, zero, suc, ◌<◌, ◌≡◌, refl, Bool, true, false, not, length, get_or, set}
use Rattle.std.proofs.Common.{arith, not-suc-le-zero, le_of_suc-le-suc, sym, ◌∙◌, ap}
use mathlib.Core.List.{List, [], ◌∷◌, ◌++◌, map, flat_map, append_assoc}
use mathlib.Core.List.Permᴰ
use mathlib.Core.List.{Permᴰ}
use Rattle.rules.specs.Lists.{keep, put_if, count, without}
use Rattle.rules.specs.laws.All.{All, more, Mem, all_member, all_members, flat_append}
use Rattle.rules.specs.laws.Lists.{Distinct, d_more}

pub all_reordered : {A : Type 0} {P : A → Type 0} {xs ys : List A} → Permᴰ xs ys → All P xs → All P ys
all_reordered Permᴰ.nil a = a
all_reordered (Permᴰ.cons e p) (more h a) = more (rw e at h) (all_reordered p a)
all_reordered (Permᴰ.swap e f) (more h (more k a)) = more (rw f at k) (more (rw e at h) a)
all_reordered (Permᴰ.trans p q) a = all_reordered q (all_reordered p a)

pub mem_reordered : {A : Type 0} {x : A} {xs ys : List A} → Permᴰ xs ys → Mem x xs → Mem x ys
mem_reordered {ys = ys} p m = all_member (all_reordered (Permᴰ.symm p) (all_members ys λ y n. n)) m

pub map_reordered : {A B : Type 0} (g : A → B) {xs ys : List A} → Permᴰ xs ys → Permᴰ (map g xs) (map g ys)
map_reordered g Permᴰ.nil = Permᴰ.nil
map_reordered g (Permᴰ.cons e p) = Permᴰ.cons (ap g e) (map_reordered g p)
map_reordered g (Permᴰ.swap e f) = Permᴰ.swap (ap g e) (ap g f)
map_reordered g (Permᴰ.trans p q) = Permᴰ.trans (map_reordered g p) (map_reordered g q)

pub distinct_reordered : {xs ys : List ℕ} → Permᴰ xs ys → Distinct xs → Distinct ys
distinct_reordered Permᴰ.nil d = d
distinct_reordered (Permᴰ.cons e p) (d_more h d) = rw (← e) (d_more (all_reordered p h) (distinct_reordered p d))
distinct_reordered (Permᴰ.swap e f) (d_more (more n h) (d_more k d)) = rw (← e, ← f) (d_more (more (λ q. n (sym q)) k) (d_more h d))
distinct_reordered (Permᴰ.trans p q) d = distinct_reordered q (distinct_reordered p d)

pub keep_reordered : {A : Type 0} (f : A → Bool) {xs ys : List A} → Permᴰ xs ys → Permᴰ (keep f xs) (keep f ys)
unfolding keep
keep_reordered f Permᴰ.nil = Permᴰ.nil
keep_reordered f (Permᴰ.cons {a = x} {l₁ = xs} {l₂ = ys} e p) = rw (← e) (go (f x) (keep_reordered f p))
  where
    go : (b : Bool) → Permᴰ (keep f xs) (keep f ys) → Permᴰ (put_if b x (keep f xs)) (put_if b x (keep f ys))
    go true q = Permᴰ.cons refl q
    go false q = q
keep_reordered f (Permᴰ.swap {a = x} {b = y} {l = zs} e g) = rw (← e, ← g) (go (f x) (f y))
  where
    go : (b c : Bool) → Permᴰ (put_if b x (put_if c y (keep f zs))) (put_if c y (put_if b x (keep f zs)))
    go true true = Permᴰ.swap refl refl
    go true false = Permᴰ.refl _
    go false true = Permᴰ.refl _
    go false false = Permᴰ.refl _
keep_reordered f (Permᴰ.trans p q) = Permᴰ.trans (keep_reordered f p) (keep_reordered f q)

-- ---- the same in another order, written briefly
infix 30 ◌~◌
abbrev pub ◌~◌ : {A : Type 0} → List A → List A → Type 0
◌~◌ a b = Permᴰ a b

-- one reordering after another
infixl 29 ◌then◌
abbrev pub ◌then◌ : {A : Type 0} {a b c : List A} → a ~ b → b ~ c → a ~ c
◌then◌ p q = Permᴰ.trans p q

pub same : {A : Type 0} {a b : List A} → a ≡ b → a ~ b
same {a = a} e = rw (← e) (Permᴰ.refl a)

pub back : {A : Type 0} {a b : List A} → a ~ b → b ~ a
back p = Permᴰ.symm p

-- of two lists one after the other both, or the rear one
pub both : {A : Type 0} {a b c d : List A} → a ~ b → c ~ d → (a ++ c) ~ (b ++ d)
both {b = b} {c = c} p q = Permᴰ.append_right c p then Permᴰ.append_left b q

pub rear : {A : Type 0} (a : List A) {c d : List A} → c ~ d → (a ++ c) ~ (a ++ d)
rear a p = Permᴰ.append_left a p

-- of three lists the second in front of the first
pub swapped : {A : Type 0} (a b : List A) → (a ++ b) ~ (b ++ a)
swapped [] b = back (Permᴰ.append-nil b)
swapped (x ∷ a) b = Permᴰ.cons refl (swapped a b) then back (Permᴰ.middle x b a)

pub forth : {A : Type 0} (a b c : List A) → (a ++ (b ++ c)) ~ (b ++ (a ++ c))
forth a b c = same (sym (append_assoc a b c)) then Permᴰ.append_right c (swapped a b) then same (append_assoc b a c)

pub length_reordered : {A : Type 0} {a b : List A} → a ~ b → length a ≡ length b
length_reordered Permᴰ.nil = refl
length_reordered (Permᴰ.cons e d) = ap suc (length_reordered d)
length_reordered (Permᴰ.swap e f) = refl
length_reordered (Permᴰ.trans d e) = length_reordered d ∙ length_reordered e

pub flat_reordered : {A B : Type 0} (f : A → List B) {a b : List A} → a ~ b → flat_map f a ~ flat_map f b
unfolding flat_map
flat_reordered f Permᴰ.nil = Permᴰ.nil
flat_reordered f (Permᴰ.cons {a = x} e d) = rw (← e) (rear (f x) (flat_reordered f d))
flat_reordered f (Permᴰ.swap {a = x} {b = y} {l = l} e g) = rw (← e, ← g) (forth (f x) (f y) (flat_map f l))
flat_reordered f (Permᴰ.trans d e) = flat_reordered f d then flat_reordered f e

-- what is gathered from two lists one after the other, reordered as one
pub flat_both : {A B : Type 0} (f : A → List B) {xs : List A} (a b : List A) → xs ~ (a ++ b) → flat_map f xs ~ (flat_map f a ++ flat_map f b)
flat_both f a b p = flat_reordered f p then same (flat_append f a b)

pub count_reordered : {A : Type 0} (f : A → Bool) {a b : List A} → a ~ b → count f a ≡ count f b
unfolding count
count_reordered f Permᴰ.nil = refl
count_reordered f (Permᴰ.cons e d) = rw (e, count_reordered f d)
count_reordered f (Permᴰ.swap {a = x} {b = y} e g) = rw (← e, ← g) (omega arith)
count_reordered f (Permᴰ.trans d e) = count_reordered f d ∙ count_reordered f e

-- what isn't kept, and what is
pub keep-parts : {A : Type 0} (f : A → Bool) (xs : List A) → xs ~ (keep (λ x. not (f x)) xs ++ keep f xs)
unfolding keep
keep-parts f [] = Permᴰ.nil
keep-parts {A} f (x ∷ xs) = go (f x) (keep-parts f xs)
  where
    rest : List A
    rest = keep (λ x. not (f x)) xs

    go : (b : Bool) → xs ~ (rest ++ keep f xs) → (x ∷ xs) ~ (put_if (not b) x rest ++ put_if b x (keep f xs))
    go true r = Permᴰ.cons refl r then back (Permᴰ.middle x rest (keep f xs))
    go false r = Permᴰ.cons refl r

-- ---- one of a list taken out to the front, and another put in its place
pub picked : {A : Type 0} (xs : List A) (i : ℕ) (d : A) → i < length xs → xs ~ (get_or xs i d ∷ without xs i)
unfolding without
picked [] i d h = absurd (not-suc-le-zero h)
picked (x ∷ xs) zero d h = Permᴰ.refl (x ∷ xs)
picked (x ∷ xs) (suc i) d h = Permᴰ.cons refl (picked xs i d (le_of_suc-le-suc h)) then Permᴰ.swap refl refl

pub placed : {A : Type 0} (xs : List A) (i : ℕ) (y : A) → i < length xs → set xs i y ~ (y ∷ without xs i)
unfolding without
placed [] i y h = absurd (not-suc-le-zero h)
placed (x ∷ xs) zero y h = Permᴰ.refl (y ∷ xs)
placed (x ∷ xs) (suc i) y h = Permᴰ.cons refl (placed xs i y (le_of_suc-le-suc h)) then Permᴰ.swap refl refl
