-- How many entries a full tree has, by its pages and by its levels: pages never run out, and five levels are enough.
use Rattle.std.specs.Prelude.{ℕ, zero, suc, ◌+◌, ◌*◌, ◌^◌, ◌≤◌, ◌≡◌, refl, length}
use Rattle.std.proofs.Common.{arith, mul-le-mul_right, ◌∙◌, ap, length-append}
use mathlib.Core.List.{List, [], ◌∷◌, ◌++◌, flat_map}
use Rattle.rules.specs.declared.Stamp.{Stamp}
use Rattle.rules.specs.declared.Entry.{Entry}
use Rattle.rules.specs.laws.All.{All, none, more, all_map, flat_append}
use Rattle.theorems.specs.tree.Items.{Item, Atom, atoms, number_of, entry_of, numbers, entries, Thick, Full}

-- how many pages, and how many entries
abbrev pub size : List Atom → ℕ
size xs = length (numbers xs)

abbrev pub weight : List Atom → ℕ
weight xs = length (entries xs)

-- both add up
size_append : (a b : List Atom) → size (a ++ b) ≡ size a + size b
size_append a b = ap length (flat_append number_of a b) ∙ length-append (numbers a) (numbers b)

pub weight_append : (a b : List Atom) → weight (a ++ b) ≡ weight a + weight b
weight_append a b = ap length (flat_append entry_of a b) ∙ length-append (entries a) (entries b)

-- what each has at least, all have together
pub sum_pages : {A : Type 0} (f : A → List Atom) {ts : List A} → All (λ t. 3 * size (f t) + 1 ≤ weight (f t)) ts
    → 3 * size (flat_map f ts) + length ts ≤ weight (flat_map f ts)
unfolding flat_map
sum_pages f none = omega arith
sum_pages f (more {x = t} {xs = ts} h a) =
    rw (size_append (f t) (flat_map f ts), weight_append (f t) (flat_map f ts)) (omega (arith, sum_pages f a))

-- a full item with n pages has at least 3n + 1 entries
pub pages_entries : (l : ℕ) (m : Stamp) (t : Item l) → Full l t → 3 * size (atoms l m t) + 1 ≤ weight (atoms l m t)
unfolding atoms flat_map
pages_entries zero m e h = omega arith
pages_entries (suc l) m t h = omega (arith, h.least, sum_pages (atoms l t.mark) (all_map h.each λ c f. pages_entries l t.mark c f))

-- a root with n places over full ones
root_pages : (n l : ℕ) (m : Stamp) (t : Item (suc l)) → Thick n (Full l) t → 3 * size (atoms (suc l) m t) + n ≤ weight (atoms (suc l) m t) + 3
unfolding atoms flat_map
root_pages n l m t h = omega (arith, h.least, sum_pages (atoms l t.mark) (all_map h.each λ c f. pages_entries l t.mark c f))

sum_levels : {A : Type 0} (k : ℕ) (f : A → List Atom) {ts : List A} → All (λ t. k ≤ weight (f t)) ts → length ts * k ≤ weight (flat_map f ts)
unfolding flat_map
sum_levels k f none = omega arith
sum_levels k f (more {x = t} {xs = ts} h a) = rw (weight_append (f t) (flat_map f ts)) (omega (arith, sum_levels k f a))

level_entries : (l : ℕ) (m : Stamp) (t : Item l) → Full l t → 4 ^ l ≤ weight (atoms l m t)
unfolding atoms flat_map
level_entries zero m e h = omega arith
level_entries (suc l) m t h =
    let s = sum_levels (4 ^ l) (atoms l t.mark) (all_map h.each λ c f. level_entries l t.mark c f) in
    omega (arith, mul-le-mul_right (4 ^ l) h.least)

root_levels : (n l : ℕ) (m : Stamp) (t : Item (suc l)) → Thick n (Full l) t → n * 4 ^ l ≤ weight (atoms (suc l) m t)
unfolding atoms flat_map
root_levels n l m t h =
    let s = sum_levels (4 ^ l) (atoms l t.mark) (all_map h.each λ c f. level_entries l t.mark c f) in
    omega (arith, mul-le-mul_right (4 ^ l) h.least)

leaf_size : (m : Stamp) (es : List Entry) → size (flat_map (atoms 0 m) es) ≡ 0
unfolding atoms flat_map
leaf_size m [] = refl
leaf_size m (e ∷ es) = leaf_size m es

-- ---- the root: a leaf may have any number of places, an inner root has at least n: two, or in the middle of a clean one
abbrev pub root_least : ℕ → ℕ → ℕ
root_least n zero = 0
root_least n (suc l) = n

-- where R pages wait with W entries, P pages are enough for 3P entries
pub room-waiting : (n l : ℕ) (m : Stamp) (t : Item (suc l)) (P R W : ℕ) → 1 ≤ n → Thick (root_least n l) (Full l) t
    → weight (atoms (suc l) m t) + W ≤ 3 * P → 3 * R ≤ W → 1 ≤ weight (atoms (suc l) m t) → size (atoms (suc l) m t) + R ≤ P
unfolding atoms flat_map
room-waiting n zero m t P R W low h w r one = omega (arith, leaf_size t.mark t.items)
room-waiting n (suc l) m t P R W low h w r one = omega (arith, root_pages n (suc l) m t h)

pow_pos : (n : ℕ) → 1 ≤ 4 ^ n
pow_pos zero = omega arith
pow_pos (suc n) = omega (arith, pow_pos n)

-- five levels are enough for the most entries that a store may hold
pub five_levels : (l : ℕ) (m : Stamp) (t : Item (suc l)) → Thick (root_least 2 l) (Full l) t → weight (atoms (suc l) m t) ≤ 576 → suc l ≤ 5
five_levels zero m t h w = omega arith
five_levels (suc zero) m t h w = omega arith
five_levels (suc (suc zero)) m t h w = omega arith
five_levels (suc (suc (suc zero))) m t h w = omega arith
five_levels (suc (suc (suc (suc zero)))) m t h w = omega arith
five_levels (suc (suc (suc (suc (suc l))))) m t h w = absurd (omega (arith, root_levels 2 (suc (suc (suc (suc (suc l))))) m t h, pow_pos l))
