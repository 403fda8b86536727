-- The marks of a tree's leaves, and that an item put in brings no new one.
use Rattle.std.specs.Prelude.{ℕ, zero, suc}
use Rattle.std.proofs.Common.{arith}
use mathlib.Core.List.{List, flat_map}
use Rattle.rules.specs.declared.Stamp.{Stamp}
use Rattle.rules.specs.declared.Entry.{Entry}
use Rattle.rules.specs.laws.All.{All, none, more, head_of, all_map, all_append, all_flat, flat_all, Mem, all_members}
use Rattle.rules.specs.laws.Order.{back, all_reordered}
use Rattle.theorems.specs.tree.Items.{Item, Atom, page, entry, atoms}
use Rattle.theorems.specs.tree.PutAtoms.{New}
use Rattle.theorems.specs.tree.Laid.{Top, atoms_top}
use Rattle.theorems.specs.tree.PutTop.{Joined}
use Rattle.theorems.specs.tree.LeafAtoms.{leaf_mark_of}
use Rattle.theorems.specs.tree.Trim.{loose, loose_page}

-- a leaf's mark is among those of S
abbrev pub LeafIn : (Stamp → Type 0) → Atom → Type 0
LeafIn S (page zero p m) = S m
LeafIn S (page (suc l) p m) = Unit {0}
LeafIn S (entry m e) = Unit {0}

-- said of the list of marks
pub leaf_marks_in : (S : Stamp → Type 0) {xs : List Atom} → All (LeafIn S) xs → All S (flat_map leaf_mark_of xs)
leaf_marks_in S a = flat_all leaf_mark_of (all_map a of_atom)
  where
    of_atom : (a : Atom) → LeafIn S a → All S (leaf_mark_of a)
    of_atom (page zero p k) h = more h none
    of_atom (page (suc l) p k) h = none
    of_atom (entry k e) h = none

-- each is among the marks of the leaves
pub own_marks : (xs : List Atom) → All (LeafIn (λ k. Mem k (flat_map leaf_mark_of xs))) xs
own_marks xs = all_map (all_flat leaf_mark_of xs (all_members (flat_map leaf_mark_of xs) λ k h. h)) of_atom
  where
    of_atom : (a : Atom) → All (λ k. Mem k (flat_map leaf_mark_of xs)) (leaf_mark_of a) → LeafIn (λ k. Mem k (flat_map leaf_mark_of xs)) a
    of_atom (page zero p k) h = head_of h
    of_atom (page (suc l) p k) h = tt
    of_atom (entry k e) h = tt

-- and among more marks
pub leaf_in_more : (S R : Stamp → Type 0) → ((k : Stamp) → S k → R k) → (a : Atom) → LeafIn S a → LeafIn R a
leaf_in_more S R f (page zero p k) h = f k h
leaf_in_more S R f (page (suc l) p k) h = tt
leaf_in_more S R f (entry k e) h = tt

-- the leaf that an item of level 0 joins is an old one
pub joined_mark : (S : Stamp → Type 0) (e : Entry) (old : List Atom) (T : Top) (J : Joined 0 e old T) → All (LeafIn S) old → S J.mark
joined_mark S e old T J a = head_of (all_reordered J.there a)

-- so no leaf has a new mark
pub joined_leaves : (S : Stamp → Type 0) (k : ℕ) (x : Item k) (old : List Atom) (T : Top) → Joined k x old T → All (LeafIn S) (loose_page (loose k x)) → All (LeafIn S) old → All (LeafIn S) (atoms_top T)
unfolding atoms
joined_leaves S zero x old T J a b = all_reordered (back J.made) (all_append (all_map J.fresh of_new) (more tt b))
  where
    of_new : (z : Atom) → New 0 J.mark z → LeafIn S z
    of_new (page zero p m) h = rw h.1 (joined_mark S x old T J b)
    of_new (page (suc l) p m) h = tt
    of_new (entry m e) h = tt
joined_leaves S (suc k) x old T J a b = all_reordered (back J.made) (all_append (all_map J.fresh of_new) (all_append a b))
  where
    of_new : (z : Atom) → New (suc k) J.mark z → LeafIn S z
    of_new (page zero p m) h = absurd (omega (arith, h.0))
    of_new (page (suc l) p m) h = tt
    of_new (entry m e) h = tt
