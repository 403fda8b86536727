-- What a descent from the root reaches and holds, in the pages of a tree: the numbers and the entries of its atoms.
use Prim.Native.Nat.{ℕ, zero, suc}
use Rattle.std.specs.Prelude.{◌≡◌, refl, Bool, eqb}
use Rattle.std.proofs.Common.{sym, ◌∙◌}
use Rattle.std.proofs.Math.Path.{ap, ap₂}
use mathlib.Core.List.{List, [], ◌∷◌, ◌++◌, map, flat_map}
use Rattle.rules.specs.declared.PageNo.{PageNo}
use Rattle.rules.specs.declared.Stamp.{Stamp}
use Rattle.rules.specs.declared.Entry.{Entry}
use Rattle.rules.specs.Lists.{count}
use Rattle.rules.specs.Store.{Page, Store, page_no, child_of}
use Rattle.rules.specs.Live.{held_under, held}
use Rattle.rules.specs.Cleaning.{reached_under}
use Rattle.rules.specs.Sound.{reached}
use Rattle.rules.specs.Views.{Levelled}
use Rattle.rules.specs.laws.All.{All, none, more, all_map, all_mapped, flat_append}
use Rattle.theorems.specs.tree.Items.{Item, no_mark, Atom, page, entry, entry_of, atoms, numbers, entries}
use Rattle.theorems.specs.tree.Stands.{place, page_of, Stands}
use Rattle.theorems.specs.tree.Laid.{Top, atoms_top}

-- what is gathered over the places of a page is gathered over its items
flat_is : {X B : Type 0} (f : Entry → List B) (h : Atom → List B) (A : X → List Atom) (pl : X → Entry) {xs : List X}
    → All (λ c. f (pl c) ≡ flat_map h (A c)) xs → flat_map f (map pl xs) ≡ flat_map h (flat_map A xs)
unfolding flat_map
flat_is f h A pl none = refl
flat_is f h A pl (more {x = x} {xs = xs} e a) = ap₂ (λ u v. u ++ v) e (flat_is f h A pl a) ∙ sym (flat_append h (A x) (flat_map A xs))

page_no_of : Atom → List PageNo
page_no_of (page l p m) = p ∷ []
page_no_of (entry m e) = []

as_numbers : (xs : List Atom) → flat_map page_no_of xs ≡ map page_no (numbers xs)
unfolding flat_map page_no_of
as_numbers [] = refl
as_numbers (page l p m ∷ xs) = ap (λ r. p ∷ r) (as_numbers xs)
as_numbers (entry m e ∷ xs) = as_numbers xs

-- a leaf's entries have no page numbers
pub numbers_leaf : (m : Stamp) (es : List Entry) → numbers (flat_map (atoms 0 m) es) ≡ []
unfolding atoms flat_map
numbers_leaf m [] = refl
numbers_leaf m (e ∷ es) = numbers_leaf m es

-- and are the places of its page
pub entries_leaf : (m : Stamp) (es : List Entry) → map (place 0) es ≡ entries (flat_map (atoms 0 m) es)
unfolding atoms flat_map place
entries_leaf m [] = refl
entries_leaf m (e ∷ es) = ap (λ r. e ∷ r) (entries_leaf m es)

module _ (ps : List Page) where
  reached_nos : (l : ℕ) (m : Stamp) (t : Item (suc l)) → Stands ps (suc l) t → reached_under ps (suc l) t.no ≡ flat_map page_no_of (atoms (suc l) m t)
  unfolding reached_under atoms flat_map place page_of page_no_of
  reached_nos zero m t s = ap (λ r. t.no ∷ r) (sym (as_numbers (flat_map (atoms 0 t.mark) t.items) ∙ ap (map page_no) (numbers_leaf t.mark t.items)))
  reached_nos (suc l) m t s =
      rw s.0
      (ap (λ r. t.no ∷ r)
      (flat_is (λ e. reached_under ps (suc l) (child_of e)) page_no_of (atoms (suc l) no_mark) (place (suc l)) (all_map s.1 λ c r. reached_nos l no_mark c r)))

  -- the pages reached are the tree's
  pub reached_is : (l : ℕ) (m : Stamp) (t : Item (suc l)) → Stands ps (suc l) t → reached_under ps (suc l) t.no ≡ map page_no (numbers (atoms (suc l) m t))
  reached_is l m t s = reached_nos l m t s ∙ as_numbers (atoms (suc l) m t)

  -- the entries held are the tree's
  held_is : (l : ℕ) (m : Stamp) (t : Item (suc l)) → Stands ps (suc l) t → held_under ps (suc l) t.no ≡ entries (atoms (suc l) m t)
  unfolding held_under atoms flat_map place page_of
  held_is zero m t s = ap (λ g. g.places) s.0 ∙ entries_leaf t.mark t.items
  held_is (suc l) m t s =
      rw s.0
      (flat_is (λ e. held_under ps (suc l) (child_of e)) entry_of (atoms (suc l) no_mark) (place (suc l)) (all_map s.1 λ c r. held_is l no_mark c r))

  -- and the leaves stand at level 1
  pub levelled_is : (l : ℕ) (t : Item (suc l)) → Stands ps (suc l) t → Levelled ps (suc l) t.no
  unfolding page_of place
  levelled_is zero t s = rw s.0
  levelled_is (suc l) t s = rw s.0 (refl, all_mapped (place (suc l)) (all_map s.1 λ c r. levelled_is l c r))

-- ---- from the root of a store
count_map : {A B : Type 0} (f : B → Bool) (g : A → B) (xs : List A) → count f (map g xs) ≡ count (λ x. f (g x)) xs
unfolding count
count_map f g [] = refl
count_map f g (x ∷ xs) = rw (count_map f g xs)

module _ (s : Store) (T : Top) (er : s.root ≡ T.tree.no) (el : s.levels ≡ suc T.depth) (st : Stands s.pages (suc T.depth) T.tree) where
  -- all that is reached
  pub reached_all : reached s ≡ map page_no (numbers (atoms_top T))
  unfolding reached
  reached_all = ap₂ (reached_under s.pages) el er ∙ reached_is s.pages T.depth no_mark T.tree st

  -- how often a page is reached
  pub reached-count : (n : ℕ) → count (λ p. eqb n p.0) (reached s) ≡ count (eqb n) (numbers (atoms_top T))
  reached-count n = ap (count (λ p. eqb n p.0)) reached_all ∙ count_map (λ p. eqb n p.0) page_no (numbers (atoms_top T))

  -- all that is held
  pub held_all : held s ≡ entries (atoms_top T)
  unfolding held
  held_all = ap₂ (held_under s.pages) el er ∙ held_is s.pages T.depth no_mark T.tree st
