-- What the leaves hold is what a tree's atoms say: gathered over the pages, or over the tree.
use Prim.Native.Nat.{ℕ, zero, suc, ◌+◌}
use Rattle.std.proofs.Common.{arith, zero-add, add-zero, ◌∙◌, eqb-true, ne_eqb}
use Rattle.std.specs.Prelude.{◌≡◌, Bool, true, false, length, get_or}
use Rattle.std.proofs.Math.Path.{refl, sym, ap, ap₂}
use mathlib.Core.List.{List, [], ◌∷◌, ◌++◌, map, flat_map, append-nil}
use Rattle.rules.specs.declared.PageNo.{PageNo}
use Rattle.rules.specs.declared.Stamp.{Stamp}
use Rattle.rules.specs.declared.Entry.{Entry}
use Rattle.rules.specs.Lists.{from, keep, put_if}
use Rattle.rules.specs.Store.{Page, page_no, free_page, page_at}
use Rattle.rules.specs.Sound.{is_free, is_leaf}
use Rattle.rules.specs.laws.All.{All, none, more, all_map, all_zip, all_append, flat_all, flat_append, flat_flat, flat_cong}
use Rattle.rules.specs.laws.Lists.{all_from}
use Rattle.rules.specs.laws.Order.{◌~◌, ◌then◌, same, back, all_reordered, flat_reordered}
use Rattle.theorems.specs.Leaves.{MarkedEntry, with_mark, leaves, leaf_entries, marked, leaf_marks}
use Rattle.theorems.specs.tree.Items.{Item, no_mark, Atom, page, entry, mark_at, atoms, atoms_of, number_of, numbers, entry_of, entries}
use Rattle.theorems.specs.tree.Pages.{used_inside, frees, frees_inside}
use Rattle.theorems.specs.tree.Stands.{kind_at, page_of, same_places, Stands}
use Rattle.theorems.specs.tree.Laid.{Top, atoms_top, Laid, laid_once}
use Rattle.theorems.specs.tree.Descent.{numbers_leaf, entries_leaf}

-- ---- gathered over the pages that are kept, or over the numbers of all
flat_kept : {A B : Type 0} (h : A → List B) (f : A → Bool) (xs : List A) → flat_map h (keep f xs) ≡ flat_map (λ x. flat_map h (put_if (f x) x [])) xs
unfolding flat_map keep
flat_kept h f [] = refl
flat_kept {A} {B} h f (x ∷ xs) = go (f x) ∙ ap (λ r. flat_map h (put_if (f x) x []) ++ r) (flat_kept h f xs)
  where
    go : (b : Bool) → flat_map h (put_if b x (keep f xs)) ≡ flat_map h (put_if b x []) ++ flat_map h (keep f xs)
    go true = ap (λ r. r ++ flat_map h (keep f xs)) (sym (append-nil (h x)))
    go false = refl

flat_from : {A B : Type 0} (f : A → List B) (d : A) (i : ℕ) (g : ℕ → List B) (xs : List A) → ((n : ℕ) → g (i + n) ≡ f (get_or xs n d)) → flat_map g (from i (length xs)) ≡ flat_map f xs
unfolding flat_map from
flat_from f d i g [] e = refl
flat_from f d i g (x ∷ xs) e =
    ap₂ (λ u v. u ++ v) (ap g (sym (add-zero i)) ∙ e 0)
    (flat_from f d (suc i) g xs λ n. ap g (let z : suc i + n ≡ i + suc n = omega arith in z) ∙ e (suc n))

-- what h gathers from each leaf, and k from each atom
module _ {B : Type 0} (ps : List Page) (h : Page → List B) (k : Atom → List B)
    (leaf : (t : Item 1) → h (page_of 0 t) ≡ flat_map k (atoms_of 0 t)) (inner : (l : ℕ) (p : PageNo) → k (page (suc l) p no_mark) ≡ []) where
  its_leaf : Page → List B
  its_leaf g = flat_map h (put_if (is_leaf g) g [])

  by_number : ℕ → List B
  by_number n = its_leaf (page_at ps (page_no n))

  numbers_flat : (l : ℕ) (m : Stamp) (t : Item (suc l)) → Stands ps (suc l) t → flat_map by_number (numbers (atoms (suc l) m t)) ≡ flat_map k (atoms (suc l) m t)
  unfolding flat_map atoms by_number its_leaf page_of
  numbers_flat zero m t s =
      ap (λ z. by_number t.no.0 ++ flat_map by_number z) (numbers_leaf t.mark t.items)
      ∙ append-nil (by_number t.no.0)
      ∙ ap its_leaf s.0
      ∙ append-nil (h (page_of 0 t))
      ∙ leaf t
  numbers_flat (suc l) m t s =
      let A : Item (suc l) → List Atom = atoms (suc l) no_mark in
      let N : Atom → List B = λ a. flat_map by_number (number_of a) in
      let below : flat_map by_number (numbers (flat_map A t.items)) ≡ flat_map k (flat_map A t.items) =
      flat_flat by_number number_of (flat_map A t.items)
      ∙ flat_flat N A t.items
      ∙ flat_cong (λ c. flat_map N (A c)) (λ c. flat_map k (A c)) (all_map s.1 λ c r. sym (flat_flat by_number number_of (A c)) ∙ numbers_flat l no_mark c r)
      ∙ sym (flat_flat k A t.items) in
      ap₂ (λ u v. u ++ v) (ap its_leaf s.0 ∙ sym (inner l t.no)) below

  none_from_free : {ns : List ℕ} → All (λ n. by_number n ≡ []) ns → flat_map by_number ns ≡ []
  unfolding flat_map
  none_from_free none = refl
  none_from_free (more e a) = rw (e, none_from_free a)

  -- over the leaves among the pages, or over the tree
  leaves_flat : (T : Top) → Laid ps T [] → flat_map h (leaves ps) ~ flat_map k (atoms_top T)
  unfolding page_at by_number its_leaf flat_map
  leaves_flat T L =
      let free : All (λ n. by_number n ≡ []) (frees ps) = all_map (frees_inside ps) λ n f. ap its_leaf (L.clear n f.0) in
      same (flat_kept h is_leaf ps ∙ sym (flat_from its_leaf free_page 0 by_number ps λ n. ap by_number (zero-add n)))
      then flat_reordered by_number (back (laid_once ps T L))
      then same (flat_append by_number (frees ps) (numbers (atoms_top T)) ∙ ap₂ (λ u v. u ++ v) (none_from_free free) (numbers_flat T.depth no_mark T.tree L.stands))

-- ---- marked entries, marks and entries of atoms
abbrev pub marked_of : Atom → List MarkedEntry
marked_of (page l p m) = []
marked_of (entry m e) = with_mark m e ∷ []

abbrev pub leaf_mark_of : Atom → List Stamp
leaf_mark_of (page zero p m) = m ∷ []
leaf_mark_of (page (suc l) p m) = []
leaf_mark_of (entry m e) = []

-- a leaf's entries have its mark
pub marked_leaf : (m : Stamp) (es : List Entry) → map (with_mark m) es ≡ flat_map marked_of (flat_map (atoms 0 m) es)
unfolding atoms flat_map
marked_leaf m [] = refl
marked_leaf m (e ∷ es) = ap (λ r. with_mark m e ∷ r) (marked_leaf m es)

-- and have no leaf's mark among them
pub marks_leaf : (m : Stamp) (es : List Entry) → flat_map leaf_mark_of (flat_map (atoms 0 m) es) ≡ []
unfolding atoms flat_map
marks_leaf m [] = refl
marks_leaf m (e ∷ es) = marks_leaf m es

-- the entries without their marks
pub unmarked : (xs : List Atom) → map (λ k. k.entry) (flat_map marked_of xs) ≡ entries xs
unfolding flat_map
unmarked [] = refl
unmarked (page l p m ∷ xs) = unmarked xs
unmarked (entry m e ∷ xs) = ap (λ r. e ∷ r) (unmarked xs)

module _ (ps : List Page) (T : Top) (L : Laid ps T []) where
  -- the entries in the leaves
  pub entries_laid : leaf_entries ps ~ entries (atoms_top T)
  unfolding leaf_entries page_of atoms flat_map
  entries_laid = leaves_flat ps (λ g. g.places) entry_of (λ t. entries_leaf t.mark t.items) (λ l p. refl) T L

  -- the same with their marks
  pub marked_laid : marked ps ~ flat_map marked_of (atoms_top T)
  unfolding marked page_of atoms flat_map
  marked_laid = leaves_flat ps (λ g. map (with_mark g.mark) g.places) marked_of (λ t. ap (map (with_mark t.mark)) (same_places t.items) ∙ marked_leaf t.mark t.items) (λ l p. refl) T L

  -- the leaves' marks
  pub marks_laid : leaf_marks ps ~ flat_map leaf_mark_of (atoms_top T)
  unfolding leaf_marks page_of atoms flat_map
  marks_laid = leaves_flat ps (λ g. g.mark ∷ []) leaf_mark_of (λ t. ap (λ r. t.mark ∷ r) (sym (marks_leaf t.mark t.items))) (λ l p. refl) T L

-- ---- what an atom says of the pages
abbrev pub Says : List Page → Atom → Type 0
Says ps (page l p m) = ((page_at ps p).kind ≡ kind_at l) × ((page_at ps p).mark ≡ m)
Says ps (entry m e) = Unit {0}

-- what stands in the pages is said of them by its atoms
pub stands_says : (ps : List Page) (l : ℕ) (m : Stamp) (t : Item l) → Stands ps l t → All (Says ps) (atoms l m t)
unfolding atoms page_of
stands_says ps zero m t s = more tt none
stands_says ps (suc l) m t s =
    let a : Says ps (page l t.no (mark_at l t.mark)) = (ap (λ g. g.kind) s.0, ap (λ g. g.mark) s.0) in
    more a (flat_all (atoms l t.mark) (all_map s.1 λ c r. stands_says ps l t.mark c r))

-- a leaf among other pages, where its number is not set aside by P
abbrev pub SaysLeaf : List Page → (ℕ → Type 0) → Atom → Type 0
SaysLeaf qs P (page zero p m) = P p.0 → Says qs (page 0 p m)
SaysLeaf qs P (page (suc l) p m) = Unit {0}
SaysLeaf qs P (entry m e) = Unit {0}

-- what is said of all pages is said of leaves
pub says_leaf : (qs : List Page) (P : ℕ → Type 0) (a : Atom) → Says qs a → SaysLeaf qs P a
says_leaf qs P (page zero p m) h = λ own. h
says_leaf qs P (page (suc l) p m) h = tt
says_leaf qs P (entry m e) h = tt

-- where each leaf of the tree is said to be one of other pages too, with its mark, it is so of each leaf of the pages
pub leaf_kept : (ps qs : List Page) (T : Top) (P : ℕ → Type 0) → Laid ps T [] → All (SaysLeaf qs P) (atoms_top T)
    → (p : PageNo) → P p.0 → (page_at ps p).kind ≡ 1 → ((page_at qs p).kind ≡ 1) × ((page_at qs p).mark ≡ (page_at ps p).mark)
leaf_kept ps qs T P L a p own k =
    all_from 0 (length ps) (all_reordered (laid_once ps T L) (all_append free tree)) p.0 (omega arith) (omega (arith, used_inside ps p used)) own k
  where
    Stays : ℕ → Type 0
    Stays n = P n → (page_at ps (page_no n)).kind ≡ 1 → ((page_at qs (page_no n)).kind ≡ 1) × ((page_at qs (page_no n)).mark ≡ (page_at ps (page_no n)).mark)

    used : is_free (page_at ps p) ≡ false
    used = ne_eqb _ _ (λ (z : (page_at ps p).kind ≡ 0). omega arith)

    free : All Stays (frees ps)
    free = all_map (frees_inside ps) λ n f own k. absurd (let z : (page_at ps (page_no n)).kind ≡ 0 = eqb-true _ _ f.0 in omega arith)

    of_atom : (z : Atom) → Says ps z → SaysLeaf qs P z → All Stays (number_of z)
    of_atom (page zero p m) s h = let z : Stays p.0 = λ own k. ((h own).0, (h own).1 ∙ sym s.1) in more z none
    of_atom (page (suc l) p m) s h = let z : Stays p.0 = λ own k. absurd (omega (arith, s.0)) in more z none
    of_atom (entry m e) s h = none

    tree : All Stays (numbers (atoms_top T))
    tree = flat_all number_of (all_zip (stands_says ps (suc T.depth) no_mark T.tree L.stands) a of_atom)
