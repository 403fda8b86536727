-- Taking out along a path in the flat pages does what taking out in the tree does.
use Prim.Native.Nat.{ℕ, zero, suc, ◌<◌}
use Rattle.std.specs.Prelude.{◌≡◌, Bool, true, cond, ltb, length, set}
use Rattle.std.proofs.Math.Path.{refl, sym, subst, ap, ap₂}
use Rattle.std.proofs.Common.{◌∙◌}
use Rattle.std.proofs.Math.Bool.{false}
use mathlib.Core.List.{List, [], ◌∷◌, ◌++◌, map, flat_map, map-append, map-map}
use Rattle.std.proofs.Math.ListN.{get_or}
use Rattle.rules.specs.declared.PageNo.{PageNo}
use Rattle.rules.specs.declared.Stamp.{Stamp}
use Rattle.rules.specs.declared.Entry.{Entry}
use Rattle.rules.specs.Lists.{without}
use Rattle.rules.specs.Store.{Page, free_page, page_at, put_page}
use Rattle.rules.specs.Cleaning.{Trimmed, trimmed_below}
use Rattle.rules.specs.Sound.{is_free}
use Rattle.rules.specs.laws.All.{All, none, more, head_of, tail_of, all_map, all_zip, all_append, all_front, all_back, always}
use Rattle.rules.specs.laws.Lists.{Distinct}
use Rattle.rules.specs.laws.Order.{◌~◌, back, all_reordered, distinct_reordered, flat_reordered, flat_both, picked, placed}
use Rattle.theorems.specs.tree.Numbers.{Off, head_off, distinct_tail, distinct_front, distinct_back, distinct_cross}
use Rattle.theorems.specs.tree.Items.{Item, no_mark, with_items, no_node, Atom, number_of, atoms, atoms_of, numbers}
use Rattle.theorems.specs.tree.Pages.{page_other, page_same, used_inside}
use Rattle.theorems.specs.tree.Stands.{place, page_of, same_places, Stands, all_numbers, stands_frame, kind_used, spared}
use Rattle.theorems.specs.tree.PutStands.{Beside}
use Rattle.theorems.specs.tree.Trim.{loose, Along, leaf_at, Cut, cut_out, cut_stay, cut, cut_number}
use Rattle.theorems.specs.tree.TrimAtoms.{cut-atoms}
use Rattle.theorems.specs.tree.TrimPages.{loose_atoms, orphan, BesideLoose, spared_loose, cut-numbers, Changed, unchanged, write_used, write_free, Trims, finish, out_flat, stay_flat, trimmed_flat}

either_both : {A B : Type 0} (P : A → B → Type 0) (b : Bool) {x y : A} {u v : B} → P x u → P y v → P (cond b x y) (cond b u v)
either_both P true h k = h
either_both P false h k = k

-- of the numbers of an item the mark given says nothing
numbers_mark_all : (l : ℕ) (a b : Stamp) {P : ℕ → Type 0} {xs : List (Item l)} → All (λ x. All P (numbers (atoms l a x))) xs → All (λ x. All P (numbers (atoms l b x))) xs
unfolding atoms flat_map
numbers_mark_all zero a b h = all_map h λ x k. none
numbers_mark_all (suc l) a b h = h

besides : (qs : List Page) (p : PageNo) (d : ℕ) {xs : List (Item d)} → All (Stands qs d) xs → All (λ x. Off p.0 (numbers (atoms d no_mark x))) xs → All (BesideLoose qs p) (map (loose d) xs)
besides qs p d none none = none
besides qs p d (more {x = x} h a) (more k b) = let z : BesideLoose qs p (loose d x) = (h, k) in more z (besides qs p d a b)

-- ---- a page after its child c has been cut to r, in the flat pages F
module _ (d : ℕ) (ps : List Page) (t : Item (suc (suc d))) (i : ℕ) (c : Item (suc d)) (r : Cut d) (F : Trimmed)
    (pick : t.items ~ (c ∷ without t.items i)) (place_in : set t.items i r.page ~ (r.page ∷ without t.items i))
    (st : Stands ps (suc (suc d)) t) (di : Distinct (numbers (atoms_of (suc d) t))) (ih : Trims d ps c r F) (num : r.page.no ≡ c.no)
    (parts : numbers (atoms_of d c) ~ (numbers r.lost ++ (numbers (atoms_of d r.page) ++ numbers (flat_map loose_atoms r.loose)))) where
  abbrev w : List (Item (suc d))
  w = without t.items i

  abbrev A : Item (suc d) → List Atom
  A = atoms (suc d) no_mark

  abbrev ns : List ℕ
  ns = numbers (flat_map A t.items)

  abbrev qs : List Page
  qs = F.pages

  abbrev waits : List ℕ
  waits = numbers (flat_map loose_atoms r.loose)

  its_numbers : ns ~ (numbers (A c) ++ numbers (flat_map A w))
  unfolding flat_map
  its_numbers = flat_both number_of (A c) (flat_map A w) (flat_reordered A pick)

  its_head : Off t.no.0 ns
  unfolding atoms flat_map
  its_head = head_off di

  its_tail : Distinct (numbers (A c) ++ numbers (flat_map A w))
  unfolding atoms flat_map
  its_tail = distinct_reordered its_numbers (distinct_tail di)

  off_child : Off t.no.0 (numbers (A c))
  off_child = all_front (numbers (A c)) (numbers (flat_map A w)) (all_reordered its_numbers its_head)

  off_left : Off t.no.0 (numbers (A r.page) ++ waits)
  off_left = all_back (numbers r.lost) _ (all_reordered parts off_child)

  up : is_free (page_at qs t.no) ≡ false
  up = ap is_free (ih.changed.others t.no.0 off_child ∙ st.0) ∙ kind_used (suc d) t

  siblings : All (Beside qs t.no (suc d) no_mark) w
  siblings =
      all_zip
      (all_zip (all_numbers A w (distinct_cross (numbers (A c)) _ its_tail)) (tail_of (all_reordered pick st.1)) λ s a b. stands_frame ps qs (suc d) no_mark s (all_map a λ z o. ih.changed.others z o) b)
      (all_numbers A w (all_back (numbers (A c)) _ (all_reordered its_numbers its_head)))
      λ s a b. (a, b)

  loose_beside : All (BesideLoose qs t.no) r.loose
  loose_beside = all_zip ih.loose (all_numbers loose_atoms r.loose (all_back (numbers (A r.page)) waits off_left)) λ z a b. (a, b)

  so_far : Changed ps (t.no.0 ∷ ns) (numbers r.lost) qs
  so_far =
      record {
        others = λ n o. ih.changed.others n (all_front (numbers (A c)) _ (all_reordered its_numbers (tail_of o)));
        free = ih.changed.free;
        clear = ih.changed.clear;
        long = ih.changed.long;
      }

  stays : Trims (suc d) ps t (cut_stay d t i r) (stay_flat d t i c.no r F)
  unfolding atoms flat_map
  stays =
      let fin = finish d ps qs (with_items t (set t.items i r.page)) r.loose ns (numbers r.lost) up so_far
      (all_reordered (back place_in) (more (ih.stand, all_front (numbers (A r.page)) waits off_left) siblings)) loose_beside in
      record { waiting = ih.waiting; stand = fin.stand; loose = fin.loose; changed = fin.changed }

  goes : Trims (suc d) ps t (cut_out d t i r) (out_flat d t i c.no r F)
  unfolding atoms flat_map
  goes =
      let p = t.no in
      let freed = put_page qs c.no free_page in
      let its = r.page.items in
      let B = atoms d r.page.mark in
      let used : is_free (page_at qs c.no) ≡ false = ap (λ z. is_free (page_at qs z)) (sym num) ∙ ap is_free ih.stand.0 ∙ kind_used d r.page in
      let apart = distinct_back (numbers r.lost) _ (distinct_reordered parts (distinct_front (numbers (A c)) _ its_tail)) in
      let off-items : Off c.no.0 (numbers (flat_map B its) ++ waits) = rw num at (head_off apart) in
      let off-siblings : Off c.no.0 (numbers (flat_map A w)) = all_back (numbers (flat_map (atoms d c.mark) c.items)) _ (head_off its_tail) in
      let beside : All (Beside freed p (suc d) no_mark) w =
      all_zip siblings (all_numbers A w off-siblings) λ z a b. (spared qs c.no free_page (suc d) no_mark z b a.0, a.1) in
      let loose1 : All (BesideLoose freed p) r.loose =
      all_zip loose_beside (all_numbers loose_atoms r.loose (all_back (numbers (flat_map B its)) _ off-items)) λ z a b. (spared_loose qs c.no free_page z (a.0, b), a.1) in
      let loose2 : All (BesideLoose freed p) (map (loose d) its) =
      besides freed p d
      (all_zip ih.stand.1 (numbers_mark_all d r.page.mark no_mark (all_numbers B its (all_front (numbers (flat_map B its)) _ off-items))) λ z a b. spared qs c.no free_page d no_mark z b a)
      (numbers_mark_all d r.page.mark no_mark (all_numbers B its (tail_of (all_front (numbers (A r.page)) waits off_left)))) in
      let up2 : is_free (page_at freed p) ≡ false = ap is_free (page_other qs c.no free_page p.0 (λ e. head_of off_child (sym e))) ∙ up in
      let changed : Changed ps (p.0 ∷ ns) (r.page.no.0 ∷ numbers r.lost) freed =
      subst (λ z. Changed ps (p.0 ∷ ns) (z.0 ∷ numbers r.lost) freed) (sym num)
      (write_free ps qs c.no (p.0 ∷ ns) (numbers r.lost) used (λ n o. head_of (all_front (numbers (A c)) _ (all_reordered its_numbers (tail_of o)))) so_far) in
      let fin = finish d ps freed (with_items t w) (r.loose ++ map (loose d) its) ns (r.page.no.0 ∷ numbers r.lost) up2 changed beside (all_append loose1 loose2) in
      record {
        waiting =
            ap₂ (λ u v. u ++ v) ih.waiting (map-map (λ e. record { level = suc d; place = e }) (place d) its ∙ sym (map-map orphan (loose d) its))
            ∙ sym (map-append orphan r.loose (map (loose d) its));
        stand = fin.stand;
        loose = fin.loose;
        changed = fin.changed;
      }

-- ---- the leaf, and up from it
module _ (f : List Entry → List Entry) (m : Stamp) where
  leaf_flat : (ps : List Page) (path : List ℕ) (t : Item 1) → page_at ps t.no ≡ page_of 0 t
      → trimmed_below f m zero ps path t.no ≡ record { pages = put_page ps t.no (page_of 0 (record { no = t.no; mark = m; items = f t.items })); orphans = [] }
  unfolding trimmed_below page_of
  leaf_flat ps path t e = rw (e, same_places t.items, same_places (f t.items))

  leaf_trims : (ps : List Page) (path : List ℕ) (t : Item 1) → Stands ps 1 t → Trims 0 ps t (cut f m 0 path t) (trimmed_below f m 0 ps path t.no)
  unfolding cut atoms flat_map
  leaf_trims ps path t st =
      let u : Item 1 = record { no = t.no; mark = m; items = f t.items } in
      let used : is_free (page_at ps t.no) ≡ false = ap is_free st.0 ∙ kind_used 0 t in
      let ns = numbers (flat_map (atoms 0 t.mark) t.items) in
      rw (leaf_flat ps path t st.0)
      (record {
        waiting = refl;
        stand = (page_same ps t.no (page_of 0 u) (used_inside ps t.no used), always (λ e. tt) (f t.items));
        loose = none;
        changed = write_used ps ps t.no ns [] (page_of 0 u) used (kind_used 0 u) (unchanged ps (t.no.0 ∷ ns));
      })

  child_distinct : (d i : ℕ) (t : Item (suc (suc d))) → i < length t.items → Distinct (numbers (atoms_of (suc d) t)) → Distinct (numbers (atoms_of d (get_or t.items i no_node)))
  unfolding atoms flat_map
  child_distinct d i t h di =
      let c = get_or t.items i no_node in
      let A : Item (suc d) → List Atom = atoms (suc d) no_mark in
      distinct_front (numbers (A c)) (numbers (flat_map A (without t.items i)))
      (distinct_reordered (flat_both number_of (A c) (flat_map A (without t.items i)) (flat_reordered A (picked t.items i no_node h))) (distinct_tail di))

  next_trims : (d : ℕ) (ps : List Page) (i : ℕ) (path : List ℕ) (t : Item (suc (suc d))) → Along (suc d) (i ∷ path) t → Stands ps (suc (suc d)) t → Distinct (numbers (atoms_of (suc d) t)) →
      let c = get_or t.items i no_node in Trims d ps c (cut f m d path c) (trimmed_below f m d ps path c.no)
      → Trims (suc d) ps t (cut f m (suc d) (i ∷ path) t) (trimmed_below f m (suc d) ps (i ∷ path) t.no)
  unfolding cut
  next_trims d ps i path t al st di ih =
      let c = get_or t.items i no_node in
      let r = cut f m d path c in
      let F = trimmed_below f m d ps path c.no in
      let num : r.page.no ≡ c.no = cut_number f m d path c in
      let pick = picked t.items i no_node al.0 in
      let place_in = placed t.items i r.page al.0 in
      let parts = cut-numbers f m d c (leaf_at d path c) r (cut-atoms f m d path c al.1) in
      rw (trimmed_flat f m d ps i path t c.no r st.0 refl num ih.stand.0)
      (either_both (Trims (suc d) ps t) (ltb (length r.page.items) 4)
      (goes d ps t i c r F pick place_in st di ih num parts) (stays d ps t i c r F pick place_in st di ih num parts))

  -- so it is for every path that leads to a leaf
  pub cut_trims : (d : ℕ) (ps : List Page) (path : List ℕ) (t : Item (suc d)) → Along d path t → Stands ps (suc d) t → Distinct (numbers (atoms_of d t))
      → Trims d ps t (cut f m d path t) (trimmed_below f m d ps path t.no)
  cut_trims zero ps path t al st di = leaf_trims ps path t st
  cut_trims (suc d) ps [] t al st di = absurd al
  cut_trims (suc d) ps (i ∷ path) t al st di =
      next_trims d ps i path t al st di
      (cut_trims d ps path (get_or t.items i no_node) al.1 (head_of (all_reordered (picked t.items i no_node al.0) st.1)) (child_distinct d i t al.0 di))
