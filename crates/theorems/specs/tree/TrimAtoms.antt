-- What a tree is made of after taking out along a path: all but the leaf's page and entries is as it was, or waits, or is a page lost.
use Prim.Native.Nat.{ℕ, zero, suc, ◌<◌}
use Rattle.std.specs.Prelude.{◌≡◌, ltb, length}
use Rattle.std.proofs.Math.Path.{refl, ap}
use Rattle.std.proofs.Common.{sym, ◌∙◌}
use mathlib.Core.List.{List, [], ◌∷◌, ◌++◌, map, flat_map, append-nil, append_assoc}
use mathlib.Core.List.Permᴰ
use Rattle.std.proofs.Math.ListN.{get_or}
use Rattle.rules.specs.declared.PageNo.{PageNo}
use Rattle.rules.specs.declared.Stamp.{Stamp}
use Rattle.rules.specs.declared.Entry.{Entry}
use Rattle.rules.specs.Lists.{without}
use Rattle.rules.specs.laws.Tests.{either}
use Rattle.rules.specs.laws.All.{All, none, more, flat_append}
use Rattle.rules.specs.laws.Order.{◌~◌, ◌then◌, back, same, both, rear, forth, swapped, flat_reordered, picked, placed}
use Rattle.theorems.specs.tree.Items.{Item, no_mark, no_node, Atom, page, entry, atoms, atoms_of}
use Rattle.theorems.specs.tree.Trim.{loose, loose_entry, loose_page, Along, leaf_at, Cut, cut_out, cut_stay, cut}

-- a page lost is inner, or the leaf q
abbrev pub IsLost : PageNo → Atom → Type 0
IsLost q (page zero p m) = p ≡ q
IsLost q (page (suc l) p m) = Unit {0}
IsLost q (entry m e) = ⊥

-- q is the leaf at the path's end; `up` is all that isn't its own; of the entries that f leaves in it some stay, under the mark m, and the rest wait
pub record CutAtoms (f : List Entry → List Entry) (m : Stamp) (d : ℕ) (t : Item (suc d)) (q : Item 1) (r : Cut d) : Type 0 where
  pub up : List Atom
  pub stays : List Entry
  pub before : atoms_of d t ~ (flat_map (atoms 0 q.mark) q.items ++ (page 0 q.no q.mark ∷ up))
  pub after : (atoms_of d r.page ++ (r.lost ++ flat_map loose_page r.loose)) ~ (flat_map (atoms 0 m) stays ++ (page 0 q.no m ∷ up))
  pub kept : stays ++ flat_map loose_entry r.loose ≡ f q.items
  pub lost_pages : All (IsLost q.no) r.lost

sort_up : {A : Type 0} (p w s q u : List A) → (p ++ (w ++ (s ++ (q ++ u)))) ~ (s ++ (q ++ (p ++ (w ++ u))))
sort_up p w s q u =
    rear p (forth w s (q ++ u)) then forth p s (w ++ (q ++ u)) then rear s (rear p (forth w q u) then forth p q (w ++ u))

-- ---- items that wait
entries_wait : (es : List Entry) → flat_map loose_entry (map (loose 0) es) ≡ es
unfolding flat_map
entries_wait [] = refl
entries_wait (e ∷ es) = ap (λ r. e ∷ r) (entries_wait es)

entries_no_page : (es : List Entry) → flat_map loose_page (map (loose 0) es) ≡ []
unfolding flat_map
entries_no_page [] = refl
entries_no_page (e ∷ es) = entries_no_page es

pages_wait : (d : ℕ) (xs : List (Item (suc d))) → flat_map loose_page (map (loose (suc d)) xs) ≡ flat_map (atoms (suc d) no_mark) xs
unfolding flat_map
pages_wait d [] = refl
pages_wait d (x ∷ xs) = ap (λ r. atoms (suc d) no_mark x ++ r) (pages_wait d xs)

pages_no_entry : (d : ℕ) (xs : List (Item (suc d))) → flat_map loose_entry (map (loose (suc d)) xs) ≡ []
unfolding flat_map
pages_no_entry d [] = refl
pages_no_entry d (x ∷ xs) = pages_no_entry d xs

module _ (f : List Entry → List Entry) (m : Stamp) where
  -- ---- the leaf itself
  leaf_atoms : (path : List ℕ) (t : Item 1) → CutAtoms f m 0 t t (cut f m 0 path t)
  unfolding cut atoms flat_map
  leaf_atoms path t =
      let E = flat_map (atoms 0 t.mark) t.items in
      record {
        up = [];
        stays = f t.items;
        before = back (Permᴰ.middle (page 0 t.no t.mark) E [] then Permᴰ.cons refl (same (append-nil E)));
        after = back (Permᴰ.middle (page 0 t.no m) (flat_map (atoms 0 m) (f t.items)) []);
        kept = append-nil (f t.items);
        lost_pages = none;
      }

  -- ---- a page on the way
  module _ (d i : ℕ) (t : Item (suc (suc d))) (q : Item 1) (h : i < length t.items) where
    abbrev child : Item (suc d)
    child = get_or t.items i no_node

    abbrev its_atom : Atom
    its_atom = page (suc d) t.no no_mark

    abbrev siblings : List Atom
    siblings = flat_map (atoms (suc d) no_mark) (without t.items i)

    before_up : (up E : List Atom) (y : Atom) → atoms_of d child ~ (E ++ (y ∷ up)) → atoms_of (suc d) t ~ (E ++ (y ∷ (its_atom ∷ (siblings ++ up))))
    unfolding atoms flat_map
    before_up up E y b =
        rear (its_atom ∷ []) (flat_reordered (atoms (suc d) no_mark) (picked t.items i no_node h) then swapped (atoms_of d child) siblings then rear siblings b)
        then sort_up (its_atom ∷ []) siblings E (y ∷ []) up

    stay_atoms : (r : Cut d) → CutAtoms f m d child q r → CutAtoms f m (suc d) t q (cut_stay d t i r)
    unfolding atoms flat_map
    stay_atoms r C =
        let A : Item (suc d) → List Atom = atoms (suc d) no_mark in
        let X = r.lost ++ flat_map loose_page r.loose in
        let AR = atoms_of d r.page in
        let S = flat_map (atoms 0 m) C.stays in
        record {
          up = its_atom ∷ (siblings ++ C.up);
          stays = C.stays;
          before = before_up C.up (flat_map (atoms 0 q.mark) q.items) (page 0 q.no q.mark) C.before;
          after =
              rear (its_atom ∷ [])
              (both (flat_reordered A (placed t.items i r.page h) then swapped AR siblings) (Permᴰ.refl X)
              then same (append_assoc siblings AR X)
              then rear siblings C.after)
              then sort_up (its_atom ∷ []) siblings S (page 0 q.no m ∷ []) C.up;
          kept = C.kept;
          lost_pages = C.lost_pages;
        }

  -- a leaf taken out: its entries wait
  out_leaf_atoms : (i : ℕ) (path : List ℕ) (t : Item 2) → i < length t.items →
      let c = get_or t.items i no_node in CutAtoms f m 1 t c (cut_out 0 t i (cut f m 0 path c))
  unfolding cut atoms flat_map leaf_atoms
  out_leaf_atoms i path t h =
      let c = get_or t.items i no_node in
      let W = siblings 0 i t c h in
      let y = page 0 c.no m in
      record {
        up = its_atom 0 i t c h ∷ (W ++ []);
        stays = [];
        before = before_up 0 i t c h [] (flat_map (atoms 0 c.mark) c.items) (page 0 c.no c.mark) (leaf_atoms path c).before;
        after = same (ap (λ z. its_atom 0 i t c h ∷ (W ++ (y ∷ z))) (entries_no_page (f c.items))) then Permᴰ.middle y (its_atom 0 i t c h ∷ W) [];
        kept = entries_wait (f c.items);
        lost_pages = more refl none;
      }

  -- an inner page taken out: its child pages wait
  out_inner_atoms : (d i : ℕ) (t : Item (suc (suc (suc d)))) (q : Item 1) → i < length t.items → (r : Cut (suc d))
      → CutAtoms f m (suc d) (get_or t.items i no_node) q r → CutAtoms f m (suc (suc d)) t q (cut_out (suc d) t i r)
  unfolding atoms flat_map
  out_inner_atoms d i t q h r C =
      let W = siblings (suc d) i t q h in
      let p = its_atom (suc d) i t q h in
      let y = page (suc d) r.page.no no_mark in
      let RI = flat_map (atoms (suc d) no_mark) r.page.items in
      let LP = flat_map loose_page r.loose in
      let S = flat_map (atoms 0 m) C.stays in
      record {
        up = p ∷ (W ++ C.up);
        stays = C.stays;
        before = before_up (suc d) i t q h C.up (flat_map (atoms 0 q.mark) q.items) (page 0 q.no q.mark) C.before;
        after =
            same
            (ap (λ z. p ∷ (W ++ (y ∷ (r.lost ++ z)))) (flat_append loose_page r.loose (map (loose (suc d)) r.page.items) ∙ ap (λ z. LP ++ z) (pages_wait d r.page.items))
            ∙ ap (λ z. p ∷ (W ++ (y ∷ z))) (sym (append_assoc r.lost LP RI)))
            then rear (p ∷ W) (rear (y ∷ []) (swapped (r.lost ++ LP) RI) then C.after)
            then sort_up (p ∷ []) W S (page 0 q.no m ∷ []) C.up;
        kept =
            ap (λ z. C.stays ++ z)
            (flat_append loose_entry r.loose (map (loose (suc d)) r.page.items)
            ∙ ap (λ z. flat_map loose_entry r.loose ++ z) (pages_no_entry d r.page.items)
            ∙ append-nil (flat_map loose_entry r.loose))
            ∙ C.kept;
        lost_pages = more tt C.lost_pages;
      }

  -- so it is for every path that leads to a leaf
  pub cut-atoms : (d : ℕ) (path : List ℕ) (t : Item (suc d)) → Along d path t → CutAtoms f m d t (leaf_at d path t) (cut f m d path t)
  unfolding cut leaf_at
  cut-atoms zero path t al = leaf_atoms path t
  cut-atoms (suc zero) [] t al = absurd al
  cut-atoms (suc zero) (i ∷ path) t al =
      let c = get_or t.items i no_node in
      let r = cut f m 0 path c in
      either (CutAtoms f m 1 t c) (ltb (length r.page.items) 4) {x = cut_out 0 t i r} {y = cut_stay 0 t i r}
      (λ e. out_leaf_atoms i path t al.0) (λ e. stay_atoms 0 i t c al.0 r (leaf_atoms path c))
  cut-atoms (suc (suc d)) [] t al = absurd al
  cut-atoms (suc (suc d)) (i ∷ path) t al =
      let c = get_or t.items i no_node in
      let q = leaf_at (suc d) path c in
      let r = cut f m (suc d) path c in
      let ih = cut-atoms (suc d) path c al.1 in
      either (CutAtoms f m (suc (suc d)) t q) (ltb (length r.page.items) 4) {x = cut_out (suc d) t i r} {y = cut_stay (suc d) t i r}
      (λ e. out_inner_atoms d i t q al.0 r ih) (λ e. stay_atoms (suc d) i t q al.0 r ih)
