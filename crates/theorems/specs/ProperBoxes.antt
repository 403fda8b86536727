-- Every box of a sound store is proper: those in the leaves by the ranges, and those above them since a cover of proper boxes is proper.
use Prim.Native.Nat.{ℕ, zero, suc}
use Rattle.std.proofs.Common.{arith}
use Rattle.std.specs.Prelude.{◌≡◌, true, List}
use Rattle.rules.specs.declared.PageNo.{PageNo}
use Rattle.rules.specs.Store.{Page, Store, page_no, child_of, free_page, page_at}
use Rattle.rules.specs.Tree.{its_box, cover_page}
use Rattle.rules.specs.Cleaning.{reached_under}
use Rattle.rules.specs.Sound.{reached, sound}
use Rattle.rules.specs.Views.{ProperBox, Levelled, sound-holds}
use Rattle.rules.specs.laws.All.{All, none, more, all_map, all_zip, all_anywhere, all_append, all_places, all_unmapped, flat_all}
use Rattle.rules.specs.laws.Boxes.{cover_of_all_proper}
use Rattle.rules.specs.laws.Lists.{all_from}
use Rattle.rules.specs.laws.Order.{all_reordered}
use Rattle.theorems.specs.TreeSound.{tree_of-sound}
use Rattle.theorems.specs.Leaves.{leaf_entries, all_leaves}
use Rattle.theorems.specs.HeldLeaves.{held_in-leaves}
use Rattle.theorems.specs.tree.Items.{numbers}
use Rattle.theorems.specs.tree.Pages.{frees, frees_inside}
use Rattle.theorems.specs.tree.Laid.{atoms_top, laid_once}
use Rattle.theorems.specs.tree.Descent.{reached_all}
use Rattle.theorems.specs.tree.FromRules.{from-sound}

-- the boxes of a page's places are proper
abbrev Proper : Page → Type 0
Proper g = All (λ e. ProperBox e.bounds) g.places

module _ (ps : List Page) (leaf : All (λ g. g.kind ≡ 1 → Proper g) ps)
    (smallest : All (λ g. g.kind ≡ 2 → All (λ e. e.bounds ≡ cover_page ps (child_of e)) g.places) ps) where
  -- those of a page that stands at a level
  at_level : (l : ℕ) (p : PageNo) → Levelled ps l p → Proper (page_at ps p)
  unfolding page_at cover_page
  at_level zero p h = absurd h
  at_level (suc zero) p h = all_anywhere leaf p.0 free_page (λ k. none) h
  at_level (suc (suc l)) p h =
      all_zip h.1 (all_anywhere smallest p.0 free_page (λ k. none) h.0) λ e k b.
      rw b (cover_of_all_proper its_box (page_at ps (child_of e)).places (at_level (suc l) (child_of e) k))

  -- and of all pages under it
  under : (l : ℕ) (p : PageNo) → Levelled ps l p → All (λ q. Proper (page_at ps q)) (reached_under ps l p)
  unfolding reached_under
  under zero p h = none
  under (suc zero) p h = more (at_level 1 p h) none
  under (suc (suc l)) p h = more (at_level (suc (suc l)) p h) (flat_all _ (all_map h.1 λ e k. under (suc l) (child_of e) k))

-- a page is reached from the root, or free and so without places
pub boxes_proper : (s : Store) → sound s ≡ true → All (λ g. All (λ e. ProperBox e.bounds) g.places) s.pages
unfolding page_at leaf_entries reached
boxes_proper s e =
    let h = sound-holds s e in
    let R = tree_of-sound s e in
    let I = from-sound s R in
    let ps = s.pages in
    let leaf = all_leaves (λ g. g.places) ps (all_reordered (held_in-leaves s R) (all_map h.ranges.entries λ e r. r.proper)) in
    let used : All (λ q. Proper (page_at ps q)) (reached s) = under ps leaf h.rule3.smallest s.levels s.root h.rule1.leaves in
    let tree = all_unmapped page_no (numbers (atoms_top I.top)) (rw (reached_all s I.top I.root I.level I.laid.stands) at used) in
    let unused : All (λ n. Proper (page_at ps (page_no n))) (frees ps) = all_map (frees_inside ps) λ n f. rw (I.laid.clear n f.0) none in
    let every = all_reordered (laid_once ps I.top I.laid) (all_append unused tree) in
    all_places ps free_page λ i k. all_from 0 _ every i (omega arith) (omega arith)
