-- A page of a tidy store as it is read. Assumes nothing.
use Rattle.std.proofs.Common.{ℕ, suc, ◌+◌, ◌-◌, ◌≤◌, ◌<◌, arith, ◌≡◌, refl, ◌∙◌, ap, Bool, true, false, ◌&&◌, ◌||◌, eqb, leb, List, length, add-one}
use Rattle.rules.specs.declared.PageNo.{PageNo}
use Rattle.rules.specs.declared.Entry.{Entry}
use Rattle.rules.specs.Boxes.{cover_of}
use Rattle.rules.specs.Store.{Page as Contents, child_of, Store, page_no, page_at, store_of}
use Rattle.rules.specs.Tree.{its_box, cover_page}
use Rattle.rules.specs.Sound.{same_box, filled, reached}
use Rattle.rules.specs.Lists.{every, from}
use Rattle.rules.specs.laws.All.{All, all_map}
use Rattle.std.specs.Prelude.{get_or}
use Rattle.page.specs.declared.Page.{Page}
use Rattle.page.specs.Struct.{contents, laid_page, struct_at}
use Rattle.page.specs.Laws.{laid_contents, laid_cover, struct_there}
use Rattle.std.proofs.lemmas.Bool.{le-leb}
use Rattle.tidy.specs.Tidy.{TidyWords}
use Rattle.tidy.specs.Laws.{pages_many}
use Rattle.walk.specs.Walk.{covered, page_holds, pages_hold, flagged, walks, tree_rules, ToWalk, Walked}
use Rattle.walk.specs.Decides.{tidy_few, clear, walk_decides}

module _ (w : List ℕ) (tidy : TidyWords w) where
  -- it is read as it is laid out
  pub page_as_laid : (at : PageNo) → struct_at w (get_or w 5 0) at ≡ laid_page (page_at (store_of w).pages at)
  page_as_laid at =
      let fit : All (λ (c : Contents). length c.places ≤ 8) (store_of w).pages = all_map tidy.pages λ c r. r.places_most in
      rw (tidy.same, pages_many w) at (struct_there (store_of w) fit at)

  pub covered_so : (e : Entry) → covered (store_of w).pages e ≡ same_box e.bounds (cover_of its_box (contents (laid_page (page_at (store_of w).pages (child_of e)))).places)
  unfolding covered cover_page
  covered_so e = rw (laid_cover (page_at (store_of w).pages (child_of e)) (tidy_few w tidy (child_of e)))

  pub filled_so : (at : PageNo)
      → filled (store_of w) at
      ≡ (leb 4 (length (page_at (store_of w).pages at).places) || (eqb at.0 (get_or w 2 0) && (eqb (page_at (store_of w).pages at).kind 1 || leb 2 (length (page_at (store_of w).pages at).places))))
  unfolding filled store_of
  filled_so at = rw (le-leb _ 8 (tidy_few w tidy at))

module _ (w : List ℕ) (tidy : TidyWords w) (at : PageNo) (g : Page) (read : g ≡ laid_page (page_at (store_of w).pages at)) where
  pub places_read : (used : List Entry) → used ≡ (contents g).places → used ≡ (page_at (store_of w).pages at).places
  places_read used so = so ∙ ap (λ (c : Contents). c.places) (ap contents read ∙ laid_contents _ (tidy_few w tidy at))

-- ---- page by page
-- the pages from i to p
unfoldable pub left_to_hold : Store → List Bool → ℕ → ℕ → Bool
left_to_hold s fs i p = every (λ n. page_holds s (get_or fs n false) (page_no n)) (from i (p - i))

module _ (s : Store) (fs : List Bool) where
  pub hold_first : left_to_hold s fs 0 (length s.pages) ≡ pages_hold s fs
  unfolding left_to_hold pages_hold
  hold_first = let all : length s.pages - 0 ≡ length s.pages = omega arith in rw all

  pub hold_more : (i p : ℕ) → i < p → left_to_hold s fs i p ≡ (page_holds s (get_or fs i false) (page_no i) && left_to_hold s fs (i + 1) p)
  unfolding left_to_hold from
  hold_more i p h = let left : p - i ≡ suc (p - (i + 1)) = omega arith in rw (left, add-one i)

  pub hold_none : (i p : ℕ) → p ≤ i → left_to_hold s fs i p ≡ true
  unfolding left_to_hold from
  hold_none i p h = let none : p - i ≡ 0 = omega arith in rw none

-- ---- the whole
module _ (w : List ℕ) (tidy : TidyWords w) (root : PageNo) (l : ℕ) (is-root : root ≡ page_no (get_or w 2 0)) (is-level : l ≡ get_or w 3 0) where
  root_so : root ≡ (store_of w).root
  unfolding store_of
  root_so = is-root

  level_so : l ≡ (store_of w).levels
  unfolding store_of
  level_so = is-level

  pub root_to_walk : ToWalk w l root clear
  root_to_walk =
      record {
        level = rw level_so tidy.header.levels_least;
        inside = rw root_so tidy.header.root_page;
        flags = refl;
      }

  module _ (r : Bool) (after : List Bool) (walked : Walked (store_of w).pages l root clear r after) where
    told : r ≡ walks (store_of w).pages (store_of w).levels (store_of w).root clear
    told = rw (root_so, level_so) at walked.told

    pub tree_not : r ≡ false → r ≡ tree_rules (store_of w)
    tree_not e = e ∙ rw (← told, e) at (walk_decides w tidy)

    pub tree_so : (q : Bool) → r ≡ true → q ≡ pages_hold (store_of w) after → q ≡ tree_rules (store_of w)
    unfolding reached
    tree_so q e f =
        let flags : after ≡ flagged (reached (store_of w)) clear = rw (root_so, level_so) at (walked.marked e) in
        f ∙ rw flags (rw (← told, e) at (walk_decides w tidy))
