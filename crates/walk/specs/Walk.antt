-- What a walk over pages with one flag a page comes to.
use Rattle.std.specs.Prelude.{ℕ, ◌≤◌, ◌<◌, ◌≡◌, Bool, true, false, not, ◌&&◌, ◌||◌, eqb, length, get_or, set, drop}
use mathlib.Core.List.{List, [], ◌∷◌, flat_map}
use Rattle.rules.specs.declared.PageNo.{PageNo}
use Rattle.rules.specs.declared.Entry.{Entry}
use Rattle.rules.specs.Lists.{all_of, one_if, every, from}
use Rattle.rules.specs.Store.{Page, Store, page_no, child_of, page_at, store_of}
use Rattle.rules.specs.Tree.{cover_page}
use Rattle.rules.specs.Cleaning.{reached_under}
use Rattle.rules.specs.Sound.{is_free, is_inner, levelled, filled, same_box, rule1, rule2, rule3}

-- the flags once these pages have been visited, and whether none of them was flagged when its turn came
unfoldable pub flagged : List PageNo → List Bool → List Bool
flagged [] fs = fs
flagged (p ∷ ps) fs = flagged ps (set fs p.0 true)

unfoldable pub all_new : List PageNo → List Bool → Bool
all_new [] fs = true
all_new (p ∷ ps) fs = not (get_or fs p.0 false) && all_new ps (set fs p.0 true)

-- the pages under page p, at this level, are as they should be and are visited once
unfoldable pub walks : List Page → ℕ → PageNo → List Bool → Bool
walks ps l p fs = levelled ps l p && all_new (reached_under ps l p) fs

-- and so are those under several places, at this level
unfoldable pub reached_all : List Page → ℕ → List Entry → List PageNo
reached_all ps l es = flat_map (λ e. reached_under ps l (child_of e)) es

unfoldable pub walks_all : List Page → ℕ → List Entry → List Bool → Bool
walks_all ps l es fs = every (λ e. levelled ps l (child_of e)) es && all_new (reached_all ps l es) fs

-- ---- what each page is held to once the walk is done
-- an inner place's box is the smallest that covers its child's places
unfoldable pub covered : List Page → Entry → Bool
covered ps e = same_box e.bounds (cover_page ps (child_of e))

-- a page was reached exactly if it isn't free; then it is filled, and covers its children if it is inner
unfoldable pub page_holds : Store → Bool → PageNo → Bool
page_holds s reached p =
    let g = page_at s.pages p in
    all_of
    (eqb (one_if reached) (one_if (not (is_free g)))
    ∷ (is_free g || filled s p)
    ∷ (not (is_inner g) || every (covered s.pages) g.places)
    ∷ [])

unfoldable pub pages_hold : Store → List Bool → Bool
pages_hold s fs = every (λ n. page_holds s (get_or fs n false) (page_no n)) (from 0 (length s.pages))

-- rules 1, 2 and 3
unfoldable pub tree_rules : Store → Bool
tree_rules s = all_of (rule1 s ∷ rule2 s ∷ rule3 s ∷ [])

-- ---- as promises
-- page p of the store with the words w, at a level, before a walk with 192 flags
pub record ToWalk (w : List ℕ) (l : ℕ) (p : PageNo) (fs : List Bool) : Type 0 where
  pub level : 1 ≤ l
  pub inside : p.0 < length (store_of w).pages
  pub flags : length fs ≡ 192

-- what a walk answers, and the flags that it leaves
pub record Walked (ps : List Page) (l : ℕ) (p : PageNo) (fs : List Bool) (r : Bool) (after : List Bool) : Type 0 where
  pub told : r ≡ walks ps l p fs
  pub marked : r ≡ true → after ≡ flagged (reached_under ps l p) fs
  pub flags : length after ≡ 192

-- the walk under a page's places es, at this level, with the places before i done
pub record Walking (ps : List Page) (l : ℕ) (es : List Entry) (before : List Bool) (n i : ℕ) (fs : List Bool) : Type 0 where
  pub few : i ≤ n
  pub so_far : walks_all ps l es before ≡ walks_all ps l (drop i es) fs
  pub marks : flagged (reached_all ps l es) before ≡ flagged (reached_all ps l (drop i es)) fs
  pub flags : length fs ≡ 192
