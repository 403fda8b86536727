-- What cleaning asks of a store's words, what it leaves, and what waits meanwhile to be put back.
use Rattle.std.specs.Prelude.{ℕ, ◌*◌, ◌-◌, ◌≤◌, ◌≡◌, Bool, cond, Option, List, ◌++◌, map, ltb, length, get_or, set}
use Rattle.std.specs.List.{position}
use Rattle.rules.specs.declared.Stamp.{Stamp}
use Rattle.rules.specs.declared.PageNo.{PageNo}
use Rattle.rules.specs.declared.Entry.{Entry}
use Rattle.rules.specs.Lists.{keep, without}
use Rattle.rules.specs.Store.{Page as Contents, Store, child_of, free_page, no_place, page_at, put_page, store_of}
use Rattle.rules.specs.Memo.{is_latest}
use Rattle.rules.specs.Tree.{Tree, with_places, child_place}
use Rattle.rules.specs.Cleaning.{Orphan as Waiting, Trimmed, reached_under, among, path_to, trimmed_below}
use Rattle.rules.specs.Views.{MemoInRange, ProperBox}
use Rattle.rules.specs.laws.All.{All}
use Rattle.theorems.specs.LeafToClean.{Followed}
use Rattle.tree.specs.Putting.{Ready, page_count, Wrote}
use Rattle.page.specs.Struct.{contents}
use Rattle.trim.specs.declared.Orphan.{Orphan}
use Rattle.trim.specs.declared.parent.Parent.{Parent}

-- ---- what is asked for
-- the words of a store of p pages, whose memo can be looked up in
pub record Readable (p : ℕ) (w : List ℕ) : Type 0 where
  pub ready : Ready p w
  pub slots_most : (store_of w).slots ≤ 1_024
  pub memo : MemoInRange (store_of w).slots (store_of w).memo

-- those of a store of as many pages as it has
abbrev pub IsReadable : List ℕ → Type 0
IsReadable w = Readable (page_count w) w

-- ---- what a leaf keeps, and what it loses
-- page `at` with only those of its places that pass the test
abbrev pub page_kept : (Entry → Bool) → Store → PageNo → Contents
page_kept test s at = with_places (page_at s.pages at) (keep test (page_at s.pages at).places)

-- ---- the way to the leaf
-- whether page `at` at this level is q, or one of the pages under it is
abbrev pub leads_to : List Contents → ℕ → PageNo → PageNo → Bool
leads_to ps level q at = among q (reached_under ps level at)

-- the first of the places whose child at this level leads to q, where one does
abbrev pub way : List Contents → ℕ → PageNo → List Entry → Option ℕ
way ps level q es = position (λ e. leads_to ps level q (child_of e)) es

-- the path down to the leaf q, `depth` levels below page `at`, leads there: each of its places is one of its page's
pub record LeafBelow (w : List ℕ) (depth : ℕ) (at q : PageNo) : Type 0 where
  pub path : Followed (store_of w).pages depth at (path_to (store_of w).pages depth at q) q

-- ---- what waits
-- the rules' record of a struct, and of each that waits
abbrev pub waiting : Orphan → Waiting
waiting o = record { level = o.level; place = o.place }

abbrev pub held_by : List Orphan → List Waiting
held_by os = map waiting os

-- places of pages at this level
abbrev pub at_level : ℕ → Entry → Orphan
at_level level place = record { level = level; place = place }

abbrev pub wait_at : ℕ → List Entry → List Waiting
wait_at level es = map (λ e. record { level = level; place = e }) es

-- what can be put back: its box is proper, and there is a page at its level
pub record Placeable (levels : ℕ) (o : Waiting) : Type 0 where
  pub level_most : o.level ≤ levels
  pub proper : ProperBox o.place.bounds

-- at most three from each level
pub record Waits (levels : ℕ) (os : List Orphan) : Type 0 where
  pub few : length os ≤ 3 * levels
  pub placeable : All (λ o. Placeable levels (waiting o)) os

-- ---- taking out what is thin
-- the leaf q below page `at` keeps its latest places and gets the mark
abbrev pub trimmed_in : List ℕ → Stamp → ℕ → PageNo → PageNo → Trimmed
trimmed_in w mark depth at q =
    trimmed_below (keep (is_latest (store_of w).memo)) mark depth (store_of w).pages (path_to (store_of w).pages depth at q) at

-- the pages of these words, and what waits
abbrev pub so_far : List ℕ → List Orphan → Trimmed
so_far w os = record { pages = (store_of w).pages; orphans = held_by os }

-- the child page
abbrev pub child_at : Parent → PageNo
child_at f = child_of (get_or f.page.places f.place no_place)

-- the parent, whose child is freed; or has its box made anew
abbrev pub child_freed : List Contents → Parent → List Contents
child_freed ps f =
    let g = contents f.page in
    put_page (put_page ps (child_at f) free_page) f.at (with_places g (without g.places f.place))

abbrev pub child_renewed : List Contents → Parent → List Contents
child_renewed ps f =
    let g = contents f.page in
    put_page ps f.at (with_places g (set g.places f.place (child_place ps (child_at f))))

-- once the child, which stands at this level, has been trimmed
abbrev pub trimmed_place : ℕ → Parent → Trimmed → Trimmed
trimmed_place level f r =
    let left = (page_at r.pages (child_at f)).places in
    let out : Trimmed = record { pages = child_freed r.pages f; orphans = r.orphans ++ wait_at level left } in
    let stay : Trimmed = record { pages = child_renewed r.pages f; orphans = r.orphans } in
    cond (ltb (length left) 4) out stay

-- the pages are as the rules say, and so is what waits
pub record TrimmedTo (p : ℕ) (w : List ℕ) (depth : ℕ) (t : Trimmed) (w' : List ℕ) (os : List Orphan) : Type 0 where
  pub pages : Wrote p w t.pages w'
  pub orphans : held_by os ≡ t.orphans
  pub waits : Waits depth os

-- ---- the whole tree
-- the root page is freed, and its child c is the root
abbrev pub root_lowered : Tree → PageNo → Tree
root_lowered t c = record { root = c; levels = t.levels - 1; pages = put_page t.pages t.root free_page }

-- the words of a store of at most five levels, of which q is a leaf
pub record Cleanable (q : PageNo) (w : List ℕ) : Type 0 where
  pub readable : Readable (length (store_of w).pages) w
  pub levels_least : 1 ≤ (store_of w).levels
  pub levels_most : (store_of w).levels ≤ 5
  pub leaf : LeafBelow w ((store_of w).levels - 1) (store_of w).root q
