-- What putting in asks of a store's words, what it leaves, and what it answers.
use Rattle.std.specs.Prelude.{ℕ, ◌≤◌, ◌≡◌, true, List, [], ◌∷◌, ◌++◌, Option, Some, None, map, length, get_or, set, unwrap_or}
use Rattle.rules.specs.declared.Stamp.{Stamp}
use Rattle.rules.specs.declared.PageNo.{PageNo}
use Rattle.rules.specs.declared.Entry.{Entry}
use Rattle.rules.specs.declared.Box.{Box}
use Rattle.rules.specs.Store.{Page as Contents, Store, stamp, no_place, child_of, put_page, place_of, words, store_of}
use Rattle.rules.specs.Tree.{whole, parted, pages_in, settled, lowest_free, its_box, choose, renewed, Tree, child_place, rooted}
use Rattle.rules.specs.Tree.{Written as Result}
use Rattle.rules.specs.Boxes.{proper_box}
use Rattle.rules.specs.Lists.{every}
use Rattle.rules.specs.Views.{ProperBox}
use Rattle.rules.specs.laws.All.{All}
use Rattle.rules.specs.laws.Words.{Fits}
use Rattle.rules.specs.laws.Parts.{with_pages}
use Rattle.page.specs.declared.Page.{Page}
use Rattle.page.specs.Struct.{contents, laid_page}

-- ---- what is asked for
abbrev pub ProperPlaces : List Entry → Type 0
ProperPlaces es = All (λ e. ProperBox e.bounds) es

-- the words of a store of p pages, every place of which has a proper box, so that sums of areas fit 64 bits
pub record Ready (p : ℕ) (w : List ℕ) : Type 0 where
  pub written : words (store_of w) ≡ w
  pub fits : Fits (store_of w)
  pub counted : length (store_of w).pages ≡ p
  pub most : p ≤ 192
  pub proper : All (λ g. ProperPlaces g.places) (store_of w).pages

-- those of a store of as many pages as it has
abbrev pub page_count : List ℕ → ℕ
page_count w = length (store_of w).pages

abbrev pub IsReady : List ℕ → Type 0
IsReady w = Ready (page_count w) w

-- a page struct whose unused places are zero and whose used ones have proper boxes
pub record Laid (g : Page) : Type 0 where
  pub laid : g ≡ laid_page (contents g)
  pub proper : ProperPlaces (contents g).places

-- the same by a test, as a struct keeps it
pub record LaidByTest (g : Page) : Type 0 where
  pub laid : g ≡ laid_page (contents g)
  pub proper : every (λ e. proper_box e.bounds) (contents g).places ≡ true

-- ---- what is left
-- the words w' are those of the store in w with other pages
pub record Wrote (p : ℕ) (w : List ℕ) (ps : List Contents) (w' : List ℕ) : Type 0 where
  pub wrote : w' ≡ words (with_pages (store_of w) ps)
  pub stored : store_of w' ≡ with_pages (store_of w) ps
  pub ready : Ready p w'

-- page `at` is written, and then another, the lowest that was free
pub record InTwo (p : ℕ) (w : List ℕ) (at : PageNo) (first second : Contents) (w' : List ℕ) (q : PageNo) : Type 0 where
  pub pages : Wrote p w (put_page (put_page (store_of w).pages at first) q second) w'
  pub free : q ≡ lowest_free (store_of w).pages

-- the answer in code to what the rules say has been written: the page with the second part, where the page was split
abbrev pub answer : Result → Option PageNo
answer (whole ps) = None
answer (parted ps q) = Some q

-- the pages are as the rules say, and so is the answer
pub record Put (p : ℕ) (w : List ℕ) (r : Result) (w' : List ℕ) (a : Option PageNo) : Type 0 where
  pub pages : Wrote p w (pages_in r) w'
  pub answers : a ≡ answer r

-- ---- what the functions do
-- page `at`, read as g, gets one place more
abbrev pub settled_in : List ℕ → PageNo → Page → Entry → Result
settled_in w at g e = settled (store_of w).pages at (contents g) ((contents g).places ++ (e ∷ []))

-- the page with these rows as its places
abbrev pub page_with : ℕ → Stamp → List (List ℕ) → Contents
page_with kind mark rows = record { kind = kind; mark = mark; places = map place_of rows }

-- the place that takes a new box best, where there is one
abbrev pub picked : Box → List Entry → Option ℕ
picked new [] = None
picked new (e ∷ es) = Some (choose its_box new (e ∷ es))

-- what the rules say has been written, from the answer in code and the pages
abbrev pub result : Option PageNo → List Contents → Result
result None ps = whole ps
result (Some q) ps = parted ps q

-- the child page in place i; none is the place behind the last, which is read as no place
abbrev pub child_in : List Entry → Option ℕ → PageNo
child_in es i = child_of (get_or es (unwrap_or i (length es)) no_place)

-- the places with e in place i; none is the place behind the last, where nothing is set
abbrev pub with_entry : List Entry → Option ℕ → Entry → List Entry
with_entry es i e = set es (unwrap_or i (length es)) e

-- page `at`, read as g, once its child, in place i, has been written
abbrev pub renewed_in : List ℕ → PageNo → Page → Option ℕ → Option PageNo → Result
renewed_in w at g i below =
    let es = (contents g).places in
    settled (store_of w).pages at (contents g) (renewed es (unwrap_or i (length es)) (child_in es i) (result below (store_of w).pages))

-- ---- the whole tree
-- the store with another tree
abbrev pub with_tree : Store → Tree → Store
with_tree s t =
    record { next = s.next; root = t.root; levels = t.levels; slots = s.slots; pages = t.pages; memo = s.memo; boards = s.boards }

-- the words w' are those of the store in w with another tree
pub record Grown (p : ℕ) (w : List ℕ) (t : Tree) (w' : List ℕ) : Type 0 where
  pub wrote : w' ≡ words (with_tree (store_of w) t)
  pub stored : store_of w' ≡ with_tree (store_of w) t
  pub ready : Ready p w'

-- the root page over a root that was split
abbrev pub over_root : List Contents → PageNo → PageNo → Contents
over_root ps root q = record { kind = 2; mark = stamp 0; places = child_place ps root ∷ child_place ps q ∷ [] }

-- it stands in the lowest page that was free
pub record NewRoot (p : ℕ) (w : List ℕ) (q : PageNo) (w' : List ℕ) (r : PageNo) : Type 0 where
  pub pages : Wrote p w (put_page (store_of w).pages r (over_root (store_of w).pages (store_of w).root q)) w'
  pub free : r ≡ lowest_free (store_of w).pages

-- the tree once the root's second part stands in page q
abbrev pub raised : Store → PageNo → Tree
raised s q = rooted s.root s.levels (parted s.pages q)
