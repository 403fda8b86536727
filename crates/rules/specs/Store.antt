-- The store: its parts as records, written as words and read back, and the fresh store.
use Rattle.std.specs.Prelude.{ℕ, ◌+◌, ◌*◌, ◌-◌, min, cond, eqb, length, drop, get_or, set, replicate}
use mathlib.Core.List.{List, [], ◌∷◌, ◌++◌, map, flat_map}
use Rattle.rules.specs.declared.Train.{Train}
use Rattle.rules.specs.declared.Stamp.{Stamp}
use Rattle.rules.specs.declared.PageNo.{PageNo}
use Rattle.rules.specs.declared.Box.{Box}
use Rattle.rules.specs.declared.Window.{Window}
use Rattle.rules.specs.declared.Entry.{Entry}
use Rattle.rules.specs.declared.Slot.{Slot}
use Rattle.rules.specs.declared.Row.{Row}
use Rattle.rules.specs.Boxes.{no_box}
use Rattle.rules.specs.Lists.{cut, padded}

-- ---- trains, stamps and page numbers: three separate counts
abbrev pub train : ℕ → Train
train n = record { 0 = n }

abbrev pub stamp : ℕ → Stamp
stamp n = record { 0 = n }

abbrev pub page_no : ℕ → PageNo
page_no n = record { 0 = n }

-- the largest number of 32 bits
abbrev pub limit : ℕ
limit = 4_294_967_295

-- how many rows a board takes
abbrev pub row_limit : ℕ
row_limit = 16

-- ---- the parts
-- a leaf place's train, an inner place's child page
abbrev pub train_of : Entry → Train
train_of e = train e.key

abbrev pub child_of : Entry → PageNo
child_of e = page_no e.key

-- kind: 0 free, 1 leaf, 2 inner; the places are the used ones
pub record Page : Type 0 where
  pub kind : ℕ
  pub mark : Stamp
  pub places : List Entry

-- isopen: 1 if open, otherwise 0; the rows are the used ones
pub record Board : Type 0 where
  pub window : Window
  pub isopen : ℕ
  pub rows : List Row

-- slots: K, how many slots the memo has room for; the memo holds the used ones
pub record Store : Type 0 where
  pub next : Stamp
  pub root : PageNo
  pub levels : ℕ
  pub slots : ℕ
  pub pages : List Page
  pub memo : List Slot
  pub boards : List Board

-- what a free page, an unused place and a closed board are: zero throughout
abbrev pub free_page : Page
free_page = record { kind = 0; mark = stamp 0; places = [] }

abbrev pub no_place : Entry
no_place = record { bounds = no_box; key = 0; stamp = stamp 0 }

abbrev pub closed : Board
closed = record { window = record { x0 = 0; y0 = 0; x1 = 0; y1 = 0 }; isopen = 0; rows = [] }

unfoldable pub page_at : List Page → PageNo → Page
page_at ps p = get_or ps p.0 free_page

unfoldable pub put_page : List Page → PageNo → Page → List Page
put_page ps p g = set ps p.0 g

unfoldable pub board_at : Store → ℕ → Board
board_at s i = get_or s.boards i closed

-- ---- how many of each part a store may have, where they start, and its length
unfoldable pub memo_start : ℕ → ℕ
memo_start p = 16 + 52 * p

unfoldable pub boards_start : ℕ → ℕ → ℕ
boards_start p k = 16 + 52 * p + 3 * k

unfoldable pub store_length : ℕ → ℕ → ℕ → ℕ
store_length p k b = 16 + 52 * p + 3 * k + 86 * b

-- ---- written as words
unfoldable pub box_words : Box → List ℕ
box_words b = b.x0 ∷ b.y0 ∷ b.x1 ∷ b.y1 ∷ []

unfoldable pub window_words : Window → List ℕ
window_words w = w.x0 ∷ w.y0 ∷ w.x1 ∷ w.y1 ∷ []

unfoldable pub place_words : Entry → List ℕ
place_words e = box_words e.bounds ++ (e.key ∷ e.stamp.0 ∷ [])

unfoldable pub page_words : Page → List ℕ
page_words g = padded 52 (g.kind ∷ length g.places ∷ g.mark.0 ∷ 0 ∷ flat_map place_words g.places)

unfoldable pub slot_words : Slot → List ℕ
slot_words m = m.train.0 ∷ m.latest.0 ∷ m.old ∷ []

unfoldable pub row_words : Row → List ℕ
row_words r = r.train.0 ∷ box_words r.bounds

unfoldable pub board_words : Board → List ℕ
board_words b = padded 86 (window_words b.window ++ (b.isopen ∷ length b.rows ∷ flat_map row_words b.rows))

-- words 0 to 15
unfoldable pub header_words : Store → List ℕ
header_words s =
    let p = length s.pages in
    let k = s.slots in
    padded 16
    (1
    ∷ s.next.0
    ∷ s.root.0
    ∷ s.levels
    ∷ 16
    ∷ p
    ∷ memo_start p
    ∷ k
    ∷ boards_start p k
    ∷ length s.boards
    ∷ [])

-- the memo's part, with room for k slots
abbrev pub memo_words : ℕ → List Slot → List ℕ
memo_words k memo = padded (3 * k) (flat_map slot_words memo)

unfoldable pub words : Store → List ℕ
words s =
    header_words s
    ++ (flat_map page_words s.pages ++ (memo_words s.slots s.memo ++ flat_map board_words s.boards))

-- ---- read from words; counts that a damaged store makes too large are read as the most there is room for
unfoldable pub box_of : List ℕ → Box
box_of w = record { x0 = get_or w 0 0; y0 = get_or w 1 0; x1 = get_or w 2 0; y1 = get_or w 3 0 }

unfoldable pub window_of : List ℕ → Window
window_of w = record { x0 = get_or w 0 0; y0 = get_or w 1 0; x1 = get_or w 2 0; y1 = get_or w 3 0 }

unfoldable pub place_of : List ℕ → Entry
place_of w = record { bounds = box_of w; key = get_or w 4 0; stamp = stamp (get_or w 5 0) }

unfoldable pub page_of : List ℕ → Page
page_of w = record { kind = get_or w 0 0; mark = stamp (get_or w 2 0); places = map place_of (cut (min 8 (get_or w 1 0)) 6 (drop 4 w)) }

unfoldable pub slot_of : List ℕ → Slot
slot_of w = record { train = train (get_or w 0 0); latest = stamp (get_or w 1 0); old = get_or w 2 0 }

unfoldable pub row_of : List ℕ → Row
row_of w = record { train = train (get_or w 0 0); bounds = box_of (drop 1 w) }

unfoldable pub board_of : List ℕ → Board
board_of w =
    record { window = window_of w; isopen = get_or w 4 0; rows = map row_of (cut (min row_limit (get_or w 5 0)) 5 (drop 6 w)) }

-- used slots come first: those before the first whose train is 0
unfoldable pub used : List Slot → List Slot
used [] = []
used (m ∷ ms) = let rest = used ms in cond (eqb m.train.0 0) [] (m ∷ rest)

-- p pages, k slots and b boards from the start of these words
abbrev pub pages_of : ℕ → List ℕ → List Page
pages_of p w = map page_of (cut p 52 w)

abbrev pub slots_of : ℕ → List ℕ → List Slot
slots_of k w = used (map slot_of (cut k 3 w))

abbrev pub boards_of : ℕ → List ℕ → List Board
boards_of b w = map board_of (cut b 86 w)

unfoldable pub store_of : List ℕ → Store
store_of w =
    let p = get_or w 5 0 in
    let k = get_or w 7 0 in
    record {
      next = stamp (get_or w 1 0);
      root = page_no (get_or w 2 0);
      levels = get_or w 3 0;
      slots = k;
      pages = pages_of p (drop 16 w);
      memo = slots_of k (drop (memo_start p) w);
      boards = boards_of (get_or w 9 0) (drop (boards_start p k) w);
    }

-- ---- the fresh store: page 0 is an empty root leaf with mark 1, one level, next stamp 1, nothing else
unfoldable pub fresh : ℕ → ℕ → ℕ → Store
fresh p k b =
    record {
      next = stamp 1;
      root = page_no 0;
      levels = 1;
      slots = k;
      pages = record { kind = 1; mark = stamp 1; places = [] } ∷ replicate (p - 1) free_page;
      memo = [];
      boards = replicate b closed;
    }

-- a proof that says `unfolding store_open` sees through every definition of this file
unfoldable pub store_open : Unit {0}
unfolding flat_map page_at put_page board_at memo_start boards_start store_length box_words window_words place_words page_words slot_words row_words board_words header_words words box_of window_of place_of page_of slot_of row_of board_of used store_of fresh
store_open = tt
