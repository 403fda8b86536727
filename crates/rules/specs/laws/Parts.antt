-- Writing a part of the store's words is replacing that part in the record.
use Rattle.std.specs.Prelude.{ℕ, suc, ◌+◌, ◌*◌, ◌-◌, ◌≤◌, ◌<◌, ◌≡◌, refl, length, take, drop, get_or, set, replicate}
use Rattle.std.proofs.Common.{arith, le_of_lt, ◌∙◌, length-append, length-set, take_at, drop_at}
use Rattle.std.proofs.Math.Path.{sym}
use mathlib.Core.List.{List, [], ◌∷◌, ◌++◌, flat_map, append_assoc, append-nil}
use Rattle.std.proofs.Math.Seq.{length-take-le}
use Rattle.std.proofs.lemmas.List.{set_split, set-get_or}
use Rattle.rules.specs.declared.PageNo.{PageNo}
use Rattle.rules.specs.declared.Slot.{Slot}
use Rattle.rules.specs.declared.Row.{Row}
use Rattle.rules.specs.declared.Stamp.{Stamp}
use Rattle.rules.specs.Lists.{padded}
use Rattle.rules.specs.Boxes.{no_box}
use Rattle.rules.specs.Store.{Page, Board, Store, free_page, closed, page_at, put_page, board_at, memo_start, boards_start, row_limit, train, box_words, window_words, row_words, page_words, board_words, row_of, page_of, board_of, header_words, words}
use Rattle.rules.specs.Boards.{with_rows}
use Rattle.rules.specs.laws.All.{All, all_map, all_set, flat_append, all_take, all_at, always}
use Rattle.rules.specs.laws.Words.{Fits, flat_length, page_words-length, page-read, board_words-length, board_read, memo_words, header_words-length, pages_length, memo_length, row_words-length, row_read}

-- ---- what holds of every element holds of one, of the first ones, and after a replacement
-- ---- a part of some words, with others before and after it
module _ (before middle after : List ℕ) (a n : ℕ) (starts : length before ≡ a) (fills : length middle ≡ n) where
  -- its words are there
  pub part_there : take n (drop a (before ++ (middle ++ after))) ≡ middle
  part_there = rw (drop_at before (middle ++ after) a starts) (take_at middle after n fills)

  -- other words in its place
  pub part_written : (new : List ℕ) → before ++ (new ++ after) ≡ take a (before ++ (middle ++ after)) ++ (new ++ drop (a + n) (before ++ (middle ++ after)))
  part_written new =
      let e : length (before ++ middle) ≡ a + n = rw length-append (omega arith) in
      let q : drop (a + n) (before ++ (middle ++ after)) ≡ after = rw (← append_assoc before middle after) (drop_at (before ++ middle) after (a + n) e) in
      rw (q, take_at before (middle ++ after) a starts)

-- ---- number i of several parts of one size, with other words before and after them
module _ {A : Type 0} (f : A → List ℕ) (size : ℕ) (before after : List ℕ) (a : ℕ) (starts : length before ≡ a) {xs : List A} (sized : All (λ x. length (f x) ≡ size) xs) (i : ℕ) (inside : i < length xs) where
  -- what stands ahead of it and behind it, whatever its own words are
  ahead : List ℕ
  ahead = before ++ flat_map f (take i xs)

  behind : List ℕ
  behind = flat_map f (drop (suc i) xs) ++ after

  ahead_length : length ahead ≡ a + size * i
  unfolding ahead
  ahead_length =
      rw (length-append, starts, flat_length f size (all_take sized i), length-take-le i xs (le_of_lt inside))

  around : (x : A) → before ++ (flat_map f (set xs i x) ++ after) ≡ ahead ++ (f x ++ behind)
  unfolding ahead behind flat_map
  around x = simp (set_split xs i x inside, flat_append, append_assoc)

  around_old : (d : A) → before ++ (flat_map f xs ++ after) ≡ ahead ++ (f (get_or xs i d) ++ behind)
  around_old d = rw (set-get_or xs i d) at (around (get_or xs i d))

  -- its words are there
  pub one_there : (d : A) → take size (drop (a + size * i) (before ++ (flat_map f xs ++ after))) ≡ f (get_or xs i d)
  one_there d = rw (around_old d) (part_there ahead (f (get_or xs i d)) behind (a + size * i) size ahead_length (all_at sized i d inside))

  -- writing them is replacing it in the list
  pub one_written : (x : A) → before ++ (flat_map f (set xs i x) ++ after) ≡ take (a + size * i) (before ++ (flat_map f xs ++ after)) ++ (f x ++ drop (a + size * i + size) (before ++ (flat_map f xs ++ after)))
  one_written x =
      rw (around x, around_old x) (part_written ahead (f (get_or xs i x)) behind (a + size * i) size ahead_length (all_at sized i x inside) (f x))

-- ---- the store with other pages, another memo or other boards
abbrev pub with_pages : Store → List Page → Store
with_pages s ps =
    record { next = s.next; root = s.root; levels = s.levels; slots = s.slots; pages = ps; memo = s.memo; boards = s.boards }

abbrev pub with_memo : Store → List Slot → Store
with_memo s ms =
    record { next = s.next; root = s.root; levels = s.levels; slots = s.slots; pages = s.pages; memo = ms; boards = s.boards }

abbrev pub with_boards : Store → List Board → Store
with_boards s bs =
    record { next = s.next; root = s.root; levels = s.levels; slots = s.slots; pages = s.pages; memo = s.memo; boards = bs }

-- as many pages or boards as before leave words 0 to 15 as they are
header_pages : (s : Store) (ps : List Page) → length ps ≡ length s.pages → header_words (with_pages s ps) ≡ header_words s
unfolding header_words
header_pages s ps e = rw e

header_boards : (s : Store) (bs : List Board) → length bs ≡ length s.boards → header_words (with_boards s bs) ≡ header_words s
unfolding header_words
header_boards s bs e = rw e

-- ---- words 1, 2 and 3: writing one is another next stamp, root page or number of levels
abbrev pub with_header : Store → Stamp → PageNo → ℕ → Store
with_header s next root levels =
    record { next = next; root = root; levels = levels; slots = s.slots; pages = s.pages; memo = s.memo; boards = s.boards }

pub next_written : (s : Store) (next : Stamp) → words (with_header s next s.root s.levels) ≡ set (words s) 1 next.0
unfolding words header_words padded
next_written s next = refl

pub root_written : (s : Store) (root : PageNo) → words (with_header s s.next root s.levels) ≡ set (words s) 2 root.0
unfolding words header_words padded
root_written s root = refl

pub levels_written : (s : Store) (levels : ℕ) → words (with_header s s.next s.root levels) ≡ set (words s) 3 levels
unfolding words header_words padded
levels_written s levels = refl

-- ---- page p, whose words start at word 16 + 52 p
module _ (s : Store) (p : PageNo) (inside : p.0 < length s.pages) (fit : All (λ g. length g.places ≤ 8) s.pages) where
  sized_pages : All (λ g. length (page_words g) ≡ 52) s.pages
  sized_pages = all_map fit page_words-length

  -- they are the page's words, from which it is read
  pub page_words_there : take 52 (drop (16 + 52 * p.0) (words s)) ≡ page_words (page_at s.pages p)
  unfolding words page_at
  page_words_there = one_there page_words 52 (header_words s) _ 16 (header_words-length s) sized_pages p.0 inside free_page

  pub page_there : page_of (take 52 (drop (16 + 52 * p.0) (words s))) ≡ page_at s.pages p
  unfolding page_at
  page_there = rw page_words_there (page-read _ (all_at fit p.0 free_page inside))

  -- writing them is put-page
  pub page-written : (g : Page)
      → words (with_pages s (put_page s.pages p g)) ≡ take (16 + 52 * p.0) (words s) ++ (page_words g ++ drop (16 + 52 * p.0 + 52) (words s))
  unfolding words put_page
  page-written g =
      rw (header_pages s (set s.pages p.0 g) (length-set s.pages p.0 g)) (one_written page_words 52 (header_words s) _ 16 (header_words-length s) sized_pages p.0 inside g)

-- ---- the memo as a whole
module _ (s : Store) (fits : Fits s) where
  before_memo : List ℕ
  before_memo = header_words s ++ flat_map page_words s.pages

  around_memo : (memo : List Slot) → words (with_memo s memo) ≡ before_memo ++ (memo_words s.slots memo ++ flat_map board_words s.boards)
  unfolding words header_words before_memo
  around_memo memo = sym (append_assoc (header_words s) (flat_map page_words s.pages) _)

  memo_starts : length before_memo ≡ memo_start (length s.pages)
  unfolding before_memo memo_start
  memo_starts = rw (length-append, header_words-length s, pages_length s fits)

  -- its words are there
  pub memo_there : take (3 * s.slots) (drop (memo_start (length s.pages)) (words s)) ≡ memo_words s.slots s.memo
  memo_there =
      rw (around_memo s.memo) (part_there before_memo (memo_words s.slots s.memo) _ (memo_start (length s.pages)) (3 * s.slots) memo_starts (memo_length s fits))

  -- writing them is another memo
  pub memo_written : (memo : List Slot)
      → words (with_memo s memo) ≡ take (memo_start (length s.pages)) (words s) ++ (memo_words s.slots memo ++ drop (memo_start (length s.pages) + 3 * s.slots) (words s))
  memo_written memo =
      rw (around_memo memo, around_memo s.memo) (part_written before_memo (memo_words s.slots s.memo) _ (memo_start (length s.pages)) (3 * s.slots) memo_starts (memo_length s fits) (memo_words s.slots memo))

-- ---- board i, whose words start 86 i words after the first board's
module _ (s : Store) (fits : Fits s) (i : ℕ) (inside : i < length s.boards) where
  before_boards : List ℕ
  before_boards = header_words s ++ (flat_map page_words s.pages ++ memo_words s.slots s.memo)

  around_boards : (bs : List Board) → length bs ≡ length s.boards → words (with_boards s bs) ≡ before_boards ++ (flat_map board_words bs ++ [])
  unfolding words before_boards
  around_boards bs e = simp (append_assoc, append-nil, header_boards s bs e)

  boards_starts : length before_boards ≡ boards_start (length s.pages) s.slots
  unfolding before_boards boards_start
  boards_starts = simp (length-append, header_words-length s, pages_length s fits, memo_length s fits) (omega arith)

  sized_boards : All (λ b. length (board_words b) ≡ 86) s.boards
  sized_boards = all_map fits.boards_fit board_words-length

  -- they are the board's words, from which it is read
  pub board_words_there : take 86 (drop (boards_start (length s.pages) s.slots + 86 * i) (words s)) ≡ board_words (board_at s i)
  unfolding board_at
  board_words_there =
      rw (around_boards s.boards refl) (one_there board_words 86 before_boards [] _ boards_starts sized_boards i inside closed)

  pub board_fits : length (board_at s i).rows ≤ row_limit
  unfolding board_at
  board_fits = all_at fits.boards_fit i closed inside

  pub board_there : board_of (take 86 (drop (boards_start (length s.pages) s.slots + 86 * i) (words s))) ≡ board_at s i
  board_there = rw board_words_there (board_read (board_at s i) board_fits)

  -- writing them is another board i
  pub board_written : (b : Board)
      → words (with_boards s (set s.boards i b)) ≡ take (boards_start (length s.pages) s.slots + 86 * i) (words s) ++ (board_words b ++ drop (boards_start (length s.pages) s.slots + 86 * i + 86) (words s))
  board_written b =
      rw (around_boards (set s.boards i b) (length-set s.boards i b), around_boards s.boards refl) (one_written board_words 86 before_boards [] _ boards_starts sized_boards i inside b)

-- ---- parts that fit go on fitting
pub fits_page : (s : Store) (p : PageNo) (g : Page) → Fits s → length g.places ≤ 8 → Fits (with_pages s (put_page s.pages p g))
unfolding put_page
fits_page s p g f h =
    record { pages_fit = all_set f.pages_fit p.0 h; memo_fits = f.memo_fits; slots_used = f.slots_used; boards_fit = f.boards_fit }

pub fits_memo : (s : Store) (memo : List Slot) → Fits s → length memo ≤ s.slots → All (λ m. 1 ≤ m.train.0) memo → Fits (with_memo s memo)
fits_memo s memo f h a = record { pages_fit = f.pages_fit; memo_fits = h; slots_used = a; boards_fit = f.boards_fit }

pub fits_board : (s : Store) (i : ℕ) (b : Board) → Fits s → length b.rows ≤ row_limit → Fits (with_boards s (set s.boards i b))
fits_board s i b f h =
    record { pages_fit = f.pages_fit; memo_fits = f.memo_fits; slots_used = f.slots_used; boards_fit = all_set f.boards_fit i h }

-- ---- the rows in a board's own words: five words each, from word 6 on
-- an unused row
abbrev pub no_row : Row
no_row = record { train = train 0; bounds = no_box }

-- words 0 to 5 with this count; the zeros behind n rows; and a board's words, these around the rows
abbrev board_head : Board → ℕ → List ℕ
board_head b n = b.window.x0 ∷ b.window.y0 ∷ b.window.x1 ∷ b.window.y1 ∷ b.isopen ∷ n ∷ []

abbrev behind_rows : ℕ → List ℕ
behind_rows n = replicate (5 * (row_limit - n)) 0

laid_out : (b : Board) → length b.rows ≤ row_limit → board_words b ≡ board_head b (length b.rows) ++ (flat_map row_words b.rows ++ behind_rows (length b.rows))
unfolding board_words window_words padded
laid_out b fit =
    let n = length b.rows in
    let e : 86 - suc (suc (suc (suc (suc (suc (5 * n)))))) ≡ 5 * (row_limit - n) = omega arith in
    rw (flat_length row_words 5 (always row_words-length b.rows), e)

module _ (b : Board) (fit : length b.rows ≤ row_limit) (i : ℕ) (inside : i < length b.rows) where
  -- row i is read from its words
  pub row_there : (d : Row) → row_of (take 5 (drop (6 + 5 * i) (board_words b))) ≡ get_or b.rows i d
  row_there d =
      rw (laid_out b fit, one_there row_words 5 (board_head b (length b.rows)) (behind_rows (length b.rows)) 6 refl (always row_words-length b.rows) i inside d) (row_read _)

  -- writing them is another row i
  pub row_written : (r : Row) → board_words (with_rows (set b.rows i r) b) ≡ take (6 + 5 * i) (board_words b) ++ (row_words r ++ drop (6 + 5 * i + 5) (board_words b))
  row_written r =
      let n = length-set b.rows i r in
      laid_out (with_rows (set b.rows i r) b) (omega arith) ∙ rw (laid_out b fit, n) (one_written row_words 5 (board_head b (length b.rows)) (behind_rows (length b.rows)) 6 refl (always row_words-length b.rows) i inside r)

-- counting one row more is an unused row behind the used ones
pub row_added : (b : Board) → length b.rows < row_limit → board_words (with_rows (b.rows ++ (no_row ∷ [])) b) ≡ set (board_words b) 5 (length b.rows + 1)
unfolding flat_map row_words box_words
row_added b h =
    let n = length b.rows in
    let k : length (b.rows ++ (no_row ∷ [])) ≡ n + 1 = rw length-append in
    let e : 5 * (row_limit - n) ≡ suc (suc (suc (suc (suc (5 * (row_limit - (n + 1))))))) = omega arith in
    laid_out (with_rows (b.rows ++ (no_row ∷ [])) b) (omega arith) ∙ rw (laid_out b (omega arith), k, flat_append, append_assoc, e)
