-- Tidy words: unused parts are zero throughout, and every field is in its range but those of held entries.
use Rattle.std.specs.Prelude.{ℕ, zero, suc, ◌+◌, ◌*◌, ◌≤◌, ◌≡◌, Bool, true, cond, ◌&&◌, List, [], ◌∷◌, eqb, ltb, length, get_or, take, drop}
use Rattle.rules.specs.Lists.{all_of, every, same_words, cut}
use Rattle.rules.specs.declared.Entry.{Entry}
use Rattle.rules.specs.Store.{child_of, memo_start, boards_start, page_words, memo_words, board_words, words, page_of, board_of, slots_of, store_of}
use Rattle.rules.specs.Sound.{header_in_range, page_in_range, memo_in_range, board_in_range}
use Rattle.rules.specs.Calls.{laid_out}
use Rattle.rules.specs.Views.{Sizes, HeaderInRange, PageInRange, MemoInRange, BoardInRange}
use Rattle.rules.specs.laws.All.{All}

unfoldable pub tidy : List ℕ → Bool
tidy w =
    let s = store_of w in
    same_words (words s) w
    && all_of
    (header_in_range s
    ∷ every (page_in_range (length s.pages)) s.pages
    ∷ memo_in_range s.slots s.memo
    ∷ every board_in_range s.boards
    ∷ [])

-- ---- the parts, each by its own words
abbrev pub is_zero : ℕ → Bool
is_zero n = eqb n 0

-- a page's 52 words, in a store of p pages
unfoldable pub page_tidy : ℕ → List ℕ → Bool
page_tidy p v = same_words (page_words (page_of v)) v && page_in_range p (page_of v)

-- 52 words whose count of used places fits
pub record FewPlaces (v : List ℕ) : Type 0 where
  pub long : length v ≡ 52
  pub few : get_or v 1 0 ≤ 8

-- an inner place has a child page and zero
abbrev pub inner_place : ℕ → Entry → Bool
inner_place p e = ltb (child_of e).0 p && eqb e.stamp.0 0

-- the memo's words, of k slots
unfoldable pub memo_tidy : ℕ → List ℕ → Bool
memo_tidy k m = same_words (memo_words k (slots_of k m)) m && memo_in_range k (slots_of k m)

-- a board's 86 words
unfoldable pub board_tidy : List ℕ → Bool
board_tidy v = same_words (board_words (board_of v)) v && board_in_range (board_of v)

-- the words of k slots, all above the train `last`: used ones ascend, and from the first unused one on all is zero
unfoldable pub slots_tidy : ℕ → ℕ → List ℕ → Bool
slots_tidy zero last m = true
slots_tidy (suc k) last m =
    let t = get_or m 0 0 in
    let rest = ltb last t && slots_tidy k t (drop 3 m) in
    cond (eqb t 0) (every is_zero m) rest

-- ---- the same of the pages, the memo and the boards of a store's words
unfoldable pub pages_tidy : List ℕ → Bool
pages_tidy w = every (page_tidy (get_or w 5 0)) (cut (get_or w 5 0) 52 (drop 16 w))

unfoldable pub memo_part_tidy : List ℕ → Bool
memo_part_tidy w = memo_tidy (get_or w 7 0) (take (3 * get_or w 7 0) (drop (memo_start (get_or w 5 0)) w))

unfoldable pub boards_tidy : List ℕ → Bool
boards_tidy w = every board_tidy (cut (get_or w 9 0) 86 (drop (boards_start (get_or w 5 0) (get_or w 7 0)) w))

-- ---- as facts
-- words of sizes in range, laid out accordingly
pub record Laid (w : List ℕ) : Type 0 where
  pub sizes : Sizes (get_or w 5 0) (get_or w 7 0) (get_or w 9 0)
  pub long : length w ≡ 16 + 52 * get_or w 5 0 + 3 * get_or w 7 0 + 86 * get_or w 9 0
  pub laid : laid_out w ≡ true

-- which are tidy
pub record TidyWords (w : List ℕ) : Type 0 where
  pub given : Laid w
  pub same : words (store_of w) ≡ w
  pub header : HeaderInRange (store_of w)
  pub pages : All (PageInRange (length (store_of w).pages)) (store_of w).pages
  pub memo : MemoInRange (store_of w).slots (store_of w).memo
  pub boards : All BoardInRange (store_of w).boards
