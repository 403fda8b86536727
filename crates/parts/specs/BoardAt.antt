-- Where a board's own words stand in the words of a store, to be read or written there.
use Rattle.std.specs.Prelude.{ℕ, ◌+◌, ◌-◌, ◌*◌, ◌≤◌, ◌<◌, ◌≡◌, refl, List, length, get_or, take, drop}
use Rattle.std.proofs.Common.{sym, ap, ◌∙◌}
use Rattle.rules.specs.Store.{boards_start, board_of, board_at, store_of}
use Rattle.rules.specs.laws.Parts.{board_fits}
use Rattle.rules.specs.laws.Placed.{Placed, most_words, pages_count, slots_count, board_low, board_start, board_room, board_part}
use Rattle.rules.specs.laws.Words.{board_read}
use Rattle.board.specs.Rows.{BoardWords}
use Rattle.board.specs.Laws.{board_is}

-- the words of board i start at a; no store has more than 15,824 words
pub record BoardAt (v : List ℕ) (i a : ℕ) : Type 0 where
  pub starts : a ≡ boards_start (length (store_of v).pages) (store_of v).slots + 86 * i
  pub room : a + 86 ≤ length v
  pub low : a + 86 ≤ most_words
  pub own : BoardWords (take (a + 86 - a) (drop a v))
  pub there : board_of (take (a + 86 - a) (drop a v)) ≡ board_at (store_of v) i

module _ (v : List ℕ) (h : Placed v) (p k from i : ℕ) (pages : p ≡ get_or v 5 0) (slots : k ≡ get_or v 7 0) (starts : from ≡ boards_start p k) (inside : i < length (store_of v).boards) where
  pub board_starts : BoardAt v i (from + 86 * i)
  board_starts =
      let e = board_start v h p pages k slots from i starts inside in
      let part = board_part v h i (from + 86 * i) inside e in
      let few = board_fits (store_of v) h.fits i inside in
      record {
        starts = e;
        room = board_room v h i (from + 86 * i) inside e;
        low = board_low v h p pages k slots from i starts inside;
        own = rw part (board_is (board_at (store_of v) i) few);
        there = ap board_of part ∙ board_read (board_at (store_of v) i) few;
      }

-- so every board, by the counts that are read
pub board_placed : (v : List ℕ) → Placed v → (i : ℕ) → i < length (store_of v).boards
    → BoardAt v i (boards_start (length (store_of v).pages) (store_of v).slots + 86 * i)
board_placed v h i inside =
    board_starts v h (length (store_of v).pages) (store_of v).slots (boards_start (length (store_of v).pages) (store_of v).slots) i (sym (pages_count v h)) (sym (slots_count v h)) refl inside
