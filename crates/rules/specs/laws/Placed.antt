-- Words in which a store's parts stand where words 4, 6 and 8 say: how long they are, the counts in them, and the memo's and each board's part, read and written.
use Rattle.std.specs.Prelude.{ℕ, ◌+◌, ◌-◌, ◌*◌, ◌≤◌, ◌<◌, ◌≡◌, List, length, get_or, take, drop, set}
use Rattle.std.proofs.Common.{arith, sym, ◌∙◌, ap, ap₂, Fits as Number}
use Rattle.std.specs.Int.{w64}
use borrow.Rule.Slice.PartMut.{put_mid}
use Rattle.rules.specs.declared.Slot.{Slot}
use Rattle.rules.specs.Store.{Board, board_at, board_words, memo_words, memo_start, boards_start, store_length, words, store_of}
use Rattle.rules.specs.Views.{Sizes, InRange, in_range_test}
use Rattle.rules.specs.laws.Header.{pages_there, slots_there, boards_there}
use Rattle.rules.specs.laws.Parts.{with_memo, with_boards, memo_there, memo_written, board_words_there, board_written}
use Rattle.rules.specs.laws.Splice.{lent, lent_back}
use Rattle.rules.specs.laws.Words.{Fits, in_range_fits, words-length}

pub record Placed (w : List ℕ) : Type 0 where
  pub written : words (store_of w) ≡ w
  pub sizes : Sizes (length (store_of w).pages) (store_of w).slots (length (store_of w).boards)
  pub fits : Fits (store_of w)

pub ranges_placed : (w : List ℕ) → words (store_of w) ≡ w → InRange (store_of w) → Placed w
ranges_placed w e r =
    record { written = e; sizes = r.sizes; fits = in_range_fits (store_of w) (in_range_test (store_of w) r) }

-- no store has more than 15,824 words
abbrev pub most_words : ℕ
most_words = 15_824

module _ (v : List ℕ) (h : Placed v) where
  -- ---- words 5, 7 and 9, and how long the words are
  pub pages_count : get_or v 5 0 ≡ length (store_of v).pages
  pages_count = rw h.written at (pages_there (store_of v))

  pub slots_count : get_or v 7 0 ≡ (store_of v).slots
  slots_count = rw h.written at (slots_there (store_of v))

  pub boards_count : (n : ℕ) → n ≡ get_or v 9 0 → n ≡ length (store_of v).boards
  boards_count n e = e ∙ rw h.written at (boards_there (store_of v))

  long : length v ≡ store_length (length (store_of v).pages) (store_of v).slots (length (store_of v).boards)
  long = rw h.written at (words-length (store_of v) h.fits)

  pub header_long : 16 ≤ length v
  unfolding store_length
  header_long = omega (arith, long)

  -- before the last board, and past it
  pub board_inside : (n i : ℕ) → n ≡ get_or v 9 0 → i < n → i < length (store_of v).boards
  board_inside n i e h = omega (arith, boards_count n e)

  pub boards_few : (n i : ℕ) → n ≡ get_or v 9 0 → n ≤ i → length (store_of v).boards ≤ i
  boards_few n i e h = omega (arith, boards_count n e)

  module _ (p : ℕ) (there : p ≡ get_or v 5 0) where
    pub pages_most : p ≤ 192
    pages_most = omega (arith, pages_count, h.sizes.pages_most)

    pub pages_room : 16 + 52 * p ≤ length v
    unfolding store_length
    pages_room = omega (arith, pages_count, long)

    module _ (k : ℕ) (slots : k ≡ get_or v 7 0) where
      pub slots_most : k ≤ 1_024
      slots_most = omega (arith, slots_count, h.sizes.slots_most)

      pub slots_fit : Number w64 (3 * k)
      slots_fit = record { fits = omega (arith, slots_most) }

      -- ---- the memo
      module _ (from : ℕ) (starts : from ≡ memo_start p) where
        -- where it ends, and where it starts in bytes, are numbers of 64 bits
        pub memo_end_fits : Number w64 (from + 3 * k)
        unfolding memo_start
        memo_end_fits = record { fits = omega (arith, slots_most, pages_most) }

        pub memo_start_fits : Number w64 (from * 4)
        unfolding memo_start
        memo_start_fits = record { fits = omega (arith, pages_most) }

        pub memo_room : from + 3 * k ≤ length v
        unfolding store_length memo_start
        memo_room = omega (arith, pages_count, slots_count, long)

        start : from ≡ memo_start (length (store_of v).pages)
        start = starts ∙ ap memo_start (there ∙ pages_count)

        -- what is lent is its words
        pub memo_part : take (from + 3 * k - from) (drop from v) ≡ memo_words (store_of v).slots (store_of v).memo
        memo_part = rw (lent, start, slots ∙ slots_count) (rw h.written at (memo_there (store_of v) h.fits))

        -- and other words in its place are another memo
        pub memo_back : (memo : List Slot) (ws : List ℕ) → ws ≡ memo_words (store_of v).slots memo
            → put_mid from (from + 3 * k - from) v ws ≡ words (with_memo (store_of v) memo)
        memo_back memo ws e =
            lent_back v from (3 * k) ws ∙ rw (e, start, slots ∙ slots_count) (sym (rw h.written at (memo_written (store_of v) h.fits memo)))

      -- ---- board i
      module _ (from i : ℕ) (starts : from ≡ boards_start p k) (inside : i < length (store_of v).boards) where
        pub board_part_fits : Number w64 (86 * i)
        board_part_fits = record { fits = omega (arith, h.sizes.boards_most) }

        pub board_low : from + 86 * i + 86 ≤ most_words
        unfolding boards_start
        board_low = omega (arith, h.sizes.boards_most, pages_most, slots_most)

        pub board_start_fits : Number w64 (from + 86 * i)
        board_start_fits = record { fits = omega (arith, board_low) }

        pub board_start : from + 86 * i ≡ boards_start (length (store_of v).pages) (store_of v).slots + 86 * i
        board_start = ap (λ n. n + 86 * i) (starts ∙ ap₂ boards_start (there ∙ pages_count) (slots ∙ slots_count))

  -- the words of board i start at a
  module _ (i a : ℕ) (inside : i < length (store_of v).boards) (starts : a ≡ boards_start (length (store_of v).pages) (store_of v).slots + 86 * i) where
    pub board_room : a + 86 ≤ length v
    unfolding store_length boards_start
    board_room = omega (arith, long)

    pub board_part : take (a + 86 - a) (drop a v) ≡ board_words (board_at (store_of v) i)
    board_part = rw (lent, starts) (rw h.written at (board_words_there (store_of v) h.fits i inside))

    pub board_back : (b : Board) (ws : List ℕ) → ws ≡ board_words b
        → put_mid a (a + 86 - a) v ws ≡ words (with_boards (store_of v) (set (store_of v).boards i b))
    board_back b ws e =
        lent_back v a 86 ws ∙ rw (e, starts) (sym (rw h.written at (board_written (store_of v) h.fits i inside b)))
