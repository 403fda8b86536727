-- The memo's part of a store's words: from where to where it is lent. Assumes nothing.
use Prim.Native.Nat.{ℕ, ◌*◌, ◌-◌, ◌≤◌}
use native.Mathlib.Omega.{arith}
use mathlib.Core.Path.{◌≡◌, ◌∙◌, ap}
use mathlib.Core.List.{List}
use lib.ListN.{length, get_or, take, drop}
use mir.Syntax.{w64}
use mir.Val.{Fits as Number}
use Rattle.rules.specs.Store.{memo_start, boards_start, store_length, memo_words, store_of}
use Rattle.rules.specs.laws.Header.{pages_there, slots_there}
use Rattle.rules.specs.laws.Parts.{memo_there}
use Rattle.rules.specs.laws.Words.{words-length}
use Rattle.memo.specs.Slots.{HoldsMemo}

module _ (w : List ℕ) (h : HoldsMemo w) where
  long : length w ≡ store_length (length (store_of w).pages) (store_of w).slots (length (store_of w).boards)
  long = rw h.written at (words-length (store_of w) h.fits)

  pub header_long : 16 ≤ length w
  unfolding store_length
  header_long = omega (arith, long)

  module _ (p k : ℕ) (pages : p ≡ get_or w 5 0) (slots : k ≡ get_or w 7 0) where
    page-count : p ≡ length (store_of w).pages
    page-count = pages ∙ rw h.written at (pages_there (store_of w))

    slot-count : k ≡ (store_of w).slots
    slot-count = slots ∙ rw h.written at (slots_there (store_of w))

    pub pages_few : p ≤ 192
    pages_few = omega (arith, page-count, h.pages_most)

    pub slots_few : k ≤ 1_024
    slots_few = omega (arith, slot-count, h.slots_most)

    module _ (a e : ℕ) (starts : a ≡ memo_start p) (ends : e ≡ boards_start p k) where
      pub part_ordered : a ≤ e
      unfolding memo_start boards_start
      part_ordered = omega arith

      pub part_inside : e ≤ length w
      unfolding boards_start store_length
      part_inside = omega (arith, long, page-count, slot-count)

      -- where it starts in bytes is a number of 64 bits
      pub part_fits : Number w64 (a * 4)
      unfolding memo_start
      part_fits = record { fits = omega (arith, pages_few) }

      pub part_is_memo : take (e - a) (drop a w) ≡ memo_words (store_of w).slots (store_of w).memo
      unfolding memo_start boards_start
      part_is_memo =
          let n : e - a ≡ 3 * (store_of w).slots = omega (arith, slot-count) in
          let s : a ≡ memo_start (length (store_of w).pages) = starts ∙ ap memo_start page-count in
          rw (n, s) (rw h.written at (memo_there (store_of w) h.fits))
