-- What the tests of a board and its rows come to, in a store that each call accepts. Assumes nothing.
use Prim.Native.Nat.{ℕ, ◌+◌, ◌*◌, ◌/◌, ◌≤◌, ◌<◌}
use native.Mathlib.Omega.{arith}
use native.Mathlib.Numerals.{add-one}
use mathlib.Core.Path.{◌≡◌, refl, sym, ◌∙◌}
use mathlib.Core.Bool.{Bool, true, false, not, cond}
use mathlib.Core.List.{List, [], map, flat_map, append-nil}
use lib.ListN.{length, get_or, drop, length-map, drop_of_length-le}
use lib.Seq.{drop-cons}
use borrow.Author.Tests.{lt-leb, ltb-false, not-false}
use Rattle.rules.specs.Lists.{cut}
use Rattle.rules.specs.Store.{Board, closed, row_limit, row_words, board_at, board_of, boards_start, store_of, store_length}
use Rattle.rules.specs.Boards.{is_open}
use Rattle.rules.specs.Sound.{sizes_in_range}
use Rattle.std.specs.Prelude.{Result, Ok, Err}
use Rattle.std.specs.Result.{is_err}
use Rattle.rules.specs.declared.refusal.Refusal.{Refusal as Reason}
use Rattle.rules.specs.Refused.{number_of, answer_number}
use Rattle.rules.specs.Numbers.{first_met}
use Rattle.rules.specs.Calls.{sizes_read, store_tests, board_test, rows_by, board_rows}
use Rattle.rules.specs.Views.{Sizes, sizes_in_range-holds}
use Rattle.rules.specs.laws.All.{always}
use Rattle.rules.specs.laws.Numbers.{unmet}
use Rattle.rules.specs.laws.Parts.{board_fits}
use Rattle.rules.specs.laws.Places.{cut-length}
use Rattle.rules.specs.laws.Words.{in_range_fits, flat_length, cut_flat, row_words-length}
use Rattle.rules.specs.theorems.WordsAndBack.{sound-in_range, accepted_words}
use Rattle.text.specs.Printing.{board_lines}
use Rattle.text.specs.Program.{open_lines, boards_from}
use Rattle.text.specs.Laid.{Laid, Partly, nothing_laid, one_more, all_laid}
use Rattle.program.specs.Parts.{Accepted, store_room}

-- ---- how long a store is
module _ (p k b : ℕ) where
  pub no_room : false ≡ sizes_in_range p k b → 0 ≡ store_room p k b
  unfolding store_room
  no_room e = rw (sym e)

  module _ (e : true ≡ sizes_in_range p k b) where
    pub given_sizes : Sizes p k b
    given_sizes = sizes_in_range-holds p k b (sym e)

    pub some_room : (n : ℕ) → n ≡ store_length p k b → n ≡ store_room p k b
    unfolding store_room
    some_room n g = rw (sym e) g

    pub room_most : (n : ℕ) → n ≡ store_length p k b → n ≤ 15_824
    unfolding store_length
    room_most n g = omega (arith, given_sizes.pages_most, given_sizes.slots_most, given_sizes.boards_most)

-- ---- no refusal has the number of what is done
pub numbered : (e : Reason) → number_of e ≡ 0 → ⊥
numbered e = grind arith

-- ---- a board of an accepted store
module _ (w : List ℕ) (ok : Accepted w) (i : ℕ) (inside : i < length (store_of w).boards) where
  abbrev board : Board
  board = board_at (store_of w) i

  few : length board.rows ≤ row_limit
  few = board_fits (store_of w) (in_range_fits (store_of w) (sound-in_range (store_of w) (accepted_words w ok).1)) i inside

  tested : board_test w i ≡ cond (not (is_open board)) 10 0
  unfolding board_test store_tests first_met
  tested =
      let u = unmet (store_tests w) (omega arith) ok in
      rw (u.0, u.1.0, u.1.1.0, u.1.1.1.0, lt-leb (length (store_of w).boards) i inside)

  -- what the board's test answers
  module _ (r : Result (Unit {0}) Reason) (e : answer_number r ≡ board_test w i) where
    opened : is_err r ≡ false → is_open board ≡ true
    opened z = go (is_open board) r (sym tested ∙ sym e) z
      where
        go : (o : Bool) (r : Result (Unit {0}) Reason) → cond (not o) 10 0 ≡ answer_number r → is_err r ≡ false → o ≡ true
        go true r q z = refl
        go false (Ok x) q z = absurd (omega arith)
        go false (Err f) q z = absurd (cc)

    shut : is_err r ≡ true → is_open board ≡ false
    shut z = go (is_open board) r (sym tested ∙ sym e) z
      where
        go : (o : Bool) (r : Result (Unit {0}) Reason) → cond (not o) 10 0 ≡ answer_number r → is_err r ≡ true → o ≡ false
        go true (Ok x) q z = absurd (cc)
        go true (Err f) q z = absurd (numbered f (sym q))
        go false r q z = refl

    pub nothing_shown : is_err r ≡ true → (out : List ℕ) (at : ℕ) → at + 913 ≤ length out → Laid out at (open_lines i board) out at
    unfolding open_lines
    nothing_shown z out at h = rw (shut z) (nothing_laid out at (omega arith))

    done : is_err r ≡ false → board_test w i ≡ 0
    done z = sym e ∙ go r z
      where
        go : (r : Result (Unit {0}) Reason) → is_err r ≡ false → answer_number r ≡ 0
        go (Ok x) z = refl
        go (Err f) z = absurd (cc)

  module _ (r : Result (Unit {0}) Reason) (e : answer_number r ≡ board_test w i) (z : is_err r ≡ false) (rows : List ℕ) (given : rows ≡ board_rows w i) where
    rows_there : rows ≡ flat_map row_words board.rows
    unfolding board_rows rows_by
    rows_there = given ∙ rw (done r e z)

    many : length rows ≡ 5 * length board.rows
    many = rw rows_there (flat_length row_words 5 (always row_words-length board.rows))

    fifth : length rows / 5 ≡ length board.rows
    fifth = omega (arith, many)

    pub count_fits : length rows / 5 ≤ 4_294_967_295
    count_fits = omega (arith, fifth, few)

    pub rows_whole : length rows ≡ 5 * (length rows / 5)
    rows_whole = omega (arith, many)

    pub rows_room : (at : ℕ) (out : List ℕ) → at + 913 ≤ length out → at + 33 + 55 * (length rows / 5) ≤ length out
    rows_room at out h = omega (arith, fifth, few)

    pub rows_near : (at r : ℕ) → r ≤ at + 33 + 55 * (length rows / 5) → r ≤ at + 913
    rows_near at r h = omega (arith, fifth, few)

    pub board_shown : (out : List ℕ) (at : ℕ) (after : List ℕ) (to : ℕ) → Laid out at (board_lines i (cut (length rows / 5) 5 rows)) after to → Laid out at (open_lines i board) after to
    unfolding open_lines
    board_shown out at after to l =
        let parted : cut (length rows / 5) 5 rows ≡ map row_words board.rows =
        rw (fifth, rows_there, ← append-nil (flat_map row_words board.rows)) (cut_flat row_words 5 (always row_words-length board.rows) []) in
        rw (opened r e z) (rw parted at l)

-- ---- boards one after the other: those from i on are left
abbrev pub boards_left : List ℕ → ℕ → List ℕ
boards_left w i = boards_from i (drop i (store_of w).boards)

module _ (w : List ℕ) (ok : Accepted w) where
  pub header_long : 16 ≤ length w
  unfolding store_tests
  header_long = ltb-false _ _ (unmet (store_tests w) (omega arith) ok).0

  module _ (b : ℕ) (read : b ≡ get_or w 9 0) where
    pub boards_few : b ≤ 32
    unfolding store_tests sizes_read
    boards_few = omega (arith, (sizes_in_range-holds _ _ _ (not-false _ (unmet (store_tests w) (omega arith) ok).1.0)).boards_most)

    counted : b ≡ length (store_of w).boards
    unfolding store_of
    counted = read ∙ sym (length-map (cut (get_or w 9 0) 86 (drop (boards_start (get_or w 5 0) (get_or w 7 0)) w)) board_of ∙ cut-length (get_or w 9 0) 86 (drop (boards_start (get_or w 5 0) (get_or w 7 0)) w))

    module _ (i : ℕ) where
      pub board_inside : i < b → i < length (store_of w).boards
      board_inside h = omega (arith, counted)

      module _ (out : List ℕ) (at : ℕ) (now : List ℕ) (to : ℕ) (p : Partly out at (boards_left w 0) now to (boards_left w i)) where
        pub board_more : i < b → (after : List ℕ) (e : ℕ) → Laid now to (open_lines i (board_at (store_of w) i)) after e → Partly out at (boards_left w 0) after e (boards_left w (i + 1))
        unfolding boards_from board_at
        board_more h after e l = one_more p l (rw (drop-cons (store_of w).boards i closed (omega (arith, counted)), add-one i))

        pub boards_all : b ≤ i → Laid out at (boards_left w 0) now to
        unfolding boards_from
        boards_all h = all_laid p (rw (drop_of_length-le (store_of w).boards {i = i} (omega (arith, counted))))
