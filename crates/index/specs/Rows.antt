-- Where a board's rows stand in the store, and that they are the rows that reading the board hands out.
use Rattle.std.specs.Prelude.{ℕ, zero, suc, ◌+◌, ◌-◌, ◌*◌, ◌≤◌, ◌<◌, ◌≡◌, refl, not, leb, length, take, drop, Result, Ok, Err}
use Rattle.std.proofs.Common.{arith, sym, ◌∙◌, ap, take-append-drop, length-drop, take_at, drop-drop, length-take-le}
use Rattle.std.proofs.Math.Nat.{add-sub_cancel_left}
use mathlib.Core.List.{List, [], ◌∷◌, ◌++◌, flat_map}
use Rattle.std.proofs.lemmas.List.{take-append-le, drop-append-le}
use borrow.Author.Tests.{leb-false, not-false}
use Rattle.rules.specs.declared.refusal.Refusal.{Refusal as Reason}
use Rattle.rules.specs.Lists.{padded}
use Rattle.rules.specs.Store.{Board, row_limit, boards_start, board_at, row_words, window_words, board_words, store_of}
use Rattle.rules.specs.Boards.{is_open}
use Rattle.rules.specs.Numbers.{Refusal, ◌when◌}
use Rattle.rules.specs.Refused.{answer_number}
use Rattle.rules.specs.Calls.{store_tests, board_test, rows_by, board_rows}
use Rattle.steps.specs.Refusals.{numbered, number_settles}
use Rattle.rules.specs.laws.All.{always}
use Rattle.rules.specs.laws.Numbers.{unmet}
use Rattle.rules.specs.laws.Words.{flat_length, row_words-length}
use Rattle.rules.specs.laws.Placed.{Placed}
use Rattle.query.specs.Keys.{sound_searchable, searchable_placed}
use Rattle.parts.specs.BoardAt.{BoardAt, board_placed}
use Rattle.index.specs.declared.Part.{Part as Rows}

-- what is answered: the test's number, and the part
pub record Part : Type 0 where
  pub number : ℕ
  pub from : ℕ
  pub to : ℕ

-- the part of each case: an empty one where it is refused
abbrev pub part_from : Result Rows Reason → ℕ
part_from (Ok rows) = rows.from
part_from (Err refusal) = 0

abbrev pub part_to : Result Rows Reason → ℕ
part_to (Ok rows) = rows.to
part_to (Err refusal) = 0

-- the rows stand behind the board's six first words; where the test refuses, the part is empty
unfoldable pub part_by : ℕ → List ℕ → ℕ → Part
part_by zero w i =
    let s = store_of w in
    let from = boards_start (length s.pages) s.slots + 86 * i + 6 in
    record { number = 0; from = from; to = from + 5 * length (board_at s i).rows }
part_by (suc n) w i = record { number = suc n; from = 0; to = 0 }

unfoldable pub board_part : List ℕ → ℕ → Part
board_part w i = part_by (board_test w i) w i

abbrev pub part_of_answer : Result Rows Reason → Part
part_of_answer r = record { number = answer_number r; from = part_from r; to = part_to r }

-- two outcomes that its promise allows are equal
pub part_settled : (w : List ℕ) (i : ℕ) (r r' : Result Rows Reason) → board_part w i ≡ part_of_answer r → board_part w i ≡ part_of_answer r' → r ≡ r'
part_settled w i r r' e f =
    let g : part_of_answer r ≡ part_of_answer r' = sym e ∙ f in
    settled r r' (ap (λ p. p.number) g) (ap (λ p. p.from) g) (ap (λ p. p.to) g)
  where
    settled : (r r' : Result Rows Reason) → answer_number r ≡ answer_number r' → part_from r ≡ part_from r' → part_to r ≡ part_to r' → r ≡ r'
    settled (Ok x) (Ok y) n a b = grind (arith, a, b)
    settled (Ok x) (Err f) n a b = absurd (numbered f (sym n))
    settled (Err e) (Ok y) n a b = absurd (numbered e n)
    settled (Err e) (Err f) n a b = ap Err (number_settles e f n)

-- ---- a board that can be read
module _ (v : List ℕ) (i : ℕ) (e : board_test v i ≡ 0) where
  abbrev others : List Refusal
  others = (9 when leb (length (store_of v).boards) i) ∷ (10 when not (is_open (board_at (store_of v) i))) ∷ []

  pub read_placed : Placed v
  unfolding board_test store_tests
  read_placed = searchable_placed v (sound_searchable v (not-false _ (unmet (store_tests v ++ others) (omega arith) e).1.1.1.0))

  pub read_inside : i < length (store_of v).boards
  unfolding board_test store_tests
  read_inside = leb-false _ _ (unmet (store_tests v ++ others) (omega arith) e).1.1.1.1.0

-- ---- what stands in the part
rows_there : (b : Board) → take (5 * length b.rows) (drop 6 (board_words b)) ≡ flat_map row_words b.rows
unfolding board_words window_words padded
rows_there b = take_at (flat_map row_words b.rows) _ (5 * length b.rows) (flat_length row_words 5 (always row_words-length b.rows))

-- a part of a part
part_of : (w : List ℕ) (m j k : ℕ) → m ≤ length w → j + k ≤ m → take k (drop j (take m w)) ≡ take k (drop j w)
part_of w m j k h g =
    let l = length-take-le m w h in
    sym (ap (λ z. take k (drop j z)) (sym (take-append-drop m w)) ∙ rw (drop-append-le j (take m w) (drop m w) (omega arith)) (take-append-le k (drop j (take m w)) (drop m w) (simp length-drop (omega arith))))

-- from the board's start a on
module _ (v : List ℕ) (i a : ℕ) (at : BoardAt v i a) where
  abbrev board : Board
  board = board_at (store_of v) i

  few : length board.rows ≤ row_limit
  few = rw at.there at at.own.few

  rows_inside : a + 6 + 5 * length board.rows ≤ length v
  rows_inside = omega (arith, few, at.room)

  rows_low : a + 6 + 5 * length board.rows ≤ 15_824
  rows_low = omega (arith, few, at.low)

  rows_read : take (a + 6 + 5 * length board.rows - (a + 6)) (drop (a + 6) v) ≡ flat_map row_words board.rows
  rows_read =
      let n = length board.rows in
      let l : take (a + 86 - a) (drop a v) ≡ take 86 (drop a v) = rw (add-sub_cancel_left a 86) in
      let same : board_words board ≡ take 86 (drop a v) = rw (at.there, l) at at.own.same in
      let room : 86 ≤ length (drop a v) = simp length-drop (omega (arith, at.room)) in
      rw (add-sub_cancel_left (a + 6) (5 * n), ← drop-drop 6 a v, ← part_of (drop a v) 86 6 (5 * n) room (omega (arith, few)), ← same) (rows_there board)

-- the part lies in the store, which has at most 15,824 words, and what stands in it is what reading the board hands out
pub record Inside (v : List ℕ) (rows : List ℕ) (p : Part) : Type 0 where
  pub ordered : p.from ≤ p.to
  pub within : p.to ≤ length v
  pub low : p.to ≤ 15_824
  pub holds : take (p.to - p.from) (drop p.from v) ≡ rows

inside_by : (v : List ℕ) (i m : ℕ) → board_test v i ≡ m → Inside v (rows_by m v i) (part_by m v i)
unfolding part_by rows_by
inside_by v i zero e =
    let at = board_placed v (read_placed v i e) i (read_inside v i e) in
    record { ordered = omega arith; within = rows_inside v i _ at; low = rows_low v i _ at; holds = rows_read v i _ at }
inside_by v i (suc m) e = record { ordered = omega arith; within = omega arith; low = omega arith; holds = refl }

pub part_inside : (v : List ℕ) (i : ℕ) (p : Part) → p ≡ board_part v i → Inside v (board_rows v i) p
unfolding board_part board_rows
part_inside v i p e = rw e (inside_by v i (board_test v i) refl)
