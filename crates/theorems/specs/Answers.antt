-- What the calls answer on the words of a sound store, in terms of the store: so the demands, which speak of stores, hold of the calls.
use Rattle.std.specs.Prelude.{ℕ, ◌*◌, ◌/◌, ◌%◌, ◌≤◌, ◌<◌, ◌≡◌, true, false, ltb, length, drop}
use mathlib.Core.List.{List, ◌++◌, map, flat_map}
use Rattle.std.proofs.Common.{arith}
use borrow.Author.Tests.{le-ltb, lt-leb, eq-eqb}
use Rattle.rules.specs.declared.Window.{Window}
use Rattle.rules.specs.Boxes.{proper_window}
use Rattle.rules.specs.Store.{Store, board_at, words, store_of, row_words}
use Rattle.rules.specs.Live.{rows_in}
use Rattle.rules.specs.Sound.{sound}
use Rattle.rules.specs.Boards.{is_open}
use Rattle.rules.specs.declared.Step.{Step}
use Rattle.rules.specs.Steps.{step_of, run}
use Rattle.rules.specs.Numbers.{first_met}
use Rattle.rules.specs.Calls.{store_tests, query_number, queried_by, query_call, run_number, ran_by, run_call, board_test, rows_by, board_rows}
use Rattle.rules.specs.laws.Numbers.{unmet}
use Rattle.rules.specs.theorems.WordsAndBack.{words_read, words_accepted, sound-in_range}
use Rattle.rules.specs.Lists.{cut}

-- ---- the query call itself: with a proper window and room for its rows it answers 0 and those rows
pub query_answers : (s : Store) → sound s ≡ true → (w : Window) → proper_window w ≡ true → (out : List ℕ) → 5 * length (rows_in s w) ≤ length out
    → query_call (words s) w out ≡ record { number = 0; count = length (rows_in s w); rows = flat_map row_words (rows_in s w) ++ drop (5 * length (rows_in s w)) out }
unfolding query_call query_number queried_by store_tests first_met
query_answers s h w p out room =
    let t = unmet (store_tests (words s)) (omega arith) (words_accepted s h) in
    let e : store_of (words s) ≡ s = words_read s (sound-in_range s h) in
    let fits : ltb (length out) (5 * length (rows_in (store_of (words s)) w)) ≡ false = rw e (le-ltb _ _ room) in
    rw (t.0, t.1.0, t.1.1.0, t.1.1.1.0, p, fits, e)

-- ---- the run call: with whole steps and two answer words for each it answers 0, and store and answers are those of the run
abbrev pub steps_in : List ℕ → List Step
steps_in ws = map step_of (cut (length ws / 6) 6 ws)

pub run-answers : (s : Store) → sound s ≡ true → (steps answers : List ℕ) → length steps % 6 ≡ 0 → length answers ≡ 2 * (length steps / 6)
    → run_call (words s) steps answers ≡ record { number = 0; store = words (run s (steps_in steps)).store; answers = (run s (steps_in steps)).answers }
unfolding run_call run_number ran_by store_tests first_met
run-answers s h steps answers whole fits =
    let t = unmet (store_tests (words s)) (omega arith) (words_accepted s h) in
    let e : store_of (words s) ≡ s = words_read s (sound-in_range s h) in
    rw (t.0, t.1.0, t.1.1.0, t.1.1.1.0, eq-eqb _ _ whole, eq-eqb _ _ fits, e)

-- ---- the board calls: of an open board the test answers 0, and its rows are handed out
module _ (s : Store) (h : sound s ≡ true) (i : ℕ) (inside : i < length s.boards) (o : is_open (board_at s i) ≡ true) where
  pub board_answers : board_test (words s) i ≡ 0
  unfolding board_test store_tests first_met
  board_answers =
      let t = unmet (store_tests (words s)) (omega arith) (words_accepted s h) in
      let e : store_of (words s) ≡ s = words_read s (sound-in_range s h) in
      rw (t.0, t.1.0, t.1.1.0, t.1.1.1.0, e, lt-leb (length s.boards) i inside, o)

  pub rows_answers : board_rows (words s) i ≡ flat_map row_words (board_at s i).rows
  unfolding board_rows rows_by
  rows_answers = rw (board_answers, words_read s (sound-in_range s h))
