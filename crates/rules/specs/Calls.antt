-- The calls, over the words of the lent slices: what each answers, and what each slice holds after it.
use Rattle.std.specs.Prelude.{ℕ, zero, suc, ◌*◌, ◌/◌, ◌%◌, Bool, not, eqb, leb, ltb, length, get_or, take, drop}
use mathlib.Core.List.{List, [], ◌∷◌, ◌++◌, map, flat_map}
use Rattle.rules.specs.declared.Window.{Window}
use Rattle.rules.specs.Lists.{all_of, every, cut, lists_open}
use Rattle.rules.specs.Boxes.{proper_window, boxes_open}
use Rattle.rules.specs.Store.{memo_start, boards_start, store_length, board_at, row_words, words, store_of, fresh, store_open}
use Rattle.rules.specs.Memo.{memo_open}
use Rattle.rules.specs.Live.{rows_in, live_open}
use Rattle.rules.specs.Tree.{tree_open}
use Rattle.rules.specs.Cleaning.{cleaning_open}
use Rattle.rules.specs.Sound.{sizes_in_range, sound_words, sound_open}
use Rattle.rules.specs.Boards.{is_open, boards_open}
use Rattle.rules.specs.Numbers.{Refusal, ◌when◌, first_met, numbers_open}
use Rattle.rules.specs.Steps.{step_of, run, steps_open}

-- ---- the tests of a lent store, the same for each call but start
unfoldable pub sizes_read : List ℕ → Bool
sizes_read w = sizes_in_range (get_or w 5 0) (get_or w 7 0) (get_or w 9 0)

-- the right length, and words 0, 4, 6, 8 and 10 to 15
unfoldable pub laid_out : List ℕ → Bool
laid_out w =
    let p = get_or w 5 0 in
    let k = get_or w 7 0 in
    all_of
    (eqb (length w) (store_length p k (get_or w 9 0))
    ∷ eqb (get_or w 0 0) 1
    ∷ eqb (get_or w 4 0) 16
    ∷ eqb (get_or w 6 0) (memo_start p)
    ∷ eqb (get_or w 8 0) (boards_start p k)
    ∷ every (λ n. eqb n 0) (take 6 (drop 10 w))
    ∷ [])

-- a store under 16 words gives 2, as its counts can't be read
unfoldable pub store_tests : List ℕ → List Refusal
store_tests w =
    (2 when ltb (length w) 16) ∷ (1 when not (sizes_read w)) ∷ (2 when not (laid_out w)) ∷ (3 when not (sound_words w)) ∷ []

-- ---- start: 1, then 2 for the slice's length; otherwise the fresh store, whatever the slice held
unfoldable pub start_number : ℕ → ℕ → ℕ → List ℕ → ℕ
start_number p k b w = first_met ((1 when not (sizes_in_range p k b)) ∷ (2 when not (eqb (length w) (store_length p k b))) ∷ [])

pub record Started : Type 0 where
  pub number : ℕ
  pub store : List ℕ

unfoldable pub started_by : ℕ → ℕ → ℕ → ℕ → List ℕ → Started
started_by zero p k b w = record { number = 0; store = words (fresh p k b) }
started_by (suc n) p k b w = record { number = suc n; store = w }

unfoldable pub start : ℕ → ℕ → ℕ → List ℕ → Started
start p k b w = started_by (start_number p k b w) p k b w

-- ---- run: the store judged once, then steps of six words, each answered by two; refused, every slice is untouched
unfoldable pub run_number : List ℕ → List ℕ → List ℕ → ℕ
run_number w steps answers =
    first_met
    (store_tests w
    ++ ((4 when not (eqb (length steps % 6) 0)) ∷ (5 when not (eqb (length answers) (2 * (length steps / 6)))) ∷ []))

pub record RunCall : Type 0 where
  pub number : ℕ
  pub store : List ℕ
  pub answers : List ℕ

unfoldable pub ran_by : ℕ → List ℕ → List ℕ → List ℕ → RunCall
ran_by zero w steps answers =
    let r = run (store_of w) (map step_of (cut (length steps / 6) 6 steps)) in
    record { number = 0; store = words r.store; answers = r.answers }
ran_by (suc n) w steps answers = record { number = suc n; store = w; answers = answers }

unfoldable pub run_call : List ℕ → List ℕ → List ℕ → RunCall
run_call w steps answers = ran_by (run_number w steps answers) w steps answers

-- ---- query: the rows from the row slice's start, words after the last row stay; refused, the slice is untouched
unfoldable pub query_number : List ℕ → Window → List ℕ → ℕ
query_number w window rows =
    first_met
    (store_tests w
    ++ ((8 when not (proper_window window)) ∷ (15 when ltb (length rows) (5 * length (rows_in (store_of w) window))) ∷ []))

pub record QueryCall : Type 0 where
  pub number : ℕ
  pub count : ℕ
  pub rows : List ℕ

unfoldable pub queried_by : ℕ → List ℕ → Window → List ℕ → QueryCall
queried_by zero w window rows =
    let listed = rows_in (store_of w) window in
    record { number = 0; count = length listed; rows = flat_map row_words listed ++ drop (5 * length listed) rows }
queried_by (suc n) w window rows = record { number = suc n; count = 0; rows = rows }

unfoldable pub query_call : List ℕ → Window → List ℕ → QueryCall
query_call w window rows = queried_by (query_number w window rows) w window rows

-- ---- board test, and board rows: the rows as they stand in the store, or an empty part where the test refuses
unfoldable pub board_test : List ℕ → ℕ → ℕ
board_test w i =
    let s = store_of w in
    first_met (store_tests w ++ ((9 when leb (length s.boards) i) ∷ (10 when not (is_open (board_at s i))) ∷ []))

unfoldable pub rows_by : ℕ → List ℕ → ℕ → List ℕ
rows_by zero w i = flat_map row_words (board_at (store_of w) i).rows
rows_by (suc n) w i = []

unfoldable pub board_rows : List ℕ → ℕ → List ℕ
board_rows w i = rows_by (board_test w i) w i

-- a proof that says `unfolding calls_open` sees through every definition of this file
unfoldable pub calls_open : Unit {0}
unfolding sizes_read laid_out store_tests start_number started_by start run_number ran_by run_call query_number queried_by query_call board_test rows_by board_rows
calls_open = tt

-- and one that says `unfolding rules_open` through every definition of all the files up to here
unfoldable pub rules_open : Unit {0}
unfolding lists_open boxes_open store_open memo_open live_open tree_open cleaning_open boards_open sound_open numbers_open steps_open calls_open
rules_open = tt
