-- What each way out of a call says of the whole call: one that the judging refuses, and one that is refused or done after it.
use Rattle.std.specs.Prelude.{ℕ, zero, suc, ◌+◌, ◌-◌, ◌*◌, ◌/◌, ◌%◌, ◌≤◌, ◌<◌, ◌≡◌, refl, true, not, List, [], ◌∷◌, ◌++◌, map, take, drop, eqb, leb, ltb, length, Result, Ok, Err, IsErr, IsErrAnd}
use Rattle.std.proofs.Common.{arith, sym, ◌∙◌, ap, Fits as Number}
use Rattle.std.proofs.lemmas.Bool.{not-false}
use Rattle.std.specs.Int.{w64}
use Rattle.std.specs.Result.{result_unwrap_or}
use mathlib.Core.List.{flat_map}
use Rattle.rules.specs.declared.Window.{Window}
use Rattle.rules.specs.declared.refusal.Refusal.{Refusal as Reason}
use Rattle.rules.specs.Boxes.{proper_window}
use Rattle.rules.specs.Store.{Board, board_at, row_words, store_of}
use Rattle.rules.specs.Live.{rows_in}
use Rattle.rules.specs.Boards.{is_open}
use Rattle.rules.specs.Sound.{sound_words}
use Rattle.rules.specs.Numbers.{Refusal, ◌when◌, first_met}
use Rattle.rules.specs.Refused.{number_of, answer_number}
use Rattle.rules.specs.Calls.{store_tests, run_number, ran_by, run_call, query_number, queried_by, query_call, board_test, board_rows}
use Rattle.rules.specs.laws.Numbers.{Numbered, unmet, met_first, none_met}
use Rattle.rules.specs.laws.Placed.{Placed}
use Rattle.query.specs.Keys.{row_of_key, Found, Searchable, sound_searchable, searchable_placed}
use Rattle.query.specs.Rows.{answer-written}
use Rattle.index.specs.Answers.{answer_for, refused_for, Answered}
use Rattle.parts.specs.BoardAt.{BoardAt}
use Rattle.index.specs.declared.Part.{Part as Rows}
use Rattle.index.specs.Rows.{part_by, board_part, part_of_answer, read_placed, read_inside, Inside, part_inside}
use Rattle.steps.specs.Refusals.{numbered, handed_on}

tests_numbered : (v : List ℕ) → Numbered (store_tests v)
unfolding store_tests
tests_numbered v = omega arith

-- ---- a store that is judged not sound
refused : (v : List ℕ) (e : Reason) → number_of e ≡ first_met (store_tests v) → (qs : List Refusal) → first_met (store_tests v ++ qs) ≡ number_of e
refused v e h qs = met_first (store_tests v) qs (λ z. numbered e (h ∙ z)) ∙ sym h

pub test_refused : (v : List ℕ) (i : ℕ) (r : Result (Unit {0}) Reason) (e : Reason) → IsErr r × IsErrAnd r (λ f. f ≡ e) → number_of e ≡ first_met (store_tests v) → answer_number r ≡ board_test v i
unfolding board_test
test_refused v i r e h n = ap answer_number (handed_on r e h) ∙ sym (refused v e n _)

-- ---- one that is judged sound
module _ (v : List ℕ) (z : 0 ≡ first_met (store_tests v)) where
  passed : (qs : List Refusal) → first_met (store_tests v ++ qs) ≡ first_met qs
  passed qs = none_met (store_tests v) qs (tests_numbered v) (sym z)

  pub judged_sound : sound_words v ≡ true
  unfolding store_tests
  judged_sound = not-false _ (unmet (store_tests v) (tests_numbered v) (sym z)).1.1.1.0

  pub searchable : Searchable v
  searchable = sound_searchable v judged_sound

  pub placed : Placed v
  placed = searchable_placed v searchable

pub test_passed : (v : List ℕ) (i : ℕ) → 0 ≡ first_met (store_tests v)
    → board_test v i ≡ first_met ((9 when leb (length (store_of v).boards) i) ∷ (10 when not (is_open (board_at (store_of v) i))) ∷ [])
unfolding board_test
test_passed v i z = passed v z _

-- ---- a run
run_with : (w v answers : List ℕ) (e : Reason) → run_number w v answers ≡ number_of e → run_call w v answers ≡ record { number = number_of e; store = w; answers = answers }
unfolding run_call ran_by
run_with w v answers e h = go (number_of e) (numbered e) h
  where
    go : (n : ℕ) → (n ≡ 0 → ⊥) → run_number w v answers ≡ n → ran_by (run_number w v answers) w v answers ≡ record { number = n; store = w; answers = answers }
    go zero k q = absurd (k refl)
    go (suc n) k q = rw q

pub run_refused : (w v answers : List ℕ) (r : Result (Unit {0}) Reason) (e : Reason) → IsErr r × IsErrAnd r (λ f. f ≡ e) → number_of e ≡ first_met (store_tests w)
    → run_call w v answers ≡ record { number = answer_number r; store = w; answers = answers }
unfolding run_number
run_refused w v answers r e h n = rw (handed_on r e h) (run_with w v answers e (refused w e n _))

pub run_passed : (w v answers : List ℕ) → 0 ≡ first_met (store_tests w)
    → run_call w v answers ≡ ran_by (first_met ((4 when not (eqb (length v % 6) 0)) ∷ (5 when not (eqb (length answers) (2 * (length v / 6)))) ∷ [])) w v answers
unfolding run_call run_number
run_passed w v answers z = ap (λ n. ran_by n w v answers) (passed w z _)

-- ---- a query
pub query_passed : (v : List ℕ) (w : Window) (rows : List ℕ) → 0 ≡ first_met (store_tests v)
    → query_number v w rows ≡ first_met ((8 when not (proper_window w)) ∷ (15 when ltb (length rows) (5 * length (rows_in (store_of v) w))) ∷ [])
unfolding query_number
query_passed v w rows z = passed v z _

pub query_with : (v : List ℕ) (w : Window) (rows : List ℕ) (e : Reason) → query_number v w rows ≡ number_of e → Answered (query_call v w rows) (Err e) rows
unfolding query_call queried_by
query_with v w rows e h =
    let q : query_call v w rows ≡ record { number = number_of e; count = 0; rows = rows } = go (number_of e) (numbered e) h in
    record { said = q; by_case = refused_for e 0 ∙ ap (λ c. answer_for c.number c.count) (sym q) }
  where
    go : (n : ℕ) → (n ≡ 0 → ⊥) → query_number v w rows ≡ n → queried_by (query_number v w rows) v w rows ≡ record { number = n; count = 0; rows = rows }
    go zero k q = absurd (k refl)
    go (suc n) k q = rw q

pub query_refused : (v : List ℕ) (w : Window) (rows : List ℕ) (r : Result ℕ Reason) (e : Reason) → IsErr r × IsErrAnd r (λ f. f ≡ e) → number_of e ≡ first_met (store_tests v)
    → Answered (query_call v w rows) r rows
unfolding query_number
query_refused v w rows r e h n = rw (handed_on r e h) (query_with v w rows e (refused v e n _))

pub query_listed : (v : List ℕ) (w : Window) (rows : List ℕ) → query_number v w rows ≡ 0 → (keys work : List ℕ) (n : ℕ) (keys' work' : List ℕ) → Found (store_of v) w keys work n keys' work'
    → (out : List ℕ) → out ≡ flat_map row_words (map (row_of_key (store_of v).pages) (take n keys')) ++ drop (5 * length (take n keys')) rows → Answered (query_call v w rows) (Ok n) out
unfolding query_call queried_by
query_listed v w rows z keys work n keys' work' f out o = rw (z, answer-written rows out f o, f.many) (record { said = refl; by_case = refl })

-- ---- a board's rows
pub part_refused : (v : List ℕ) (i : ℕ) (r : Result Rows Reason) (e : Reason) → IsErr r × IsErrAnd r (λ f. f ≡ e) → number_of e ≡ board_test v i → board_part v i ≡ part_of_answer r
unfolding board_part part_by
part_refused v i r e h n = rw (handed_on r e h, sym n) (go (number_of e) (numbered e))
  where
    go : (m : ℕ) → (m ≡ 0 → ⊥) → part_by m v i ≡ record { number = m; from = 0; to = 0 }
    go zero k = absurd (k refl)
    go (suc m) k = refl

module _ (v : List ℕ) (i : ℕ) (z : 0 ≡ board_test v i) where
  pub part_placed : Placed v
  part_placed = read_placed v i (sym z)

  pub part_board : i < length (store_of v).boards
  part_board = read_inside v i (sym z)

  pub part_found : (a n : ℕ) (b : Board) → BoardAt v i a → b ≡ board_at (store_of v) i → n ≡ length b.rows → board_part v i ≡ record { number = 0; from = a + 6; to = a + 6 + 5 * n }
  unfolding board_part part_by
  part_found a n b at here many = rw (sym z, ← at.starts, ← here, many)

-- the part is that of the answer, or empty
module _ (v : List ℕ) (i : ℕ) (r : Result Rows Reason) (e : board_part v i ≡ part_of_answer r) (q : Rows) (or_none : q ≡ result_unwrap_or r (record { from = 0; to = 0 })) where
  inside : Inside v (board_rows v i) (record { number = answer_number r; from = q.from; to = q.to })
  inside = go r q or_none (part_inside v i (part_of_answer r) (sym e))
    where
      go : (r : Result Rows Reason) (q : Rows) → q ≡ result_unwrap_or r (record { from = 0; to = 0 }) → Inside v (board_rows v i) (part_of_answer r)
          → Inside v (board_rows v i) (record { number = answer_number r; from = q.from; to = q.to })
      go (Ok x) q h p = rw h p
      go (Err f) q h p = rw h p

  pub part_fits : Number w64 (q.from * 4)
  part_fits = record { fits = omega (arith, inside.ordered, inside.low) }

  pub part_ordered : q.from ≤ q.to
  part_ordered = inside.ordered

  pub part_within : q.to ≤ length v
  part_within = inside.within

  pub part_holds : take (q.to - q.from) (drop q.from v) ≡ board_rows v i
  part_holds = inside.holds
