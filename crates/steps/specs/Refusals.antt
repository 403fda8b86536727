-- What a step of each kind can be refused with: of the tests in the table, those that its kind can meet.
use Rattle.std.specs.Prelude.{◌*◌, ◌≡◌, true, false, not, List, [], ◌∷◌, ◌++◌, eqb, leb, ltb, length, Result, Ok, Err, IsErr, IsErrAnd}
use Rattle.std.proofs.Common.{arith, ap}
use Rattle.std.proofs.Math.Bool.{or-false}
use Rattle.rules.specs.declared.Step.{Step}
use Rattle.rules.specs.Lists.{some_one}
use Rattle.rules.specs.Boxes.{proper_box, proper_window}
use Rattle.rules.specs.Store.{Store, limit, row_limit, board_at}
use Rattle.rules.specs.Live.{held, rows_in}
use Rattle.rules.specs.Boards.{is_open, overfull}
use Rattle.rules.specs.declared.refusal.Refusal.{Refusal as Reason}
use Rattle.rules.specs.Refused.{number_of}
use Rattle.rules.specs.Numbers.{Refusal, ◌when◌, first_met}
use Rattle.rules.specs.Steps.{its_train, reported_box, reported_row, its_window, in_form, refusal}
use Rattle.parts.specs.Promises.{no_slot_left}

abbrev pub report_tests : Store → Step → List Refusal
report_tests s x =
    (7 when eqb (its_train x).0 0)
    ∷ (8 when not (proper_box (reported_box x)))
    ∷ (11 when eqb s.next.0 limit)
    ∷ (12 when leb (3 * length s.pages) (length (held s)))
    ∷ (13 when no_slot_left s (its_train x))
    ∷ (14 when some_one (overfull (reported_row x)) s.boards)
    ∷ []

abbrev pub withdraw_tests : Store → Step → List Refusal
withdraw_tests s x = (7 when eqb (its_train x).0 0) ∷ (11 when eqb s.next.0 limit) ∷ (13 when no_slot_left s (its_train x)) ∷ []

-- 14 needs the rows of the window, and is tried after the others
abbrev pub opening_tests : Store → Step → List Refusal
opening_tests s x =
    (8 when not (proper_window (its_window x))) ∷ (9 when leb (length s.boards) x.a) ∷ (10 when is_open (board_at s x.a)) ∷ []

abbrev pub rows_test : Store → Step → List Refusal
rows_test s x = (14 when ltb row_limit (length (rows_in s (its_window x)))) ∷ []

abbrev pub close_tests : Store → Step → List Refusal
close_tests s x = (9 when leb (length s.boards) x.a) ∷ (10 when not (is_open (board_at s x.a))) ∷ []

-- no refusal has the number of what is done
pub numbered : (e : Reason) → number_of e ≡ 0 → ⊥
numbered e = grind arith

-- each has its own
pub number_settles : (e f : Reason) → number_of e ≡ number_of f → e ≡ f
number_settles e f h = grind arith

-- a refusal that `?` hands on
pub handed_on : {A : Type 0} (r : Result A Reason) (e : Reason) → IsErr r × IsErrAnd r (λ f. f ≡ e) → r ≡ Err e
handed_on (Ok x) e h = absurd h.1
handed_on (Err f) e h = ap Err h.1

module _ (s : Store) (x : Step) where
  -- a step that isn't in form is refused with 6
  pub out_of_form : in_form x ≡ false → refusal s x ≡ 6
  unfolding refusal first_met
  out_of_form e = rw e

  module _ (formed : in_form x ≡ true) where
    pub report-refusal : x.kind ≡ 1 → refusal s x ≡ first_met (report_tests s x)
    unfolding refusal first_met
    report-refusal k = rw (formed, k, or-false (not (proper_box (reported_box x))), or-false (some_one (overfull (reported_row x)) s.boards))

    pub withdraw-refusal : x.kind ≡ 2 → refusal s x ≡ first_met (withdraw_tests s x)
    unfolding refusal first_met
    withdraw-refusal k = rw (formed, k)

    pub open_refusal : x.kind ≡ 5 → refusal s x ≡ first_met (opening_tests s x ++ rows_test s x)
    unfolding refusal first_met
    open_refusal k = rw (formed, k, or-false (is_open (board_at s x.a)))

    pub close_refusal : x.kind ≡ 6 → refusal s x ≡ first_met (close_tests s x)
    unfolding refusal first_met
    close_refusal k = rw (formed, k)
