-- What each way out of a step of each kind says of the whole step.
use Rattle.std.specs.Prelude.{ℕ, ◌+◌, ◌-◌, ◌≤◌, ◌<◌, ◌≡◌, refl, true, false, List, length, ltb, Result, IsErr, IsErrAnd}
use Rattle.std.proofs.Common.{arith, sym, ◌∙◌, Fits as Number}
use Rattle.std.specs.Int.{w64}
use borrow.Author.Tests.{lt-ltb, le-ltb}
use Rattle.rules.specs.declared.Train.{Train}
use Rattle.rules.specs.declared.Box.{Box}
use Rattle.rules.specs.declared.Window.{Window}
use Rattle.rules.specs.declared.Step.{Step}
use Rattle.rules.specs.declared.refusal.Refusal.{Refusal}
use Rattle.rules.specs.declared.refusal.Refusal.TheVariants.{OutOfForm, TooManyRows}
use Rattle.rules.specs.Store.{row_limit, store_of}
use Rattle.rules.specs.Live.{rows_in}
use Rattle.rules.specs.Numbers.{first_met}
use Rattle.rules.specs.Refused.{number_of, answer_number, answer_count}
use Rattle.rules.specs.Steps.{in_form, refusal, report, withdraw, clean, inspect, open_board, close_board, effect, step}
use Rattle.rules.specs.Views.{sound-holds}
use Rattle.rules.specs.laws.Numbers.{met_first, none_met}
use Rattle.theorems.specs.Accepted.{TakesStamp, AcceptedReport, accepted_report, accepted_withdrawal, accepted_opening, accepted_closing}
use Rattle.theorems.specs.EveryStep.{clean_accepted, inspect_accepted}
use Rattle.steps.specs.declared.order.Order.TheVariants.{Report, Withdraw, Clean, Inspect, Open, Close}
use Rattle.steps.specs.Orders.{report_step, withdraw_step, clean_step, inspect_step, open_step, close_step, order_given}
use Rattle.steps.specs.Refusals.{report_tests, withdraw_tests, opening_tests, rows_test, close_tests, numbered, handed_on, out_of_form, report-refusal, withdraw-refusal, open_refusal, close_refusal}
use Rattle.steps.specs.Stepping.{Given, Effected, Stepped, KeepsHeld, stepped_refused, stepped_accepted}
use Rattle.steps.proofs.Entries.{report-entries, withdraw-entries, clean-entries, inspect-entries, open_entries, close_entries}

-- ---- a step that is refused with e, which `?` hands on as r
pub refused_as : (w : List ℕ) (x : Step) (e : Refusal) → number_of e ≡ refusal (store_of w) x → KeepsHeld w x w (number_of e) 0
refused_as w x e h n g = stepped_refused w n x g (number_of e) h (numbered e)

pub refused_by : (w : List ℕ) (x : Step) (r : Result ℕ Refusal) (e : Refusal) → IsErr r × IsErrAnd r (λ f. f ≡ e) → number_of e ≡ refusal (store_of w) x
    → KeepsHeld w x w (answer_number r) (answer_count r)
refused_by w x r e h m = rw (handed_on r e h) (refused_as w x e m)

pub form_refused : (w : List ℕ) (x : Step) (e : Refusal) → (in_form x ≡ false) × (e ≡ OutOfForm) → number_of e ≡ refusal (store_of w) x
form_refused w x e h = rw h.1 (sym (out_of_form (store_of w) x h.0))

-- ---- a report
module _ (w : List ℕ) (t : Train) (b : Box) where
  report_number : refusal (store_of w) (report_step t b) ≡ first_met (report_tests (store_of w) (report_step t b))
  report_number = report-refusal (store_of w) (report_step t b) (order_given (Report t b)) refl

  pub report_refused : (e : Refusal) → number_of e ≡ first_met (report_tests (store_of w) (report_step t b)) → number_of e ≡ refusal (store_of w) (report_step t b)
  report_refused e h = h ∙ sym report_number

  module _ (n : ℕ) (g : Given w n) (z : 0 ≡ first_met (report_tests (store_of w) (report_step t b))) where
    report_none : refusal (store_of w) (report_step t b) ≡ 0
    report_none = report_number ∙ sym z

    pub report_accepted : AcceptedReport (store_of w) (report_step t b)
    report_accepted = accepted_report (store_of w) (report_step t b) report_none refl

    pub report-done : (w' : List ℕ) (c : ℕ) → Effected (report (store_of w) (report_step t b)) w' c → Stepped (step (store_of w) (report_step t b)) w' 0 c (n + 1)
    unfolding effect
    report-done w' c e =
        stepped_accepted (store_of w) (report_step t b) w' c (n + 1) report_none e (report-entries (store_of w) (report_step t b) n g.sound g.counted refl report_none)

-- one entry more can be counted
pub more_fits : (w : List ℕ) (n : ℕ) → Given w n → Number w64 (n + 1)
more_fits w n g =
    let S = sound-holds (store_of w) g.sound in
    record { fits = omega (arith, g.counted, S.rule4.held_most, S.ranges.sizes.pages_most) }

-- ---- a withdrawal
module _ (w : List ℕ) (t : Train) where
  withdraw_number : refusal (store_of w) (withdraw_step t) ≡ first_met (withdraw_tests (store_of w) (withdraw_step t))
  withdraw_number = withdraw-refusal (store_of w) (withdraw_step t) (order_given (Withdraw t)) refl

  pub withdraw_refused : (e : Refusal) → number_of e ≡ first_met (withdraw_tests (store_of w) (withdraw_step t)) → number_of e ≡ refusal (store_of w) (withdraw_step t)
  withdraw_refused e h = h ∙ sym withdraw_number

  module _ (z : 0 ≡ first_met (withdraw_tests (store_of w) (withdraw_step t))) where
    withdraw_none : refusal (store_of w) (withdraw_step t) ≡ 0
    withdraw_none = withdraw_number ∙ sym z

    pub withdraw-stamped : TakesStamp (store_of w) t
    withdraw-stamped = (accepted_withdrawal (store_of w) (withdraw_step t) withdraw_none refl).stamped

    pub withdraw-done : (w' : List ℕ) (c : ℕ) → Effected (withdraw (store_of w) (withdraw_step t)) w' c → KeepsHeld w (withdraw_step t) w' 0 c
    unfolding effect
    withdraw-done w' c e n g =
        stepped_accepted (store_of w) (withdraw_step t) w' c n withdraw_none e (withdraw-entries (store_of w) (withdraw_step t) n g.sound g.counted refl withdraw_none)

-- ---- a clean and an inspection, which are never refused
pub clean-done : (w : List ℕ) (n : ℕ) → Given w n → (w' : List ℕ) (c : ℕ) → Effected (clean (store_of w)) w' c → Stepped (step (store_of w) clean_step) w' 0 c (n - c)
unfolding effect
clean-done w n g w' c e =
    stepped_accepted (store_of w) clean_step w' c (n - c) (clean_accepted (store_of w) clean_step refl (order_given Clean)) e
    (clean-entries (store_of w) clean_step n g.sound g.counted c e.counted)

pub inspect-done : (w w' : List ℕ) (c : ℕ) → Effected (inspect (store_of w)) w' c → KeepsHeld w inspect_step w' 0 c
unfolding effect
inspect-done w w' c e n g =
    stepped_accepted (store_of w) inspect_step w' c n (inspect_accepted (store_of w) inspect_step refl (order_given Inspect)) e
    (inspect-entries (store_of w) inspect_step n g.sound g.counted)

-- ---- an opening: the rows are counted last
module _ (w : List ℕ) (i : ℕ) (v : Window) where
  pub open_refused : (e : Refusal) → number_of e ≡ first_met (opening_tests (store_of w) (open_step i v)) → number_of e ≡ refusal (store_of w) (open_step i v)
  open_refused e h =
      h ∙ sym (met_first (opening_tests (store_of w) (open_step i v)) (rows_test (store_of w) (open_step i v)) λ z. numbered e (h ∙ z))
      ∙ sym (open_refusal (store_of w) (open_step i v) (order_given (Open i v)) refl)

  module _ (z : 0 ≡ first_met (opening_tests (store_of w) (open_step i v))) (r : ℕ) (many : r ≡ length (rows_in (store_of w) v)) where
    open_number : refusal (store_of w) (open_step i v) ≡ first_met (rows_test (store_of w) (open_step i v))
    open_number =
        open_refusal (store_of w) (open_step i v) (order_given (Open i v)) refl
        ∙ none_met (opening_tests (store_of w) (open_step i v)) (rows_test (store_of w) (open_step i v)) (omega arith) (sym z)

    pub open_overfull : 16 < r → KeepsHeld w (open_step i v) w 14 0
    unfolding first_met
    open_overfull h =
        let f : ltb row_limit (length (rows_in (store_of w) v)) ≡ true = lt-ltb row_limit (length (rows_in (store_of w) v)) (omega arith) in
        refused_as w (open_step i v) TooManyRows (sym (open_number ∙ rw f))

    module _ (few : r ≤ 16) where
      open_none : refusal (store_of w) (open_step i v) ≡ 0
      unfolding first_met
      open_none =
          let f : ltb row_limit (length (rows_in (store_of w) v)) ≡ false = le-ltb row_limit (length (rows_in (store_of w) v)) (omega arith) in
          open_number ∙ rw f

      pub open_inside : i < length (store_of w).boards
      open_inside = (accepted_opening (store_of w) (open_step i v) open_none refl).board

      pub open_done : (w' : List ℕ) (c : ℕ) → Effected (open_board (store_of w) (open_step i v)) w' c → KeepsHeld w (open_step i v) w' 0 c
      unfolding effect
      open_done w' c e n g =
          stepped_accepted (store_of w) (open_step i v) w' c n open_none e (open_entries (store_of w) (open_step i v) n g.sound g.counted refl open_none)

-- ---- a closing
module _ (w : List ℕ) (i : ℕ) where
  close_number : refusal (store_of w) (close_step i) ≡ first_met (close_tests (store_of w) (close_step i))
  close_number = close_refusal (store_of w) (close_step i) (order_given (Close i)) refl

  pub close_refused : (e : Refusal) → number_of e ≡ first_met (close_tests (store_of w) (close_step i)) → number_of e ≡ refusal (store_of w) (close_step i)
  close_refused e h = h ∙ sym close_number

  module _ (z : 0 ≡ first_met (close_tests (store_of w) (close_step i))) where
    close_none : refusal (store_of w) (close_step i) ≡ 0
    close_none = close_number ∙ sym z

    pub close_inside : i < length (store_of w).boards
    close_inside = (accepted_closing (store_of w) (close_step i) close_none refl).board

    pub close_done : (w' : List ℕ) → Effected (close_board (store_of w) (close_step i)) w' 0 → KeepsHeld w (close_step i) w' 0 0
    unfolding effect
    close_done w' e n g =
        stepped_accepted (store_of w) (close_step i) w' 0 n close_none e (close_entries (store_of w) (close_step i) n g.sound g.counted refl close_none)
