-- The orders that a step can give, and the step that gives each.
use Rattle.std.specs.Prelude.{ℕ, ◌≡◌, refl, true, false, Result, MatchResult}
use Rattle.rules.specs.declared.Train.{Train}
use Rattle.rules.specs.declared.Box.{Box}
use Rattle.rules.specs.declared.Window.{Window}
use Rattle.rules.specs.declared.Step.{Step}
use Rattle.rules.specs.declared.refusal.Refusal.{Refusal}
use Rattle.rules.specs.declared.refusal.Refusal.TheVariants.{OutOfForm}
use Rattle.rules.specs.Lists.{all_of, one_of}
use Rattle.rules.specs.Steps.{four_zero, in_form}
use Rattle.steps.specs.declared.order.Order.{Order}
use Rattle.steps.specs.declared.order.Order.TheVariants.{Report, Withdraw, Clean, Inspect, Open, Close}

-- kind, a, then four more; words that a kind does not name are 0
abbrev pub report_step : Train → Box → Step
report_step t b = record { kind = 1; a = t.0; x0 = b.x0; y0 = b.y0; x1 = b.x1; y1 = b.y1 }

abbrev pub withdraw_step : Train → Step
withdraw_step t = record { kind = 2; a = t.0; x0 = 0; y0 = 0; x1 = 0; y1 = 0 }

abbrev pub clean_step : Step
clean_step = record { kind = 3; a = 0; x0 = 0; y0 = 0; x1 = 0; y1 = 0 }

abbrev pub inspect_step : Step
inspect_step = record { kind = 4; a = 0; x0 = 0; y0 = 0; x1 = 0; y1 = 0 }

abbrev pub open_step : ℕ → Window → Step
open_step i w = record { kind = 5; a = i; x0 = w.x0; y0 = w.y0; x1 = w.x1; y1 = w.y1 }

abbrev pub close_step : ℕ → Step
close_step i = record { kind = 6; a = i; x0 = 0; y0 = 0; x1 = 0; y1 = 0 }

abbrev pub order_step : Order → Step
order_step (Report train bounds) = report_step train bounds
order_step (Withdraw train) = withdraw_step train
order_step Clean = clean_step
order_step Inspect = inspect_step
order_step (Open board window) = open_step board window
order_step (Close board) = close_step board

-- a step in form gives the order whose step it is; any other is refused with 6
abbrev pub IsOrderOf : Step → Result Order Refusal → Type 0
IsOrderOf x r = MatchResult r (λ order. (in_form x ≡ true) × (order_step order ≡ x)) (λ e. (in_form x ≡ false) × (e ≡ OutOfForm))

-- every order can be given
pub order_given : (order : Order) → in_form (order_step order) ≡ true
unfolding in_form four_zero all_of one_of
order_given (Report train bounds) = refl
order_given (Withdraw train) = refl
order_given Clean = refl
order_given Inspect = refl
order_given (Open board window) = refl
order_given (Close board) = refl
