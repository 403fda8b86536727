use Rattle.std.proofs.Common.{rules, arith}
use Rattle.text.proofs.Fields.{empty_bad, counting_none, no_digit, too_large, counting_on, whole_field}
use Rattle.text.proofs.decimal.Goals as goal

pub returns-then-is_empty : goal.returns-then-is_empty
returns-then-is_empty c = search (rules, empty_bad)

pub loop-b-init : goal.loop-b-init
loop-b-init c = counting_none _ c.if-is_empty.ensures

pub returns-then-not-is_ascii_digit : goal.returns-then-not-is_ascii_digit
returns-then-not-is_ascii_digit c = search (rules, no_digit)

pub returns-in_err-checked_mul : goal.returns-in_err-checked_mul
returns-in_err-checked_mul c = search (rules, too_large)

pub returns-in_err-value : goal.returns-in_err-value
returns-in_err-value c = search (rules, too_large)

pub loop-b-preserved : goal.loop-b-preserved
loop-b-preserved c = counting_on _ _ _ c.loop-b.invariant c.loop-b-test.true c.if-not-is_ascii_digit.ensures.value _ (omega arith) (omega (arith, c.in_ok-value.ensures, c.in_ok-checked_mul.ensures))

pub returns : goal.returns
returns c = search (rules, whole_field)
