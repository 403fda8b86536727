use Rattle.std.proofs.Common.{rules, arith}
use Rattle.std.proofs.lemmas.Bool.Decides.{nat_tests}
use Rattle.rules.specs.declared.refusal.Refusal.TheVariants.{NotProper, RowsTooShort}
use Rattle.rules.specs.Numbers.{first_met}
use Rattle.index.proofs.Calls.{searchable, query_passed, query_with, query_refused, query_listed}
use Rattle.index.proofs.query.Goals as goal

pub returns-in_err-judge : goal.returns-in_err-judge
returns-in_err-judge c = search (rules, query_refused, c.in_err-judge.ensures)

pub returns-then-not-proper_window : goal.returns-then-not-proper_window
unfolding first_met
returns-then-not-proper_window c = query_with _ _ _ NotProper (grind (arith, nat_tests, query_passed))

pub find-n-requires-clause-searchable : goal.find-n-requires-clause-searchable
find-n-requires-clause-searchable c = search (rules, searchable, c.in_ok-judge.ensures)

pub returns-then-rows-n : goal.returns-then-rows-n
unfolding first_met
returns-then-rows-n c = query_with _ _ _ RowsTooShort (grind (arith, nat_tests, query_passed))

pub write_rows-requires-clause-searchable : goal.write_rows-requires-clause-searchable
write_rows-requires-clause-searchable c = search (rules, searchable, c.in_ok-judge.ensures)

pub returns : goal.returns
unfolding first_met
returns c = query_listed _ _ _ (grind (arith, nat_tests, query_passed)) _ _ _ _ _ c.find-n.ensures _ c.write_rows.ensures
