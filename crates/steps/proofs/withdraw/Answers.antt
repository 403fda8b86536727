use Rattle.std.proofs.Common.{rules}
use Rattle.steps.proofs.Effects.{withdraw_fits, withdraw-effect}
use Rattle.steps.proofs.Ways.{refused_by, withdraw_refused, withdraw-stamped, withdraw-done}
use Rattle.steps.proofs.withdraw.Goals as goal

pub returns-in_err-withdraw_allowed : goal.returns-in_err-withdraw_allowed
returns-in_err-withdraw_allowed c = search (rules, refused_by, withdraw_refused, c.in_err-withdraw_allowed.ensures)

pub take_stamp-requires-clause-takes_stamp : goal.take_stamp-requires-clause-takes_stamp
take_stamp-requires-clause-takes_stamp c = search (rules, withdraw-stamped, c.in_ok-withdraw_allowed.ensures)

pub overflow_cast-result : goal.overflow_cast-result
overflow_cast-result c = search (rules, withdraw_fits)

pub returns : goal.returns
returns c = search (rules, withdraw-done, withdraw-effect, c.in_ok-withdraw_allowed.ensures)
