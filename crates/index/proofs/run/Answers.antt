use Rattle.std.proofs.Common.{rules}
use Rattle.index.proofs.Calls.{run_refused}
use Rattle.index.proofs.run.Goals as goal

pub returns-in_err-judge : goal.returns-in_err-judge
returns-in_err-judge c = search (rules, run_refused, c.in_err-judge.ensures)
