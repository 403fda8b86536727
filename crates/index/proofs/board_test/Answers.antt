use Rattle.std.proofs.Common.{rules}
use Rattle.index.proofs.Calls.{test_refused, placed}
use Rattle.index.proofs.board_test.Goals as goal

pub returns-in_err-judge : goal.returns-in_err-judge
returns-in_err-judge c = search (rules, test_refused, c.in_err-judge.ensures)

pub is_open-requires-clause-placed : goal.is_open-requires-clause-placed
is_open-requires-clause-placed c = search (rules, placed, c.in_ok-judge.ensures)
