-- `memo::lower` meets its contract.
use Rattle.std.proofs.Common.{rules}
use Rattle.memo.proofs.Answers.{lowered_out, lowered_left}
use Rattle.memo.proofs.lower.Goals as goal

pub returns-then-is_last : goal.returns-then-is_last
returns-then-is_last c = search (rules, lowered_out)

pub returns : goal.returns
returns c = search (rules, lowered_left)
