-- `memo::insert` meets its contract.
use Rattle.std.proofs.Common.{rules}
use Rattle.memo.proofs.Moves.{all_pushed}
use Rattle.memo.proofs.insert.Goals as goal

pub returns : goal.returns
returns c = search (rules, all_pushed)
