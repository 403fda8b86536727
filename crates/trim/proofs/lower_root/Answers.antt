use Rattle.std.proofs.Common.{rules}
use Rattle.trim.proofs.Whole.{lowered}
use Rattle.trim.proofs.lower_root.Goals as goal

pub returns : goal.returns
returns c = search (rules, lowered)
