use Rattle.std.proofs.Common.{rules}
use Rattle.trim.proofs.Thin.{renewed}
use Rattle.trim.proofs.renew_child.Goals as goal

pub returns : goal.returns
returns c = search (rules, renewed)
