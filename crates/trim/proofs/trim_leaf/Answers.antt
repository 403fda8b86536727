use Rattle.std.proofs.Common.{rules}
use Rattle.trim.proofs.Thin.{leaf_trimmed}
use Rattle.trim.proofs.trim_leaf.Goals as goal

pub returns : goal.returns
returns c = search (rules, leaf_trimmed)
