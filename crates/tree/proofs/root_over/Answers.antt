use Rattle.std.proofs.Common.{rules}
use Rattle.tree.proofs.Root.{over_made}
use Rattle.tree.proofs.root_over.Goals as goal

pub returns : goal.returns
returns c = search (rules, over_made)
