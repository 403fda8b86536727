use Rattle.std.proofs.Common.{rules}
use Rattle.tree.proofs.Root.{raise_made}
use Rattle.tree.proofs.raise.Goals as goal

pub returns : goal.returns
returns c = search (rules, raise_made)
