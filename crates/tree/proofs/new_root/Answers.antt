use Rattle.std.proofs.Common.{rules}
use Rattle.tree.proofs.Root.{root_put}
use Rattle.tree.proofs.new_root.Goals as goal

pub returns : goal.returns
returns c = search (rules, root_put)
