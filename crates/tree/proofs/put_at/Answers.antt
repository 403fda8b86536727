use Rattle.std.proofs.Common.{rules}
use Rattle.tree.proofs.Root.{levels_enough, put_whole, put_parted}
use Rattle.tree.proofs.put_at.Goals as goal

pub overflow_sub-depth : goal.overflow_sub-depth
overflow_sub-depth c = search (rules, levels_enough)

pub returns-in-Some : goal.returns-in-Some
returns-in-Some c = search (rules, put_parted)

pub returns-in_default : goal.returns-in_default
returns-in_default c = search (rules, put_whole)
