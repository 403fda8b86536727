use Rattle.std.proofs.Common.{rules}
use Rattle.tree.proofs.OnePage.{settle_whole}
use Rattle.tree.proofs.settle.Goals as goal

pub returns-then-g-lt8 : goal.returns-then-g-lt8
returns-then-g-lt8 c = search (rules, settle_whole)
