use Rattle.std.proofs.Common.{rules}
use Rattle.trim.proofs.Whole.{leaf_stays, wide_stays, gives_way}
use Rattle.trim.proofs.give_way.Goals.{else-g-via-then-g+else-g-eq1, else-g-via-else-g}
use Rattle.trim.proofs.give_way.Goals as goal

pub returns-then-g-eq1 : goal.returns-then-g-eq1
returns-then-g-eq1 c = search (rules, gives_way)

pub returns-else-g : goal.returns-else-g
returns-else-g c = elim c.else-g.branch [ else-g-via-then-g+else-g-eq1 w ↦ search (rules, wide_stays) | else-g-via-else-g w ↦ search (rules, leaf_stays) ]
