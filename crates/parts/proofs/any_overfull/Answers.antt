use Rattle.std.proofs.Common.{refl}
use Rattle.rules.specs.laws.Placed.{boards_count}
use Rattle.parts.specs.Laws.{lent_placed}
use Rattle.parts.proofs.any_overfull.Goals as goal

pub loop-i-init : goal.loop-i-init
loop-i-init c = record { many = boards_count _ (lent_placed _ c.requires) _ c.boards-i-end.ensures; left = refl }
