use Rattle.walk.proofs.Pages.{tree_so}
use Rattle.walk.proofs.is_tree.Goals as goal

pub returns-then-walk : goal.returns-then-walk
returns-then-walk c = tree_so _ c.requires _ _ c.root.ensures c.levels.ensures _ _ c.walk.ensures _ c.if-walk.true c.pages_hold.ensures
