use Rattle.parts.proofs.Boards.{untold_keeps}
use Rattle.parts.proofs.untell_all.Goals as goal

pub tell_boards-requires-clause-keeps : goal.tell_boards-requires-clause-keeps
tell_boards-requires-clause-keeps c = untold_keeps _ _ c.requires
