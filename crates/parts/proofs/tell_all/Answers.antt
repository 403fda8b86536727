use Rattle.parts.proofs.Boards.{told_keeps}
use Rattle.parts.proofs.tell_all.Goals as goal

pub tell_boards-requires-clause-keeps : goal.tell_boards-requires-clause-keeps
tell_boards-requires-clause-keeps c = told_keeps _ _ c.requires.0 c.requires.1
