use Rattle.parts.specs.BoardAt.{board_starts}
use Rattle.parts.proofs.board_start.Goals as goal

pub returns : goal.returns
returns c = board_starts _ c.requires.placed _ _ _ _ c.pages.ensures c.slots.ensures c.boards_start.ensures c.requires.i_in_bounds
