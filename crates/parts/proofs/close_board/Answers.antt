use Rattle.std.proofs.Common.{rules}
use Rattle.parts.proofs.Boards.{board_closed}
use Rattle.parts.proofs.close_board.Goals as goal

pub returns : goal.returns
returns c = search (rules, board_closed)
