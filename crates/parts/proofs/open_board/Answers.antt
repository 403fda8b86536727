use Rattle.std.proofs.Common.{rules}
use Rattle.parts.proofs.Opening.{board_opened}
use Rattle.parts.proofs.open_board.Goals as goal

pub returns : goal.returns
returns c = search (rules, board_opened)
