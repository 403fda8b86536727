use Rattle.std.proofs.Common.{rules}
use Rattle.text.proofs.Tables.{board_laid}
use Rattle.text.proofs.put_board.Goals as goal

pub returns-clause-laid : goal.returns-clause-laid
returns-clause-laid c = search (rules, board_laid)
