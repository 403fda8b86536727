-- `board::put_row` meets its contract. Assumes nothing.
use Rattle.std.proofs.Common.{rules}
use Rattle.board.proofs.Words.{row_put}
use Rattle.board.proofs.put_row.Goals as goal

pub returns : goal.returns
returns c = search (rules, row_put)
