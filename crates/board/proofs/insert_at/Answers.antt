-- `board::insert_at` meets its contract. Assumes nothing.
use Rattle.std.proofs.Common.{rules}
use Rattle.board.proofs.Words.{row_in}
use Rattle.board.proofs.insert_at.Goals as goal

pub returns : goal.returns
returns c = search (rules, row_in)
