-- `board::remove_at` meets its contract. Assumes nothing.
use Rattle.std.proofs.Common.{rules}
use Rattle.board.proofs.Words.{row_out}
use Rattle.board.proofs.remove_at.Goals as goal

pub returns : goal.returns
returns c = let zeros = c.fill.ensures.after (λ y e. e) in search (rules, row_out)
