-- `board::view::Board::place_of` meets its contract. Assumes nothing.
use Rattle.std.proofs.Common.{rules}
use Rattle.board.proofs.Place.{from_first, before_row, at_row, past_row, past_last}
use Rattle.board.proofs.view.Board.place_of.Goals as goal

pub returns-in-Less : goal.returns-in-Less
returns-in-Less c = before_row _ _ _ c.loop-i.invariant _ (search rules) c.row_at.ensures c.in-Less.ensures

pub returns-in-Equal : goal.returns-in-Equal
returns-in-Equal c = at_row _ _ _ c.loop-i.invariant _ (search rules) c.row_at.ensures c.in-Equal.ensures

pub loop-i-init : goal.loop-i-init
loop-i-init c = from_first _ _

pub loop-i-preserved : goal.loop-i-preserved
loop-i-preserved c = past_row _ _ _ c.loop-i.invariant _ (search rules) c.row_at.ensures c.in-Greater.ensures

pub returns : goal.returns
returns c = past_last _ _ _ c.loop-i.invariant _ (search rules) (search rules) (search rules)
