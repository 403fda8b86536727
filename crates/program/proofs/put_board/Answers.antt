use Rattle.std.proofs.Common.{sym, ◌∙◌}
use Rattle.program.proofs.Boards.{nothing_shown, count_fits, rows_whole, rows_room, rows_near, board_shown}
use Rattle.program.proofs.put_board.Goals as goal

pub returns-then-is_err-clause-laid : goal.returns-then-is_err-clause-laid
returns-then-is_err-clause-laid c = nothing_shown _ c.requires.accepted.0 _ c.requires.accepted.1 _ c.board_test.ensures (sym c.is_err.ensures.value ∙ c.if-is_err.true) _ _ c.requires.at_in_bounds

pub put_board-requires : goal.put_board-requires
put_board-requires c = (rows_whole _ c.requires.accepted.0 _ c.requires.accepted.1 _ c.board_test.ensures (sym c.is_err.ensures.value ∙ c.if-is_err.false) _ c.board_rows-rows.ensures, count_fits _ c.requires.accepted.0 _ c.requires.accepted.1 _ c.board_test.ensures (sym c.is_err.ensures.value ∙ c.if-is_err.false) _ c.board_rows-rows.ensures, rows_room _ c.requires.accepted.0 _ c.requires.accepted.1 _ c.board_test.ensures (sym c.is_err.ensures.value ∙ c.if-is_err.false) _ c.board_rows-rows.ensures _ _ c.requires.at_in_bounds)

pub returns-clause-laid : goal.returns-clause-laid
returns-clause-laid c = board_shown _ c.requires.accepted.0 _ c.requires.accepted.1 _ c.board_test.ensures (sym c.is_err.ensures.value ∙ c.if-is_err.false) _ c.board_rows-rows.ensures _ _ _ _ c.put_board.ensures.laid

pub returns-clause-upper_bound : goal.returns-clause-upper_bound
returns-clause-upper_bound c = rows_near _ c.requires.accepted.0 _ c.requires.accepted.1 _ c.board_test.ensures (sym c.is_err.ensures.value ∙ c.if-is_err.false) _ c.board_rows-rows.ensures _ _ c.put_board.ensures.upper_bound
