use Rattle.std.proofs.Common.{rules}
use Rattle.index.proofs.Calls.{part_refused, part_placed, part_board, part_found}
use Rattle.index.proofs.board_part.Goals as goal

pub returns-in_err-board_test : goal.returns-in_err-board_test
returns-in_err-board_test c = search (rules, part_refused, c.in_err-board_test.ensures)

pub board_start-from-requires-clause-placed : goal.board_start-from-requires-clause-placed
board_start-from-requires-clause-placed c = search (rules, part_placed, c.in_ok-board_test.ensures)

pub board_start-from-requires-clause-i_in_bounds : goal.board_start-from-requires-clause-i_in_bounds
board_start-from-requires-clause-i_in_bounds c = search (rules, part_board, c.in_ok-board_test.ensures)

pub board_at-requires-clause-placed : goal.board_at-requires-clause-placed
board_at-requires-clause-placed c = search (rules, part_placed, c.in_ok-board_test.ensures)

pub board_at-requires-clause-i_in_bounds : goal.board_at-requires-clause-i_in_bounds
board_at-requires-clause-i_in_bounds c = search (rules, part_board, c.in_ok-board_test.ensures)

pub returns : goal.returns
returns c = search (rules, part_found, c.in_ok-board_test.ensures)
