use Rattle.std.proofs.Common.{rules}
use Rattle.program.proofs.Boards.{header_long, boards_few, board_inside, board_more, boards_all}
use Rattle.text.specs.Laid.{none_yet}
use Rattle.program.proofs.put_boards.Goals as goal

pub boards-i-end-requires : goal.boards-i-end-requires
boards-i-end-requires c = search (rules, header_long)

pub loop-i-init : goal.loop-i-init
loop-i-init c = search (rules, boards_few, none_yet)

pub put_board-to-requires-clause-accepted : goal.put_board-to-requires-clause-accepted
put_board-to-requires-clause-accepted c = search (rules, board_inside)

pub loop-i-preserved : goal.loop-i-preserved
loop-i-preserved c = search (rules, board_more)

pub returns : goal.returns
returns c = search (rules, boards_all)
