use Rattle.rules.specs.Store.{board_of}
use Rattle.board.proofs.Place.{Sought}
use Rattle.board.proofs.view.Board.place_of.Given as goal

abbrev pub invariant-loop-i : goal.invariant-loop-i
invariant-loop-i l = Sought l.t (board_of l.self.words.now).rows l.i
