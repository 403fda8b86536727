use Rattle.std.proofs.Common.{arith, ◌≡◌, false, ◌&&◌}
use Rattle.std.proofs.lemmas.Grind.{common_steps}
use Rattle.rules.specs.Store.{board_of}
use Rattle.rules.specs.Boards.{is_open, lists}
use Rattle.parts.proofs.Boards.{left_untold}
use Rattle.parts.proofs.TrainNews.tell.Goals as goal

pub returns-else-is_open : goal.returns-else-is_open
returns-else-is_open c =
    let unlisted : (is_open (board_of c.args.b.now) && lists c.args.self (board_of c.args.b.now)) ≡ false = grind (arith, common_steps) in
    left_untold _ _ c.requires.0 unlisted
