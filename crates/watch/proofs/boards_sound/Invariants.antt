use Rattle.std.proofs.Common.{◌≡◌, length, drop}
use Rattle.rules.specs.Lists.{every}
use Rattle.rules.specs.Store.{store_of}
use Rattle.rules.specs.Sound.{rule8}
use Rattle.watch.specs.Watched.{board_sound}
use Rattle.watch.proofs.boards_sound.Given as goal

-- the boards from i on decide
abbrev pub invariant-loop-i : goal.invariant-loop-i
invariant-loop-i l = record {
  many : l.i-end ≡ length (store_of l.store).boards;
  left : every (board_sound (store_of l.store)) (drop l.i (store_of l.store).boards) ≡ rule8 (store_of l.store);
}
