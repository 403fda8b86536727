use Rattle.std.proofs.Common.{◌≡◌, length, drop}
use Rattle.rules.specs.Lists.{some_one}
use Rattle.rules.specs.Store.{store_of}
use Rattle.rules.specs.Boards.{overfull}
use Rattle.parts.proofs.any_overfull.Given as goal

-- the boards from i on decide
abbrev pub invariant-loop-i : goal.invariant-loop-i
invariant-loop-i l = record {
  many : l.i-end ≡ length (store_of l.store).boards;
  left : some_one (overfull l.r) (drop l.i (store_of l.store).boards) ≡ some_one (overfull l.r) (store_of l.store).boards;
}
