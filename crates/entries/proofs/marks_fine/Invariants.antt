use Rattle.std.proofs.Common.{◌≡◌, drop}
use Rattle.rules.specs.Lists.{every}
use Rattle.rules.specs.Store.{store_of}
use Rattle.entries.specs.Passes.{mark_fine}
use Rattle.entries.proofs.marks_fine.Given as goal

abbrev pub invariant-loop-i : goal.invariant-loop-i
invariant-loop-i l = every (mark_fine l.next) (store_of l.store).pages ≡ every (mark_fine l.next) (drop l.i (store_of l.store).pages)
