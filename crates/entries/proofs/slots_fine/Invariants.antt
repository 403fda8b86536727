use Rattle.std.proofs.Common.{◌≡◌, drop}
use Rattle.memo.specs.Slots.{slots_in}
use Rattle.entries.specs.Passes.{slots_fine}
use Rattle.entries.proofs.slots_fine.Given as goal

abbrev pub invariant-loop-i : goal.invariant-loop-i
invariant-loop-i l = slots_fine l.next l.counts (slots_in l.memo.words.now) ≡ slots_fine l.next (drop l.i l.counts) (drop l.i (slots_in l.memo.words.now))
