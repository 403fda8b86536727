use Rattle.entries.specs.State.{Before}
use Rattle.entries.proofs.note_pages.Given as goal

abbrev pub invariant-loop-i : goal.invariant-loop-i
invariant-loop-i l = Before l.store l.i l.noted
