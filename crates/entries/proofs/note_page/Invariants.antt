use Rattle.rules.specs.Store.{store_of}
use Rattle.entries.specs.State.{Gathered}
use Rattle.entries.proofs.Gather.{passed}
use Rattle.entries.proofs.note_page.Given as goal

abbrev pub invariant-loop-e : goal.invariant-loop-e
invariant-loop-e l = Gathered (store_of l.store) (passed (store_of l.store).pages l.i l.e-index) l.noted
