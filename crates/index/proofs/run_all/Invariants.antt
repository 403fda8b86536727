use Rattle.rules.specs.Store.{store_of}
use Rattle.index.specs.Running.{Running}
use Rattle.index.proofs.run_all.Given as goal

abbrev pub invariant-loop-i : goal.invariant-loop-i
invariant-loop-i l = Running (store_of l.initial.store) l.words-items l.initial.answers l.i l.store l.held l.answers
