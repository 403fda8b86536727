-- `memo::inspect` meets its contract. The loop's invariant: the slots before `i` that stay are at the front, and the others are freed.
use Rattle.memo.proofs.Inspection.{Passed}
use Rattle.memo.proofs.inspect.Given as goal

abbrev pub invariant-loop-i : goal.invariant-loop-i
invariant-loop-i l = Passed l.initial.memo l.memo l.mark l.kept l.i
