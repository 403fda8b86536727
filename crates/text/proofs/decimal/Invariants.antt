-- The bytes from b's place on, with the value so far, decide.
use Rattle.text.proofs.Fields.{Counting}
use Rattle.text.proofs.decimal.Given as goal

abbrev pub invariant-loop-b : goal.invariant-loop-b
invariant-loop-b l = Counting l.field l.value l.b-index
