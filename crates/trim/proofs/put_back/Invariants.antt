-- Those so far have been put back.
use Rattle.trim.proofs.Back.{PutBack}
use Rattle.trim.proofs.put_back.Given as goal

abbrev pub invariant-loop-o : goal.invariant-loop-o
invariant-loop-o l = PutBack l.initial.store l.waiting l.store l.o-index
