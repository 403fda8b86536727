use Rattle.query.proofs.Left.{Left}
use Rattle.query.proofs.+collect.Given as goal

abbrev pub decreases-collect : goal.decreases-collect
decreases-collect l = l.level

abbrev pub invariant-loop-i : goal.invariant-loop-i
invariant-loop-i l = Left l.store l.w l.level l.at l.e-items l.initial.keys l.n l.i l.keys l.m
