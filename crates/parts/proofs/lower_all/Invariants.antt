use Rattle.parts.proofs.Memo.{Lowering}
use Rattle.parts.proofs.lower_all.Given as goal

-- what is left to lower gives the whole
abbrev pub invariant-loop-place : goal.invariant-loop-place
invariant-loop-place l = Lowering l.initial.store l.place-items l.store l.place-index
