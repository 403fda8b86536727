use Rattle.std.proofs.Common.{rules}
use Rattle.tree.specs.Laws.{read_laid, laid_test}
use Rattle.tree.proofs.Below.{picked_used, below_here, below_deeper}
use Rattle.tree.proofs.+put_below.Goals as goal

pub settle-requires : goal.settle-requires
settle-requires t c = search (rules, read_laid)

pub returns-then-depth-eq0 : goal.returns-then-depth-eq0
returns-then-depth-eq0 t c = search (rules, below_here)

pub pick-place-requires : goal.pick-place-requires
pick-place-requires t c = search (rules, read_laid)

pub invariant_of-parent : goal.invariant_of-parent
invariant_of-parent t c = search (rules, read_laid, laid_test, picked_used)

pub returns : goal.returns
returns t c = search (rules, below_deeper)
