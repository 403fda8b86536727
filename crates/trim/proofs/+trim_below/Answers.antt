use Rattle.std.proofs.Common.{rules}
use Rattle.tree.specs.Laws.{read_laid, laid_test, ready_own}
use Rattle.trim.proofs.Thin.{at_leaf, way_some, way_used, leaf_further, trimmed_deeper}
use Rattle.trim.proofs.+trim_below.Goals as goal

pub returns-then-depth-eq0 : goal.returns-then-depth-eq0
returns-then-depth-eq0 t c = search (rules, at_leaf)

pub unwrap-place-requires : goal.unwrap-place-requires
unwrap-place-requires t c = search (rules, way_some)

pub invariant_of-parent : goal.invariant_of-parent
invariant_of-parent t c = search (rules, read_laid, laid_test, way_used)

pub trim_below-waiting-requires : goal.trim_below-waiting-requires
trim_below-waiting-requires t c = search (rules, leaf_further)

pub trim_place-requires : goal.trim_place-requires
trim_place-requires t c = search (rules, ready_own)

pub returns : goal.returns
returns t c = search (rules, trimmed_deeper)
