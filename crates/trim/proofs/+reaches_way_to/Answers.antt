use Rattle.std.proofs.Common.{rules}
use Rattle.trim.proofs.Ways.{leads_itself, leads_nowhere, leads_further, way_here, way_nowhere}
use Rattle.trim.proofs.+reaches_way_to.Goals as goal

pub reaches-returns-then-eq : goal.reaches-returns-then-eq
reaches-returns-then-eq t c = search (rules, leads_itself)

pub reaches-returns-then-level-gt1 : goal.reaches-returns-then-level-gt1
reaches-returns-then-level-gt1 t c = search (rules, leads_further)

pub reaches-returns-else-level-gt1 : goal.reaches-returns-else-level-gt1
reaches-returns-else-level-gt1 t c = search (rules, leads_nowhere)

pub way_to-returns-then-reaches : goal.way_to-returns-then-reaches
way_to-returns-then-reaches t c = search (rules, way_here)

pub way_to-returns : goal.way_to-returns
way_to-returns t c = search (rules, way_nowhere)
