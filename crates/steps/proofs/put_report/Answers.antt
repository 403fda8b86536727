use Rattle.std.proofs.Common.{rules}
use Rattle.parts.specs.Laws.{lent_ready, became_lent}
use Rattle.steps.proofs.Effects.{levels_least, levels_most, put_proper, put_lent, none_overfull, report_fits, report-effect}
use Rattle.steps.proofs.put_report.Goals as goal

pub put_at-requires-clause-ready : goal.put_at-requires-clause-ready
put_at-requires-clause-ready c = (search (rules, lent_ready, became_lent), search (rules, put_proper))

pub put_at-requires-clause-level_bound : goal.put_at-requires-clause-level_bound
put_at-requires-clause-level_bound c = (search (rules, levels_least), search (rules, levels_most))

pub tell_all-requires : goal.tell_all-requires
tell_all-requires c = (search (rules, put_lent), search (rules, none_overfull))

pub overflow_cast-result : goal.overflow_cast-result
overflow_cast-result c = search (rules, report_fits)

pub returns : goal.returns
returns c = search (rules, report-effect)
