use Rattle.std.proofs.Common.{rules}
use Rattle.trim.proofs.Back.{back_start, back_ready, back_proper, back_level, back_limit, back_turn}
use Rattle.trim.proofs.put_back.Goals as goal

pub loop-o-init : goal.loop-o-init
loop-o-init c = search (rules, back_start)

pub put_at-requires-clause-ready : goal.put_at-requires-clause-ready
put_at-requires-clause-ready c = search (rules, back_ready, back_proper)

pub put_at-requires-clause-level_bound : goal.put_at-requires-clause-level_bound
put_at-requires-clause-level_bound c = search (rules, back_level, back_limit)

pub loop-o-preserved : goal.loop-o-preserved
loop-o-preserved c = search (rules, back_turn)
