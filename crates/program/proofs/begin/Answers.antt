use Rattle.std.proofs.Common.{rules, refl}
use Rattle.program.proofs.Boards.{numbered}
use Rattle.program.proofs.Starting.{start_refused, start_done, start_accepted, store_none, store_ran}
use Rattle.program.proofs.begin.Goals as goal

pub run_lines-requires : goal.run_lines-requires
run_lines-requires c = (search rules, start_accepted _ _ _ _ c.requires.1 _ _ c.in-Ok.ensures refl, search rules, search rules)

pub returns-in-Ok-clause-laid : goal.returns-in-Ok-clause-laid
returns-in-Ok-clause-laid c = start_done _ _ _ _ c.requires.1 _ _ c.in-Ok.ensures _ _ _ _ c.put_start-to.ensures.laid refl _ _ c.run_lines.ensures.laid

pub returns-in-Ok-clause-store_after : goal.returns-in-Ok-clause-store_after
returns-in-Ok-clause-store_after c = store_ran _ _ _ _ c.requires.1 _ _ c.in-Ok.ensures _ refl _ c.run_lines.ensures.store_after

pub returns-in-Err-clause-laid : goal.returns-in-Err-clause-laid
returns-in-Err-clause-laid c = start_refused _ _ _ _ c.requires.1 _ _ c.in-Err.ensures _ _ _ _ (rw c.from.ensures at c.put_start.ensures.laid) (numbered _)

pub returns-in-Err-clause-store_after : goal.returns-in-Err-clause-store_after
returns-in-Err-clause-store_after c = store_none _ _ _ _ c.requires.1 _ _ c.in-Err.ensures _ (numbered _)
