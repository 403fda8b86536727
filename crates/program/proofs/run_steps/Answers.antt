use Rattle.program.proofs.Running.{run_done, steps_ran}
use Rattle.program.proofs.run_steps.Goals as goal

pub unwrap-requires : goal.unwrap-requires
unwrap-requires c = run_done _ _ _ c.requires.accepted c.requires.steps_len.0 c.requires.steps_len.1 _ _ _ c.run.ensures

pub returns-clause-steps_run : goal.returns-clause-steps_run
returns-clause-steps_run c = steps_ran _ _ _ c.requires.accepted c.requires.steps_len.0 c.requires.steps_len.1 _ _ _ c.run.ensures
