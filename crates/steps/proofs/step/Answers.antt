use Rattle.std.proofs.Common.{rules}
use Rattle.steps.specs.Stepping.{given_sound}
use Rattle.steps.proofs.Ways.{refused_by, form_refused}
use Rattle.steps.proofs.step.Goals as goal

pub returns-in_err-train : goal.returns-in_err-train
returns-in_err-train c = refused_by _ _ _ _ c.from_residual.ensures (form_refused _ _ _ c.in_err-train.ensures) _ c.requires

pub withdraw-requires : goal.withdraw-requires
withdraw-requires c = search (rules, given_sound)

pub inspect-requires : goal.inspect-requires
inspect-requires c = search (rules, given_sound)

pub open-requires : goal.open-requires
open-requires c = search (rules, given_sound)

pub close-requires : goal.close-requires
close-requires c = search (rules, given_sound)
