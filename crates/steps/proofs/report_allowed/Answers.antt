use Rattle.std.proofs.Common.{rules, arith}
use Rattle.std.proofs.lemmas.Bool.Decides.{nat_tests}
use Rattle.rules.specs.Numbers.{first_met}
use Rattle.parts.specs.Laws.{sound_lent}
use Rattle.steps.specs.Stepping.{given_sound}
use Rattle.steps.specs.Tests.{next_there, pages_there}
use Rattle.steps.proofs.report_allowed.Goals as goal

pub no_slot_left-requires : goal.no_slot_left-requires
no_slot_left-requires c = search (rules, sound_lent, given_sound)

pub returns-then-no_slot_left : goal.returns-then-no_slot_left
unfolding first_met
returns-then-no_slot_left c = grind (arith, nat_tests, next_there, pages_there)

pub any_overfull-requires : goal.any_overfull-requires
any_overfull-requires c = search (rules, sound_lent, given_sound)
