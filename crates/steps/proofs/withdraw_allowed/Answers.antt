use Rattle.std.proofs.Common.{rules}
use Rattle.parts.specs.Laws.{sound_lent}
use Rattle.steps.proofs.withdraw_allowed.Goals as goal

pub no_slot_left-requires : goal.no_slot_left-requires
no_slot_left-requires c = search (rules, sound_lent)
