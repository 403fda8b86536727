use Rattle.std.proofs.Common.{rules}
use Rattle.rules.specs.laws.Placed.{header_long}
use Rattle.parts.specs.Laws.{sound_lent, lent_placed, became_lent}
use Rattle.steps.proofs.Effects.{old_below, slot_there, next_fits, stamp-taken}
use Rattle.steps.proofs.take_stamp.Goals as goal

pub note-requires-clause-lent : goal.note-requires-clause-lent
note-requires-clause-lent c = search (rules, sound_lent, slot_there)

pub note-requires-clause-counts_below_limit : goal.note-requires-clause-counts_below_limit
note-requires-clause-counts_below_limit c = search (rules, old_below)

pub overflow_add-stamp : goal.overflow_add-stamp
overflow_add-stamp c = search (rules, next_fits)

pub set_next-requires : goal.set_next-requires
set_next-requires c = search (rules, header_long, lent_placed, became_lent)

pub returns : goal.returns
returns c = search (rules, stamp-taken)
