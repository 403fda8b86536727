use Rattle.std.proofs.Common.{rules, ◌∙◌}
use Rattle.rules.specs.laws.Placed.{pages_most, pages_room}
use Rattle.parts.specs.Laws.{sound_lent, lent_placed}
use Rattle.index.specs.Running.{running_first, running_next, ran_all}
use Rattle.index.proofs.Runs.{first_given}
use Rattle.index.proofs.run_all.Goals as goal

pub held_entries-held-requires : goal.held_entries-held-requires
held_entries-held-requires c = search (rules, lent_placed, sound_lent, pages_most, pages_room)

pub loop-i-init : goal.loop-i-init
loop-i-init c = search (rules, running_first, first_given)

pub loop-i-preserved : goal.loop-i-preserved
loop-i-preserved c = search (rules, running_next, c.copy_from_slice.ensures.after ∙ c.two_words.ensures)

pub returns : goal.returns
returns c = search (rules, ran_all)
