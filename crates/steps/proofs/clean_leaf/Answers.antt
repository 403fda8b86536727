use Rattle.std.proofs.Common.{rules}
use Rattle.rules.specs.laws.Placed.{pages_most, pages_room}
use Rattle.steps.specs.Tests.{sound_placed}
use Rattle.steps.proofs.Cleaned.{readable, cleanable, gone_few, cleaned_lent, clean-effect}
use Rattle.steps.proofs.clean_leaf.Goals as goal

pub leaf_to_clean-leaf-requires : goal.leaf_to_clean-leaf-requires
leaf_to_clean-leaf-requires c = (search (rules, pages_most, sound_placed), search (rules, pages_room, sound_placed))

pub obsolete_in-gone-requires : goal.obsolete_in-gone-requires
obsolete_in-gone-requires c = search (rules, readable)

pub clean_tree-requires : goal.clean_tree-requires
clean_tree-requires c = search (rules, cleanable)

pub lower_all-requires : goal.lower_all-requires
lower_all-requires c = (search (rules, cleaned_lent), search (rules, gone_few))

pub returns : goal.returns
returns c = search (rules, clean-effect)
