use Rattle.std.proofs.Common.{rules}
use Rattle.tree.specs.Laws.{header_room}
use Rattle.trim.proofs.Whole.{depth_some, depth_few, leaf_there, trimmed_levels, trimmed_waits, back_ready, back_some, all_clean}
use Rattle.trim.proofs.clean_tree.Goals as goal

pub root-root-requires : goal.root-root-requires
root-root-requires c = search (rules, header_room)

pub levels-depth-requires : goal.levels-depth-requires
levels-depth-requires c = search (rules, header_room)

pub overflow_sub-depth : goal.overflow_sub-depth
overflow_sub-depth c = search (rules, depth_some)

pub trim_below-waiting-requires : goal.trim_below-waiting-requires
trim_below-waiting-requires c = search (rules, depth_few, leaf_there)

pub put_back-requires-clause-waits : goal.put_back-requires-clause-waits
put_back-requires-clause-waits c = search (rules, trimmed_levels, trimmed_waits)

pub give_way-requires : goal.give_way-requires
give_way-requires c = search (rules, back_ready, back_some)

pub returns : goal.returns
returns c = search (rules, all_clean)
