use Rattle.std.proofs.Common.{rules}
use Rattle.index.proofs.Calls.{part_fits, part_ordered, part_within, part_holds}
use Rattle.index.proofs.board_rows.Goals as goal

pub offset_bounds-store-from : goal.offset_bounds-store-from
offset_bounds-store-from c = search (rules, part_fits)

pub slice_bounds-result-count : goal.slice_bounds-result-count
slice_bounds-result-count c = search (rules, part_ordered)

pub slice_bounds-result-start : goal.slice_bounds-result-start
slice_bounds-result-start c = search (rules, part_ordered)

pub slice_bounds-result-end : goal.slice_bounds-result-end
slice_bounds-result-end c = search (rules, part_within)

pub returns : goal.returns
returns c = search (rules, part_holds)
