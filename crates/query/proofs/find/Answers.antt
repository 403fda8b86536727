use Rattle.std.proofs.Common.{rules, sym, length-take-le}
use Rattle.query.proofs.Finding.{found_inside, found_within, all_found}
use Rattle.query.proofs.find.Goals as goal

pub slice_bounds-sort-end-2 : goal.slice_bounds-sort-end-2
slice_bounds-sort-end-2 c = sym (length-take-le _ _ (search (rules, found_inside)))

pub slice_bounds-sort-end-4 : goal.slice_bounds-sort-end-4
slice_bounds-sort-end-4 c = sym (length-take-le _ _ (search (rules, found_within)))

pub returns : goal.returns
returns c = search (rules, all_found)
