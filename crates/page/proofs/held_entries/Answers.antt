-- `page::held_entries` meets its contract.
use Rattle.std.proofs.Common.{arith, rules, tests}
use Rattle.std.proofs.lemmas.Iterator.{YieldsList-from_slice, YieldsList-from_map}
use Rattle.std.proofs.lemmas.Iterator.Consumers.{YieldsList-at, YieldsList-from_filter, sum_from_yields_List, fits_from_yields_list}
use Rattle.page.proofs.Scan.{leaf, held_of, held_counted, held_most}
use Rattle.page.proofs.held_entries.Goals as goal

pub sum-requires-clause-fits : goal.sum-requires-clause-fits
sum-requires-clause-fits c =
    fits_from_yields_list c.map.result _
    (YieldsList-from_map _ held_of
    (YieldsList-at c.map.ensures.source
    (YieldsList-from_filter _ leaf
    (YieldsList-at c.filter-leaves.ensures.source (YieldsList-from_slice c.pages.result.now c.iter.ensures.rest))
    c.filter-leaves.ensures.closure (λ x b q k. search (rules, tests))))
    c.map.ensures.closure (λ x r q k. search (rules, tests)))
    (omega (arith, held_counted c.pages.result.now, held_most c.pages.result.now, c.pages.ensures.count))

pub returns : goal.returns
returns c =
    rw (← c.pages.ensures.cut_so, ← held_counted)
    (sum_from_yields_List c.map.result c.sum.result c.sum.ensures.ran
    (YieldsList-from_map _ held_of
    (YieldsList-at c.map.ensures.source
    (YieldsList-from_filter _ leaf
    (YieldsList-at c.filter-leaves.ensures.source (YieldsList-from_slice c.pages.result.now c.iter.ensures.rest))
    c.filter-leaves.ensures.closure (λ x b q k. search (rules, tests))))
    c.map.ensures.closure (λ x r q k. search (rules, tests))))
