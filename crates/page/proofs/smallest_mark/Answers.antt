-- `page::smallest_mark` meets its contract.
use Rattle.std.proofs.Common.{◌≡◌, map, min, rules, tests}
use Rattle.std.specs.List.{fold, filter}
use Rattle.std.proofs.lemmas.Iterator.{YieldsList-from_slice, YieldsList-from_map}
use Rattle.std.proofs.lemmas.Iterator.Consumers.{YieldsList-at, YieldsList-from_filter, fold_from_yields_List}
use Rattle.rules.specs.Store.{limit}
use Rattle.page.proofs.Scan.{leaf, mark_of, marks_lowest}
use Rattle.page.proofs.smallest_mark.Goals as goal

found : (c : goal.After-fold) → c.fold.result ≡ fold min limit (map mark_of (filter leaf c.pages.result.now))
found c =
    fold_from_yields_List _ min limit _ c.fold.ensures.ran
    (YieldsList-from_map _ mark_of
    (YieldsList-at c.map.ensures.source
    (YieldsList-from_filter _ leaf
    (YieldsList-at c.filter-leaves.ensures.source (YieldsList-from_slice c.pages.result.now c.iter.ensures.rest))
    c.filter-leaves.ensures.closure (λ x b q k. search (rules, tests))))
    c.map.ensures.closure (λ x r q k. search (rules, tests)))
    (λ a x b q k. search (rules, tests))

pub returns : goal.returns
returns c = rw (← c.pages.ensures.cut_so) (marks_lowest c.pages.result.now c.fold.result (found c))
