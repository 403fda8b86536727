-- `page::cover_page` meets its contract.
use Rattle.std.proofs.Common.{rules, tests}
use Rattle.std.proofs.lemmas.Iterator.{YieldsList-from_slice}
use Rattle.std.proofs.lemmas.Iterator.Consumers.{fold_from_yields_List}
use Rattle.page.proofs.Places.{with_box, none_covered, some_covered}
use Rattle.page.proofs.cover_page.Goals as goal

pub returns-in_default : goal.returns-in_default
returns-in_default c = search (rules, none_covered)

pub returns : goal.returns
returns c =
    some_covered c.args.g c.used.result.now c.used.ensures c.in-Some.first.now c.in-Some.others.now c.fold.result c.in-Some.ensures.cases.0
    (fold_from_yields_List _ with_box _ c.fold.result c.fold.ensures.ran (YieldsList-from_slice c.in-Some.others.now c.iter.ensures.rest) (λ a x b q k. search (rules, tests)))
