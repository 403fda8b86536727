-- `page::lowest_free` meets its contract.
use Rattle.std.proofs.Common.{◌≡◌, rules, tests, ap, ◌∙◌}
use Rattle.std.specs.List.{position}
use Rattle.std.specs.Option.{unwrap_or}
use Rattle.std.proofs.lemmas.Iterator.{YieldsList-from_slice}
use Rattle.std.proofs.lemmas.Iterator.Search.{position_from_yields_List}
use Rattle.page.proofs.Scan.{free, free_found, position_fits}
use Rattle.page.proofs.lowest_free.Goals as goal

found : (c : goal.After-unwrap_or) → c.unwrap_or.result ≡ unwrap_or (position free c.pages.result.now) c.args.p
found c =
    c.unwrap_or.ensures
    ∙ ap (λ r. unwrap_or r c.args.p)
    (position_from_yields_List free _ _ c.position-free.result c.position-free.ensures.ran (YieldsList-from_slice c.pages.result.now c.iter.ensures.rest) (λ x b q k. search (rules, tests)))

pub overflow_cast-result : goal.overflow_cast-result
overflow_cast-result c = position_fits free c.pages.result.now c.args.p c.pages.ensures.count (search rules) c.unwrap_or.result (found c)

pub returns : goal.returns
returns c = rw (← c.pages.ensures.cut_so) (free_found c.pages.result.now c.args.p c.pages.ensures.count c.unwrap_or.result (found c))
