-- `page::leaf_to_clean` meets its contract.
use Rattle.std.proofs.Common.{◌≡◌, Bool, List, ℕ, ◌&&◌, eqb, rules, tests, ap, ◌∙◌}
use Rattle.std.specs.List.{position}
use Rattle.std.specs.Option.{unwrap_or}
use Rattle.std.proofs.lemmas.Iterator.{YieldsList-from_slice}
use Rattle.std.proofs.lemmas.Iterator.Search.{position_from_yields_List}
use Rattle.page.proofs.Scan.{leaf, mark_of, leaf_found, position_fits}
use Rattle.page.proofs.leaf_to_clean.Goals as goal

abbrev marked : ℕ → List ℕ → Bool
marked mark w = leaf w && eqb (mark_of w) mark

found : (c : goal.After-unwrap_or) → c.unwrap_or.result ≡ unwrap_or (position (marked c.smallest_mark-mark.result.0) c.pages.result.now) c.args.p
found c =
    c.unwrap_or.ensures
    ∙ ap (λ r. unwrap_or r c.args.p)
    (position_from_yields_List (marked c.smallest_mark-mark.result.0) _ _ c.position-leaf.result c.position-leaf.ensures.ran (YieldsList-from_slice c.pages.result.now c.iter.ensures.rest) (λ x b q k. search (rules, tests)))

pub overflow_cast-result : goal.overflow_cast-result
overflow_cast-result c =
    position_fits (marked c.smallest_mark-mark.result.0) c.pages.result.now c.args.p c.pages.ensures.count (search rules) c.unwrap_or.result (found c)

pub returns : goal.returns
returns c =
    rw (← c.pages.ensures.cut_so)
    (leaf_found c.pages.result.now c.args.p c.pages.ensures.count c.smallest_mark-mark.result c.unwrap_or.result (rw c.pages.ensures.cut_so c.smallest_mark-mark.ensures) (found c))
