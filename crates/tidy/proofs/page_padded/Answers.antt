use Rattle.std.proofs.Common.{arith, ◌≡◌, ◌≤◌, ◌∙◌, sym, get_or}
use Rattle.std.proofs.lemmas.Bool.Decides.{nat_tests}
use Rattle.tidy.proofs.Parts.{page_padded_so, page_behind}
use Rattle.tidy.proofs.page_padded.Goals as goal

pub returns-then-page-eq0 : goal.returns-then-page-eq0
returns-then-page-eq0 c =
    let few : get_or c.args.page.now 1 0 ≤ 8 = grind (arith, nat_tests) in
    let word_3 : get_or c.args.page.now 3 0 ≡ 0 = grind (arith, nat_tests) in
    c.is_zero.ensures ∙ sym (page_behind _ c.requires few word_3)

pub returns-else-page-eq0 : goal.returns-else-page-eq0
returns-else-page-eq0 c = grind (arith, nat_tests, page_padded_so)
