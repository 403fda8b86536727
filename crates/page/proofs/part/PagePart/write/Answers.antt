-- `page::Page::write` meets its contract.
use Rattle.std.proofs.Common.{◌≡◌, length, arith, rules}
use Rattle.std.proofs.lemmas.Grind.{common_steps}
use Rattle.page.specs.Laws.{length_mapped}
use Rattle.page.proofs.Words.{all_written}
use Rattle.page.proofs.part.PagePart.write.Goals as goal

pub returns : goal.returns
returns c =
    let eight : length c.args.self.places ≡ 8 = search (rules, length_mapped) in
    all_written c.args.self eight c.loop-i.words (grind (arith, common_steps)) c.loop-i.i c.loop-i.invariant (omega arith)
