use Rattle.std.proofs.Common.{rules, arith}
use borrow.Author.Tests.{tests}
use Rattle.text.proofs.Pieces.{next_piece}
use Rattle.judged.proofs.Laws.{words_turn, words_end, part_long}
use Rattle.judged.proofs.read_words.Goals as goal

pub loop-field-preserved : goal.loop-field-preserved
loop-field-preserved c =
    let piece = next_piece _ 32 c.loop-field.field-iterator c.next.new.self c.in-Some.field c.in-Some.ensures.steps (λ y b q k. search (rules, tests)) c.strip_suffix.result c.strip_suffix.ensures.cases in
    let word = rw c.unwrap_or.ensures at c.read_word.ensures in
    record {
      few = omega (arith, part_long _ _ _ _ piece);
      left = words_turn _ _ _ _ _ c.loop-field.invariant.left _ _ piece _ word;
    }

pub returns : goal.returns
returns c = words_end _ _ _ _ _ c.loop-field.invariant.left c.in-None.ensures.steps.0 (omega arith)
