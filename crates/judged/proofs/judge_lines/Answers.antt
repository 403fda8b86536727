use Rattle.std.proofs.Common.{rules, arith}
use borrow.Author.Tests.{tests}
use Rattle.text.proofs.Pieces.{next_piece}
use Rattle.judged.proofs.Laws.{number_small, answers_turn, answers_end, part_long}
use Rattle.judged.proofs.judge_lines.Goals as goal

pub overflow_cast-out : goal.overflow_cast-out
overflow_cast-out c = search (rules, number_small)

pub overflow_add-out : goal.overflow_add-out
overflow_add-out c = search (rules, number_small)

pub loop-line-preserved : goal.loop-line-preserved
loop-line-preserved c =
    let piece = next_piece _ 10 c.loop-line.line-iterator c.next.new.self c.in-Some.line c.in-Some.ensures.steps (λ y b q k. search (rules, tests)) c.strip_suffix.result c.strip_suffix.ensures.cases in
    let number = rw c.unwrap_or.ensures at c.judge_line-number.ensures in
    record {
      few = omega (arith, part_long _ _ _ _ piece);
      left = answers_turn _ _ _ _ _ c.loop-line.invariant.left _ _ piece _ number;
    }

pub returns-clause-put : goal.returns-clause-put
returns-clause-put c = answers_end _ _ _ _ _ c.loop-line.invariant.left c.in-None.ensures.steps.0 (omega arith)
