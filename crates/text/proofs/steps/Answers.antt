use Rattle.std.proofs.Common.{◌+◌, ◌*◌, ◌≤◌, length, rules, arith}
use borrow.Author.Tests.{tests}
use Rattle.text.proofs.Pieces.{next_piece}
use Rattle.text.proofs.ManyLines.{all_steps, ends_bad, one_step, step_few, step_short}
use Rattle.text.proofs.steps.Goals as goal

pub returns-then-not-numbers-clause-steps_read : goal.returns-then-not-numbers-clause-steps_read
returns-then-not-numbers-clause-steps_read c =
    let piece = next_piece _ 10 c.loop-line.line-iterator c.next.new.self c.in-Some.line c.in-Some.ensures.steps (λ y b q k. search (rules, tests)) c.strip_suffix.result c.strip_suffix.ensures.cases in
    let line = rw c.unwrap_or-line.ensures at c.numbers.ensures in
    ends_bad _ _ _ _ _ c.loop-line.invariant.left _ _ piece (omega (arith, c.loop-line.invariant.few piece.some)) _ _ line (search rules)

pub loop-line-preserved : goal.loop-line-preserved
loop-line-preserved c =
    let piece = next_piece _ 10 c.loop-line.line-iterator c.next.new.self c.in-Some.line c.in-Some.ensures.steps (λ y b q k. search (rules, tests)) c.strip_suffix.result c.strip_suffix.ensures.cases in
    let line = rw c.unwrap_or-line.ensures at c.numbers.ensures in
    let room : 6 * c.loop-line.count + 6 ≤ length c.args.out.now = omega (arith, c.loop-line.invariant.few piece.some) in
    record {
      few = step_few _ _ _ _ _ c.loop-line.invariant.left _ _ piece room _ _ line (search rules) _ c.loop-line.invariant.few;
      short = step_short _ _ _ _ _ c.loop-line.invariant.left _ _ piece room _ _ line (search rules) _ c.loop-line.invariant.few;
      left = one_step _ _ _ _ _ c.loop-line.invariant.left _ _ piece room _ _ line (search rules);
    }

pub returns-clause-steps_read : goal.returns-clause-steps_read
returns-clause-steps_read c = all_steps _ _ _ _ _ c.loop-line.invariant.left c.in-None.ensures.steps.0
