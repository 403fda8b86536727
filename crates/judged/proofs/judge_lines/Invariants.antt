-- The answers to what is left, written from here on, give the text.
use Rattle.std.proofs.Common.{◌+◌, ◌*◌, ◌≤◌, length}
use Rattle.std.specs.Slice.Iter.{split_inclusive_rest}
use Rattle.judged.specs.Text.{answers}
use Rattle.judged.proofs.Laws.{Left}
use Rattle.judged.proofs.judge_lines.Given as goal

abbrev pub invariant-loop-line : goal.invariant-loop-line
invariant-loop-line l = record {
  few : l.k + 2 * length (split_inclusive_rest l.line-iterator) ≤ 2 * length l.input;
  left : Left (answers l.input) l.initial.out (answers (split_inclusive_rest l.line-iterator)) l.k l.out;
}
