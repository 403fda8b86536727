-- The words of what is left, written from here on, give the answer.
use Rattle.std.proofs.Common.{◌+◌, ◌≤◌, length}
use Rattle.std.specs.Slice.Iter.{split_inclusive_rest}
use Rattle.judged.specs.Text.{words_of}
use Rattle.judged.proofs.Laws.{Left}
use Rattle.judged.proofs.read_words.Given as goal

abbrev pub invariant-loop-field : goal.invariant-loop-field
invariant-loop-field l = record {
  few : l.n + length (split_inclusive_rest l.field-iterator) ≤ length l.line;
  left : Left (words_of l.line) l.initial.store (words_of (split_inclusive_rest l.field-iterator)) l.n l.store;
}
