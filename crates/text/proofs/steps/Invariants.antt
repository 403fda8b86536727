-- The lines of what is left are left; each step took twelve bytes.
use Rattle.std.proofs.Common.{◌+◌, ◌*◌, ◌≤◌, ◌<◌, length}
use Rattle.std.specs.Slice.Iter.{split_inclusive_rest}
use Rattle.text.specs.Reading.{lines}
use Rattle.text.proofs.ManyLines.{Stepping}
use Rattle.text.proofs.steps.Given as goal

abbrev pub invariant-loop-line : goal.invariant-loop-line
invariant-loop-line l = record {
  few : 0 < length (split_inclusive_rest l.line-iterator) → 12 * l.count + length (split_inclusive_rest l.line-iterator) ≤ length l.text;
  short : 12 * l.count ≤ length l.text + 1;
  left : Stepping (lines l.text) l.initial.out l.out l.count (lines (split_inclusive_rest l.line-iterator));
}
