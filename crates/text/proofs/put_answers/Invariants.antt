-- The steps from i on are left.
use Rattle.std.proofs.Common.{◌≡◌, ◌+◌, ◌*◌, ◌/◌, ◌≤◌, length}
use Rattle.rules.specs.Lists.{cut}
use Rattle.text.specs.Printing.{step_lines}
use Rattle.text.specs.Laid.{Partly}
use Rattle.text.proofs.Tables.{answers_left}
use Rattle.text.proofs.put_answers.Given as goal

abbrev pub invariant-loop-i : goal.invariant-loop-i
invariant-loop-i l = record {
  each : l.i-end ≡ length l.steps / 6;
  near : l.to ≤ l.at + 33 * l.i;
  left : Partly l.initial.out l.at (step_lines (cut (length l.steps / 6) 6 l.steps) l.answers) l.out l.to (answers_left l.steps l.answers (length l.steps / 6) l.i);
}
