-- The rows from this one on are left.
use Rattle.std.proofs.Common.{◌+◌, ◌*◌, ◌/◌, ◌≤◌, length, drop}
use mathlib.Core.List.{flat_map}
use Rattle.rules.specs.Lists.{cut}
use Rattle.text.specs.Printing.{line}
use Rattle.text.specs.Laid.{Partly}
use Rattle.text.proofs.put_rows.Given as goal

abbrev pub invariant-loop-row : goal.invariant-loop-row
invariant-loop-row l = record {
  near : l.to ≤ l.at + 55 * l.row-index;
  left : Partly l.initial.out l.at (flat_map line (cut (length l.rows / 5) 5 l.rows)) l.out l.to (flat_map line (drop l.row-index (cut (length l.rows / 5) 5 l.rows)));
}
