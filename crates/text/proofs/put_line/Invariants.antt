-- The decimals from i on are left.
use Rattle.std.proofs.Common.{◌+◌, ◌*◌, ◌≤◌, drop}
use Rattle.text.specs.Printing.{line}
use Rattle.text.specs.Laid.{Partly}
use Rattle.text.proofs.put_line.Given as goal

abbrev pub invariant-loop-i : goal.invariant-loop-i
invariant-loop-i l = record { near : l.to ≤ l.at + 11 * l.i; left : Partly l.initial.out l.at (line l.words) l.out l.to (line (drop l.i l.words)) }
