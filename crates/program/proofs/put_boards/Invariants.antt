-- The boards from i on are left.
use Rattle.std.proofs.Common.{◌≡◌, ◌+◌, ◌*◌, ◌≤◌, get_or}
use Rattle.text.specs.Laid.{Partly}
use Rattle.program.proofs.Boards.{boards_left}
use Rattle.program.proofs.put_boards.Given as goal

abbrev pub invariant-loop-i : goal.invariant-loop-i
invariant-loop-i l = record {
  few : l.i-end ≤ 32;
  count : l.i-end ≡ get_or l.store 9 0;
  near : l.to ≤ l.at + 913 * l.i;
  left : Partly l.initial.out l.at (boards_left l.store 0) l.out l.to (boards_left l.store l.i);
}
