use Rattle.std.proofs.Common.{◌≤◌}
use Rattle.entries.proofs.Apart.{Differing}
use Rattle.entries.proofs.all_new.Given as goal

abbrev pub invariant-loop-i : goal.invariant-loop-i
invariant-loop-i l = record { few : l.shared ≤ 64; tried : Differing l.keys l.flags l.i }
