-- The first i rows are those of the first i places.
use Rattle.std.proofs.Common.{◌≡◌, ◌++◌, map, take, drop}
use Rattle.rules.specs.Store.{place_words}
use Rattle.tree.proofs.nine.Given as goal

abbrev pub invariant-loop-i : goal.invariant-loop-i
invariant-loop-i l = l.rows ≡ map place_words (take l.i l.place-items) ++ drop l.i l.initial.rows
