-- The places so far wait behind the others.
use Rattle.std.proofs.Common.{◌≡◌, ◌++◌, map, take}
use Rattle.trim.specs.Trimming.{at_level}
use Rattle.trim.proofs.add_orphans.Given as goal

abbrev pub invariant-loop-place : goal.invariant-loop-place
invariant-loop-place l = l.waiting.items ≡ l.initial.waiting.items ++ map (at_level l.level) (take l.place-index l.places)
