use Rattle.std.proofs.Common.{◌-◌, length}
use Rattle.rules.specs.Store.{store_of}
use Rattle.walk.specs.Walk.{Walking}
use Rattle.walk.proofs.tidy_store.Tidy.+walk.Given as goal

abbrev pub decreases-walk : goal.decreases-walk
decreases-walk l = l.level

-- the walk under the places from place-index on is what is left of the walk
abbrev pub invariant-loop-place : goal.invariant-loop-place
invariant-loop-place l = Walking (store_of l.self.words.now).pages (l.level - 1) l.place-items l.initial.flags (length l.place-items) l.place-index l.flags
