use Rattle.std.proofs.Common.{◌≡◌}
use Rattle.rules.specs.Store.{store_of}
use Rattle.walk.specs.Walk.{pages_hold}
use Rattle.walk.proofs.Pages.{left_to_hold}
use Rattle.walk.proofs.tidy_store.Tidy.pages_hold.Given as goal

-- the pages before i hold
abbrev pub invariant-loop-i : goal.invariant-loop-i
invariant-loop-i l = left_to_hold (store_of l.self.words.now) l.flags l.i l.i-end ≡ pages_hold (store_of l.self.words.now) l.flags
