-- A page calls for its places one level lower, and these for each child at that level, so the measures are twice the level, and one more for the
-- places. No place before i leads to the page.
use Rattle.std.proofs.Common.{ℕ, ◌≡◌, ◌+◌, ◌*◌, ◌<◌, false, get_or}
use Rattle.rules.specs.Store.{no_place, child_of, store_of}
use Rattle.trim.specs.Trimming.{leads_to}
use Rattle.trim.proofs.+reaches_way_to.Given as goal

abbrev pub decreases-reaches : goal.decreases-reaches
decreases-reaches l = 2 * l.level

abbrev pub decreases-way_to : goal.decreases-way_to
decreases-way_to l = 2 * l.level + 1

abbrev pub invariant-way_to-loop-i : goal.invariant-way_to-loop-i
invariant-way_to-loop-i l = (k : ℕ) → k < l.i → leads_to (store_of l.store).pages l.level l.q (child_of (get_or l.e-items k no_place)) ≡ false
