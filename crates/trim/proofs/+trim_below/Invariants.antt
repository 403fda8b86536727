-- The depth falls.
use Rattle.trim.proofs.+trim_below.Given as goal

abbrev pub decreases-trim_below : goal.decreases-trim_below
decreases-trim_below l = l.depth
