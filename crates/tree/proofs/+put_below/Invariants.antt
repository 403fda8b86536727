-- The depth falls.
use Rattle.tree.proofs.+put_below.Given as goal

abbrev pub decreases-put_below : goal.decreases-put_below
decreases-put_below l = l.depth
