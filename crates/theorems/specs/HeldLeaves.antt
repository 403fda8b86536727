-- What a descent from the root holds is what the leaves hold, wherever they stand among the pages.
use Rattle.std.specs.Prelude.{◌≡◌, map, length}
use Rattle.std.proofs.Common.{◌∙◌}
use Rattle.rules.specs.Store.{Store}
use Rattle.rules.specs.Live.{held_count, held}
use Rattle.rules.specs.laws.Order.{◌~◌, ◌then◌, same, back, length_reordered}
use Rattle.theorems.specs.TreeSound.{TreeSound}
use Rattle.theorems.specs.Leaves.{leaf_entries, leaf_entries-count, marked, marked-entries}
use Rattle.theorems.specs.tree.Descent.{held_all}
use Rattle.theorems.specs.tree.FromRules.{from-sound}
use Rattle.theorems.specs.tree.LeafAtoms.{entries_laid}

-- the entries held are those of the leaves
pub held_in-leaves : (s : Store) → TreeSound s → held s ~ leaf_entries s.pages
held_in-leaves s R =
    let I = from-sound s R in
    same (held_all s I.top I.root I.level I.laid.stands) then back (entries_laid s.pages I.top I.laid)

-- as many as the leaves have places used
pub held-counted : (s : Store) → TreeSound s → length (held s) ≡ held_count s.pages
held-counted s R = length_reordered (held_in-leaves s R) ∙ leaf_entries-count s.pages

-- and those that are marked, without their marks
pub held-marked : (s : Store) → TreeSound s → map (λ k. k.entry) (marked s.pages) ~ held s
held-marked s R = same (marked-entries s.pages) then back (held_in-leaves s R)
