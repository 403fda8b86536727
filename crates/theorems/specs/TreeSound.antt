-- What a sound store says of its tree alone: root, levels and pages, whatever the memo and the boards are.
use Rattle.std.specs.Prelude.{◌≤◌, ◌<◌, ◌≡◌, true, List, length}
use Rattle.std.proofs.Math.Path.{refl}
use Rattle.rules.specs.declared.Stamp.{Stamp}
use Rattle.rules.specs.declared.Slot.{Slot}
use Rattle.rules.specs.Store.{Board, Store}
use Rattle.rules.specs.Live.{held}
use Rattle.rules.specs.Tree.{tree_of}
use Rattle.rules.specs.Steps.{with_parts}
use Rattle.rules.specs.Sound.{reached, sound}
use Rattle.rules.specs.Views.{PageInRange, Rule1, Rule2, Rule3, sound-holds}
use Rattle.rules.specs.laws.All.{All, all_map}

-- rules 1 to 3; of the ranges those of sizes, root, levels and pages, a free page being zero throughout; of rule 7 that an inner page's mark is 0
pub record TreeSound (s : Store) : Type 0 where
  pub some_page : 1 ≤ length s.pages
  pub pages_most : length s.pages ≤ 192
  pub root_page : s.root.0 < length s.pages
  pub levels_least : 1 ≤ s.levels
  pub levels_most : s.levels ≤ 5
  pub pages : All (PageInRange (length s.pages)) s.pages
  pub inner_marks : All (λ g. g.kind ≡ 2 → g.mark.0 ≡ 0) s.pages
  pub rule1 : Rule1 s
  pub rule2 : Rule2 s
  pub rule3 : Rule3 s

-- a sound store has a sound tree
pub tree_of-sound : (s : Store) → sound s ≡ true → TreeSound s
tree_of-sound s e =
    let h = sound-holds s e in
    record {
      some_page = h.ranges.sizes.some_page;
      pages_most = h.ranges.sizes.pages_most;
      root_page = h.ranges.header.root_page;
      levels_least = h.ranges.header.levels_least;
      levels_most = h.ranges.header.levels_most;
      pages = h.ranges.pages;
      inner_marks = all_map h.rule7.marks λ g m. m.inner;
      rule1 = h.rule1;
      rule2 = h.rule2;
      rule3 = h.rule3;
    }

-- a store with the same tree has a sound tree too, and holds the same entries
module _ (s : Store) (next : Stamp) (memo : List Slot) (boards : List Board) where
  pub tree_kept : TreeSound s → TreeSound (with_parts s next (tree_of s) memo boards)
  unfolding reached
  tree_kept R =
      record {
        some_page = R.some_page;
        pages_most = R.pages_most;
        root_page = R.root_page;
        levels_least = R.levels_least;
        levels_most = R.levels_most;
        pages = R.pages;
        inner_marks = R.inner_marks;
        rule1 =
            record { root_used = R.rule1.root_used; leaves = R.rule1.leaves; inside = R.rule1.inside; once = R.rule1.once };
        rule2 = record { all_filled = all_map R.rule2.all_filled λ p h. record { most = h.most; least = h.least; root_least = h.root_least } };
        rule3 = record { smallest = R.rule3.smallest };
      }

  pub held_kept : held (with_parts s next (tree_of s) memo boards) ≡ held s
  unfolding held
  held_kept = refl
