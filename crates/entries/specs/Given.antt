-- What is known of a store before its entries are looked at: its words are tidy and in range, and its tree is sound.
use Rattle.std.specs.Prelude.{◌≡◌, List, ℕ, length}
use Rattle.rules.specs.Store.{Store, words, store_of}
use Rattle.rules.specs.Views.{Sizes, HeaderInRange, PageInRange, MemoInRange, BoardInRange, Rule1, Rule2, Rule3}
use Rattle.rules.specs.laws.All.{All, all_map}
use Rattle.rules.specs.laws.Words.{Fits}
use Rattle.theorems.specs.TreeSound.{TreeSound}

pub record TreeGiven (s : Store) : Type 0 where
  pub sizes : Sizes (length s.pages) s.slots (length s.boards)
  pub header : HeaderInRange s
  pub pages : All (PageInRange (length s.pages)) s.pages
  pub memo : MemoInRange s.slots s.memo
  pub boards : All BoardInRange s.boards
  pub rule1 : Rule1 s
  pub rule2 : Rule2 s
  pub rule3 : Rule3 s

pub record Trusted (w : List ℕ) : Type 0 where
  pub tidy : words (store_of w) ≡ w
  pub given : TreeGiven (store_of w)

pub given_fits : (s : Store) → TreeGiven s → Fits s
given_fits s T =
    record {
      pages_fit = all_map T.pages λ g h. h.places_most;
      memo_fits = T.memo.used_most;
      slots_used = T.memo.trains;
      boards_fit = all_map T.boards λ b h. h.rows_most;
    }

-- with marks of inner pages 0 the tree is sound
pub given_tree : (s : Store) → TreeGiven s → All (λ g. g.kind ≡ 2 → g.mark.0 ≡ 0) s.pages → TreeSound s
given_tree s T inner =
    record {
      some_page = T.sizes.some_page;
      pages_most = T.sizes.pages_most;
      root_page = T.header.root_page;
      levels_least = T.header.levels_least;
      levels_most = T.header.levels_most;
      pages = T.pages;
      inner_marks = inner;
      rule1 = T.rule1;
      rule2 = T.rule2;
      rule3 = T.rule3;
    }
