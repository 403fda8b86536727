-- A store in order: what every write of a step finds and leaves. Between two writes the rules that tie the tree, the memo and the
-- boards to each other may be broken; each part by itself never is.
use Rattle.std.specs.Prelude.{ℕ, ◌≤◌, ◌≡◌, List, length}
use Rattle.rules.specs.Store.{Board, Store, row_limit, words, store_of}
use Rattle.rules.specs.Views.{Sizes, MemoInRange}
use Rattle.rules.specs.laws.All.{All}
use Rattle.rules.specs.laws.Rows.{RowsAscend}
use Rattle.tree.specs.Putting.{ProperPlaces}

-- a board's rows have room and ascend
pub record BoardInOrder (b : Board) : Type 0 where
  pub few : length b.rows ≤ row_limit
  pub ascend : RowsAscend b.rows

pub record InOrder (s : Store) : Type 0 where
  pub sizes : Sizes (length s.pages) s.slots (length s.boards)
  pub pages : All (λ g. length g.places ≤ 8) s.pages
  pub proper : All (λ g. ProperPlaces g.places) s.pages
  pub memo : MemoInRange s.slots s.memo
  pub boards : All BoardInOrder s.boards

-- what is lent: the words of a store in order
pub record Lent (w : List ℕ) : Type 0 where
  pub written : words (store_of w) ≡ w
  pub order : InOrder (store_of w)

-- what is left: the words of the store s, which is in order
pub record Became (s : Store) (w : List ℕ) : Type 0 where
  pub wrote : w ≡ words s
  pub stored : store_of w ≡ s
  pub order : InOrder s

-- and with it a count
pub record Counted (s : Store) (n : ℕ) (w : List ℕ) (r : ℕ) : Type 0 where
  pub became : Became s w
  pub counted : r ≡ n
