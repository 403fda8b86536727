-- A board's own words, and where a train's row stands among its rows.
use Rattle.std.specs.Prelude.{ℕ, Result, Ok, Err, suc, ◌≤◌, ◌≡◌, Bool, true, false, cond, List, [], ◌∷◌, ◌++◌, eqb, ltb, length, take, drop, set}
use Rattle.rules.specs.declared.Train.{Train}
use Rattle.rules.specs.declared.Row.{Row}
use Rattle.rules.specs.Lists.{without}
use Rattle.rules.specs.Store.{row_limit, board_words, board_of}
use Rattle.rules.specs.Boards.{with_rows}

-- the words of a board: at most sixteen rows, and zero after them
pub record BoardWords (w : List ℕ) : Type 0 where
  pub long : length w ≡ 86
  pub few : length (board_of w).rows ≤ row_limit
  pub same : board_words (board_of w) ≡ w

-- the board of w with other rows, at most sixteen, is the board of v
pub record Became (w : List ℕ) (rows : List Row) (v : List ℕ) : Type 0 where
  pub written : v ≡ board_words (with_rows rows (board_of w))
  pub fits : length rows ≤ row_limit
  pub long : length v ≡ 86

-- x before the element at place i
unfoldable pub put : {A : Type 0} → List A → ℕ → A → List A
put xs i x = take i xs ++ (x ∷ drop i xs)

-- ---- where a train's row stands, or where it would come
unfoldable pub further : Result ℕ ℕ → Result ℕ ℕ
further (Ok i) = Ok (suc i)
further (Err i) = Err (suc i)

unfoldable pub row_place : Train → List Row → Result ℕ ℕ
row_place t [] = Err 0
row_place t (q ∷ qs) =
    let later = row_place t qs in
    cond (ltb t.0 q.train.0) (Err 0) (cond (eqb t.0 q.train.0) (Ok 0) (further later))

-- what a place says of the train, and what inserting and removing its row come to
unfoldable pub is_listed : Result ℕ ℕ → Bool
is_listed (Ok i) = true
is_listed (Err i) = false

unfoldable pub inserted_at : Row → Result ℕ ℕ → List Row → List Row
inserted_at r (Ok i) rows = set rows i r
inserted_at r (Err i) rows = put rows i r

unfoldable pub removed_at : Result ℕ ℕ → List Row → List Row
removed_at (Ok i) rows = without rows i
removed_at (Err i) rows = rows
