-- A board opened: the words of its rows, copied behind its window and its count, are those of the board. Assumes nothing.
use Prim.Native.Nat.{ℕ, suc, ◌+◌, ◌*◌, ◌-◌, ◌≤◌, ◌<◌}
use native.Mathlib.Omega.{arith}
use mathlib.Core.Path.{◌≡◌, ◌∙◌, ap}
use mathlib.Core.List.{List, [], ◌∷◌, ◌++◌, map, flat_map, append-nil}
use lib.ListN.{length, drop, set, replicate, length-map, length-replicate, replicate-append-replicate}
use lib.Seq.{drop_at}
use borrow.Rule.Slice.PartMut.{put_mid}
use Rattle.rules.specs.declared.Row.{Row}
use Rattle.rules.specs.declared.Window.{Window}
use Rattle.rules.specs.Lists.{padded}
use Rattle.rules.specs.Store.{row_limit, window_words, row_words, board_words, store_of}
use Rattle.rules.specs.Boards.{opened}
use Rattle.rules.specs.laws.All.{always}
use Rattle.rules.specs.laws.Rows.{RowsAscend}
use Rattle.rules.specs.laws.Parts.{with_boards}
use Rattle.rules.specs.laws.Words.{flat_length, row_words-length}
use Rattle.query.specs.Keys.{row_of_key}
use Rattle.parts.specs.InOrder.{Lent, Became}
use Rattle.parts.specs.BoardAt.{BoardAt}
use Rattle.parts.proofs.Boards.{board_became}

-- ---- the words as they are written
pub rows_written : (o rows : List ℕ) (n : ℕ) (w : Window) → o ≡ board_words (opened w []) → length rows ≡ 80 → put_mid 6 80 (set o 5 n) rows ≡ window_words w ++ (1 ∷ n ∷ rows)
unfolding board_words window_words padded flat_map
rows_written o rows n w e long = rw e (append-nil (window_words w ++ (1 ∷ n ∷ rows)))

-- ---- the board's words
-- the zeros behind the rows
zeros_left : (m n : ℕ) → m ≤ n → drop {A = ℕ} m (replicate n 0) ≡ replicate (n - m) 0
zeros_left m n h =
    let e : m + (n - m) ≡ n = omega arith in
    let z : replicate {A = ℕ} n 0 ≡ replicate m 0 ++ replicate (n - m) 0 = rw (replicate-append-replicate, e) in
    rw z (drop_at (replicate m 0) (replicate (n - m) 0) m (length-replicate m 0))

opened-words : (w : Window) (rs : List Row) (n : ℕ) → length rs ≡ n → n ≤ row_limit
    → window_words w ++ (1 ∷ n ∷ (flat_map row_words rs ++ drop (5 * n) (replicate 80 0))) ≡ board_words (opened w rs)
unfolding board_words window_words padded
opened-words w rs n many few =
    let long : length (flat_map row_words rs) ≡ 5 * length rs = flat_length row_words 5 (always row_words-length rs) in
    let e : 86 - suc (suc (suc (suc (suc (suc (length (flat_map row_words rs))))))) ≡ 80 - 5 * n = omega arith in
    rw (zeros_left (5 * n) 80 (omega arith), many, e)

module _ (v : List ℕ) (i from to : ℕ) (l : Lent v) (inside : i < length (store_of v).boards) (at : BoardAt v i from) (ends : to ≡ from + 86) (w : Window) (keys : List ℕ) where
  abbrev rs : List Row
  rs = map (row_of_key (store_of v).pages) keys

  pub board_opened : length keys ≤ row_limit → RowsAscend rs → (rows ws : List ℕ)
      → rows ≡ flat_map row_words rs ++ drop (5 * length keys) (replicate 80 0) → ws ≡ window_words w ++ (1 ∷ length keys ∷ rows)
      → Became (with_boards (store_of v) (set (store_of v).boards i (opened w rs))) (put_mid from (to - from) v ws)
  board_opened few ascend rows ws e f =
      let n = length keys in
      let many : length rs ≡ n = length-map keys (row_of_key (store_of v).pages) in
      rw ends (board_became l inside at (opened w rs) (record { few = omega arith; ascend = ascend }) ws (f ∙ ap (λ z. window_words w ++ (1 ∷ n ∷ z)) e ∙ opened-words w rs n many few))
