-- What the tests of a row, of a board and of all boards come to. Assumes nothing.
use Rattle.std.proofs.Common.{ℕ, suc, ◌+◌, ◌≤◌, ◌<◌, ◌≡◌, refl, ap, Bool, true, false, ◌&&◌, List, ◌∷◌, map, length, get_or, drop, add-one, drop-cons, drop_of_length-le}
use Rattle.std.proofs.Math.Bool.{and_assoc, and-true}
use mathlib.Core.List.{flat_map}
use Rattle.rules.specs.declared.Row.{Row}
use Rattle.rules.specs.Lists.{all_of, every, same_words}
use Rattle.rules.specs.Store.{Board, Page, Store, closed, box_words, row_words, board_at}
use Rattle.rules.specs.Boxes.{proper_window}
use Rattle.rules.specs.Boards.{is_open}
use Rattle.rules.specs.Sound.{same_rows}
use Rattle.rules.specs.Views.{same_rows-holds}
use Rattle.rules.specs.laws.Parts.{no_row}
use Rattle.query.specs.Keys.{row_of_key}
use Rattle.watch.specs.Watched.{board_sound}

-- ---- rows, one by one
rows_next : (q r : Row) (qs rs : List Row)
    → same_rows (q ∷ qs) (r ∷ rs) ≡ (same_words (row_words q) (row_words r) && same_rows qs rs)
unfolding same_rows same_words row_words box_words flat_map
rows_next q r qs rs = simp (and_assoc, and-true)

module _ (ps : List Page) (qs : List Row) (ks : List ℕ) (i : ℕ) where
  pub rows_more : i < length qs → i < length ks
      → same_rows (drop i qs) (map (row_of_key ps) (drop i ks))
      ≡ (same_words (row_words (get_or qs i no_row)) (row_words (row_of_key ps (get_or ks i 0))) && same_rows (drop (i + 1) qs) (map (row_of_key ps) (drop (i + 1) ks)))
  rows_more h k = rw (drop-cons qs i no_row h, drop-cons ks i 0 k, add-one) (rows_next (get_or qs i no_row) (row_of_key ps (get_or ks i 0)) (drop (suc i) qs) (map (row_of_key ps) (drop (suc i) ks)))

  pub rows_none : length qs ≤ i → length ks ≤ i → same_rows (drop i qs) (map (row_of_key ps) (drop i ks)) ≡ true
  unfolding same_rows same_words flat_map
  rows_none h k = rw (drop_of_length-le qs {i = i} h, drop_of_length-le ks {i = i} k)

pub other_length : (qs rs : List Row) → (length qs ≡ length rs → ⊥) → same_rows qs rs ≡ false
other_length qs rs h = go (same_rows qs rs) refl
  where
    go : (t : Bool) → same_rows qs rs ≡ t → same_rows qs rs ≡ false
    go true e = absurd (h (ap length (same_rows-holds qs rs e)))
    go false e = e

-- ---- a board
pub window_off : (s : Store) (b : Board) → is_open b ≡ true → proper_window b.window ≡ false → false ≡ board_sound s b
unfolding board_sound all_of
window_off s b o f = rw (o, f)

-- ---- all boards
module _ (s : Store) (i : ℕ) where
  pub boards_more : i < length s.boards → every (board_sound s) (drop i s.boards) ≡ (board_sound s (board_at s i) && every (board_sound s) (drop (i + 1) s.boards))
  unfolding board_at
  boards_more inside = rw (drop-cons s.boards i closed inside, add-one)

  pub boards_none : length s.boards ≤ i → every (board_sound s) (drop i s.boards) ≡ true
  boards_none h = rw (drop_of_length-le s.boards {i = i} h)
