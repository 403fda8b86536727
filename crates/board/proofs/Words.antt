-- A board's words: those before its rows, its rows' own, and the zeros behind them; a row that is read, written, put in or taken out. Assumes nothing.
use Prim.Native.Nat.{ℕ, zero, suc, ◌+◌, ◌*◌, ◌-◌, ◌≤◌, ◌<◌}
use native.Mathlib.Omega.{arith}
use mathlib.Core.Path.{◌≡◌, refl, sym, ap, ◌∙◌}
use mathlib.Core.List.{List, [], ◌∷◌, ◌++◌, flat_map, append_assoc}
use lib.ListN.{length, take, drop, get_or, set, replicate, length-append, length-set, length-drop, take-append-drop, drop_of_length-le}
use lib.Seq.{take_at, drop_at, drop-cons, drop-drop, take_all, take-append-le, take-take, length-take-le}
use Rattle.std.specs.List.{copy_within}
use borrow.Rule.Slice.PartMut.{put_mid, post_of}
use Rattle.rules.specs.declared.Row.{Row}
use Rattle.rules.specs.declared.Window.{Window}
use Rattle.rules.specs.Lists.{without, padded}
use Rattle.rules.specs.Store.{Board, closed, row_limit, window_words, row_words, box_words, board_words, box_of, row_of, board_of}
use Rattle.rules.specs.Boards.{with_rows, opened}
use Rattle.rules.specs.laws.All.{always, flat_append}
use Rattle.rules.specs.laws.Words.{flat_length, row_words-length, board_words-length}
use Rattle.rules.specs.laws.Parts.{no_row, row_written}
use Rattle.rules.specs.laws.Places.{without-length}
use Rattle.rules.specs.laws.Splice.{splice, lent_back}
use Rattle.board.specs.Rows.{BoardWords, Became, put}
use Rattle.board.specs.Laws.{put-length}

-- ---- what words a board has
-- words 0 to 5 with this count, and the zeros behind n rows
abbrev head : Board → ℕ → List ℕ
head b n = b.window.x0 ∷ b.window.y0 ∷ b.window.x1 ∷ b.window.y1 ∷ b.isopen ∷ n ∷ []

abbrev zeros : ℕ → List ℕ
zeros n = replicate (5 * (row_limit - n)) 0

rows-length : (rows : List Row) → length (flat_map row_words rows) ≡ 5 * length rows
rows-length rows = flat_length row_words 5 (always row_words-length rows)

-- the words with these rows
abbrev laid : Board → List Row → List ℕ
laid b rows = head b (length rows) ++ (flat_map row_words rows ++ zeros (length rows))

laid_out : (b : Board) → length b.rows ≤ row_limit → board_words b ≡ laid b b.rows
unfolding board_words window_words padded
laid_out b fit =
    let n = length b.rows in
    let e : 86 - suc (suc (suc (suc (suc (suc (5 * n)))))) ≡ 5 * (row_limit - n) = omega arith in
    rw (rows-length b.rows, e) refl

became_by : (w : List ℕ) (rows : List Row) (v : List ℕ) → v ≡ board_words (with_rows rows (board_of w)) → length rows ≤ row_limit → Became w rows v
became_by w rows v q h = record { written = q; fits = h; long = ap length q ∙ board_words-length _ h }

became : (w : List ℕ) (rows : List Row) (v : List ℕ) → v ≡ laid (board_of w) rows → length rows ≤ row_limit → Became w rows v
became w rows v e h = became_by w rows v (e ∙ sym (laid_out (with_rows rows (board_of w)) h)) h

whole : (w : List ℕ) → BoardWords w → w ≡ laid (board_of w) (board_of w).rows
whole w is = sym is.same ∙ laid_out (board_of w) is.few

-- ---- the words up to row i, and from it on
module _ (b : Board) (rows : List Row) (w : List ℕ) (e : w ≡ laid b rows) where
  pub count_word : get_or w 5 0 ≡ length rows
  count_word = rw e refl

  module _ (i : ℕ) (h : i ≤ length rows) where
    ahead : List ℕ
    ahead = head b (length rows) ++ flat_map row_words (take i rows)

    behind : List ℕ
    behind = flat_map row_words (drop i rows) ++ zeros (length rows)

    parted : w ≡ ahead ++ behind
    unfolding ahead behind
    parted =
        let rs : flat_map row_words rows ≡ flat_map row_words (take i rows) ++ flat_map row_words (drop i rows) =
        ap (flat_map row_words) (sym (take-append-drop i rows)) ∙ flat_append row_words (take i rows) (drop i rows) in
        e ∙ ap (λ l. head b (length rows) ++ (l ++ zeros (length rows))) rs ∙ simp append_assoc

    ahead-length : length ahead ≡ 6 + 5 * i
    unfolding ahead
    ahead-length = let t = length-take-le i rows h in omega (arith, rows-length (take i rows))

    words_before : take (6 + 5 * i) w ≡ ahead
    words_before = ap (take (6 + 5 * i)) parted ∙ take_at ahead behind (6 + 5 * i) ahead-length

    words_from : drop (6 + 5 * i) w ≡ behind
    words_from = ap (drop (6 + 5 * i)) parted ∙ drop_at ahead behind (6 + 5 * i) ahead-length

  -- and those of rows i to n, by themselves
  rows_from : (i : ℕ) → i ≤ length rows → take (6 + 5 * length rows - (6 + 5 * i)) (drop (6 + 5 * i) w) ≡ flat_map row_words (drop i rows)
  unfolding behind
  rows_from i h =
      let m : length (flat_map row_words (drop i rows)) ≡ 6 + 5 * length rows - (6 + 5 * i) = rows-length (drop i rows) ∙ omega (arith, length-drop i rows) in
      ap (take _) (words_from i h) ∙ take_at (flat_map row_words (drop i rows)) (zeros (length rows)) _ m

  -- what follows the last row
  words_past : drop (6 + 5 * length rows) w ≡ zeros (length rows)
  unfolding behind flat_map
  words_past = words_from (length rows) (omega arith) ∙ ap (λ l. flat_map row_words l ++ zeros (length rows)) (drop_of_length-le rows {i = length rows} (omega arith))

  -- row i
  row_here : (i : ℕ) → i < length rows → row_of (drop (6 + 5 * i) w) ≡ get_or rows i no_row
  unfolding behind flat_map row_words box_words row_of box_of
  row_here i h = rw (words_from i (omega arith), drop-cons rows i no_row h) refl

-- ---- what moving some words up or down by five leaves
module _ (w : List ℕ) (a l : ℕ) (h : a ≤ l) (k : l + 5 ≤ length w) where
  front : length (take a w) ≡ a
  front = length-take-le a w (omega arith)

  up : List ℕ
  up = take a w ++ (take (l - a) (drop a w) ++ drop (l + 5) w)

  pub moved_up : (ws : List ℕ) → put_mid a (a + 5 - a) (copy_within w a l (a + 5)) ws ≡ take a w ++ (ws ++ (take (l - a) (drop a w) ++ drop (l + 5) w))
  moved_up ws =
      let e : a + 5 + (l - a) ≡ l + 5 = omega arith in
      let long : length (take (a + 5) w) ≡ a + 5 = length-take-le (a + 5) w (omega arith) in
      let rest : List ℕ = take (l - a) (drop a w) ++ drop (l + 5) w in
      let v : copy_within w a l (a + 5) ≡ take (a + 5) w ++ rest = rw (e, append_assoc) refl in
      lent_back (copy_within w a l (a + 5)) a 5 ws
      ∙ rw (v, drop_at (take (a + 5) w) rest (a + 5) long, take-append-le a (take (a + 5) w) rest (omega arith), take-take a (a + 5) w (omega arith)) refl

  pub moved_down : (ws : List ℕ) → put_mid l (l + 5 - l) (copy_within w (a + 5) (l + 5) a) ws ≡ take a w ++ (take (l - a) (drop (a + 5) w) ++ (ws ++ drop (l + 5) w))
  moved_down ws =
      let e : l + 5 - (a + 5) ≡ l - a = omega arith in
      let f : a + (l - a) ≡ l = omega arith in
      let first : List ℕ = take a w ++ take (l - a) (drop (a + 5) w) in
      let long : length first ≡ l = omega (arith, length-append (take a w) (take (l - a) (drop (a + 5) w)), front, length-take-le (l - a) (drop (a + 5) w), length-drop (a + 5) w) in
      let v : copy_within w (a + 5) (l + 5) a ≡ first ++ drop l w = rw (e, f) refl in
      lent_back (copy_within w (a + 5) (l + 5) a) l 5 ws
      ∙ rw (v, take_at first (drop l w) l long, ← drop-drop 5 l (first ++ drop l w), drop_at first (drop l w) l long, drop-drop, append_assoc) refl

-- ---- a row more or fewer, counted last
without_is : {A : Type 0} (xs : List A) (i : ℕ) → i < length xs → without xs i ≡ take i xs ++ drop (suc i) xs
unfolding without
without_is [] i h = absurd (omega arith)
without_is (x ∷ xs) zero h = refl
without_is (x ∷ xs) (suc i) h = ap (λ r. x ∷ r) (without_is xs i (omega arith))

module _ (b : Board) (rows : List Row) (w : List ℕ) (e : w ≡ laid b rows) (long : length w ≡ 86) (i : ℕ) where
  put_in : (r : Row) → i ≤ length rows → length rows < row_limit
      → set (put_mid (6 + 5 * i) (6 + 5 * i + 5 - (6 + 5 * i)) (copy_within w (6 + 5 * i) (6 + 5 * length rows) (6 + 5 * i + 5)) (row_words r)) 5 (length rows + 1) ≡ laid b (put rows i r)
  unfolding ahead put flat_map
  put_in r h room =
      let past : drop (6 + 5 * length rows + 5) w ≡ zeros (length rows + 1) =
      let five : 5 * (row_limit - length rows) ≡ suc (suc (suc (suc (suc (5 * (row_limit - (length rows + 1))))))) = omega arith in
      sym (drop-drop 5 (6 + 5 * length rows) w) ∙ ap (drop 5) (words_past b rows w e) ∙ rw five refl in
      let more = put-length rows i r h in
      rw (moved_up w (6 + 5 * i) (6 + 5 * length rows) (omega arith) (omega arith) (row_words r), words_before b rows w e i h, rows_from b rows w e i h, past, more, flat_append) (simp append_assoc)

  taken_out : (n : ℕ) → i ≤ n → length rows ≡ n + 1 → n < row_limit
      → set (put_mid (6 + 5 * n) (6 + 5 * n + 5 - (6 + 5 * n)) (copy_within w (6 + 5 * i + 5) (6 + 5 * n + 5) (6 + 5 * i)) (replicate 5 0)) 5 n ≡ laid b (without rows i)
  unfolding ahead
  taken_out n h many room =
      let k : 6 + 5 * i + 5 ≡ 6 + 5 * suc i = omega arith in
      let j : 6 + 5 * n - (6 + 5 * i) ≡ 6 + 5 * length rows - (6 + 5 * suc i) = omega arith in
      let l : 6 + 5 * n + 5 ≡ 6 + 5 * length rows = omega arith in
      let five : 5 * (row_limit - n) ≡ suc (suc (suc (suc (suc (5 * (row_limit - length rows)))))) = omega arith in
      let fewer : length (without rows i) ≡ n = without-length rows i (omega arith) ∙ omega arith in
      let m = moved_down w (6 + 5 * i) (6 + 5 * n) (omega arith) (omega arith) (replicate 5 0) in
      rw (m, words_before b rows w e i (omega arith), k, j, rows_from b rows w e (suc i) (omega arith), l, words_past b rows w e, fewer, without_is rows i (omega arith), five, flat_append) (simp append_assoc)

-- ---- what a board's functions read and write
module _ (w : List ℕ) (is : BoardWords w) where
  pub count_read : get_or w 5 0 ≡ length (board_of w).rows
  count_read = count_word (board_of w) (board_of w).rows w (whole w is)

  pub row_read : (i k : ℕ) → i < length (board_of w).rows → length w ≤ 6 + 5 * i + k → row_of (take k (drop (6 + 5 * i) w)) ≡ get_or (board_of w).rows i no_row
  row_read i k h l =
      ap row_of (take_all k (drop (6 + 5 * i) w) (omega (arith, length-drop (6 + 5 * i) w))) ∙ row_here (board_of w) (board_of w).rows w (whole w is) i h

  pub row_put : (i : ℕ) → i < length (board_of w).rows → (r : Row) (ws : List ℕ) → ws ≡ row_words r
      → Became w (set (board_of w).rows i r) (put_mid (6 + 5 * i) (6 + 5 * i + 5 - (6 + 5 * i)) w ws)
  row_put i inside r ws e =
      became_by w _ _
      (lent_back w (6 + 5 * i) 5 ws ∙ ap (splice w (6 + 5 * i) 5) e ∙ ap (λ l. splice l (6 + 5 * i) 5 (row_words r)) (sym is.same) ∙ sym (row_written (board_of w) is.few i inside r))
      (rw length-set is.few)

  pub row_in : (i n a l : ℕ) (r : Row) (v ws : List ℕ) → i ≤ length (board_of w).rows → n ≡ length (board_of w).rows → a ≡ 6 + 5 * i → l ≡ 6 + 5 * n
      → length (board_of w).rows < row_limit → v ≡ copy_within w a l (a + 5) → ws ≡ row_words r
      → Became w (put (board_of w).rows i r) (set (put_mid a (a + 5 - a) v ws) 5 (n + 1))
  row_in i n a l r v ws h e ea el room ev ew =
      let more = put-length (board_of w).rows i r h in
      rw (ev, ew, ea, el, e) (became w _ _ (put_in (board_of w) (board_of w).rows w (whole w is) is.long i r h room) (omega arith))

  pub row_out : (i n a l : ℕ) (v ws : List ℕ) → i < length (board_of w).rows → n ≡ length (board_of w).rows → a ≡ 6 + 5 * i → l ≡ 6 + 5 * (n - 1)
      → v ≡ copy_within w (a + 5) (l + 5) a → length v ≡ length w → ws ≡ replicate (length (take (l + 5 - l) (drop l v))) 0
      → Became w (without (board_of w).rows i) (set (put_mid l (l + 5 - l) v ws) 5 (n - 1))
  row_out i n a l v ws h e ea el ev lv ew =
      let fewer = without-length (board_of w).rows i h in
      let few = is.few in
      let long = is.long in
      let five : length (take (l + 5 - l) (drop l v)) ≡ 5 = length-take-le (l + 5 - l) (drop l v) (omega (arith, length-drop l v)) ∙ omega arith in
      let zero_words : ws ≡ replicate 5 0 = ew ∙ ap (λ k. replicate k 0) five in
      rw (zero_words, ev, ea, el) (became w _ _ (taken_out (board_of w) (board_of w).rows w (whole w is) is.long i (n - 1) (omega arith) (omega arith) (omega arith)) (omega arith))

-- ---- a closed board, and an open one with no rows
pub cleared : (w : List ℕ) → length w ≡ 86 → replicate (length w) 0 ≡ board_words closed
unfolding board_words window_words padded flat_map
cleared w e = rw e refl

pub opened_words : (o : Window) → set (window_words o ++ post_of 0 4 (board_words closed)) 4 1 ≡ board_words (opened o [])
unfolding board_words window_words padded flat_map
opened_words o = refl
