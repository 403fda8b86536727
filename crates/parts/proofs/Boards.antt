-- The boards of a lent store: what each says, and what telling them one after the other leaves. Assumes nothing.
use Prim.Native.Nat.{ℕ, suc, ◌+◌, ◌-◌, ◌≤◌, ◌<◌}
use native.Mathlib.Omega.{arith}
use native.Mathlib.Numerals.{add-one}
use mathlib.Core.Path.{◌≡◌, refl, sym, ◌∙◌, ap}
use mathlib.Core.Bool.{false≢true, Bool, true, false, ◌&&◌, ◌||◌}
use mathlib.Core.List.{List, [], ◌∷◌, ◌++◌, map, append-nil, append_assoc, map-append}
use lib.ListN.{length, get_or, take, drop, set, length-set, length-append, length-map, take-append-drop, drop_of_length-le}
use lib.Seq.{drop-cons, take-suc, take_all, length-take-le, get_or_at, set_at}
use borrow.Rule.Slice.PartMut.{put_mid}
use Rattle.rules.specs.declared.Train.{Train}
use Rattle.rules.specs.declared.Row.{Row}
use Rattle.rules.specs.Lists.{some_one, count, one_if}
use Rattle.rules.specs.Boxes.{meets}
use Rattle.rules.specs.Store.{Board, Store, row_limit, closed, board_words, board_of, board_at, store_of}
use Rattle.rules.specs.Boards.{is_open, lists, told, untold, overfull}
use Rattle.rules.specs.laws.All.{All, all_map, all_zip, all_at, all_set}
use Rattle.rules.specs.laws.Boards.{untold-closed, touched-told}
use Rattle.rules.specs.laws.Counts.{count_append}
use Rattle.rules.specs.laws.Rows.{RowsAscend, no_one_all, told-lists, untold-lists, untold_same}
use Rattle.rules.specs.laws.Parts.{with_boards}
use Rattle.rules.specs.laws.Placed.{board_back}
use Rattle.board.specs.Rows.{BoardWords}
use Rattle.parts.specs.InOrder.{BoardInOrder, Lent, Became}
use Rattle.parts.specs.Laws.{lent_placed, lent_became, became, became_lent, became_then, order_boards, told_in_order, untold_in_order, closed_in_order}
use Rattle.parts.specs.BoardAt.{BoardAt}
use Rattle.parts.specs.Promises.{touch, Told, ToldAll}

-- ---- one board
-- what a report comes to, from what is seen before it
pub touch_told : (r : Row) (b : Board) → touch r.train b (told r b) ≡ one_if (is_open b && (lists r.train b || meets r.bounds b.window))
touch_told r b = ap one_if (guarded (is_open b) _ _ λ o. rw (told-lists r b o))
  where
    guarded : (t x y : Bool) → (t ≡ true → x ≡ y) → (t && x) ≡ (t && y)
    guarded true x y h = h refl
    guarded false x y h = refl

-- what a withdrawal leaves
module _ (t : Train) (w : List ℕ) (own : BoardWords w) where
  abbrev b : Board
  b = board_of w

  pub left_untold : (is_open b && lists t b) ≡ false → Told t b (untold t b) w 0
  left_untold = go (is_open b) (lists t b) refl refl
    where
      go : (o l : Bool) → is_open b ≡ o → lists t b ≡ l → (o && l) ≡ false → Told t b (untold t b) w 0
      go true true p q f = absurd (false≢true (sym f))
      go true false p q f = record { wrote = sym (ap board_words (untold_same t b q) ∙ own.same); counted = rw (p, q, untold-lists t b p) }
      go false l p q f = record { wrote = sym (ap board_words (untold-closed t b p) ∙ own.same); counted = rw p }

-- ---- several boards, some one of which
module _ (f : Board → Bool) (s : Store) (i : ℕ) where
  pub looked_more : i < length s.boards → some_one f (drop i s.boards) ≡ (f (board_at s i) || some_one f (drop (i + 1) s.boards))
  unfolding board_at
  looked_more inside = rw (drop-cons s.boards i closed inside, add-one)

  pub looked_none : length s.boards ≤ i → some_one f (drop i s.boards) ≡ false
  looked_none h = rw (drop_of_length-le s.boards {i = i} h)

-- ---- one board written
pub board_became : {v : List ℕ} {i a : ℕ} → Lent v → i < length (store_of v).boards → BoardAt v i a → (b : Board) → BoardInOrder b → (ws : List ℕ) → ws ≡ board_words b
    → Became (with_boards (store_of v) (set (store_of v).boards i b)) (put_mid a (a + 86 - a) v ws)
board_became {v} {i} {a} l inside at b o ws e =
    became (order_boards l.order (length-set (store_of v).boards i b) (all_set l.order.boards i o)) (board_back v (lent_placed v l) i a inside at.starts b ws e)

pub board_closed : {v : List ℕ} {i from to : ℕ} → Lent v → i < length (store_of v).boards → BoardAt v i from → to ≡ from + 86 → (ws : List ℕ) → ws ≡ board_words closed
    → Became (with_boards (store_of v) (set (store_of v).boards i closed)) (put_mid from (to - from) v ws)
board_closed l inside at ends ws e = rw ends (board_became l inside at closed closed_in_order ws e)

-- ---- all boards told, one after the other, by the same rule
-- of the first i boards
unfoldable pub so_far : (Board → Board) → ℕ → List Board → List Board
so_far tell i bs = map tell (take i bs) ++ drop i bs

module _ (tell : Board → Board) (bs : List Board) where
  so_far_long : (i : ℕ) → length (so_far tell i bs) ≡ length bs
  unfolding so_far
  so_far_long i = simp (length-append, length-map) (sym (length-append (take i bs) (drop i bs)) ∙ ap length (take-append-drop i bs))

  so_far_end : (i : ℕ) → length bs ≤ i → so_far tell i bs ≡ map tell bs
  unfolding so_far
  so_far_end i h = rw (drop_of_length-le bs {i = i} h, take_all i bs h) (append-nil (map tell bs))

  module _ (i : ℕ) (inside : i < length bs) where
    front : length (map tell (take i bs)) ≡ i
    front = length-map (take i bs) tell ∙ length-take-le i bs (omega arith)

    so_far_here : get_or (so_far tell i bs) i closed ≡ get_or bs i closed
    unfolding so_far
    so_far_here = rw (drop-cons bs i closed inside) (get_or_at (map tell (take i bs)) (get_or bs i closed) (drop (suc i) bs) closed i front)

    so_far_on : set (so_far tell i bs) i (tell (get_or bs i closed)) ≡ so_far tell (i + 1) bs
    unfolding so_far
    so_far_on =
        let x = get_or bs i closed in
        rw (drop-cons bs i closed inside, add-one, take-suc bs i closed inside, map-append, append_assoc)
        (set_at (map tell (take i bs)) x (drop (suc i) bs) (tell x) i front)

one_at_most : (b : Bool) → one_if b ≤ 1
one_at_most true = omega arith
one_at_most false = omega arith

counted_on : (tell : Board → Board) (t : Train) (bs : List Board) (i : ℕ) → i < length bs
    → let f : Board → Bool = λ b. is_open b && (lists t b || lists t (tell b)) in
    count f (take (i + 1) bs) ≡ count f (take i bs) + one_if (f (get_or bs i closed))
unfolding count
counted_on tell t bs i inside =
    let f : Board → Bool = λ b. is_open b && (lists t b || lists t (tell b)) in
    rw (add-one, take-suc bs i closed inside) (omega (arith, count_append f (take i bs) (get_or bs i closed ∷ [])))

-- the first i boards have been told, and n of them are touched
pub record Telling (tell : Board → Board) (t : Train) (v w : List ℕ) (i n : ℕ) : Type 0 where
  pub now : Became (with_boards (store_of v) (so_far tell i (store_of v).boards)) w
  pub counted : n ≡ count (λ b. is_open b && (lists t b || lists t (tell b))) (take i (store_of v).boards)
  pub few : n ≤ i

module _ (tell : Board → Board) (t : Train) (v : List ℕ) (l : Lent v) (keeps : All (λ b. BoardInOrder (tell b)) (store_of v).boards) where
  abbrev all : List Board
  all = (store_of v).boards

  pub telling_none : Telling tell t v v 0 0
  unfolding so_far count
  telling_none = record { now = lent_became l; counted = refl; few = omega arith }

  module _ (w : List ℕ) (i n : ℕ) (so : Telling tell t v w i n) where
    pub telling_lent : Lent w
    telling_lent = became_lent so.now

    pub telling_end : length all ≤ i → ToldAll tell t (store_of v) w n
    telling_end h =
        record {
          became = rw (so_far_end tell all i h) at so.now;
          counted = so.counted ∙ ap (count _) (take_all i all h) ∙ sym (touched-told t tell all);
        }

    module _ (inside : i < length all) where
      pub telling_inside : i < length (store_of w).boards
      telling_inside = omega (arith, ap (λ s. length s.boards) so.now.stored, so_far_long tell all i)

      module _ (from to : ℕ) (at : BoardAt w i from) (ends : to ≡ from + 86) where
        -- board i as it is lent on
        abbrev lent : List ℕ
        lent = take (to - from) (drop from w)

        there : board_of lent ≡ board_at (store_of w) i
        there = rw ends at.there

        here : board_of lent ≡ get_or all i closed
        unfolding board_at
        here = there ∙ ap (λ s. board_at s i) so.now.stored ∙ so_far_here tell all i inside

        kept : BoardInOrder (tell (get_or all i closed))
        kept = all_at keeps i closed inside

        pub telling_own : BoardWords lent
        telling_own = rw ends at.own

        pub telling_ascends : RowsAscend (board_of lent).rows
        unfolding board_at
        telling_ascends = rw there (all_at telling_lent.order.boards i closed telling_inside).ascend

        pub telling_fits : length (tell (board_of lent)).rows ≤ row_limit
        telling_fits = rw here kept.few

        module _ (after : List ℕ) (r : ℕ) (told : Told t (board_of lent) (tell (board_of lent)) after r) where
          abbrev old : Board
          old = get_or all i closed

          one : Told t old (tell old) after r
          one = rw here at told

          pub telling_on : Telling tell t v (put_mid from (to - from) w after) (i + 1) (n + r)
          telling_on =
              let next = board_became telling_lent telling_inside at (tell old) kept after one.wrote in
              let both = became_then (λ s. with_boards s (set s.boards i (tell old))) so.now next in
              rw ends
              (record {
                now = rw (so_far_on tell all i inside) at both;
                counted = omega (arith, so.counted, one.counted, counted_on tell t all i inside);
                few = omega (arith, so.few, one.counted, one_at_most (is_open old && (lists t old || lists t (tell old))));
              })

-- ---- what each telling keeps in order
pub told_keeps : (v : List ℕ) (r : Row) → Lent v → some_one (overfull r) (store_of v).boards ≡ false → All (λ b. BoardInOrder (told r b)) (store_of v).boards
told_keeps v r l f = all_zip l.order.boards (no_one_all (overfull r) (store_of v).boards f) (told_in_order r)

pub untold_keeps : (v : List ℕ) (t : Train) → Lent v → All (λ b. BoardInOrder (untold t b)) (store_of v).boards
untold_keeps v t l = all_map l.order.boards (untold_in_order t)
