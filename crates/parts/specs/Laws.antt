-- Laws of stores in order: a sound one is, its words are read back as it, and one with another part in order is.
use Rattle.std.specs.Prelude.{ℕ, ◌≡◌, refl, Bool, true, false, List, map, eqb, length, set, take}
use Rattle.std.proofs.Common.{arith, sym, ◌∙◌, ap, eqb-true, ltb-false}
use Rattle.std.proofs.lemmas.Bool.{eqb-false}
use Rattle.rules.specs.declared.Row.{Row}
use Rattle.rules.specs.declared.Slot.{Slot}
use Rattle.rules.specs.declared.Stamp.{Stamp}
use Rattle.rules.specs.declared.PageNo.{PageNo}
use Rattle.rules.specs.declared.Train.{Train}
use Rattle.rules.specs.declared.Window.{Window}
use Rattle.rules.specs.Lists.{same_words}
use Rattle.rules.specs.Boxes.{meets}
use Rattle.rules.specs.Store.{Board, Store, row_limit, closed, words, store_of}
use Rattle.rules.specs.Tree.{Tree}
use Rattle.rules.specs.Boards.{is_open, told, untold, overfull}
use Rattle.rules.specs.Sound.{sound_words}
use Rattle.rules.specs.Views.{MemoInRange, BoardInRange, OpenBoard, sound-holds}
use Rattle.rules.specs.laws.Tests.{either, and_left, and_right}
use Rattle.rules.specs.laws.All.{All, all_map, all_zip}
use Rattle.rules.specs.laws.Lists.{same_words_equal}
use Rattle.rules.specs.laws.Rows.{RowsAscend, r_none, inserted_ascend, removed_ascend, removed_fewer}
use Rattle.rules.specs.laws.Words.{Fits, fits_read}
use Rattle.rules.specs.laws.Parts.{with_memo, with_boards, with_header, next_written}
use Rattle.rules.specs.laws.Placed.{Placed}
use Rattle.rules.specs.theorems.Query.{rows_ascend}
use Rattle.theorems.specs.ProperBoxes.{boxes_proper}
use Rattle.tree.specs.Putting.{Ready, Grown, with_tree}
use Rattle.query.specs.Keys.{row_of_key, Found}
use Rattle.parts.specs.InOrder.{BoardInOrder, InOrder, Lent, Became}

-- ---- what is in order
pub order_fits : {s : Store} → InOrder s → Fits s
order_fits o =
    record {
      pages_fit = o.pages;
      memo_fits = o.memo.used_most;
      slots_used = o.memo.trains;
      boards_fit = all_map o.boards λ b h. h.few;
    }

pub lent_placed : (w : List ℕ) → Lent w → Placed w
lent_placed w l = record { written = l.written; sizes = l.order.sizes; fits = order_fits l.order }

-- a board of a sound store: an open one lists what a query gives, a closed one nothing
board_in_order : (s : Store) (b : Board) → BoardInRange b → (b.isopen ≡ 1 → OpenBoard s b) → BoardInOrder b
board_in_order s b r h = record { few = r.rows_most; ascend = go (eqb b.isopen 1) refl }
  where
    go : (o : Bool) → eqb b.isopen 1 ≡ o → RowsAscend b.rows
    go true e = rw (h (eqb-true _ _ e)).exact (rows_ascend s b.window)
    go false e = rw (r.shut (omega (arith, r.open_most, eqb-false b.isopen 1 e))) r_none

pub sound_lent : (w : List ℕ) → sound_words w ≡ true → Lent w
unfolding sound_words
sound_lent w e =
    let s = store_of w in
    let same = same_words (words s) w in
    let sound = and_right same _ e in
    let h = sound-holds s sound in
    record {
      written = same_words_equal _ w (and_left same _ e);
      order =
          record {
            sizes = h.ranges.sizes;
            pages = all_map h.ranges.pages λ g r. r.places_most;
            proper = boxes_proper s sound;
            memo = h.ranges.memo;
            boards = all_zip h.ranges.boards h.rule8.boards (board_in_order s);
          };
    }

-- boards told of a report that needs no seventeenth row, or of a withdrawal, and a closed one
pub told_ascend : (r : Row) (b : Board) → RowsAscend b.rows → RowsAscend (told r b).rows
unfolding told
told_ascend r b a =
    either (λ (c : Board). RowsAscend c.rows) (is_open b)
    (λ o. either RowsAscend (meets r.bounds b.window) (λ m. inserted_ascend r a) (λ m. removed_ascend r.train a))
    (λ o. a)

pub told_in_order : (r : Row) (b : Board) → BoardInOrder b → overfull r b ≡ false → BoardInOrder (told r b)
unfolding overfull
told_in_order r b o f = record { few = ltb-false row_limit _ f; ascend = told_ascend r b o.ascend }

pub untold_in_order : (t : Train) (b : Board) → BoardInOrder b → BoardInOrder (untold t b)
unfolding untold
untold_in_order t b o =
    either BoardInOrder (is_open b)
    (λ e. record { few = omega (arith, removed_fewer t b.rows, o.few); ascend = removed_ascend t o.ascend })
    (λ e. o)

pub closed_in_order : BoardInOrder closed
closed_in_order = record { few = omega arith; ascend = r_none }

-- the rows that a search finds ascend, as an opened board's must
pub found_ascend : {s : Store} {w : Window} {keys work : List ℕ} {n : ℕ} {keys' work' : List ℕ} → Found s w keys work n keys' work' → RowsAscend (map (row_of_key s.pages) (take n keys'))
found_ascend {s} {w} f = rw f.rows (rows_ascend s w)

-- ---- words and back
pub became : {s : Store} {w : List ℕ} → InOrder s → w ≡ words s → Became s w
became {s} o e = record { wrote = e; stored = ap store_of e ∙ fits_read s (order_fits o); order = o }

pub became_lent : {s : Store} {w : List ℕ} → Became s w → Lent w
became_lent b = record { written = ap words b.stored ∙ sym b.wrote; order = rw b.stored b.order }

-- what is lent has become what it is
pub lent_became : {w : List ℕ} → Lent w → Became (store_of w) w
lent_became l = record { wrote = sym l.written; stored = refl; order = l.order }

-- a second change, which is said of the words that the first one left
pub became_then : {s : Store} {w w' : List ℕ} (f : Store → Store) → Became s w → Became (f (store_of w)) w' → Became (f s) w'
became_then f a b = rw a.stored at b

-- ---- another part
pub order_memo : {s : Store} {memo : List Slot} → InOrder s → MemoInRange s.slots memo → InOrder (with_memo s memo)
order_memo o m = record { sizes = o.sizes; pages = o.pages; proper = o.proper; memo = m; boards = o.boards }

pub order_boards : {s : Store} {bs : List Board} → InOrder s → length bs ≡ length s.boards → All BoardInOrder bs → InOrder (with_boards s bs)
order_boards o n a =
    record { sizes = rw n o.sizes; pages = o.pages; proper = o.proper; memo = o.memo; boards = a }

pub order_header : {s : Store} (next : Stamp) (root : PageNo) (levels : ℕ) → InOrder s → InOrder (with_header s next root levels)
order_header next root levels o =
    record { sizes = o.sizes; pages = o.pages; proper = o.proper; memo = o.memo; boards = o.boards }

-- word 1 written
pub next_became : {w w' : List ℕ} (next : Stamp) → Lent w → w' ≡ set w 1 next.0
    → Became (with_header (store_of w) next (store_of w).root (store_of w).levels) w'
next_became {w} next l e =
    became (order_header next (store_of w).root (store_of w).levels l.order) (e ∙ rw l.written at (sym (next_written (store_of w) next)))

-- ---- another tree
pub lent_ready : {w : List ℕ} → Lent w → Ready (length (store_of w).pages) w
lent_ready l =
    record {
      written = l.written;
      fits = order_fits l.order;
      counted = refl;
      most = l.order.sizes.pages_most;
      proper = l.order.proper;
    }

pub grown_became : {w : List ℕ} {t : Tree} {w' : List ℕ} → Lent w → Grown (length (store_of w).pages) w t w' → Became (with_tree (store_of w) t) w'
grown_became {w} {t} {w'} l g =
    let o = l.order in
    let n : length t.pages ≡ length (store_of w).pages = rw g.stored at g.ready.counted in
    record {
      wrote = g.wrote;
      stored = g.stored;
      order =
          record {
            sizes = rw n o.sizes;
            pages = rw g.stored at g.ready.fits.pages_fit;
            proper = rw g.stored at g.ready.proper;
            memo = o.memo;
            boards = o.boards;
          };
    }
