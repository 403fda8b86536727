-- What a query gives.
use Rattle.std.specs.Prelude.{◌≡◌, refl, Bool, true, false, cond, ◌&&◌, List}
use Rattle.std.proofs.Common.{sym, ◌∙◌, ap}
use Rattle.rules.specs.declared.Train.{Train}
use Rattle.rules.specs.declared.Window.{Window}
use Rattle.rules.specs.declared.Entry.{Entry}
use Rattle.rules.specs.declared.Row.{Row}
use Rattle.rules.specs.Lists.{keep}
use Rattle.rules.specs.Boxes.{meets}
use Rattle.rules.specs.Store.{Board, Store}
use Rattle.rules.specs.Memo.{is_latest}
use Rattle.rules.specs.Live.{held, live, row_for, row_inserted, row_removed, rows_of, rows_in}
use Rattle.rules.specs.Boards.{is_open, told, untold}
use Rattle.rules.specs.Sound.{rule5}
use Rattle.rules.specs.laws.Tests.{each, either, and_left, and_right}
use Rattle.rules.specs.laws.Lists.{distinct-holds}
use Rattle.rules.specs.laws.Rows.{RowsAscend, Apart, keep-inserted, keep-inserted-not, keep-removed, rows_of_ascend, rows_of-keep, row_has_entry, entry_has_row}
use Rattle.rules.specs.laws.All.{Mem}
use Rattle.rules.specs.laws.Kept.{kept, keep_both, keeps}

-- the live list has each train at most once, in ascending order
pub live_ascends : (s : Store) → RowsAscend (live s)
unfolding live
live_ascends s = rows_of_ascend _

-- and so has each query's answer
pub rows_ascend : (s : Store) (w : Window) → RowsAscend (rows_in s w)
unfolding rows_in
rows_ascend s w = rows_of_ascend _

-- in a store that keeps rule 5 the latest entries have distinct trains
pub latest_apart : (s : Store) → rule5 s ≡ true → Apart (keep (is_latest s.memo) (held s))
unfolding rule5
latest_apart s h = distinct-holds _ (each _ h).0

-- the rows of a query are those of the live list that meet its window
pub rows_are_live : (s : Store) (w : Window) → rule5 s ≡ true → rows_in s w ≡ keep (λ r. meets r.bounds w) (live s)
unfolding rows_in live
rows_are_live s w h =
    ap rows_of (keep_both (is_latest s.memo) (λ e. meets e.bounds w) (held s))
    ∙ rows_of-keep (λ r. meets r.bounds w) (keep (is_latest s.memo) (held s)) (latest_apart s h)

-- a query gives no row but those of latest entries that meet its window
pub query_only : (s : Store) (w : Window) (r : Row) → Mem r (rows_in s w)
    → (e : Entry) × Mem e (held s) × (is_latest s.memo e ≡ true) × (meets e.bounds w ≡ true) × (row_for e ≡ r)
unfolding rows_in
query_only s w r m =
    let (e, n, q) = row_has_entry (keep (λ e. is_latest s.memo e && meets e.bounds w) (held s)) m in
    let k = kept _ (held s) n in
    let l = is_latest s.memo e in
    (e, k.0, and_left l _ k.1, and_right l _ k.1, q)

-- and it gives all of them, where rule 5 is kept
pub query_all : (s : Store) (w : Window) (e : Entry) → rule5 s ≡ true
    → Mem e (held s) → is_latest s.memo e ≡ true → meets e.bounds w ≡ true → Mem (row_for e) (rows_in s w)
unfolding live
query_all s w e h m l k =
    rw (rows_are_live s w h) (keeps (λ r. meets r.bounds w) (entry_has_row (latest_apart s h) (keeps (is_latest s.memo) m l)) k)

-- ---- boards
-- whatever a board is told, its window and whether it is open stay
pub told_window : (r : Row) (b : Board) → (told r b).window ≡ b.window
unfolding told
told_window r b = either (λ (c : Board). c.window ≡ b.window) (is_open b) (λ o. refl) (λ o. refl)

pub told_isopen : (r : Row) (b : Board) → (told r b).isopen ≡ b.isopen
unfolding told
told_isopen r b = either (λ (c : Board). c.isopen ≡ b.isopen) (is_open b) (λ o. refl) (λ o. refl)

pub untold_window : (t : Train) (b : Board) → (untold t b).window ≡ b.window
unfolding untold
untold_window t b = either (λ (c : Board). c.window ≡ b.window) (is_open b) (λ o. refl) (λ o. refl)

pub untold_isopen : (t : Train) (b : Board) → (untold t b).isopen ≡ b.isopen
unfolding untold
untold_isopen t b = either (λ (c : Board). c.isopen ≡ b.isopen) (is_open b) (λ o. refl) (λ o. refl)

-- an open board that shows the rows in its window still does after it is told of the row that a report puts among them
pub told_shows : (r : Row) (b : Board) (rs : List Row) → is_open b ≡ true → RowsAscend rs
    → b.rows ≡ keep (λ q. meets q.bounds b.window) rs
    → (told r b).rows ≡ keep (λ q. meets q.bounds b.window) (row_inserted r rs)
unfolding told
told_shows r b rs o a e = rw (o, e) (go (meets r.bounds b.window) refl)
  where
    inside : Row → Bool
    inside q = meets q.bounds b.window

    go : (m : Bool) → inside r ≡ m
        → cond m (row_inserted r (keep inside rs)) (row_removed r.train (keep inside rs)) ≡ keep inside (row_inserted r rs)
    go true m = sym (keep-inserted inside r m a)
    go false m = sym (keep-inserted-not inside r m a)

-- and after it is told of the train that a withdrawal takes from them
pub untold_shows : (t : Train) (b : Board) (rs : List Row) → is_open b ≡ true → b.rows ≡ keep (λ q. meets q.bounds b.window) rs
    → (untold t b).rows ≡ keep (λ q. meets q.bounds b.window) (row_removed t rs)
unfolding untold
untold_shows t b rs o e = rw (o, e) (sym (keep-removed (λ q. meets q.bounds b.window) t rs))
