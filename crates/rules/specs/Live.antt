-- What the index holds: the entries in the tree, the latest ones as the live list, and a query's rows.
use Rattle.std.specs.Prelude.{ℕ, zero, suc, ◌+◌, not, cond, ◌&&◌, eqb, ltb, length}
use mathlib.Core.List.{List, [], ◌∷◌, flat_map}
use Rattle.rules.specs.declared.Train.{Train}
use Rattle.rules.specs.declared.PageNo.{PageNo}
use Rattle.rules.specs.declared.Window.{Window}
use Rattle.rules.specs.declared.Entry.{Entry}
use Rattle.rules.specs.declared.Row.{Row}
use Rattle.rules.specs.Lists.{keep}
use Rattle.rules.specs.Boxes.{meets}
use Rattle.rules.specs.Store.{Page, Store, train_of, child_of, page_at}
use Rattle.rules.specs.Memo.{is_latest}

-- ---- the entries under page p, which stands at this level; leaves stand at level 1
unfoldable pub held_under : List Page → ℕ → PageNo → List Entry
held_under ps zero p = []
held_under ps (suc zero) p = (page_at ps p).places
held_under ps (suc (suc l)) p = flat_map (λ e. held_under ps (suc l) (child_of e)) (page_at ps p).places

unfoldable pub held : Store → List Entry
held s = held_under s.pages s.levels s.root

-- how many entries the leaves among these pages hold
unfoldable pub held_in : Page → ℕ
held_in g = let here = length g.places in cond (eqb g.kind 1) here 0

unfoldable pub held_count : List Page → ℕ
held_count [] = 0
held_count (g ∷ gs) = held_in g + held_count gs

-- ---- rows in ascending train
-- the row at its ascending place, in place of a row of the same train
unfoldable pub row_inserted : Row → List Row → List Row
row_inserted r [] = r ∷ []
row_inserted r (q ∷ qs) =
    let later = row_inserted r qs in
    cond (ltb r.train.0 q.train.0) (r ∷ q ∷ qs) (cond (eqb r.train.0 q.train.0) (r ∷ qs) (q ∷ later))

unfoldable pub row_removed : Train → List Row → List Row
row_removed t rows = keep (λ r. not (eqb r.train.0 t.0)) rows

abbrev pub row_for : Entry → Row
row_for e = record { train = train_of e; bounds = e.bounds }

unfoldable pub rows_of : List Entry → List Row
rows_of [] = []
rows_of (e ∷ es) = row_inserted (row_for e) (rows_of es)

-- ---- the live list, and the rows of a query: the latest entries that meet its window
unfoldable pub live : Store → List Row
live s = rows_of (keep (is_latest s.memo) (held s))

unfoldable pub rows_in : Store → Window → List Row
rows_in s w = rows_of (keep (λ e. is_latest s.memo e && meets e.bounds w) (held s))

-- a proof that says `unfolding live_open` sees through every definition of this file
unfoldable pub live_open : Unit {0}
unfolding held_under held held_in held_count row_inserted row_removed rows_of live rows_in
live_open = tt
