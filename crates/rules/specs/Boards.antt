-- Boards: what a report and a withdrawal do to them, opening, closing, and which of them list a train.
use Rattle.std.specs.Prelude.{ℕ, ◌+◌, Bool, cond, ◌&&◌, ◌||◌, List, [], ◌∷◌, eqb, ltb, length}
use Rattle.rules.specs.declared.Train.{Train}
use Rattle.rules.specs.declared.Window.{Window}
use Rattle.rules.specs.declared.Row.{Row}
use Rattle.rules.specs.Lists.{some_one, one_if}
use Rattle.rules.specs.Boxes.{meets}
use Rattle.rules.specs.Store.{Board, row_limit}
use Rattle.rules.specs.Live.{row_inserted, row_removed}

abbrev pub is_open : Board → Bool
is_open b = eqb b.isopen 1

unfoldable pub lists : Train → Board → Bool
lists t b = some_one (λ r. eqb r.train.0 t.0) b.rows

abbrev pub with_rows : List Row → Board → Board
with_rows rows b = record { window = b.window; isopen = b.isopen; rows = rows }

-- ---- upkeep
-- the board after a report: the train's row is there, with the new box, exactly where that box meets the window
unfoldable pub told : Row → Board → Board
told r b =
    let listed = row_inserted r b.rows in
    let unlisted = row_removed r.train b.rows in
    let kept = with_rows (cond (meets r.bounds b.window) listed unlisted) b in
    cond (is_open b) kept b

-- the board after a withdrawal
unfoldable pub untold : Train → Board → Board
untold t b =
    let kept = with_rows (row_removed t b.rows) b in
    cond (is_open b) kept b

-- a report would need a row more than an open board takes
unfoldable pub overfull : Row → Board → Bool
overfull r b = ltb row_limit (length (told r b).rows)

-- the boards, before and after, that are open and list the train before or after
unfoldable pub touched : Train → List Board → List Board → ℕ
touched t [] cs = 0
touched t (b ∷ bs) [] = 0
touched t (b ∷ bs) (c ∷ cs) = one_if (is_open b && (lists t b || lists t c)) + touched t bs cs

-- ---- opening
abbrev pub opened : Window → List Row → Board
opened w rows = record { window = w; isopen = 1; rows = rows }

-- a proof that says `unfolding boards_open` sees through every definition of this file
unfoldable pub boards_open : Unit {0}
unfolding lists told untold overfull touched
boards_open = tt
