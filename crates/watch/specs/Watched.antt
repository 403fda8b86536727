-- Rule 8 of one board.
use Rattle.std.specs.Prelude.{◌≡◌, refl, Bool, not, ◌||◌, [], ◌∷◌}
use Rattle.rules.specs.Lists.{all_of, every}
use Rattle.rules.specs.Boxes.{proper_window}
use Rattle.rules.specs.Store.{Board, Store}
use Rattle.rules.specs.Live.{rows_in}
use Rattle.rules.specs.Boards.{is_open}
use Rattle.rules.specs.Sound.{same_rows, rule8}

-- if it is open, it has a proper window and exactly the rows that a query of it gives
unfoldable pub board_sound : Store → Board → Bool
board_sound s b =
    not (is_open b) || all_of (proper_window b.window ∷ same_rows b.rows (rows_in s b.window) ∷ [])

pub each_board : (s : Store) → rule8 s ≡ every (board_sound s) s.boards
unfolding rule8 board_sound
each_board s = refl
