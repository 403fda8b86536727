-- What the program prints for any input.
use Rattle.std.specs.Prelude.{ℕ, suc, ◌+◌, cond, List, [], ◌∷◌, ◌++◌, map, ltb, length, get_or}
use Rattle.rules.specs.Store.{Store, Board, row_words, fresh}
use Rattle.rules.specs.Boards.{is_open}
use Rattle.rules.specs.Sound.{sizes_in_range}
use Rattle.rules.specs.Steps.{step_of, run}
use Rattle.text.specs.Reading.{lines, in_form, words_in, good, has_bad, steps_in}
use Rattle.text.specs.Printing.{start_line, bad_line, too_long, step_lines, board_lines}

-- the longest input that is looked at
abbrev pub most_bytes : ℕ
most_bytes = 65_536

-- board i, if it is open
unfoldable pub open_lines : ℕ → Board → List ℕ
open_lines i b = let rows = board_lines i (map row_words b.rows) in cond (is_open b) rows []

-- each board, from number i on
unfoldable pub boards_from : ℕ → List Board → List ℕ
boards_from i [] = []
boards_from i (b ∷ bs) = open_lines i b ++ boards_from (suc i) bs

-- the lines after the first, from the started store on; the first bad line ends it, without boards
unfoldable pub steps_printed : Store → List (List ℕ) → List ℕ
steps_printed s later =
    let steps = steps_in later in
    let r = run s (map step_of steps) in
    let bad = bad_line (good later + 2) in
    let boards = boards_from 0 r.store.boards in
    step_lines steps r.answers ++ cond (has_bad later) bad boards

-- a start on a slice of the right length meets only 1, which ends it
unfoldable pub start_printed : ℕ → ℕ → ℕ → List (List ℕ) → List ℕ
start_printed p k b later =
    let steps = steps_printed (fresh p k b) later in
    let started = start_line 0 ++ steps in
    cond (sizes_in_range p k b) started (start_line 1)

unfoldable pub lines_printed : List (List ℕ) → List ℕ
lines_printed [] = bad_line 1
lines_printed (l ∷ later) =
    let w = words_in l in
    let started = start_printed (get_or w 0 0) (get_or w 1 0) (get_or w 2 0) later in
    cond (in_form 3 l) started (bad_line 1)

unfoldable pub printed : List ℕ → List ℕ
printed input = let text = lines_printed (lines input) in cond (ltb most_bytes (length input)) too_long text

-- a proof that says `unfolding program_open` sees through every definition of this file
unfoldable pub program_open : Unit {0}
unfolding open_lines boards_from steps_printed start_printed lines_printed printed
program_open = tt
