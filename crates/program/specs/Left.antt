-- The words of the store that an input leaves.
use Rattle.std.specs.Prelude.{ℕ, cond, List, [], ◌∷◌, map, ltb, length, get_or}
use Rattle.rules.specs.Store.{words, fresh}
use Rattle.rules.specs.Sound.{sizes_in_range}
use Rattle.rules.specs.Steps.{step_of, run}
use Rattle.text.specs.Reading.{lines, in_form, words_in, steps_in}
use Rattle.text.specs.Program.{most_bytes}

-- what an input comes to, by its length and its first line: something else where it is too long, and where that line is bad or there is none
unfoldable pub by_first : List ℕ → (ℕ → ℕ → ℕ → List (List ℕ) → List ℕ) → List (List ℕ) → List ℕ
by_first bad from-sizes [] = bad
by_first bad from-sizes (l ∷ later) =
    let w = words_in l in
    let started = from-sizes (get_or w 0 0) (get_or w 1 0) (get_or w 2 0) later in
    cond (in_form 3 l) started bad

unfoldable pub by_length : List ℕ → List ℕ → (ℕ → ℕ → ℕ → List (List ℕ) → List ℕ) → List ℕ → List ℕ
by_length long bad from-sizes input = let text = by_first bad from-sizes (lines input) in cond (ltb most_bytes (length input)) long text

-- the words after the steps before the first bad line; none where the sizes are out of range
unfoldable pub started_left : ℕ → ℕ → ℕ → List (List ℕ) → List ℕ
started_left p k b later = let after = words (run (fresh p k b) (map step_of (steps_in later))).store in cond (sizes_in_range p k b) after []

abbrev pub left : List ℕ → List ℕ
left = by_length [] [] started_left
