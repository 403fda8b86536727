-- What reading promises.
use Rattle.std.specs.Prelude.{ℕ, ◌+◌, ◌*◌, ◌≤◌, ◌≡◌, Result, Ok, Err, Bool, true, false, eqb, length, take, drop}
use Rattle.std.proofs.Common.{◌∙◌}
use mathlib.Core.List.{List, flat_map}
use Rattle.std.proofs.lemmas.List.{take-append-le}
use Rattle.rules.specs.Lists.{first, cut}
use Rattle.text.specs.declared.BadLine.{BadLine}
use Rattle.text.specs.Laid.{Laid}
use Rattle.text.specs.Reading.{in_form, words_read, good, has_bad, steps_in, all_read}
use Rattle.text.specs.Laws.{words_enough, read_first, steps_cut}

-- r is where b stands first, from a place on, or where the text ends
pub record Until (text : List ℕ) (from b r : ℕ) : Type 0 where
  pub there : r ≡ from + first (λ x. eqb x b) (drop from text)
  pub behind : from ≤ r
  pub inside : r ≤ length text

-- a line was read into a slice of as many words as it is to have
pub record LineRead (line out : List ℕ) (r : Bool) (after : List ℕ) : Type 0 where
  pub said : r ≡ in_form (length out) line
  pub read : Laid out 0 (words_read (length out) line) after (length (words_read (length out) line))

-- how many good lines were read, whether or not a bad one ended them
abbrev pub good_count : Result ℕ BadLine → ℕ
good_count (Ok count) = count
good_count (Err bad) = bad.after

abbrev pub bad_met : Result ℕ BadLine → Bool
bad_met (Ok count) = false
bad_met (Err bad) = true

-- lines of steps were read
pub record StepsRead (ls : List (List ℕ)) (out : List ℕ) (r : Result ℕ BadLine) (after : List ℕ) : Type 0 where
  pub counted : good_count r ≡ good ls
  pub ended : bad_met r ≡ has_bad ls
  pub read : Laid out 0 (all_read ls) after (length (all_read ls))

-- the steps' words are those that stand first in the slice
pub steps_back : (ls : List (List ℕ)) (out : List ℕ) (r : Result ℕ BadLine) (after : List ℕ) → StepsRead ls out r after → cut (good_count r) 6 (take (6 * good_count r) after) ≡ steps_in ls
steps_back ls out r after s =
    let first : take (6 * good ls) after ≡ flat_map (λ s. s) (steps_in ls) =
    rw s.read.written (take-append-le (6 * good ls) (all_read ls) _ (words_enough ls)) ∙ read_first ls in
    rw (s.counted, first) (steps_cut ls)
