-- The text that lists stores, the words of one in a line, and the text of the numbers that they give.
use Rattle.std.specs.Prelude.{ℕ, ◌+◌, ◌*◌, ◌%◌, ◌≤◌, ◌≡◌, cond, eqb, length, drop}
use mathlib.Core.List.{List, [], ◌∷◌, ◌++◌, map, flat_map}
use Rattle.rules.specs.Numbers.{first_met}
use Rattle.rules.specs.Calls.{store_tests}

-- ---- what lies between separators
unfoldable pub before_first : ℕ → List (List ℕ) → List (List ℕ)
before_first b [] = (b ∷ []) ∷ []
before_first b (l ∷ ls) = (b ∷ l) ∷ ls

-- the parts of a text that each end with the byte c, which the last may lack
unfoldable pub parts : ℕ → List ℕ → List (List ℕ)
parts c [] = []
parts c (b ∷ s) = let later = parts c s in cond (eqb b c) ([] ∷ later) (before_first b later)

-- ---- words
-- the number whose decimal digits go on with these, of which 32 bits are kept
unfoldable pub word_from : ℕ → List ℕ → ℕ
word_from v [] = v
word_from v (b ∷ s) = word_from ((10 * v + b % 16) % 4_294_967_296) s

unfoldable pub word_of : List ℕ → ℕ
word_of field = word_from 0 field

-- the words of a line are parted by spaces
unfoldable pub words_of : List ℕ → List ℕ
words_of line = map word_of (parts 32 line)

-- ---- numbers
-- the number of the store in a line
unfoldable pub number_of : List ℕ → ℕ
number_of line = first_met (store_tests (words_of line))

unfoldable pub answer : List ℕ → List ℕ
answer line = (48 + number_of line) ∷ 10 ∷ []

unfoldable pub answers : List ℕ → List ℕ
answers input = flat_map answer (parts 10 input)

-- ---- what a function leaves behind
-- these numbers stand at the front, and n is how many they are
pub record Put (new before : List ℕ) (n : ℕ) (after : List ℕ) : Type 0 where
  pub counted : n ≡ length new
  pub fits : n ≤ length before
  pub written : after ≡ new ++ drop n before
