-- The program's input: lines, the decimals of a line, and which lines are bad.
use Rattle.std.specs.Prelude.{ℕ, ◌+◌, ◌*◌, ◌-◌, Option, Some, None, Bool, cond, ◌&&◌, not, List, [], ◌∷◌, ◌++◌, map, eqb, leb, ltb, length, take}
use Rattle.rules.specs.Lists.{all_of, every, first}
use Rattle.rules.specs.Store.{limit}

-- ---- bytes cut into parts
-- x in front of the first part, or as the only one
unfoldable pub onto : ℕ → List (List ℕ) → List (List ℕ)
onto x [] = (x ∷ []) ∷ []
onto x (part ∷ parts) = (x ∷ part) ∷ parts

-- the parts that each byte b ends; `last` is what stands behind the last of them where the bytes end with b
unfoldable pub parts : ℕ → List (List ℕ) → List ℕ → List (List ℕ)
parts b last [] = last
parts b last (x ∷ xs) = let later = parts b last xs in cond (eqb x b) ([] ∷ later) (onto x later)

abbrev pub newline : ℕ
newline = 10

abbrev pub space : ℕ
space = 32

-- the last newline may be missing: behind it stands no line
abbrev pub lines : List ℕ → List (List ℕ)
lines = parts newline []

-- a space stands between two decimals: behind one, also the line's last byte, stands another
abbrev pub fields : List ℕ → List (List ℕ)
fields = parts space ([] ∷ [])

-- ---- a decimal: digits only, leading zeros allowed, of 32 bits
unfoldable pub is_digit : ℕ → Bool
is_digit b = leb 48 b && leb b 57

unfoldable pub value_from : ℕ → List ℕ → ℕ
value_from so_far [] = so_far
value_from so_far (b ∷ bs) = value_from (10 * so_far + (b - 48)) bs

unfoldable pub value : List ℕ → ℕ
value bs = value_from 0 bs

unfoldable pub is_decimal : List ℕ → Bool
is_decimal bs = all_of (ltb 0 (length bs) ∷ every is_digit bs ∷ leb (value bs) limit ∷ [])

-- what reading a field answers
unfoldable pub number_in : List ℕ → Option ℕ
number_in bs = cond (is_decimal bs) (Some (value bs)) None

-- ---- a line of n decimals
unfoldable pub all_decimals : ℕ → List (List ℕ) → Bool
all_decimals n fs = all_of (eqb (length fs) n ∷ every is_decimal fs ∷ [])

unfoldable pub in_form : ℕ → List ℕ → Bool
in_form n line = all_decimals n (fields line)

-- the words of a line that is in form
unfoldable pub words_in : List ℕ → List ℕ
words_in line = map value (fields line)

-- the words before the first field that is no decimal; of a line, n at most
unfoldable pub words_before : List (List ℕ) → List ℕ
words_before [] = []
words_before (f ∷ fs) = let later = words_before fs in cond (is_decimal f) (value f ∷ later) []

unfoldable pub words_read : ℕ → List ℕ → List ℕ
words_read n line = words_before (take n (fields line))

-- ---- the lines of steps
abbrev pub is_step : List ℕ → Bool
is_step l = in_form 6 l

-- how many stand before the first that is bad
unfoldable pub good : List (List ℕ) → ℕ
good ls = first (λ l. not (is_step l)) ls

unfoldable pub has_bad : List (List ℕ) → Bool
has_bad ls = ltb (good ls) (length ls)

-- the words of each step
unfoldable pub steps_in : List (List ℕ) → List (List ℕ)
steps_in ls = map words_in (take (good ls) ls)

-- all words up to the bad line's fault
unfoldable pub all_read : List (List ℕ) → List ℕ
all_read [] = []
all_read (l ∷ ls) = let later = all_read ls in words_read 6 l ++ cond (is_step l) later []

-- a proof that says `unfolding reading_open` sees through every definition of this file
unfoldable pub reading_open : Unit {0}
unfolding onto parts is_digit value_from value is_decimal number_in all_decimals in_form words_in words_before words_read good has_bad steps_in all_read
reading_open = tt
