-- The program's output: decimals, lines of them, and the words beside them.
use Rattle.std.specs.Prelude.{ℕ, zero, suc, ◌+◌, ◌/◌, ◌%◌, cond, ltb, length, get_or, drop}
use Prim.Native.Char.{code}
use Prim.Native.String.{String, len, char_at}
use mathlib.Core.List.{List, [], ◌∷◌, ◌++◌, flat_map}
use Rattle.text.specs.Reading.{newline, space}

-- the bytes of a text
abbrev pub bytes_from : ℕ → String → ℕ → List ℕ
bytes_from zero s i = []
bytes_from (suc n) s i = code (char_at s i) ∷ bytes_from n s (suc i)

abbrev pub bytes : String → List ℕ
bytes s = bytes_from (len s) s 0

-- ---- a decimal, without leading zeros, in at most so many turns; one more than n are always enough
unfoldable pub digits : ℕ → ℕ → List ℕ
digits zero n = []
digits (suc most) n = let before = digits most (n / 10) in cond (ltb n 10) ((48 + n) ∷ []) (before ++ ((48 + n % 10) ∷ []))

unfoldable pub decimal : ℕ → List ℕ
decimal n = digits (suc n) n

-- ---- a line of decimals with single spaces: what ends one, with so many left
abbrev pub ended : ℕ → ℕ
ended zero = newline
ended (suc left) = space

unfoldable pub line : List ℕ → List ℕ
line [] = []
line (n ∷ ns) = decimal n ++ (ended (length ns) ∷ line ns)

-- ---- what is printed of a start, of a bad line, and of an input too long
unfoldable pub start_line : ℕ → List ℕ
start_line n = bytes "start " ++ line (n ∷ [])

unfoldable pub bad_line : ℕ → List ℕ
bad_line n = bytes "bad line " ++ line (n ∷ [])

unfoldable pub too_long : List ℕ
too_long = bytes "too long\n"

-- ---- of the steps: each one's kind, then its number and count
unfoldable pub step_lines : List (List ℕ) → List ℕ → List ℕ
step_lines [] answers = []
step_lines (s ∷ ss) answers = line (get_or s 0 0 ∷ get_or answers 0 0 ∷ get_or answers 1 0 ∷ []) ++ step_lines ss (drop 2 answers)

-- ---- of board i: how many rows it has, and one line a row
unfoldable pub board_title : ℕ → ℕ → List ℕ
board_title i count = bytes "board " ++ (decimal i ++ (bytes " rows " ++ line (count ∷ [])))

unfoldable pub board_lines : ℕ → List (List ℕ) → List ℕ
board_lines i rows = board_title i (length rows) ++ flat_map line rows

-- a proof that says `unfolding printing_open` sees through every definition of this file
unfoldable pub printing_open : Unit {0}
unfolding digits decimal line start_line bad_line too_long step_lines board_title board_lines
printing_open = tt
