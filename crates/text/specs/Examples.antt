-- The program's example, and inputs of each bad form, shown from the definitions.
use Prim.Native.String.{String}
use Rattle.std.specs.Prelude.{◌≡◌, refl, Bool, true, List, [], ◌∷◌}
use Rattle.rules.specs.Lists.{every, same_words}
use Rattle.rules.specs.Calls.{rules_open}
use Rattle.text.specs.Reading.{reading_open}
use Rattle.text.specs.Printing.{bytes, printing_open}
use Rattle.text.specs.Program.{printed, program_open}

pub record Exchange : Type 0 where
  pub input : String
  pub output : String

infix 80 ◌prints◌
abbrev pub ◌prints◌ : String → String → Exchange
◌prints◌ input output = record { input = input; output = output }

unfoldable pub holds : Exchange → Bool
holds s = same_words (printed (bytes s.input)) (bytes s.output)

abbrev pub example : Exchange
example =
    "4 8 1\n5 0 100 100 200 200\n1 7 150 150 160 150\n1 9 300 300 300 300\n1 7 210 150 220 150\n3 0 0 0 0 0\n4 0 0 0 0 0\n1 9 200 200 200 200\n" prints "start 0\n5 0 0\n1 0 1\n1 0 0\n1 0 1\n3 0 1\n4 0 2\n1 0 1\nboard 0 rows 1\n9 200 200 200 200\n"

unfoldable pub exchanges : List Exchange
exchanges =
    example
    ∷ "" prints "bad line 1\n"
    ∷ "\n4 8 1\n" prints "bad line 1\n"
    ∷ "004 8 1" prints "start 0\n"
    ∷ "0 8 1\nx\n" prints "start 1\n"
    ∷ "4 8 1 \n" prints "bad line 1\n"
    ∷ "4  8 1\n" prints "bad line 1\n"
    ∷ "4 8 1\r\n" prints "bad line 1\n"
    ∷ "4 8 4294967296\n" prints "bad line 1\n"
    ∷ "4 8 4294967295\n" prints "start 1\n"
    ∷ "4 8 1\n5 0 1 1 2 2\n\n3 0 0 0 0 0\n" prints "start 0\n5 0 0\nbad line 3\n"
    ∷ "4 8 1\n5 0 1 1 2 2\n4294967295 0 0 0 0 0" prints "start 0\n5 0 0\n4294967295 6 0\nboard 0 rows 0\n"
    ∷ "4 8 1\n3 0 0 0 0 +0\n" prints "start 0\nbad line 2\n"
    ∷ []

pub exchanges_hold : every holds exchanges ≡ true
unfolding exchanges holds rules_open reading_open printing_open program_open
exchanges_hold = refl
