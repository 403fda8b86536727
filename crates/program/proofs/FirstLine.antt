-- What the input's length and its first line decide. Assumes nothing.
use Prim.Native.Nat.{ℕ, ◌+◌, ◌-◌, ◌≤◌, ◌<◌, min}
use native.Mathlib.Omega.{arith}
use mathlib.Core.Path.{◌≡◌, refl, sym, ◌∙◌}
use mathlib.Core.Bool.{Bool, true, false, not, false≢true}
use mathlib.Core.List.{List, [], ◌∷◌, append-nil}
use lib.ListN.{length, get_or, take, drop, length-drop, drop_of_length-le}
use lib.Seq.{take-nil}
use Rattle.std.proofs.Math.Nat.{sub-zero}
use Rattle.std.proofs.Common.{take_all}
use Rattle.std.proofs.lemmas.List.{drop_min}
use borrow.Author.Tests.{lt-ltb, le-ltb, not-true, not-false}
use Rattle.rules.specs.Lists.{all_of}
use Rattle.text.specs.Reading.{newline, parts, lines, all_decimals, in_form, words_in, words_read}
use Rattle.text.specs.Printing.{bad_line, too_long}
use Rattle.text.specs.Program.{most_bytes, start_printed, lines_printed, printed}
use Rattle.text.specs.Laid.{Laid, nothing_laid}
use Rattle.text.specs.Laws.{words_same, words_many}
use Rattle.text.specs.Promised.{Until, LineRead}
use Rattle.text.specs.Cutting.{next_line}
use Rattle.program.specs.Left.{by_first, by_length, started_left, left}

-- ---- what is printed goes by the length and the first line too
by_first-printed : (ls : List (List ℕ)) → lines_printed ls ≡ by_first (bad_line 1) start_printed ls
unfolding lines_printed by_first
by_first-printed [] = refl
by_first-printed (l ∷ later) = refl

by_length-printed : (input : List ℕ) → printed input ≡ by_length too_long (bad_line 1) start_printed input
unfolding printed by_length
by_length-printed input = rw (by_first-printed (lines input))

module _ (long bad : List ℕ) (from-sizes : ℕ → ℕ → ℕ → List (List ℕ) → List ℕ) where
  -- the first line is bad, also where there is none; or it gives the sizes
  line_bad : (input : List ℕ) (e : ℕ) → Until input 0 newline e → in_form 3 (take e input) ≡ false → bad ≡ by_first bad from-sizes (lines input)
  unfolding by_first parts
  line_bad [] e u h = refl
  line_bad (x ∷ xs) e u h = rw (next_line (x ∷ xs) 0 e u (omega arith), sub-zero e, h)

  line-good : (input : List ℕ) (e : ℕ) → Until input 0 newline e → in_form 3 (take e input) ≡ true → (w : List ℕ) → w ≡ words_in (take e input)
      → from-sizes (get_or w 0 0) (get_or w 1 0) (get_or w 2 0) (lines (drop (e + 1) input)) ≡ by_first bad from-sizes (lines input)
  unfolding by_first parts in_form all_decimals all_of
  line-good [] e u h w q = absurd (false≢true (rw (take-nil e) at h))
  line-good (x ∷ xs) e u h w q = rw (next_line (x ∷ xs) 0 e u (omega arith), sub-zero e, h, q)

  module _ (input : List ℕ) where
    by_long : most_bytes < length input → long ≡ by_length long bad from-sizes input
    unfolding by_length
    by_long h = rw (lt-ltb most_bytes (length input) h)

    module _ (short : length input ≤ most_bytes) where
      by_lines : (text : List ℕ) → text ≡ by_first bad from-sizes (lines input) → text ≡ by_length long bad from-sizes input
      unfolding by_length
      by_lines text q = q ∙ rw (le-ltb most_bytes (length input) short)

      module _ (e : ℕ) (u : Until input 0 newline e) (zeros : List ℕ) (three : length zeros ≡ 3) (r : Bool) (sizes : List ℕ) (read : LineRead (take e input) zeros r sizes) where
        abbrev l : List ℕ
        l = take e input

        said : r ≡ in_form 3 l
        said = rw three at read.said

        sizes_there : in_form 3 l ≡ true → sizes ≡ words_in l
        sizes_there h =
            let w : words_read (length zeros) l ≡ words_in l = rw three (words_same 3 l h) in
            let n : length zeros ≤ 0 + length (words_in l) = omega (arith, words_many 3 l h) in
            let z : drop (0 + length (words_in l)) zeros ≡ [] = drop_of_length-le zeros n in
            read.read.written ∙ rw (w, z) (append-nil (words_in l))

        by_bad : not r ≡ true → bad ≡ by_length long bad from-sizes input
        by_bad t = by_lines bad (line_bad input e u (sym said ∙ not-true r t))

        by_good : not r ≡ false → from-sizes (get_or sizes 0 0) (get_or sizes 1 0) (get_or sizes 2 0) (lines (drop (e + 1) input)) ≡ by_length long bad from-sizes input
        by_good t = let h = sym said ∙ not-false r t in by_lines _ (line-good input e u h sizes (sizes_there h))

same_laid : {out text text' out' : List ℕ} {to : ℕ} → text ≡ text' → Laid out 0 text out' to → Laid out 0 text' out' to
same_laid q l = rw q at l

none_laid : {space left : List ℕ} → [] ≡ left → Laid space 0 left space 0
none_laid {space} q = same_laid q (nothing_laid space 0 (omega arith))

-- the part that is lent behind the first line
pub rest_behind : (input : List ℕ) (e n : ℕ) → n ≡ min (e + 1) (length input) → take (length input - n) (drop n input) ≡ drop (e + 1) input
rest_behind input e n q = take_all (length input - n) (drop n input) (simp length-drop (omega arith)) ∙ rw q (drop_min (e + 1) input)

-- ---- what is printed, and the store that is left, by each way out
module _ (input : List ℕ) where
  pub longer : most_bytes < length input → (out out' : List ℕ) (to : ℕ) → Laid out 0 too_long out' to → Laid out 0 (printed input) out' to
  longer h out out' to l = rw (by_length-printed input) (same_laid (by_long _ _ _ input h) l)

  pub longer_none : most_bytes < length input → (space : List ℕ) → Laid space 0 (left input) space 0
  longer_none h space = none_laid (by_long _ _ _ input h)

  module _ (short : length input ≤ most_bytes) (e : ℕ) (u : Until input 0 newline e) (zeros : List ℕ) (three : length zeros ≡ 3) (r : Bool) (sizes : List ℕ) (read : LineRead (take e input) zeros r sizes) where
    pub first_bad : not r ≡ true → (out out' : List ℕ) (to : ℕ) → Laid out 0 (bad_line 1) out' to → Laid out 0 (printed input) out' to
    first_bad t out out' to l = rw (by_length-printed input) (same_laid (by_bad _ _ _ input short e u zeros three r sizes read t) l)

    pub first_bad_none : not r ≡ true → (space : List ℕ) → Laid space 0 (left input) space 0
    first_bad_none t space = none_laid (by_bad _ _ _ input short e u zeros three r sizes read t)

    pub first_good : not r ≡ false → (out out' : List ℕ) (to : ℕ) → Laid out 0 (start_printed (get_or sizes 0 0) (get_or sizes 1 0) (get_or sizes 2 0) (lines (drop (e + 1) input))) out' to → Laid out 0 (printed input) out' to
    first_good t out out' to l = rw (by_length-printed input) (same_laid (by_good _ _ _ input short e u zeros three r sizes read t) l)

    pub first_good_left : not r ≡ false → (space space' : List ℕ) (n : ℕ) → Laid space 0 (started_left (get_or sizes 0 0) (get_or sizes 1 0) (get_or sizes 2 0) (lines (drop (e + 1) input))) space' n → Laid space 0 (left input) space' n
    first_good_left t space space' n l = same_laid (by_good _ _ _ input short e u zeros three r sizes read t) l
