-- What laying out bytes, decimals and lines of them one after the other comes to. Assumes nothing.
use Prim.Native.Nat.{ℕ, suc, ◌+◌, ◌*◌, ◌-◌, ◌/◌, ◌%◌, ◌≤◌, ◌<◌}
use native.Mathlib.Omega.{arith}
use native.Mathlib.Numerals.{add-one}
use mathlib.Core.Path.{◌≡◌}
use mathlib.Core.List.{List, [], ◌∷◌, ◌++◌, append_assoc}
use lib.ListN.{length, get_or, drop, set, length-drop, drop_of_length-le}
use lib.Seq.{drop-cons}
use mir.Syntax.{w32}
use mir.Val.{Fits}
use Rattle.text.specs.Printing.{ended, decimal, line}
use Rattle.text.specs.Laid.{Laid, Partly, one_more, all_laid, one_laid, both_laid, laid_length}
use Rattle.text.specs.Decimals.{decimal_small, decimal_large, nine_digits}

-- ---- a decimal
pub one_digit : (out : List ℕ) (at n : ℕ) → at + 10 ≤ length out → n < 10 → Laid out at (decimal n) (set out at (48 + n)) (at + 1)
one_digit out at n h k = rw (decimal_small n k) (one_laid out at (48 + n) (omega arith))

module _ (out : List ℕ) (at n : ℕ) (mid : List ℕ) (e : ℕ) (l : Laid out at (decimal (n / 10)) mid e) (word : Fits w32 n) (room : at + 10 ≤ length out) where
  fits : n < 4_294_967_296
  fits = word.fits

  pub last_place : e < length mid
  last_place = omega (arith, l.ends, laid_length l, nine_digits n fits)

  pub last_digit : 10 ≤ n → Laid out at (decimal n) (set mid e (48 + n % 10)) (e + 1)
  last_digit h = rw (decimal_large n h) (both_laid l (one_laid mid e (48 + n % 10) last_place))

  pub last_near : e + 1 ≤ at + 10
  last_near = omega (arith, l.ends, nine_digits n fits)

-- ---- a line: the decimals from i on are left
module _ (words out : List ℕ) (at : ℕ) (now : List ℕ) (to i : ℕ) (p : Partly out at (line words) now to (line (drop i words))) where
  module _ (inside : i < length words) (room : at + 11 * length words ≤ length out) (near : to ≤ at + 11 * i) (mid : List ℕ) (e : ℕ) (l : Laid now to (decimal (get_or words i 0)) mid e) (short : e ≤ to + 10) where
    pub end_place : e < length mid
    end_place = omega (arith, laid_length l, laid_length p.laid)

    pub decimal_more : (b : ℕ) → b ≡ ended (length words - (i + 1)) → Partly out at (line words) (set mid e b) (e + 1) (line (drop (i + 1) words))
    unfolding line
    decimal_more b q =
        let n : length (drop (suc i) words) ≡ length words - (i + 1) = simp (length-drop, add-one) in
        let r : line (drop i words) ≡ (decimal (get_or words i 0) ++ (b ∷ [])) ++ line (drop (i + 1) words) =
        rw (drop-cons words i 0 inside, append_assoc, q, n, add-one i) in
        one_more p (both_laid l (one_laid mid e b end_place)) r

  pub line_all : length words ≤ i → Laid out at (line words) now to
  unfolding line
  line_all h = all_laid p (rw (drop_of_length-le words h))
