-- A train's place, looked for from the first row on. Assumes nothing.
use Rattle.std.specs.Prelude.{Result, Ok, Err}
use Rattle.std.specs.Ordering.{nat_cmp}
use Rattle.std.proofs.Common.{Less, Equal, Greater}
use Rattle.std.proofs.lemmas.Grind.{common_steps}
use Prim.Native.Nat.{ℕ, ◌+◌, ◌≤◌, ◌<◌}
use native.Mathlib.Omega.{arith}
use native.Mathlib.Nat.{add-zero}
use native.Mathlib.Numerals.{add-one}
use mathlib.Core.Path.{◌≡◌, sym, ap, ◌∙◌}
use mathlib.Core.List.{List, ◌∷◌}
use lib.ListN.{length, drop, get_or, drop_of_length-le}
use lib.Seq.{drop-cons}
use borrow.Author.Tests.{lt-ltb, le-ltb, eq-eqb, ne_eqb}
use Rattle.rules.specs.declared.Train.{Train}
use Rattle.rules.specs.declared.Row.{Row}
use Rattle.rules.specs.laws.Parts.{no_row}
use Rattle.board.specs.Rows.{further, row_place}

-- the place in all rows of one that is found in those from row n on
abbrev beyond : ℕ → Result ℕ ℕ → Result ℕ ℕ
beyond n (Ok i) = Ok (n + i)
beyond n (Err i) = Err (n + i)

beyond_none : (p : Result ℕ ℕ) → p ≡ beyond 0 p
beyond_none (Ok i) = ap Ok (omega arith)
beyond_none (Err i) = ap Err (omega arith)

beyond-further : (n : ℕ) (p : Result ℕ ℕ) → beyond n (further p) ≡ beyond (n + 1) p
unfolding further
beyond-further n (Ok i) = ap Ok (omega arith)
beyond-further n (Err i) = ap Err (omega arith)

-- it is not before row i
abbrev pub Sought : Train → List Row → ℕ → Type 0
Sought t rows i = row_place t rows ≡ beyond i (row_place t (drop i rows))

pub from_first : (t : Train) (rows : List Row) → Sought t rows 0
from_first t rows = beyond_none (row_place t rows)

module _ (t : Train) (rows : List Row) (i : ℕ) (so_far : Sought t rows i) where
  module _ (q : Row) (inside : i < length rows) (here : q ≡ get_or rows i no_row) where
    next : drop i rows ≡ q ∷ drop (i + 1) rows
    next = rw (add-one i, here) (drop-cons rows i no_row inside)

    pub before_row : Less ≡ nat_cmp t.0 q.train.0 → Err i ≡ row_place t rows
    unfolding row_place
    before_row h = let k : t.0 < q.train.0 = grind (arith, common_steps, h) in sym (so_far ∙ rw (next, lt-ltb t.0 q.train.0 k, add-zero))

    pub at_row : Equal ≡ nat_cmp t.0 q.train.0 → Ok i ≡ row_place t rows
    unfolding row_place
    at_row h =
        let k : t.0 ≡ q.train.0 = grind (arith, common_steps, h) in
        sym (so_far ∙ rw (next, le-ltb t.0 q.train.0 (omega arith), eq-eqb t.0 q.train.0 k, add-zero))

    pub past_row : Greater ≡ nat_cmp t.0 q.train.0 → Sought t rows (i + 1)
    unfolding row_place
    past_row h =
        let k : q.train.0 < t.0 = grind (arith, common_steps, h) in
        so_far ∙ rw (next, le-ltb t.0 q.train.0 (omega arith), ne_eqb t.0 q.train.0 (omega arith)) (beyond-further i (row_place t (drop (i + 1) rows)))

  pub past_last : (n : ℕ) → n ≡ length rows → i ≤ n → n ≤ i → Err n ≡ row_place t rows
  unfolding row_place
  past_last n e h k =
      let same : i ≡ n = omega arith in
      sym (so_far ∙ rw (drop_of_length-le rows {i = i} (omega arith), add-zero, same))
