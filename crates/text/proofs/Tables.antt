-- Laying out a line for each step, and a line for each row. Assumes nothing.
use Prim.Native.Nat.{ℕ, suc, ◌+◌, ◌*◌, ◌-◌, ◌≤◌, ◌<◌}
use native.Mathlib.Omega.{arith}
use native.Mathlib.Nat.{mul-suc}
use native.Mathlib.Numerals.{add-one}
use mathlib.Core.Path.{◌≡◌, ◌∙◌, ap}
use mathlib.Core.List.{List, [], ◌∷◌, ◌++◌, flat_map}
use lib.ListN.{length, get_or, take, drop, drop_of_length-le}
use lib.Seq.{drop-cons, drop-drop, get_or-drop, get_or-take}
use Rattle.rules.specs.Lists.{cut}
use Rattle.rules.specs.laws.Places.{cut-length}
use Rattle.text.specs.Printing.{bytes, decimal, line, step_lines, board_title, board_lines}
use Rattle.text.specs.Laid.{Laid, Partly, one_more, all_laid, both_laid}

-- ---- parts of one size, from the i-th on
parts_none : (n i size : ℕ) (ws : List ℕ) → n ≤ i → cut (n - i) size ws ≡ []
parts_none n i size ws h = let z : n - i ≡ 0 = omega arith in rw z

parts_next : (n i size : ℕ) (ws : List ℕ) → i < n → cut (n - i) size (drop (size * i) ws) ≡ take size (drop (size * i) ws) ∷ cut (n - (i + 1)) size (drop (size * (i + 1)) ws)
parts_next n i size ws h =
    let z : n - i ≡ suc (n - (i + 1)) = omega arith in
    let m : size * i + size ≡ size * (i + 1) = rw (add-one i) (omega (arith, mul-suc size i)) in
    rw z (ap (λ k. take size (drop (size * i) ws) ∷ cut (n - (i + 1)) size k) (drop-drop size (size * i) ws ∙ ap (λ k. drop k ws) m))

first_of : (ws : List ℕ) (i : ℕ) → get_or (drop i ws) 0 0 ≡ get_or ws i 0
first_of ws i = let z : i + 0 ≡ i = omega arith in get_or-drop i ws 0 0 ∙ ap (λ k. get_or ws k 0) z

-- ---- steps and their answers
abbrev pub answers_left : List ℕ → List ℕ → ℕ → ℕ → List ℕ
answers_left steps answers n i = step_lines (cut (n - i) 6 (drop (6 * i) steps)) (drop (2 * i) answers)

module _ (steps answers : List ℕ) (n : ℕ) (out : List ℕ) (at : ℕ) where
  abbrev told : List ℕ
  told = step_lines (cut n 6 steps) answers

  module _ (now : List ℕ) (to i : ℕ) (p : Partly out at told now to (answers_left steps answers n i)) where
    pub answer_more : i < n → (after : List ℕ) (e : ℕ) → Laid now to (line (get_or steps (6 * i) 0 ∷ get_or answers (2 * i) 0 ∷ get_or answers (2 * i + 1) 0 ∷ [])) after e
        → Partly out at told after e (answers_left steps answers n (i + 1))
    unfolding step_lines
    answer_more h after e l =
        let kind : get_or (take 6 (drop (6 * i) steps)) 0 0 ≡ get_or steps (6 * i) 0 = get_or-take 6 (drop (6 * i) steps) 0 0 (omega arith) ∙ first_of steps (6 * i) in
        let rest : drop 2 (drop (2 * i) answers) ≡ drop (2 * (i + 1)) answers = let m : 2 * i + 2 ≡ 2 * (i + 1) = omega arith in drop-drop 2 (2 * i) answers ∙ ap (λ k. drop k answers) m in
        one_more p l (rw (parts_next n i 6 steps h, kind, first_of answers (2 * i), get_or-drop (2 * i) answers 1 0, rest))

    pub answers_all : n ≤ i → Laid out at told now to
    unfolding step_lines
    answers_all h = all_laid p (rw (parts_none n i 6 (drop (6 * i) steps) h))

-- ---- rows
module _ (rows : List ℕ) (n : ℕ) (out : List ℕ) (at : ℕ) (now : List ℕ) (to i : ℕ) (p : Partly out at (flat_map line (cut n 5 rows)) now to (flat_map line (drop i (cut n 5 rows)))) where
  pub row_more : i < length (cut n 5 rows) → (after : List ℕ) (e : ℕ) → Laid now to (line (get_or (cut n 5 rows) i [])) after e → Partly out at (flat_map line (cut n 5 rows)) after e (flat_map line (drop (i + 1) (cut n 5 rows)))
  unfolding flat_map
  row_more h after e l = one_more p l (rw (drop-cons (cut n 5 rows) i [] h, add-one i))

  pub rows_all : n ≤ i → Laid out at (flat_map line (cut n 5 rows)) now to
  unfolding flat_map
  rows_all h = all_laid p (rw (drop_of_length-le (cut n 5 rows) {i = i} (omega (arith, cut-length n 5 rows))))

-- ---- a board
module _ (out : List ℕ) (at : ℕ) where
  pub title_laid : (o₁ : List ℕ) (a : ℕ) → Laid out at (bytes "board ") o₁ a → (i : ℕ) (o₂ : List ℕ) (b : ℕ) → Laid o₁ a (decimal i) o₂ b
      → (n : ℕ) (after : List ℕ) (to : ℕ) → Laid o₂ b (bytes " rows " ++ line (n ∷ [])) after to → Laid out at (board_title i n) after to
  unfolding board_title
  title_laid o₁ a k i o₂ b l n after to q = both_laid k (both_laid l q)

  pub board_laid : (i n : ℕ) (mid : List ℕ) (to : ℕ) → Laid out at (board_title i n) mid to → (rows after : List ℕ) (e : ℕ) → Laid mid to (flat_map line (cut n 5 rows)) after e
      → Laid out at (board_lines i (cut n 5 rows)) after e
  unfolding board_lines
  board_laid i n mid to k rows after e l = rw (cut-length n 5 rows) (both_laid k l)
