-- The parts of a text that each end with a byte, which the last may lack, as std's `split_inclusive` and `strip_suffix` give them. Assumes nothing.
use Rattle.std.specs.Prelude.{ℕ, suc, ◌+◌, ◌-◌, ◌≤◌, ◌<◌, ◌≡◌, refl, min, Bool, true, false, Option, Some, None, MatchOption, List, [], ◌∷◌, ◌++◌, eqb, length, get_or, take, drop}
use Rattle.std.proofs.Common.{arith, Bor, sym, ap, ◌∙◌, inl, inr, true≢false, append-nil, length-append, drop_of_length-le, drop-cons, take_all, drop_at}
use Rattle.std.proofs.lemmas.Bool.{cases_lt, eq-eqb}
use Rattle.std.proofs.lemmas.Fn.{always_returns_same}
use Rattle.std.proofs.lemmas.List.{take-append-le, get_or_past, nil_from_length}
use Rattle.std.proofs.lemmas.List.Sums.{position_or_len_is}
use Rattle.std.proofs.Math.Bool.{and-true}
use Rattle.std.proofs.Math.ListN.{get_or-append}
use Rattle.std.specs.Fn.{ComputesKey, CalledAt}
use Rattle.std.specs.List.{IsFirstMatchOrLen, position_or_len}
use Rattle.std.specs.Option.{unwrap_or}
use Rattle.std.specs.Slice.Iter.{split_inclusive_rest, split_inclusive_callee}
use Rattle.std.specs.declared.slice.SplitInclusive.{SplitInclusive}
use denote.Param.Members.{Mut}
use lib.Pointwise.{pointwise}
use Rattle.text.specs.Promised.{Until}
use Rattle.text.proofs.Fields.{first_std}

-- `part` stands first in `rest`, and behind it and the byte c what is left
pub record Piece (c : ℕ) (rest part left : List ℕ) : Type 0 where
  pub end : ℕ
  pub found : Until rest 0 c end
  pub cut : part ≡ take (end - 0) (drop 0 rest)
  pub behind : left ≡ drop (end + 1) rest
  pub some : 0 < length rest

module _ (c : ℕ) (rest x left : List ℕ) (parted : rest ≡ x ++ left) (i : ℕ) (long : length x ≡ min (i + 1) (length rest)) (h : IsFirstMatchOrLen (λ b. eqb b c) rest i) (some : 0 < length rest) where
  whole : length rest ≡ length x + length left
  whole = ap length parted ∙ length-append x left

  inside : i ≤ length rest
  inside = elim (cases_lt (length rest) i) [
    | inl k ↦ absurd (true≢false (sym (eq-eqb _ _ (get_or_past rest (length rest) c (omega arith))) ∙ h.0 (length rest) c (omega arith) k))
    | inr k ↦ k
  ]

  found : Until rest 0 c i
  found =
      let n : position_or_len (λ b. eqb b c) rest ≡ i = position_or_len_is (λ b. eqb b c) rest i 0 inside (λ k l. h.0 k 0 (omega arith) l) (λ l. h.1 l 0) in
      record { there = omega (arith, first_std (λ b. eqb b c) rest, n); behind = omega arith; inside = inside }

  behind : left ≡ drop (i + 1) rest
  behind = elim (cases_lt i (length rest)) [
    | inl k ↦ rw parted (sym (drop_at x left (i + 1) (omega (arith, long))))
    | inr k ↦ nil_from_length left (omega (arith, long, whole)) ∙ sym (drop_of_length-le rest {i = i + 1} (omega arith))
  ]

  -- the last byte of x, which stands at the same place in the rest
  last : length x - 1 < length x
  last = omega (arith, long)

  test : pointwise eqb (drop (length x - 1) x) (c ∷ []) ≡ eqb (get_or rest (length x - 1) 0) c
  test =
      let d : drop (suc (length x - 1)) x ≡ [] = drop_of_length-le x {i = suc (length x - 1)} (omega (arith, last)) in
      let g : get_or rest (length x - 1) 0 ≡ get_or x (length x - 1) 0 = ap (λ l. get_or l (length x - 1) 0) parted ∙ get_or-append x left 0 (length x - 1) last in
      rw (drop-cons x (length x - 1) 0 last, d, g, and-true)

  pub piece : (r : Option (Bor (List ℕ))) → MatchOption r (pointwise eqb (drop (length x - 1) x) (c ∷ []) ≡ false) (λ y. (pointwise eqb (drop (length x - 1) x) (c ∷ []) ≡ true) × (y.now ≡ take (length x - 1) x) × (length y.now + 1 ≡ length x))
      → (b : Bor (List ℕ)) → b.now ≡ x → Piece c rest (unwrap_or r b).now left
  piece r strip b same = record { end = i; found = found; cut = cut r strip; behind = behind; some = some }
    where
      cut : (r : Option (Bor (List ℕ))) → MatchOption r (pointwise eqb (drop (length x - 1) x) (c ∷ []) ≡ false) (λ y. (pointwise eqb (drop (length x - 1) x) (c ∷ []) ≡ true) × (y.now ≡ take (length x - 1) x) × (length y.now + 1 ≡ length x))
          → (unwrap_or r b).now ≡ take (i - 0) rest
      cut None k = elim (cases_lt i (length rest)) [
        | inl l ↦
            let n : length x - 1 ≡ i = omega (arith, long) in
            absurd (true≢false (sym (h.1 l 0) ∙ rw n at (sym test ∙ k)))
        | inr l ↦
            let z : left ≡ [] = nil_from_length left (omega (arith, long, whole)) in
            same ∙ sym (append-nil x) ∙ ap (λ l. x ++ l) (sym z) ∙ sym parted ∙ sym (take_all (i - 0) rest (omega arith))
      ]
      cut (Some y) k = elim (cases_lt i (length rest)) [
        | inl l ↦
            let n : length x - 1 ≡ i - 0 = omega (arith, long) in
            k.1 ∙ ap (λ m. take m x) n ∙ sym (take-append-le (i - 0) x left (omega (arith, long))) ∙ ap (take (i - 0)) (sym parted)
        | inr l ↦ absurd (true≢false (sym k.0 ∙ test ∙ h.0 (length x - 1) 0 (omega arith) (omega (arith, long, whole))))
      ]

-- what a call of `next` and a `strip_suffix` give
pub next_piece : {F : Type 0} (g : Mut F (Bor ℕ × Unit {0}) Bool) (c : ℕ) (s t : SplitInclusive ℕ F) (x : Bor (List ℕ))
    → (split_inclusive_rest s ≡ x.now ++ split_inclusive_rest t) × ((i : ℕ) × (length x.now ≡ min (i + 1) (length (split_inclusive_rest s))) × ((p : ℕ → Bool) → ComputesKey g p (split_inclusive_callee s) → ComputesKey g p (split_inclusive_callee t) × IsFirstMatchOrLen p (split_inclusive_rest s) i)) × (0 < length (split_inclusive_rest s))
    → ((y : ℕ) (b : Bool) (q : F) → CalledAt g (split_inclusive_callee s) y b q → (q ≡ split_inclusive_callee s) × (b ≡ eqb y c))
    → (r : Option (Bor (List ℕ))) → MatchOption r (pointwise eqb (drop (length x.now - 1) x.now) (c ∷ []) ≡ false) (λ y. (pointwise eqb (drop (length x.now - 1) x.now) (c ∷ []) ≡ true) × (y.now ≡ take (length x.now - 1) x.now) × (length y.now + 1 ≡ length x.now))
    → Piece c (split_inclusive_rest s) (unwrap_or r x).now (split_inclusive_rest t)
next_piece g c s t x k tests r strip =
    let key : ComputesKey g (λ b. eqb b c) (split_inclusive_callee s) =
    always_returns_same g (λ a r. r ≡ eqb a.0.now c) (split_inclusive_callee s) (λ a r q e. let m = tests a.0.now r q (record { shown = a.0; shows = refl; called = e }) in (m.1, m.0)) in
    piece c (split_inclusive_rest s) x.now (split_inclusive_rest t) k.0 k.1.0 k.1.1 (k.1.2 (λ b. eqb b c) key).1 k.2 r strip x refl
