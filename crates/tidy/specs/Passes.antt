-- A test of every element of a list, made from its first to its last; and of every part that words are cut into.
use Rattle.std.specs.Prelude.{ℕ, zero, suc, ◌+◌, ◌*◌, ◌-◌, ◌≤◌, ◌<◌, ◌≡◌, refl, Bool, true, false, not, ◌&&◌, List, [], ◌∷◌, length, get_or, take, drop}
use Rattle.std.proofs.Common.{arith, mul-zero, mul-suc, not-suc-le-zero, le_of_suc-le-suc, ◌∙◌, drop_of_length-le, drop-cons, drop-drop}
use Rattle.std.proofs.Math.Nat.{add-sub_cancel_left}
use Rattle.std.proofs.Math.Numerals.{add-one}
use Rattle.std.proofs.Math.Path.{sym}
use Rattle.std.proofs.lemmas.Bool.{not-true, not-false}
use Rattle.rules.specs.Lists.{every, cut}
use Rattle.rules.specs.laws.Places.{cut-length}

-- two tests that pass in the same cases
pub same_truth : (a b : Bool) → (a ≡ true → b ≡ true) → (b ≡ true → a ≡ true) → a ≡ b
same_truth true b h k = sym (h refl)
same_truth false true h k = k refl
same_truth false false h k = refl

pub regrouped : (a b c d : Bool) → ((a && b) && (c && d)) ≡ ((a && c) && (b && d))
regrouped true true c d = refl
regrouped true false true d = refl
regrouped true false false d = refl
regrouped false b c d = refl

pub every_both : {A : Type 0} (f g : A → Bool) (xs : List A) → every (λ x. f x && g x) xs ≡ (every f xs && every g xs)
every_both f g [] = refl
every_both f g (x ∷ xs) = rw (every_both f g xs) (regrouped (f x) (g x) (every f xs) (every g xs))

-- ---- the elements before place i have passed
abbrev pub Passed : {A : Type 0} → (A → Bool) → List A → ℕ → Type 0
Passed f xs i = every f xs ≡ every f (drop i xs)

module _ {A : Type 0} (f : A → Bool) (xs : List A) (i : ℕ) (so_far : Passed f xs i) where
  pub passes : (d : A) → i < length xs → f (get_or xs i d) ≡ true → Passed f xs (i + 1)
  passes d h e = so_far ∙ rw (drop-cons xs i d h, e, add-one i)

  pub fails : (d : A) → i < length xs → f (get_or xs i d) ≡ false → false ≡ every f xs
  fails d h e = sym (so_far ∙ rw (drop-cons xs i d h, e))

  pub all_passed : length xs ≤ i → true ≡ every f xs
  all_passed h = sym (so_far ∙ rw (drop_of_length-le xs h))

-- ---- the parts of one size that words are cut into
pub cut_at : (n size : ℕ) (ws : List ℕ) (i : ℕ) → i < n → get_or (cut n size ws) i [] ≡ take size (drop (size * i) ws)
cut_at zero size ws i h = absurd (not-suc-le-zero h)
cut_at (suc n) size ws zero h = rw (mul-zero size)
cut_at (suc n) size ws (suc i) h =
    let e : size + size * i ≡ size * suc i = omega (arith, mul-suc size i) in
    cut_at n size (drop size ws) i (le_of_suc-le-suc h) ∙ rw (drop-drop, e)

-- each in turn is lent on to its test
module _ (f : List ℕ → Bool) (n size : ℕ) (ws : List ℕ) (i : ℕ) (so_far : Passed f (cut n size ws) i) (r : Bool) (its : r ≡ f (take (size * i + size - size * i) (drop (size * i) ws))) where
  this_part : i < n → f (get_or (cut n size ws) i []) ≡ r
  this_part h = rw (cut_at n size ws i h) (sym (its ∙ rw (add-sub_cancel_left (size * i) size)))

  pub part_passes : i < n → not r ≡ false → Passed f (cut n size ws) (i + 1)
  part_passes h e = passes f (cut n size ws) i so_far [] (rw (cut-length n size ws) h) (this_part h ∙ not-false r e)

  pub part_fails : i < n → not r ≡ true → false ≡ every f (cut n size ws)
  part_fails h e = fails f (cut n size ws) i so_far [] (rw (cut-length n size ws) h) (this_part h ∙ not-true r e)

pub parts-passed : (f : List ℕ → Bool) (n size : ℕ) (ws : List ℕ) (i : ℕ) → Passed f (cut n size ws) i → n ≤ i → true ≡ every f (cut n size ws)
parts-passed f n size ws i so_far h = all_passed f (cut n size ws) i so_far (rw (cut-length n size ws) h)
