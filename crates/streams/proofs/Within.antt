-- What was read into a buffer is what the reader had, as far as the buffer's room reaches. For callers, who know the room as a number.
use Rattle.std.proofs.Common.{◌≡◌, ℕ, min, List, length, take, drop, Option, None, Some, IfSome, sym, ap, ◌∙◌, subst}
use Rattle.std.proofs.Math.Nat.{min_comm}
use Rattle.std.proofs.lemmas.List.{take_min, drop_min}

module _ (room n : ℕ) (buffer : List ℕ) (long : room ≡ length buffer) where
  counted : (xs : List ℕ) → n ≡ min (length xs) (length buffer) → n ≡ min room (length xs)
  counted xs e = e ∙ ap (min (length xs)) (sym long) ∙ min_comm (length xs) room

  -- what holds of the bytes that were read
  pub front_within : (left : Option (List ℕ)) → IfSome left (λ xs. n ≡ min (length xs) (length buffer)) → IfSome left (λ xs. take n buffer ≡ take n xs)
      → (P : List ℕ → Type 0) → P (take n buffer) → IfSome left (λ xs. P (take room xs))
  front_within None e f P p = tt
  front_within (Some xs) e f P p = subst P (f ∙ ap (λ k. take k xs) (counted xs e) ∙ take_min room xs) p

  pub rest_within : (left new : Option (List ℕ)) → IfSome left (λ xs. n ≡ min (length xs) (length buffer)) → IfSome left (λ xs. new ≡ Some (drop n xs))
      → IfSome left (λ xs. new ≡ Some (drop room xs))
  rest_within None new e f = tt
  rest_within (Some xs) new e f = f ∙ ap Some (ap (λ k. drop k xs) (counted xs e) ∙ drop_min room xs)
