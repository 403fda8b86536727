-- A byte more than is looked at says as much as all bytes that a reader has left. Assumes nothing.
use Rattle.std.proofs.Common.{◌≡◌, ℕ, ◌<◌, List, length, take, Option, None, Some, IfSome, ap, subst, arith, inl, inr, take_all, length-take}
use Rattle.std.proofs.lemmas.Bool.{cases_lt, lt-ltb}
use Rattle.text.specs.Program.{most_bytes, printed}

-- an input that is too long stays so, and another stays whole
printed_looked : (xs : List ℕ) → printed (take 65537 xs) ≡ printed xs
unfolding printed
printed_looked xs =
    elim (cases_lt most_bytes (length xs)) [
      | inl h ↦
          let k : most_bytes < length (take 65537 xs) = omega (arith, length-take 65537 xs) in
          rw (lt-ltb most_bytes (length xs) h, lt-ltb most_bytes (length (take 65537 xs)) k)
      | inr h ↦ ap printed (take_all 65537 xs (omega arith))
    ]

pub all_printed : (left : Option (List ℕ)) (P : List ℕ → Type 0) → IfSome left (λ xs. P (printed (take 65537 xs))) → IfSome left (λ xs. P (printed xs))
all_printed None P p = tt
all_printed (Some xs) P p = subst P (printed_looked xs) p
