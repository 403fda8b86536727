-- The numbers a call may answer: tests in the order of the table, of which the first that is met decides.
use Rattle.std.specs.Prelude.{ℕ, Bool, cond, List, [], ◌∷◌}

pub record Refusal : Type 0 where
  pub number : ℕ
  pub met : Bool

infix 20 ◌when◌
abbrev pub ◌when◌ : ℕ → Bool → Refusal
◌when◌ n b = record { number = n; met = b }

-- 0 where none is met
unfoldable pub first_met : List Refusal → ℕ
first_met [] = 0
first_met (r ∷ rs) = let later = first_met rs in cond r.met r.number later

-- a proof that says `unfolding numbers_open` sees through every definition of this file
unfoldable pub numbers_open : Unit {0}
unfolding first_met
numbers_open = tt
