-- What the parts of the program require of the store and promise of it.
use Rattle.std.specs.Prelude.{ℕ, ◌≡◌, cond, List, map}
use Rattle.rules.specs.Store.{store_length, words, store_of}
use Rattle.rules.specs.Sound.{sizes_in_range}
use Rattle.rules.specs.Numbers.{first_met}
use Rattle.rules.specs.Steps.{step_of, run}
use Rattle.rules.specs.Calls.{store_tests}

-- a store that each call accepts
abbrev pub Accepted : List ℕ → Type 0
Accepted w = first_met (store_tests w) ≡ 0

-- how long the lent store is: 0 where the sizes are out of range
unfoldable pub store_room : ℕ → ℕ → ℕ → ℕ
store_room p k b = let n = store_length p k b in cond (sizes_in_range p k b) n 0

-- steps were run on a store, and answered
pub record StepsRun (steps : List (List ℕ)) (store store' answers : List ℕ) : Type 0 where
  pub kept : store' ≡ words (run (store_of store) (map step_of steps)).store
  pub accepted : Accepted store'
  pub answered : answers ≡ (run (store_of store) (map step_of steps)).answers
