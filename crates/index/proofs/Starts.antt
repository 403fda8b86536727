-- What a start leaves in the slice is the fresh store's words.
use Rattle.std.specs.Prelude.{ℕ, ◌+◌, ◌-◌, ◌≡◌, true, List, ◌++◌, length, replicate}
use Rattle.std.proofs.Common.{arith, ◌∙◌, eq-eqb}
use Rattle.rules.specs.Lists.{padded}
use Rattle.rules.specs.Store.{store_length}
use Rattle.rules.specs.Sound.{sizes_in_range}
use Rattle.rules.specs.Numbers.{first_met}
use Rattle.rules.specs.Calls.{start_number, started_by, start}
use Rattle.rules.specs.Views.{sizes_in_range-holds}
use Rattle.index.specs.Fresh.{first_words, fresh-words}

-- the first words, and zeros to the end
pub start-done : (p k b : ℕ) (w first rest : List ℕ) (n m : ℕ) → sizes_in_range p k b ≡ true → n ≡ store_length p k b → length w ≡ n → first ≡ first_words p k b
    → rest ≡ replicate m 0 → m + 19 ≡ length w → start p k b w ≡ record { number = 0; store = first ++ rest }
unfolding start start_number first_met started_by padded
start-done p k b w first rest n m fits g l f r e =
    let some = (sizes_in_range-holds p k b fits).some_page in
    let long : length w ≡ store_length p k b = l ∙ g in
    let left : m ≡ store_length p k b - 19 = omega arith in
    rw (fits, eq-eqb (length w) (store_length p k b) long, fresh-words p k b some, f, r, left)
