-- Whether keys are distinct, found with one flag for many keys: a key whose flag is not set differs from all whose flags are.
use Rattle.std.specs.Prelude.{ℕ, ◌*◌, ◌/◌, ◌%◌, ◌≡◌, Bool, true, false, ◌||◌, List, ltb, get_or}
use Rattle.rules.specs.Lists.{every}
use Rattle.rules.specs.laws.All.{All}
use Rattle.entries.specs.declared.Told.{Told}
use Rattle.entries.specs.declared.Told.TheVariants.{Apart, Equal, Crowded}

unfoldable pub flag_of : ℕ → ℕ
flag_of k = k % 4_294_967_296 * 3_266_489_917 / 262_144 % 16_384

-- none of these equals x
unfoldable pub apart : ℕ → List ℕ → Bool
apart x ys = every (λ y. ltb y x || ltb x y) ys

-- the flag of each of these is set
abbrev pub Flagged : List Bool → List ℕ → Type 0
Flagged flags ks = All (λ k. get_or flags (flag_of k) false ≡ true) ks

-- ---- what flags tell of keys that are distinct or not: where they are not too crowded to tell, what is so
abbrev pub crowded : Told → Bool
crowded Apart = false
crowded Equal = false
crowded Crowded = true

abbrev pub verdict : Told → Bool
verdict Apart = true
verdict Equal = false
verdict Crowded = false

pub record Says (r : Told) (b : Bool) : Type 0 where
  pub settled : crowded r ≡ false → verdict r ≡ b
