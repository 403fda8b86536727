-- What a start in a store of the right length comes to, and the first line. Assumes nothing.
use Prim.Native.Nat.{ℕ}
use native.Mathlib.Omega.{arith}
use mathlib.Core.Path.{◌≡◌, refl, sym, ◌∙◌, ap}
use mathlib.Core.Bool.{Bool, true, false}
use mathlib.Core.List.{List, map}
use lib.Dec.{eqb}
use lib.ListN.{length}
use borrow.Author.Tests.{eq-eqb}
use Rattle.rules.specs.Store.{words, store_of, store_length, fresh}
use Rattle.rules.specs.Sound.{sizes_in_range}
use Rattle.rules.specs.Numbers.{first_met}
use Rattle.rules.specs.Steps.{step_of, run}
use Rattle.rules.specs.Calls.{Started, start_number, started_by, start}
use Rattle.rules.specs.laws.Lists.{length-zero}
use Rattle.rules.specs.theorems.Fresh.{fresh-sound}
use Rattle.rules.specs.theorems.WordsAndBack.{words_read, sound-in_range, words_accepted}
use Rattle.text.specs.Reading.{steps_in}
use Rattle.text.specs.Printing.{start_line}
use Rattle.text.specs.Program.{steps_printed, start_printed}
use Rattle.text.specs.Laid.{Laid, both_laid}
use Rattle.program.specs.Parts.{Accepted, store_room}
use Rattle.program.specs.Left.{started_left}

module _ (p k b : ℕ) (w : List ℕ) (long : length w ≡ store_room p k b) (number : ℕ) (w' : List ℕ) (call : start p k b w ≡ record { number = number; store = w' }) where
  -- what the start answers, by whether the sizes are in range
  in_range-start : sizes_in_range p k b ≡ true → (number ≡ 0) × (w' ≡ words (fresh p k b))
  unfolding start start_number started_by first_met store_room
  in_range-start e =
      let l : eqb (length w) (store_length p k b) ≡ true = eq-eqb (length w) (store_length p k b) (long ∙ rw e) in
      let g : ◌≡◌ {A = Started} (record { number = number; store = w' }) (record { number = 0; store = words (fresh p k b) }) = sym call ∙ rw (e, l) in
      (ap (λ c. c.number) g, ap (λ c. c.store) g)

  out_of_range_start : sizes_in_range p k b ≡ false → (number ≡ 1) × (w' ≡ w)
  unfolding start start_number started_by first_met
  out_of_range_start e =
      let g : ◌≡◌ {A = Started} (record { number = number; store = w' }) (record { number = 1; store = w }) = sym call ∙ rw e in
      (ap (λ c. c.number) g, ap (λ c. c.store) g)

  begun : number ≡ 0 → sizes_in_range p k b ≡ true
  begun z = go (sizes_in_range p k b) refl
    where
      go : (t : Bool) → sizes_in_range p k b ≡ t → t ≡ true
      go true e = refl
      go false e = absurd (omega (arith, (out_of_range_start e).0))

  refused : (number ≡ 0 → ⊥) → sizes_in_range p k b ≡ false
  refused h = go (sizes_in_range p k b) refl
    where
      go : (t : Bool) → sizes_in_range p k b ≡ t → t ≡ false
      go true e = absurd (h (in_range-start e).0)
      go false e = refl

  fresh_there : number ≡ 0 → store_of w' ≡ fresh p k b
  fresh_there z =
      let e = begun z in
      ap store_of (in_range-start e).1 ∙ words_read (fresh p k b) (sound-in_range (fresh p k b) (fresh-sound p k b e))

  module _ (later : List (List ℕ)) (out mid : List ℕ) (to : ℕ) (told : Laid out 0 (start_line number) mid to) where
    pub start_refused : (number ≡ 0 → ⊥) → Laid out 0 (start_printed p k b later) mid to
    unfolding start_printed
    start_refused h = rw (refused h) (rw (out_of_range_start (refused h)).0 at told)

    pub start_done : number ≡ 0 → (out' : List ℕ) (end : ℕ) → Laid mid to (steps_printed (store_of w') later) out' end → Laid out 0 (start_printed p k b later) out' end
    unfolding start_printed
    start_done z out' end l = rw (begun z) (both_laid (rw z at told) (rw (fresh_there z) at l))

  pub start_accepted : number ≡ 0 → Accepted w'
  start_accepted z = let e = begun z in rw (in_range-start e).1 (words_accepted (fresh p k b) (fresh-sound p k b e))

  pub store_none : (later : List (List ℕ)) → (number ≡ 0 → ⊥) → w' ≡ started_left p k b later
  unfolding started_left store_room
  store_none later h = rw (refused h) ((out_of_range_start (refused h)).1 ∙ length-zero w (long ∙ rw (refused h)))

  pub store_ran : (later : List (List ℕ)) → number ≡ 0 → (v : List ℕ) → v ≡ words (run (store_of w') (map step_of (steps_in later))).store → v ≡ started_left p k b later
  unfolding started_left
  store_ran later z v q = rw (begun z) (rw (fresh_there z) at q)
