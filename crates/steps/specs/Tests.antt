-- What the words of a sound store tell the tests of a step.
use Rattle.std.specs.Prelude.{ℕ, ◌≤◌, ◌≡◌, refl, true, List, length, get_or}
use Rattle.rules.specs.Store.{stamp, store_of}
use Rattle.rules.specs.Sound.{sound_words}
use Rattle.rules.specs.laws.Placed.{Placed, header_long}
use Rattle.page.specs.Laws.{pages_length}
use Rattle.parts.specs.Laws.{sound_lent, lent_placed}
use Rattle.steps.specs.Stepping.{Given, given_sound}
use Rattle.std.proofs.lemmas.List.{length-map}
use Rattle.rules.specs.laws.Places.{cut-length}

pub next_there : (w : List ℕ) → (store_of w).next ≡ stamp (get_or w 1 0)
unfolding store_of
next_there w = refl

pub pages_there : (w : List ℕ) → length (store_of w).pages ≡ get_or w 5 0
unfolding store_of
pages_there w = pages_length w (get_or w 5 0)

pub boards_there : (w : List ℕ) → length (store_of w).boards ≡ get_or w 9 0
unfolding store_of
boards_there w = rw (length-map, cut-length)

pub sound_placed : (w : List ℕ) → sound_words w ≡ true → Placed w
sound_placed w e = lent_placed w (sound_lent w e)

pub sound_long : (w : List ℕ) → sound_words w ≡ true → 16 ≤ length w
sound_long w e = header_long w (sound_placed w e)

pub given_long : (w : List ℕ) (n : ℕ) → Given w n → 16 ≤ length w
given_long w n g = sound_long w (given_sound g)
