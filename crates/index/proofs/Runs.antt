-- What the first step of a run finds.
use Rattle.std.specs.Prelude.{ℕ, ◌≡◌, refl, true, List, get_or, drop}
use Rattle.std.proofs.Common.{◌∙◌, sym}
use Rattle.rules.specs.Store.{pages_of, store_of}
use Rattle.rules.specs.Live.{held_count}
use Rattle.rules.specs.Sound.{sound_words}
use Rattle.theorems.specs.TreeSound.{tree_of-sound}
use Rattle.theorems.specs.HeldLeaves.{held-counted}
use Rattle.steps.specs.Stepping.{Given, sound_given}

-- a sound store, whose leaves' entries are those held
pub first_given : (w : List ℕ) → sound_words w ≡ true → (p h : ℕ) → p ≡ get_or w 5 0 → h ≡ held_count (pages_of p (drop 16 w)) → Given w h
unfolding store_of
first_given w e p h pages leaves =
    let s = (sound_given w e _ refl).sound in
    let counted : h ≡ held_count (store_of w).pages = rw pages at leaves in
    sound_given w e h (counted ∙ sym (held-counted (store_of w) (tree_of-sound (store_of w) s)))
