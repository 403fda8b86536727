-- A store in range is written as words and read back the same, and the words of a sound store are refused by no test of a lent store.
use Rattle.std.specs.Prelude.{ℕ, ◌≤◌, ◌≡◌, refl, true, List, length}
use Rattle.std.proofs.Common.{arith, eq-eqb, le-ltb}
use Rattle.std.proofs.lemmas.Bool.{not-false}
use Rattle.rules.specs.Lists.{same_words, padded}
use Rattle.rules.specs.Store.{Store, memo_start, boards_start, store_length, header_words, words, store_of}
use Rattle.rules.specs.Sound.{in_range, sound, sound_words}
use Rattle.rules.specs.Numbers.{first_met}
use Rattle.rules.specs.Calls.{sizes_read, laid_out, store_tests}
use Rattle.rules.specs.laws.Tests.{and_left, and_right, and_both, each, each_all_of}
use Rattle.rules.specs.laws.Numbers.{unmet}
use Rattle.rules.specs.laws.Lists.{same_words_equal, same_words_self}
use Rattle.rules.specs.laws.Words.{in_range_fits, words-length, fits_read}

-- the store that is read from the words is the one that was written
pub words_read : (s : Store) → in_range s ≡ true → store_of (words s) ≡ s
words_read s e = fits_read s (in_range_fits s e)

-- its length and its words 0, 4, 6, 8 and 10 to 15 are as they should be
pub words-laid_out : (s : Store) → in_range s ≡ true → laid_out (words s) ≡ true
unfolding laid_out words header_words padded
words-laid_out s e =
    let p = length s.pages in
    each_all_of _ (
      eq-eqb _ _ (words-length s (in_range_fits s e)),
      (refl, (refl, (eq-eqb (memo_start p) _ refl, (eq-eqb (boards_start p s.slots) _ refl, (refl, tt))))),
    )

-- its words 5, 7 and 9 are its sizes, which are in range
pub words_sizes : (s : Store) → in_range s ≡ true → sizes_read (words s) ≡ true
unfolding sizes_read words header_words padded in_range
words_sizes s e = (each _ e).0

-- a sound store is in range
pub sound-in_range : (s : Store) → sound s ≡ true → in_range s ≡ true
unfolding sound
sound-in_range s e = (each _ e).0

-- the words of a sound store are sound words
pub words-sound : (s : Store) → sound s ≡ true → sound_words (words s) ≡ true
unfolding sound_words
words-sound s e = rw (words_read s (sound-in_range s e)) (and_both (same_words_self (words s)) e)

-- they are long enough for the counts to be read
at_least_16 : (s : Store) → in_range s ≡ true → 16 ≤ length (words s)
unfolding store_length
at_least_16 s e = omega (arith, words-length s (in_range_fits s e))

-- no test of a lent store refuses them
pub words_accepted : (s : Store) → sound s ≡ true → first_met (store_tests (words s)) ≡ 0
unfolding store_tests first_met
words_accepted s e =
    let r : in_range s ≡ true = sound-in_range s e in
    rw (le-ltb _ 16 (at_least_16 s r), words_sizes s r, words-laid_out s r, words-sound s e)

-- and words that no test refuses are those of the sound store that is read from them
pub accepted_words : (w : List ℕ) → first_met (store_tests w) ≡ 0 → (words (store_of w) ≡ w) × (sound (store_of w) ≡ true)
unfolding store_tests sound_words
accepted_words w e =
    let same = same_words (words (store_of w)) w in
    let t : sound_words w ≡ true = not-false _ (unmet (store_tests w) (omega arith) e).1.1.1.0 in
    (same_words_equal _ w (and_left same _ t), and_right same _ t)
