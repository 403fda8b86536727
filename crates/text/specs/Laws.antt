-- Laws of lines that are in form, and of lines of steps.
use Rattle.std.specs.Prelude.{ℕ, suc, ◌+◌, ◌*◌, ◌≤◌, min, ◌≡◌, refl, Bool, true, false, cond, eqb, length, take}
use Rattle.std.proofs.Common.{arith, sym, ◌∙◌, ap, ap₂, length-take, take_all, length-take-le}
use mathlib.Core.List.{List, [], ◌∷◌, ◌++◌, map, map-id, flat_map, append-nil}
use Rattle.std.proofs.Math.Dec.{leb-suc-suc}
use Rattle.std.proofs.Math.ListN.{length-map}
use Rattle.std.proofs.Math.Seq.{take-append-add}
use borrow.Author.Tests.{eqb-true, ltb-true, lt-ltb}
use Rattle.rules.specs.Lists.{first, every, cut}
use Rattle.rules.specs.laws.All.{All, none, more}
use Rattle.rules.specs.laws.Tests.{each, and_left, and_right}
use Rattle.rules.specs.laws.Words.{flat_length, cut_flat}
use Rattle.text.specs.Reading.{onto, parts, space, fields, is_decimal, value, all_decimals, in_form, words_in, words_before, words_read, is_step, good, has_bad, steps_in, all_read}

-- ---- how long a line of n decimals is at least: a byte for each, and one between each two
abbrev total : List (List ℕ) → ℕ
total [] = 0
total (f ∷ fs) = suc (length f) + total fs

total-fields : (b : ℕ) (xs : List ℕ) → total (parts b ([] ∷ []) xs) ≡ suc (length xs)
unfolding parts onto
total-fields b [] = omega arith
total-fields b (x ∷ xs) = go (eqb x b) (parts b ([] ∷ []) xs) (total-fields b xs)
  where
    go : (t : Bool) (ps : List (List ℕ)) → total ps ≡ suc (length xs) → total (cond t ([] ∷ ps) (onto x ps)) ≡ suc (suc (length xs))
    go true ps e = omega arith
    go false [] e = absurd (omega arith)
    go false (p ∷ ps) e = omega arith

decimals_long : (fs : List (List ℕ)) → every is_decimal fs ≡ true → 2 * length fs ≤ total fs
unfolding is_decimal
decimals_long [] e = omega arith
decimals_long (f ∷ fs) e =
    let later = decimals_long fs (and_right (is_decimal f) (every is_decimal fs) e) in
    let some = ltb-true 0 (length f) (each _ (and_left (is_decimal f) (every is_decimal fs) e)).0 in
    omega arith

words_all : (fs : List (List ℕ)) → every is_decimal fs ≡ true → words_before fs ≡ map value fs
unfolding words_before
words_all [] e = refl
words_all (f ∷ fs) e =
    let later = words_all fs (and_right (is_decimal f) (every is_decimal fs) e) in
    rw (and_left (is_decimal f) (every is_decimal fs) e) (ap (λ ws. value f ∷ ws) later)

module _ (n : ℕ) (line : List ℕ) (e : in_form n line ≡ true) where
  as_many : length (fields line) ≡ n
  unfolding in_form all_decimals
  as_many = eqb-true (length (fields line)) n (each _ e).0

  decimals : every is_decimal (fields line) ≡ true
  unfolding in_form all_decimals
  decimals = (each _ e).1.0

  pub line_long : 2 * n ≤ suc (length line)
  line_long = omega (arith, as_many, total-fields space line, decimals_long (fields line) decimals)

  pub words_same : words_read n line ≡ words_in line
  unfolding words_read words_in
  words_same = rw (take_all n (fields line) (omega (arith, as_many))) (words_all (fields line) decimals)

  pub words_many : length (words_in line) ≡ n
  unfolding words_in
  words_many = length-map (fields line) value ∙ as_many

-- ---- lines of steps: none, a bad one first, or a step first
pub none_good : good [] ≡ 0
unfolding good first
none_good = refl

module _ (l : List ℕ) (ls : List (List ℕ)) where
  module _ (b : is_step l ≡ false) where
    pub bad_good : good (l ∷ ls) ≡ 0
    unfolding good first
    bad_good = rw b

    pub bad_has : has_bad (l ∷ ls) ≡ true
    unfolding has_bad
    bad_has = rw bad_good (lt-ltb 0 (suc (length ls)) (omega arith))

    pub bad_read : all_read (l ∷ ls) ≡ words_read 6 l
    unfolding all_read
    bad_read = rw b (append-nil (words_read 6 l))

  module _ (b : is_step l ≡ true) where
    pub step-good : good (l ∷ ls) ≡ suc (good ls)
    unfolding good first
    step-good = rw b

    pub step-has : has_bad (l ∷ ls) ≡ has_bad ls
    unfolding has_bad
    step-has = rw step-good (leb-suc-suc (suc (good ls)) (length ls))

    pub step-read : all_read (l ∷ ls) ≡ words_read 6 l ++ all_read ls
    unfolding all_read
    step-read = rw b

-- the steps' words stand first among all that were read
pub read_first : (ls : List (List ℕ)) → take (6 * good ls) (all_read ls) ≡ flat_map (λ s. s) (steps_in ls)
unfolding steps_in flat_map
read_first [] = rw none_good
read_first (l ∷ ls) = go (is_step l) refl (read_first ls)
  where
    go : (t : Bool) → is_step l ≡ t → take (6 * good ls) (all_read ls) ≡ flat_map (λ s. s) (steps_in ls) → take (6 * good (l ∷ ls)) (all_read (l ∷ ls)) ≡ flat_map (λ s. s) (steps_in (l ∷ ls))
    go true b later =
        let w : words_read 6 l ≡ words_in l = words_same 6 l b in
        let n : length (words_in l) ≡ 6 = words_many 6 l b in
        let k : 6 * suc (good ls) ≡ length (words_in l) + 6 * good ls = omega arith in
        rw (step-good l ls b, step-read l ls b, w, k, take-append-add (words_in l) (all_read ls) (6 * good ls)) (ap (λ r. words_in l ++ r) later)
    go false b later = rw (bad_good l ls b)

steps_long : (ls : List (List ℕ)) → All (λ s. length s ≡ 6) (steps_in ls)
unfolding steps_in
steps_long [] = rw none_good none
steps_long (l ∷ ls) = go (is_step l) refl (steps_long ls)
  where
    go : (t : Bool) → is_step l ≡ t → All (λ s. length s ≡ 6) (map words_in (take (good ls) ls)) → All (λ s. length s ≡ 6) (map words_in (take (good (l ∷ ls)) (l ∷ ls)))
    go true b later = rw (step-good l ls b) (more (words_many 6 l b) later)
    go false b later = rw (bad_good l ls b) none

good-most : (ls : List (List ℕ)) → good ls ≤ length ls
good-most [] = rw none_good (omega arith)
good-most (l ∷ ls) = go (is_step l) refl (good-most ls)
  where
    go : (t : Bool) → is_step l ≡ t → good ls ≤ length ls → good (l ∷ ls) ≤ suc (length ls)
    go true b h = rw (step-good l ls b) (omega arith)
    go false b h = rw (bad_good l ls b) (omega arith)

steps_many : (ls : List (List ℕ)) → length (steps_in ls) ≡ good ls
unfolding steps_in
steps_many ls = length-map (take (good ls) ls) words_in ∙ length-take-le (good ls) ls (good-most ls)

pub words_enough : (ls : List (List ℕ)) → 6 * good ls ≤ length (all_read ls)
words_enough ls =
    let f : length (flat_map (λ s. s) (steps_in ls)) ≡ 6 * length (steps_in ls) = flat_length (λ s. s) 6 (steps_long ls) in
    let t : min (6 * good ls) (length (all_read ls)) ≡ 6 * good ls = sym (length-take (6 * good ls) (all_read ls)) ∙ ap length (read_first ls) ∙ f ∙ ap (λ n. 6 * n) (steps_many ls) in
    omega (arith, t)

-- cut into steps again, they are the steps
pub steps_cut : (ls : List (List ℕ)) → cut (good ls) 6 (flat_map (λ s. s) (steps_in ls)) ≡ steps_in ls
steps_cut ls =
    ap₂ (λ n ws. cut n 6 ws) (sym (steps_many ls)) (sym (append-nil (flat_map (λ s. s) (steps_in ls))))
    ∙ cut_flat (λ s. s) 6 (steps_long ls) []
    ∙ map-id (steps_in ls)
