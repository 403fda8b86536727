-- Examples as text: how their numbers, steps and answers are written, and what it is for one to hold.
use Rattle.std.specs.Prelude.{ℕ, zero, suc, ◌+◌, ◌*◌, ◌-◌, Bool, cond, eqb, length, get_or, replicate, drop}
use Prim.Native.Char.{code}
use Prim.Native.String.{String, len, char_at}
use mathlib.Core.List.{List, [], ◌∷◌, ◌++◌, map, flat_map}
use Rattle.rules.specs.Lists.{all_of, same_words}
use Rattle.rules.specs.Store.{fresh, words, window_of, slot_words, row_words}
use Rattle.rules.specs.Live.{rows_in}
use Rattle.rules.specs.Sound.{sound}
use Rattle.rules.specs.Steps.{Ran, step_of, run}

-- ---- numbers: decimals with a space between them
-- from byte i on, where n bytes are left, with the digits read so far
unfoldable pub numbers_from : ℕ → String → ℕ → ℕ → List ℕ
numbers_from zero s i so_far = so_far ∷ []
numbers_from (suc n) s i so_far =
    let c = code (char_at s i) in
    let next = so_far ∷ numbers_from n s (suc i) 0 in
    let same = numbers_from n s (suc i) (10 * so_far + (c - 48)) in
    cond (eqb c 32) next same

unfoldable pub numbers : String → List ℕ
numbers s = numbers_from (len s) s 0 0

-- ---- a step and its answer: the six words, and number and count
pub record Line : Type 0 where
  pub six : String
  pub answer : String

infix 80 ◌gives◌
abbrev pub ◌gives◌ : String → String → Line
◌gives◌ six answer = record { six = six; answer = answer }

unfoldable pub ran_lines : String → List Line → Ran
ran_lines sizes lines =
    let n = numbers sizes in
    run (fresh (get_or n 0 0) (get_or n 1 0) (get_or n 2 0)) (map (λ l. step_of (numbers l.six)) lines)

unfoldable pub answers_in : List Line → List ℕ
answers_in lines = flat_map (λ l. numbers l.answer) lines

-- ---- a case: a fresh store of P, K, B; its steps with their answers; then the memo's used slots, and the rows of a window. That
-- the store is sound says that each board has the rows of its window
pub record Case : Type 0 where
  pub sizes : String
  pub lines : List Line
  pub slots : List String
  pub window : String
  pub rows : List String

unfoldable pub holds : Case → Bool
holds c =
    let r = ran_lines c.sizes c.lines in
    let listed = rows_in r.store (window_of (numbers c.window)) in
    all_of
    (same_words r.answers (answers_in c.lines)
    ∷ same_words (flat_map slot_words r.store.memo) (flat_map numbers c.slots)
    ∷ same_words (flat_map row_words listed) (flat_map numbers c.rows)
    ∷ sound r.store
    ∷ [])

-- ---- a long run: as a case, but with all words of the store at the end; each part is its first word's place and its words,
-- and the words between the parts are zero
pub record Run : Type 0 where
  pub sizes : String
  pub lines : List Line
  pub parts : List String

-- the words from place i on, up to the length n
unfoldable pub spread : ℕ → ℕ → List (List ℕ) → List ℕ
spread n i [] = replicate (n - i) 0
spread n i (part ∷ parts) =
    let at = get_or part 0 0 in
    replicate (at - i) 0 ++ (drop 1 part ++ spread n (at + (length part - 1)) parts)

unfoldable pub agrees : Run → Bool
agrees c =
    let r = ran_lines c.sizes c.lines in
    let ws = words r.store in
    all_of
    (same_words r.answers (answers_in c.lines) ∷ same_words ws (spread (length ws) 0 (map numbers c.parts)) ∷ [])

-- a proof that says `unfolding text_open` sees through every definition of this file
unfoldable pub text_open : Unit {0}
unfolding numbers_from numbers ran_lines answers_in holds spread agrees
text_open = tt
