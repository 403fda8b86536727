-- What the loops over bytes keep. Assumes nothing.
use Rattle.std.specs.Prelude.{ℕ, suc, ◌+◌, ◌-◌, ◌*◌, ◌%◌, ◌≤◌, ◌<◌, ◌≡◌, refl, Bool, true, false, not, eqb, ltb, List, [], ◌∷◌, length, get_or, set, take, drop}
use Rattle.std.proofs.Common.{arith, zero-add, add-one, sym, ◌∙◌, ap, length-drop, drop_of_length-le, drop-cons, take_at}
use Rattle.std.proofs.lemmas.List.{nil_from_length}
use mathlib.Core.List.{flat_map}
use lib.Seq.{sets, sets-eq}
use Rattle.rules.specs.Lists.{first}
use Rattle.rules.specs.Numbers.{first_met}
use Rattle.rules.specs.Sound.{sound_words}
use Rattle.rules.specs.Calls.{sizes_read, laid_out, store_tests}
use Rattle.rules.specs.laws.Tests.{either}
use Rattle.text.proofs.Pieces.{Piece}
use Rattle.judged.specs.Text.{before_first, parts, word_from, word_of, words_of, number_of, answer, answers, Put}

-- ---- a field: the digits from number i on go on with what is read
module _ (field : List ℕ) (v i : ℕ) (left : word_from v (drop i field) ≡ word_of field) where
  pub word_turn : i < length field → (w : ℕ) → w ≡ (10 * v + get_or field i 0 % 16) % 4294967296 → word_from w (drop (i + 1) field) ≡ word_of field
  unfolding word_from
  word_turn h w e = rw (e, add-one i) (rw (drop-cons field i 0 h) at left)

  pub word_end : length field ≤ i → v ≡ word_of field
  unfolding word_from
  word_end h = let e : drop i field ≡ [] = drop_of_length-le field {i = i} h in rw e at left

-- ---- parts: the first ends before the first separator, and behind that the others follow
-- how far away the byte c stands first
abbrev far : ℕ → List ℕ → ℕ
far c s = first (λ x. eqb x c) s

abbrev FirstPart : ℕ → List ℕ → Type 0
FirstPart c s = parts c s ≡ take (far c s) s ∷ parts c (drop (suc (far c s)) s)

-- a byte more before a part
part_longer : (c b : ℕ) (s : List ℕ) → eqb b c ≡ false → (0 < length s → FirstPart c s) → FirstPart c (b ∷ s)
unfolding parts before_first first
part_longer c b [] e later = rw e
part_longer c b (x ∷ s) e later = rw (e, later (omega arith))

pub first_part : (c : ℕ) (s : List ℕ) → 0 < length s → FirstPart c s
unfolding parts first
first_part c [] h = absurd (omega arith)
first_part c (b ∷ s) h = go (eqb b c) refl (first_part c s)
  where
    go : (t : Bool) → eqb b c ≡ t → (0 < length s → FirstPart c s) → FirstPart c (b ∷ s)
    go true e later = rw e
    go false e later = part_longer c b s e later

-- the same of a part that `split_inclusive` and `strip_suffix` give
module _ (c : ℕ) (s part left : List ℕ) (p : Piece c s part left) where
  pub next_part : parts c s ≡ part ∷ parts c left
  next_part =
      let n : far c s ≡ p.end - 0 = omega (arith, p.found.there) in
      let k : suc (far c s) ≡ p.end + 1 = omega (arith, p.found.there) in
      rw (p.cut, p.behind, ← n, ← k) (first_part c s p.some)

  pub part_long : 1 + length left ≤ length s
  part_long = omega (arith, p.some, ap length p.behind, length-drop (p.end + 1) s)

-- ---- what is left to write: these from here on give what all of them give from the start
pub record Left (all before rest : List ℕ) (n : ℕ) (now : List ℕ) : Type 0 where
  pub count_left : n + length rest ≡ length all
  pub write_left : sets now n rest ≡ sets before 0 all

module _ {all before rest : List ℕ} {n : ℕ} {now : List ℕ} (l : Left all before rest n now) where
  pub left_one : (x : ℕ) (later : List ℕ) → rest ≡ x ∷ later → Left all before later (n + 1) (set now n x)
  left_one x later e =
      record {
        count_left = omega (arith, l.count_left, ap length e);
        write_left = rw (add-one n) (rw e at l.write_left);
      }

  pub left_none : rest ≡ [] → n ≤ length before → Put all before n now
  left_none e h =
      let count : n ≡ length all = omega (arith, l.count_left, ap length e) in
      record {
        counted = count;
        fits = h;
        written = rw e at l.write_left ∙ sets-eq all before 0 (omega arith) ∙ rw (← count, zero-add n);
      }

-- ---- the words of a line
module _ (line before : List ℕ) (rest : List ℕ) (n : ℕ) (now : List ℕ) (l : Left (words_of line) before (words_of rest) n now) where
  pub words_turn : (part left : List ℕ) → Piece 32 rest part left → (w : ℕ) → w ≡ word_of part → Left (words_of line) before (words_of left) (n + 1) (set now n w)
  unfolding words_of
  words_turn part left p w read = left_one l w (words_of left) (rw (next_part 32 rest part left p, read))

  pub words_end : length rest ≡ 0 → n ≤ length before → Put (words_of line) before n now
  unfolding words_of parts
  words_end h m = left_none l (let e : rest ≡ [] = nil_from_length rest h in rw e) m

-- ---- the number of a line
pub number_read : (line before store : List ℕ) (n r : ℕ) → Put (words_of line) before n store → r ≡ first_met (store_tests (take n store)) → r ≡ number_of line
unfolding number_of
number_read line before store n r p e = e ∙ ap (λ l. first_met (store_tests l)) (rw p.written (take_at (words_of line) (drop n before) n (sym p.counted)))

pub number_small : (line : List ℕ) (r : ℕ) → r ≡ number_of line → r ≤ 3
unfolding number_of store_tests first_met
number_small line r e =
    let w = words_of line in
    let P : ℕ → Type 0 = λ n. n ≤ 3 in
    rw e
    (either P (ltb (length w) 16) (λ _. omega arith)
    (λ _. either P (not (sizes_read w)) (λ _. omega arith)
    (λ _. either P (not (laid_out w)) (λ _. omega arith)
    (λ _. either P (not (sound_words w)) (λ _. omega arith) (λ _. omega arith)))))

-- ---- the answers to all lines
module _ (input before : List ℕ) (rest : List ℕ) (k : ℕ) (now : List ℕ) (l : Left (answers input) before (answers rest) k now) where
  pub answers_turn : (part left : List ℕ) → Piece 10 rest part left → (r : ℕ) → r ≡ number_of part → Left (answers input) before (answers left) (k + 2) (set (set now k (48 + r)) (k + 1) 10)
  unfolding answers answer flat_map
  answers_turn part left p r read =
      let next : answers rest ≡ (48 + r) ∷ 10 ∷ answers left = rw (next_part 10 rest part left p, read) in
      let two : k + 1 + 1 ≡ k + 2 = omega arith in
      rw two at (left_one (left_one l (48 + r) (10 ∷ answers left) next) 10 (answers left) refl)

  pub answers_end : length rest ≡ 0 → k ≤ length before → Put (answers input) before k now
  unfolding answers parts flat_map
  answers_end h m = left_none l (let e : rest ≡ [] = nil_from_length rest h in rw e) m
