-- Reading a line field by field. Assumes nothing.
use Rattle.std.specs.Prelude.{ℕ, suc, ◌+◌, ◌-◌, ◌≤◌, ◌<◌, ◌≡◌, refl, Bool, true, false, ◌&&◌, not, cond, Option, Some, None, MatchOption, List, [], ◌∷◌, ◌++◌, eqb, length, get_or, take, set}
use Rattle.std.proofs.Common.{arith, Bor, sym, ap, subst, ◌∙◌}
use Rattle.std.proofs.lemmas.Bool.{ne_eqb}
use Rattle.std.proofs.lemmas.Grind.{common_steps}
use Rattle.std.proofs.lemmas.Fn.{always_returns_same}
use Rattle.std.proofs.lemmas.List.Splits.{slice_split_none, slice_split_at}
use Rattle.std.proofs.Math.Bool.{and-false}
use Rattle.std.specs.Bool.{MatchBool}
use Rattle.std.specs.Fn.{ComputesKey, CalledAt}
use Rattle.std.specs.List.{All, slice_split, onto_first, IsFirstMatchOrLen}
use Rattle.std.specs.Option.{is_some}
use Rattle.std.specs.Slice.Iter.{split_steps, split_rest, split_done, split_callee}
use Rattle.std.specs.declared.slice.Split.{Split}
use denote.Param.Members.{Mut}
use lib.Dec.{eqb-suc-suc}
use Rattle.rules.specs.Lists.{every, all_of}
use Rattle.text.specs.Reading.{onto, parts, fields, is_decimal, value, number_in, all_decimals, in_form, words_before, words_read}
use Rattle.text.specs.Laid.{Laid, Partly, none_yet, one_more, all_laid, one_laid, laid_length}
use Rattle.text.specs.Promised.{LineRead}

-- ---- the fields of a line are the parts that std's split gives
abbrev pub split_left : {F : Type 0} → Split ℕ F → List (List ℕ)
split_left s = cond (split_done s) [] (slice_split (λ b. eqb b 32) (split_rest s))

pub fields_split : (line : List ℕ) → fields line ≡ slice_split (λ b. eqb b 32) line
unfolding parts onto
fields_split [] = refl
fields_split (b ∷ bs) = ap (λ ps. cond (eqb b 32) ([] ∷ ps) (onto b ps)) (fields_split bs) ∙ ap (cond (eqb b 32) ([] ∷ slice_split (λ b. eqb b 32) bs)) (same (slice_split (λ b. eqb b 32) bs))
  where
    same : (ps : List (List ℕ)) → onto b ps ≡ onto_first b ps
    same [] = refl
    same (p ∷ ps) = refl

next_part : (p : ℕ → Bool) (xs x rest : List ℕ) (done : Bool) → MatchBool done (xs ≡ x) ((y : ℕ) × (xs ≡ x ++ (y ∷ rest))) → IsFirstMatchOrLen p xs (length x) → slice_split p xs ≡ x ∷ cond done [] (slice_split p rest)
next_part p xs x rest true e h = ap (slice_split p) e ∙ slice_split_none p x (λ k d l. subst (λ ys. p (get_or ys k d) ≡ false) e (h.0 k d (omega arith) l))
next_part p xs x rest false e h =
    let front : All (λ z. p z ≡ false) x = λ k d l. let a = h.0 k d (omega arith) l in let b = e.1 in grind (arith, common_steps) in
    let hit : p e.0 ≡ true = let b = e.1 in let a = h.1 (grind (arith, common_steps)) e.0 in grind (arith, common_steps) in
    ap (slice_split p) e.1 ∙ slice_split_at p x e.0 rest front hit

-- what a call of `next` gives
pub next_field : {F : Type 0} (g : Mut F (Bor ℕ × Unit {0}) Bool) (s t : Split ℕ F) (r : Option (Bor (List ℕ))) → split_steps g s r t
    → ((x : ℕ) (b : Bool) (q : F) → CalledAt g (split_callee s) x b q → (q ≡ split_callee s) × (b ≡ eqb x 32)) → MatchOption r (split_left s ≡ []) (λ x. split_left s ≡ x.now ∷ split_left t)
next_field g s t None k tests = ap (λ d. cond d [] (slice_split (λ b. eqb b 32) (split_rest s))) k.0
next_field g s t (Some x) k tests =
    let key : ComputesKey g (λ b. eqb b 32) (split_callee s) =
    always_returns_same g (λ a r. r ≡ eqb a.0.now 32) (split_callee s) (λ a r q c. let m = tests a.0.now r q (record { shown = a.0; shows = refl; called = c }) in (m.1, m.0)) in
    ap (λ d. cond d [] (slice_split (λ b. eqb b 32) (split_rest s))) k.0 ∙ next_part (λ b. eqb b 32) (split_rest s) x.now (split_rest t) (split_done t) k.1 (k.2 (λ b. eqb b 32) key).1

-- ---- a line of n decimals: its first field, and the others
form_on : (n : ℕ) (f : List ℕ) (fs : List (List ℕ)) → all_decimals (suc n) (f ∷ fs) ≡ (is_decimal f && all_decimals n fs)
unfolding all_decimals all_of
form_on n f fs = go (is_decimal f)
  where
    go : (t : Bool) → (eqb (suc (length fs)) (suc n) && ((t && every is_decimal fs) && true)) ≡ (t && (eqb (length fs) n && (every is_decimal fs && true)))
    go true = rw (eqb-suc-suc (length fs) n)
    go false = and-false (eqb (suc (length fs)) (suc n))

-- what a field's answer says
value_told : (v : ℕ) (f : List ℕ) → Some v ≡ number_in f → (is_decimal f ≡ true) × (v ≡ value f)
unfolding number_in
value_told v f e = go (is_decimal f) e
  where
    go : (t : Bool) → Some v ≡ cond t (Some (value f)) None → (t ≡ true) × (v ≡ value f)
    go true q = (refl, cc)
    go false q = absurd (cc)

bad_told : (f : List ℕ) → None ≡ number_in f → is_decimal f ≡ false
unfolding number_in
bad_told f e = go (is_decimal f) e
  where
    go : (t : Bool) → None ≡ cond t (Some (value f)) None → t ≡ false
    go true q = absurd (cc)
    go false q = refl

-- ---- the fields that are left, from the word at i on
pub record Scanning (line out now : List ℕ) (left : List (List ℕ)) (i : ℕ) : Type 0 where
  pub decides : all_decimals (length out - i) left ≡ in_form (length out) line
  pub written : Partly out 0 (words_read (length out) line) now i (words_before (take (length out - i) left))

pub scanning_all : (line out : List ℕ) → Scanning line out out (slice_split (λ b. eqb b 32) line) 0
unfolding in_form words_read
scanning_all line out =
    let z : length out - 0 ≡ length out = omega arith in
    rw (← fields_split line) (record { decides = rw z; written = rw z (none_yet out 0 (words_read (length out) line) (omega arith)) })

line_read : (line out : List ℕ) (r : Bool) (now : List ℕ) (to : ℕ) → r ≡ in_form (length out) line → Laid out 0 (words_read (length out) line) now to → LineRead line out r now
line_read line out r now to s l =
    let z : to ≡ length (words_read (length out) line) = omega (arith, l.ends) in
    record { said = s; read = rw (← z) l }

module _ (line out now : List ℕ) (left : List (List ℕ)) (i : ℕ) (s : Scanning line out now left i) where
  -- all words are read: the line is in form if no field is left
  pub full : length out ≤ i → (r : Option (Bor (List ℕ))) (ts : List (List ℕ)) → MatchOption r (left ≡ []) (λ x. left ≡ x.now ∷ ts) → (b : Bool) → is_some r ≡ not b → LineRead line out b now
  unfolding words_before all_decimals all_of
  full h None ts q true e =
      let z : length out - i ≡ 0 = omega arith in
      line_read line out true now i (rw (z, q) at s.decides) (all_laid s.written (rw z))
  full h (Some x) ts q false e =
      let z : length out - i ≡ 0 = omega arith in
      let n : eqb (suc (length ts)) 0 ≡ false = ne_eqb (suc (length ts)) 0 (λ q. omega arith) in
      line_read line out false now i (rw (z, q, n) at s.decides) (all_laid s.written (rw z))
  full h None ts q false e = absurd (cc)
  full h (Some x) ts q true e = absurd (cc)

  module _ (inside : i < length out) where
    fewer : length out - i ≡ suc (length out - (i + 1))
    fewer = omega arith

    -- the next field is read, if there is one
    module _ (r : Option (Bor (List ℕ))) (ts : List (List ℕ)) (next : MatchOption r (left ≡ []) (λ x. left ≡ x.now ∷ ts)) (a : Option ℕ) (read : MatchOption r (a ≡ None) (λ x. a ≡ number_in x.now)) where
      pub stops : a ≡ None → LineRead line out false now
      unfolding words_before all_decimals all_of
      stops e = go r next read
        where
          go : (r : Option (Bor (List ℕ))) → MatchOption r (left ≡ []) (λ x. left ≡ x.now ∷ ts) → MatchOption r (a ≡ None) (λ x. a ≡ number_in x.now) → LineRead line out false now
          go None q b =
              let n : eqb 0 (suc (length out - (i + 1))) ≡ false = ne_eqb 0 (suc (length out - (i + 1))) (λ q. omega arith) in
              line_read line out false now i (rw (fewer, q, n) at s.decides) (all_laid s.written (rw (fewer, q)))
          go (Some x) q b =
              let d = bad_told x.now (sym e ∙ b) in
              line_read line out false now i (sym (sym s.decides ∙ rw (fewer, q) (form_on (length out - (i + 1)) x.now ts ∙ rw d))) (all_laid s.written (rw (fewer, q, d)))

      pub goes_on : (v : ℕ) → a ≡ Some v → Scanning line out (set now i v) ts (i + 1)
      unfolding words_before
      goes_on v e = go r next read
        where
          go : (r : Option (Bor (List ℕ))) → MatchOption r (left ≡ []) (λ x. left ≡ x.now ∷ ts) → MatchOption r (a ≡ None) (λ x. a ≡ number_in x.now) → Scanning line out (set now i v) ts (i + 1)
          go None q b = absurd (cc)
          go (Some x) q b =
              let t = value_told v x.now (sym e ∙ b) in
              record {
                decides = sym (rw (fewer, q) (form_on (length out - (i + 1)) x.now ts ∙ rw t.0)) ∙ s.decides;
                written = one_more s.written (one_laid now i v (omega (arith, laid_length s.written.laid))) (rw (fewer, q, t.0, t.1));
              }
