-- Bytes cut into parts one by one: the first field of a line, and the first line of a text, with what is left behind it.
use Rattle.std.specs.Prelude.{ℕ, suc, ◌+◌, ◌-◌, ◌≤◌, ◌<◌, ◌≡◌, refl, Bool, true, false, cond, List, [], ◌∷◌, eqb, length, take, drop}
use Rattle.std.proofs.Common.{arith, ◌∙◌, ap, length-drop, drop_of_length-le, drop-drop, take_all, eqb-true}
use Rattle.std.proofs.lemmas.Bool.{eqb-false}
use Rattle.rules.specs.Lists.{first}
use Rattle.text.specs.Reading.{onto, parts, newline, space, lines, fields}
use Rattle.text.specs.Promised.{Until}

-- ---- the first part, up to the first b
first_part : (b : ℕ) (last : List (List ℕ)) (xs : List ℕ) → first (λ x. eqb x b) xs < length xs
    → parts b last xs ≡ take (first (λ x. eqb x b) xs) xs ∷ parts b last (drop (suc (first (λ x. eqb x b) xs)) xs)
unfolding first parts onto
first_part b last [] h = absurd (omega arith)
first_part b last (x ∷ xs) h = go (eqb x b) (first_part b last xs) h
  where
    go : (t : Bool) → (first (λ x. eqb x b) xs < length xs → parts b last xs ≡ take (first (λ x. eqb x b) xs) xs ∷ parts b last (drop (suc (first (λ x. eqb x b) xs)) xs))
        → cond t 0 (suc (first (λ x. eqb x b) xs)) < suc (length xs)
        → cond t ([] ∷ parts b last xs) (onto x (parts b last xs)) ≡ take (cond t 0 (suc (first (λ x. eqb x b) xs))) (x ∷ xs) ∷ parts b last (drop (suc (cond t 0 (suc (first (λ x. eqb x b) xs)))) (x ∷ xs))
    go true later k = refl
    go false later k = rw (later (omega arith))

-- without b there is one part
only_field : (b : ℕ) (xs : List ℕ) → length xs ≤ first (λ x. eqb x b) xs → parts b ([] ∷ []) xs ≡ xs ∷ []
unfolding first parts onto
only_field b [] h = refl
only_field b (x ∷ xs) h = go (eqb x b) (only_field b xs) h
  where
    go : (t : Bool) → (length xs ≤ first (λ x. eqb x b) xs → parts b ([] ∷ []) xs ≡ xs ∷ []) → suc (length xs) ≤ cond t 0 (suc (first (λ x. eqb x b) xs))
        → cond t ([] ∷ parts b ([] ∷ []) xs) (onto x (parts b ([] ∷ []) xs)) ≡ (x ∷ xs) ∷ []
    go true later k = absurd (omega arith)
    go false later k = rw (later (omega arith))

only_line : (b : ℕ) (xs : List ℕ) → 0 < length xs → length xs ≤ first (λ x. eqb x b) xs → parts b [] xs ≡ xs ∷ []
unfolding first parts onto
only_line b [] some h = absurd (omega arith)
only_line b (x ∷ []) some h = go (eqb x b) h
  where
    go : (t : Bool) → 1 ≤ cond t 0 1 → cond t ([] ∷ []) ((x ∷ []) ∷ []) ≡ (x ∷ []) ∷ []
    go true k = absurd (omega arith)
    go false k = refl
only_line b (x ∷ y ∷ ys) some h = go (eqb x b) (only_line b (y ∷ ys) (omega arith)) h
  where
    go : (t : Bool) → (suc (length ys) ≤ first (λ x. eqb x b) (y ∷ ys) → parts b [] (y ∷ ys) ≡ (y ∷ ys) ∷ []) → suc (suc (length ys)) ≤ cond t 0 (suc (first (λ x. eqb x b) (y ∷ ys)))
        → cond t ([] ∷ parts b [] (y ∷ ys)) (onto x (parts b [] (y ∷ ys))) ≡ (x ∷ y ∷ ys) ∷ []
    go true later k = absurd (omega arith)
    go false later k = rw (later (omega arith))

module _ (text : List ℕ) (at b e : ℕ) (u : Until text at b e) where
  abbrev here : List ℕ
  here = take (e - at) (drop at text)

  place : first (λ x. eqb x b) (drop at text) ≡ e - at
  place = omega (arith, u.there)

  next : drop (suc (e - at)) (drop at text) ≡ drop (e + 1) text
  next = let z : at + suc (e - at) ≡ e + 1 = omega (arith, u.behind) in drop-drop (suc (e - at)) at text ∙ ap (λ n. drop n text) z

  more_parts : (last : List (List ℕ)) → (e ≡ length text → ⊥) → parts b last (drop at text) ≡ here ∷ parts b last (drop (e + 1) text)
  more_parts last h =
      let l : e - at < length (drop at text) = simp length-drop (omega (arith, u.inside, u.behind, h)) in
      rw (place, next) at (first_part b last (drop at text) (rw place l))

module _ (line : List ℕ) (at e : ℕ) (u : Until line at space e) where
  pub more_fields : (e ≡ length line → ⊥) → fields (drop at line) ≡ here line at space e u ∷ fields (drop (e + 1) line)
  more_fields h = more_parts line at space e u ([] ∷ []) h

  pub last_field : e ≡ length line → fields (drop at line) ≡ here line at space e u ∷ []
  last_field h =
      let l : length (drop at line) ≡ e - at = simp length-drop (omega arith) in
      let k : length (drop at line) ≤ first (λ x. eqb x space) (drop at line) = omega (arith, place line at space e u) in
      rw (take_all (e - at) (drop at line) (omega arith)) (only_field space (drop at line) k)

pub next_line : (text : List ℕ) (at e : ℕ) (u : Until text at newline e) → at < length text → lines (drop at text) ≡ here text at newline e u ∷ lines (drop (e + 1) text)
unfolding parts
next_line text at e u h = go (eqb e (length text)) refl
  where
    go : (t : Bool) → eqb e (length text) ≡ t → lines (drop at text) ≡ here text at newline e u ∷ lines (drop (e + 1) text)
    go true q =
        let z = eqb-true e (length text) q in
        let l : length (drop at text) ≡ e - at = simp length-drop (omega arith) in
        let k : length (drop at text) ≤ first (λ x. eqb x newline) (drop at text) = omega (arith, place text at newline e u) in
        let d : drop (e + 1) text ≡ [] = drop_of_length-le text {i = e + 1} (omega arith) in
        rw (take_all (e - at) (drop at text) (omega arith), d) (only_line newline (drop at text) (omega arith) k)
    go false q = more_parts text at newline e u [] (eqb-false _ _ q)
