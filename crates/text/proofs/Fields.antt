-- Finding a byte, and what reading a field byte by byte comes to. Assumes nothing.
use Rattle.std.specs.Prelude.{ℕ, suc, ◌+◌, ◌*◌, ◌-◌, ◌≤◌, ◌<◌, ◌≡◌, refl, Bool, true, false, ◌&&◌, cond, Option, Some, None, List, [], ◌∷◌, eqb, leb, ltb, length, get_or, take, drop}
use Rattle.std.proofs.Common.{arith, add-one, sym, ap, ◌∙◌, length-drop, take_all, drop_of_length-le, drop-cons}
use Rattle.std.proofs.lemmas.Bool.{eqb-true, lt-ltb, ltb-false, le-leb, lt-leb}
use Rattle.std.proofs.Math.Bool.{and-true, and-false}
use Rattle.std.specs.List.{position, position_or_len}
use Rattle.std.specs.Option.{unwrap_or}
use Rattle.std.specs.Char.{is_ascii_digit}
use Rattle.std.proofs.lemmas.List.Sums.{prefix_len-le-length}
use Rattle.std.proofs.lemmas.List.Recursion.{is_position_or_len}
use Rattle.rules.specs.Lists.{first, every, all_of}
use Rattle.rules.specs.Store.{limit}
use Rattle.text.specs.Reading.{is_digit, value_from, value, is_decimal, number_in}
use Rattle.text.specs.Promised.{Until}

-- ---- the first that passes: the rules' word and std's
pub first_std : (f : ℕ → Bool) (xs : List ℕ) → first f xs ≡ position_or_len f xs
unfolding first
first_std f xs = is_position_or_len (first f) f refl (λ x ys. let e : suc (first f ys) ≡ 1 + first f ys = omega arith in ap (cond (f x) 0) e) xs

pub until_there : (text : List ℕ) (from b : ℕ) → from ≤ length text → (r : Option ℕ) → r ≡ position (λ x. eqb x b) (take (length text - from) (drop from text)) → Until text from b (from + unwrap_or r (length text - from))
until_there text from b low r e =
    rw (e, take_all (length text - from) (drop from text) (omega (arith, length-drop from text)), away _ refl) (record { there = ap (λ n. from + n) (sym (first_std (λ x. eqb x b) (drop from text))); behind = omega arith; inside = omega (arith, most, length-drop from text) })
  where
    n : ℕ
    n = position_or_len (λ x. eqb x b) (drop from text)

    most : n ≤ length (drop from text)
    most = prefix_len-le-length _ (drop from text)

    away : (t : Bool) → ltb n (length (drop from text)) ≡ t → unwrap_or (cond t (Some n) None) (length text - from) ≡ n
    away true s = refl
    away false s = omega (arith, ltb-false _ _ s, most, length-drop from text)

-- ---- a field: what is left of it from place i on, with the value so far
value_grows : (v : ℕ) (bs : List ℕ) → v ≤ value_from v bs
unfolding value_from
value_grows v [] = omega arith
value_grows v (b ∷ bs) = let h = value_grows (10 * v + (b - 48)) bs in omega arith

pub record Counting (field : List ℕ) (v i : ℕ) : Type 0 where
  pub small : v ≤ limit
  pub gives : value_from v (drop i field) ≡ value field
  pub decides : is_decimal field ≡ (every is_digit (drop i field) && leb (value field) limit)

pub empty_bad : (field : List ℕ) → true ≡ eqb (length field) 0 → None ≡ number_in field
unfolding number_in is_decimal all_of
empty_bad [] z = refl
empty_bad (b ∷ bs) z = absurd (omega (arith, eqb-true (length (b ∷ bs)) 0 (sym z)))

pub counting_none : (field : List ℕ) → false ≡ eqb (length field) 0 → Counting field 0 0
unfolding is_decimal all_of value
counting_none [] z = absurd (cc)
counting_none (b ∷ bs) z =
    let s : ltb 0 (length (b ∷ bs)) ≡ true = lt-ltb 0 (length (b ∷ bs)) (omega arith) in
    record { small = omega arith; gives = refl; decides = rw (s, and-true) }

no_number : (field : List ℕ) → is_decimal field ≡ false → None ≡ number_in field
unfolding number_in
no_number field e = rw e

pub whole_field : (field : List ℕ) (v i : ℕ) → Counting field v i → length field ≤ i → Some v ≡ number_in field
unfolding number_in value_from
whole_field field v i h l =
    let d : drop i field ≡ [] = drop_of_length-le field l in
    let g : v ≡ value field = rw d at h.gives in
    let t : leb (value field) limit ≡ true = le-leb _ _ (rw g at h.small) in
    let e : is_decimal field ≡ true = h.decides ∙ rw (d, t) in
    rw (e, g)

module _ (field : List ℕ) (v i : ℕ) (h : Counting field v i) (inside : i < length field) where
  abbrev b : ℕ
  b = get_or field i 0

  decides_here : is_decimal field ≡ ((is_digit b && every is_digit (drop (suc i) field)) && leb (value field) limit)
  decides_here = rw (drop-cons field i 0 inside) at h.decides

  pub no_digit : false ≡ is_ascii_digit b → None ≡ number_in field
  unfolding is_digit
  no_digit k = no_number field (decides_here ∙ rw (sym k))

  module _ (digit : true ≡ is_ascii_digit b) where
    decides_on : is_decimal field ≡ (every is_digit (drop (suc i) field) && leb (value field) limit)
    unfolding is_digit
    decides_on = decides_here ∙ rw (sym digit)

    gives_on : value_from (10 * v + (b - 48)) (drop (suc i) field) ≡ value field
    unfolding value_from
    gives_on = rw (drop-cons field i 0 inside) at h.gives

    pub too_large : limit < 10 * v + (b - 48) → None ≡ number_in field
    too_large k =
        let g = value_grows (10 * v + (b - 48)) (drop (suc i) field) in
        let t : leb (value field) limit ≡ false = lt-leb (value field) limit (omega (arith, gives_on)) in
        no_number field (decides_on ∙ rw t (and-false (every is_digit (drop (suc i) field))))

    pub counting_on : (w : ℕ) → w ≤ limit → w ≡ 10 * v + (b - 48) → Counting field w (i + 1)
    counting_on w k e = rw add-one (record { small = k; gives = rw (← e) at gives_on; decides = decides_on })
