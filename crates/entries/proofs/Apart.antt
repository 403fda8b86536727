-- Keys tried against those behind them, by their flags and one by one, or sorted.
use Rattle.std.proofs.Common.{◌≡◌, ℕ, zero, suc, ◌+◌, ◌-◌, ◌<◌, ◌≤◌, Bool, true, false, not, List, [], ◌∷◌, eqb, ltb, length, get_or, set, take, drop, refl, sym, ◌∙◌, arith, true≢false, eqb-true, ltb-true, ltb-false, ne_eqb}
use Rattle.std.specs.List.{list_any, AllByRecursion, IsDistinct, IsAllAdjacentAnswer}
use Rattle.std.specs.List.Sorted.{IsPermutation, IsSorted, IsStrictlyIncreasing}
use Rattle.std.specs.Ordering.{nat_cmp}
use Rattle.std.proofs.Math.Bool.{and-true}
use Rattle.std.proofs.Math.ListN.{drop_of_length-le, length-drop}
use Rattle.std.proofs.Math.Seq.{take_all, get_or-set_same, get_or-set_other}
use Rattle.std.proofs.lemmas.Bool.{eqb-false}
use Rattle.std.proofs.lemmas.Bool.Decides.{nat_tests}
use Rattle.std.proofs.lemmas.List.Sorted.{IsNonDecreasingBy-from_sort, IsPermutation-sym}
use Rattle.std.proofs.lemmas.List.Kept.{AllPairs-from_increasing}
use Rattle.std.proofs.lemmas.Map.Keys.{IsDistinct-IsPermutation, IsDistinct-from_apart, IsStrictlyIncreasing-from_distinct}
use Rattle.rules.specs.Lists.{distinct}
use Rattle.rules.specs.laws.Places.{drop-before}
use Rattle.rules.specs.laws.All.{All, none, more, all_map}
use Rattle.rules.specs.laws.Lists.{Distinct, d_none, d_more, distinct-holds, distinct_test}
use Rattle.entries.specs.Apart.{flag_of, apart, Flagged, Says}
use Rattle.entries.specs.declared.Told.TheVariants.{Apart, Equal, Crowded}
use Rattle.entries.specs.Decided.{both_ways}

-- ---- one by one
pub not_among : (key : ℕ) (ks : List ℕ) → not (list_any (λ k. eqb k key) ks) ≡ apart key ks
unfolding apart
not_among key [] = refl
not_among key (k ∷ ks) =
    let later = not_among key ks in
    grind (arith, nat_tests)

-- ---- by flags
flag_unset : (flags : List Bool) {ks : List ℕ} (key : ℕ) → Flagged flags ks → get_or flags (flag_of key) false ≡ false → apart key ks ≡ true
unfolding apart
flag_unset flags key none off = refl
flag_unset flags key (more {x = k} on f) off =
    let later = flag_unset flags key f off in
    let differs : k ≡ key → ⊥ = λ e. true≢false (sym on ∙ rw e off) in
    grind (arith, nat_tests)

pub new_flag : (flags : List Bool) (ks : List ℕ) (key at : ℕ) → Flagged flags ks → at ≡ flag_of key → get_or flags at false ≡ false → not (get_or flags at false) ≡ apart key ks
new_flag flags ks key at f e off = rw off (sym (flag_unset flags key f (rw e at off)))

still_set : (flags : List Bool) (i j : ℕ) → i < length flags → get_or flags j false ≡ true → get_or (set flags i true) j false ≡ true
still_set flags i j l h = go (eqb j i) refl
  where
    go : (b : Bool) → eqb j i ≡ b → get_or (set flags i true) j false ≡ true
    go true e = rw (eqb-true j i e) (get_or-set_same flags i true false l)
    go false e = get_or-set_other flags i j true false (eqb-false j i e) ∙ h

-- ---- from the last key to the first: those from i on differ, and their flags are set
pub record Differing (keys : List ℕ) (flags : List Bool) (i : ℕ) : Type 0 where
  pub flagged : Flagged flags (drop i keys)
  pub so_far : distinct (drop i keys) ≡ true

pub none_tried : (keys : List ℕ) (flags : List Bool) → Differing keys flags (length keys)
unfolding distinct
none_tried keys flags = let e = drop_of_length-le keys {i = length keys} (omega arith) in record { flagged = rw e none; so_far = rw e }

distinct_dropped : {xs : List ℕ} (i : ℕ) → Distinct xs → Distinct (drop i xs)
distinct_dropped zero d = d
distinct_dropped (suc i) d_none = d_none
distinct_dropped (suc i) (d_more a d) = distinct_dropped i d

module _ {keys : List ℕ} {flags : List Bool} {i : ℕ} (d : Differing keys flags i) (some : 0 < i) (most : i ≤ length keys) {new : Bool}
    (tried : new ≡ apart (get_or keys (i - 1) 0) (take (length keys - (i - 1 + 1)) (drop (i - 1 + 1) keys))) where
  next : i - 1 + 1 ≡ i
  next = omega arith

  behind : drop (i - 1) keys ≡ get_or keys (i - 1) 0 ∷ drop i keys
  behind = drop-before keys i 0 some most

  here : distinct (drop (i - 1) keys) ≡ new
  unfolding distinct apart
  here =
      let all : take (length keys - i) (drop i keys) ≡ drop i keys = take_all _ (drop i keys) (rw length-drop (omega arith)) in
      rw (behind, d.so_far, tried, next, all) (and-true _)

  pub equal_later : new ≡ false → Says Equal (distinct keys)
  equal_later n =
      record {
        settled = λ q. both_ways false (distinct keys) (λ e. absurd (true≢false (sym e)))
            (λ e. sym n ∙ sym here ∙ distinct_test (distinct_dropped (i - 1) (distinct-holds keys e)));
      }

  pub one_more : {at : ℕ} → new ≡ true → at ≡ flag_of (get_or keys (i - 1) 0) → at < length flags → Differing keys (set flags at true) (i - 1)
  one_more {at} n e l =
      let own : get_or (set flags at true) (flag_of (get_or keys (i - 1) 0)) false ≡ true = rw (← e) (get_or-set_same flags at true false l) in
      record {
        flagged = rw behind (more own (all_map d.flagged λ k h. still_set flags at (flag_of k) l h));
        so_far = here ∙ n;
      }

pub all_apart : (keys : List ℕ) (flags : List Bool) → Differing keys flags 0 → Says Apart (distinct keys)
all_apart keys flags d = record { settled = λ q. sym d.so_far }

pub says_nothing : (b : Bool) → Says Crowded b
says_nothing b = record { settled = λ q. absurd (true≢false q) }

-- what is said
pub so_apart : {b : Bool} → Says Apart b → true ≡ b
so_apart s = s.settled refl

pub so_equal : {b : Bool} → Says Equal b → false ≡ b
so_equal s = s.settled refl

-- ---- sorted
differ_all : {x : ℕ} {xs : List ℕ} → All (λ y. y ≡ x → ⊥) xs → AllByRecursion (λ y. eqb x y ≡ false) xs
differ_all none = tt
differ_all (more {x = y} n h) = (ne_eqb _ y (λ q. n (sym q)), differ_all h)

all_differ : (x : ℕ) (xs : List ℕ) → AllByRecursion (λ y. eqb x y ≡ false) xs → All (λ y. y ≡ x → ⊥) xs
all_differ x [] d = none
all_differ x (y ∷ ys) d = more (λ q. eqb-false x y d.0 (sym q)) (all_differ x ys d.1)

distinct_then : {xs : List ℕ} → Distinct xs → IsDistinct eqb xs
unfolding IsDistinct
distinct_then d_none = tt
distinct_then (d_more h d) = (differ_all h, distinct_then d)

then_distinct : (xs : List ℕ) → IsDistinct eqb xs → Distinct xs
unfolding IsDistinct
then_distinct [] d = d_none
then_distinct (x ∷ xs) d = d_more (all_differ x xs d.0) (then_distinct xs d.1)

flips : (x y : ℕ) → eqb x y ≡ eqb y x
flips x y = grind (arith, nat_tests)

pub climbing : (xs ys : List ℕ) (r : Bool) → IsPermutation xs ys → IsSorted nat_cmp ys → IsAllAdjacentAnswer (λ x y b. b ≡ ltb x y) ys r → r ≡ distinct xs
climbing xs ys true p up a =
    let rise : IsStrictlyIncreasing ys = λ k h. ltb-true _ _ (sym (a k 0 h)) in
    let apart = IsDistinct-from_apart eqb ys (λ i j d h l. ne_eqb _ _ (λ q. omega (arith, AllPairs-from_increasing ys rise i j d h l))) in
    sym (distinct_test (then_distinct xs (IsDistinct-IsPermutation eqb flips ys xs (IsPermutation-sym xs ys p) apart)))
climbing xs ys false p up (k, h, f) =
    both_ways false (distinct xs) (λ e. absurd (true≢false (sym e)))
    (λ e.
    let apart = IsDistinct-IsPermutation eqb flips xs ys p (distinct_then (distinct-holds xs e)) in
    let rise = IsStrictlyIncreasing-from_distinct ys (IsNonDecreasingBy-from_sort (λ x. x) ys up) apart in
    absurd (omega (arith, rise k h, ltb-false _ _ (sym (f 0)))))
