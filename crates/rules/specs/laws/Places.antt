-- Laws of places in a list: the parts that words are cut into, the first that passes a test, and all but one.
use Prim.Native.Nat.{ℕ, zero, suc, ◌+◌, ◌*◌, ◌-◌, ◌≤◌, ◌<◌}
use native.Mathlib.Omega.{arith}
use Rattle.std.proofs.Common.{mul-zero, mul-suc, not-suc-le-zero, le_of_suc-le-suc, ◌∙◌, drop_of_length-le, drop-cons, drop-drop, length-drop, take_all}
use Rattle.std.proofs.lemmas.List.{drop_all, set_at}
use Rattle.std.proofs.Math.Numerals.{add-one}
use Rattle.std.proofs.Math.Seq.{take-nil}
use Rattle.std.specs.Prelude.{◌≡◌, Bool, true, false, take, drop, get_or, set}
use Rattle.std.specs.List.{copy_within}
use Rattle.std.proofs.Math.Path.{refl, ap, sym}
use mathlib.Core.List.{List, [], ◌∷◌, ◌++◌, map}
use Rattle.std.proofs.Math.ListN.{length}
use Rattle.rules.specs.Lists.{cut, first, without}

-- ---- words cut into n parts of one size
pub cut-length : (n size : ℕ) (ws : List ℕ) → length (cut n size ws) ≡ n
cut-length zero size ws = refl
cut-length (suc n) size ws = ap suc (cut-length n size (drop size ws))

pub take-cut : (m n size : ℕ) (ws : List ℕ) → m ≤ n → take m (cut n size ws) ≡ cut m size ws
take-cut zero n size ws h = refl
take-cut (suc m) zero size ws h = absurd (not-suc-le-zero h)
take-cut (suc m) (suc n) size ws h = ap (λ r. take size ws ∷ r) (take-cut m n size (drop size ws) (le_of_suc-le-suc h))

-- what is read from part i
pub parts_at : {A : Type 0} (f : List ℕ → A) (n size : ℕ) (ws : List ℕ) (i : ℕ) (d : A) → i < n → get_or (map f (cut n size ws)) i d ≡ f (take size (drop (size * i) ws))
parts_at f zero size ws i d h = absurd (not-suc-le-zero h)
parts_at f (suc n) size ws zero d h = rw (mul-zero size)
parts_at f (suc n) size ws (suc i) d h =
    let e : size + size * i ≡ size * suc i = omega (arith, mul-suc size i) in
    parts_at f n size (drop size ws) i d (le_of_suc-le-suc h) ∙ rw (drop-drop, e)

-- ---- going down a list from its end
pub drop-before : {A : Type 0} (xs : List A) (j : ℕ) (d : A) → 0 < j → j ≤ length xs → drop (j - 1) xs ≡ get_or xs (j - 1) d ∷ drop j xs
drop-before xs j d h k =
    let e : suc (j - 1) ≡ j = omega arith in
    drop-cons xs (j - 1) d (omega arith) ∙ ap (λ n. get_or xs (j - 1) d ∷ drop n xs) e

-- what is found from place i on is found of the whole, once i is down to 0
pub from_first : {A B : Type 0} (f : List A → B) (xs : List A) (i : ℕ) (x : B) → i ≤ 0 → x ≡ f (drop i xs) → x ≡ f xs
from_first f xs i x h e = let z : i ≡ 0 = omega arith in rw z at e

-- ---- the first that passes, looked for from the front: it is not before place i
module _ {A : Type 0} (f : A → Bool) (xs : List A) (i : ℕ) (so_far : first f xs ≡ i + first f (drop i xs)) where
  pub first_here : (d : A) → i < length xs → f (get_or xs i d) ≡ true → first f xs ≡ i
  unfolding first
  first_here d h e = so_far ∙ rw (drop-cons xs i d h, e) (omega arith)

  pub first_later : (d : A) → i < length xs → f (get_or xs i d) ≡ false → first f xs ≡ i + 1 + first f (drop (i + 1) xs)
  unfolding first
  first_later d h e = so_far ∙ rw (drop-cons xs i d h, e, add-one i) (omega arith)

  pub first_nowhere : length xs ≤ i → first f xs ≡ i
  unfolding first
  first_nowhere h = so_far ∙ rw (drop_of_length-le xs h) (omega arith)

-- ---- all but the one at place i
module _ {A : Type 0} where
  pub without-length : (xs : List A) (i : ℕ) → i < length xs → length (without xs i) ≡ length xs - 1
  unfolding without
  without-length [] i h = absurd (not-suc-le-zero h)
  without-length (x ∷ xs) zero h = omega arith
  without-length (x ∷ xs) (suc i) h = let ih = without-length xs i (le_of_suc-le-suc h) in omega arith

  pub without_front : (xs ys : List A) (i : ℕ) → i < length xs → without (xs ++ ys) i ≡ without xs i ++ ys
  unfolding without
  without_front [] ys i h = absurd (not-suc-le-zero h)
  without_front (x ∷ xs) ys zero h = refl
  without_front (x ∷ xs) ys (suc i) h = ap (λ r. x ∷ r) (without_front xs ys i (le_of_suc-le-suc h))

  -- the gap may be moved on by one: the next element comes into its place
  gap_suc : (xs : List A) (i : ℕ) (d : A) → suc i < length xs → without (set xs i (get_or xs (suc i) d)) (suc i) ≡ without xs i
  unfolding without
  gap_suc [] i d h = absurd (not-suc-le-zero h)
  gap_suc (x ∷ []) i d h = absurd (not-suc-le-zero (le_of_suc-le-suc h))
  gap_suc (x ∷ y ∷ xs) zero d h = refl
  gap_suc (x ∷ y ∷ xs) (suc i) d h = ap (λ r. x ∷ r) (gap_suc (y ∷ xs) i d (le_of_suc-le-suc h))

  pub gap_moved : (xs : List A) (i : ℕ) (d : A) → i + 1 < length xs → without (set xs i (get_or xs (i + 1) d)) (i + 1) ≡ without xs i
  gap_moved xs i d h = rw (add-one i) (gap_suc xs i d (omega arith))

  -- at the end it is the last element, which another takes the place of
  pub gap_last : (xs : List A) (n : ℕ) (x : A) → length xs ≡ n + 1 → set xs n x ≡ without xs n ++ (x ∷ [])
  unfolding without
  gap_last [] n x e = absurd (omega arith)
  gap_last (y ∷ []) zero x e = refl
  gap_last (y ∷ z ∷ xs) zero x e = absurd (omega arith)
  gap_last (y ∷ xs) (suc n) x e = ap (λ r. y ∷ r) (gap_last xs n x (omega arith))

  -- or back by one: the element before comes into its place
  pub gap_back : (xs : List A) (j : ℕ) (d : A) → 0 < j → j < length xs → without (set xs j (get_or xs (j - 1) d)) (j - 1) ≡ without xs j
  unfolding without
  gap_back xs zero d h k = absurd (not-suc-le-zero h)
  gap_back xs (suc i) d h k = let e : suc i - 1 ≡ i = omega arith in rw e (go xs i k)
    where
      go : (xs : List A) (i : ℕ) → suc i < length xs → without (set xs (suc i) (get_or xs i d)) i ≡ without xs (suc i)
      go [] i h = absurd (not-suc-le-zero h)
      go (x ∷ []) i h = absurd (not-suc-le-zero (le_of_suc-le-suc h))
      go (x ∷ y ∷ xs) zero h = refl
      go (x ∷ y ∷ xs) (suc i) h = ap (λ r. x ∷ r) (go (y ∷ xs) i (le_of_suc-le-suc h))

  -- an element that comes into the gap stands between those before and behind it
  pub gap_filled : (xs : List A) (i : ℕ) (x : A) → i < length xs → set xs i x ≡ take i (without xs i) ++ (x ∷ drop i (without xs i))
  unfolding without
  gap_filled [] i x h = absurd (not-suc-le-zero h)
  gap_filled (y ∷ xs) zero x h = refl
  gap_filled (y ∷ xs) (suc i) x h = ap (λ r. y ∷ r) (gap_filled xs i x (le_of_suc-le-suc h))

  -- what is added at the end is no more than a gap there
  pub gap_added : (xs : List A) (x : A) → without (xs ++ (x ∷ [])) (length xs) ≡ xs
  unfolding without
  gap_added [] x = refl
  gap_added (y ∷ xs) x = ap (λ r. y ∷ r) (gap_added xs x)

  -- those before the gap and those behind it
  without_is : (xs : List A) (i : ℕ) → without xs i ≡ take i xs ++ drop (suc i) xs
  unfolding without
  without_is [] i = sym (ap (λ r. r ++ drop (suc i) []) (take-nil i))
  without_is (x ∷ xs) zero = refl
  without_is (x ∷ xs) (suc i) = ap (λ r. x ∷ r) (without_is xs i)

  -- a copy of those behind the gap closes it, and another element comes last
  pub gap_closed : (xs : List A) (n j i : ℕ) (d : A) → length xs ≡ n → n ≡ j + 1 → i < n → set (copy_within xs (i + 1) n i) j d ≡ without xs i ++ (d ∷ [])
  gap_closed xs n j i d long last h =
      let others : take (n - (i + 1)) (drop (i + 1) xs) ≡ drop (i + 1) xs = take_all _ _ (simp length-drop (omega arith)) in
      let end : i + (n - (i + 1)) ≡ j = omega arith in
      let one : drop j xs ≡ get_or xs j d ∷ [] = drop-cons xs j d (omega arith) ∙ ap (λ r. get_or xs j d ∷ r) (drop_all (suc j) xs (omega arith)) in
      let as_without : take i xs ++ drop (i + 1) xs ≡ without xs i = rw add-one (sym (without_is xs i)) in
      rw (others, end, one, as_without) (set_at (without xs i) (get_or xs j d) [] d j (omega (arith, without-length xs i (omega arith))))
