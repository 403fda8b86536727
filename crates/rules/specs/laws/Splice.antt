-- A part of a list that is written anew, in the shape that a lent part leaves: `take a w ++ (ys ++ drop (a + n) w)`.
use Rattle.std.specs.Prelude.{ℕ, ◌+◌, ◌-◌, ◌≤◌, ◌<◌, ◌≡◌, refl, Bool, true, false, List, ◌++◌, length, take, drop, leb}
use Rattle.std.proofs.Common.{arith, sym, ap, ◌∙◌, append_assoc, length-append, length-drop, take-append-drop, length-take-le, take_at, drop_at, take-add, drop-drop, leb-true, leb-false}
use Rattle.std.proofs.Math.Nat.{add-sub_cancel_left}
use Rattle.std.proofs.lemmas.List.{take-append-le, drop-append-le}
use borrow.Rule.Slice.PartMut.{put_mid}

abbrev pub splice : {A : Type 0} → List A → ℕ → ℕ → List A → List A
splice w a n ys = take a w ++ (ys ++ drop (a + n) w)

-- what is lent as `&w[a..a + n]`
pub lent : {A : Type 0} (w : List A) (a n : ℕ) → take (a + n - a) (drop a w) ≡ take n (drop a w)
lent w a n = rw (add-sub_cancel_left a n)

-- what `&mut w[a..a + n]` leaves once ys stand in it
pub lent_back : {A : Type 0} (w : List A) (a n : ℕ) (ys : List A) → put_mid a (a + n - a) w ys ≡ splice w a n ys
lent_back w a n ys = rw (add-sub_cancel_left a n, drop-drop n a w)

-- a part that ends before what follows p
part_of_front : {A : Type 0} (p r : List A) (m k : ℕ) → m + k ≤ length p → take k (drop m (p ++ r)) ≡ take k (drop m p)
part_of_front p r m k h =
    rw (drop-append-le m p r (omega arith)) (take-append-le k (drop m p) r (simp length-drop (omega arith)))

module _ {A : Type 0} (w : List A) (a n : ℕ) (ys : List A) (long : length ys ≡ n) (fits : a + n ≤ length w) where
  front : length (take a w) ≡ a
  front = length-take-le a w (omega arith)

  pub splice-length : length (splice w a n ys) ≡ length w
  splice-length = let f = front in simp (length-append, length-drop) (omega arith)

  -- the part itself, and all up to its end
  pub splice_part : take n (drop a (splice w a n ys)) ≡ ys
  splice_part = rw (drop_at (take a w) (ys ++ drop (a + n) w) a front) (take_at ys (drop (a + n) w) n long)

  pub splice_front : take (a + n) (splice w a n ys) ≡ take a w ++ ys
  splice_front =
      let f = front in
      rw (← append_assoc) (take_at (take a w ++ ys) (drop (a + n) w) (a + n) (simp length-append (omega arith)))

  -- a part that ends before it or begins behind it stays
  splice-before : (m k : ℕ) → m + k ≤ a → take k (drop m (splice w a n ys)) ≡ take k (drop m w)
  splice-before m k h =
      let f = front in
      part_of_front (take a w) (ys ++ drop (a + n) w) m k (omega arith)
      ∙ sym (part_of_front (take a w) (drop a w) m k (omega arith))
      ∙ ap (λ l. take k (drop m l)) (take-append-drop a w)

  splice-rest : drop (a + n) (splice w a n ys) ≡ drop (a + n) w
  splice-rest =
      let f = front in
      rw (← append_assoc) (drop_at (take a w ++ ys) (drop (a + n) w) (a + n) (simp length-append (omega arith)))

  splice-behind : (m k : ℕ) → a + n ≤ m → take k (drop m (splice w a n ys)) ≡ take k (drop m w)
  splice-behind m k h =
      let e : a + n + (m - (a + n)) ≡ m = omega arith in
      rw (← e, ← drop-drop (m - (a + n)) (a + n) (splice w a n ys), splice-rest, drop-drop)

  pub splice-apart : (m k : ℕ) → (a < m + k → a + n ≤ m) → take k (drop m (splice w a n ys)) ≡ take k (drop m w)
  splice-apart m k apart = go (leb (m + k) a) refl
    where
      go : (b : Bool) → leb (m + k) a ≡ b → take k (drop m (splice w a n ys)) ≡ take k (drop m w)
      go true e = splice-before m k (leb-true _ _ e)
      go false e = splice-behind m k (apart (leb-false _ _ e))

  -- where w agrees with v up to the part, and the part is v's, they agree up to the part's end
  pub splice-agrees : (v : List A) → take a w ≡ take a v → ys ≡ take n (drop a v) → take (a + n) (splice w a n ys) ≡ take (a + n) v
  splice-agrees v before here = splice_front ∙ rw (before, here, take-add a n v)
