-- Words or bytes written into a lent slice at a place, in one piece or piece by piece.
use Rattle.std.specs.Prelude.{ℕ, ◌+◌, ◌-◌, ◌≤◌, ◌<◌, ◌≡◌, refl, List, [], ◌∷◌, ◌++◌, length, take, drop, set}
use Rattle.std.proofs.Common.{arith, add-one, sym, ◌∙◌, ap, append_assoc, append-nil, take-append-drop, length-append, length-drop, drop-drop, drop_at, length-take-le}
use Rattle.std.proofs.lemmas.List.{set_split, drop-append-le}
use borrow.Rule.Slice.PartMut.{put_mid}
use Rattle.rules.specs.laws.Splice.{splice, splice-length, splice_front}

-- `text` stands at `at` in a slice that held `out` and now holds `after`; `to` is the place behind it
pub record Laid (out : List ℕ) (at : ℕ) (text after : List ℕ) (to : ℕ) : Type 0 where
  pub room : at + length text ≤ length out
  pub written : after ≡ splice out at (length text) text
  pub ends : to ≡ at + length text

pub nothing_laid : (out : List ℕ) (at : ℕ) → at ≤ length out → Laid out at [] out at
nothing_laid out at h =
    let z : at + 0 ≡ at = omega arith in
    record { room = omega arith; written = rw z (sym (take-append-drop at out)); ends = sym z }

pub one_laid : (out : List ℕ) (at x : ℕ) → at < length out → Laid out at (x ∷ []) (set out at x) (at + 1)
one_laid out at x h = record { room = omega arith; written = rw add-one (set_split out at x h); ends = refl }

pub laid_length : {out : List ℕ} {at : ℕ} {text after : List ℕ} {to : ℕ} → Laid out at text after to → length after ≡ length out
laid_length {out} {at} {text} l = rw l.written (splice-length out at (length text) text refl l.room)

pub laid_to : {out : List ℕ} {at : ℕ} {text after : List ℕ} {to : ℕ} → Laid out at text after to → to ≤ length after
laid_to l = omega (arith, laid_length l, l.room, l.ends)

-- all up to there is a part that can be lent
pub whole_part : (out : List ℕ) (at : ℕ) (text after : List ℕ) (to : ℕ) → Laid out at text after to → length (take to after) ≡ to
whole_part out at text after to l = length-take-le to after (laid_to l)

-- ---- one piece behind another
module _ {out : List ℕ} {at : ℕ} {xs mid : List ℕ} {to : ℕ} (l : Laid out at xs mid to) where
  front : take to mid ≡ take at out ++ xs
  front = rw (l.written, l.ends) (splice_front out at (length xs) xs refl l.room)

  behind : drop to mid ≡ drop (at + length xs) out
  behind =
      let f = length-take-le at out (omega (arith, l.room)) in
      rw (l.written, l.ends, ← append_assoc) (drop_at (take at out ++ xs) (drop (at + length xs) out) (at + length xs) (simp length-append (omega arith)))

  pub both_laid : {ys after : List ℕ} {end : ℕ} → Laid mid to ys after end → Laid out at (xs ++ ys) after end
  both_laid {ys} {after} {end} m =
      let n : at + length (xs ++ ys) ≡ to + length ys = simp length-append (omega (arith, l.ends)) in
      let d : drop (to + length ys) mid ≡ drop (at + length (xs ++ ys)) out =
      sym (drop-drop (length ys) to mid) ∙ ap (drop (length ys)) behind ∙ drop-drop (length ys) (at + length xs) out ∙ ap (λ k. drop k out) (ap (λ k. k + length ys) (sym l.ends) ∙ sym n) in
      record {
        room = omega (arith, m.room, laid_length l);
        written = m.written ∙ rw (front, d) (simp append_assoc);
        ends = m.ends ∙ sym n;
      }

-- ---- a piece written into a lent part
pub lent_laid : (w : List ℕ) (a n : ℕ) → a + n ≤ length w → (text part : List ℕ) (to : ℕ) → Laid (take (a + n - a) (drop a w)) 0 text part to
    → Laid w a text (put_mid a (a + n - a) w part) (a + length text)
lent_laid w a n fits text part to l =
    let m = a + n - a in
    let v = drop a w in
    let t : length (take m v) ≡ m = length-take-le m v (simp length-drop (omega arith)) in
    let d : drop (length text) v ≡ drop (length text) (take m v) ++ drop m v =
    ap (drop (length text)) (sym (take-append-drop m v)) ∙ drop-append-le (length text) (take m v) (drop m v) (omega (arith, l.room)) in
    let z : 0 + length text ≡ length text = omega arith in
    let p : part ≡ text ++ drop (length text) (take m v) = l.written ∙ ap (λ k. text ++ drop k (take m v)) z in
    record {
      room = omega (arith, l.room);
      written = rw (p, append_assoc, ← d, drop-drop);
      ends = refl;
    }

-- ---- piece by piece: what is left of a text that is being written
pub record Partly (out : List ℕ) (at : ℕ) (text now : List ℕ) (to : ℕ) (rest : List ℕ) : Type 0 where
  pub done : List ℕ
  pub whole : done ++ rest ≡ text
  pub laid : Laid out at done now to

pub none_yet : (out : List ℕ) (at : ℕ) (text : List ℕ) → at ≤ length out → Partly out at text out at text
none_yet out at text h = record { done = []; whole = refl; laid = nothing_laid out at h }

pub one_more : {out : List ℕ} {at : ℕ} {text now : List ℕ} {to : ℕ} {rest : List ℕ} → Partly out at text now to rest
    → {piece after : List ℕ} {end : ℕ} {left : List ℕ} → Laid now to piece after end → rest ≡ piece ++ left → Partly out at text after end left
one_more {out} {at} {text} {now} {to} {rest} p {piece} {after} {end} {left} l e =
    record {
      done = p.done ++ piece;
      whole = append_assoc p.done piece left ∙ ap (λ z. p.done ++ z) (sym e) ∙ p.whole;
      laid = both_laid p.laid l;
    }

pub all_laid : {out : List ℕ} {at : ℕ} {text now : List ℕ} {to : ℕ} {rest : List ℕ} → Partly out at text now to rest → rest ≡ [] → Laid out at text now to
all_laid {out} {at} {text} {now} {to} {rest} p e =
    let w : p.done ≡ text = sym (append-nil p.done) ∙ ap (λ z. p.done ++ z) (sym e) ∙ p.whole in
    rw w at p.laid
