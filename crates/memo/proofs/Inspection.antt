-- Slots that stay moved to the front, and whether the last one is used.
use Prim.Native.Nat.{ℕ, zero, suc, ◌+◌, ◌-◌, ◌<◌, ◌≤◌}
use native.Mathlib.Omega.{arith}
use native.Mathlib.Numerals.{add-one}
use mathlib.Core.Path.{◌≡◌, refl, sym, ◌∙◌, ap}
use mathlib.Core.Bool.{Bool, true, false, not}
use mathlib.Core.List.{List, [], ◌∷◌, ◌++◌, append_assoc}
use lib.Dec.{eqb, leb}
use lib.ListN.{length, get_or, set, take, drop, replicate, length-append, length-replicate, replicate-append-replicate}
use lib.Seq.{drop-cons, set_at, get_or_at, take_all, drop_at}
use borrow.Author.Tests.{eqb-true, eqb-false, le-leb, lt-leb}
use Rattle.rules.specs.declared.Stamp.{Stamp}
use Rattle.rules.specs.declared.Slot.{Slot}
use Rattle.rules.specs.Lists.{keep}
use Rattle.rules.specs.Memo.{inspected}
use Rattle.rules.specs.Store.{memo_words}
use Rattle.rules.specs.laws.Words.{no_slot, all_slots}
use Rattle.rules.specs.laws.Memo.{used_inside, unused_past, one_stays, one_freed}
use Rattle.memo.specs.Slots.{room, table, slots_in, MemoWords, Inspected, slot_at, with_slot}
use Rattle.memo.specs.Laws.{memo_table, memo_slot}
use Rattle.memo.proofs.Words.{table-put, table-length, put_as_long, memo_written}

-- ---- the last slot tells whether all are used
module _ (m : List ℕ) (w : MemoWords m) (h : 1 ≤ room m) (s : Slot) (e : s ≡ slot_at m (room m - 1)) where
  last_train : (get_or (slots_in m) (room m - 1) no_slot).train.0 ≡ s.train.0
  last_train = ap (λ r. r.train.0) (sym (e ∙ memo_slot m w (room m - 1)))

  pub full_or_not : not (eqb s.train.0 0) ≡ leb (room m) (length (slots_in m))
  full_or_not = go (eqb s.train.0 0) refl
    where
      go : (b : Bool) → eqb s.train.0 0 ≡ b → not b ≡ leb (room m) (length (slots_in m))
      go true z =
          let past = unused_past w.in_range.trains (room m - 1) (last_train ∙ eqb-true _ _ z) in
          sym (lt-leb (room m) (length (slots_in m)) (omega arith))
      go false z =
          let inside = used_inside (slots_in m) (room m - 1) (λ u. eqb-false _ _ z (sym last_train ∙ u)) in
          sym (le-leb (room m) (length (slots_in m)) (omega arith))

-- ---- one slot after the other
-- those of the first i that stay
abbrev staying : Stamp → List ℕ → ℕ → List Slot
staying mark m i = inspected mark (take i (slots_in m))

-- up to place i: the slots that stay, unused ones for those that are freed, and the slots from i on
pub record Passed (m₀ m : List ℕ) (mark : Stamp) (kept i : ℕ) : Type 0 where
  pub same_length : length m ≡ length m₀
  pub within : i ≤ length (slots_in m₀)
  pub fewer : kept ≤ i
  pub counted : kept ≡ length (staying mark m₀ i)
  pub gathered : table m ≡ staying mark m₀ i ++ (replicate (i - kept) no_slot ++ drop i (table m₀))

pub passed_none : (m : List ℕ) (mark : Stamp) → Passed m m mark 0 0
unfolding inspected keep
passed_none m mark = record { same_length = refl; within = omega arith; fewer = omega arith; counted = refl; gathered = refl }

-- an unused slot may stand before or behind other unused ones
unused_between : (r : ℕ) (zs : List Slot) → replicate r no_slot ++ (no_slot ∷ zs) ≡ no_slot ∷ (replicate r no_slot ++ zs)
unused_between zero zs = refl
unused_between (suc r) zs = ap (λ l. no_slot ∷ l) (unused_between r zs)

module _ (stay : List Slot) (r : ℕ) (s : Slot) (zs : List Slot) (i : ℕ) (h : length stay + r ≡ i) where
  front_length : length (stay ++ replicate r no_slot) ≡ i
  front_length = rw (length-append, length-replicate) h

  taken-from : get_or (stay ++ (replicate r no_slot ++ (s ∷ zs))) i no_slot ≡ s
  taken-from = rw (← append_assoc) (get_or_at (stay ++ replicate r no_slot) s zs no_slot i front_length)

  taken_out : set (stay ++ (replicate r no_slot ++ (s ∷ zs))) i no_slot ≡ stay ++ (no_slot ∷ (replicate r no_slot ++ zs))
  taken_out =
      rw (← append_assoc) (set_at (stay ++ replicate r no_slot) s zs no_slot i front_length ∙ append_assoc stay (replicate r no_slot) _ ∙ ap (λ l. stay ++ l) (unused_between r zs))

module _ (m₀ m : List ℕ) (w : MemoWords m₀) (mark : Stamp) (kept i : ℕ) (p : Passed m₀ m mark kept i) where
  gap : length (staying mark m₀ i) + (i - kept) ≡ i
  gap = omega (arith, p.fewer, p.counted)

  -- ---- at an unused slot, or past all of them
  pub past_room : room m ≤ i → length (slots_in m₀) ≤ i
  past_room h = omega (arith, p.same_length, w.in_range.used_most)

  -- all slots that stay, where all were passed
  all_staying : length (slots_in m₀) ≤ i → staying mark m₀ i ≡ inspected mark (slots_in m₀)
  all_staying h = ap (inspected mark) (take_all i (slots_in m₀) h)

  freed_in_all : length (slots_in m₀) ≤ i → i - kept ≡ length (slots_in m₀) - length (inspected mark (slots_in m₀))
  freed_in_all h = omega (arith, p.counted, p.within, ap length (all_staying h))

  words_in_all : length (slots_in m₀) ≤ i → m ≡ memo_words (room m₀) (inspected mark (slots_in m₀))
  unfolding all_slots
  words_in_all h =
      let same = ap length (all_staying h) in
      let after : drop i (table m₀) ≡ replicate (room m₀ - length (slots_in m₀)) no_slot = rw (memo_table m₀ w) (drop_at (slots_in m₀) _ i (omega arith)) in
      let n : i - kept + (room m₀ - length (slots_in m₀)) ≡ room m₀ - length (inspected mark (slots_in m₀)) = omega (arith, w.in_range.used_most) in
      memo_written m₀ m w.whole p.same_length (inspected mark (slots_in m₀)) (omega (arith, w.in_range.used_most))
      (rw (p.gathered, all_staying h, after, replicate-append-replicate, n))

  pub inspected_all : length (slots_in m₀) ≤ i → (freed : ℕ) → freed ≡ i - kept → Inspected m₀ mark freed m
  inspected_all h freed e = record { words_left = words_in_all h; slots_freed = e ∙ freed_in_all h }

  -- ---- at a slot
  module _ (in-loop : i < room m) (s : Slot) (e : s ≡ slot_at m i) where
    from_here : drop i (table m₀) ≡ get_or (slots_in m₀) i no_slot ∷ drop (suc i) (table m₀)
    from_here = rw (← memo_slot m₀ w i) (drop-cons (table m₀) i no_slot (omega (arith, table-length m₀ w.whole, p.same_length)))

    the_slot : s ≡ get_or (slots_in m₀) i no_slot
    the_slot = e ∙ rw (p.gathered, from_here) (taken-from (staying mark m₀ i) (i - kept) _ _ i gap)

    pub past_used : s.train.0 ≡ 0 → length (slots_in m₀) ≤ i
    past_used u = unused_past w.in_range.trains i (sym (ap (λ r. r.train.0) the_slot) ∙ u)

    module _ (used : s.train.0 ≡ 0 → ⊥) (n : Slot) (m₁ : List ℕ) (none : n ≡ no_slot) (f : m₁ ≡ with_slot m i n) where
      inside : i < length (slots_in m₀)
      inside = used_inside (slots_in m₀) i λ u. used (ap (λ r. r.train.0) the_slot ∙ u)

      out : table m₁ ≡ staying mark m₀ i ++ (no_slot ∷ (replicate (i - kept) no_slot ++ drop (suc i) (table m₀)))
      out = rw (f, table-put, none, p.gathered, from_here) (taken_out (staying mark m₀ i) (i - kept) (get_or (slots_in m₀) i no_slot) (drop (suc i) (table m₀)) i gap)

      as_long : length m₁ ≡ length m₀
      as_long = put_as_long m₀ m w.whole p.same_length i n m₁ f

      pub freed_one : s.latest.0 < mark.0 → Passed m₀ m₁ mark kept (i + 1)
      freed_one h =
          let q : staying mark m₀ (i + 1) ≡ staying mark m₀ i = rw (add-one i) (one_freed mark (slots_in m₀) i inside (rw the_slot at h)) in
          let r : i + 1 - kept ≡ suc (i - kept) = omega (arith, p.fewer) in
          record {
            same_length = as_long;
            within = omega (arith, inside);
            fewer = omega (arith, p.fewer);
            counted = p.counted ∙ ap length (sym q);
            gathered = rw (q, r, add-one i) out;
          }

      pub kept_one : mark.0 ≤ s.latest.0 → (m₂ : List ℕ) → m₂ ≡ with_slot m₁ kept s → Passed m₀ m₂ mark (kept + 1) (i + 1)
      kept_one h m₂ g =
          let q : staying mark m₀ (i + 1) ≡ staying mark m₀ i ++ (s ∷ []) = rw (add-one i, the_slot) (one_stays mark (slots_in m₀) i inside (rw the_slot at h)) in
          let r : i + 1 - (kept + 1) ≡ i - kept = omega arith in
          record {
            same_length = put_as_long m₀ m₁ w.whole as_long kept s m₂ g;
            within = omega (arith, inside);
            fewer = omega (arith, p.fewer);
            counted = omega (arith, ap length q, length-append (staying mark m₀ i) (s ∷ []), p.counted);
            gathered = rw (g, table-put, out, q, r, add-one i, append_assoc) (set_at (staying mark m₀ i) no_slot _ s kept (sym p.counted));
          }
