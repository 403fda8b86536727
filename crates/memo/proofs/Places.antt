-- Where a train's slot is, or would be, and what the look-up finds there.
use Prim.Native.Nat.{ℕ, zero, suc, ◌<◌, ◌≤◌}
use native.Mathlib.Omega.{arith}
use mathlib.Core.Path.{◌≡◌, refl, ap, sym, ◌∙◌}
use mathlib.Core.List.{List, [], ◌∷◌}
use Rattle.std.proofs.Common.{Bool, true, false, not, ◌&&◌, map, inl, inr}
use Rattle.std.proofs.lemmas.Bool.{cases_lt, false≢true}
use Rattle.std.proofs.lemmas.Bool.Decides.{nat_tests}
use Rattle.std.proofs.lemmas.List.{get_or-map}
use Rattle.std.specs.List.Sorted.{IsPartitionedBy, IsPartitionPoint}
use lib.Dec.{eqb, leb, ltb}
use lib.ListN.{length, get_or}
use borrow.Author.Tests.{ne_eqb, eq-eqb, eqb-true, eqb-false, leb-true, leb-false, ltb-true, lt-ltb, le-ltb}
use Rattle.rules.specs.Lists.{cut}
use Rattle.rules.specs.Store.{slot_of}
use Rattle.rules.specs.laws.Places.{cut-length}
use Rattle.rules.specs.declared.Train.{Train}
use Rattle.rules.specs.declared.Slot.{Slot}
use Rattle.rules.specs.declared.LookUp.TheVariants.{Absent, Found}
use Rattle.rules.specs.Lists.{first}
use Rattle.rules.specs.Memo.{look_up, one_further}
use Rattle.rules.specs.laws.Tests.{either}
use Rattle.rules.specs.laws.All.{All, none, more, all_at, all_map}
use Rattle.rules.specs.laws.Memo.{InOrder, o_none, o_more, used_inside, absent_before, in_order}
use Rattle.rules.specs.laws.Words.{no_slot}
use Rattle.memo.specs.Laws.{memo_slot}
use Rattle.memo.specs.Slots.{place_for, room, table, MemoWords, slots_in, slot_at}

-- the place among a slot and later ones
pub place-case : (P : ℕ → Type 0) (t : Train) (m : Slot) (ms : List Slot)
    → (t.0 ≤ m.train.0 → P 0) → (m.train.0 < t.0 → P (suc (place_for t ms))) → P (place_for t (m ∷ ms))
unfolding place_for first
place-case P t m ms here on = either P (leb t.0 m.train.0) (λ e. here (leb-true _ _ e)) (λ e. on (leb-false _ _ e))

pub place-most : (t : Train) (ms : List Slot) → place_for t ms ≤ length ms
unfolding place_for first
place-most t [] = omega arith
place-most t (m ∷ ms) = place-case (λ p. p ≤ suc (length ms)) t m ms (λ h. omega arith) (λ h. omega (arith, place-most t ms))

-- ---- the place against a slot that was looked at
pub place_up_to : (t : Train) (ms : List Slot) (i : ℕ) → t.0 ≤ (get_or ms i no_slot).train.0 → place_for t ms ≤ i
unfolding place_for first
place_up_to t [] i h = omega arith
place_up_to t (m ∷ ms) zero h = place-case (λ p. p ≤ 0) t m ms (λ k. omega arith) (λ k. absurd (omega arith))
place_up_to t (m ∷ ms) (suc i) h = place-case (λ p. p ≤ suc i) t m ms (λ k. omega arith) (λ k. omega (arith, place_up_to t ms i h))

pub place_after : (t : Train) {ms : List Slot} → InOrder ms → (i : ℕ) → ((get_or ms i no_slot).train.0 ≡ 0 → ⊥)
    → (get_or ms i no_slot).train.0 < t.0 → i < place_for t ms
unfolding place_for first
place_after t o_none i u h = absurd (u refl)
place_after t (o_more {m = m} {ms = ms} a o) zero u h = place-case (λ p. 0 < p) t m ms (λ k. absurd (omega arith)) (λ k. omega arith)
place_after t (o_more {m = m} {ms = ms} a o) (suc i) u h =
    place-case (λ p. suc i < p) t m ms
    (λ k. absurd (omega (arith, all_at a i no_slot (used_inside ms i u))))
    (λ k. omega (arith, place_after t o i u h))

-- ---- what the look-up finds there
pub found_there : (t : Train) (ms : List Slot) → (t.0 ≡ 0 → ⊥) → (get_or ms (place_for t ms) no_slot).train.0 ≡ t.0
    → look_up t ms ≡ Found (place_for t ms) (get_or ms (place_for t ms) no_slot).latest (get_or ms (place_for t ms) no_slot).old
unfolding look_up one_further
found_there t [] u = λ h. absurd (u (omega arith))
found_there t (m ∷ ms) u =
    place-case (λ p. (get_or (m ∷ ms) p no_slot).train.0 ≡ t.0 → look_up t (m ∷ ms) ≡ Found p (get_or (m ∷ ms) p no_slot).latest (get_or (m ∷ ms) p no_slot).old) t m ms
    (λ k h. rw (eq-eqb m.train.0 t.0 h))
    (λ k h. rw (ne_eqb m.train.0 t.0 (omega arith), found_there t ms u h))

pub absent_there : (t : Train) {ms : List Slot} → InOrder ms → ((get_or ms (place_for t ms) no_slot).train.0 ≡ t.0 → ⊥) → look_up t ms ≡ Absent
unfolding look_up one_further
absent_there t o_none = λ h. refl
absent_there t (o_more {m = m} {ms = ms} a o) =
    place-case (λ p. ((get_or (m ∷ ms) p no_slot).train.0 ≡ t.0 → ⊥) → look_up t (m ∷ ms) ≡ Absent) t m ms
    (λ k h. absent_before t (more (omega arith) (all_map a λ n l. omega arith)))
    (λ k h. rw (ne_eqb m.train.0 t.0 (omega arith), absent_there t o h))

pub absent_past : (t : Train) {ms : List Slot} → All (λ m. 1 ≤ m.train.0) ms → (get_or ms (place_for t ms) no_slot).train.0 ≡ 0 → look_up t ms ≡ Absent
unfolding look_up one_further
absent_past t none = λ h. refl
absent_past t (more {x = m} {xs = ms} a b) =
    place-case (λ p. (get_or (m ∷ ms) p no_slot).train.0 ≡ 0 → look_up t (m ∷ ms) ≡ Absent) t m ms
    (λ k h. absurd (omega arith))
    (λ k h. rw (ne_eqb m.train.0 t.0 (omega arith), absent_past t b h))

-- the slots before the place have a smaller train
below_place : (t : Train) (ms : List Slot) (i : ℕ) → i < place_for t ms → (get_or ms i no_slot).train.0 < t.0
unfolding place_for first
below_place t [] i h = absurd (omega arith)
below_place t (m ∷ ms) zero h = place-case (λ p. 0 < p → m.train.0 < t.0) t m ms (λ k q. absurd (omega arith)) (λ k q. k) h
below_place t (m ∷ ms) (suc i) h =
    place-case (λ p. suc i < p → (get_or ms i no_slot).train.0 < t.0) t m ms (λ k q. absurd (omega arith)) (λ k q. below_place t ms i (omega arith)) h

-- ---- the search by halves, over the slots as their words
-- whether a slot is used, by a train below this one
abbrev pub before : Train → List ℕ → Bool
before t w = ltb 0 (get_or w 0 0) && ltb (get_or w 0 0) t.0

between_test : (x t : ℕ) → 1 ≤ x → x < t → (ltb 0 x && ltb x t) ≡ true
between_test x t u h = rw (lt-ltb 0 x u, lt-ltb x t h)

outside_test : (x t : ℕ) → ((x ≡ 0 → ⊥) → x < t → ⊥) → (ltb 0 x && ltb x t) ≡ false
outside_test x t h = grind (arith, nat_tests)

module _ (m : List ℕ) (t : Train) (w : MemoWords m) (cs : List (List ℕ)) (cut_so : cs ≡ cut (room m) 3 m) where
  as_many : length cs ≡ room m
  as_many = ap length cut_so ∙ cut-length (room m) 3 m

  its_train : (i : ℕ) (d : List ℕ) → i < length cs → get_or (get_or cs i d) 0 0 ≡ (get_or (slots_in m) i no_slot).train.0
  unfolding table slot_of
  its_train i d h = ap (λ s. s.train.0) (sym (get_or-map slot_of cs i d no_slot h) ∙ ap (λ l. get_or (map slot_of l) i no_slot) cut_so ∙ memo_slot m w i)

  -- the test tells whether the slot comes before the train's place
  test_is : (i : ℕ) (d : List ℕ) → i < length cs → before t (get_or cs i d) ≡ ltb i (place_for t (slots_in m))
  test_is i d h =
      let same = its_train i d h in
      let most = place-most t (slots_in m) in
      elim (cases_lt i (place_for t (slots_in m))) [
        | inl lt ↦
            rw (lt-ltb i (place_for t (slots_in m)) lt, same)
            (between_test _ t.0 (all_at w.in_range.trains i no_slot (omega arith)) (below_place t (slots_in m) i lt))
        | inr le ↦
            rw (le-ltb i (place_for t (slots_in m)) le, same)
            (outside_test _ t.0 (λ u k. let past = place_after t (in_order (slots_in m) w.in_range.ascends) i u k in omega arith))
      ]

  pub parted : IsPartitionedBy (before t) cs
  parted i j d h k e = test_is i d (omega arith) ∙ lt-ltb i _ (omega (arith, ltb-true j _ (sym (test_is j d k) ∙ e)))

  pub place_found : (r : ℕ) → r ≤ length cs → IsPartitionPoint (λ y. before t y ≡ true) (λ y. before t y ≡ false) cs r → r ≡ place_for t (slots_in m)
  place_found r h p =
      let q = place_for t (slots_in m) in
      let many = as_many in
      let most = place-most t (slots_in m) in
      elim (cases_lt r q) [
        | inl lt ↦ let inside : r < length cs = omega (arith, w.in_range.used_most) in
            absurd (false≢true (sym (p.1 r [] (omega arith) inside) ∙ test_is r [] inside ∙ lt-ltb r q lt))
        | inr le ↦ elim (cases_lt q r) [
          | inl lt ↦ absurd (false≢true (sym (test_is q [] (omega arith) ∙ le-ltb q q (omega arith)) ∙ p.0 q [] (omega arith) lt))
          | inr ge ↦ omega arith
        ]
      ]

-- ---- the slot at the place
not_swapped : (b c : Bool) → not b ≡ c → b ≡ not c
not_swapped true c e = ap not e
not_swapped false c e = ap not e

differs : (m n : ℕ) → not (eqb m n) ≡ true → m ≡ n → ⊥
differs m n e = eqb-false m n (not_swapped (eqb m n) true e)

agrees : (m n : ℕ) → not (eqb m n) ≡ false → m ≡ n
agrees m n e = eqb-true m n (not_swapped (eqb m n) false e)

module _ (m : List ℕ) (t : Train) (at : ℕ) (s : Slot) (w : MemoWords m) (p : at ≡ place_for t (slots_in m)) (e : s ≡ slot_at m at) where
  the_slot : get_or (slots_in m) (place_for t (slots_in m)) no_slot ≡ s
  the_slot = rw (← p) (sym (e ∙ memo_slot m w at))

  pub none_used : eqb s.train.0 0 ≡ true → Absent ≡ look_up t (slots_in m)
  none_used u = sym (absent_past t w.in_range.trains (ap (λ r. r.train.0) the_slot ∙ eqb-true s.train.0 0 u))

  pub another : not (eqb s.train.0 t.0) ≡ true → Absent ≡ look_up t (slots_in m)
  another d = sym (absent_there t (in_order (slots_in m) w.in_range.ascends) (λ q. differs s.train.0 t.0 d (sym (ap (λ r. r.train.0) the_slot) ∙ q)))

  pub its_own : eqb s.train.0 0 ≡ false → not (eqb s.train.0 t.0) ≡ false → Found at s.latest s.old ≡ look_up t (slots_in m)
  its_own u d =
      let same = agrees s.train.0 t.0 d in
      rw (p, ← the_slot) (sym (found_there t (slots_in m) (λ z. eqb-false s.train.0 0 u (same ∙ z)) (ap (λ r. r.train.0) the_slot ∙ same)))
