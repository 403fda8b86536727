-- Laws of the memo: slots in ascending train, what a look-up finds in them, and what noting, lowering and inspecting change.
use Rattle.std.specs.Prelude.{ℕ, zero, suc, ◌<◌, ◌≤◌, ◌-◌, ◌≡◌, ◌&&◌, Bool, not, eqb, ltb, leb, set, length, get_or, replicate, take}
use Rattle.std.proofs.Common.{arith, ◌∙◌, take-suc, length-set}
use Rattle.std.proofs.Math.Path.{refl, ap, sym}
use Rattle.std.proofs.Math.Bool.{true, false, cond}
use mathlib.Core.List.Memᴰ
use mathlib.Core.List.{List, [], ◌∷◌, ◌++◌, map, append-nil}
use Rattle.std.proofs.lemmas.List.{set-append_left}
use borrow.Author.Tests.{ne_eqb, eqb-true, eqb-false, ltb-true, ltb-false, lt-ltb, le-ltb, eq-eqb, leb-false}
use Rattle.rules.specs.declared.Train.{Train}
use Rattle.rules.specs.declared.Stamp.{Stamp}
use Rattle.rules.specs.declared.Entry.{Entry}
use Rattle.rules.specs.declared.Slot.{Slot}
use Rattle.rules.specs.declared.LookUp.{LookUp}
use Rattle.rules.specs.declared.LookUp.TheVariants.{Absent, Found}
use Rattle.rules.specs.Lists.{without, keep, put_if}
use Rattle.rules.specs.Store.{Store, limit, train_of}
use Rattle.rules.specs.Memo.{look_up, one_further, is_absent, latest_by, is_latest, slot_inserted, noted_by, noted, lowered_by, lowered, inspected}
use Rattle.rules.specs.Sound.{not_above}
use Rattle.rules.specs.Views.{HeaderInRange, MemoInRange, Rule6}
use Rattle.rules.specs.laws.Tests.{either}
use Rattle.rules.specs.laws.Kept.{keep_append}
use Rattle.rules.specs.laws.All.{All, none, more, all_unmapped, all_mapped, all_at, all_zip, all_map, Mem, all_member}
use Rattle.rules.specs.laws.Lists.{Ascending, a_none, a_more}
use Rattle.rules.specs.laws.Words.{no_slot, all_slots}

-- ---- slots in ascending train
pub data InOrder : List Slot → Type 0 where
  o_none : InOrder []
  o_more : {m : Slot} {ms : List Slot} → All (λ n. m.train.0 < n.train.0) ms → InOrder ms → InOrder (m ∷ ms)

first_below : {x : ℕ} {xs : List ℕ} → Ascending (x ∷ xs) → All (λ y. x < y) xs
first_below (a_more h a) = h

later : {x : ℕ} {xs : List ℕ} → Ascending (x ∷ xs) → Ascending xs
later (a_more h a) = a

pub in_order : (ms : List Slot) → Ascending (map (λ m. m.train.0) ms) → InOrder ms
in_order [] a = o_none
in_order (m ∷ ms) a = o_more (all_unmapped _ ms (first_below a)) (in_order ms (later a))

pub ascends : {ms : List Slot} → InOrder ms → Ascending (map (λ m. m.train.0) ms)
ascends o_none = a_none
ascends (o_more h o) = a_more (all_mapped _ h) (ascends o)

-- ---- a place of the memo; past the used slots there are unused ones
padded_at : {A : Type 0} (d : A) (n : ℕ) (xs : List A) (i : ℕ) → get_or (xs ++ replicate n d) i d ≡ get_or xs i d
padded_at d zero [] i = refl
padded_at d (suc n) [] zero = refl
padded_at d (suc n) [] (suc i) = padded_at d n [] i
padded_at d n (x ∷ xs) zero = refl
padded_at d n (x ∷ xs) (suc i) = padded_at d n xs i

pub slot-among : (k : ℕ) (ms : List Slot) (i : ℕ) → get_or (all_slots k ms) i no_slot ≡ get_or ms i no_slot
unfolding all_slots
slot-among k ms i = padded_at no_slot (k - length ms) ms i

pub set-among : (k : ℕ) (ms : List Slot) (i : ℕ) (s : Slot) → i < length ms → set (all_slots k ms) i s ≡ all_slots k (set ms i s)
unfolding all_slots
set-among k ms i s h = rw length-set (set-append_left ms (replicate (k - length ms) no_slot) i s h)

pub used_inside : (ms : List Slot) (i : ℕ) → ((get_or ms i no_slot).train.0 ≡ 0 → ⊥) → i < length ms
used_inside [] i h = absurd (h refl)
used_inside (m ∷ ms) zero h = omega arith
used_inside (m ∷ ms) (suc i) h = omega (arith, used_inside ms i h)

pub unused_past : {ms : List Slot} → All (λ m. 1 ≤ m.train.0) ms → (i : ℕ) → (get_or ms i no_slot).train.0 ≡ 0 → length ms ≤ i
unused_past none i h = omega arith
unused_past (more a b) zero h = absurd (omega arith)
unused_past (more a b) (suc i) h = omega (arith, unused_past b i h)

-- ---- the look-up
pub absent_before : (t : Train) {ms : List Slot} → All (λ m. t.0 < m.train.0) ms → look_up t ms ≡ Absent
unfolding look_up one_further
absent_before t none = refl
absent_before t (more {x = m} h a) = rw (ne_eqb m.train.0 t.0 (omega arith), absent_before t a)

-- the look-up among a slot and later ones
look_up-case : (P : LookUp → Type 0) (t : Train) (m : Slot) (ms : List Slot)
    → (m.train.0 ≡ t.0 → P (Found 0 m.latest m.old)) → ((m.train.0 ≡ t.0 → ⊥) → P (one_further (look_up t ms))) → P (look_up t (m ∷ ms))
unfolding look_up
look_up-case P t m ms here on = either P (eqb m.train.0 t.0) (λ e. here (eqb-true _ _ e)) (λ e. on (eqb-false _ _ e))

-- what an answer says: no slot is the train's, or the one at the place is
abbrev pub Says : Train → List Slot → LookUp → Type 0
Says t ms Absent = All (λ m. m.train.0 ≡ t.0 → ⊥) ms
Says t ms (Found place latest old) = (place < length ms) × (get_or ms place no_slot ≡ record { train = t; latest = latest; old = old })

says-further : (t : Train) (m : Slot) (ms : List Slot) (l : LookUp) → (m.train.0 ≡ t.0 → ⊥) → Says t ms l → Says t (m ∷ ms) (one_further l)
unfolding one_further
says-further t m ms Absent d a = more d a
says-further t m ms (Found place latest old) d h = (omega arith, h.1)

pub look_up-says : (t : Train) (ms : List Slot) → Says t ms (look_up t ms)
unfolding look_up
look_up-says t [] = none
look_up-says t (m ∷ ms) =
    look_up-case (Says t (m ∷ ms)) t m ms
    (λ e. (omega arith, λ i. record { train = record { 0 = e i }; latest = m.latest; old = m.old }))
    (λ d. says-further t m ms (look_up t ms) d (look_up-says t ms))

-- ---- a new slot at its ascending place
inserted-case : (P : List Slot → Type 0) (new m : Slot) (ms : List Slot)
    → (new.train.0 < m.train.0 → P (new ∷ m ∷ ms)) → (m.train.0 ≤ new.train.0 → P (m ∷ slot_inserted new ms)) → P (slot_inserted new (m ∷ ms))
unfolding slot_inserted
inserted-case P new m ms here on = either P (ltb new.train.0 m.train.0) (λ e. here (ltb-true _ _ e)) (λ e. on (ltb-false _ _ e))

pub inserted-length : (new : Slot) (ms : List Slot) → length (slot_inserted new ms) ≡ suc (length ms)
unfolding slot_inserted
inserted-length new [] = refl
inserted-length new (m ∷ ms) = inserted-case (λ l. length l ≡ suc (suc (length ms))) new m ms (λ h. refl) (λ h. ap suc (inserted-length new ms))

-- ---- slots inspected
-- one slot more, which stays or is freed
module _ (mark : Stamp) (ms : List Slot) (i : ℕ) (h : i < length ms) where
  pub one_stays : mark.0 ≤ (get_or ms i no_slot).latest.0 → inspected mark (take (suc i) ms) ≡ inspected mark (take i ms) ++ (get_or ms i no_slot ∷ [])
  unfolding inspected keep
  one_stays k = rw (take-suc ms i no_slot, keep_append, le-ltb (get_or ms i no_slot).latest.0 mark.0 k)

  pub one_freed : (get_or ms i no_slot).latest.0 < mark.0 → inspected mark (take (suc i) ms) ≡ inspected mark (take i ms)
  unfolding inspected keep
  one_freed k = rw (take-suc ms i no_slot, keep_append, lt-ltb (get_or ms i no_slot).latest.0 mark.0 k) (append-nil (inspected mark (take i ms)))

-- ---- what is noted of a train, whatever the place of its slot
unfoldable pub known : Train → List Slot → LookUp
known t [] = Absent
known t (m ∷ ms) = let later = known t ms in cond (eqb m.train.0 t.0) (Found 0 m.latest m.old) later

pub known_here : (t : Train) (m : Slot) (ms : List Slot) → m.train.0 ≡ t.0 → known t (m ∷ ms) ≡ Found 0 m.latest m.old
unfolding known
known_here t m ms e = rw (eq-eqb m.train.0 t.0 e)

pub known_on : (t : Train) (m : Slot) (ms : List Slot) → (m.train.0 ≡ t.0 → ⊥) → known t (m ∷ ms) ≡ known t ms
unfolding known
known_on t m ms d = rw (ne_eqb m.train.0 t.0 d)

pub known-case : (P : LookUp → Type 0) (t : Train) (m : Slot) (ms : List Slot)
    → (m.train.0 ≡ t.0 → P (Found 0 m.latest m.old)) → ((m.train.0 ≡ t.0 → ⊥) → P (known t ms)) → P (known t (m ∷ ms))
unfolding known
known-case P t m ms here on = either P (eqb m.train.0 t.0) (λ e. here (eqb-true _ _ e)) (λ e. on (eqb-false _ _ e))

pub known_none : (t : Train) {ms : List Slot} → All (λ m. t.0 < m.train.0) ms → known t ms ≡ Absent
unfolding known
known_none t none = refl
known_none t (more {x = m} {xs = ms} h a) = known_on t m ms (omega arith) ∙ known_none t a

-- what doesn't ask for the place finds the same in either
module _ {A : Type 0} (f : LookUp → A) (h : (p q : ℕ) (latest : Stamp) (old : ℕ) → f (Found p latest old) ≡ f (Found q latest old)) where
  same_further : (l : LookUp) → f (one_further l) ≡ f l
  unfolding one_further
  same_further Absent = refl
  same_further (Found place latest old) = h (suc place) place latest old

  pub known_same : (t : Train) (ms : List Slot) → f (look_up t ms) ≡ f (known t ms)
  unfolding look_up known
  known_same t [] = refl
  known_same t (m ∷ ms) =
      look_up-case (λ l. f l ≡ f (known t (m ∷ ms))) t m ms
      (λ e. ap f (sym (known_here t m ms e)))
      (λ d. same_further (look_up t ms) ∙ known_same t ms ∙ ap f (sym (known_on t m ms d)))

pub absent_known : (t : Train) (ms : List Slot) → is_absent (look_up t ms) ≡ is_absent (known t ms)
absent_known = known_same is_absent λ p q latest old. refl

pub latest_known : (ms : List Slot) (e : Entry) → is_latest ms e ≡ latest_by (known (train_of e) ms) e.stamp
unfolding is_latest latest_by
latest_known ms e = known_same (λ l. latest_by l e.stamp) (λ p q latest old. refl) (train_of e) ms

pub not_above-known : (s : Stamp) (t : Train) (ms : List Slot) → not_above (look_up t ms) s ≡ not_above (known t ms) s
unfolding not_above
not_above-known s = known_same (λ l. not_above l s) λ p q latest old. refl

-- a slot is what is noted of its train
pub known_member : {m : Slot} {ms : List Slot} → InOrder ms → Mem m ms → known m.train ms ≡ Found 0 m.latest m.old
known_member o_none k = elim k [ ]
known_member (o_more {m = n} {ms = ms} a o) (Memᴰ.head e) = rw e (known_here n.train n ms refl)
known_member {m = m} (o_more {m = n} {ms = ms} a o) (Memᴰ.tail k) =
    known_on m.train n ms (omega (arith, all_member a k)) ∙ known_member o k

-- ---- noted, lowered and inspected, slot by slot
-- the old count in an answer, where none counts as 0
abbrev pub old_in : LookUp → ℕ
old_in Absent = 0
old_in (Found place latest old) = old

abbrev pub slot : Train → Stamp → ℕ → Slot
slot t s n = record { train = t; latest = s; old = n }

module _ (P : List Slot → Type 0) (t : Train) where
  -- at the train's slot, before a later train's, or further on
  noted-further : (s : Stamp) (m : Slot) (ms : List Slot) (l : LookUp) → All (λ n. m.train.0 < n.train.0) ms → (m.train.0 ≡ t.0 → ⊥) → Says t ms l
      → (t.0 < m.train.0 → P (slot t s 1 ∷ m ∷ ms)) → (m.train.0 < t.0 → P (m ∷ noted_by l t s ms)) → P (noted_by (one_further l) t s (m ∷ ms))
  unfolding noted_by one_further
  noted-further s m ms Absent a d h before on = inserted-case P (slot t s 1) m ms before (λ k. on (omega arith))
  noted-further s m ms (Found place latest old) a d h before on = on (omega (arith, all_at a place no_slot h.0, ap (λ r. r.train.0) h.1))

  pub noted-case : (s : Stamp) (m : Slot) (ms : List Slot) → InOrder (m ∷ ms) → (m.train.0 ≡ t.0 → P (slot t s (suc m.old) ∷ ms))
      → (t.0 < m.train.0 → P (slot t s 1 ∷ m ∷ ms)) → (m.train.0 < t.0 → P (m ∷ noted t s ms)) → P (noted t s (m ∷ ms))
  unfolding noted noted_by
  noted-case s m ms (o_more a o) here before on =
      look_up-case (λ l. P (noted_by l t s (m ∷ ms))) t m ms here (λ d. noted-further s m ms (look_up t ms) a d (look_up-says t ms) before on)

  -- at the train's slot, freed or with a count one less, or further on
  lowered-further : (m : Slot) (ms : List Slot) (l : LookUp) → P (m ∷ lowered_by l t ms) → P (lowered_by (one_further l) t (m ∷ ms))
  unfolding lowered_by one_further without
  lowered-further m ms Absent h = h
  lowered-further m ms (Found place latest old) h = go (eqb (old - 1) 0) h
    where
      go : (b : Bool) → P (m ∷ cond b (without ms place) (set ms place (slot t latest (old - 1))))
          → P (cond b (without (m ∷ ms) (suc place)) (set (m ∷ ms) (suc place) (slot t latest (old - 1))))
      go true k = k
      go false k = k

  pub lowered-case : (m : Slot) (ms : List Slot) → (m.train.0 ≡ t.0 → m.old ≤ 1 → P ms)
      → (m.train.0 ≡ t.0 → 1 < m.old → P (slot t m.latest (m.old - 1) ∷ ms)) → ((m.train.0 ≡ t.0 → ⊥) → P (m ∷ lowered t ms)) → P (lowered t (m ∷ ms))
  unfolding lowered lowered_by without
  lowered-case m ms freed less on =
      look_up-case (λ l. P (lowered_by l t (m ∷ ms))) t m ms
      (λ e. either P (eqb (m.old - 1) 0) (λ z. freed e (omega (arith, eqb-true (m.old - 1) 0 z))) (λ z. less e (omega (arith, eqb-false (m.old - 1) 0 z))))
      (λ d. lowered-further m ms (look_up t ms) (on d))

-- stays or freed, and the later ones
pub inspected-case : (P : List Slot → Type 0) (mark : Stamp) (m : Slot) (ms : List Slot)
    → (mark.0 ≤ m.latest.0 → P (m ∷ inspected mark ms)) → (m.latest.0 < mark.0 → P (inspected mark ms)) → P (inspected mark (m ∷ ms))
unfolding inspected keep
inspected-case P mark m ms stays freed = go (ltb m.latest.0 mark.0) refl
  where
    go : (b : Bool) → ltb m.latest.0 mark.0 ≡ b → P (put_if (not b) m (inspected mark ms))
    go true e = freed (ltb-true _ _ e)
    go false e = stays (ltb-false _ _ e)

-- ---- what holds of every slot afterwards, by what held of every slot before
module _ {P Q : Slot → Type 0} (t : Train) (other : (m : Slot) → (m.train.0 ≡ t.0 → ⊥) → P m → Q m) where
  pub others : {n : ℕ} {ms : List Slot} → t.0 ≤ n → All (λ m. n < m.train.0) ms → All P ms → All Q ms
  others h a b = all_zip a b λ m l p. other m (omega arith) p

  pub all_noted : (s : Stamp) {ms : List Slot} → InOrder ms → All P ms → Q (slot t s (suc (old_in (known t ms)))) → All Q (noted t s ms)
  unfolding noted noted_by look_up slot_inserted
  all_noted s o_none none = λ q. more (rw (known_none t none) at q) none
  all_noted s (o_more {m = m} {ms = ms} a o) (more p b) =
      noted-case (λ l. Q (slot t s (suc (old_in (known t (m ∷ ms))))) → All Q l) t s m ms (o_more a o)
      (λ e q. more (rw (known_here t m ms e) at q) (others (omega arith) a b))
      (λ h q. more (rw (known_none t (more {x = m} h (all_map a λ n l. omega arith))) at q) (more (other m (omega arith) p) (others (omega arith) a b)))
      (λ h q. more (other m (omega arith) p) (all_noted s o b (rw (known_on t m ms (omega arith)) at q)))

-- ---- the slots stay in ascending train
pub noted_in_order : (t : Train) (s : Stamp) {ms : List Slot} → InOrder ms → InOrder (noted t s ms)
unfolding noted noted_by look_up slot_inserted
noted_in_order t s o_none = o_more none o_none
noted_in_order t s (o_more {m = m} {ms = ms} a o) =
    noted-case InOrder t s m ms (o_more a o)
    (λ e. o_more (all_map a λ n l. omega arith) o)
    (λ h. o_more (more h (all_map a λ n l. omega arith)) (o_more a o))
    (λ h. o_more (all_noted t (λ n d l. l) s o a h) (noted_in_order t s o))

-- ---- and there is room for them
noted-length : (k : ℕ) (t : Train) (s : Stamp) (ms : List Slot) (l : LookUp) → length ms ≤ k → (l ≡ Absent → length ms < k) → length (noted_by l t s ms) ≤ k
unfolding noted_by
noted-length k t s ms Absent h f = rw inserted-length (f refl)
noted-length k t s ms (Found place latest old) h f = rw length-set h

module _ (k : ℕ) {ms : List Slot} (r : MemoInRange k ms) where
  pub noted-in_range : (t : Train) (s : Stamp) → 1 ≤ t.0 → (look_up t ms ≡ Absent → length ms < k) → MemoInRange k (noted t s ms)
  unfolding noted
  noted-in_range t s h f =
      let o = in_order ms r.ascends in
      record {
        used_most = noted-length k t s ms (look_up t ms) r.used_most f;
        trains = all_noted t (λ m d l. l) s o r.trains h;
        ascends = ascends (noted_in_order t s o);
      }

-- ---- what is noted of the train, and of others, afterwards
-- a count one less, and nothing where none is left
unfoldable pub one_less : LookUp → LookUp
one_less Absent = Absent
one_less (Found place latest old) = cond (eqb (old - 1) 0) Absent (Found place latest (old - 1))

-- nothing where the stamp is below the mark
unfoldable pub unless_below : Stamp → LookUp → LookUp
unless_below mark Absent = Absent
unless_below mark (Found place latest old) = cond (ltb latest.0 mark.0) Absent (Found place latest old)

pub known-noted : (t : Train) (s : Stamp) {ms : List Slot} → InOrder ms → known t (noted t s ms) ≡ Found 0 s (suc (old_in (known t ms)))
unfolding noted noted_by look_up slot_inserted
known-noted t s o_none = rw (known_none t none) (known_here t (slot t s 1) [] refl)
known-noted t s (o_more {m = m} {ms = ms} a o) =
    noted-case (λ l. known t l ≡ Found 0 s (suc (old_in (known t (m ∷ ms))))) t s m ms (o_more a o)
    (λ e. rw (known_here t m ms e) (known_here t (slot t s (suc m.old)) ms refl))
    (λ h. rw (known_none t (more {x = m} h (all_map a λ n l. omega arith))) (known_here t (slot t s 1) (m ∷ ms) refl))
    (λ h. rw (known_on t m ms (omega arith)) (known_on t m (noted t s ms) (omega arith) ∙ known-noted t s o))

-- another train's slot stays
module _ (u t : Train) (d : u.0 ≡ t.0 → ⊥) where
  pub known_either : (m : Slot) (ls ms : List Slot) → known u ls ≡ known u ms → known u (m ∷ ls) ≡ known u (m ∷ ms)
  unfolding known
  known_either m ls ms h = rw h

  pub known-noted_other : (s : Stamp) {ms : List Slot} → InOrder ms → known u (noted t s ms) ≡ known u ms
  unfolding noted noted_by look_up slot_inserted
  known-noted_other s o_none = known_on u (slot t s 1) [] (omega arith)
  known-noted_other s (o_more {m = m} {ms = ms} a o) =
      noted-case (λ l. known u l ≡ known u (m ∷ ms)) t s m ms (o_more a o)
      (λ e. known_on u (slot t s (suc m.old)) ms (omega arith) ∙ sym (known_on u m ms (omega arith)))
      (λ h. known_on u (slot t s 1) (m ∷ ms) (omega arith))
      (λ h. known_either m (noted t s ms) ms (known-noted_other s o))

-- one less as often as an entry of the train goes
unfoldable pub times_less : ℕ → LookUp → LookUp
times_less zero l = l
times_less (suc n) l = times_less n (one_less l)

-- ---- what noting asks for: room where the train has no slot, and counts that may rise
pub room_for : (t : Train) (k : ℕ) (ms : List Slot) → (is_absent (look_up t ms) && leb k (length ms)) ≡ false → look_up t ms ≡ Absent → length ms < k
room_for t k ms f e = leb-false k (length ms) (rw e at f)

pub counts_may_rise : (s : Store) → Rule6 s → HeaderInRange s → All (λ m. m.old < limit) s.memo
counts_may_rise s r h = all_map r.slots λ m k. omega (arith, k.old_most, k.stamp_below, h.next_most)
