-- Counters: the one at a slot's place counts the obsolete entries of its train.
use Rattle.std.specs.Prelude.{ℕ, zero, suc, ◌≤◌, ◌<◌, ◌≡◌, Bool, None, Some, cond, ◌&&◌, List, [], ◌∷◌, length, get_or}
use Rattle.std.proofs.Common.{arith, not-suc-le-zero, le_of_suc-le-suc, sym, ◌∙◌}
use Rattle.std.proofs.Math.Path.{refl, ap}
use Rattle.std.proofs.Math.Bool.{true, false, not}
use Rattle.std.proofs.Math.Dec.{eqb}
use borrow.Author.Tests.{eqb-true, eqb-false, eq-eqb, ne_eqb}
use Rattle.rules.specs.declared.Train.{Train}
use Rattle.rules.specs.declared.Stamp.{Stamp}
use Rattle.rules.specs.declared.Slot.{Slot}
use Rattle.rules.specs.declared.LookUp.{LookUp}
use Rattle.rules.specs.declared.LookUp.TheVariants.{Absent, Found}
use Rattle.rules.specs.Lists.{every}
use Rattle.rules.specs.Store.{train, train_of}
use Rattle.rules.specs.Memo.{one_further, look_up, latest_by, is_latest, is_obsolete}
use Rattle.rules.specs.laws.All.{always, all_at}
use Rattle.rules.specs.laws.Counts.{count_same}
use Rattle.rules.specs.laws.Words.{no_slot}
use Rattle.rules.specs.laws.Memo.{InOrder, o_more, o_none, Says, look_up-says}
use Rattle.theorems.specs.Leaves.{MarkedEntry}
use Rattle.entries.specs.Passes.{old_place, is_at, counter_of, counted, obsolete_in, slot_fine, slots_fine}

-- a slot's train is found at the slot's place
found_at : {ms : List Slot} → InOrder ms → (i : ℕ) → i < length ms → look_up (get_or ms i no_slot).train ms ≡ Found i (get_or ms i no_slot).latest (get_or ms i no_slot).old
unfolding look_up one_further
found_at o_none i h = elim h [ ]
found_at (o_more {m = m} a o) zero h = rw (eq-eqb m.train.0 m.train.0 refl)
found_at (o_more {m = m} {ms = ms} a o) (suc i) h =
    rw (ne_eqb m.train.0 (get_or ms i no_slot).train.0 (omega (arith, all_at a i no_slot (le_of_suc-le-suc h))), found_at o i (le_of_suc-le-suc h))

-- at no other place
not_there : (t : Train) (ms : List Slot) (st : Stamp) (i : ℕ) → (t.0 ≡ (get_or ms i no_slot).train.0 → ⊥) → (l : LookUp) → Says t ms l → is_at (old_place l st) i ≡ false
unfolding old_place
not_there t ms st i d Absent a = refl
not_there t ms st i d (Found place latest old) a = go (eqb st.0 latest.0)
  where
    go : (b : Bool) → is_at (cond b None (Some place)) i ≡ false
    go true = refl
    go false = ne_eqb place i (λ q. d (sym (ap (λ j. (get_or ms j no_slot).train.0) (sym q) ∙ ap (λ m. m.train.0) a.1)))

module _ {memo : List Slot} (o : InOrder memo) (i : ℕ) (inside : i < length memo) where
  the_place : (b : Bool) → is_at (cond b None (Some i)) i ≡ not b
  the_place true = refl
  the_place false = eq-eqb i i refl

  counter_is : (k : MarkedEntry) → is_at (counter_of memo k) i ≡ (eqb (train_of k.entry).0 (get_or memo i no_slot).train.0 && is_obsolete memo k.entry)
  unfolding counter_of is_obsolete is_latest old_place latest_by
  counter_is k = go (eqb k.entry.key (get_or memo i no_slot).train.0) refl
    where
      go : (b : Bool) → eqb k.entry.key (get_or memo i no_slot).train.0 ≡ b
          → is_at (old_place (look_up (train_of k.entry) memo) k.entry.stamp) i ≡ (b && not (latest_by (look_up (train_of k.entry) memo) k.entry.stamp))
      go true e =
          let q : look_up (train_of k.entry) memo ≡ Found i (get_or memo i no_slot).latest (get_or memo i no_slot).old =
          ap (λ n. look_up (train n) memo) (eqb-true _ _ e) ∙ found_at o i inside in
          rw q (the_place (eqb k.entry.stamp.0 (get_or memo i no_slot).latest.0))
      go false e =
          not_there (train_of k.entry) memo k.entry.stamp i (eqb-false _ _ e) (look_up (train_of k.entry) memo) (look_up-says (train_of k.entry) memo)

  pub counter_slot : (ks : List MarkedEntry) → counted memo ks i ≡ obsolete_in memo ks (get_or memo i no_slot)
  unfolding counted obsolete_in
  counter_slot ks = count_same _ _ (always counter_is ks)

-- so the tests of slots with their counters are tests with these counts
pub slots_counted : (next : Stamp) (f : Slot → ℕ) (cs : List ℕ) (ms : List Slot) → length ms ≤ length cs
    → ((i : ℕ) → i < length ms → get_or cs i 0 ≡ f (get_or ms i no_slot)) → slots_fine next cs ms ≡ every (λ m. slot_fine next (f m) m) ms
unfolding slots_fine
slots_counted next f cs [] h q = refl
slots_counted next f [] (m ∷ ms) h q = absurd (not-suc-le-zero h)
slots_counted next f (c ∷ cs) (m ∷ ms) h q =
    rw (q 0 (omega arith), slots_counted next f cs ms (le_of_suc-le-suc h) (λ i k. q (suc i) (omega arith)))
