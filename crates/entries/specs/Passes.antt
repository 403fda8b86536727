-- What each pass computes: the tests of an entry, of a page's mark and of a slot, and what is gathered from the entries.
use Rattle.std.specs.Prelude.{ℕ, ◌+◌, ◌*◌, Bool, true, false, not, cond, ◌&&◌, ◌||◌, List, [], ◌∷◌, Option, None, Some, map, eqb, leb, ltb, length}
use Rattle.rules.specs.declared.Stamp.{Stamp}
use Rattle.rules.specs.declared.Entry.{Entry}
use Rattle.rules.specs.declared.Slot.{Slot}
use Rattle.rules.specs.declared.LookUp.{LookUp}
use Rattle.rules.specs.declared.LookUp.TheVariants.{Absent, Found}
use Rattle.rules.specs.Lists.{all_of, every, count, distinct}
use Rattle.rules.specs.Boxes.{proper_box}
use Rattle.rules.specs.Store.{Page, Store, train_of}
use Rattle.rules.specs.Memo.{look_up, latest_by, is_obsolete}
use Rattle.rules.specs.Live.{held, held_count}
use Rattle.rules.specs.Sound.{is_leaf, is_inner, entry_in_range, not_above, rule4, rule5, rule6, rule7}
use Rattle.theorems.specs.Leaves.{MarkedEntry, marked}

-- ---- tests
-- a leaf's mark is 1 to the next stamp, an inner page's is 0
unfoldable pub mark_fine : Stamp → Page → Bool
mark_fine next g =
    all_of
    ((not (is_leaf g) || (leb 1 g.mark.0 && leb g.mark.0 next.0)) ∷ (not (is_inner g) || eqb g.mark.0 0) ∷ [])

-- an entry has a proper box, a train, and a stamp that has been given out
unfoldable pub held_fine : Stamp → Entry → Bool
held_fine next e =
    all_of (proper_box e.bounds ∷ leb 1 e.key ∷ leb 1 e.stamp.0 ∷ ltb e.stamp.0 next.0 ∷ [])

-- its stamp is not above its slot's, and the mark of its leaf is not either where it is obsolete
unfoldable pub noted_fine : LookUp → Stamp → Stamp → Bool
noted_fine l st mark = not_above l st && (latest_by l st || not_above l mark)

unfoldable pub entry_fine : Stamp → List Slot → MarkedEntry → Bool
entry_fine next memo k =
    held_fine next k.entry && noted_fine (look_up (train_of k.entry) memo) k.entry.stamp k.mark

-- a slot, of whose train n obsolete entries are held
unfoldable pub slot_fine : Stamp → ℕ → Slot → Bool
slot_fine next n m =
    all_of
    (leb 1 m.latest.0
    ∷ ltb m.latest.0 next.0
    ∷ leb 1 m.old
    ∷ leb n m.old
    ∷ leb m.old m.latest.0
    ∷ [])

-- each slot with its own counter
unfoldable pub slots_fine : Stamp → List ℕ → List Slot → Bool
slots_fine next cs [] = true
slots_fine next [] (m ∷ ms) = true
slots_fine next (n ∷ cs) (m ∷ ms) = slot_fine next n m && slots_fine next cs ms

-- ---- what is gathered from an entry
-- how many counters there are
abbrev pub counters : ℕ
counters = 1_024

-- an obsolete entry's is the one at its slot's place; an entry that is latest has none
unfoldable pub old_place : LookUp → Stamp → Option ℕ
old_place Absent st = None
old_place (Found place latest old) st = cond (eqb st.0 latest.0) None (Some place)

unfoldable pub counter_of : List Slot → MarkedEntry → Option ℕ
counter_of memo k = old_place (look_up (train_of k.entry) memo) k.entry.stamp

abbrev pub stamp_of : MarkedEntry → ℕ
stamp_of k = k.entry.stamp.0

-- even by the train of a latest entry, odd by the stamp of an obsolete one: where stamps are distinct, two keys are equal
-- only if two latest entries have one train
unfoldable pub key_by : Option ℕ → Entry → ℕ
key_by None e = 2 * e.key
key_by (Some at) e = 2 * e.stamp.0 + 1

unfoldable pub key_of : List Slot → MarkedEntry → ℕ
key_of memo k = key_by (counter_of memo k) k.entry

abbrev pub is_at : Option ℕ → ℕ → Bool
is_at None i = false
is_at (Some at) i = eqb at i

-- how many of the entries have this counter
unfoldable pub counted : List Slot → List MarkedEntry → ℕ → ℕ
counted memo ks i = count (λ k. is_at (counter_of memo k) i) ks

-- how many of them are obsolete ones of the slot's train
unfoldable pub obsolete_in : List Slot → List MarkedEntry → Slot → ℕ
obsolete_in memo ks m = count (λ k. eqb (train_of k.entry).0 m.train.0 && is_obsolete memo k.entry) ks

-- how many entries the buffers take
abbrev pub most : ℕ
most = 576

-- ---- all that is tested, in turn
unfoldable pub noted_test : Store → Bool
noted_test s =
    let ks = marked s.pages in
    all_of
    (every (entry_fine s.next s.memo) ks
    ∷ distinct (map stamp_of ks)
    ∷ distinct (map (key_of s.memo) ks)
    ∷ every (λ m. slot_fine s.next (obsolete_in s.memo ks m) m) s.memo
    ∷ [])

unfoldable pub entries_test : Store → Bool
entries_test s =
    all_of
    (every (mark_fine s.next) s.pages
    ∷ leb (held_count s.pages) (3 * length s.pages)
    ∷ noted_test s
    ∷ [])

-- what is to be decided: held entries are in range, and rules 4 to 7 hold
abbrev pub entries_rules : Store → Bool
entries_rules s = all_of (every entry_in_range (held s) ∷ rule4 s ∷ rule5 s ∷ rule6 s ∷ rule7 s ∷ [])
