-- A memo's words are words that the functions take; what these promise is then said of the memo.
use Rattle.std.specs.Prelude.{ℕ, ◌*◌, ◌-◌, ◌<◌, ◌≡◌, Bool, true, leb, length, get_or}
use Rattle.std.proofs.Common.{arith, sym, ◌∙◌, ap}
use mathlib.Core.List.{List, [], append-nil, flat_map}
use Rattle.rules.specs.declared.Train.{Train}
use Rattle.rules.specs.declared.Stamp.{Stamp}
use Rattle.rules.specs.declared.Entry.{Entry}
use Rattle.rules.specs.declared.Slot.{Slot}
use Rattle.rules.specs.declared.LookUp.{LookUp}
use Rattle.rules.specs.declared.LookUp.TheVariants.{Absent}
use Rattle.rules.specs.Store.{limit, memo_words, slot_words, slot_of}
use Rattle.rules.specs.Memo.{look_up, is_latest, noted, lowered, inspected}
use Rattle.rules.specs.Sound.{memo_in_range}
use Rattle.rules.specs.Views.{MemoInRange, memo_in_range_test}
use Rattle.rules.specs.laws.All.{All, always}
use Rattle.rules.specs.laws.Memo.{slot-among}
use Rattle.rules.specs.laws.Words.{flat_length, memo_words-length, memo_read, all_slots, no_slot, padded_slots, parts-read, slot_words-length, slot_read}
use Rattle.memo.specs.Slots.{room, table, slots_in, MemoWords, Inspected}

-- what a memo's words are, by the test of the rules
pub range_kept : (m : List ℕ) → MemoWords m → memo_in_range (room m) (slots_in m) ≡ true
range_kept m w = memo_in_range_test (room m) (slots_in m) w.in_range

-- slots written as words
pub slots_length : (xs : List Slot) → length (flat_map slot_words xs) ≡ 3 * length xs
slots_length xs = flat_length slot_words 3 (always slot_words-length xs)

-- they are read back
pub table_of_words : (xs : List Slot) → table (flat_map slot_words xs) ≡ xs
unfolding table
table_of_words xs =
    let e : room (flat_map slot_words xs) ≡ length xs = omega (arith, slots_length xs) in
    rw e (rw append-nil at (parts-read slot_words 3 slot_of (always slot_words-length xs) (always slot_read xs) []))

-- in a memo's words the slots are the used ones, then unused ones
pub memo_table : (m : List ℕ) → MemoWords m → table m ≡ all_slots (room m) (slots_in m)
memo_table m w =
    let e : flat_map slot_words (all_slots (room m) (slots_in m)) ≡ m = sym (padded_slots (room m) (slots_in m) w.in_range.used_most) ∙ w.written in
    ap table (sym e) ∙ table_of_words (all_slots (room m) (slots_in m))

pub memo_slot : (m : List ℕ) → MemoWords m → (i : ℕ) → get_or (table m) i no_slot ≡ get_or (slots_in m) i no_slot
memo_slot m w i = ap (λ xs. get_or xs i no_slot) (memo_table m w) ∙ slot-among (room m) (slots_in m) i

-- a part of the store's words, say, that is the memo's
module _ (k : ℕ) (ms : List Slot) (r : MemoInRange k ms) (m : List ℕ) (e : m ≡ memo_words k ms) where
  pub memo_room : room m ≡ k
  memo_room = omega (arith, ap length e, memo_words-length k ms r.used_most)

  pub memo_slots : slots_in m ≡ ms
  unfolding slots_in table
  memo_slots = rw (memo_room, e) (rw append-nil at (memo_read k ms r.used_most r.trains []))

  pub memo_given : MemoWords m
  memo_given =
      record {
        whole = omega (arith, ap length e, memo_words-length k ms r.used_most);
        in_range = rw (memo_room, memo_slots) r;
        written = rw (memo_room, memo_slots) (sym e);
      }

  -- what the functions ask for and promise, in terms of the memo
  pub given_room : (t : Train) → (look_up t ms ≡ Absent → length ms < k) → look_up t (slots_in m) ≡ Absent → length (slots_in m) < room m
  given_room t h = rw (memo_room, memo_slots) h

  pub given_counts : All (λ s. s.old < limit) ms → All (λ s. s.old < limit) (slots_in m)
  given_counts a = rw memo_slots a

  pub so_looked_up : (t : Train) (l : LookUp) → l ≡ look_up t (slots_in m) → l ≡ look_up t ms
  so_looked_up t l h = rw memo_slots at h

  pub so_latest : (e : Entry) (b : Bool) → b ≡ is_latest (slots_in m) e → b ≡ is_latest ms e
  so_latest e b h = rw memo_slots at h

  pub so_full : (b : Bool) → b ≡ leb (room m) (length (slots_in m)) → b ≡ leb k (length ms)
  so_full b h = rw (memo_room, memo_slots) at h

  pub so_noted : (t : Train) (s : Stamp) (m' : List ℕ) → m' ≡ memo_words (room m) (noted t s (slots_in m)) → m' ≡ memo_words k (noted t s ms)
  so_noted t s m' h = rw (memo_room, memo_slots) at h

  pub so_lowered : (t : Train) (m' : List ℕ) → m' ≡ memo_words (room m) (lowered t (slots_in m)) → m' ≡ memo_words k (lowered t ms)
  so_lowered t m' h = rw (memo_room, memo_slots) at h

  pub so_inspected : (mark : Stamp) (freed : ℕ) (m' : List ℕ) → Inspected m mark freed m' → m' ≡ memo_words k (inspected mark ms)
  so_inspected mark freed m' h = rw (memo_room, memo_slots) at h.words_left

  pub so_freed : (mark : Stamp) (freed : ℕ) (m' : List ℕ) → Inspected m mark freed m' → freed ≡ length ms - length (inspected mark ms)
  so_freed mark freed m' h = rw memo_slots at h.slots_freed
