-- Laws of the memo's words: a slot read and written, and what its words are then.
use Prim.Native.Nat.{ℕ, zero, suc, ◌+◌, ◌-◌, ◌*◌, ◌≤◌, ◌<◌}
use native.Mathlib.Omega.{arith}
use mathlib.Core.Path.{◌≡◌, refl, sym, ◌∙◌, ap}
use mathlib.Core.List.{List, [], ◌∷◌, ◌++◌, map, flat_map, append-nil}
use lib.ListN.{length, get_or, set, take, drop, get_or-eq_default, length-set, length-map}
use lib.Seq.{drop-drop}
use Rattle.std.proofs.Common.{zero-add}
use Rattle.std.proofs.lemmas.List.{get_or-map}
use Rattle.rules.specs.declared.Slot.{Slot}
use Rattle.rules.specs.Lists.{cut}
use Rattle.rules.specs.Store.{memo_words, slot_of, slot_words}
use Rattle.rules.specs.laws.Words.{no_slot, all_slots, padded_slots, slot_words-length}
use Rattle.std.specs.List.{copy_within}
use Rattle.rules.specs.laws.All.{always, flat_append}
use Rattle.rules.specs.laws.Parts.{one_written}
use Rattle.rules.specs.laws.Memo.{set-among}
use borrow.Rule.Slice.PartMut.{put_mid}
use Rattle.memo.specs.Laws.{slots_length, table_of_words, memo_table}
use Rattle.memo.specs.Slots.{room, Whole, table, slots_in, MemoWords, with_slot}

-- ---- words read as slots
cut-words : (k : ℕ) (m : List ℕ) → 3 * k ≡ length m → flat_map slot_words (map slot_of (cut k 3 m)) ≡ m
unfolding slot_of slot_words flat_map
cut-words zero [] e = refl
cut-words zero (x ∷ m) e = absurd (omega arith)
cut-words (suc k) [] e = absurd (omega arith)
cut-words (suc k) (x ∷ []) e = absurd (omega arith)
cut-words (suc k) (x ∷ y ∷ []) e = absurd (omega arith)
cut-words (suc k) (x ∷ y ∷ z ∷ m) e = ap (λ r. x ∷ y ∷ z ∷ r) (cut-words k m (omega arith))

module _ (m : List ℕ) (w : Whole m) where
  -- whole slots are written back as they were
  pub words_of-table : flat_map slot_words (table m) ≡ m
  unfolding table
  words_of-table = cut-words (room m) m w

  pub table-length : length (table m) ≡ room m
  table-length = omega (arith, slots_length (table m), ap length words_of-table)

  -- one slot's words written
  pub slot_written : (i k : ℕ) (s : Slot) (ws : List ℕ) → i < room m → k ≡ 3 → ws ≡ slot_words s → put_mid (3 * i) k m ws ≡ with_slot m i s
  unfolding with_slot
  slot_written i k s ws h e q =
      let n = table-length in
      let there : flat_map slot_words (table m) ++ [] ≡ m = append-nil _ ∙ words_of-table in
      let written : flat_map slot_words (set (table m) i s) ++ [] ≡ take (3 * i) m ++ (slot_words s ++ drop (3 * i + 3) m) =
      rw (there, zero-add (3 * i)) at (one_written slot_words 3 [] [] 0 refl (always slot_words-length (table m)) i (omega arith) s) in
      rw (e, q, drop-drop 3 (3 * i) m) (sym (sym (append-nil _) ∙ written))

-- the slots after another one is written
pub table-put : (m : List ℕ) (i : ℕ) (s : Slot) → table (with_slot m i s) ≡ set (table m) i s
unfolding with_slot
table-put m i s = table_of_words (set (table m) i s)

-- a slot read from its words; past the end there are unused slots
module _ (m : List ℕ) (cs : List (List ℕ)) (i : ℕ) (s : Slot) (cut_so : cs ≡ cut (room m) 3 m) where
  pub slot_read : (c : List ℕ) → i < length cs → c ≡ get_or cs i c → s ≡ slot_of c → s ≡ get_or (table m) i no_slot
  unfolding table
  slot_read c h e q = rw (← cut_so) (q ∙ ap slot_of e ∙ sym (get_or-map slot_of cs i c no_slot h))

  pub slot_past : length cs ≤ i → s ≡ no_slot → s ≡ get_or (table m) i no_slot
  unfolding table
  slot_past h e = rw (← cut_so) (e ∙ sym (get_or-eq_default (map slot_of cs) no_slot (rw length-map h)))

-- ---- several slots moved
-- three words further on is one slot further on
next_slot : (i : ℕ) → 3 * suc i ≡ suc (suc (suc (3 * i)))
next_slot i = omega arith

take_slots : (n : ℕ) (xs : List Slot) → take (3 * n) (flat_map slot_words xs) ≡ flat_map slot_words (take n xs)
unfolding flat_map slot_words
take_slots zero xs = refl
take_slots (suc n) [] = rw (next_slot n)
take_slots (suc n) (x ∷ xs) = rw (next_slot n) (ap (λ r. x.train.0 ∷ x.latest.0 ∷ x.old ∷ r) (take_slots n xs))

drop_slots : (n : ℕ) (xs : List Slot) → drop (3 * n) (flat_map slot_words xs) ≡ flat_map slot_words (drop n xs)
unfolding flat_map slot_words
drop_slots zero xs = refl
drop_slots (suc n) [] = rw (next_slot n)
drop_slots (suc n) (x ∷ xs) = rw (next_slot n) (drop_slots n xs)

slots_moved : (xs : List Slot) (a b c : ℕ) → copy_within (flat_map slot_words xs) (3 * a) (3 * b) (3 * c) ≡ flat_map slot_words (copy_within xs a b c)
slots_moved xs a b c =
    let many : 3 * b - 3 * a ≡ 3 * (b - a) = omega arith in
    let behind : 3 * c + 3 * (b - a) ≡ 3 * (c + (b - a)) = omega arith in
    rw (many, behind, drop_slots, drop_slots, take_slots, take_slots, ← flat_append, ← flat_append)

-- slots moved, and one written then
module _ (m m₁ m₂ : List ℕ) (w : Whole m) (a b c i : ℕ) (s : Slot) (moved : m₁ ≡ copy_within m (3 * a) (3 * b) (3 * c)) (put : m₂ ≡ with_slot m₁ i s) where
  pub moved_written : (ms : List Slot) → length ms ≤ room m → set (copy_within (table m) a b c) i s ≡ all_slots (room m) ms → m₂ ≡ memo_words (room m) ms
  unfolding with_slot
  moved_written ms h e =
      let words : m₁ ≡ flat_map slot_words (copy_within (table m) a b c) = moved ∙ rw words_of-table at (slots_moved (table m) a b c) in
      put ∙ rw (words, table_of_words, e) (sym (padded_slots (room m) ms h))

-- ---- a memo's words
pub memo_put : (m : List ℕ) → MemoWords m → (i : ℕ) (s : Slot) → i < length (slots_in m) → with_slot m i s ≡ memo_words (room m) (set (slots_in m) i s)
unfolding with_slot
memo_put m w i s h =
    rw (memo_table m w, set-among (room m) (slots_in m) i s h) (sym (padded_slots (room m) (set (slots_in m) i s) (rw length-set w.in_range.used_most)))

-- ---- while slots are written one after the other, the words stay as long
module _ (m₀ m : List ℕ) (w : Whole m₀) (l : length m ≡ length m₀) where
  still_whole : Whole m
  still_whole = omega arith

  pub table_as_long : length (table m) ≡ room m₀
  table_as_long = omega (arith, table-length m still_whole)

  pub put_as_long : (i : ℕ) (s : Slot) (m' : List ℕ) → m' ≡ with_slot m i s → length m' ≡ length m₀
  unfolding with_slot
  put_as_long i s m' e = omega (arith, ap length e, slots_length (set (table m) i s), length-set (table m) i s, table_as_long)

  -- slots that are a memo's and then unused ones are written as the memo's words
  pub memo_written : (ms : List Slot) → length ms ≤ room m₀ → table m ≡ all_slots (room m₀) ms → m ≡ memo_words (room m₀) ms
  memo_written ms h e = sym (words_of-table m still_whole) ∙ ap (flat_map slot_words) e ∙ sym (padded_slots (room m₀) ms h)
