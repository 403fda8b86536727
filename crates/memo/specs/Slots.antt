-- The memo's own words: three for each slot that there is room for, the used slots first.
use Rattle.std.specs.Prelude.{ℕ, ◌*◌, ◌-◌, ◌/◌, ◌≤◌, ◌≡◌, length, get_or, set, leb}
use mathlib.Core.List.{List, map, flat_map}
use Rattle.rules.specs.declared.Train.{Train}
use Rattle.rules.specs.declared.Stamp.{Stamp}
use Rattle.rules.specs.declared.Slot.{Slot}
use Rattle.rules.specs.Lists.{cut, first}
use Rattle.rules.specs.Store.{memo_words, slot_of, slot_words, used, words, store_of}
use Rattle.rules.specs.Memo.{inspected}
use Rattle.rules.specs.laws.Words.{Fits, no_slot}
use Rattle.rules.specs.Views.{MemoInRange}

-- how many slots there is room for
abbrev pub room : List ℕ → ℕ
room m = length m / 3

-- the words are those of whole slots
abbrev pub Whole : List ℕ → Type 0
Whole m = 3 * room m ≡ length m

-- every slot, the unused ones too
unfoldable pub table : List ℕ → List Slot
table m = map slot_of (cut (room m) 3 m)

-- the used ones
unfoldable pub slots_in : List ℕ → List Slot
slots_in m = used (table m)

-- the words are exactly those of a memo
pub record MemoWords (m : List ℕ) : Type 0 where
  pub whole : Whole m
  pub in_range : MemoInRange (room m) (slots_in m)
  pub written : memo_words (room m) (slots_in m) ≡ m

-- the words are exactly those of a store, and its memo is in range
pub record HoldsMemo (w : List ℕ) : Type 0 where
  pub written : words (store_of w) ≡ w
  pub fits : Fits (store_of w)
  pub pages_most : length (store_of w).pages ≤ 192
  pub slots_most : (store_of w).slots ≤ 1_024
  pub memo : MemoInRange (store_of w).slots (store_of w).memo

-- ---- one slot, read and written; past the end there are unused ones
abbrev pub slot_at : List ℕ → ℕ → Slot
slot_at m i = get_or (table m) i no_slot

unfoldable pub with_slot : List ℕ → ℕ → Slot → List ℕ
with_slot m i s = flat_map slot_words (set (table m) i s)

-- where a train's slot is, or would be
unfoldable pub place_for : Train → List Slot → ℕ
place_for t ms = first (λ m. leb t.0 m.train.0) ms

-- what inspecting leaves, and how many slots it frees
pub record Inspected (m : List ℕ) (mark : Stamp) (freed : ℕ) (after : List ℕ) : Type 0 where
  pub words_left : after ≡ memo_words (room m) (inspected mark (slots_in m))
  pub slots_freed : freed ≡ length (slots_in m) - length (inspected mark (slots_in m))
