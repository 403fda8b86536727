-- The memo's part of a lent store: what is lent on, and what writing it leaves. Assumes nothing.
use Prim.Native.Nat.{ℕ, ◌+◌, ◌-◌, ◌≤◌, ◌<◌}
use native.Mathlib.Omega.{arith}
use native.Mathlib.Numerals.{add-one}
use mathlib.Core.Path.{◌≡◌, refl, sym, ◌∙◌, ap}
use mathlib.Core.Bool.{Bool, false}
use mathlib.Core.List.{List, [], ◌∷◌}
use lib.Dec.{leb}
use lib.ListN.{length, get_or, take, drop, drop_of_length-le}
use lib.Seq.{drop-cons}
use borrow.Rule.Slice.PartMut.{put_mid}
use Rattle.rules.specs.declared.Train.{Train}
use Rattle.rules.specs.declared.Stamp.{Stamp}
use Rattle.rules.specs.declared.Entry.{Entry}
use Rattle.rules.specs.declared.Slot.{Slot}
use Rattle.rules.specs.declared.LookUp.{LookUp}
use Rattle.rules.specs.declared.LookUp.TheVariants.{Absent, Found}
use Rattle.rules.specs.Store.{Store, limit, train_of, no_place, memo_words, pages_of, store_of}
use Rattle.rules.specs.Memo.{look_up, noted, lowered, lowered_all}
use Rattle.rules.specs.Cleaning.{smallest_mark}
use Rattle.rules.specs.Views.{MemoInRange}
use Rattle.rules.specs.laws.All.{All}
use Rattle.rules.specs.laws.Memo.{room_for, noted-in_range}
use Rattle.rules.proofs.Memo.{lowered-in_range, inspected-in_range}
use Rattle.rules.specs.laws.Parts.{with_memo}
use Rattle.rules.specs.laws.Placed.{memo_part, memo_back}
use Rattle.memo.specs.Slots.{room, slots_in, HoldsMemo, MemoWords, Inspected}
use Rattle.memo.specs.Laws.{memo_room, memo_given, given_room, given_counts, so_looked_up, so_full, so_noted, so_lowered, so_inspected, so_freed}
use Rattle.parts.specs.InOrder.{Lent, Became}
use Rattle.parts.specs.MemoAt.{MemoAt}
use Rattle.parts.specs.Promises.{no_slot_left, Freed}
use Rattle.parts.specs.Laws.{order_fits, lent_placed, became, became_then, order_memo}

-- ---- what is read
pub memo_held : (v : List ℕ) → Lent v → HoldsMemo v
memo_held v l =
    record {
      written = l.written;
      fits = order_fits l.order;
      pages_most = l.order.sizes.pages_most;
      slots_most = l.order.sizes.slots_most;
      memo = l.order.memo;
    }

module _ (v : List ℕ) (l : Lent v) (m : List ℕ) (part : m ≡ memo_words (store_of v).slots (store_of v).memo) where
  pub some_room : 1 ≤ room m
  some_room = omega (arith, memo_room _ _ l.order.memo m part, l.order.sizes.some_slot)

  module _ (t : Train) (found : LookUp) (so : found ≡ look_up t (slots_in m)) where
    looked : found ≡ look_up t (store_of v).memo
    looked = so_looked_up _ _ l.order.memo m part t found so

    pub absent_full : found ≡ Absent → (b : Bool) → b ≡ leb (room m) (length (slots_in m)) → b ≡ no_slot_left (store_of v) t
    absent_full a b e = rw (sym looked ∙ a) (so_full _ _ l.order.memo m part b e)

    pub found_left : (place : ℕ) (latest : Stamp) (old : ℕ) → found ≡ Found place latest old → false ≡ no_slot_left (store_of v) t
    found_left place latest old f = rw (sym looked ∙ f)

-- ---- what is written
module _ (v : List ℕ) (from to : ℕ) (l : Lent v) (at : MemoAt v from to) where
  abbrev s : Store
  s = store_of v

  -- what is lent on
  abbrev m : List ℕ
  m = take (to - from) (drop from v)

  part : m ≡ memo_words s.slots s.memo
  part = rw at.ends (memo_part v (lent_placed v l) (get_or v 5 0) refl (get_or v 7 0) refl from at.starts)

  pub memo_lent : MemoWords m
  memo_lent = memo_given s.slots s.memo l.order.memo m part

  pub room_to_note : (t : Train) → no_slot_left s t ≡ false → look_up t (slots_in m) ≡ Absent → length (slots_in m) < room m
  room_to_note t f = given_room s.slots s.memo l.order.memo m part t (room_for t s.slots s.memo f)

  pub counts_to_note : All (λ m. m.old < limit) s.memo → All (λ m. m.old < limit) (slots_in m)
  counts_to_note a = given_counts s.slots s.memo l.order.memo m part a

  wrote : (memo : List Slot) → MemoInRange s.slots memo → (m' : List ℕ) → m' ≡ memo_words s.slots memo
      → Became (with_memo s memo) (put_mid from (to - from) v m')
  wrote memo r m' e =
      became (order_memo l.order r) (rw at.ends (memo_back v (lent_placed v l) (get_or v 5 0) refl (get_or v 7 0) refl from at.starts memo m' e))

  module _ (m' : List ℕ) where
    pub memo_noted : (t : Train) (st : Stamp) → 1 ≤ t.0 → no_slot_left s t ≡ false → m' ≡ memo_words (room m) (noted t st (slots_in m))
        → Became (with_memo s (noted t st s.memo)) (put_mid from (to - from) v m')
    memo_noted t st h f e =
        wrote _ (noted-in_range s.slots l.order.memo t st h (room_for t s.slots s.memo f)) m' (so_noted s.slots s.memo l.order.memo m part t st m' e)

    pub memo_lowered : (t : Train) → m' ≡ memo_words (room m) (lowered t (slots_in m))
        → Became (with_memo s (lowered t s.memo)) (put_mid from (to - from) v m')
    memo_lowered t e =
        wrote _ (lowered-in_range s.slots l.order.memo t) m' (so_lowered s.slots s.memo l.order.memo m part t m' e)

    -- the mark is the smallest of the pages
    pub memo_inspected : (mark : Stamp) (n : ℕ) (p : ℕ) → p ≡ get_or v 5 0 → mark ≡ smallest_mark (pages_of p (drop 16 v)) → Inspected m mark n m' → Freed (smallest_mark s.pages) s (put_mid from (to - from) v m') n
    unfolding store_of
    memo_inspected mark n p there e i =
        let smallest : mark ≡ smallest_mark s.pages = rw there at e in
        let freed : Freed mark s (put_mid from (to - from) v m') n = record {
          became = wrote _ (inspected-in_range s.slots l.order.memo mark) m' (so_inspected s.slots s.memo l.order.memo m part mark n m' i);
          counted = so_freed s.slots s.memo l.order.memo m part mark n m' i;
        } in
        rw smallest at freed

-- ---- the places of a page, one after the other
-- the places from i on are left
pub record Lowering (v : List ℕ) (es : List Entry) (w : List ℕ) (i : ℕ) : Type 0 where
  pub now : Became (with_memo (store_of v) (store_of w).memo) w
  pub left : lowered_all (drop i es) (store_of w).memo ≡ lowered_all es (store_of v).memo

module _ (v : List ℕ) (es : List Entry) (w : List ℕ) (i : ℕ) (so : Lowering v es w i) where
  pub lowering_end : length es ≤ i → Became (with_memo (store_of v) (lowered_all es (store_of v).memo)) w
  unfolding lowered_all
  lowering_end h =
      let none : drop i es ≡ [] = drop_of_length-le es {i = i} h in
      let e : (store_of w).memo ≡ lowered_all es (store_of v).memo = rw none at so.left in
      rw e at so.now

  pub lowering_on : i < length es → (u : List ℕ) → Became (with_memo (store_of w) (lowered (train_of (get_or es i no_place)) (store_of w).memo)) u → Lowering v es u (i + 1)
  unfolding lowered_all
  lowering_on h u b =
      let first : drop i es ≡ get_or es i no_place ∷ drop (i + 1) es = rw add-one (drop-cons es i no_place h) in
      let memo : (store_of u).memo ≡ lowered (train_of (get_or es i no_place)) (store_of w).memo = ap (λ s. s.memo) b.stored in
      record {
        now = rw memo (became_then (λ s. with_memo s (lowered (train_of (get_or es i no_place)) (store_of w).memo)) so.now b);
        left = rw memo (rw first at so.left);
      }
