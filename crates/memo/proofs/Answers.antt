-- What follows from the look-up's answer, for a stamp noted and a count lowered.
use Prim.Native.Nat.{ℕ, ◌+◌, ◌-◌, ◌<◌, ◌≤◌}
use native.Mathlib.Omega.{arith}
use native.Mathlib.Numerals.{add-one}
use mathlib.Core.Path.{◌≡◌, sym, ◌∙◌, ap}
use mathlib.Core.Bool.{true}
use mathlib.Core.List.{List}
use mir.Syntax.{w32}
use mir.Val.{Fits}
use lib.Dec.{eqb}
use lib.ListN.{length}
use borrow.Author.Tests.{eq-eqb, ne_eqb}
use Rattle.rules.specs.declared.Train.{Train}
use Rattle.rules.specs.declared.Stamp.{Stamp}
use Rattle.rules.specs.declared.Entry.{Entry}
use Rattle.rules.specs.declared.LookUp.{LookUp}
use Rattle.rules.specs.declared.LookUp.TheVariants.{Absent, Found}
use Rattle.rules.specs.Lists.{without}
use Rattle.rules.specs.Store.{limit, train_of, memo_words}
use Rattle.rules.specs.Memo.{slot_inserted, look_up, latest_by, is_latest, noted, noted_by, lowered, lowered_by}
use Rattle.rules.specs.laws.All.{All, all_at}
use Rattle.rules.specs.laws.Words.{no_slot}
use Rattle.rules.specs.laws.Memo.{look_up-says}
use Rattle.memo.specs.Slots.{room, slots_in, MemoWords, with_slot}
use Rattle.memo.proofs.Words.{memo_put}

module _ (m : List ℕ) (t : Train) (r : LookUp) (e : r ≡ look_up t (slots_in m)) where
  -- ---- no slot
  module _ (a : r ≡ Absent) where
    pub so_absent : look_up t (slots_in m) ≡ Absent
    so_absent = sym e ∙ a

    pub so_room : (look_up t (slots_in m) ≡ Absent → length (slots_in m) < room m) → length (slots_in m) < room m
    so_room h = h so_absent

    pub noted_new : (s : Stamp) (m' : List ℕ) → m' ≡ memo_words (room m) (slot_inserted (record { train = t; latest = s; old = 1 }) (slots_in m))
        → m' ≡ memo_words (room m) (noted t s (slots_in m))
    unfolding noted noted_by
    noted_new s m' f = rw so_absent f

    pub lowered_none : MemoWords m → m ≡ memo_words (room m) (lowered t (slots_in m))
    unfolding lowered lowered_by
    lowered_none w = rw so_absent (sym w.written)

  -- ---- the slot at a place
  module _ (place old : ℕ) (latest : Stamp) (f : r ≡ Found place latest old) where
    so_found : look_up t (slots_in m) ≡ Found place latest old
    so_found = sym e ∙ f

    pub so_used : place < length (slots_in m)
    so_used = (rw so_found at (look_up-says t (slots_in m))).0

    pub so_inside : MemoWords m → place < room m
    so_inside w = omega (arith, so_used, w.in_range.used_most)

    pub rise_fits : All (λ m. m.old < limit) (slots_in m) → Fits w32 (old + 1)
    rise_fits a =
        let same = ap (λ s. s.old) (rw so_found at (look_up-says t (slots_in m))).1 in
        record { fits = omega (arith, same, all_at a place no_slot so_used) }

    pub noted_old : MemoWords m → (s : Stamp) (m' : List ℕ) → m' ≡ with_slot m place (record { train = t; latest = s; old = old + 1 })
        → m' ≡ memo_words (room m) (noted t s (slots_in m))
    unfolding noted noted_by
    noted_old w s m' g = rw so_found (rw add-one at (g ∙ memo_put m w place _ so_used))

    pub lowered_out : old ≤ 1 → (m' : List ℕ) → m' ≡ memo_words (room m) (without (slots_in m) place) → m' ≡ memo_words (room m) (lowered t (slots_in m))
    unfolding lowered lowered_by
    lowered_out h m' g = rw (so_found, eq-eqb (old - 1) 0 (omega arith)) g

    pub lowered_left : 1 < old → MemoWords m → (m' : List ℕ) → m' ≡ with_slot m place (record { train = t; latest = latest; old = old - 1 })
        → m' ≡ memo_words (room m) (lowered t (slots_in m))
    unfolding lowered lowered_by
    lowered_left h w m' g = rw (so_found, ne_eqb (old - 1) 0 (omega arith)) (g ∙ memo_put m w place _ so_used)

-- ---- what the look-up's answer says of an entry
module _ (m : List ℕ) (e : Entry) (r : LookUp) (answer : r ≡ look_up (train_of e) (slots_in m)) where
  pub absent_latest : r ≡ Absent → true ≡ is_latest (slots_in m) e
  unfolding is_latest latest_by
  absent_latest a = rw (← answer, a)

  pub found_latest : (place old : ℕ) (latest : Stamp) → r ≡ Found place latest old → eqb e.stamp.0 latest.0 ≡ is_latest (slots_in m) e
  unfolding is_latest latest_by
  found_latest place old latest f = rw (← answer, f)
