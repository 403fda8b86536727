-- Inspecting: the slots that it frees have no obsolete entry left, so it changes nothing but the memo, and nothing that is latest or obsolete.
use Rattle.std.specs.Prelude.{◌<◌, ◌≤◌, ◌≡◌, Bool, leb, ltb}
use Rattle.std.proofs.Common.{arith, ◌∙◌, leb-true}
use Rattle.std.proofs.Math.Path.{refl, sym, ap}
use Rattle.std.proofs.Math.Bool.{true, false, not}
use mathlib.Core.List.{List, []}
use Rattle.rules.specs.declared.Stamp.{Stamp}
use Rattle.rules.specs.declared.Window.{Window}
use Rattle.rules.specs.declared.Entry.{Entry}
use Rattle.rules.specs.declared.Slot.{Slot}
use Rattle.rules.specs.declared.LookUp.TheVariants.{Absent}
use Rattle.rules.specs.Lists.{count}
use Rattle.rules.specs.Store.{Page, Store, train, train_of}
use Rattle.rules.specs.Memo.{look_up, latest_by, is_latest, is_obsolete, inspected}
use Rattle.rules.specs.Live.{held, live, rows_in}
use Rattle.rules.specs.Tree.{tree_of}
use Rattle.rules.specs.Cleaning.{smallest_mark}
use Rattle.rules.specs.Sound.{not_above, sound}
use Rattle.rules.specs.Steps.{inspect}
use Rattle.rules.specs.Views.{NotAbove, not_above_test, Rule7, sound-holds}
use Rattle.rules.specs.laws.All.{All, none, head_of, always, all_map, all_zip, all_mapped, Mem}
use Rattle.rules.specs.laws.Order.{same, all_reordered}
use Rattle.rules.specs.laws.Memo.{known, in_order, latest_known, not_above-known, known_member}
use Rattle.rules.proofs.Memo.{known-inspected, inspected-in_range}
use Rattle.rules.specs.laws.Counts.{count_left}
use Rattle.rules.specs.laws.Obsolete.{slot_said, some_old, fades_inspected, unless_stays}
use Rattle.theorems.specs.TreeSound.{TreeSound, tree_of-sound, tree_kept}
use Rattle.theorems.specs.Leaves.{with_mark, marked, leaf_marks, leaves_all, all_leaves}
use Rattle.theorems.specs.HeldLeaves.{held-marked}
use Rattle.theorems.specs.LeafToClean.{marks_limited, to_clean}
use Rattle.theorems.specs.Marks.{leaves-marked}
use Rattle.theorems.specs.Shed.{Sheds, latest_same, live_same, rows_same, sheds_sound}

-- ---- rule 7 of all the leaves at once
-- what holds of every leaf's mark holds of the mark of each entry's leaf
pub marks_of_entries : {P : Stamp → Type 0} (ps : List Page) → All P (leaf_marks ps) → All (λ k. P k.mark) (marked ps)
unfolding leaf_marks marked
marks_of_entries ps a = leaves_all _ (all_map (all_leaves _ ps a) λ g h k. all_mapped (with_mark g.mark) (always (λ e. head_of (h k)) g.places))

-- where no leaf has a mark below T, no obsolete entry has a slot with a stamp below T
pub obsolete_recent : (s : Store) → TreeSound s → Rule7 s → (T : Stamp) → All (λ m. T.0 ≤ m.0) (leaf_marks s.pages)
    → All (λ e. is_obsolete s.memo e ≡ true → NotAbove (look_up (train_of e) s.memo) T) (held s)
obsolete_recent s R r T a =
    all_reordered (held-marked s R)
    (all_mapped (λ k. k.entry)
    (all_zip (leaves-marked s r).obsolete (marks_of_entries s.pages a) λ k b h o. record { at_most = λ q. omega (arith, (b o).at_most q) }))

-- and of a train whose slot has a stamp below T all that is held is latest
pub latest_before : (s : Store) → sound s ≡ true → (T : Stamp) → All (λ m. T.0 ≤ m.0) (leaf_marks s.pages)
    → (m : Slot) → Mem m s.memo → m.latest.0 < T.0 → All (λ e. (train_of e).0 ≡ m.train.0 → is_latest s.memo e ≡ true) (held s)
unfolding is_obsolete not_above
latest_before s h T a m i low = all_map (obsolete_recent s (tree_of-sound s h) (sound-holds s h).rule7 T a) λ e n q. go e n q (is_latest s.memo e) refl
  where
    go : (e : Entry) → (is_obsolete s.memo e ≡ true → NotAbove (look_up (train_of e) s.memo) T) → (train_of e).0 ≡ m.train.0
        → (b : Bool) → is_latest s.memo e ≡ b → b ≡ true
    go e n q true z = refl
    go e n q false z =
        let found = ap (λ k. known (train k) s.memo) q ∙ known_member (in_order s.memo (sound-holds s h).ranges.memo.ascends) i in
        let below : leb T.0 m.latest.0 ≡ true =
        ap (λ l. not_above l T) (sym found) ∙ sym (not_above-known T (train_of e) s.memo) ∙ not_above_test _ _ (n (ap not z)) in
        absurd (omega (arith, leb-true T.0 m.latest.0 below))

module _ (s : Store) (h : sound s ≡ true) where
  abbrev mark : Stamp
  mark = smallest_mark s.pages

  -- an obsolete entry's slot has no stamp below the smallest mark
  obsolete_stays : All (λ e. is_obsolete s.memo e ≡ true → NotAbove (look_up (train_of e) s.memo) mark) (held s)
  obsolete_stays =
      let R = tree_of-sound s h in
      obsolete_recent s R (sound-holds s h).rule7 mark (to_clean s R (marks_limited s h)).smallest

  -- so where nothing is known any more of a train that is held, its entry was latest
  freed_latest : (e : Entry) → (is_obsolete s.memo e ≡ true → NotAbove (look_up (train_of e) s.memo) mark)
      → known (train_of e) (inspected mark s.memo) ≡ Absent → is_latest s.memo e ≡ true
  unfolding is_obsolete latest_by
  freed_latest e n z = go (is_latest s.memo e) refl
    where
      go : (b : Bool) → is_latest s.memo e ≡ b → b ≡ true
      go true q = refl
      go false q =
          let t = train_of e in
          let l = known t s.memo in
          let below : not_above l mark ≡ true = sym (not_above-known mark t s.memo) ∙ not_above_test _ _ (n (ap not q)) in
          let gone : l ≡ Absent =
          sym (known-inspected t mark (in_order s.memo (sound-holds s h).ranges.memo.ascends) ∙ unless_stays mark mark l (omega arith) below) ∙ z in
          sym q ∙ latest_known s.memo e ∙ ap (λ z. latest_by z e.stamp) gone

  -- no entry goes, and a slot stays as it is or goes
  pub inspect_sheds : Sheds s [] (inspect s).store
  unfolding inspect held count
  inspect_sheds =
      let H = sound-holds s h in
      let order = in_order s.memo H.ranges.memo.ascends in
      record {
        tree = tree_kept s s.next (inspected mark s.memo) s.boards (tree_of-sound s h);
        next = refl;
        slots = refl;
        boards = refl;
        long = refl;
        obsolete = none;
        memo = inspected-in_range s.slots H.ranges.memo mark;
        fades = λ t. rw (known-inspected t mark order) (fades_inspected mark (known t s.memo) (some_old s t (known t s.memo) (slot_said s H.rule6 t)));
        freed = all_map obsolete_stays freed_latest;
        held = same refl;
      }

  -- ---- the theorems
  -- a slot that inspect frees, its stamp being below the smallest mark, has no obsolete entry: all that is held of its train is latest
  pub inspect-frees : (m : Slot) → Mem m s.memo → m.latest.0 < mark.0 → All (λ e. (train_of e).0 ≡ m.train.0 → is_latest s.memo e ≡ true) (held s)
  inspect-frees m i low = latest_before s h mark (to_clean s (tree_of-sound s h) (marks_limited s h)).smallest m i low

  -- every entry held is latest after it exactly if it was before
  pub inspect_latest : All (λ e. is_latest (inspect s).store.memo e ≡ is_latest s.memo e) (held s)
  unfolding inspect held
  inspect_latest = latest_same s [] (inspect s).store (sound-holds s h) inspect_sheds

  -- the store stays sound
  pub inspect-sound : sound (inspect s).store ≡ true
  unfolding inspect
  inspect-sound =
      let H = leaves-marked s (sound-holds s h).rule7 in
      sheds_sound s [] (inspect s).store (sound-holds s h) inspect_sheds H.marks H.obsolete

  -- the live list and every query's answer stay
  pub inspect-live : live (inspect s).store ≡ live s
  inspect-live = live_same s [] (inspect s).store (sound-holds s h) inspect_sheds

  pub inspect_rows : (w : Window) → rows_in (inspect s).store w ≡ rows_in s w
  inspect_rows w = rows_same s [] (inspect s).store (sound-holds s h) inspect_sheds w

-- no page and no board changes
pub inspect_tree : (s : Store) → tree_of (inspect s).store ≡ tree_of s
unfolding inspect
inspect_tree s = refl

pub inspect_boards : (s : Store) → (inspect s).store.boards ≡ s.boards
unfolding inspect
inspect_boards s = refl

-- the count is the number of slots whose stamp is below the smallest mark
pub inspect-count : (s : Store) → (inspect s).count ≡ count (λ m. ltb m.latest.0 (smallest_mark s.pages).0) s.memo
unfolding inspect inspected
inspect-count s = omega (arith, count_left (λ (m : Slot). ltb m.latest.0 (smallest_mark s.pages).0) s.memo)
