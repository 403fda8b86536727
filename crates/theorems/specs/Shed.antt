-- A step that sheds obsolete entries, or only slots of the memo: what is latest or obsolete stays so, rules 4 to 8 are kept, and the live list doesn't change.
use Rattle.std.specs.Prelude.{ℕ, ◌≡◌, true, ◌&&◌, List, ◌++◌, map, length}
use Rattle.std.proofs.Common.{arith, subst, ◌∙◌, length-append}
use Rattle.std.proofs.Math.Path.{sym, ap}
use Rattle.std.proofs.Math.Bool.{not}
use Rattle.std.proofs.lemmas.List.{map-append}
use Rattle.std.proofs.Math.Dec.{eqb}
use borrow.Author.Tests.{not-true}
use Rattle.rules.specs.declared.Train.{Train}
use Rattle.rules.specs.declared.Stamp.{Stamp}
use Rattle.rules.specs.declared.Window.{Window}
use Rattle.rules.specs.declared.Entry.{Entry}
use Rattle.rules.specs.declared.Slot.{Slot}
use Rattle.rules.specs.declared.LookUp.{LookUp}
use Rattle.rules.specs.declared.LookUp.TheVariants.{Absent, Found}
use Rattle.rules.specs.Lists.{keep, count}
use Rattle.rules.specs.Boxes.{meets}
use Rattle.rules.specs.Store.{Store, train_of}
use Rattle.rules.specs.Memo.{look_up, is_latest, is_obsolete}
use Rattle.rules.specs.Live.{held, live, rows_in}
use Rattle.rules.specs.Sound.{obsolete_of, sound}
use Rattle.rules.specs.Views.{NotAbove, not_above-holds, not_above_test, MemoInRange, InRange, SlotSound, Given, Rule4, Rule5, rule5_test, Rule6, Rule7, OpenBoard, Rule8, Sound, sound_test}
use Rattle.rules.specs.laws.All.{All, all_map, all_zip, all_back, all_members, all_unmapped}
use Rattle.rules.specs.laws.Kept.{keep_append, keep_none, keep_same}
use Rattle.rules.specs.laws.Counts.{count_same}
use Rattle.rules.specs.laws.Order.{◌~◌, ◌then◌, same, back, all_reordered, map_reordered, distinct_reordered, keep_reordered, length_reordered}
use Rattle.rules.specs.laws.Rows.{apart_reordered, rows_of_reordered}
use Rattle.rules.specs.laws.Memo.{known, in_order, known_member, latest_known, not_above-known}
use Rattle.rules.specs.laws.Obsolete.{SlotSaid, slot_said, room-left, Fades, latest_fades, not_above_fades}
use Rattle.rules.specs.theorems.Query.{rows_are_live}
use Rattle.theorems.specs.TreeSound.{TreeSound}
use Rattle.theorems.specs.Leaves.{marked, leaf_marks}
use Rattle.theorems.specs.HeldLeaves.{held-marked}
use Rattle.theorems.specs.tree.Numbers.{distinct_back}
use Rattle.theorems.specs.Marks.{MarkGiven, ObsoleteBelow, marked-leaves}

-- how many of these entries are the train's
abbrev pub of_train : Train → List Entry → ℕ
of_train t es = count (λ e. eqb (train_of e).0 t.0) es

-- what a store u owes to s, that has the same stamps, boards and sizes, holds the entries of s without some obsolete ones, and in whose memo these are
-- no longer counted; a train's slot may go where it has no obsolete entry left
pub record Sheds (s : Store) (gone : List Entry) (u : Store) : Type 0 where
  pub tree : TreeSound u
  pub next : u.next ≡ s.next
  pub slots : u.slots ≡ s.slots
  pub boards : u.boards ≡ s.boards
  pub long : length u.pages ≡ length s.pages
  pub obsolete : All (λ e. is_obsolete s.memo e ≡ true) gone
  pub memo : MemoInRange u.slots u.memo
  pub fades : (t : Train) → Fades (of_train t gone) (known t s.memo) (known t u.memo)
  pub freed : All (λ e. known (train_of e) u.memo ≡ Absent → is_latest s.memo e ≡ true) (held u)
  pub held : held s ~ (gone ++ held u)

module _ (s : Store) (gone : List Entry) (u : Store) (h : Sound s) (w : Sheds s gone u) where
  -- what held of the entries before holds of those that are held still
  still : {P : Entry → Type 0} → All P (held s) → All P (held u)
  still a = all_back gone (held u) (all_reordered w.held a)

  -- no entry that is held still changes: latest stays latest, and obsolete stays obsolete
  pub latest_same : All (λ e. is_latest u.memo e ≡ is_latest s.memo e) (held u)
  latest_same =
      all_map w.freed λ e f.
      let t = train_of e in
      latest_known u.memo e
      ∙ latest_fades (of_train t gone) (known t s.memo) (known t u.memo) e.stamp (w.fades t) (λ z. sym (latest_known s.memo e) ∙ f z)
      ∙ sym (latest_known s.memo e)

  -- and no stamp has come to stand above a slot's
  below_still : (t : Train) (st : Stamp) → NotAbove (look_up t s.memo) st → NotAbove (look_up t u.memo) st
  below_still t st n =
      not_above-holds _ _
      (not_above-known st t u.memo
      ∙ not_above_fades (of_train t gone) (known t s.memo) (known t u.memo) st (w.fades t) (sym (not_above-known st t s.memo) ∙ not_above_test _ _ n))

  -- the latest entries are the same ones
  pub latest_held : keep (is_latest s.memo) (held s) ~ keep (is_latest u.memo) (held u)
  unfolding is_obsolete
  latest_held =
      let f = is_latest s.memo in
      keep_reordered f w.held
      then same
      (keep_append f gone (held u)
      ∙ ap (λ z. z ++ keep f (held u)) (keep_none f (all_map w.obsolete λ e o. not-true _ o))
      ∙ sym (keep_same (is_latest u.memo) f latest_same))

  rule4_after : Rule4 u
  rule4_after =
      record {
        held_most = omega (arith, h.rule4.held_most, length_reordered w.held, length-append gone (held u), w.long);
        apart =
            distinct_back (map (λ e. e.stamp.0) gone) _
            (rw (map-append (λ (e : Entry). e.stamp.0) gone (held u)) at (distinct_reordered (map_reordered (λ e. e.stamp.0) w.held) h.rule4.apart));
        stamps = subst (λ z. All (λ e. Given z e.stamp) (held u)) (sym w.next) (still h.rule4.stamps);
      }

  rule5_after : Rule5 u
  rule5_after =
      record {
        one_latest = apart_reordered latest_held h.rule5.one_latest;
        none_above = all_map (still h.rule5.none_above) λ e n. below_still (train_of e) e.stamp n;
      }

  -- the live list, and every query's answer
  pub live_same : live u ≡ live s
  unfolding live
  live_same = sym (rows_of_reordered latest_held h.rule5.one_latest)

  pub rows_same : (z : Window) → rows_in u z ≡ rows_in s z
  rows_same z =
      rows_are_live u z (rule5_test u rule5_after) ∙ ap (keep (λ r. meets r.bounds z)) live_same ∙ sym (rows_are_live s z (rule5_test s h.rule5))

  -- ---- rule 6
  obsolete_left : (m : Slot) → obsolete_of u m ≡ count (λ e. eqb (train_of e).0 m.train.0 && is_obsolete s.memo e) (held u)
  unfolding obsolete_of is_obsolete
  obsolete_left m = count_same _ _ (all_map latest_same λ e q. ap (λ b. eqb (train_of e).0 m.train.0 && not b) q)

  slot_after : (m : Slot) (l : LookUp) → SlotSaid s m.train l → Fades (of_train m.train gone) l (Found 0 m.latest m.old) → SlotSound u m
  slot_after m Absent k f = absurd f
  slot_after m (Found place latest old) k f =
      let same-stamp : latest.0 ≡ m.latest.0 = ap (λ z. z.0) f.0 in
      let few = room-left s gone (held u) w.held w.obsolete m.train place latest old k in
      let now : u.next.0 ≡ s.next.0 = ap (λ z. z.0) w.next in
      record {
        stamp_least = omega (arith, k.stamp_least);
        stamp_below = omega (arith, k.stamp_below);
        old_least = f.1;
        old_counts = omega (arith, obsolete_left m, f.2);
        old_most = omega (arith, k.old_most, f.2);
      }

  rule6_after : Rule6 u
  rule6_after =
      record {
        slots =
            all_members u.memo λ m i.
            slot_after m (known m.train s.memo) (slot_said s h.rule6 m.train)
            (rw (known_member (in_order u.memo w.memo.ascends) i) at (w.fades m.train));
      }

  -- ---- rule 7, from the marks after the step and what was obsolete before it
  rule7_after : All (MarkGiven s.next) (leaf_marks u.pages) → All (ObsoleteBelow s.memo) (marked u.pages) → Rule7 u
  unfolding is_obsolete
  rule7_after marks below =
      let unchanged = all_unmapped _ (marked u.pages) (all_reordered (back (held-marked u w.tree)) latest_same) in
      marked-leaves u w.tree.inner_marks (rw w.next marks)
      (all_zip below unchanged λ k b q o. below_still (train_of k.entry) k.mark (b (ap not (sym q) ∙ o)))

  ranges_after : InRange u
  ranges_after =
      record {
        sizes = rw (w.long, w.slots, w.boards) h.ranges.sizes;
        header =
            record {
              next_least = rw w.next h.ranges.header.next_least;
              next_most = rw w.next h.ranges.header.next_most;
              root_page = w.tree.root_page;
              levels_least = w.tree.levels_least;
              levels_most = w.tree.levels_most;
            };
        pages = w.tree.pages;
        entries = still h.ranges.entries;
        memo = w.memo;
        boards = rw w.boards h.ranges.boards;
      }

  rule8_after : Rule8 u
  rule8_after =
      record {
        boards =
            subst (All λ b. b.isopen ≡ 1 → OpenBoard u b) (sym w.boards)
            (all_map h.rule8.boards λ b f o. record { proper = (f o).proper; exact = (f o).exact ∙ sym (rows_same b.window) });
      }

  -- all the rules, where rule 7 is kept by the marks after the step
  pub sheds_sound : All (MarkGiven s.next) (leaf_marks u.pages) → All (ObsoleteBelow s.memo) (marked u.pages) → sound u ≡ true
  sheds_sound marks below =
      sound_test u
      (record {
        ranges = ranges_after;
        rule1 = w.tree.rule1;
        rule2 = w.tree.rule2;
        rule3 = w.tree.rule3;
        rule4 = rule4_after;
        rule5 = rule5_after;
        rule6 = rule6_after;
        rule7 = rule7_after marks below;
        rule8 = rule8_after;
      })
