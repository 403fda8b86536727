-- Cleaning: it removes exactly the obsolete entries of the leaf with the smallest mark, and changes nothing that is latest; the store stays sound.
use Rattle.std.specs.Prelude.{◌≤◌, ◌+◌, ◌≡◌, refl, true, false, ◌&&◌, List, ◌∷◌, ◌++◌, map, length}
use Rattle.std.proofs.Common.{arith, sym, ◌∙◌, ap, eq-eqb}
use Rattle.std.proofs.Math.Bool.{Bool, not, true≢false}
use Rattle.std.proofs.Math.Dec.{eqb}
use Rattle.std.proofs.Math.ListN.{length-append}
use Rattle.std.proofs.lemmas.Bool.{not-true}
use Rattle.rules.specs.declared.Window.{Window}
use Rattle.rules.specs.declared.Entry.{Entry}
use Rattle.rules.specs.declared.LookUp.{LookUp}
use Rattle.rules.specs.declared.LookUp.TheVariants.{Absent, Found}
use Rattle.rules.specs.Lists.{count, keep}
use Rattle.rules.specs.Store.{Store, train_of, page_at}
use Rattle.rules.specs.Memo.{latest_by, is_latest, is_obsolete}
use Rattle.rules.specs.Live.{held, live, rows_in}
use Rattle.rules.specs.Cleaning.{leaf_to_clean}
use Rattle.rules.specs.Sound.{sound}
use Rattle.rules.specs.Steps.{clean}
use Rattle.rules.specs.Views.{sound-holds}
use Rattle.rules.specs.laws.Tests.{not_both, and_both}
use Rattle.rules.specs.laws.All.{All, more, tail_of, all_map, all_append, all_back, all_kept, all_unmapped, all_member, all_members, always, Mem}
use Rattle.rules.specs.laws.Order.{◌~◌, back, all_reordered, length_reordered}
use Rattle.rules.specs.laws.Memo.{known, in_order, latest_known, times_less}
use Rattle.rules.proofs.Memo.{known-lowered_all, lowered_all-in_range}
use Rattle.rules.specs.laws.Counts.{count_some}
use Rattle.rules.specs.laws.Obsolete.{SlotSaid, slot_said, room-left, some_old, fades_lowered, not_freed}
use Rattle.theorems.specs.Leaves.{with_mark, marked, leaf_marks}
use Rattle.theorems.specs.CleanTree.{clean_step_tree}
use Rattle.theorems.specs.Marks.{MarkGiven, ObsoleteBelow, leaves-marked}
use Rattle.theorems.specs.Shed.{of_train, Sheds, latest_same, live_same, rows_same, sheds_sound}

-- the obsolete entries of the leaf that a clean takes
unfoldable pub cleaned_out : Store → List Entry
cleaned_out s = keep (is_obsolete s.memo) (page_at s.pages (leaf_to_clean s.pages)).places

module _ (s : Store) (h : sound s ≡ true) where
  -- it removes exactly these
  pub clean-held : held s ~ (cleaned_out s ++ held (clean s).store)
  unfolding cleaned_out is_obsolete
  clean-held = (clean_step_tree s h).held

  pub clean_obsolete : All (λ e. is_obsolete s.memo e ≡ true) (cleaned_out s)
  unfolding cleaned_out
  clean_obsolete = all_kept (is_obsolete s.memo) (always (λ e z. z) _)

  -- ---- a slot is freed only where no obsolete entry of its train is left
  freed_at : (e : Entry) → Mem e (held (clean s).store) → is_latest s.memo e ≡ false → (l : LookUp) → SlotSaid s (train_of e) l
      → times_less (of_train (train_of e) (cleaned_out s)) l ≡ Absent → latest_by l e.stamp ≡ false → ⊥
  unfolding latest_by is_obsolete
  freed_at e i o Absent k z f = true≢false f
  freed_at e i o (Found place latest old) k z f =
      let t = train_of e in
      let left : Entry → Bool = λ x. eqb (train_of x).0 t.0 && is_obsolete s.memo x in
      let some : 1 ≤ count left (held (clean s).store) = count_some left i (and_both (eq-eqb t.0 t.0 refl) (ap not o)) in
      let room = room-left s (cleaned_out s) (held (clean s).store) clean-held clean_obsolete t place latest old k in
      not_freed (of_train t (cleaned_out s)) place latest old (omega arith) z

  freed_latest : (e : Entry) → Mem e (held (clean s).store) → times_less (of_train (train_of e) (cleaned_out s)) (known (train_of e) s.memo) ≡ Absent
      → is_latest s.memo e ≡ true
  freed_latest e i z = go (is_latest s.memo e) refl
    where
      go : (b : Bool) → is_latest s.memo e ≡ b → b ≡ true
      go true q = refl
      go false q =
          let t = train_of e in
          absurd (freed_at e i q (known t s.memo) (slot_said s (sound-holds s h).rule6 t) z (sym (latest_known s.memo e) ∙ q))

  pub clean_sheds : Sheds s (cleaned_out s) (clean s).store
  unfolding clean cleaned_out
  clean_sheds =
      let H = sound-holds s h in
      let C = clean_step_tree s h in
      let gone = cleaned_out s in
      let order = in_order s.memo H.ranges.memo.ascends in
      record {
        tree = C.sound;
        next = refl;
        slots = refl;
        boards = refl;
        long = C.long;
        obsolete = clean_obsolete;
        memo = lowered_all-in_range s.slots gone H.ranges.memo;
        fades = λ t. rw (known-lowered_all t gone order) (fades_lowered (of_train t gone) (known t s.memo) (some_old s t (known t s.memo) (slot_said s H.rule6 t)));
        freed = all_members (held (clean s).store) λ e i z. freed_latest e i (sym (known-lowered_all (train_of e) gone order) ∙ z);
        held = clean-held;
      }

  -- ---- rule 7: the new mark is the next stamp, and what is put back is latest
  marks_after : All (MarkGiven s.next) (leaf_marks (clean s).store.pages)
  marks_after =
      let H = sound-holds s h in
      let C = clean_step_tree s h in
      let given : All (MarkGiven s.next) (s.next ∷ C.other_marks) =
      more (record { least = H.ranges.header.next_least; most = omega arith }) (tail_of (all_reordered C.marks_before (leaves-marked s H.rule7).marks)) in
      all_map C.marks λ m i. all_member given i

  obsolete_after : All (ObsoleteBelow s.memo) (marked (clean s).store.pages)
  unfolding is_obsolete
  obsolete_after =
      let C = clean_step_tree s h in
      let latest = is_latest s.memo in
      let q = page_at s.pages (leaf_to_clean s.pages) in
      let put_back : All (λ k. latest k.entry ≡ true) C.kept =
      all_unmapped (λ k. k.entry) C.kept (all_reordered (back C.kept_entries) (all_kept latest (always (λ e z. z) q.places))) in
      all_reordered (back C.marked)
      (all_append
      (all_map put_back λ k l o. absurd (not_both (latest k.entry) l (not-true _ o)))
      (all_back (map (with_mark q.mark) q.places) C.others (all_reordered C.marked_before (leaves-marked s (sound-holds s h).rule7).obsolete)))

  -- ---- the theorems
  -- every entry still held is latest after it exactly if it was before
  pub clean_latest : All (λ e. is_latest (clean s).store.memo e ≡ is_latest s.memo e) (held (clean s).store)
  clean_latest = latest_same s (cleaned_out s) (clean s).store (sound-holds s h) clean_sheds

  -- the store stays sound
  pub clean-sound : sound (clean s).store ≡ true
  clean-sound = sheds_sound s (cleaned_out s) (clean s).store (sound-holds s h) clean_sheds marks_after obsolete_after

  -- the live list and every query's answer stay
  pub clean-live : live (clean s).store ≡ live s
  clean-live = live_same s (cleaned_out s) (clean s).store (sound-holds s h) clean_sheds

  pub clean_rows : (w : Window) → rows_in (clean s).store w ≡ rows_in s w
  clean_rows w = rows_same s (cleaned_out s) (clean s).store (sound-holds s h) clean_sheds w

  -- the count is how many entries have gone
  pub clean-count : (clean s).count + length (held (clean s).store) ≡ length (held s)
  unfolding clean cleaned_out
  clean-count = omega (arith, length_reordered clean-held, length-append (cleaned_out s) (held (clean s).store))

-- no board changes
pub clean_boards : (s : Store) → (clean s).store.boards ≡ s.boards
unfolding clean
clean_boards s = refl
