-- Property 1 of source document 003: once every leaf has been cleaned since a moment, no entry that was obsolete at that moment is held.
use Rattle.std.specs.Prelude.{ℕ, suc, ◌<◌, ◌≤◌, ◌≡◌, refl, true, false, ◌&&◌, eqb}
use Rattle.std.proofs.Common.{arith, sym, ◌∙◌, true≢false}
use Rattle.std.proofs.Math.Path.{ap, subst}
use Rattle.std.proofs.Math.Bool.{not}
use mathlib.Core.List.{List, [], ◌∷◌, map}
use borrow.Author.Tests.{leb-true}
use Rattle.rules.specs.declared.Train.{Train}
use Rattle.rules.specs.declared.Stamp.{Stamp}
use Rattle.rules.specs.declared.Entry.{Entry}
use Rattle.rules.specs.declared.Step.{Step}
use Rattle.rules.specs.declared.LookUp.{LookUp}
use Rattle.rules.specs.declared.LookUp.TheVariants.{Absent, Found}
use Rattle.rules.specs.Lists.{keep}
use Rattle.rules.specs.Store.{Store, train_of, page_at}
use Rattle.rules.specs.Memo.{look_up, latest_by, is_latest, is_obsolete, noted}
use Rattle.rules.specs.Live.{held}
use Rattle.rules.specs.Cleaning.{leaf_to_clean}
use Rattle.rules.specs.Sound.{not_above, sound}
use Rattle.rules.specs.Steps.{its_train, refusal, report, withdraw, clean, inspect, open_board, close_board, step, run}
use Rattle.rules.specs.Views.{NotAbove, sound-holds, not_above_test}
use Rattle.rules.specs.laws.Tests.{not_both}
use Rattle.rules.specs.laws.All.{All, more, all_map, all_zip, all_append, all_front, all_back, all_kept, all_mapped, all_unmapped, all_member, Mem}
use Rattle.rules.specs.laws.Order.{back, all_reordered}
use Rattle.rules.specs.laws.Memo.{known, in_order, latest_known, not_above-known}
use Rattle.rules.specs.laws.Noting.{latest_noted}
use Rattle.rules.specs.laws.Obsolete.{SlotSaid, slot_said}
use Rattle.theorems.specs.TreeSound.{tree_of-sound}
use Rattle.theorems.specs.Leaves.{MarkedEntry, with_mark, marked}
use Rattle.theorems.specs.HeldLeaves.{held-marked}
use Rattle.theorems.specs.Marks.{ObsoleteBelow, leaves-marked}
use Rattle.theorems.specs.CleanTree.{clean_step_tree}
use Rattle.theorems.specs.Report.{report_in_tree}
use Rattle.theorems.specs.Clean.{clean_latest}
use Rattle.theorems.specs.Inspect.{marks_of_entries, inspect_latest}
use Rattle.theorems.specs.EveryStep.{by_kind, step-sound, run_sound}
use Rattle.theorems.specs.Garbage.{Past}
use Rattle.theorems.specs.Sweep.{next_stays}

-- ---- what a run keeps of an entry that is obsolete: wherever it stands, it is still obsolete, and its leaf's mark is at most T
module _ (T : ℕ) (e : Entry) where
  abbrev Left : Store → MarkedEntry → Type 0
  Left u k = k.entry ≡ e → (k.mark.0 ≤ T) × (is_latest u.memo e ≡ false)

  abbrev Trails : Store → Type 0
  Trails u = All (Left u) (marked u.pages)

  -- at the moment itself: its leaf's mark is at most its slot's stamp, which was given
  module _ (s : Store) (h : sound s ≡ true) (given : s.next.0 ≡ suc T) where
    mark_low : (m : Stamp) (l : LookUp) → SlotSaid s (train_of e) l → not_above l m ≡ true → latest_by l e.stamp ≡ false → m.0 ≤ T
    unfolding not_above latest_by
    mark_low m Absent k n o = absurd (true≢false o)
    mark_low m (Found place latest old) k n o = omega (arith, leb-true m.0 latest.0 n, k.stamp_below)

    trails_first : is_latest s.memo e ≡ false → Trails s
    unfolding is_obsolete
    trails_first o = all_map (leaves-marked s (sound-holds s h).rule7).obsolete λ k n q.
        let t = train_of e in
        let l = known t s.memo in
        let n' : NotAbove (look_up t s.memo) k.mark = subst (λ y. ObsoleteBelow s.memo (with_mark k.mark y)) q n (ap not o) in (
          mark_low k.mark l (slot_said s (sound-holds s h).rule6 t) (sym (not_above-known k.mark t s.memo) ∙ not_above_test _ _ n') (sym (latest_known s.memo e) ∙ o),
          o,
        )

  -- ---- one step
  module _ (s : Store) (x : Step) (h : sound s ≡ true) (given : T < s.next.0) (low : e.stamp.0 ≤ T) (a : Trails s) where
    -- a stamp noted later makes nothing latest that was obsolete
    still : (t : Train) → is_latest s.memo e ≡ false → is_latest (noted t s.next s.memo) e ≡ false
    still t o = latest_noted t s.next (in_order s.memo (sound-holds s h).ranges.memo.ascends) e (omega arith) ∙ ap (λ b. b && not (eqb (train_of e).0 t.0)) o

    after_report : x.kind ≡ 1 → refusal s x ≡ 0 → Trails (report s x).store
    unfolding report
    after_report k c =
        let R = report_in_tree s x h k c in
        all_reordered (back R.marked)
        (more (λ q. absurd (omega (arith, ap (λ y. y.stamp.0) q))) (all_map a λ m l q. ((l q).0, still (its_train x) (l q).1)))

    after_withdrawal : Trails (withdraw s x).store
    unfolding withdraw
    after_withdrawal = all_map a λ m l q. ((l q).0, still (its_train x) (l q).1)

    -- a clean takes it out where it stands in the leaf cleaned, and leaves it with its mark where it does not
    not_kept : All (λ y. y ≡ e → ⊥) (keep (is_latest s.memo) (page_at s.pages (leaf_to_clean s.pages)).places)
    not_kept =
        let C = clean_step_tree s h in
        let q = page_at s.pages (leaf_to_clean s.pages) in
        let there = all_unmapped (with_mark q.mark) q.places (all_front (map (with_mark q.mark) q.places) C.others (all_reordered C.marked_before a)) in
        all_kept (is_latest s.memo) (all_map there λ y l n z. not_both (is_latest s.memo e) (ap (is_latest s.memo) (sym z) ∙ n) (l z).1)

    after_clean : Trails (clean s).store
    after_clean =
        let C = clean_step_tree s h in
        let q = page_at s.pages (leaf_to_clean s.pages) in
        let gone = all_unmapped (λ k. k.entry) C.kept (all_reordered (back C.kept_entries) not_kept) in
        let others = all_back (map (with_mark q.mark) q.places) C.others (all_reordered C.marked_before a) in
        let before : All (Left s) (marked (clean s).store.pages) =
        all_reordered (back C.marked) (all_append (all_map gone λ k n z. absurd (n z)) others) in
        let same = all_unmapped (λ k. k.entry) (marked (clean s).store.pages) (all_reordered (back (held-marked (clean s).store C.sound)) (clean_latest s h)) in
        all_zip before same λ k l n z. ((l z).0, ap (is_latest (clean s).store.memo) (sym z) ∙ n ∙ ap (is_latest s.memo) z ∙ (l z).1)

    after_inspect : Trails (inspect s).store
    unfolding inspect
    after_inspect =
        let same = all_unmapped (λ k. k.entry) (marked s.pages) (all_reordered (back (held-marked s (tree_of-sound s h))) (inspect_latest s h)) in
        all_zip a same λ k l n z. ((l z).0, ap (is_latest (inspect s).store.memo) (sym z) ∙ n ∙ ap (is_latest s.memo) z ∙ (l z).1)

    after_step : Trails (step s x).store
    unfolding open_board close_board
    after_step =
        by_kind Trails s x
        (record {
          unchanged = λ n. a;
          reported = after_report;
          withdrawn = λ k c. after_withdrawal;
          cleaned = λ k c. after_clean;
          inspected = λ k c. after_inspect;
          opened = λ k c. a;
          closed = λ k c. a;
        })

  -- ---- a run
  trails_on : (xs : List Step) (s : Store) → sound s ≡ true → T < s.next.0 → e.stamp.0 ≤ T → Trails s → Trails (run s xs).store
  unfolding run
  trails_on [] s h given low a = a
  trails_on (x ∷ xs) s h given low a = trails_on xs (step s x).store (step-sound s x h) (next_stays T s x given) low (after_step s x h given low a)

-- T is the last stamp given in s; a run goes on from there, until every leaf's mark is above T. What was obsolete in s is then held no more,
-- whatever was reported and withdrawn in between
pub property_1 : (s : Store) (xs : List Step) (T : ℕ) → sound s ≡ true → s.next.0 ≡ suc T → Past T (run s xs).store
    → (e : Entry) → Mem e (held s) → is_latest s.memo e ≡ false → Mem e (held (run s xs).store) → ⊥
property_1 s xs T h given past e i o j =
    let u = (run s xs).store in
    let low = (all_member (sound-holds s h).rule4.stamps i).below in
    let a : Trails T e u = trails_on T e xs s h (omega arith) (omega arith) (trails_first T e s h given o) in
    let apart : All (λ k. k.entry ≡ e → ⊥) (marked u.pages) = all_zip a (marks_of_entries u.pages past) λ k l m q. omega (arith, (l q).0) in
    all_member {P = λ y. y ≡ e → ⊥} (all_reordered (held-marked u (tree_of-sound u (run_sound s xs h))) (all_mapped (λ k. k.entry) apart)) j refl
