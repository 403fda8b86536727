-- A report that is accepted: the store stays sound, holds the new entry besides the old ones, and the live list has the train's new row.
use Rattle.std.specs.Prelude.{◌≡◌, ◌∷◌}
use Rattle.std.proofs.Math.Path.{refl, ap}
use Rattle.std.proofs.Common.{sym, ◌∙◌}
use Rattle.std.proofs.Math.Bool.{true}
use Rattle.std.proofs.lemmas.List.{length-map}
use Rattle.rules.specs.Lists.{keep}
use Rattle.rules.specs.Store.{Store}
use Rattle.rules.specs.Live.{held, live, row_inserted}
use Rattle.rules.specs.Boards.{told}
use Rattle.rules.specs.Sound.{sound}
use Rattle.rules.specs.declared.Step.{Step}
use Rattle.rules.specs.Steps.{its_train, reported_box, reported_row, refusal, report}
use Rattle.rules.specs.Views.{sound-holds}
use Rattle.rules.specs.laws.Order.{◌~◌}
use Rattle.rules.specs.laws.Boards.{told-closed}
use Rattle.rules.specs.theorems.Query.{told_window, told_isopen, told_shows, live_ascends}
use Rattle.theorems.specs.TreeSound.{tree_of-sound}
use Rattle.theorems.specs.ReportTree.{Reported, report_tree}
use Rattle.theorems.specs.Accepted.{accepted_report}
use Rattle.theorems.specs.Stamped.{entry_of, Put, Allowed, live_after, rule5_after, sound_after}
use Rattle.theorems.specs.Told.{told-in_range, told_open}

module _ (s : Store) (x : Step) (e : sound s ≡ true) (k : x.kind ≡ 1) (a : refusal s x ≡ 0) where
  allowed : Allowed true s (its_train x) (reported_box x)
  allowed =
      let w = accepted_report s x a k in
      record {
        stamped = w.stamped;
        proper = λ f. w.proper;
        entry_room = λ f. w.entry_room;
      }

  -- what a report does to the tree
  pub report_in_tree : Reported s (entry_of s (its_train x) (reported_box x)) (report s x).store
  unfolding report
  report_in_tree =
      report_tree s (entry_of s (its_train x) (reported_box x)) (report s x).store (tree_of-sound s e) (accepted_report s x a k).entry_room refl

  entry_put : Put true s (entry_of s (its_train x) (reported_box x)) (report s x).store
  entry_put =
      let R = report_in_tree in
      record { sound = R.sound; long = R.long; held = R.held; mark = R.mark; marked = R.marked; marks_before = R.marks_before }

  -- it holds the new entry besides the old ones
  pub report-held : held (report s x).store ~ (entry_of s (its_train x) (reported_box x) ∷ held s)
  report-held = report_in_tree.held

  -- the train's new row comes into the live list, in place of the one it had
  pub report-live : live (report s x).store ≡ row_inserted (reported_row x) (live s)
  unfolding report
  report-live = live_after true s (its_train x) (reported_box x) _ _ (sound-holds s e) allowed entry_put

  -- the store stays sound
  pub report-sound : sound (report s x).store ≡ true
  unfolding report
  report-sound =
      let S = sound-holds s e in
      let r = reported_row x in
      sound_after true s (its_train x) (reported_box x) _ _ S allowed entry_put
      (length-map s.boards (told r))
      (told-in_range (told r) (told_window r) (told_isopen r) (told-closed r) (accepted_report s x a k).rows_room S.ranges.boards)
      (told_open (told r) (told_window r) (told_isopen r) s _ S.rule5 (rule5_after true s (its_train x) (reported_box x) _ _ S allowed entry_put)
      (λ b o h. told_shows r b (live s) o (live_ascends s) h ∙ ap (keep _) (sym report-live)) S.rule8.boards)
