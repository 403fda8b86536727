-- A withdrawal that is accepted: the store stays sound, holds the same entries, and the train leaves the live list.
use Rattle.std.proofs.Common.{arith, sym, ◌∙◌}
use Rattle.std.specs.Prelude.{◌≡◌, refl, true}
use Rattle.std.proofs.Math.Path.{ap}
use Rattle.std.proofs.Math.Bool.{false}
use Rattle.std.proofs.lemmas.Bool.{false≢true}
use Rattle.std.proofs.lemmas.List.{length-map}
use Rattle.rules.specs.Lists.{keep}
use Rattle.rules.specs.Store.{Store}
use Rattle.rules.specs.Live.{held, live, row_removed}
use Rattle.rules.specs.Boards.{untold}
use Rattle.rules.specs.Sound.{sound}
use Rattle.rules.specs.declared.Step.{Step}
use Rattle.rules.specs.Steps.{its_train, reported_box, refusal, withdraw}
use Rattle.rules.specs.Views.{sound-holds}
use Rattle.rules.specs.laws.All.{all_map, all_members}
use Rattle.rules.specs.laws.Boards.{untold-closed, untold_fewer}
use Rattle.rules.specs.laws.Order.{same}
use Rattle.rules.specs.theorems.Query.{untold_window, untold_isopen, untold_shows}
use Rattle.theorems.specs.TreeSound.{tree_of-sound, tree_kept, held_kept}
use Rattle.theorems.specs.Accepted.{accepted_withdrawal}
use Rattle.theorems.specs.Stamped.{entry_of, Put, Allowed, live_after, rule5_after, sound_after}
use Rattle.theorems.specs.Told.{told-in_range, told_open}

module _ (s : Store) (x : Step) (e : sound s ≡ true) (k : x.kind ≡ 2) (a : refusal s x ≡ 0) where
  allowed : Allowed false s (its_train x) (reported_box x)
  allowed =
      record {
        stamped = (accepted_withdrawal s x a k).stamped;
        proper = λ f. absurd (false≢true f);
        entry_room = λ f. absurd (false≢true f);
      }

  nothing_put : Put false s (entry_of s (its_train x) (reported_box x)) (withdraw s x).store
  unfolding withdraw
  nothing_put =
      record {
        sound = tree_kept s _ _ _ (tree_of-sound s e);
        long = refl;
        held = same (held_kept s _ _ _);
        mark = s.next;
        marked = same refl;
        marks_before = all_members _ λ m h. h;
      }

  -- it holds the same entries
  pub withdraw-held : held (withdraw s x).store ≡ held s
  unfolding withdraw
  withdraw-held = held_kept s _ _ _

  -- the train leaves the live list
  pub withdraw-live : live (withdraw s x).store ≡ row_removed (its_train x) (live s)
  unfolding withdraw
  withdraw-live = live_after false s (its_train x) (reported_box x) _ _ (sound-holds s e) allowed nothing_put

  -- the store stays sound
  pub withdraw-sound : sound (withdraw s x).store ≡ true
  unfolding withdraw
  withdraw-sound =
      let S = sound-holds s e in
      let t = its_train x in
      sound_after false s t (reported_box x) _ _ S allowed nothing_put
      (length-map s.boards (untold t))
      (told-in_range (untold t) (untold_window t) (untold_isopen t) (untold-closed t)
      (all_map S.ranges.boards λ b h. omega (arith, untold_fewer t b, h.rows_most)) S.ranges.boards)
      (told_open (untold t) (untold_window t) (untold_isopen t) s _ S.rule5 (rule5_after false s t (reported_box x) _ _ S allowed nothing_put)
      (λ b o h. untold_shows t b (live s) o h ∙ ap (keep _) (sym withdraw-live)) S.rule8.boards)
