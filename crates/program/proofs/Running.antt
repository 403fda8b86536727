-- What running the steps of an input on an accepted store comes to. Assumes nothing.
use Prim.Native.Nat.{ℕ, ◌+◌, ◌*◌, ◌/◌, ◌%◌, ◌≤◌}
use native.Mathlib.Omega.{arith}
use mathlib.Core.Path.{◌≡◌, refl, sym, ◌∙◌, ap}
use mathlib.Core.Bool.{true, false}
use mathlib.Core.List.{List, map}
use lib.Dec.{eqb}
use lib.ListN.{length, take}
use lib.Seq.{length-take-le}
use borrow.Author.Tests.{eq-eqb}
use Rattle.rules.specs.Lists.{cut}
use Rattle.rules.specs.Store.{Store, words, store_of}
use Rattle.rules.specs.Sound.{sound}
use Rattle.rules.specs.Numbers.{first_met}
use Rattle.rules.specs.Steps.{Ran, step_of, run}
use Rattle.rules.specs.Calls.{RunCall, store_tests, run_number, ran_by, run_call}
use Rattle.rules.specs.laws.Numbers.{unmet}
use Rattle.rules.specs.theorems.WordsAndBack.{words_read, sound-in_range, words_accepted, accepted_words}
use Rattle.theorems.specs.EveryStep.{run_sound}
use Rattle.std.specs.Prelude.{Result, Ok, Err}
use Rattle.std.specs.Result.{IsOk}
use Rattle.text.specs.declared.BadLine.{BadLine}
use Rattle.rules.specs.declared.refusal.Refusal.{Refusal as Reason}
use Rattle.rules.specs.Refused.{answer_number}
use Rattle.program.proofs.Boards.{numbered}
use Rattle.text.specs.Reading.{good, has_bad, steps_in}
use Rattle.text.specs.Printing.{bad_line, step_lines}
use Rattle.text.specs.Program.{boards_from, steps_printed}
use Rattle.text.specs.Laid.{Laid, both_laid, laid_length}
use Rattle.text.specs.Laws.{words_enough}
use Rattle.text.specs.Promised.{StepsRead, steps_back, good_count, bad_met}
use Rattle.program.specs.Parts.{Accepted, StepsRun}

-- ---- the call
module _ (w steps answers : List ℕ) (ok : Accepted w) (many : length steps ≡ 6 * (length steps / 6)) (twice : length answers ≡ 2 * (length steps / 6)) where
  done : run_number w steps answers ≡ 0
  unfolding run_number store_tests first_met
  done =
      let u = unmet (store_tests w) (omega arith) ok in
      let whole : eqb (length steps % 6) 0 ≡ true = eq-eqb (length steps % 6) 0 (omega arith) in
      let paired : eqb (length answers) (2 * (length steps / 6)) ≡ true = eq-eqb (length answers) (2 * (length steps / 6)) (omega arith) in
      rw (u.0, u.1.0, u.1.1.0, u.1.1.1.0, whole, paired)

  abbrev ran : Ran
  ran = run (store_of w) (map step_of (cut (length steps / 6) 6 steps))

  called : run_call w steps answers ≡ record { number = 0; store = words ran.store; answers = ran.answers }
  unfolding run_call ran_by
  called = rw done

  module _ (r : Result (Unit {0}) Reason) (w' answers' : List ℕ) (call : run_call w steps answers ≡ record { number = answer_number r; store = w'; answers = answers' }) where
    same : ◌≡◌ {A = RunCall} (record { number = answer_number r; store = w'; answers = answers' }) (record { number = 0; store = words ran.store; answers = ran.answers })
    same = sym call ∙ called

    pub run_done : IsOk r
    run_done = go r (ap (λ c. c.number) same)
      where
        go : (r : Result (Unit {0}) Reason) → answer_number r ≡ 0 → IsOk r
        go (Ok x) e = refl
        go (Err f) e = absurd (numbered f e)

    pub steps_ran : StepsRun (cut (length steps / 6) 6 steps) w w' answers'
    steps_ran =
        let kept = ap (λ c. c.store) same in
        let still = run_sound (store_of w) (map step_of (cut (length steps / 6) 6 steps)) (accepted_words w ok).1 in
        record { kept = kept; accepted = rw kept (words_accepted ran.store still); answered = ap (λ c. c.answers) same }

-- ---- the lines of an input: read, run and told
module _ (ls : List (List ℕ)) (w steps : List ℕ) (read : Result ℕ BadLine) (steps' : List ℕ) (ok : Accepted w) (taken : StepsRead ls steps read steps') (n : ℕ) (count : n ≡ good_count read) where
  abbrev part : List ℕ
  part = take (6 * n) steps'

  abbrev after : Store
  after = (run (store_of w) (map step_of (steps_in ls))).store

  sixth : length part / 6 ≡ n
  sixth =
      let room : 6 * n ≤ length steps' = omega (arith, count, taken.counted, taken.read.room, laid_length taken.read, words_enough ls) in
      omega (arith, length-take-le (6 * n) steps' room)

  parted : cut (length part / 6) 6 part ≡ steps_in ls
  parted = rw (sixth, count) (steps_back ls steps read steps' taken)

  after_sound : sound after ≡ true
  after_sound = run_sound (store_of w) (map step_of (steps_in ls)) (accepted_words w ok).1

  module _ (w' answers : List ℕ) (ran : StepsRun (cut (length part / 6) 6 part) w w' answers) where
    pub store_after : w' ≡ words after
    store_after = rw parted at ran.kept

    module _ (out : List ℕ) (at : ℕ) (mid : List ℕ) (to : ℕ) (told : Laid out at (step_lines (cut (length part / 6) 6 part) answers) mid to) where
      lines-told : Laid out at (step_lines (steps_in ls) (run (store_of w) (map step_of (steps_in ls))).answers) mid to
      lines-told = rw (ran.answered, parted) at told

      pub ends_bad : (bad : BadLine) → read ≡ Err bad → (out' : List ℕ) (end : ℕ) → Laid mid to (bad_line (bad.after + 2)) out' end → Laid out at (steps_printed (store_of w) ls) out' end
      unfolding steps_printed
      ends_bad bad q out' end l =
          let b : has_bad ls ≡ true = sym taken.ended ∙ ap bad_met q in
          let g : bad.after ≡ good ls = sym (ap good_count q) ∙ taken.counted in
          rw b (both_laid lines-told (rw g at l))

      pub ends_well : (k : ℕ) → read ≡ Ok k → (out' : List ℕ) (end : ℕ) → Laid mid to (boards_from 0 (store_of w').boards) out' end → Laid out at (steps_printed (store_of w) ls) out' end
      unfolding steps_printed
      ends_well k q out' end l =
          let b : has_bad ls ≡ false = sym taken.ended ∙ ap bad_met q in
          let s : store_of w' ≡ after = ap store_of store_after ∙ words_read after (sound-in_range after after_sound) in
          rw b (both_laid lines-told (rw s at l))
