-- A run under way: the steps so far have left what a run of them leaves, and answered what it answers.
use Rattle.std.specs.Prelude.{ℕ, ◌+◌, ◌-◌, ◌*◌, ◌/◌, ◌≤◌, ◌<◌, ◌≡◌, refl, List, [], ◌∷◌, ◌++◌, map, length, get_or, take, drop}
use Rattle.std.proofs.Common.{arith, sym, ◌∙◌, ap, append_assoc, drop-drop}
use Rattle.std.proofs.lemmas.List.{length-map, map_more}
use Rattle.std.proofs.Math.Seq.{take_all, take_at, drop_at}
use Rattle.std.proofs.Math.ListN.{length-take, drop_of_length-le}
use mathlib.Core.List.{append-nil}
use borrow.Rule.Slice.PartMut.{put_mid}
use Rattle.rules.specs.declared.Step.{Step}
use Rattle.rules.specs.Lists.{cut}
use Rattle.rules.specs.Store.{Store, words, store_of}
use Rattle.rules.specs.Steps.{step_of, step, run}
use Rattle.rules.specs.laws.Places.{cut-length}
use Rattle.theorems.specs.EveryStep.{run_on, two_words}
use Rattle.steps.specs.Stepping.{Given, Stepped, given_next}

-- after the first i of the steps, six words each in xs: the lent store w holds h entries, and behind the answers to these steps stand those that were lent
pub record Running (s : Store) (xs : List (List ℕ)) (lent : List ℕ) (i : ℕ) (w : List ℕ) (h : ℕ) (answers : List ℕ) : Type 0 where
  pub given : Given w h
  pub stored : store_of w ≡ (run s (map step_of (take i xs))).store
  pub answered : answers ≡ (run s (map step_of (take i xs))).answers ++ drop (2 * i) lent

-- what a run of all the steps in v leaves in the lent store w and in the answers
pub record RanAll (w v w' answers : List ℕ) : Type 0 where
  pub stored : w' ≡ words (run (store_of w) (map step_of (cut (length v / 6) 6 v))).store
  pub answered : answers ≡ (run (store_of w) (map step_of (cut (length v / 6) 6 v))).answers

-- ---- a run of one step more
last_store : (s : Store) (xs : List Step) (x : Step) → (run s (xs ++ (x ∷ []))).store ≡ (step (run s xs).store x).store
unfolding run
last_store s xs x = run_on s xs (x ∷ [])

last_answers : (s : Store) (xs : List Step) (x : Step)
    → (run s (xs ++ (x ∷ []))).answers ≡ (run s xs).answers ++ ((step (run s xs).store x).number ∷ (step (run s xs).store x).count ∷ [])
unfolding run
last_answers s [] x = refl
last_answers s (y ∷ ys) x = ap (λ a. (step s y).number ∷ (step s y).count ∷ a) (last_answers (step s y).store ys x)

-- before the first step
pub running_first : (w : List ℕ) (xs : List (List ℕ)) (lent : List ℕ) (h : ℕ) → Given w h → Running (store_of w) xs lent 0 w h lent
unfolding run
running_first w xs lent h g = record { given = g; stored = refl; answered = refl }

-- each step has its two words, and one more is run
module _ (s : Store) (xs : List (List ℕ)) (lent : List ℕ) (i : ℕ) (w : List ℕ) (h : ℕ) (answers : List ℕ) (r : Running s xs lent i w h answers) (inside : i < length xs) where
  abbrev done : List ℕ
  done = (run s (map step_of (take i xs))).answers

  done_length : length done ≡ 2 * i
  done_length = two_words s (map step_of (take i xs)) ∙ simp (length-map, length-take) (omega arith)

  pub running_next : (d : List ℕ) (x : Step) (w' : List ℕ) (m c h' : ℕ) (words : List ℕ) → x ≡ step_of (get_or xs i d) → Stepped (step (store_of w) x) w' m c h'
      → words ≡ m ∷ c ∷ [] → Running s xs lent (i + 1) w' h' (put_mid (2 * i) (2 * i + 2 - 2 * i) answers words)
  running_next d x w' m c h' words e t told =
      let more : map step_of (take (i + 1) xs) ≡ map step_of (take i xs) ++ (x ∷ []) = rw e (map_more step_of xs i d inside) in
      let two : 2 * i + 2 - 2 * i ≡ 2 = omega arith in
      let next : 2 * (i + 1) ≡ 2 * i + 2 = omega arith in
      record {
        given = given_next w h x r.given w' m c h' t;
        stored = t.stored ∙ ap (λ u. (step u x).store) r.stored ∙ sym (rw more (last_store s (map step_of (take i xs)) x));
        answered =
            rw (told, two, next, more, last_answers, t.number, t.count, r.stored, r.answered, take_at done (drop (2 * i) lent) (2 * i) done_length, drop_at done (drop (2 * i) lent) (2 * i) done_length, drop-drop, append_assoc);
      }

-- so all have been run
pub ran_all : (w v lent : List ℕ) (xs : List (List ℕ)) (i : ℕ) (w' : List ℕ) (h : ℕ) (answers : List ℕ) → xs ≡ cut (length v / 6) 6 v → length lent ≡ 2 * (length v / 6)
    → Running (store_of w) xs lent i w' h answers → length xs ≤ i → RanAll w v w' answers
ran_all w v lent xs i w' h answers e l r past =
    let n : length xs ≡ length v / 6 = ap length e ∙ cut-length (length v / 6) 6 v in
    let all : take i xs ≡ cut (length v / 6) 6 v = take_all i xs past ∙ e in
    let none : drop (2 * i) lent ≡ [] = drop_of_length-le lent {i = 2 * i} (omega arith) in
    record {
      stored = sym r.given.written ∙ ap words (rw all at r.stored);
      answered = rw (all, none, append-nil) at r.answered;
    }
