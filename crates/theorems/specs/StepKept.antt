-- A step, whatever its number: a refused one changes nothing; an accepted one keeps the store sound and does to the live list what its kind says.
use Rattle.std.specs.Prelude.{ℕ, zero, suc, ◌≡◌, refl, true, List}
use Rattle.std.proofs.Common.{◌∙◌, ap}
use Rattle.rules.specs.declared.Row.{Row}
use Rattle.rules.specs.Lists.{keep}
use Rattle.rules.specs.Boxes.{meets}
use Rattle.rules.specs.Boards.{is_open}
use Rattle.rules.specs.Store.{Store, board_at}
use Rattle.rules.specs.Live.{live, row_inserted, row_removed}
use Rattle.rules.specs.Sound.{sound}
use Rattle.rules.specs.declared.Step.{Step}
use Rattle.rules.specs.Steps.{Effect, Done, its_train, reported_row, refusal, report, withdraw, clean, inspect, open_board, close_board, effect, done, step}
use Rattle.theorems.specs.BoardsAfter.{open_shown}
use Rattle.theorems.specs.Report.{report-sound, report-live}
use Rattle.theorems.specs.Withdraw.{withdraw-sound, withdraw-live}
use Rattle.theorems.specs.Inspect.{inspect-sound, inspect-live}
use Rattle.theorems.specs.Clean.{clean-sound, clean-live}
use Rattle.theorems.specs.OpenClose.{open_only, open_sound, close_only, close_sound}

-- ---- what a step answers and leaves
-- the number is that of the refusal
pub step_number : (s : Store) (x : Step) → (step s x).number ≡ refusal s x
unfolding step done
step_number s x = go (refusal s x)
  where
    go : (n : ℕ) → (done s x n).number ≡ n
    go zero = refl
    go (suc n) = refl

-- an accepted step has the effect of its kind
abbrev pub done_with : Effect → Done
done_with f = record { store = f.store; number = 0; count = f.count }

pub step_accepted : (s : Store) (x : Step) → refusal s x ≡ 0 → step s x ≡ done_with (effect x.kind s x)
unfolding step done
step_accepted s x a = ap (done s x) a

-- a refused one leaves the store as it is, and counts 0
pub step_refused : (s : Store) (x : Step) → (refusal s x ≡ 0 → ⊥) → step s x ≡ record { store = s; number = refusal s x; count = 0 }
unfolding step done
step_refused s x r = go (refusal s x) r
  where
    go : (n : ℕ) → (n ≡ 0 → ⊥) → done s x n ≡ record { store = s; number = n; count = 0 }
    go zero h = absurd (h refl)
    go (suc n) h = refl

-- ---- what it keeps
-- the store after the step is sound, and these are its live rows
pub record StepKept (s : Store) (x : Step) (rows : List Row) : Type 0 where
  pub sound : sound (step s x).store ≡ true
  pub live : live (step s x).store ≡ rows

kept_by : (s : Store) (x : Step) (f : Effect) {rows : List Row} → refusal s x ≡ 0 → effect x.kind s x ≡ f → sound f.store ≡ true → live f.store ≡ rows
    → StepKept s x rows
kept_by s x f a q h l =
    let z : (step s x).store ≡ f.store = ap (λ d. d.store) (step_accepted s x a) ∙ ap (λ g. g.store) q in
    record { sound = ap sound z ∙ h; live = ap live z ∙ l }

module _ (s : Store) (x : Step) (e : sound s ≡ true) where
  -- a refused step leaves the live list too
  pub step_kept_refused : (refusal s x ≡ 0 → ⊥) → StepKept s x (live s)
  step_kept_refused r =
      let z : (step s x).store ≡ s = ap (λ d. d.store) (step_refused s x r) in
      record { sound = ap sound z ∙ e; live = ap live z }

  -- a report inserts the train's row, in place of the one it had
  pub step_kept_report : x.kind ≡ 1 → refusal s x ≡ 0 → StepKept s x (row_inserted (reported_row x) (live s))
  unfolding effect
  step_kept_report k a = kept_by s x (report s x) a (ap (λ n. effect n s x) k) (report-sound s x e k a) (report-live s x e k a)

  -- a withdrawal removes the train's row
  pub step_kept_withdrawal : x.kind ≡ 2 → refusal s x ≡ 0 → StepKept s x (row_removed (its_train x) (live s))
  unfolding effect
  step_kept_withdrawal k a = kept_by s x (withdraw s x) a (ap (λ n. effect n s x) k) (withdraw-sound s x e k a) (withdraw-live s x e k a)

  -- cleaning and inspecting leave the live list
  pub step_kept_clean : x.kind ≡ 3 → refusal s x ≡ 0 → StepKept s x (live s)
  unfolding effect
  step_kept_clean k a = kept_by s x (clean s) a (ap (λ n. effect n s x) k) (clean-sound s e) (clean-live s e)

  pub step_kept_inspect : x.kind ≡ 4 → refusal s x ≡ 0 → StepKept s x (live s)
  unfolding effect
  step_kept_inspect k a = kept_by s x (inspect s) a (ap (λ n. effect n s x) k) (inspect-sound s e) (inspect-live s e)

  -- opening and closing a board leave the live list
  pub step_kept_opening : x.kind ≡ 5 → refusal s x ≡ 0 → StepKept s x (live s)
  unfolding effect
  step_kept_opening k a = kept_by s x (open_board s x) a (ap (λ n. effect n s x) k) (open_sound s x k a e) (open_only s x k a).live

  pub step_kept_closing : x.kind ≡ 6 → refusal s x ≡ 0 → StepKept s x (live s)
  unfolding effect
  step_kept_closing k a = kept_by s x (close_board s x) a (ap (λ n. effect n s x) k) (close_sound s x k a e) (close_only s x k a).live

-- ---- and then every open board shows those live rows that meet its window
pub kept_shown : (s : Store) (x : Step) {rows : List Row} → StepKept s x rows → (j : ℕ) → is_open (board_at (step s x).store j) ≡ true
    → (board_at (step s x).store j).rows ≡ keep (λ r. meets r.bounds (board_at (step s x).store j).window) rows
kept_shown s x k j o = (open_shown (step s x).store k.sound j o).live ∙ ap (keep _) k.live
