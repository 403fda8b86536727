-- Every step, of whatever kind, accepted or refused: what holds before it, and after what each kind does, holds after it. So a run keeps a store sound.
use Rattle.std.specs.Prelude.{ℕ, zero, suc, ◌*◌, ◌≤◌, ◌≡◌, refl, true, false, List, [], ◌∷◌, ◌++◌, length, eqb}
use Rattle.std.proofs.Common.{arith, ne_eqb}
use Rattle.rules.specs.Lists.{one_of}
use Rattle.rules.specs.Store.{Store}
use Rattle.rules.specs.Sound.{sound}
use Rattle.rules.specs.declared.Step.{Step}
use Rattle.rules.specs.Steps.{in_form, refusal, report, withdraw, clean, inspect, open_board, close_board, effect, done, step, run}
use Rattle.rules.specs.Numbers.{first_met}
use Rattle.rules.specs.laws.Tests.{not_both}
use Rattle.theorems.specs.Accepted.{in_its_form}
use Rattle.theorems.specs.Report.{report-sound}
use Rattle.theorems.specs.Withdraw.{withdraw-sound}
use Rattle.theorems.specs.OpenClose.{open_sound, close_sound}
use Rattle.theorems.specs.Inspect.{inspect-sound}
use Rattle.theorems.specs.Clean.{clean-sound}

-- a step in form has one of the kinds 1 to 6
pub no_kind : (x : Step) → (1 ≤ x.kind → x.kind ≤ 6 → ⊥) → in_form x ≡ false
unfolding in_form one_of
no_kind x d = rw (other 1 (omega arith) (omega arith), other 2 (omega arith) (omega arith), other 3 (omega arith) (omega arith), other 4 (omega arith) (omega arith), other 5 (omega arith) (omega arith), other 6 (omega arith) (omega arith))
  where
    other : (n : ℕ) → 1 ≤ n → n ≤ 6 → eqb x.kind n ≡ false
    other n a b = ne_eqb x.kind n λ q. d (omega arith) (omega arith)

-- a clean that is in form is never refused
pub clean_accepted : (s : Store) (x : Step) → x.kind ≡ 3 → in_form x ≡ true → refusal s x ≡ 0
unfolding refusal first_met
clean_accepted s x k f = rw (f, k)

-- and so is an inspection
pub inspect_accepted : (s : Store) (x : Step) → x.kind ≡ 4 → in_form x ≡ true → refusal s x ≡ 0
unfolding refusal first_met
inspect_accepted s x k f = rw (f, k)

-- P of the store before a step that is refused, and after each kind of step that is accepted
pub record ByKind (P : Store → Type 0) (s : Store) (x : Step) : Type 0 where
  pub unchanged : (refusal s x ≡ 0 → ⊥) → P s
  pub reported : x.kind ≡ 1 → refusal s x ≡ 0 → P (report s x).store
  pub withdrawn : x.kind ≡ 2 → refusal s x ≡ 0 → P (withdraw s x).store
  pub cleaned : x.kind ≡ 3 → refusal s x ≡ 0 → P (clean s).store
  pub inspected : x.kind ≡ 4 → refusal s x ≡ 0 → P (inspect s).store
  pub opened : x.kind ≡ 5 → refusal s x ≡ 0 → P (open_board s x).store
  pub closed : x.kind ≡ 6 → refusal s x ≡ 0 → P (close_board s x).store

-- is P of the store after it
pub by_kind : (P : Store → Type 0) (s : Store) (x : Step) → ByKind P s x → P (step s x).store
unfolding step done effect
by_kind P s x h = go (refusal s x) refl
  where
    accepted : refusal s x ≡ 0 → (k : ℕ) → x.kind ≡ k → P (effect k s x).store
    accepted a zero q = absurd (not_both (in_form x) (in_its_form s x a) (no_kind x (omega arith)))
    accepted a (suc zero) q = h.reported q a
    accepted a (suc (suc zero)) q = h.withdrawn q a
    accepted a (suc (suc (suc zero))) q = h.cleaned q a
    accepted a (suc (suc (suc (suc zero)))) q = h.inspected q a
    accepted a (suc (suc (suc (suc (suc zero))))) q = h.opened q a
    accepted a (suc (suc (suc (suc (suc (suc zero)))))) q = h.closed q a
    accepted a (suc (suc (suc (suc (suc (suc (suc k))))))) q = absurd (not_both (in_form x) (in_its_form s x a) (no_kind x (omega arith)))

    go : (n : ℕ) → refusal s x ≡ n → P (done s x n).store
    go zero a = accepted a x.kind refl
    go (suc n) a = h.unchanged λ z. omega arith

-- ---- a sound store stays sound
pub step-sound : (s : Store) (x : Step) → sound s ≡ true → sound (step s x).store ≡ true
step-sound s x h =
    by_kind (λ u. sound u ≡ true) s x
    (record {
      unchanged = λ r. h;
      reported = report-sound s x h;
      withdrawn = withdraw-sound s x h;
      cleaned = λ k a. clean-sound s h;
      inspected = λ k a. inspect-sound s h;
      opened = λ k a. open_sound s x k a h;
      closed = λ k a. close_sound s x k a h;
    })

-- over every run
pub run_sound : (s : Store) (xs : List Step) → sound s ≡ true → sound (run s xs).store ≡ true
unfolding run
run_sound s [] h = h
run_sound s (x ∷ xs) h = run_sound (step s x).store xs (step-sound s x h)

-- ---- runs
-- one run after another is the run of all their steps
pub run_on : (s : Store) (xs ys : List Step) → (run s (xs ++ ys)).store ≡ (run (run s xs).store ys).store
unfolding run
run_on s [] ys = refl
run_on s (x ∷ xs) ys = run_on (step s x).store xs ys

-- each step is answered by two words
pub two_words : (s : Store) (xs : List Step) → length (run s xs).answers ≡ 2 * length xs
unfolding run
two_words s [] = refl
two_words s (x ∷ xs) = let later = two_words (step s x).store xs in omega arith
