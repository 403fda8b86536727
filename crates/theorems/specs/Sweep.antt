-- Cleans in a run, whatever other steps are in between: once they are more than the entries that are behind and the reports, every leaf is past the stamp.
use Rattle.std.specs.Prelude.{ℕ, suc, ◌<◌, ◌≤◌, ◌+◌, ◌≡◌, Bool, true, false, ◌&&◌, List, [], ◌∷◌}
use Rattle.std.proofs.Common.{arith, sym, subst, leb-true, leb-false, ne_eqb, eq-eqb, eqb-true}
use Rattle.std.proofs.Math.Path.{refl, ap}
use Rattle.std.proofs.Math.Dec.{leb}
use Rattle.rules.specs.Lists.{count, one_if}
use Rattle.rules.specs.Store.{Store}
use Rattle.rules.specs.Sound.{sound}
use Rattle.rules.specs.declared.Step.{Step}
use Rattle.rules.specs.Steps.{is_report, is_clean, in_form, refusal, report, withdraw, clean, inspect, open_board, close_board, step, run}
use Rattle.rules.specs.laws.Tests.{and_left, and_right}
use Rattle.rules.specs.laws.All.{All, all_map, all_member}
use Rattle.rules.specs.laws.Order.{count_reordered}
use Rattle.theorems.specs.Leaves.{MarkedEntry, marked, leaf_marks}
use Rattle.theorems.specs.Report.{report_in_tree}
use Rattle.theorems.specs.EveryStep.{clean_accepted, by_kind, step-sound}
use Rattle.theorems.specs.Garbage.{Past}
use Rattle.theorems.specs.Progress.{behind, clean_past, clean_progress, clean_arrives}

-- a clean, in form
abbrev pub is_cleaning : Step → Bool
is_cleaning x = is_clean x && in_form x

-- a store from which r reports and c cleans make all leaves past T: they are already, or the cleans are more than the entries behind and the reports
data Ahead (T : ℕ) (s : Store) (r c : ℕ) : Type 0 where
  past : Past T s → Ahead T s r c
  near : behind T s + r < c → Ahead T s r c

-- with fewer reports and more cleans too
ahead_less : {T : ℕ} {s : Store} {r c r' c' : ℕ} → r' ≤ r → c ≤ c' → Ahead T s r c → Ahead T s r' c'
ahead_less h k (past a) = past a
ahead_less h k (near few) = near (omega arith)

at_most_one : (b : Bool) → one_if b ≤ 1
at_most_one true = omega arith
at_most_one false = omega arith

-- ---- one step
module _ (T : ℕ) (s : Store) (x : Step) where
  -- a step that changes no page
  ahead_same : (u : Store) {r c : ℕ} → u.pages ≡ s.pages → Ahead T s r c → Ahead T u r c
  unfolding behind
  ahead_same u q (past a) = past (subst (λ ps. All (λ m. T < m.0) (leaf_marks ps)) (sym q) a)
  ahead_same u q (near h) = near (omega (arith, ap (λ ps. count (λ k. leb k.mark.0 T) (marked ps)) q))

  -- a report puts one entry more into a leaf, and no leaf has a mark that none had
  ahead_report : sound s ≡ true → x.kind ≡ 1 → refusal s x ≡ 0 → {r c : ℕ} → Ahead T s (1 + r) c → Ahead T (report s x).store r c
  unfolding behind count
  ahead_report h k a (past b) = past (all_map (report_in_tree s x h k a).marks_before λ m i. all_member b i)
  ahead_report h k a (near few) =
      let R = report_in_tree s x h k a in
      near (omega (arith, count_reordered (λ (k : MarkedEntry). leb k.mark.0 T) R.marked, at_most_one (leb R.mark.0 T)))

  -- a clean leaves fewer behind, or none
  ahead_clean : sound s ≡ true → T < s.next.0 → {r c : ℕ} → Ahead T s r (suc c) → Ahead T (clean s).store r c
  ahead_clean h given (past a) = past (clean_past s h T given a)
  ahead_clean h given {r} {c} (near few) = go (leb 1 (behind T s)) refl
    where
      go : (b : Bool) → leb 1 (behind T s) ≡ b → Ahead T (clean s).store r c
      go true e = clean_progress s h T given (leb-true _ _ e) (λ a. past (clean_past s h T given a)) (λ f. near (omega arith))
      go false e = past (clean_arrives s h T given (omega (arith, leb-false 1 (behind T s) e)))

  -- a step of another kind is no clean, and neither is one that is refused
  not_cleaning : (x.kind ≡ 3 → ⊥) → is_cleaning x ≡ false
  not_cleaning d = ap (λ b. b && in_form x) (ne_eqb x.kind 3 d)

  refused : (refusal s x ≡ 0 → ⊥) → (b : Bool) → is_cleaning x ≡ b → b ≡ false
  refused n true q = absurd (n (clean_accepted s x (eqb-true x.kind 3 (and_left (is_clean x) (in_form x) q)) (and_right (is_clean x) (in_form x) q)))
  refused n false q = refl

  -- what is no clean, counts for nothing or as a report
  module _ {r c : ℕ} (a : Ahead T s (one_if (is_report x) + r) (one_if (is_cleaning x) + c)) where
    uncounted : is_cleaning x ≡ false → Ahead T s r c
    uncounted n = let none : one_if (is_cleaning x) ≡ 0 = ap one_if n in ahead_less (omega arith) (omega arith) a

    step_ahead : sound s ≡ true → T < s.next.0 → Ahead T (step s x).store r c
    unfolding withdraw inspect open_board close_board
    step_ahead h given =
        by_kind (λ u. Ahead T u r c) s x
        (record {
          unchanged = λ n. uncounted (refused n (is_cleaning x) refl);
          reported =
              λ k e.
              let one : one_if (is_report x) ≡ 1 = ap one_if (eq-eqb x.kind 1 k) in
              let none : one_if (is_cleaning x) ≡ 0 = ap one_if (not_cleaning (omega arith)) in
              ahead_report h k e (ahead_less (omega arith) (omega arith) a);
          withdrawn = λ k e. ahead_same (withdraw s x).store refl (uncounted (not_cleaning (omega arith)));
          cleaned = λ k e. ahead_clean h given (ahead_less (omega arith) (omega (arith, at_most_one (is_cleaning x))) a);
          inspected = λ k e. ahead_same (inspect s).store refl (uncounted (not_cleaning (omega arith)));
          opened = λ k e. ahead_same (open_board s x).store refl (uncounted (not_cleaning (omega arith)));
          closed = λ k e. ahead_same (close_board s x).store refl (uncounted (not_cleaning (omega arith)));
        })

-- no step takes a stamp back
pub next_stays : (T : ℕ) (s : Store) (x : Step) → T < s.next.0 → T < (step s x).store.next.0
unfolding report withdraw clean inspect open_board close_board
next_stays T s x given =
    by_kind (λ u. T < u.next.0) s x
    (record {
      unchanged = λ n. given;
      reported = λ k e. omega arith;
      withdrawn = λ k e. omega arith;
      cleaned = λ k e. given;
      inspected = λ k e. given;
      opened = λ k e. given;
      closed = λ k e. given;
    })

-- ---- a run
run_ahead : (T : ℕ) (xs : List Step) (s : Store) → sound s ≡ true → T < s.next.0 → Ahead T s (count is_report xs) (count is_cleaning xs) → Past T (run s xs).store
unfolding run count
run_ahead T [] s h given (past a) = a
run_ahead T [] s h given (near few) = absurd (omega arith)
run_ahead T (x ∷ xs) s h given a = run_ahead T xs (step s x).store (step-sound s x h) (next_stays T s x given) (step_ahead T s x a h given)

-- a run with more cleans than entries stand in leaves whose mark is at most T and reports come, takes every leaf past T
pub run_past : (T : ℕ) (xs : List Step) (s : Store) → sound s ≡ true → T < s.next.0 → behind T s + count is_report xs < count is_cleaning xs → Past T (run s xs).store
run_past T xs s h given enough = run_ahead T xs s h given (near enough)
