-- How many entries are held after an accepted step of each kind: one more after a report, fewer by its count after a clean. Assumes nothing.
use Prim.Native.Nat.{ℕ, ◌+◌, ◌-◌}
use native.Mathlib.Omega.{arith}
use mathlib.Core.Path.{◌≡◌, sym, ◌∙◌, ap}
use mathlib.Core.Bool.{true}
use lib.ListN.{length}
use Rattle.rules.specs.declared.Step.{Step}
use Rattle.rules.specs.Store.{Store}
use Rattle.rules.specs.Live.{held}
use Rattle.rules.specs.Sound.{sound}
use Rattle.rules.specs.Steps.{refusal, report, withdraw, clean, inspect, open_board, close_board}
use Rattle.rules.specs.laws.Order.{length_reordered}
use Rattle.theorems.specs.Report.{report-held}
use Rattle.theorems.specs.Withdraw.{withdraw-held}
use Rattle.theorems.specs.OpenClose.{open_only, close_only}
use Rattle.theorems.specs.Clean.{clean-count}

module _ (s : Store) (x : Step) (n : ℕ) (sound : sound s ≡ true) (counted : n ≡ length (held s)) where
  pub report-entries : x.kind ≡ 1 → refusal s x ≡ 0 → n + 1 ≡ length (held (report s x).store)
  report-entries k a = omega (arith, length_reordered (report-held s x sound k a))

  pub withdraw-entries : x.kind ≡ 2 → refusal s x ≡ 0 → n ≡ length (held (withdraw s x).store)
  withdraw-entries k a = counted ∙ ap length (sym (withdraw-held s x sound k a))

  pub clean-entries : (c : ℕ) → c ≡ (clean s).count → n - c ≡ length (held (clean s).store)
  clean-entries c e = omega (arith, clean-count s sound)

  pub inspect-entries : n ≡ length (held (inspect s).store)
  unfolding held inspect
  inspect-entries = counted

  pub open_entries : x.kind ≡ 5 → refusal s x ≡ 0 → n ≡ length (held (open_board s x).store)
  open_entries k a = counted ∙ ap length (sym (open_only s x k a).held)

  pub close_entries : x.kind ≡ 6 → refusal s x ≡ 0 → n ≡ length (held (close_board s x).store)
  close_entries k a = counted ∙ ap length (sym (close_only s x k a).held)
