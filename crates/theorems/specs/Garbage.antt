-- What cleaning is for: where every leaf has been cleaned since a stamp was given, nothing is obsolete up to that stamp and no slot is needed for it.
use Rattle.std.specs.Prelude.{ℕ, suc, ◌<◌, ◌≤◌, ◌≡◌, true}
use Rattle.std.proofs.Common.{arith, ap}
use Rattle.rules.specs.declared.Slot.{Slot}
use Rattle.rules.specs.Store.{Store, stamp, train_of}
use Rattle.rules.specs.Memo.{is_latest}
use Rattle.rules.specs.Live.{held}
use Rattle.rules.specs.Cleaning.{smallest_mark}
use Rattle.rules.specs.Sound.{sound}
use Rattle.rules.specs.Steps.{inspect}
use Rattle.rules.specs.Views.{sound-holds}
use Rattle.rules.specs.laws.All.{All, head_of, Mem}
use Rattle.rules.specs.laws.Order.{all_reordered}
use Rattle.rules.proofs.Memo.{all_inspected}
use Rattle.theorems.specs.TreeSound.{tree_of-sound}
use Rattle.theorems.specs.Leaves.{leaf_marks}
use Rattle.theorems.specs.LeafToClean.{marks_limited, to_clean}
use Rattle.theorems.specs.CleanTree.{clean_step_tree}
use Rattle.theorems.specs.Inspect.{latest_before}

-- every leaf's mark is above T: each has been cleaned, or split off from one that was, since the stamp T was given
abbrev pub Past : ℕ → Store → Type 0
Past T s = All (λ m. T < m.0) (leaf_marks s.pages)

-- ---- what is so then
-- of a train whose slot has a stamp up to T no entry held is obsolete
pub no_garbage : (s : Store) → sound s ≡ true → (T : ℕ) → Past T s
    → (m : Slot) → Mem m s.memo → m.latest.0 ≤ T → All (λ e. (train_of e).0 ≡ m.train.0 → is_latest s.memo e ≡ true) (held s)
no_garbage s h T a m i low = latest_before s h (stamp (suc T)) a m i (omega arith)

-- the smallest mark is that of a leaf
smallest_past : (s : Store) → sound s ≡ true → (T : ℕ) → Past T s → T < (smallest_mark s.pages).0
smallest_past s h T a =
    let D = to_clean s (tree_of-sound s h) (marks_limited s h) in
    omega (arith, head_of (all_reordered (clean_step_tree s h).marks_before a), ap (λ m. m.0) D.mark)

-- and inspecting frees every slot with a stamp up to T
pub inspect_clears : (s : Store) → sound s ≡ true → (T : ℕ) → Past T s → All (λ m. T < m.latest.0) (inspect s).store.memo
unfolding inspect
inspect_clears s h T a =
    let low = smallest_past s h T a in
    all_inspected (smallest_mark s.pages) (sound-holds s h).rule6.slots λ m k l. omega arith
