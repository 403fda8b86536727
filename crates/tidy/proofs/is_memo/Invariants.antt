use Rattle.std.proofs.Common.{◌≡◌, ◌*◌, ◌-◌, drop}
use Rattle.tidy.specs.Tidy.{memo_tidy, slots_tidy}
use Rattle.tidy.proofs.is_memo.Given as goal

-- the slots before slot i ascend up to `last`
abbrev pub invariant-loop-i : goal.invariant-loop-i
invariant-loop-i l = memo_tidy l.k l.memo ≡ slots_tidy (l.k - l.i) l.last (drop (3 * l.i) l.memo)
