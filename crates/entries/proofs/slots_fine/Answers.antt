use Rattle.std.proofs.Common.{◌∙◌, sym, eqb-true}
use Rattle.memo.specs.Kept.{its_words}
use Rattle.entries.proofs.Slots.{slots_unused}
use Rattle.entries.proofs.slots_fine.Goals as goal

pub returns-then-eq : goal.returns-then-eq
returns-then-eq c = slots_unused _ _ _ (its_words c.args.memo) _ c.loop-i.invariant _ c.slot_at-s.ensures (eqb-true _ _ (sym c.eq.ensures ∙ c.if-eq.true))
