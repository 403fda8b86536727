-- `Memo::look_up` meets its contract.
use Rattle.std.proofs.Common.{sym, ◌∙◌}
use Rattle.memo.specs.Kept.{its_words}
use Rattle.memo.proofs.Places.{none_used, another, its_own}
use Rattle.memo.proofs.view.Memo.look_up.Goals as goal
use Rattle.memo.proofs.view.Memo.look_up.Goals.{then-eq-via-then-eq, then-eq-via-else-eq+then-ne}

pub returns-then-eq : goal.returns-then-eq
returns-then-eq c = elim c.then-eq.branch [
  | then-eq-via-then-eq w ↦
      none_used c.args.self.now.words.now c.args.t c.place_for-place.result c.slot_at-s.result (its_words c.args.self.now) c.place_for-place.ensures.place c.slot_at-s.ensures (sym c.eq.ensures ∙ w.if-eq.true)
  | then-eq-via-else-eq+then-ne w ↦
      another c.args.self.now.words.now c.args.t c.place_for-place.result c.slot_at-s.result (its_words c.args.self.now) c.place_for-place.ensures.place c.slot_at-s.ensures (sym w.ne.ensures ∙ w.if-ne.true)
]

pub returns : goal.returns
returns c =
    its_own c.args.self.now.words.now c.args.t c.place_for-place.result c.slot_at-s.result (its_words c.args.self.now) c.place_for-place.ensures.place c.slot_at-s.ensures
    (sym c.eq.ensures ∙ c.if-eq.false) (sym c.ne.ensures ∙ c.if-ne.false)
