-- `memo::inspect` meets its contract.
use Rattle.std.proofs.Common.{◌≡◌, ◌-◌, refl, sym, ◌∙◌, arith, rules, tests}
use borrow.Author.Tests.{eqb-true, eqb-false}
use Rattle.memo.proofs.Inspection.{passed_none, past_used, past_room, inspected_all, freed_one, kept_one}
use Rattle.memo.proofs.inspect.Goals as goal
use Rattle.memo.proofs.inspect.Goals.{then-stays, else-stays}

pub loop-i-init : goal.loop-i-init
loop-i-init c = passed_none c.args.memo.now c.args.mark

pub returns-then-eq : goal.returns-then-eq
returns-then-eq c =
    let unused : c.slot_at-s.result.train.0 ≡ 0 = eqb-true c.slot_at-s.result.train.0 0 (sym c.eq.ensures ∙ c.if-eq.true) in
    inspected_all c.args.memo.now c.loop-i.memo c.requires c.args.mark c.loop-i.kept c.loop-i.i c.loop-i.invariant
    (past_used c.args.memo.now c.loop-i.memo c.requires c.args.mark c.loop-i.kept c.loop-i.i c.loop-i.invariant (omega arith) c.slot_at-s.result c.slot_at-s.ensures unused) (c.loop-i.i - c.loop-i.kept) refl

pub loop-i-preserved : goal.loop-i-preserved
loop-i-preserved c =
    let used : c.slot_at-s.result.train.0 ≡ 0 → ⊥ = eqb-false c.slot_at-s.result.train.0 0 (sym c.eq.ensures ∙ c.if-eq.false) in
    elim c.if-stays.branch [
      | then-stays w ↦
          rw (w.memo-is, w.kept-is)
          (kept_one c.args.memo.now c.loop-i.memo c.requires c.args.mark c.loop-i.kept c.loop-i.i c.loop-i.invariant (omega arith) c.slot_at-s.result c.slot_at-s.ensures
          used c.default.result c.put_slot.new.memo (search rules) c.put_slot.ensures (search (rules, tests)) w.put_slot-then-stays.new.memo w.put_slot-then-stays.ensures)
      | else-stays w ↦
          rw (w.memo-is, w.kept-is)
          (freed_one c.args.memo.now c.loop-i.memo c.requires c.args.mark c.loop-i.kept c.loop-i.i c.loop-i.invariant (omega arith) c.slot_at-s.result c.slot_at-s.ensures
          used c.default.result c.put_slot.new.memo (search rules) c.put_slot.ensures (search (rules, tests)))
    ]

pub returns : goal.returns
returns c =
    inspected_all c.args.memo.now c.loop-i.memo c.requires c.args.mark c.loop-i.kept c.loop-i.i c.loop-i.invariant (search (rules, past_room)) _ (omega arith)
