use Rattle.std.proofs.Common.{rules}
use Rattle.trim.proofs.Keeping.{kept_start, used_few, kept_more, kept_same, kept_all}
use Rattle.trim.proofs.kept_in.Goals.{then-passes, else-passes}
use Rattle.trim.proofs.kept_in.Goals as goal

pub loop-e-init : goal.loop-e-init
loop-e-init g c = λ test h. search (rules, kept_start)

pub loop-e-preserved : goal.loop-e-preserved
loop-e-preserved g c = λ test h.
    let few = used_few _ c.requires.readable _ _ c.page_of-g.ensures _ c.used-e-items.ensures in
    let so_far = c.loop-e.invariant test h in
    let tested = h _ _ c.passes.ensures in
    elim c.if-passes.branch [
      | then-passes w ↦ kept_more _ _ test _ few _ _ c.loop-e-test.true _ so_far _ tested _ _ w.if-passes.true w.add_place-r.ensures w.r-is
      | else-passes w ↦ kept_same _ _ test _ few _ _ c.loop-e-test.true _ so_far _ tested _ w.if-passes.false w.r-is
    ]

pub returns : goal.returns
returns g c = λ test h. kept_all _ c.requires.readable _ _ c.page_of-g.ensures _ c.used-e-items.ensures test _ _ (c.loop-e.invariant test h) c.loop-e-test.false
