use Rattle.std.proofs.Common.{arith}
use Rattle.walk.proofs.Kept.{its_words}
use Rattle.walk.proofs.Steps.{flag_there, page_seen, page_low, page_other, walk_ends, child_to_walk, child_good, child_bad}
use Rattle.walk.proofs.tidy_store.Tidy.+walk.Goals as goal

pub visit-requires : goal.visit-requires
visit-requires t c = flag_there _ _ _ _ (its_words c.args.self.now) c.requires

pub returns-then-not-visit : goal.returns-then-not-visit
returns-then-not-visit t c = page_seen _ _ _ _ (its_words c.args.self.now) c.requires _ c.visit.ensures.flags_after (cc)

pub returns-then-level-eq1 : goal.returns-then-level-eq1
returns-then-level-eq1 t c = page_low _ _ _ _ (its_words c.args.self.now) c.requires _ c.visit.ensures.flags_after (cc) _ c.page_there-g.ensures c.if-level-eq1.true

pub returns-then-g : goal.returns-then-g
returns-then-g t c = page_other _ _ _ _ (its_words c.args.self.now) c.requires _ c.visit.ensures.flags_after (cc) _ c.page_there-g.ensures c.if-level-eq1.false c.if-g.true

pub walk-requires : goal.walk-requires
walk-requires t c = (omega arith, child_to_walk _ _ _ _ (its_words c.args.self.now) c.requires _ c.visit.ensures.flags_after (cc) _ c.page_there-g.ensures c.if-level-eq1.false c.if-g.false _ c.used-place-items.ensures _ _ c.loop-place.invariant c.loop-place-test.true)

pub returns-then-not-walk : goal.returns-then-not-walk
returns-then-not-walk t c = child_bad _ _ _ _ (its_words c.args.self.now) c.requires _ c.visit.ensures.flags_after (cc) _ c.page_there-g.ensures c.if-level-eq1.false c.if-g.false _ c.used-place-items.ensures _ _ c.loop-place.invariant c.loop-place-test.true _ _ c.walk.ensures c.if-not-walk.true

pub loop-place-preserved : goal.loop-place-preserved
loop-place-preserved t c = child_good _ _ _ _ (its_words c.args.self.now) c.requires _ c.visit.ensures.flags_after (cc) _ c.page_there-g.ensures c.if-level-eq1.false c.if-g.false _ c.used-place-items.ensures _ _ c.loop-place.invariant c.loop-place-test.true _ _ c.walk.ensures c.if-not-walk.false

pub returns : goal.returns
returns t c = walk_ends _ _ _ _ (its_words c.args.self.now) c.requires _ c.visit.ensures.flags_after (cc) _ c.page_there-g.ensures c.if-level-eq1.false c.if-g.false _ c.used-place-items.ensures _ _ c.loop-place.invariant c.loop-place-test.false
