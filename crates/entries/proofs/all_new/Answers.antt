use Rattle.std.proofs.Common.{arith}
use Rattle.entries.proofs.Apart.{none_tried, equal_later, one_more}
use Rattle.entries.proofs.all_new.Goals as goal

pub loop-i-init : goal.loop-i-init
loop-i-init c = record { few = omega arith; tried = none_tried _ _ }

pub returns-then-not-is_new : goal.returns-then-not-is_new
returns-then-not-is_new c = equal_later c.loop-i.invariant.tried (omega arith) (omega arith) c.is_new.ensures c.if-not-is_new.true

pub loop-i-preserved : goal.loop-i-preserved
loop-i-preserved c =
    record {
      few = omega arith;
      tried = one_more c.loop-i.invariant.tried (omega arith) (omega arith) c.is_new.ensures c.if-not-is_new.false c.flag_of-at.ensures.0 (omega arith);
    }
