-- `memo::remove` meets its contract.
use Rattle.std.proofs.Common.{rules, arith}
use Rattle.memo.proofs.Moves.{all_pulled}
use Rattle.memo.proofs.remove.Goals as goal

pub returns : goal.returns
returns c =
    all_pulled c.args.memo.now c.copy_within.new.self c.put_slot.new.memo c.requires.0 c.args.at _ c.default.result c.copy_within.ensures.after c.put_slot.ensures (omega arith) (search rules) c.requires.1
