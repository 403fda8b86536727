use Rattle.std.proofs.Common.{rules, arith}
use Rattle.trim.proofs.Thin.{news_room, trimmed_out, trimmed_stay}
use Rattle.trim.proofs.trim_place.Goals as goal

pub add_orphans-requires : goal.add_orphans-requires
add_orphans-requires c =
    news_room _ _ c.requires.0 _ c.args.parent _ c.requires.1 c.requires.3 _ _ c.child.ensures c.page_of-left.ensures _ c.used.ensures c.requires.2 (omega (arith, c.if-is_thin.true))

pub returns-then-is_thin : goal.returns-then-is_thin
returns-then-is_thin c = search (rules, trimmed_out)

pub returns-else-is_thin : goal.returns-else-is_thin
returns-else-is_thin c = search (rules, trimmed_stay)
