use Rattle.std.proofs.Common.{rules}
use Rattle.parts.proofs.Memo.{memo_lent, memo_lowered}
use Rattle.parts.proofs.lower.Goals as goal

pub lower-requires : goal.lower-requires
lower-requires c = search (rules, memo_lent)

pub returns : goal.returns
returns c = search (rules, memo_lowered)
