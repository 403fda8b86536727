use Rattle.std.proofs.Common.{rules}
use Rattle.parts.proofs.Memo.{memo_lent, memo_inspected}
use Rattle.parts.proofs.inspect.Goals as goal

pub inspect-requires : goal.inspect-requires
inspect-requires c = search (rules, memo_lent)

pub returns : goal.returns
returns c = search (rules, memo_inspected)
