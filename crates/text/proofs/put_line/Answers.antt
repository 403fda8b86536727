use Rattle.std.proofs.Common.{rules}
use Rattle.text.proofs.Puts.{decimal_more, line_all}
use Rattle.text.proofs.put_line.Goals as goal

pub loop-i-preserved : goal.loop-i-preserved
loop-i-preserved c = search (rules, decimal_more)

pub returns-clause-laid : goal.returns-clause-laid
returns-clause-laid c = search (rules, line_all)
