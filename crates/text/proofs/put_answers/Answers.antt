use Rattle.std.proofs.Common.{rules}
use Rattle.text.proofs.Tables.{answer_more, answers_all}
use Rattle.text.proofs.put_answers.Goals as goal

pub loop-i-preserved : goal.loop-i-preserved
loop-i-preserved c = search (rules, answer_more)

pub returns-clause-laid : goal.returns-clause-laid
returns-clause-laid c = search (rules, answers_all)
