use Rattle.std.proofs.Common.{◌∙◌}
use Rattle.judged.proofs.Laws.{number_read}
use Rattle.judged.proofs.judge_line.Goals as goal

pub returns-in-Ok : goal.returns-in-Ok
returns-in-Ok c = number_read _ _ _ _ _ c.read_words-n.ensures c.in-Ok.ensures

pub returns-in-Err : goal.returns-in-Err
returns-in-Err c = number_read _ _ _ _ _ c.read_words-n.ensures (c.from.ensures ∙ c.in-Err.ensures)
