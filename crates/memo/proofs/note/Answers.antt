-- `memo::note` meets its contract.
use Rattle.std.proofs.Common.{rules}
use Rattle.memo.proofs.Answers.{noted_old}
use Rattle.memo.proofs.note.Goals as goal

pub returns : goal.returns
returns c = search (rules, noted_old)
