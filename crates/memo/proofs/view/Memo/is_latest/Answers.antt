-- `Memo::is_latest` meets its contract.
use Rattle.std.proofs.Common.{rules}
use Rattle.memo.proofs.Answers.{found_latest}
use Rattle.memo.proofs.view.Memo.is_latest.Goals as goal

pub returns : goal.returns
returns c = search (rules, found_latest)
