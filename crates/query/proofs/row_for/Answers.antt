use Rattle.std.proofs.Common.{rules}
use Rattle.query.proofs.Writing.{row_read}
use Rattle.query.proofs.row_for.Goals as goal

pub returns : goal.returns
returns c = search (rules, row_read)
