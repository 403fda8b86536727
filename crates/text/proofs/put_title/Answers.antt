use Rattle.std.proofs.Common.{rules}
use Rattle.text.proofs.Tables.{title_laid}
use Rattle.text.proofs.put_title.Goals as goal

pub returns-clause-laid : goal.returns-clause-laid
returns-clause-laid c = search (rules, title_laid)
