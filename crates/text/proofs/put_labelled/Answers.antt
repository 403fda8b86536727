use Rattle.std.proofs.Common.{rules}
use Rattle.text.specs.Laid.{both_laid}
use Rattle.text.proofs.put_labelled.Goals as goal

pub returns-clause-laid : goal.returns-clause-laid
returns-clause-laid c = search (rules, both_laid)
