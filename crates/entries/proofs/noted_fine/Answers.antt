use Rattle.std.proofs.Common.{arith}
use Rattle.std.proofs.lemmas.Bool.Decides.{nat_tests}
use Rattle.rules.specs.Sound.{not_above}
use Rattle.rules.specs.Memo.{latest_by}
use Rattle.entries.specs.Passes.{noted_fine}
use Rattle.entries.proofs.noted_fine.Goals as goal

pub returns-else-eq : goal.returns-else-eq
unfolding noted_fine not_above latest_by
returns-else-eq c = grind (arith, nat_tests)
