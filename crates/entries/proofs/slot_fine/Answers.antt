use Rattle.std.proofs.Common.{arith}
use Rattle.std.proofs.lemmas.Bool.Decides.{nat_tests}
use Rattle.rules.specs.Lists.{all_of}
use Rattle.entries.specs.Passes.{slot_fine}
use Rattle.entries.proofs.slot_fine.Goals as goal

-- with an answer, so that a wrong last test is refused by the values at which it fails
pub returns-then-s : goal.returns-then-s
unfolding slot_fine all_of
returns-then-s c = grind (arith, nat_tests)
