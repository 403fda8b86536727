use Rattle.std.proofs.Common.{arith}
use Rattle.std.proofs.lemmas.Bool.Decides.{nat_tests}
use Rattle.rules.specs.Numbers.{first_met}
use Rattle.rules.specs.Calls.{store_tests}
use Rattle.judge.proofs.judge.Goals as goal

pub returns : goal.returns
unfolding first_met store_tests
returns c = grind (arith, nat_tests)
