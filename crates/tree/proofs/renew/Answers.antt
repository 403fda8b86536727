use Rattle.std.proofs.Common.{rules}
use Rattle.tree.proofs.Below.{made_proper, renew_laid, renew_whole, renew_parted}
use Rattle.tree.proofs.renew.Goals as goal

pub settle-requires : goal.settle-requires
settle-requires c = search (rules, renew_laid, made_proper)

pub returns-in-Some : goal.returns-in-Some
returns-in-Some c = search (rules, renew_parted)

pub returns-in-None : goal.returns-in-None
returns-in-None c = search (rules, renew_whole)
