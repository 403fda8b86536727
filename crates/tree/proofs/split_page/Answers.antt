use Rattle.std.proofs.Common.{rules}
use Rattle.tree.proofs.OnePage.{settle_parted}
use Rattle.tree.proofs.split_page.Goals as goal

pub returns : goal.returns
returns c = search (rules, settle_parted)
