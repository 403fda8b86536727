use Rattle.std.proofs.Common.{rules}
use Rattle.tree.proofs.OnePage.{first_ready, both_put}
use Rattle.tree.proofs.put_parts.Goals as goal

pub put_page-requires-2 : goal.put_page-requires-2
put_page-requires-2 c = search (rules, first_ready)

pub returns : goal.returns
returns c = search (rules, both_put)
