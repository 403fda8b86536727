use Rattle.std.proofs.Common.{rules}
use Rattle.trim.proofs.Thin.{parent_used, freed_ready, freed}
use Rattle.trim.proofs.free_child.Goals as goal

pub put_page-requires-2 : goal.put_page-requires-2
put_page-requires-2 c = search (rules, freed_ready)

pub remove_place-page-requires : goal.remove_place-page-requires
remove_place-page-requires c = parent_used c.args.parent

pub returns : goal.returns
returns c = search (rules, freed)
