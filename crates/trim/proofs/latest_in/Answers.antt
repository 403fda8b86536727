use Rattle.std.proofs.Common.{rules}
use Rattle.memo.specs.Laws.{so_latest}
use Rattle.trim.proofs.latest_in.Goals as goal

pub returns : goal.returns
returns c = c.kept_in.ensures _ (λ e b post. search (rules, so_latest))
