use Rattle.std.proofs.Common.{rules}
use Rattle.rules.specs.Memo.{is_obsolete}
use Rattle.memo.specs.Laws.{so_latest}
use Rattle.trim.proofs.obsolete_in.Goals as goal

pub returns : goal.returns
unfolding is_obsolete
returns c = c.kept_in.ensures _ (λ e b post. search (rules, so_latest))
