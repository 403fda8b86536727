-- `memo::Memo::is_full` meets its contract.
use Rattle.std.proofs.Common.{◌∙◌}
use Rattle.memo.specs.Kept.{its_words}
use Rattle.memo.proofs.Inspection.{full_or_not}
use Rattle.memo.proofs.view.Memo.is_full.Goals as goal

pub returns : goal.returns
returns c = c.ne.ensures ∙ full_or_not _ (its_words c.args.self.now) c.requires _ c.slot_at.ensures
