use Rattle.std.proofs.Common.{ap, ◌∙◌, not}
use Rattle.entries.proofs.Apart.{new_flag, not_among}
use Rattle.entries.proofs.is_new.Goals as goal

pub returns-then-unset : goal.returns-then-unset
returns-then-unset c = new_flag _ _ _ _ c.requires.flagged c.flag_of.ensures.0 c.if-unset.true

pub returns-else-unset : goal.returns-else-unset
returns-else-unset c = ap not c.contains.ensures.value ∙ not_among _ _
