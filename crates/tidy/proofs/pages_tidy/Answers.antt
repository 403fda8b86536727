use Rattle.std.proofs.Common.{◌∙◌}
use Rattle.tidy.proofs.Parts.{pages_lent}
use Rattle.rules.specs.Store.{memo_start}
use Rattle.tidy.specs.Tidy.{pages_tidy}
use Rattle.tidy.proofs.pages_tidy.Goals as goal

pub returns : goal.returns
unfolding memo_start pages_tidy
returns c = c.are_pages.ensures ∙ rw (pages_lent _ _ _ c.memo_start.ensures, c.pages-p.ensures)
