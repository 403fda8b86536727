use Rattle.entries.proofs.Pages.{none_gathered, all_passed}
use Rattle.entries.proofs.note_pages.Goals as goal

pub loop-i-init : goal.loop-i-init
loop-i-init c = none_gathered _ c.requires.fresh

pub returns : goal.returns
returns c = all_passed _ c.pages-i-end.ensures c.loop-i-test.false c.loop-i.invariant
