-- The page has the rows so far as its places.
use Rattle.std.proofs.Common.{◌≡◌, take}
use Rattle.page.specs.Struct.{laid_page}
use Rattle.tree.specs.Putting.{page_with}
use Rattle.tree.proofs.part.Given as goal

abbrev pub invariant-loop-row : goal.invariant-loop-row
invariant-loop-row l = l.g ≡ laid_page (page_with l.fn.kind l.fn.mark (take l.row-index l.rows))
