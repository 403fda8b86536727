-- `page::Page::write` meets its contract. The loop's invariant: the words before place i are those of the page.
use Rattle.std.proofs.Common.{◌≡◌, ◌+◌, ◌*◌, take}
use Rattle.page.specs.Struct.{struct_words}
use Rattle.page.proofs.part.PagePart.write.Given as goal

abbrev pub invariant-loop-i : goal.invariant-loop-i
invariant-loop-i l = take (4 + 6 * l.i) l.words ≡ take (4 + 6 * l.i) (struct_words l.fn.self)
