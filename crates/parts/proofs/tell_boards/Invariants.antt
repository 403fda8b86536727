use Rattle.std.proofs.Common.{◌≡◌, length}
use Rattle.rules.specs.Store.{store_of}
use Rattle.parts.proofs.Boards.{Telling}
use Rattle.parts.proofs.tell_boards.Given as goal

-- the boards before i have been told
abbrev pub invariant-loop-i : goal.invariant-loop-i
invariant-loop-i g l = record {
  many : l.i-end ≡ length (store_of l.initial.store).boards;
  telling : Telling (g.N.News.tell l.fn.news) (g.N.News.train l.fn.news) l.initial.store l.store l.i l.touched;
}
