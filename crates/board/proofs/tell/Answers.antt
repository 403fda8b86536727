-- `board::tell` meets its contract. Assumes nothing.
use borrow.Author.Tests.{not-true}
use Rattle.board.proofs.Upkeep.{closed-told, met_fits, met_told, missed_told}
use Rattle.std.proofs.Common.{rules}
use Rattle.board.proofs.tell.Goals as goal

pub returns-then-not-is_open : goal.returns-then-not-is_open
returns-then-not-is_open c = search (rules, closed-told, not-true, met_fits, met_told, missed_told)

pub insert-requires : goal.insert-requires
insert-requires c = search (rules, closed-told, not-true, met_fits, met_told, missed_told)

pub returns-then-meets : goal.returns-then-meets
returns-then-meets c = search (rules, closed-told, not-true, met_fits, met_told, missed_told)

pub returns-else-meets : goal.returns-else-meets
returns-else-meets c = search (rules, closed-told, not-true, met_fits, met_told, missed_told)
