use Rattle.std.proofs.Common.{arith, rules, ◌<◌, ◌≤◌, length}
use Rattle.rules.specs.Store.{store_of}
use Rattle.rules.specs.laws.Placed.{boards_count}
use Rattle.parts.specs.Laws.{lent_placed}
use Rattle.parts.proofs.Boards.{telling_none, telling_lent, telling_inside, telling_own, telling_ascends, telling_fits, telling_on, telling_end}
use Rattle.parts.proofs.tell_boards.Goals as goal

pub loop-i-init : goal.loop-i-init
loop-i-init g c = record {
  many = boards_count _ (lent_placed _ c.requires.lent) _ c.boards-i-end.ensures;
  telling = telling_none (g.N.News.tell c.args.news) (g.N.News.train c.args.news) _ c.requires.lent c.requires.keeps;
}

pub board_range-range-requires-clause-placed : goal.board_range-range-requires-clause-placed
board_range-range-requires-clause-placed g c = search (rules, lent_placed, telling_lent)

pub board_range-range-requires-clause-i_in_bounds : goal.board_range-range-requires-clause-i_in_bounds
board_range-range-requires-clause-i_in_bounds g c =
    let inside : c.loop-i.i < length (store_of c.args.store.now).boards = omega arith in
    search (rules, telling_inside, inside)

pub tell-requires : goal.tell-requires
tell-requires g c =
    let inside : c.loop-i.i < length (store_of c.args.store.now).boards = omega arith in
    (search (rules, telling_own, inside), search (rules, telling_ascends, inside), search (rules, telling_fits, inside))

pub loop-i-preserved : goal.loop-i-preserved
loop-i-preserved g c =
    let inside : c.loop-i.i < length (store_of c.args.store.now).boards = omega arith in
    record { many = c.loop-i.invariant.many; telling = search (rules, telling_on, inside) }

pub returns : goal.returns
returns g c =
    let done : length (store_of c.args.store.now).boards ≤ c.loop-i.i = omega arith in
    search (rules, telling_end, done)
