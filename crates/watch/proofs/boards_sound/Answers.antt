use Rattle.std.proofs.Common.{sym}
use Rattle.rules.specs.Store.{store_of}
use Rattle.rules.specs.laws.Placed.{boards_count}
use Rattle.query.specs.Keys.{searchable_placed}
use Rattle.watch.specs.Watched.{each_board}
use Rattle.watch.proofs.boards_sound.Goals as goal

pub loop-i-init : goal.loop-i-init
loop-i-init c = record {
  many = boards_count _ (searchable_placed _ c.requires) _ c.boards-i-end.ensures;
  left = sym (each_board (store_of c.args.store.now));
}
