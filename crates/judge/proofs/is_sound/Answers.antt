use Rattle.std.proofs.Common.{rules, arith}
use Rattle.judge.specs.Combined.{laid_given, tidy_given, tree_given, entries_given}
use Rattle.judge.proofs.is_sound.Goals as goal

pub is_tidy-requires : goal.is_tidy-requires
is_tidy-requires c = search (rules, laid_given)

pub is_tree-requires : goal.is_tree-requires
is_tree-requires c = tidy_given _ c.requires.sizes_read c.requires.laid_out (grind arith)

pub entries_sound-requires : goal.entries_sound-requires
entries_sound-requires c = tree_given _ c.requires.sizes_read c.requires.laid_out (grind arith) (grind arith)

pub boards_sound-requires : goal.boards_sound-requires
boards_sound-requires c = entries_given _ c.requires.sizes_read c.requires.laid_out (grind arith) (grind arith) (grind arith)
