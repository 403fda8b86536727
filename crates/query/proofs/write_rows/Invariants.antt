use Rattle.std.proofs.Common.{◌≡◌, ◌*◌, ◌++◌, take, drop}
use Rattle.rules.specs.Store.{store_of}
use Rattle.query.specs.Keys.{row_of_key}
use Rattle.query.proofs.Writing.{rows_words}
use Rattle.query.proofs.write_rows.Given as goal

abbrev pub invariant-loop-i : goal.invariant-loop-i
invariant-loop-i l = l.out ≡ rows_words (row_of_key (store_of l.store).pages) (take l.i l.keys) ++ drop (5 * l.i) l.initial.out
