use Rattle.std.proofs.Common.{rules}
use Rattle.program.proofs.FirstLine.{longer, longer_none, first_bad, first_bad_none, first_good, first_good_left, rest_behind}
use Rattle.program.proofs.perform_in.Goals as goal

pub returns-then-input-gt-MOST_BYTES-clause-output_laid : goal.returns-then-input-gt-MOST_BYTES-clause-output_laid
returns-then-input-gt-MOST_BYTES-clause-output_laid c = search (rules, longer)

pub returns-then-input-gt-MOST_BYTES-clause-store_laid : goal.returns-then-input-gt-MOST_BYTES-clause-store_laid
returns-then-input-gt-MOST_BYTES-clause-store_laid c = search (rules, longer_none)

pub returns-then-not-numbers-clause-output_laid : goal.returns-then-not-numbers-clause-output_laid
returns-then-not-numbers-clause-output_laid c = search (rules, first_bad)

pub returns-then-not-numbers-clause-store_laid : goal.returns-then-not-numbers-clause-store_laid
returns-then-not-numbers-clause-store_laid c = search (rules, first_bad_none)

pub returns-clause-output_laid : goal.returns-clause-output_laid
returns-clause-output_laid c = let l = rw (rest_behind _ _ _ c.min.ensures) at c.in_space.ensures.output_laid in search (rules, first_good)

pub returns-clause-store_laid : goal.returns-clause-store_laid
returns-clause-store_laid c = let l = rw (rest_behind _ _ _ c.min.ensures) at c.in_space.ensures.store_laid in search (rules, first_good_left)
