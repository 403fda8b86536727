use Rattle.std.proofs.Common.{rules}
use Rattle.steps.specs.Stepping.{given_sound}
use Rattle.steps.proofs.Cleaned.{fewer_left}
use Rattle.steps.proofs.Ways.{clean-done}
use Rattle.steps.proofs.clean.Goals as goal

pub clean_leaf-removed-requires : goal.clean_leaf-removed-requires
clean_leaf-removed-requires c = search (rules, given_sound)

pub overflow_sub-held : goal.overflow_sub-held
overflow_sub-held c = search (rules, fewer_left)

pub returns : goal.returns
returns c = search (rules, clean-done)
