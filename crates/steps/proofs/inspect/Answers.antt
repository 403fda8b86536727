use Rattle.std.proofs.Common.{rules}
use Rattle.parts.specs.Laws.{sound_lent}
use Rattle.steps.proofs.Effects.{inspect_fits, inspect-effect}
use Rattle.steps.proofs.Ways.{inspect-done}
use Rattle.steps.proofs.inspect.Goals as goal

pub inspect-requires : goal.inspect-requires
inspect-requires c = search (rules, sound_lent)

pub overflow_cast-result : goal.overflow_cast-result
overflow_cast-result c = search (rules, inspect_fits, sound_lent)

pub returns : goal.returns
returns c = search (rules, inspect-done, inspect-effect, sound_lent)
