use Rattle.std.proofs.Common.{rules}
use Rattle.steps.specs.Tests.{sound_placed}
use Rattle.steps.proofs.open_allowed.Goals as goal

pub is_open-requires-clause-placed : goal.is_open-requires-clause-placed
is_open-requires-clause-placed c = search (rules, sound_placed)
