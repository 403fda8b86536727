use Rattle.std.proofs.Common.{rules}
use Rattle.parts.specs.Laws.{sound_lent}
use Rattle.steps.proofs.Effects.{close_effect}
use Rattle.steps.proofs.Ways.{refused_by, close_refused, close_inside, close_done}
use Rattle.steps.proofs.close.Goals as goal

pub returns-in_err-close_allowed : goal.returns-in_err-close_allowed
returns-in_err-close_allowed c = search (rules, refused_by, close_refused, c.in_err-close_allowed.ensures)

pub close_board-requires : goal.close_board-requires
close_board-requires c = (search (rules, sound_lent), search (rules, close_inside, c.in_ok-close_allowed.ensures))

pub returns : goal.returns
returns c = search (rules, close_done, close_effect, c.in_ok-close_allowed.ensures)
