use Rattle.std.proofs.Common.{rules, arith, length-take}
use Rattle.query.specs.Keys.{sound_searchable}
use Rattle.parts.specs.Laws.{sound_lent, found_ascend}
use Rattle.steps.proofs.Effects.{open_effect}
use Rattle.steps.proofs.Ways.{refused_by, open_refused, open_overfull, open_inside, open_done}
use Rattle.steps.proofs.open.Goals as goal

pub returns-in_err-open_allowed : goal.returns-in_err-open_allowed
returns-in_err-open_allowed c = search (rules, refused_by, open_refused, c.in_err-open_allowed.ensures)

pub find-n-requires-clause-searchable : goal.find-n-requires-clause-searchable
find-n-requires-clause-searchable c = search (rules, sound_searchable)

pub returns-then-n-gt16 : goal.returns-then-n-gt16
returns-then-n-gt16 c = search (rules, open_overfull, c.in_ok-open_allowed.ensures)

pub open_board-requires-clause-lent : goal.open_board-requires-clause-lent
open_board-requires-clause-lent c = (search (rules, sound_lent), search (rules, sound_searchable), search (rules, open_inside, c.in_ok-open_allowed.ensures))

pub open_board-requires-clause-keys_len : goal.open_board-requires-clause-keys_len
open_board-requires-clause-keys_len c = (omega (arith, length-take c.find-n.result c.find-n.new.keys, c.if-n-gt16.false), search (rules, found_ascend))

pub returns : goal.returns
returns c = search (rules, open_effect, open_done, c.in_ok-open_allowed.ensures)
