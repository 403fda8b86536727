-- What was read is what the reader had, as far as there is room, and says what is printed of all.
use Rattle.std.proofs.Common.{ℕ, List, rules}
use Rattle.streams.proofs.Within.{front_within, rest_within}
use Rattle.text.specs.Laid.{Laid}
use Rattle.text.specs.Program.{printed}
use Rattle.arrivals.proofs.Looked.{all_printed}
use Rattle.arrivals.proofs.lay_out.Goals as goal

pub returns-clause-laid : goal.returns-clause-laid
returns-clause-laid g c =
    let read = c.in_ok-n.ensures in
    let P : List ℕ → Type 0 = λ text. Laid c.args.output.now 0 text c.perform.new.out c.perform.result in
    all_printed _ P (front_within 65537 c.in_ok-n.n c.read_full.new.buffer (search rules) _ read.count read.front (λ xs. P (printed xs)) c.perform.ensures)

pub returns-clause-rest : goal.returns-clause-rest
returns-clause-rest g c =
    let read = c.in_ok-n.ensures in
    rest_within 65537 c.in_ok-n.n c.read_full.new.buffer (search rules) _ _ read.count read.rest
