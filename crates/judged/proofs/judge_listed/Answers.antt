-- What was read is what the reader had, as far as there is room.
use Rattle.std.proofs.Common.{rules}
use Rattle.streams.proofs.Within.{front_within, rest_within}
use Rattle.judged.specs.Text.{answers, Put}
use Rattle.judged.proofs.judge_listed.Goals as goal

pub returns-clause-put : goal.returns-clause-put
returns-clause-put g c =
    let read = c.in_ok-n.ensures in
    front_within 131072 c.in_ok-n.n c.read_full.new.buffer (search rules) _ read.count read.front (λ text. Put (answers text) c.args.out.now c.judge_lines.result c.judge_lines.new.out) c.judge_lines.ensures.put

pub returns-clause-rest : goal.returns-clause-rest
returns-clause-rest g c =
    let read = c.in_ok-n.ensures in
    rest_within 131072 c.in_ok-n.n c.read_full.new.buffer (search rules) _ _ read.count read.rest
