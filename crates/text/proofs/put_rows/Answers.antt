use Rattle.std.proofs.Common.{rules, ◌≡◌, ◌/◌, length, arith}
use Rattle.text.proofs.Tables.{row_more, rows_all}
use Rattle.text.proofs.put_rows.Goals as goal

pub loop-row-preserved : goal.loop-row-preserved
loop-row-preserved c = search (rules, row_more)

pub returns-clause-laid : goal.returns-clause-laid
returns-clause-laid c =
    let many : length c.as_chunks.result.0.now ≡ length c.args.rows.now / 5 = c.as_chunks.ensures.front_len in
    rows_all _ _ _ _ _ _ _ c.loop-row.invariant.left (omega arith)
