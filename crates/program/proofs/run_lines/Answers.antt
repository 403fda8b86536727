use Rattle.std.proofs.Common.{◌≡◌, rules, sym, ap, ◌∙◌}
use Rattle.text.specs.Promised.{good_count}
use Rattle.program.proofs.Running.{store_after, ends_bad, ends_well}
use Rattle.program.proofs.run_lines.Goals as goal

pub returns-in-Ok-clause-laid : goal.returns-in-Ok-clause-laid
returns-in-Ok-clause-laid c =
    let n = (rw c.in-Ok.is at c.unwrap_or_else-n.ensures) ∙ sym (ap good_count c.in-Ok.is) in
    ends_well _ _ _ _ _ c.requires.1 c.steps-read.ensures.steps_read _ n _ _ c.run_steps-to.ensures.steps_run _ _ _ _ c.run_steps-to.ensures.laid _ c.in-Ok.is _ _ c.put_boards.ensures

pub returns-in-Ok-clause-store_after : goal.returns-in-Ok-clause-store_after
returns-in-Ok-clause-store_after c =
    let n = (rw c.in-Ok.is at c.unwrap_or_else-n.ensures) ∙ sym (ap good_count c.in-Ok.is) in
    store_after _ _ _ _ _ c.requires.1 c.steps-read.ensures.steps_read _ n _ _ c.run_steps-to.ensures.steps_run

pub returns-in-Err-clause-laid : goal.returns-in-Err-clause-laid
returns-in-Err-clause-laid c =
    let e : c.unwrap_or_else-n.result ≡ c.in-Err.bad.after = search rules in
    let n = e ∙ sym (ap good_count c.in-Err.is) in
    ends_bad _ _ _ _ _ c.requires.1 c.steps-read.ensures.steps_read _ n _ _ c.run_steps-to.ensures.steps_run _ _ _ _ c.run_steps-to.ensures.laid _ c.in-Err.is _ _ c.put_bad_line.ensures.laid

pub returns-in-Err-clause-store_after : goal.returns-in-Err-clause-store_after
returns-in-Err-clause-store_after c =
    let e : c.unwrap_or_else-n.result ≡ c.in-Err.bad.after = search rules in
    let n = e ∙ sym (ap good_count c.in-Err.is) in
    store_after _ _ _ _ _ c.requires.1 c.steps-read.ensures.steps_read _ n _ _ c.run_steps-to.ensures.steps_run
