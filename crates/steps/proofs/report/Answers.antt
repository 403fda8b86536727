use Rattle.std.proofs.Common.{rules}
use Rattle.steps.specs.Stepping.{given_sound}
use Rattle.steps.proofs.Ways.{refused_by, more_fits, report_refused, report_accepted, report-done}
use Rattle.steps.proofs.report.Goals as goal

pub returns-in_err-report_allowed : goal.returns-in_err-report_allowed
returns-in_err-report_allowed c = search (rules, refused_by, report_refused, c.in_err-report_allowed.ensures)

pub put_report-touched-requires-clause-sound : goal.put_report-touched-requires-clause-sound
put_report-touched-requires-clause-sound c = search (rules, given_sound)

pub put_report-touched-requires-clause-accepted_report : goal.put_report-touched-requires-clause-accepted_report
put_report-touched-requires-clause-accepted_report c = search (rules, report_accepted, c.in_ok-report_allowed.ensures)

pub overflow_add-held : goal.overflow_add-held
overflow_add-held c = search (rules, more_fits)

pub returns : goal.returns
returns c = search (rules, report-done, c.in_ok-report_allowed.ensures)
