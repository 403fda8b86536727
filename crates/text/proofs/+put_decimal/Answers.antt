use Rattle.std.proofs.Common.{rules}
use Rattle.text.proofs.Puts.{one_digit, last_place, last_digit, last_near}
use Rattle.text.proofs.+put_decimal.Goals as goal

pub returns-then-n-lt10-clause-laid : goal.returns-then-n-lt10-clause-laid
returns-then-n-lt10-clause-laid t c = search (rules, one_digit)

pub bounds-out-e : goal.bounds-out-e
bounds-out-e t c = search (rules, last_place)

pub returns-clause-laid : goal.returns-clause-laid
returns-clause-laid t c = search (rules, last_digit)

pub returns-clause-upper_bound : goal.returns-clause-upper_bound
returns-clause-upper_bound t c = search (rules, last_near)
