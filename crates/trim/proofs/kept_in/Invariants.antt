-- For any test that says what the closure answers, the page holds those of the places so far that pass it.
use Rattle.std.proofs.Common.{◌≡◌, Bool, take}
use Rattle.rules.specs.declared.Entry.{Entry}
use Rattle.page.specs.Struct.{laid_page}
use Rattle.trim.proofs.Keeping.{kept_first}
use Rattle.trim.proofs.kept_in.Given as goal

abbrev pub invariant-loop-e : goal.invariant-loop-e
invariant-loop-e g l =
    (test : Entry → Bool) → ((e : Entry) (b : Bool) → goal.F-post g l.passes e b → b ≡ test e)
    → l.r ≡ laid_page (kept_first l.initial.r.kind l.initial.r.mark test (take l.e-index l.e-items))
