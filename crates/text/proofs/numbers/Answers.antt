use Rattle.std.proofs.Common.{rules}
use Rattle.std.proofs.lemmas.List.{set-get_or}
use borrow.Author.Tests.{tests}
use Rattle.text.proofs.Lines.{scanning_all, next_field, stops, goes_on, full}
use Rattle.text.proofs.numbers.Goals as goal

pub loop-word-init : goal.loop-word-init
loop-word-init c = rw (c.split-fields.ensures.rest, c.split-fields.ensures.done) (scanning_all _ _)

pub returns-in_default : goal.returns-in_default
returns-in_default c =
    let left = next_field _ _ _ c.next.result c.next.ensures.steps (λ x b q k. search (rules, tests)) in
    rw (set-get_or c.loop-word.out c.loop-word.word-index 0) (stops _ _ _ _ _ c.loop-word.invariant c.loop-word-test.true _ _ left _ c.and_then.ensures c.in_default.is)

pub loop-word-preserved : goal.loop-word-preserved
loop-word-preserved c =
    let left = next_field _ _ _ c.next.result c.next.ensures.steps (λ x b q k. search (rules, tests)) in
    goes_on _ _ _ _ _ c.loop-word.invariant c.loop-word-test.true _ _ left _ c.and_then.ensures _ c.in-Some.is

pub returns : goal.returns
returns c =
    let left = next_field _ _ _ c.next-2.result c.next-2.ensures.steps (λ x b q k. search (rules, tests)) in
    full _ _ _ _ _ c.loop-word.invariant (search rules) _ _ left _ c.is_none.ensures
