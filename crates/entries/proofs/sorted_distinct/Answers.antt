use Rattle.std.proofs.Common.{rules, ltb}
use Rattle.std.proofs.lemmas.List.Sorted.{answers_always}
use Rattle.entries.proofs.Apart.{climbing}
use Rattle.entries.proofs.sorted_distinct.Goals as goal

pub returns : goal.returns
returns c =
    let sorted = c.sort_unstable.ensures in
    climbing _ _ _ sorted.permutation sorted.sorted (c.is_sorted_by.ensures.cases ltb (answers_always _ _ _ (λ f a r g h. search rules)))
