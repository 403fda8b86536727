-- `Memo::place_for` meets its contract.
use Rattle.std.proofs.Common.{arith, rules, tests}
use Rattle.std.proofs.lemmas.List.Sorted.{IsPartitionPoint-from_clause}
use Rattle.memo.specs.Slots.{slots_in}
use Rattle.memo.specs.Kept.{its_words}
use Rattle.memo.proofs.Places.{before, parted, place_found, place-most}
use Rattle.memo.proofs.view.Memo.place_for.Goals as goal

pub returns : goal.returns
returns c =
    let m = c.args.self.now.words.now in
    let here = place_found m c.args.t (its_words c.args.self.now) c.as_chunks.result.0.now c.as_chunks.ensures.front c.partition_point.result c.partition_point.ensures.bound
    (IsPartitionPoint-from_clause (before c.args.t) _ c.partition_point.result c.partition_point.ensures.partitioned (parted m c.args.t (its_words c.args.self.now) c.as_chunks.result.0.now c.as_chunks.ensures.front) (λ a r f k. search (rules, tests))) in
    record { place = omega (arith, here); within = omega (arith, here, place-most c.args.t (slots_in m)) }
