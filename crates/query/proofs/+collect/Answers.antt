use Rattle.std.proofs.Common.{arith, sym, ◌∙◌}
use Rattle.std.proofs.lemmas.List.{drop_more}
use Rattle.query.proofs.Lent.{used_places, place_inside}
use Rattle.query.proofs.Left.{none_written, all_written, hit_written, hit_room, under_written, none_under, under_room}
use Rattle.query.proofs.+collect.Goals as goal
use Rattle.query.proofs.+collect.Goals.{then-level-eq1, else-level-eq1+then-meets, else-level-eq1+else-meets}

pub add_hit-m-requires-clause-at_bound : goal.add_hit-m-requires-clause-at_bound
add_hit-m-requires-clause-at_bound t c =
    let inside = place_inside _ c.requires.searchable.0 _ _ c.page_of-g.ensures _ c.used-e-items.ensures _ c.loop-i-test.true in
    let same = used_places _ c.requires.searchable.0 _ _ c.page_of-g.ensures _ c.used-e-items.ensures in
    (inside.0, inside.1, hit_room c.args.store.now c.args.w c.requires.searchable.1 c.loop-i.invariant same c.requires.at_bound)

pub collect-m-requires : goal.collect-m-requires
collect-m-requires t c =
    let same = used_places _ c.requires.searchable.0 _ _ c.page_of-g.ensures _ c.used-e-items.ensures in
    let next = drop_more _ _ _ c.loop-i-test.true in
    let room = under_room c.args.store.now c.args.w c.requires.searchable.1 c.loop-i.invariant same c.requires.at_bound next c.if-level-eq1.false (sym c.meets.ensures ∙ c.if-meets.true) in
    (omega arith, ((c.requires.searchable.0, omega arith), room))

pub loop-i-init : goal.loop-i-init
loop-i-init t c = none_written _ _ _ _ _ _ _

pub loop-i-preserved : goal.loop-i-preserved
loop-i-preserved t c =
    let next = drop_more _ _ _ c.loop-i-test.true in
    elim c.if-level-eq1.branch [
      | then-level-eq1 w ↦ rw (w.keys-is, w.m-is) (hit_written c.args.store.now c.args.w c.requires.searchable.1 c.loop-i.invariant next w.if-level-eq1.true w.add_hit-m.ensures)
      | else-level-eq1+then-meets w ↦ rw (w.keys-is, w.m-is) (under_written c.args.store.now c.args.w c.requires.searchable.1 c.loop-i.invariant next w.if-level-eq1.false (sym w.meets.ensures ∙ w.if-meets.true) w.collect-m.ensures)
      | else-level-eq1+else-meets w ↦ rw (w.keys-is, w.m-is) (none_under c.args.store.now c.args.w c.requires.searchable.1 c.loop-i.invariant next w.if-level-eq1.false (sym w.meets.ensures ∙ w.if-meets.false))
    ]

pub returns : goal.returns
returns t c = all_written _ _ c.requires.searchable.1 c.loop-i.invariant (used_places _ c.requires.searchable.0 _ _ c.page_of-g.ensures _ c.used-e-items.ensures) c.loop-i-test.false
