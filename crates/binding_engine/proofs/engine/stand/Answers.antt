use Rattle.binding_engine.proofs.Covered.{ready_as, covered_as}
use Rattle.binding_engine.proofs.Written.{stands_settled, store_still, loops_settled}
use Rattle.binding_engine.proofs.engine.stand.Goals as goal

pub settle-requires-clause-ready : goal.settle-requires-clause-ready
settle-requires-clause-ready c = ready_as c.args.objects.now c.in_ok-present.present.objects.now c.in_ok-present.present.cells c.in_ok-present.ensures.objects c.in_ok-present.ensures.cells

pub settle-requires-clause-covers : goal.settle-requires-clause-covers
settle-requires-clause-covers c =
    covered_as c.args.objects.now c.in_ok-present.present.objects.now c.in_ok-present.present.cells c.in_ok-present.present.places.items
    c.in_ok-present.ensures.objects c.in_ok-present.ensures.cells c.in_ok-present.ensures.places

pub returns-clause-stands : goal.returns-clause-stands
returns-clause-stands c =
    stands_settled c.args.objects.now c.in_ok-present.present.objects.now c.settle.new.field.objects.now c.in_ok-present.present.cells c.settle.new.field.cells c.in_ok-present.present.places.items
    c.in_ok-present.ensures.objects c.in_ok-present.ensures.cells c.in_ok-present.ensures.places c.in_ok-loops.ensures.settled

pub returns-clause-loops : goal.returns-clause-loops
returns-clause-loops c =
    let ends = c.in_ok-loops.ensures.settled in
    let still = store_still c.args.objects.now c.in_ok-present.present.objects.now c.settle.new.field.objects.now c.in_ok-present.present.cells c.settle.new.field.cells c.in_ok-present.present.places.items
    c.in_ok-present.ensures.objects ends in
    loops_settled c.args.objects.now c.in_ok-present.present.objects.now c.settle.new.field.objects.now c.in_ok-present.present.cells c.settle.new.field.cells c.in_ok-present.present.places.items
    _ c.in_ok-present.ensures.objects (returns-clause-stands c) still c.in_ok-loops.ensures.chains c.in_ok-loops.ensures.loops c.in_ok-loops.ensures.once
