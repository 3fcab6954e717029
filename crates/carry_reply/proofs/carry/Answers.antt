-- `carry` shows the placement that was carried.
use Rattle.carry_reply.proofs.Carrying.{carry_passes, carry_fit, carry_tells}
use Rattle.carry_reply.proofs.carry.Goals as goal

pub tell-requires-clause-fit : goal.tell-requires-clause-fit
tell-requires-clause-fit c =
    let passed = carry_passes c.args.wires.now c.args.offsets.now c.requires.first_sound c.requires.second_sound c.carry.ensures c.in-Ok.field-0 c.in-Ok.is in
    carry_fit c.args.wires.now c.args.offsets.now c.requires.first_sound c.requires.second_sound c.carry.ensures passed

pub returns-in-Ok : goal.returns-in-Ok
returns-in-Ok c =
    let passed = carry_passes c.args.wires.now c.args.offsets.now c.requires.first_sound c.requires.second_sound c.carry.ensures c.in-Ok.field-0 c.in-Ok.is in
    carry_tells c.args.wires.now c.args.offsets.now c.requires.first_sound c.requires.second_sound c.carry.ensures passed c.tell.ensures
