-- The tables begin cleared; what the way up says of every node decides the answer.
use Rattle.std.proofs.Common.{refl, arith}
use Rattle.std.proofs.lemmas.Result.{err_from_is_err_and}
use Rattle.rules.specs.Figures.{most_places}
use Rattle.rules.specs.Net.{net_of}
use Rattle.states.specs.States.{model_of}
use Rattle.buffers.specs.Going.{leads_in}
use Rattle.buffers.proofs.Ascending.{tried_ok, tried_err}
use Rattle.buffers.proofs.Clearing.{going_none}
use Rattle.adding.proofs.Marking.{led_low, lost_none, ready, completes, least}
use Rattle.finish.proofs.Clearing.{fresh}
use Rattle.finish.proofs.Finishing.{placed_answer, none_answer}
use Rattle.finish.proofs.finish_sound.Goals as goal

pub mark_leads-requires : goal.mark_leads-requires
mark_leads-requires c = fresh _ c.requires.0 c.requires.2

pub ascend-requires-clause-sound : goal.ascend-requires-clause-sound
ascend-requires-clause-sound c = let (sound, buffers, stood) = c.requires in (sound, led_low c.of-cell.result c.of-cell.ensures.1 sound buffers stood c.mark_leads.ensures)

pub ascend-requires-clause-blank : goal.ascend-requires-clause-blank
ascend-requires-clause-blank c =
    rw c.blank-tables.ensures (going_none most_places (model_of c.of-cell.result) (net_of c.args.net.now) (leads_in c.mark_leads.new.leads) c.requires.0.few (omega arith))

pub returns-in_err-ascend : goal.returns-in_err-ascend
returns-in_err-ascend c =
    let (sound, buffers, stood) = c.requires in
    let p = err_from_is_err_and c.from_residual.result c.from_residual.ensures.1 in
    let (lost, is) = tried_err c.in_err-ascend.ensures refl in
    rw (p.1, p.2, is) (none_answer c.args.wires.now c.args.offs.now (lost_none c.of-cell.result c.of-cell.ensures.1 sound buffers stood c.mark_leads.ensures lost))

pub place-requires : goal.place-requires
place-requires c =
    let (sound, buffers, stood) = c.requires in
    ready c.of-cell.result c.of-cell.ensures.1 sound buffers stood c.mark_leads.ensures _ (tried_ok c.in_ok-ascend.ensures refl)

pub returns : goal.returns
returns c =
    let (sound, buffers, stood) = c.requires in
    let going = tried_ok c.in_ok-ascend.ensures refl in
    placed_answer (completes c.of-cell.result c.of-cell.ensures.1 sound buffers stood c.mark_leads.ensures _ going) (least c.of-cell.result c.of-cell.ensures.1 sound buffers stood c.mark_leads.ensures _ going) c.place.ensures
