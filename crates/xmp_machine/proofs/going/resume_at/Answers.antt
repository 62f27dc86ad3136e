use Rattle.std.proofs.Common.{◌∙◌, Some, ap, sym}
use Rattle.std.specs.Prelude.{Result, Ok, Err, OnOk}
use Rattle.xmp_instr.specs.declared.meeting.Meeting.TheVariants as meeting
use Rattle.xmp_instr.specs.Valid.{MeetingFits}
use Rattle.xmp_instr.proofs.Lists.{all_at}
use Rattle.xmp_code.specs.States.{node_of}
use Rattle.xmp_machine.specs.Resuming.{standing_in}
use Rattle.xmp_machine.proofs.LoopEnds.{loop_ends, loop_goes}
use Rattle.xmp_machine.proofs.TaskEnds.{tasks_go, tasks_known}
use Rattle.xmp_machine.proofs.Moves.{moves_go, moving_long}
use Rattle.xmp_machine.proofs.going.resume_at.Goals as goal

on_ok : {A E : Type 0} {P Q : Type 0} → (r : Result A E) → (P → Q) → OnOk r P → OnOk r Q
on_ok (Ok a) f h = f h
on_ok (Err e) f h = h

pub move_words-requires-clause-long : goal.move_words-requires-clause-long
move_words-requires-clause-long c =
    moving_long c.args.code.now c.args.state.now c.args.at.0 c.args.at.1 c.in-Some-Move.kind c.in-Some-Move.field-0-1 c.in-Some-Move.field-0-2 c.requires.state c.requires.mode
    (sym c.in-Some-Move.ensures.value ∙ ap Some c.in-Some-Move.field-0-is) c.requires.heard

pub returns-in-Some-Move-clause-ok : goal.returns-in-Some-Move-clause-ok
returns-in-Some-Move-clause-ok c =
    moves_go c.args.code.now c.args.state.now c.move_words.new.state (node_of c.go_on-in-Some-Move.new.state) c.args.at.0 c.args.at.1 c.in-Some-Move.kind c.in-Some-Move.field-0-1 c.in-Some-Move.field-0-2
    c.requires.state c.requires.mode (sym c.in-Some-Move.ensures.value ∙ ap Some c.in-Some-Move.field-0-is)
    c.move_words.ensures.same c.move_words.ensures.words c.go_on-in-Some-Move.ensures.node

pub end_loop-requires-clause-ends : goal.end_loop-requires-clause-ends
end_loop-requires-clause-ends c =
    loop_ends c.args.code.now (node_of c.args.state.now) (standing_in c.args.state.now c.args.at.0 c.args.at.1) c.in-Some-LoopEnd.reduced
    (sym c.in-Some-LoopEnd.ensures.value ∙ ap Some c.in-Some-LoopEnd.field-0-is) c.requires.goes

pub returns-in-Some-LoopEnd-clause-ok : goal.returns-in-Some-LoopEnd-clause-ok
returns-in-Some-LoopEnd-clause-ok c =
    loop_goes c.args.code.now (node_of c.args.state.now) (node_of c.end_loop.new.state) (standing_in c.args.state.now c.args.at.0 c.args.at.1) c.as_slice-in-Some-LoopEnd.result.now
    (sym c.in-Some-LoopEnd.ensures.value ∙ ap Some c.in-Some-LoopEnd.field-0-is ∙ ap (λ rs. Some (meeting.LoopEnd rs)) (sym c.as_slice-in-Some-LoopEnd.ensures)) c.requires.goes
    c.end_loop.ensures.node

pub end_tasks-requires-clause-ends : goal.end_tasks-requires-clause-ends
end_tasks-requires-clause-ends c =
    let row = sym c.in-Some-TaskEnd.ensures.value ∙ ap Some c.in-Some-TaskEnd.field-0-is ∙ ap (λ sets. Some (meeting.TaskEnd sets)) (sym c.as_slice-in-Some-TaskEnd.ensures) in
    let fits = all_at (MeetingFits c.args.code.now) c.args.code.now.meetings c.args.at.0 _ c.requires.valid.tables.meetings row in
    tasks_known c.args.code.now (node_of c.args.state.now) (standing_in c.args.state.now c.args.at.0 c.args.at.1) c.as_slice-in-Some-TaskEnd.result.now row fits.each c.requires.goes

pub returns-in-Some-TaskEnd-clause-ok : goal.returns-in-Some-TaskEnd-clause-ok
returns-in-Some-TaskEnd-clause-ok c =
    let row = sym c.in-Some-TaskEnd.ensures.value ∙ ap Some c.in-Some-TaskEnd.field-0-is ∙ ap (λ sets. Some (meeting.TaskEnd sets)) (sym c.as_slice-in-Some-TaskEnd.ensures) in
    let fits = all_at (MeetingFits c.args.code.now) c.args.code.now.meetings c.args.at.0 _ c.requires.valid.tables.meetings row in
    on_ok c.end_tasks.result
    (tasks_go c.args.code.now (node_of c.args.state.now) (node_of c.end_tasks.new.state) (standing_in c.args.state.now c.args.at.0 c.args.at.1) c.as_slice-in-Some-TaskEnd.result.now row fits.each c.requires.goes)
    c.end_tasks.ensures.node
