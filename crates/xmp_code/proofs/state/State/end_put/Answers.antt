use Rattle.std.proofs.Common.{◌≡◌, ◌≤◌, length, ap, sym, subst, refl, ◌∙◌, arith, ◌+◌, drop}
use Rattle.xmp_instr.specs.declared.instr.Instr.TheVariants as i
use Rattle.xmp_instr.specs.Fits.{Fits}
use Rattle.xmp_instr.specs.Serving.{put_done}
use Rattle.xmp_instr.proofs.Served.{put_fit}
use Rattle.xmp_code.specs.declared.state.State.{State}
use Rattle.xmp_code.specs.States.{node_of}
use Rattle.xmp_code.proofs.Advanced.{refits}
use Rattle.xmp_code.proofs.Outside.{put_is, enough, stage_is}
use Rattle.xmp_code.proofs.state.State.end_put.Goals as goal

pub take-requires : goal.take-requires
take-requires c = enough c.args.code.now c.args.self.now i.Put c.requires.valid c.requires.state c.requires.going c.requires.put

pub returns-clause-node : goal.returns-clause-node
returns-clause-node c =
    let s : State = c.args.self.now in
    let few = enough c.args.code.now s i.Put c.requires.valid c.requires.state c.requires.going c.requires.put in
    ap (λ st. node_of (record s { place = s.place + 1; stack = st })) c.take.ensures
    ∙ ap (λ xs. record (node_of s) { place = s.place + 1; stack = xs }) (put_is s.stack.values few)

pub returns-clause-fits : goal.returns-clause-fits
returns-clause-fits c =
    let s : State = c.args.self.now in
    let t : State = record s { place = s.place + 1; stack = c.take.new.self } in
    let few = enough c.args.code.now s i.Put c.requires.valid c.requires.state c.requires.going c.requires.put in
    let e : node_of t ≡ put_done (node_of s) =
    ap (λ st. node_of (record s { place = s.place + 1; stack = st })) c.take.ensures
    ∙ ap (λ xs. record (node_of s) { place = s.place + 1; stack = xs }) (put_is s.stack.values few) in
    refits c.args.code.now s t c.requires.state
    (subst (Fits c.args.code.now) (sym e) (put_fit c.args.code.now (node_of s) c.requires.valid c.requires.state.node (stage_is s c.requires.going) c.requires.put))
    (ap (λ st. st.room) c.take.ensures) refl refl refl c.requires.state.moving
