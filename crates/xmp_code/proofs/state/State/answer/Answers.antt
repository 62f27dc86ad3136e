use Rattle.std.proofs.Common.{rules, ◌≡◌, ◌≤◌, length, ap, sym, subst, refl, ◌∙◌, ◌+◌, ◌∷◌, drop, w64, to_z, of_z}
use Rattle.std.specs.Prelude.{FitsSigned}
use Rattle.std.proofs.lemmas.Int.{to_z-of_z}
use Rattle.xmp_instr.specs.declared.instr.Instr.TheVariants as i
use Rattle.xmp_instr.specs.Fits.{Fits}
use Rattle.xmp_instr.specs.Serving.{answered}
use Rattle.xmp_instr.proofs.Served.{answered_fit}
use Rattle.xmp_code.specs.declared.state.State.{State}
use Rattle.xmp_code.specs.Stacks.{Stacked}
use Rattle.xmp_code.specs.States.{node_of}
use Rattle.xmp_code.proofs.Advanced.{refits}
use Rattle.xmp_code.proofs.Outside.{answered_is, enough, stage_is}
use Rattle.xmp_code.proofs.state.State.answer.Goals as goal

pub set_top-requires : goal.set_top-requires
set_top-requires c = enough c.args.code.now c.args.self.now i.Get c.requires.valid c.requires.state c.requires.going c.requires.get

pub returns-clause-node : goal.returns-clause-node
returns-clause-node c =
    let s : State = c.args.self.now in
    let few = enough c.args.code.now s i.Get c.requires.valid c.requires.state c.requires.going c.requires.get in
    let fit : FitsSigned w64 c.args.v = search rules in
    answered_is s c.set_top.new.self c.args.v (to_z w64 (of_z w64 c.args.v)) few (to_z-of_z w64 c.args.v fit) c.set_top.ensures

pub returns-clause-fits : goal.returns-clause-fits
returns-clause-fits c =
    let s : State = c.args.self.now in
    let few = enough c.args.code.now s i.Get c.requires.valid c.requires.state c.requires.going c.requires.get in
    let fit : FitsSigned w64 c.args.v = search rules in
    let e = answered_is s c.set_top.new.self c.args.v (to_z w64 (of_z w64 c.args.v)) few (to_z-of_z w64 c.args.v fit) c.set_top.ensures in
    refits c.args.code.now s (record s { place = s.place + 1; stack = c.set_top.new.self }) c.requires.state
    (subst (Fits c.args.code.now) (sym e) (answered_fit c.args.code.now (node_of s) c.args.v c.requires.valid c.requires.state.node (stage_is s c.requires.going) c.requires.get))
    (ap (λ st. st.room) c.set_top.ensures) refl refl refl c.requires.state.moving
