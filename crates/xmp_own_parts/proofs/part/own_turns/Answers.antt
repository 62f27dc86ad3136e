use Rattle.std.proofs.Common.{◌≡◌, List, ℤ, Some, None, ap, ◌∙◌, rules}
use Rattle.std.specs.Prelude.{slice_get}
use Rattle.xmp_prog.specs.Statements.{indices_of}
use Rattle.xmp_prog.specs.declared.statements.LoopHead.{LoopHead}
use Rattle.xmp_meaning.specs.declared.ends.Flow.{Flow}
use Rattle.xmp_meaning.specs.Handlers.{erased}
use Rattle.xmp_meaning.specs.Runs.{Run}
use Rattle.xmp_meaning.specs.Statements.{stmt_of}
use Rattle.xmp_meaning_laws.specs.Tuples.{for_each}
use Rattle.xmp_serial.specs.Lines.{context_of}
use Rattle.xmp_nodes.specs.Parts.{own_tuples}
use Rattle.xmp_own_parts.specs.Walks.{IsNestAt}
use Rattle.xmp_own_parts.proofs.Tuples.{tuples_of_nest, no_template, done_all}
use Rattle.xmp_own_parts.proofs.part.own_turns.Goals as goal

pub returns-in-None : goal.returns-in-None
returns-in-None c =
    let p : _ = c.args.at.now.layout.now.program.now in
    let none : slice_get c.args.at.now.layout.now.program.now.templates c.args.directive.now.template ≡ None = search rules in
    let body : Run (Unit {0}) Flow = stmt_of erased (context_of c.args.at.now.layout.now.program.now c.args.at.now.layout.now.packed c.args.at.now.node c.args.at.now.input.now) c.args.body.now in
    ap (λ (ts : List (List ℤ)). for_each (indices_of c.args.directive.now.nest) ts body c.args.state.now) (no_template p c.args.directive.now c.args.node c.args.state.now none)

pub returns : goal.returns
returns c =
    let p : _ = c.args.at.now.layout.now.program.now in
    let there : slice_get c.args.at.now.layout.now.program.now.templates c.args.directive.now.template ≡ Some c.in-Some.template.now = search rules in
    let body : Run (Unit {0}) Flow = stmt_of erased (context_of c.args.at.now.layout.now.program.now c.args.at.now.layout.now.packed c.args.at.now.node c.args.at.now.input.now) c.args.body.now in
    let is : IsNestAt c.args.at.now.layout.now.program.now c.in-Some.template.now c.args.directive.now c.args.node c.args.state.now.scalars c.nest_at-nest.result = record {
      template = c.nest_at-nest.ensures.template;
      at = c.nest_at-nest.ensures.at;
      points = c.nest_at-nest.ensures.points;
      heads = c.nest_at-nest.ensures.heads;
      scalars = c.nest_at-nest.ensures.scalars ∙ c.as_slice.ensures ∙ c.in-Ok.ensures {u = tt} ∙ c.scalars.ensures;
    } in
    done_all c.nest_at-nest.result c.new.result (own_tuples p c.args.directive.now c.args.node c.args.state.now) (indices_of c.args.directive.now.nest) body c.args.state.now c.over.new.state c.over.result c.new.ensures
    (tuples_of_nest p c.in-Some.template.now c.args.directive.now c.args.node c.args.state.now c.nest_at-nest.result there is) (ap (λ (hs : List LoopHead). indices_of hs) c.nest_at-nest.ensures.heads) c.over.ensures.does
