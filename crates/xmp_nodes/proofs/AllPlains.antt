-- Every plain statement at a node follows the serial one.
use Rattle.std.proofs.Common.{◌≡◌, ℕ, true, true≢false, List, Option, Some, None, refl, sym, subst}
use Rattle.std.specs.List.{AllByRecursion}
use Rattle.xmp_base.specs.declared.place.Place.{Place}
use Rattle.xmp_num.specs.declared.types.RedOp.{RedOp}
use Rattle.xmp_paths.specs.NodeSets.{has}
use Rattle.xmp_paths.specs.Plans.{Plan, in_order}
use Rattle.xmp_paths.specs.Safe.{NothingWrong}
use Rattle.xmp_paths.specs.declared.event.Event.{Event}
use Rattle.xmp_prog.specs.declared.expressions.Expr.{Expr}
use Rattle.xmp_prog.specs.declared.statements.Compound.{Compound}
use Rattle.xmp_prog.specs.declared.statements.LoopDirective.{LoopDirective}
use Rattle.xmp_prog.specs.declared.statements.Target.TheVariants as target
use Rattle.xmp_prog.specs.declared.statements.Plain.{Plain}
use Rattle.xmp_prog.specs.declared.statements.Plain.TheVariants as plain
use Rattle.xmp_prog.specs.declared.statements.Stmt.TheVariants as stmt
use Rattle.xmp_prog.specs.Statements.{plain_writes}
use Rattle.xmp_prog.proofs.Rolls.{at_plain}
use Rattle.xmp_loops.specs.Forms.{assignment_form}
use Rattle.xmp_loops.specs.declared.role.Role.{Role}
use Rattle.xmp_loops.specs.declared.role.Role.TheVariants.{Shared, Index, Reduced, Own}
use Rattle.xmp_flow.specs.Reads.{reads_of_all}
use Rattle.xmp_flow.specs.PlainEvents.{set_events, in_form, form_of_set, plain_events}
use Rattle.xmp_meaning.specs.declared.ends.Flow.{Flow}
use Rattle.xmp_meaning.specs.Runs.{Run}
use Rattle.xmp_meaning.specs.Handlers.{erased}
use Rattle.xmp_meaning.specs.Statements.{plain_of}
use Rattle.xmp_meaning.specs.Writes.{plain_arrays, scalars_step, arrays_step, written_in_task}
use Rattle.xmp_meaning.specs.Exchanges.{Notes}
use Rattle.xmp_meaning.specs.Traffic.{node_context}
use Rattle.xmp_meaning_laws.specs.Laws.{is_plain}
use Rattle.xmp_nodes.proofs.Agrees.{Stand, Carried, IsNext, is_changed}
use Rattle.xmp_nodes.proofs.Standing.{PartFits, IsSetting, WritesFit}
use Rattle.xmp_nodes.proofs.Leaves.{serial_cx, GivesNext, PlainsCarry, SetFormsCarry}
use Rattle.xmp_nodes.proofs.Follow.{carried_weaker}
use Rattle.xmp_nodes.proofs.PartSplits.{plain_fits}
use Rattle.xmp_nodes.proofs.SameRuns.{noted_plain}
use Rattle.xmp_nodes.proofs.PlainsCarried.{return_follows, call_follows, print_follows, declare_follows, set_follows, scan_follows}
use Rattle.xmp_nodes.proofs.CellsCarried.{put_follows, read_follows}

module _ (forms : SetFormsCarry) (a : Stand) (is : IsSetting a) (there : has a.set.nodes a.node ≡ true) (input : List ℕ) where
  abbrev Follows : Plain → Plan Event → Type 0
  Follows q plan = Carried a (GivesNext q) plan (plain_of erased (serial_cx a.program input) q) (plain_of erased (node_context a.program a.node input) q)

  -- what a plain statement may write
  changes : (q : Plain) → WritesFit a (stmt.Plain q) → (d : LoopDirective) → a.set.over ≡ Some d → AllByRecursion (λ slot. is_changed (a.set.roles slot) ≡ true) (plain_writes q)
  changes q w d e = subst (AllByRecursion (λ slot. is_changed (a.set.roles slot) ≡ true)) (at_plain (List ℕ) (List ℕ) scalars_step written_in_task q) (w.scalars d e)

  puts : (q : Plain) → WritesFit a (stmt.Plain q) → (d : LoopDirective) → a.set.over ≡ Some d → AllByRecursion (λ array. a.set.written array ≡ true) (plain_arrays q)
  puts q w d e = subst (AllByRecursion (λ array. a.set.written array ≡ true)) (at_plain (List ℕ) (List ℕ) arrays_step written_in_task q) (w.arrays d e)

  -- an assignment to a scalar, in a reduction form or not
  set_scalar_follows : (slot : ℕ) (here : Place) (c : Option Compound) (e : Expr) → PartFits a.program (stmt.Plain (plain.Set (target.Scalar slot here) c e)) → WritesFit a (stmt.Plain (plain.Set (target.Scalar slot here) c e))
      → NothingWrong (plain_events (plain.Set (target.Scalar slot here) c e) a.set) → Follows (plain.Set (target.Scalar slot here) c e) (plain_events (plain.Set (target.Scalar slot here) c e) a.set)
  set_scalar_follows slot here c e fits w none = of_role (a.set.roles slot) refl none
    where
      plainly : NothingWrong (set_events a.set slot here c e) → Follows (plain.Set (target.Scalar slot here) c e) (set_events a.set slot here c e)
      plainly none = set_follows a is there input slot here c e (plain_fits a.program (plain.Set (target.Scalar slot here) c e) fits).terms (λ d o. (changes (plain.Set (target.Scalar slot here) c e) w d o).0) none

      of_form : (r : RedOp) → a.set.roles slot ≡ Reduced r → (o : Option (List Expr)) → assignment_form a.set.program slot r here c e ≡ o → NothingWrong (in_form a.set (set_events a.set slot here c e) o)
          → Follows (plain.Set (target.Scalar slot here) c e) (in_form a.set (set_events a.set slot here c e) o)
      of_form r role None i none = plainly none
      of_form r role (Some es) i none =
          carried_weaker a IsNext (GivesNext (plain.Set (target.Scalar slot here) c e)) (in_order (reads_of_all es a.set)) _ _ (λ v h k. h)
          (subst (λ (f : Run Notes Flow). Carried a IsNext (in_order (reads_of_all es a.set)) f (plain_of erased (node_context a.program a.node input) (plain.Set (target.Scalar slot here) c e)))
          (noted_plain a.program (serial_cx a.program input) (plain.Set (target.Scalar slot here) c e) refl)
          (forms a is there input slot here c e r es role (subst (λ p. assignment_form p slot r here c e ≡ Some es) is.program i) fits w none))

      of_role : (r : Role) → a.set.roles slot ≡ r → NothingWrong (in_form a.set (set_events a.set slot here c e) (form_of_set a.set slot here c e r))
          → Follows (plain.Set (target.Scalar slot here) c e) (in_form a.set (set_events a.set slot here c e) (form_of_set a.set slot here c e r))
      of_role Shared i none = plainly none
      of_role Index i none = plainly none
      of_role Own i none = plainly none
      of_role (Reduced r) i none = of_form r i (assignment_form a.set.program slot r here c e) refl none

  plain_follows : (q : Plain) → is_plain q ≡ true → PartFits a.program (stmt.Plain q) → WritesFit a (stmt.Plain q) → NothingWrong (plain_events q a.set) → Follows q (plain_events q a.set)
  plain_follows (plain.Declare slot value at) h fits w none =
      declare_follows a is there input slot value at (plain_fits a.program (plain.Declare slot value at) fits).terms (λ d o. (changes (plain.Declare slot value at) w d o).0) none
  plain_follows (plain.Set (target.Scalar slot here) c e) h fits w none = set_scalar_follows slot here c e fits w none
  plain_follows (plain.Set (target.Cell e) c value) h fits w none =
      put_follows a is there input e c value (plain_fits a.program (plain.Set (target.Cell e) c value) fits).terms (λ d o. (puts (plain.Set (target.Cell e) c value) w d o).0) none
  plain_follows (plain.Return e) h fits w none = return_follows a is there input e (plain_fits a.program (plain.Return e) fits).terms none
  plain_follows (plain.Call function arguments at) h fits w none = call_follows a is there input function arguments at (plain_fits a.program (plain.Call function arguments at) fits).terms none
  plain_follows (plain.Print format arguments at) h fits w none = print_follows a is there input format arguments at (plain_fits a.program (plain.Print format arguments at) fits).terms none
  plain_follows (plain.Scan (target.Scalar slot here) at) h fits w none = scan_follows a is there input slot here at (λ d o. (changes (plain.Scan (target.Scalar slot here) at) w d o).0) none
  plain_follows (plain.Scan (target.Cell e) at) h fits w none =
      read_follows a is there input e at (plain_fits a.program (plain.Scan (target.Cell e) at) fits).terms (λ d o. (puts (plain.Scan (target.Cell e) at) w d o).0) none
  plain_follows (plain.Sync status at) h fits w none = absurd (true≢false (sym h))
  plain_follows (plain.Reflect arrays at) h fits w none = absurd (true≢false (sym h))
  plain_follows (plain.Barrier at) h fits w none = absurd (true≢false (sym h))
  plain_follows (plain.Cast variables from at) h fits w none = absurd (true≢false (sym h))
  plain_follows (plain.Gmove to from at) h fits w none = absurd (true≢false (sym h))

-- plain statements follow, where the reduction forms of assignments do
pub plains_carry : SetFormsCarry → PlainsCarry
plains_carry forms a is there input q h fits w none =
    subst (λ (f : Run Notes Flow). Carried a (GivesNext q) (plain_events q a.set) f (plain_of erased (node_context a.program a.node input) q))
    (sym (noted_plain a.program (serial_cx a.program input) q h)) (plain_follows forms a is there input q h fits w none)
