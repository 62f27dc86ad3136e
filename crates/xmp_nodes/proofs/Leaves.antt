-- The lemmas that the theorem stands on, as types: each is proved in a file of its own.
use Rattle.std.specs.Prelude.{◌≡◌, ◌≢◌, ◌<◌, ℕ, Bool, true, false, List, ◌∷◌, length, map, Option, Some, None}
use Rattle.std.specs.List.{AllByRecursion}
use Rattle.xmp_base.specs.declared.place.Place.{Place}
use Rattle.xmp_map.specs.declared.grid.NodeSet.{NodeSet}
use Rattle.xmp_num.specs.declared.types.RedOp.{RedOp}
use Rattle.xmp_num.specs.Arithmetic.{FitsType}
use Rattle.xmp_prog.specs.declared.parts.ProgParts.{ProgParts}
use Rattle.xmp_prog.specs.declared.expressions.Expr.{Expr}
use Rattle.xmp_prog.specs.declared.statements.Compound.{Compound}
use Rattle.xmp_prog.specs.declared.statements.Target.TheVariants as target
use Rattle.xmp_prog.specs.declared.statements.LoopDirective.{LoopDirective}
use Rattle.xmp_prog.specs.declared.statements.LoopHead.{LoopHead}
use Rattle.xmp_prog.specs.declared.statements.MoveSide.{MoveSide}
use Rattle.xmp_prog.specs.declared.statements.Name.{Name}
use Rattle.xmp_prog.specs.declared.statements.Plain.{Plain}
use Rattle.xmp_prog.specs.declared.statements.Plain.TheVariants as plain
use Rattle.xmp_prog.specs.declared.statements.Stmt.{Stmt}
use Rattle.xmp_prog.specs.declared.statements.Stmt.TheOpen.{Stmt-F}
use Rattle.xmp_prog.specs.declared.statements.Stmt.TheVariants as stmt
use Rattle.xmp_prog.specs.declared.statements.Task.{Task}
use Rattle.xmp_prog.specs.Counted.{is_counted}
use Rattle.xmp_prog.specs.Terms.{terms_of, type_of}
use Rattle.xmp_prog.specs.Tests.{is_return}
use Rattle.xmp_prog.specs.Fits.{node_count}
use Rattle.xmp_prog.specs.Statements.{Statement, terms_in, slots_in, writes_of}
use Rattle.xmp_paths.specs.declared.event.Event.{Event}
use Rattle.xmp_paths.specs.NodeSets.{has}
use Rattle.xmp_paths.specs.Plans.{Plan, Path, in_order}
use Rattle.xmp_paths.specs.Safe.{left, NothingWrong}
use Rattle.xmp_loops.specs.Objects.{scalar_object, all_nodes}
use Rattle.xmp_loops.specs.Forms.{assignment_form}
use Rattle.xmp_loops.specs.declared.role.Role.TheVariants.{Reduced}
use Rattle.xmp_flow.specs.Setting.{Setting, wrong_where, in_task}
use Rattle.xmp_flow.specs.Reads.{reads_of, reads_of_all}
use Rattle.xmp_flow.specs.PlainEvents.{plain_events}
use Rattle.xmp_flow.specs.LoopEvents.{loop_events}
use Rattle.xmp_flow.specs.Statements.{events_of, if_form}
use Rattle.xmp_flow.specs.Program.{outermost}
use Rattle.xmp_meaning.specs.declared.ends.Flow.{Flow}
use Rattle.xmp_meaning.specs.declared.ends.Flow.TheVariants.{Next}
use Rattle.xmp_meaning.specs.Runs.{Run, ◌>>=◌, pure}
use Rattle.xmp_meaning.specs.Blocks.{choose}
use Rattle.xmp_meaning.specs.Context.{Context}
use Rattle.xmp_meaning.specs.Handlers.{TaskRun, erased}
use Rattle.xmp_meaning.specs.Expressions.{expr_of, holds}
use Rattle.xmp_meaning.specs.Loops.{nest}
use Rattle.xmp_meaning.specs.Statements.{plain_of, stmt_of}
use Rattle.xmp_meaning.specs.Calls.{main_context}
use Rattle.xmp_meaning.specs.Writes.{scalars_written}
use Rattle.xmp_meaning.specs.Exchanges.{Notes, traced}
use Rattle.xmp_meaning.specs.Traffic.{node_context}
use Rattle.xmp_meaning_laws.specs.Laws.{is_plain}
use Rattle.xmp_nodes.specs.Casting.{cast_all}
use Rattle.xmp_nodes.specs.Reflecting.{reflect_all}
use Rattle.xmp_nodes.specs.Moving.{gmove_all}
use Rattle.xmp_nodes.specs.Parts.{loop_all}
use Rattle.xmp_nodes.specs.Tasks.{TaskOf, tasks_all}
use Rattle.xmp_nodes.specs.Lockstep.{lockstep}
use Rattle.xmp_nodes.proofs.Agrees.{Stand, Carried, Skipped, AllFollow, IsNext}
use Rattle.xmp_nodes.proofs.Standing.{IsGlobal, TermStands, StatementStands, PartFits, NoReturn, IsSetting, WritesFit}

-- the serial run that notes, and a node's run
abbrev pub serial_cx : ProgParts → (input : List ℕ) → Context
serial_cx p input = main_context p 0 input

abbrev pub noting : ProgParts → (input : List ℕ) → Stmt → Run Notes Flow
noting p input x = stmt_of (traced p) (serial_cx p input) x

-- ---- parts of programs

abbrev pub BodyFits : Type 0
BodyFits = (p : ProgParts) → IsGlobal p → PartFits p p.body

abbrev pub BlocksFit : Type 0
BlocksFit = (p : ProgParts) (all : List Stmt) → PartFits p (stmt.Block all) → AllByRecursion (PartFits p) all

pub record IfFits (p : ProgParts) (e : Expr) (x y : Stmt) : Type 0 where
  pub test : AllByRecursion (TermStands p) (terms_of p e)
  pub first : PartFits p x
  pub second : PartFits p y

abbrev pub IfsFit : Type 0
IfsFit = (p : ProgParts) (e : Expr) (x y : Stmt) → PartFits p (stmt.If e x y) → IfFits p e x y

pub record WhileFits (p : ProgParts) (e : Expr) (body : Stmt) : Type 0 where
  pub test : AllByRecursion (TermStands p) (terms_of p e)
  pub inner : PartFits p body

abbrev pub WhilesFit : Type 0
WhilesFit = (p : ProgParts) (e : Expr) (body : Stmt) (at : Place) → PartFits p (stmt.While e body at) → WhileFits p e body

pub record CountedFits (p : ProgParts) (head : LoopHead) (body : Stmt) : Type 0 where
  pub from : AllByRecursion (TermStands p) (terms_of p head.from)
  pub to : AllByRecursion (TermStands p) (terms_of p head.to)
  pub index : head.index.number < length p.scalars
  pub counted : is_counted p head (writes_of body) ≡ true
  pub inner : PartFits p body

abbrev pub CountedsFit : Type 0
CountedsFit = (p : ProgParts) (head : LoopHead) (body : Stmt) → PartFits p (stmt.Counted head body) → CountedFits p head body

-- a statement itself, the statements in it apart
pub record StepFits (p : ProgParts) (y : Statement) : Type 0 where
  pub terms : AllByRecursion (TermStands p) (terms_in p y)
  pub stands : StatementStands p y
  pub slots : AllByRecursion (λ n. n < length p.scalars) (slots_in p y)

abbrev pub PlainFits : Type 0
PlainFits = (p : ProgParts) (q : Plain) → PartFits p (stmt.Plain q) → StepFits p (Stmt-F.Plain q)

pub record LoopFits (p : ProgParts) (d : LoopDirective) (body : Stmt) : Type 0 where
  pub step : StepFits p (Stmt-F.Loop d (writes_of body))
  pub inner : PartFits p body

abbrev pub LoopsFit : Type 0
LoopsFit = (p : ProgParts) (d : LoopDirective) (body : Stmt) → PartFits p (stmt.Loop d body) → LoopFits p d body

pub record TasksFit (p : ProgParts) (all : List Task) (at : Place) : Type 0 where
  pub step : StepFits p (Stmt-F.Tasks (map (λ t. t.nodes) all) at)
  pub bodies : AllByRecursion (λ t. PartFits p t.body) all

abbrev pub AllTasksFit : Type 0
AllTasksFit = (p : ProgParts) (all : List Task) (at : Place) → PartFits p (stmt.Tasks all at) → TasksFit p all at

-- a node's own run of a statement is the erased one over its packed store
abbrev pub AloneIsErased : Type 0
AloneIsErased = (p : ProgParts) (input : List ℕ) (x : Stmt) (node : ℕ) → (lockstep p input x).at node ≡ stmt_of erased (node_context p node input) x

-- all nodes that there are stand in the set of all
abbrev pub AllStand : Type 0
AllStand = (p : ProgParts) (node : ℕ) → node < node_count p → has (all_nodes p) node ≡ true

-- reading marks nothing
abbrev pub ReadsKeep : Type 0
ReadsKeep = (set : Setting) (node : ℕ) (e : Expr) (way : List Event) → Path (reads_of e set) way → (stale : ℕ → Bool) (object : ℕ)
    → left node way stale object ≡ stale object

-- a statement makes no scalar out of date that it doesn't write
abbrev pub UnwrittenStay : Type 0
UnwrittenStay = (set : Setting) (node slot : ℕ) (x : Stmt) → AllByRecursion (λ n. n ≢ slot) (scalars_written x)
    → (way : List Event) → Path (events_of x set) way → (stale : ℕ → Bool) → stale (scalar_object slot) ≡ false
    → left node way stale (scalar_object slot) ≡ false

-- ---- one node

abbrev pub ExpressionsCarry : Type 0
ExpressionsCarry = (a : Stand) → IsSetting a → has a.set.nodes a.node ≡ true → (input : List ℕ) (e : Expr)
    → AllByRecursion (TermStands a.program) (terms_of a.program e) → NothingWrong (reads_of e a.set)
    → Carried a (FitsType (type_of a.program e)) (reads_of e a.set)
    (expr_of (traced a.program) (serial_cx a.program input) e) (expr_of erased (node_context a.program a.node input) e)

-- what a plain statement gives: it goes on, unless it is `return`
abbrev pub GivesNext : Plain → Flow → Type 0
GivesNext q flow = is_return {A = List ℕ} {B = NodeSet} (Stmt-F.Plain q) ≡ false → IsNext flow

abbrev pub PlainsCarry : Type 0
PlainsCarry = (a : Stand) → IsSetting a → has a.set.nodes a.node ≡ true → (input : List ℕ) (q : Plain) → is_plain q ≡ true
    → PartFits a.program (stmt.Plain q) → WritesFit a (stmt.Plain q) → NothingWrong (plain_events q a.set)
    → Carried a (GivesNext q) (plain_events q a.set)
    (plain_of (traced a.program) (serial_cx a.program input) q) (plain_of erased (node_context a.program a.node input) q)

-- an assignment that is the form of a reduction
abbrev pub SetFormsCarry : Type 0
SetFormsCarry = (a : Stand) → IsSetting a → has a.set.nodes a.node ≡ true → (input : List ℕ) (slot : ℕ) (at : Place) (c : Option Compound) (e : Expr) (op : RedOp) (es : List Expr)
    → a.set.roles slot ≡ Reduced op → assignment_form a.program slot op at c e ≡ Some es → PartFits a.program (stmt.Plain (plain.Set (target.Scalar slot at) c e))
    → WritesFit a (stmt.Plain (plain.Set (target.Scalar slot at) c e)) → NothingWrong (in_order (reads_of_all es a.set))
    → Carried a IsNext (in_order (reads_of_all es a.set))
    (plain_of (traced a.program) (serial_cx a.program input) (plain.Set (target.Scalar slot at) c e))
    (plain_of erased (node_context a.program a.node input) (plain.Set (target.Scalar slot at) c e))

-- `if (q) v = x;` where that is the form of a reduction
abbrev pub IfFormsCarry : Type 0
IfFormsCarry = (a : Stand) → IsSetting a → has a.set.nodes a.node ≡ true → (input : List ℕ) (e : Expr) (x y : Stmt) (es : List Expr) → if_form a.set e x y ≡ Some es
    → AllByRecursion (TermStands a.program) (terms_of a.program e) → PartFits a.program x → PartFits a.program y → WritesFit a x
    → NothingWrong (in_order (reads_of_all es a.set))
    → Carried a IsNext (in_order (reads_of_all es a.set))
    (holds (expr_of (traced a.program) (serial_cx a.program input) e) >>= (λ v. choose v (noting a.program input x) (noting a.program input y)))
    (holds (expr_of erased (node_context a.program a.node input) e)
    >>= (λ v. choose v ((lockstep a.program input x).at a.node) ((lockstep a.program input y).at a.node)))

abbrev pub StatementsCarry : Type 0
StatementsCarry = (a : Stand) → IsSetting a → has a.set.nodes a.node ≡ true → a.set.inside ≡ true → (input : List ℕ) (x : Stmt)
    → PartFits a.program x → WritesFit a x → NoReturn x → NothingWrong (events_of x a.set)
    → Carried a IsNext (events_of x a.set) (noting a.program input x) ((lockstep a.program input x).at a.node)

abbrev pub StatementsSkip : Type 0
StatementsSkip = (a : Stand) → IsSetting a → has a.set.nodes a.node ≡ false → a.set.inside ≡ true → a.set.over ≡ None → a.base ≡ None
    → (input : List ℕ) (x : Stmt) → PartFits a.program x → NoReturn x → NothingWrong (events_of x a.set)
    → Skipped a IsNext (events_of x a.set) (noting a.program input x)

-- ---- loop directives

abbrev pub LoopsFollow : Type 0
LoopsFollow = (p : ProgParts) → IsGlobal p → (input : List ℕ) (d : LoopDirective) (body : Stmt) → PartFits p (stmt.Loop d body) → NoReturn body
    → NothingWrong (loop_events d body (events_of body) (outermost p))
    → AllFollow p IsNext (loop_events d body (events_of body) (outermost p))
    ((traced p).loop d (nest (traced p) (serial_cx p input) d.nest) (noting p input body))
    (loop_all p d (lockstep p input body).at)

-- ---- other directives

abbrev pub CastsFollow : Type 0
CastsFollow = (p : ProgParts) → IsGlobal p → (variables : List Name) (from : NodeSet) (at : Place) → PartFits p (stmt.Plain (plain.Cast variables from at))
    → NothingWrong (plain_events (plain.Cast variables from at) (outermost p))
    → AllFollow p IsNext (plain_events (plain.Cast variables from at) (outermost p)) ((traced p).bcast variables from) (cast_all p variables from)

abbrev pub BarriersFollow : Type 0
BarriersFollow = (p : ProgParts) → IsGlobal p → (at : Place)
    → AllFollow p IsNext (plain_events (plain.Barrier at) (outermost p)) (traced p).barrier (pure Next)

abbrev pub ReflectsFollow : Type 0
ReflectsFollow = (p : ProgParts) → IsGlobal p → (arrays : List Name) (at : Place) → PartFits p (stmt.Plain (plain.Reflect arrays at))
    → NothingWrong (plain_events (plain.Reflect arrays at) (outermost p))
    → AllFollow p IsNext (plain_events (plain.Reflect arrays at) (outermost p)) ((traced p).reflect arrays) (reflect_all p arrays)

abbrev pub GmovesFollow : Type 0
GmovesFollow = (p : ProgParts) → IsGlobal p → (input : List ℕ) (target source : MoveSide) (at : Place) → PartFits p (stmt.Plain (plain.Gmove target source at))
    → NothingWrong (plain_events (plain.Gmove target source at) (outermost p))
    → AllFollow p IsNext (plain_events (plain.Gmove target source at) (outermost p))
    (plain_of (traced p) (serial_cx p input) (plain.Gmove target source at)) (gmove_all p input target source)

-- the tasks of the serial run, and those of the nodes
abbrev pub noted_task : ProgParts → (input : List ℕ) → Task → TaskRun Notes
noted_task p input t = record { nodes = t.nodes; run = noting p input t.body; at = t.at }

abbrev pub node_task : ProgParts → (input : List ℕ) → Task → TaskOf
node_task p input t = record { nodes = t.nodes; at = (lockstep p input t.body).at; place = t.at }

abbrev pub task_plan : ProgParts → List Task → Place → Plan Event
task_plan p all at = in_order (wrong_where false 10 at ∷ map (λ t. events_of t.body (in_task (outermost p) t.nodes)) all)

abbrev pub TasksFollow : Type 0
TasksFollow = (p : ProgParts) → IsGlobal p → (input : List ℕ) (all : List Task) (at : Place) → PartFits p (stmt.Tasks all at)
    → AllByRecursion (λ t. NoReturn t.body) all → NothingWrong (task_plan p all at)
    → AllFollow p IsNext (task_plan p all at) ((traced p).tasks (map (noted_task p input) all)) (tasks_all p (map (node_task p input) all))
