-- Statements keep every relation whose conditions the statements in them meet.
use Rattle.std.proofs.Common.{◌≡◌, ◌++◌, ◌+ℤ◌, ℕ, zero, suc, ℤ, pos, Bool, true, false, List, [], ◌∷◌, map, length, Option, Some, None, refl, sym, subst}
use Rattle.std.specs.List.{AllByRecursion, flat_map}
use Rattle.xmp_base.specs.declared.place.Place.{Place}
use Rattle.xmp_num.specs.declared.types.TrapKind.TheVariants.{Section}
use Rattle.xmp_num.specs.declared.types.Ty.{Ty}
use Rattle.xmp_num.specs.declared.types.Ty.TheVariants.{Int}
use Rattle.xmp_num.specs.Arithmetic.{binary_of, wrap}
use Rattle.xmp_num.specs.Decimal.{scan_of}
use Rattle.xmp_prog.specs.declared.parts.ProgParts.{ProgParts}
use Rattle.xmp_prog.specs.declared.parts.Start.{Start}
use Rattle.xmp_prog.specs.declared.expressions.Expr.{Expr}
use Rattle.xmp_prog.specs.declared.statements.Compound.{Compound}
use Rattle.xmp_prog.specs.declared.statements.LoopHead.{LoopHead}
use Rattle.xmp_prog.specs.declared.statements.LoopDirective.{LoopDirective}
use Rattle.xmp_prog.specs.declared.statements.Part.{Part}
use Rattle.xmp_prog.specs.declared.statements.Part.TheVariants as part
use Rattle.xmp_prog.specs.declared.statements.MoveSide.{MoveSide}
use Rattle.xmp_prog.specs.declared.statements.MoveSide.TheVariants as side
use Rattle.xmp_prog.specs.declared.statements.Target.{Target}
use Rattle.xmp_prog.specs.declared.statements.Target.TheVariants as target
use Rattle.xmp_prog.specs.declared.statements.Plain.{Plain}
use Rattle.xmp_prog.specs.declared.statements.Plain.TheVariants as plain
use Rattle.xmp_prog.specs.declared.statements.Stmt.{Stmt, map-Stmt}
use Rattle.xmp_prog.specs.declared.statements.Task.{Task, map-Task}
use Rattle.xmp_prog.specs.declared.statements.Stmt.TheOpen.{Stmt-F, Task-F}
use Rattle.xmp_prog.specs.declared.statements.Stmt.TheFolds.{ind-Stmt, fold-Task, fold-roll-Stmt, fold-roll-Task}
use Rattle.xmp_prog.specs.declared.statements.Stmt.TheViews.{roll-Stmt, roll-Task}
use Rattle.xmp_prog.specs.Terms.{Term, terms_of, terms_of_option, terms_of_list}
use Rattle.xmp_prog.specs.Statements.{Statement, Walked, WalkedTask, walked, walk_step, walk_task, terms_of_target, terms_of_head, terms_of_part, terms_of_side, indices_of, slots_of_target, slots_of_side, arrays_of_side, slots_of_point}
use Rattle.xmp_meaning.specs.declared.location.Location.{Location}
use Rattle.xmp_meaning.specs.declared.location.Location.TheVariants as location
use Rattle.xmp_meaning.specs.declared.ends.Flow.{Flow}
use Rattle.xmp_meaning.specs.declared.ends.Flow.TheVariants.{Next, Returned}
use Rattle.xmp_meaning.specs.Runs.{State, Run, ◌>>=◌, pure}
use Rattle.xmp_meaning.specs.Declarations.{extents, scalar_type, array_type}
use Rattle.xmp_meaning.specs.Blocks.{each, after, then_run, block, choose, turns}
use Rattle.xmp_meaning.specs.Context.{Context}
use Rattle.xmp_meaning.specs.Handlers.{Handlers, TaskRun, Aim}
use Rattle.xmp_meaning.specs.Expressions.{expr_of, natural, within}
use Rattle.xmp_meaning.specs.Formats.{printed}
use Rattle.xmp_meaning.specs.Assignments.{location_type, value_at, store, at_target, new_value, assign, initialise, store_read, scan}
use Rattle.xmp_meaning.specs.Loops.{inside, is_inside, step_up, turn_count, entering, counted, nest}
use Rattle.xmp_meaning.specs.Sections.{Chosen, One, Many, chosen, numbers, in_range, progression, section, subscripts, all_subscripts, cells_from, cells, cell_at, lengths, fit, name_of, lengths_fit, spread, aim, read_cell, store_all}
use Rattle.xmp_meaning.specs.Statements.{plain_of, stmt_step, task_step, stmt_of}
use Rattle.xmp_meaning.specs.Writes.{target_arrays}
use Rattle.xmp_meaning.specs.Programs.{starts}
use Rattle.xmp_meaning.proofs.Keeps.{TasksAlike, AllAlike}
use Rattle.xmp_meaning_laws.proofs.Conditions.{Conditions, TermMeets, TermsMeet, StatementMeets, Two, one, another, Anything, Relation, KeepsWhere, HandlersKeep, all_apart}
use Rattle.xmp_meaning_laws.proofs.WhereExpressions.{kept_or_trap, kept_subscript, kept_expr, kept_cell_of, kept_holds}

-- a location that may be read, and one that may be written
abbrev MayRead : Conditions → Location → Type 0
MayRead c (location.Scalar slot) = c.reads slot
MayRead c (location.Cell array at) = c.gets array

abbrev MayWrite : Conditions → Location → Type 0
MayWrite c (location.Scalar slot) = c.sets slot
MayWrite c (location.Cell array at) = c.puts array

-- what stands in each of several statements
abbrev pub StatementsMeet : ProgParts → Conditions → List Statement → Type 0
StatementsMeet p c ss = AllByRecursion (StatementMeets p c) ss

abbrev pub walked_in_task : Task → WalkedTask
walked_in_task = fold-Task Walked WalkedTask walk_step walk_task

module _ {X Y : Type 0} {t : Two} {c : Conditions} {Lies : Ty → ℤ → Type 0} {R : Relation X Y} (k : KeepsWhere X Y t c Lies R)
    {h : Handlers X} {h' : Handlers Y} (kh : HandlersKeep X Y t c Lies R h h') where
  -- related runs of statements, of whose flow nothing is said
  abbrev pub Flows : Run X Flow → Run Y Flow → Type 0
  Flows p q = R Flow (Anything Flow) p q

  abbrev pub Does : Run X (Unit {0}) → Run Y (Unit {0}) → Type 0
  Does p q = R (Unit {0}) (Anything (Unit {0})) p q

  abbrev Meets : List Term → Type 0
  Meets ts = TermsMeet c ts

  -- ---- one after the other, and loops
  kept_after : {q : Run X Flow} {q' : Run Y Flow} (flow : Flow) → Flows q q' → Flows (after flow q) (after flow q')
  kept_after Next r = r
  kept_after (Returned v) r = k.gives (Returned v) tt

  pub kept_then : {p q : Run X Flow} {p' q' : Run Y Flow} → Flows p p' → Flows q q' → Flows (then_run p q) (then_run p' q')
  kept_then r s = k.goes_on r (λ flow u. kept_after flow s)

  kept_choose : {p p' : Run X Flow} {q q' : Run Y Flow} (b : Bool) → Flows p q → Flows p' q' → Flows (choose b p p') (choose b q q')
  kept_choose true r r' = r
  kept_choose false r r' = r'

  pub kept_turns : {test : Run X Bool} {test' : Run Y Bool} {body : Run X Flow} {body' : Run Y Flow}
      → (n : ℕ) → R Bool (Anything Bool) test test' → Flows body body' → Flows (turns n test body) (turns n test' body')
  kept_turns zero r s = k.gives Next tt
  kept_turns (suc n) r s = k.goes_on r (λ more u. kept_choose more (kept_then s (kept_turns n r s)) (k.gives Next tt))

  kept_next : {p : Run X (Unit {0})} {p' : Run Y (Unit {0})} → Does p p' → Flows (p >>= (λ a. pure Next)) (p' >>= (λ a. pure Next))
  kept_next r = k.goes_on r (λ a u. k.gives Next tt)

  -- ---- assignments
  kept_value_at : (l : Location) → MayRead c l → R ℤ (Anything ℤ) (value_at h l) (value_at h' l)
  kept_value_at (location.Scalar slot) may = k.weakens (k.scalars slot may) (λ v u. tt)
  kept_value_at (location.Cell array at) may = k.weakens (kh.get array may at) (λ v u. tt)

  kept_store : (l : Location) → MayWrite c l → (v : ℤ) → Does (store h (one t) l v) (store h' (another t) l v)
  kept_store (location.Scalar slot) may v = k.sets_scalar slot may (wrap (scalar_type t.program slot) v) (k.converts (scalar_type t.program slot) v)
  kept_store (location.Cell array at) may v = kh.put array may at (wrap (array_type t.program array) v) (k.converts (array_type t.program array) v)

  kept_at_target : {f : Location → Run X Flow} {g : Location → Run Y Flow} (to : Target) → Meets (terms_of_target t.program to)
      → AllByRecursion c.reads (slots_of_target to) → AllByRecursion c.sets (slots_of_target to) → AllByRecursion c.puts (target_arrays to) → AllByRecursion c.gets (target_arrays to)
      → ((l : Location) → MayRead c l → MayWrite c l → Flows (f l) (g l)) → Flows (at_target h (one t) to f) (at_target h' (another t) to g)
  kept_at_target (target.Scalar slot at) m reads sets puts gets f = f (location.Scalar slot) reads.0 sets.0
  kept_at_target (target.Cell a) m reads sets puts gets f = k.goes_on (kept_cell_of k kh a m) (λ n u. f (location.Cell a.array n) gets.0 puts.0)

  kept_new_value : (l : Location) → MayRead c l → (d : Option Compound) (e : Expr) → Meets (terms_of t.program e)
      → R ℤ (Anything ℤ) (new_value h (one t) l d e) (new_value h' (another t) l d e)
  kept_new_value l may None e m = k.weakens (kept_expr k kh e m) (λ v u. tt)
  kept_new_value l may (Some d) e m = k.goes_on (kept_value_at l may) (λ old u. k.goes_on (kept_expr k kh e m)
      (λ v u. kept_or_trap k (binary_of d.op d.ty old v) d.at (λ z e. tt)))

  kept_assign : (d : Option Compound) (e : Expr) → Meets (terms_of t.program e) → (l : Location) → MayRead c l → MayWrite c l
      → Flows (assign h (one t) d e l) (assign h' (another t) d e l)
  kept_assign d e m l reads may = k.goes_on (kept_new_value l reads d e m) (λ v u. kept_next (kept_store l may v))

  kept_initialise : (slot : ℕ) → c.sets slot → (e : Option Expr) → Meets (terms_of_option t.program e)
      → Flows (initialise h (one t) slot e) (initialise h' (another t) slot e)
  kept_initialise slot may None m = k.gives Next tt
  kept_initialise slot may (Some e) m = k.goes_on (kept_expr k kh e m) (λ v u. kept_next (kept_store (location.Scalar slot) may v))

  kept_store_read : (l : Location) → MayWrite c l → (v : Option ℤ) → Flows (store_read h (one t) l v) (store_read h' (another t) l v)
  kept_store_read l may None = k.gives Next tt
  kept_store_read l may (Some v) = kept_next (kept_store l may v)

  kept_scan : (to : Target) (at : Place) → c.statement (Stmt-F.Plain (plain.Scan to at)) → (l : Location) → MayWrite c l
      → Flows (scan h (one t) l) (scan h' (another t) l)
  kept_scan to at is l may = k.goes_on (k.inputs to at is) (λ n u.
      k.goes_on (k.sets_taken to at is (scan_of (location_type t.program l) t.input n).1)
      (λ u w. kept_store_read l may (scan_of (location_type t.program l) t.input n).0))

  kept_arguments : (es : List Expr) (vs : List ℤ) → Meets (terms_of_list t.program es)
      → R (List ℤ) (Anything (List ℤ)) (each (map (expr_of h (one t)) es) vs) (each (map (expr_of h' (another t)) es) vs)
  kept_arguments [] vs m = k.gives vs tt
  kept_arguments (e ∷ es) vs m =
      let both : _ = all_apart (TermMeets c) (terms_of t.program e) (terms_of_list t.program es) m in
      k.goes_on (kept_expr k kh e both.0) (λ v u. kept_arguments es (vs ++ v ∷ []) both.1)

  -- ---- counted loops
  kept_inside : (head : LoopHead) → c.reads head.index.number → Meets (terms_of t.program head.to)
      → R Bool (Anything Bool) (inside h (one t) head) (inside h' (another t) head)
  kept_inside head may m = k.goes_on (k.scalars head.index.number may) (λ i u. k.goes_on (kept_expr k kh head.to m)
      (λ to w. k.gives (is_inside head.inclusive i (wrap Int to)) tt))

  kept_step_up : (head : LoopHead) → c.reads head.index.number → c.sets head.index.number → c.indexes head.index.number
      → Flows (step_up head) (step_up head)
  kept_step_up head reads sets is = k.goes_on (k.scalars head.index.number reads)
      (λ i u. kept_next (k.sets_scalar head.index.number sets (wrap Int (i +ℤ pos head.step)) (k.indices head.index.number is (i +ℤ pos head.step))))

  kept_entering : (head : LoopHead) → c.sets head.index.number → c.indexes head.index.number → Meets (terms_of_head t.program head)
      → R ℕ (Anything ℕ) (entering h (one t) head) (entering h' (another t) head)
  kept_entering head sets is m =
      let both : _ = all_apart (TermMeets c) (terms_of t.program head.from) (terms_of t.program head.to) m in
      k.goes_on (kept_expr k kh head.from both.0) (λ from u.
      k.goes_on (k.sets_scalar head.index.number sets (wrap Int from) (k.indices head.index.number is from))
      (λ u w. k.goes_on (kept_expr k kh head.to both.1)
      (λ to w. k.gives (turn_count (wrap Int from) (wrap Int to) head.inclusive head.step) tt)))

  pub kept_counted : {body : Run X Flow} {body' : Run Y Flow} (head : LoopHead) → c.reads head.index.number → c.sets head.index.number
      → c.indexes head.index.number → Meets (terms_of_head t.program head) → Flows body body'
      → Flows (counted h (one t) head body) (counted h' (another t) head body')
  kept_counted head reads sets is m r =
      let both : _ = all_apart (TermMeets c) (terms_of t.program head.from) (terms_of t.program head.to) m in
      k.goes_on (kept_entering head sets is m)
      (λ n u. kept_turns n (kept_inside head reads both.1) (kept_then r (kept_step_up head reads sets is)))

  pub kept_nest : {body : Run X Flow} {body' : Run Y Flow} (heads : List LoopHead) → AllByRecursion c.reads (indices_of heads)
      → AllByRecursion c.sets (indices_of heads) → AllByRecursion c.indexes (indices_of heads) → Meets (flat_map (terms_of_head t.program) heads)
      → Flows body body' → Flows (nest h (one t) heads body) (nest h' (another t) heads body')
  kept_nest [] reads sets is m r = r
  kept_nest (head ∷ heads) reads sets is m r =
      let both : _ = all_apart (TermMeets c) (terms_of_head t.program head) (flat_map (terms_of_head t.program) heads) m in
      kept_counted head reads.0 sets.0 is.0 both.0 (kept_nest heads reads.1 sets.1 is.1 both.1 r)

  -- ---- sections
  kept_chosen : (q : Part) → Meets (terms_of_part t.program q) → R Chosen (Anything Chosen) (chosen h (one t) q) (chosen h' (another t) q)
  kept_chosen (part.One n) m = k.goes_on (kept_expr k kh n.value m) (λ v u. k.gives (One v) tt)
  kept_chosen (part.Many b n s) m =
      let first : _ = all_apart (TermMeets c) (terms_of t.program b.value) (terms_of t.program n.value ++ terms_of t.program s.value) m in
      let both : _ = all_apart (TermMeets c) (terms_of t.program n.value) (terms_of t.program s.value) first.1 in
      k.goes_on (kept_expr k kh b.value first.0) (λ base u. k.goes_on (kept_expr k kh n.value both.0)
      (λ length u. k.goes_on (kept_expr k kh s.value both.1) (λ step u. k.gives (Many base length step) tt)))

  kept_all_chosen : (qs : List Part) (vs : List Chosen) → Meets (flat_map (terms_of_part t.program) qs)
      → R (List Chosen) (Anything (List Chosen)) (each (map (chosen h (one t)) qs) vs) (each (map (chosen h' (another t)) qs) vs)
  kept_all_chosen [] vs m = k.gives vs tt
  kept_all_chosen (q ∷ qs) vs m =
      let both : _ = all_apart (TermMeets c) (terms_of_part t.program q) (flat_map (terms_of_part t.program) qs) m in
      k.goes_on (kept_chosen q both.0) (λ v u. kept_all_chosen qs (vs ++ v ∷ []) both.1)

  kept_numbers : (s : MoveSide) → Meets (terms_of_side t.program s)
      → R (List Chosen) (Anything (List Chosen)) (numbers h (one t) s) (numbers h' (another t) s)
  kept_numbers (side.Scalar name) m = k.gives [] tt
  kept_numbers (side.Array name parts) m = kept_all_chosen parts [] m

  kept_section : (b : Bool) (at : Place) (xs : List ℕ) → R (List ℕ) (Anything (List ℕ)) (section b at xs) (section b at xs)
  kept_section true at xs = k.gives xs tt
  kept_section false at xs = k.traps Section at

  kept_subscripts : (at : Place) (n : ℕ) (d : Chosen) → R (List ℕ) (Anything (List ℕ)) (subscripts at n d) (subscripts at n d)
  kept_subscripts at n (One v) = k.goes_on (kept_subscript k (within v n) at) (λ x u. k.gives (x ∷ []) tt)
  kept_subscripts at n (Many base length step) =
      kept_section (in_range n base length step) at (progression (natural base) (natural step) (natural length))

  kept_all_subscripts : (at : Place) (ns : List ℕ) (cs : List Chosen)
      → R (List (List ℕ)) (Anything (List (List ℕ))) (all_subscripts at ns cs) (all_subscripts at ns cs)
  kept_all_subscripts at (n ∷ ns) (d ∷ cs) = k.goes_on (kept_subscripts at n d)
      (λ xs u. k.goes_on (kept_all_subscripts at ns cs) (λ rest u. k.gives (xs ∷ rest) tt))
  kept_all_subscripts at [] cs = k.gives [] tt
  kept_all_subscripts at (n ∷ ns) [] = k.gives [] tt

  kept_cells : (s : MoveSide) (cs : List Chosen) → R (List ℕ) (Anything (List ℕ)) (cells (one t) s cs) (cells (another t) s cs)
  kept_cells (side.Scalar name) cs = k.gives (0 ∷ []) tt
  kept_cells (side.Array name parts) cs = k.goes_on (kept_all_subscripts name.at (extents t.program name.number) cs)
      (λ xs u. k.gives (cells_from 0 (extents t.program name.number) xs) tt)

  kept_lengths_fit : (b : Bool) (at : Place) → Does (lengths_fit b at) (lengths_fit b at)
  kept_lengths_fit true at = k.gives tt tt
  kept_lengths_fit false at = k.traps Section at

  kept_aim : (to from : MoveSide) → Meets (terms_of_side t.program to) → Meets (terms_of_side t.program from)
      → R Aim (Anything Aim) (aim h (one t) to from) (aim h' (another t) to from)
  kept_aim to from m n = k.goes_on (kept_numbers to m) (λ d u. k.goes_on (kept_numbers from n) (λ f u.
      k.goes_on (kept_cells to d) (λ targets u. k.goes_on (kept_cells from f) (λ sources u.
      k.goes_on (kept_lengths_fit (fit (lengths d) (lengths f)) (name_of to).at)
      (λ u w. k.gives (record { targets = targets; sources = spread (lengths f) (length targets) sources }) tt)))))

  may_read_side : (s : MoveSide) → AllByRecursion c.reads (slots_of_side s) → AllByRecursion c.gets (arrays_of_side s) → (n : ℕ) → MayRead c (cell_at s n)
  may_read_side (side.Scalar name) may rows n = may.0
  may_read_side (side.Array name parts) slots may n = may.0

  may_write_side : (s : MoveSide) → AllByRecursion c.sets (slots_of_side s) → AllByRecursion c.puts (arrays_of_side s) → (n : ℕ) → MayWrite c (cell_at s n)
  may_write_side (side.Scalar name) may rows n = may.0
  may_write_side (side.Array name parts) slots may n = may.0

  kept_store_all : (s : MoveSide) → ((n : ℕ) → MayWrite c (cell_at s n)) → (ns : List ℕ) (vs : List ℤ)
      → Flows (store_all h (one t) s ns vs) (store_all h' (another t) s ns vs)
  kept_store_all s may (n ∷ ns) (v ∷ vs) = k.goes_on (kept_store (cell_at s n) (may n) v) (λ u w. kept_store_all s may ns vs)
  kept_store_all s may [] vs = k.gives Next tt
  kept_store_all s may (n ∷ ns) [] = k.gives Next tt

  pub kept_starts : (ss : List Start) → AllByRecursion c.sets (map (λ s. s.slot) ss) → Meets (flat_map (λ s. terms_of t.program s.value) ss)
      → Flows (starts h (one t) ss) (starts h' (another t) ss)
  kept_starts [] may m = k.gives Next tt
  kept_starts (s ∷ ss) may m =
      let both : _ = all_apart (TermMeets c) (terms_of t.program s.value) (flat_map (λ s. terms_of t.program s.value) ss) m in
      k.goes_on (kept_expr k kh s.value both.0) (λ v u. k.goes_on (kept_store (location.Scalar s.slot) may.0 v) (λ u w. kept_starts ss may.1 both.1))

  -- ---- statements
  kept_plain : (q : Plain) → StatementMeets t.program c (Stmt-F.Plain q) → Flows (plain_of h (one t) q) (plain_of h' (another t) q)
  kept_plain (plain.Declare slot value at) m = k.goes_on (k.sets_scalar slot m.sets.0 (pos 0) (k.zeros (scalar_type t.program slot)))
      (λ u w. kept_initialise slot m.sets.0 value m.terms)
  kept_plain (plain.Set to d value) m =
      let both : _ = all_apart (TermMeets c) (terms_of_target t.program to) (terms_of t.program value) m.terms in
      kept_at_target to both.0 m.reads m.sets m.puts m.updates (kept_assign d value both.1)
  kept_plain (plain.Return value) m = k.goes_on (kept_expr k kh value m.terms) (λ v u. k.gives (Returned v) tt)
  kept_plain (plain.Call function arguments at) m =
      k.goes_on (kept_arguments arguments [] m.terms.1) (λ vs u. k.goes_on (k.calls function _ at m.terms.0.itself vs) (λ v u. k.gives Next tt))
  kept_plain (plain.Print format arguments at) m =
      k.goes_on (kept_arguments arguments [] m.terms) (λ vs u. kept_next (k.writes format arguments at m.itself (printed format vs)))
  kept_plain (plain.Scan to at) m = kept_at_target to m.terms m.reads m.sets m.puts m.updates (λ l reads may. kept_scan to at m.itself l may)
  kept_plain (plain.Sync status at) m = kept_then (kh.sync status at m.itself)
      (kept_next (k.sets_scalar status.number m.sets.0 (pos 0) (k.zeros (scalar_type t.program status.number))))
  kept_plain (plain.Reflect arrays at) m = kh.reflect arrays at m.itself
  kept_plain (plain.Barrier at) m = kh.barrier at m.itself
  kept_plain (plain.Cast variables from at) m = kh.bcast variables from at m.itself
  kept_plain (plain.Gmove to from at) m =
      let terms : _ = all_apart (TermMeets c) (terms_of_side t.program to) (terms_of_side t.program from) m.terms in
      let reads : _ = all_apart c.reads (slots_of_side to) (slots_of_side from) m.reads in
      let gets : _ = all_apart c.gets (arrays_of_side to) (arrays_of_side from) m.gets in
      kh.gmove to from at m.itself (aim h (one t) to from) (aim h' (another t) to from) (read_cell h from) (read_cell h' from)
      (store_all h (one t) to) (store_all h' (another t) to) (kept_aim to from terms.0 terms.1)
      (λ n. kept_value_at (cell_at from n) (may_read_side from reads.1 gets.1 n)) (kept_store_all to (may_write_side to m.sets m.puts))

  abbrev task_of : {Z : Type 0} → Handlers Z → Context → Task → TaskRun Z
  task_of {Z} f cx = fold-Task (Run Z Flow) (TaskRun Z) (stmt_step f cx) task_step

  -- a relation of parts that says nothing of values
  abbrev pub Plainly : (A : Type 0) → Run X A → Run Y A → Type 0
  Plainly A p q = R A (Anything A) p q

  abbrev StmtKept : Stmt → Type 0
  StmtKept s = StatementsMeet t.program c (walked s).statements → Flows (stmt_of h (one t) s) (stmt_of h' (another t) s)

  abbrev TaskKept : Task → Type 0
  TaskKept s = StatementsMeet t.program c (walked_in_task s).statements → TasksAlike (State X) (State Y) Plainly (task_of h (one t) s) (task_of h' (another t) s)

  module _ {C D : Type 0} (p : C → Stmt) (q : D → Task) (j : (x : C) → StmtKept (p x)) (i : (x : D) → TaskKept (q x)) where
    abbrev of_stmt : {Z : Type 0} → Handlers Z → Context → Stmt-F C D → Run Z Flow
    of_stmt {Z} f cx y = stmt_step f cx (map-Stmt Stmt Task (Run Z Flow) (TaskRun Z) (stmt_of f cx) (task_of f cx) (map-Stmt C D Stmt Task p q y))

    abbrev of_walk : Stmt-F C D → Walked
    of_walk y = walk_step (map-Stmt Stmt Task Walked WalkedTask walked walked_in_task (map-Stmt C D Stmt Task p q y))

    abbrev below : C → List Statement
    below x = (walked (p x)).statements

    kept_block : (cs : List C) → StatementsMeet t.program c (flat_map (λ s. s.statements) (map walked (map p cs)))
        → Flows (block (map (stmt_of h (one t)) (map p cs))) (block (map (stmt_of h' (another t)) (map p cs)))
    kept_block [] m = k.gives Next tt
    kept_block (x ∷ cs) m =
        let both : _ = all_apart (StatementMeets t.program c) (below x) (flat_map (λ s. s.statements) (map walked (map p cs))) m in
        kept_then (j x both.0) (kept_block cs both.1)

    all_alike : (cs : List D) → StatementsMeet t.program c (flat_map (λ s. s.statements) (map walked_in_task (map q cs)))
        → AllAlike (State X) (State Y) Plainly (map (task_of h (one t)) (map q cs)) (map (task_of h' (another t)) (map q cs))
    all_alike [] m = tt
    all_alike (x ∷ cs) m =
        let both : _ = all_apart (StatementMeets t.program c) (walked_in_task (q x)).statements (flat_map (λ s. s.statements) (map walked_in_task (map q cs))) m in
        (i x both.0, all_alike cs both.1)

    kept_stmt_step : (y : Stmt-F C D) → StatementsMeet t.program c (of_walk y).statements → Flows (of_stmt h (one t) y) (of_stmt h' (another t) y)
    kept_stmt_step (Stmt-F.Plain s) m = kept_plain s m.0
    kept_stmt_step (Stmt-F.Block all) m = kept_block all m.1
    kept_stmt_step (Stmt-F.If test a b) m =
        let both : _ = all_apart (StatementMeets t.program c) (below a) (below b) m.1 in
        k.goes_on (kept_holds k kh test m.0.terms) (λ v u. kept_choose v (j a both.0) (j b both.1))
    kept_stmt_step (Stmt-F.While test body at) m = k.loops test _ at m.0.itself (kept_holds k kh test m.0.terms) (j body m.1)
    kept_stmt_step (Stmt-F.Counted head body) m = kept_counted head m.0.reads.0 m.0.sets.0 m.0.indexes.0 m.0.terms (j body m.1)
    kept_stmt_step (Stmt-F.Loop directive body) m =
        kh.loop directive _ m.0.itself (nest h (one t) directive.nest) (nest h' (another t) directive.nest)
        (stmt_of h (one t) (p body)) (stmt_of h' (another t) (p body)) (λ b b' r. kept_nest directive.nest (reads_of directive m.0.reads) m.0.sets m.0.indexes m.0.terms r) (j body m.1)
      where
        reads_of : (d : LoopDirective) → AllByRecursion c.reads (flat_map slots_of_point d.points ++ (indices_of d.nest ++ map (λ r. r.variable.number) d.reductions))
            → AllByRecursion c.reads (indices_of d.nest)
        reads_of d r = (all_apart c.reads (indices_of d.nest) (map (λ r. r.variable.number) d.reductions)
            (all_apart c.reads (flat_map slots_of_point d.points) (indices_of d.nest ++ map (λ r. r.variable.number) d.reductions) r).1).0
    kept_stmt_step (Stmt-F.Tasks all at) m =
        kh.tasks _ at m.0.itself (map (task_of h (one t)) (map q all)) (map (task_of h' (another t)) (map q all)) (all_alike all m.1)

    kept_task_step : (y : Task-F C D) → StatementsMeet t.program c (walked (p y.body)).statements → TasksAlike (State X) (State Y) Plainly
        (task_step (map-Task Stmt Task (Run X Flow) (TaskRun X) (stmt_of h (one t)) (task_of h (one t)) (map-Task C D Stmt Task p q y)))
        (task_step (map-Task Stmt Task (Run Y Flow) (TaskRun Y) (stmt_of h' (another t)) (task_of h' (another t)) (map-Task C D Stmt Task p q y)))
    kept_task_step y m = record { nodes = refl; at = refl; runs = j y.body m }

  stmt_rolled : {Z : Type 0} (f : Handlers Z) (cx : Context) (x : Stmt-F Stmt Task)
      → stmt_of f cx (roll-Stmt x) ≡ stmt_step f cx (map-Stmt Stmt Task (Run Z Flow) (TaskRun Z) (stmt_of f cx) (task_of f cx) x)
  stmt_rolled {Z} f cx x = fold-roll-Stmt (Run Z Flow) (TaskRun Z) (stmt_step f cx) task_step x

  task_rolled : {Z : Type 0} (f : Handlers Z) (cx : Context) (x : Task-F Stmt Task)
      → task_of f cx (roll-Task x) ≡ task_step (map-Task Stmt Task (Run Z Flow) (TaskRun Z) (stmt_of f cx) (task_of f cx) x)
  task_rolled {Z} f cx x = fold-roll-Task (Run Z Flow) (TaskRun Z) (stmt_step f cx) task_step x

  walked_rolled : (x : Stmt-F Stmt Task) → StatementsMeet t.program c (walked (roll-Stmt x)).statements
      → StatementsMeet t.program c (walk_step (map-Stmt Stmt Task Walked WalkedTask walked walked_in_task x)).statements
  walked_rolled x = subst (λ w. StatementsMeet t.program c w.statements) (fold-roll-Stmt Walked WalkedTask walk_step walk_task x)

  walked_task_rolled : (x : Task-F Stmt Task) → StatementsMeet t.program c (walked_in_task (roll-Task x)).statements
      → StatementsMeet t.program c (walk_task (map-Task Stmt Task Walked WalkedTask walked walked_in_task x)).statements
  walked_task_rolled x = subst (λ w. StatementsMeet t.program c w.statements) (fold-roll-Task Walked WalkedTask walk_step walk_task x)

  both_rolled : {u u' : Run X Flow} {v v' : Run Y Flow} → u ≡ u' → v ≡ v' → Flows u' v' → Flows u v
  both_rolled {u} {u'} {v} {v'} a b r = subst (λ z. Flows z v) (sym a) (subst (λ z. Flows u' z) (sym b) r)

  both_rolled_tasks : {u u' : TaskRun X} {v v' : TaskRun Y} → u ≡ u' → v ≡ v' → TasksAlike (State X) (State Y) Plainly u' v' → TasksAlike (State X) (State Y) Plainly u v
  both_rolled_tasks {u} {u'} {v} {v'} a b r =
      subst (λ z. TasksAlike (State X) (State Y) Plainly z v) (sym a) (subst (λ z. TasksAlike (State X) (State Y) Plainly u' z) (sym b) r)

  pub kept_stmt : (s : Stmt) → StmtKept s
  kept_stmt = ind-Stmt StmtKept TaskKept
      (λ x y is. subst (λ z. StmtKept (roll-Stmt z)) is (λ m.
      both_rolled (stmt_rolled h (one t) _) (stmt_rolled h' (another t) _) (kept_stmt_step (λ c. c.0) (λ c. c.0) (λ c. c.1) (λ c. c.1) y (walked_rolled _ m))))
      (λ x y is. subst (λ z. TaskKept (roll-Task z)) is (λ m.
      both_rolled_tasks (task_rolled h (one t) _) (task_rolled h' (another t) _) (kept_task_step (λ c. c.0) (λ c. c.0) (λ c. c.1) (λ c. c.1) y (walked_task_rolled _ m))))
