-- The induction over statements for what speaks only of the world after a statement, and stays true in later ones: such are the
-- tests of single statements. What a `for` makes is told by the forms that it is made of.
use Rattle.std.proofs.Common.{◌≡◌, ◌∙◌, refl, ap, ◌++◌, ◌∷◌, [], List, Bool, true, false, Option, Some, None, length}
use Rattle.std.specs.List.{AllByRecursion}
use Rattle.std.proofs.lemmas.Option.{none-some}
use Rattle.xmp_base.specs.declared.place.Place.{Place}
use Rattle.xmp_num.specs.declared.types.Ty.{Ty}
use Rattle.xmp_map.specs.declared.grid.NodeSet.{NodeSet}
use Rattle.xmp_prog.specs.declared.expressions.Expr as prog
use Rattle.xmp_prog.specs.declared.statements.LoopHead.{LoopHead}
use Rattle.xmp_prog.specs.declared.statements.Stmt as made
use Rattle.xmp_prog.specs.declared.statements.Stmt.TheVariants as s
use Rattle.xmp_prog.specs.declared.statements.Task.{Task}
use Rattle.xmp_syntax.specs.declared.declaration.Declarator.{Declarator}
use Rattle.xmp_syntax.specs.declared.directive.LoopLine.{LoopLine}
use Rattle.xmp_syntax.specs.declared.directive.TaskLine.{TaskLine}
use Rattle.xmp_syntax.specs.declared.expression.Expr.{Expr}
use Rattle.xmp_syntax.specs.declared.statement.ForFirst.{ForFirst}
use Rattle.xmp_syntax.specs.declared.statement.ForHead.{ForHead}
use Rattle.xmp_syntax.specs.declared.statement.Simple.{Simple}
use Rattle.xmp_syntax.specs.declared.statement.Plain.{Plain}
use Rattle.xmp_syntax.specs.declared.statement.Plain.TheVariants as plain
use Rattle.xmp_walk.specs.declared.loops.First.{First}
use Rattle.xmp_walk.specs.declared.loops.ForParts.{ForParts}
use Rattle.xmp_walk.specs.declared.loops.Shape.{Shape}
use Rattle.xmp_directives.specs.declared.loop_lines.LoopParts.{LoopParts}
use Rattle.xmp_names.specs.declared.typed.Operand.{Operand}
use Rattle.xmp_names.specs.declared.world.World.{World}
use Rattle.xmp_names.specs.Walk as walk
use Rattle.xmp_names.specs.Walk.{Step, Gave}
use Rattle.xmp_directives.specs.MappingLines.{mapping_of}
use Rattle.xmp_walk.specs.Declarations.{local_declarator}
use Rattle.xmp_walk.specs.Statements.{simple_of, first_of, set, one, right_side, in_block, counted_with, begun, condition, last_of, uncounted, loop_in, loop_of, shape_of}
use Rattle.xmp_directives.specs.Directives.{loop_line, judged_loop, nest_of, task_line, made_task}
use Rattle.xmp_walk.specs.Program.{plain_of}
use Rattle.xmp_names.specs.Expressions.{is_function}
use Rattle.xmp_parts.proofs.Unbroken.{left_true, right_true}
use Rattle.xmp_fits.specs.NumbersLie.{numbers_lie, there_lies, simple_lies, plain_lies, first_lies, head_lies, declarator_lies, loop_line_lies, task_line_lies}
use Rattle.xmp_fits.proofs.GoodWorlds.{Own, Good}
use Rattle.xmp_fits.proofs.GoodSteps.{Stays, onward_stays, good_opened}
use Rattle.xmp_fits.proofs.KeptRuns.{Goes, goes_refl, goes_trans, goes_then, GoesOn, Kept, Going, going, going_scalars, going_arrays}
use Rattle.xmp_fits.proofs.Respected.{there_kept}
use Rattle.xmp_fits.proofs.RespectedDirectives.{head_parts, first_kept, simple_kept}
use Rattle.xmp_fits.proofs.RespectedLines.{declarator_kept}
use Rattle.xmp_fits.proofs.RespectedMappings.{mapping_kept}
use Rattle.xmp_fits.proofs.RespectedSteps.{typed}
use Rattle.xmp_fits.proofs.KeptStatements.{opened, closed, stays_opened, stays_closed}
use Rattle.xmp_fits.proofs.Holding.{Unbroken, Holds, unbroken_then, unbroken_is, IfThere}
use Rattle.xmp_fits.proofs.FitPrinciple.{Facts, Forms}

-- What holds of a statement, an expression, the line of a loop directive, the node set of a task, and tasks with their sets.
pub record Tests : Type 1 where
  pub Fit : World → made.Stmt → Type 0
  pub Reads : World → Operand → Type 0
  pub Lines : World → LoopParts → Type 0
  pub Sets : List NodeSet → World → NodeSet → Type 0
  pub Sharing : World → List NodeSet → List Task → Type 0

-- The head of a counted loop.
abbrev pub counted_head : Shape → First → Operand → LoopHead
counted_head shape first test = record {
  index = shape.index;
  from = first.value.made;
  to = right_side (prog.out-Expr test.made);
  inclusive = shape.inclusive;
  step = shape.step;
  from_at = first.at;
  to_at = shape.to_at;
}

-- What a `for` does first.
pub record FirstFits (t : Tests) (v : World) (x : First) : Type 0 where
  pub declared : AllByRecursion (t.Fit v) x.declared
  pub set : t.Fit v (set None x.at x.target x.value)
  pub target : t.Reads v x.target
  pub value : t.Reads v x.value

-- What it does last is made of the last part of its head.
pub record LastMade (h : ForHead) (next : Option made.Stmt) : Type 0 where
  pub before : World
  pub after : World
  pub is : walk.if_there simple_of h.next before ≡ Gave next after

pub record HeadFits (t : Tests) (h : ForHead) (v : World) (parts : ForParts) : Type 0 where
  pub last : LastMade h parts.next
  pub first : IfThere (FirstFits t v) parts.first
  pub test : IfThere (t.Reads v) parts.test
  pub next : IfThere (t.Fit v) parts.next

pub record Cases (own : Own) (t : Tests) : Type 0 where
  pub fit_stays : (w v : World) (x : made.Stmt) → Stays w v → t.Fit w x → t.Fit v x
  pub reads_stay : (w v : World) (x : Operand) → Stays w v → t.Reads w x → t.Reads v x
  pub lines_stay : (w v : World) (x : LoopParts) → Stays w v → t.Lines w x → t.Lines v x
  pub sharing_stays : (w v : World) (sets : List NodeSet) (all : List Task) → Stays w v → t.Sharing w sets all → t.Sharing v sets all
  pub sets_stay : (before : List NodeSet) (w v : World) (x : NodeSet) → Stays w v → t.Sets before w x → t.Sets before v x
  -- statements with none inside
  pub plain : (x : Plain) → plain_lies x ≡ true → Holds own (λ w v x. t.Fit v x) (plain_of x)
  pub declarator : (ty : Ty) (d : Declarator) → declarator_lies d ≡ true → Holds own (λ w v all. AllByRecursion (t.Fit v) all) (local_declarator ty d)
  -- expressions
  pub test : (x : Expr) → numbers_lie x ≡ true → Holds own (λ w v x. t.Reads v x) (walk.typed x)
  pub one : (v : World) → t.Reads v one
  -- blocks, `if`, `while` and `for`
  pub block : (v : World) (all : List made.Stmt) → Good own v → AllByRecursion (t.Fit v) all → t.Fit v (s.Block all)
  pub if_of : (v : World) (x : Operand) (a c : made.Stmt) → Good own v → t.Reads v x → t.Fit v a → t.Fit v c → t.Fit v (s.If x.made a c)
  pub while_of : (v : World) (x : Operand) (a : made.Stmt) (at : Place) → Good own v → t.Reads v x → t.Fit v a → t.Fit v (s.While x.made a at)
  pub first : (x : ForFirst) → first_lies x ≡ true → Holds own (λ w v x. FirstFits t v x) (first_of x)
  pub counted : (h : ForHead) (v : World) (shape : Shape) (first : First) (test : Operand) (next body : made.Stmt) → Good own v →
      shape_of h (Some first) (Some test) (Some next) body ≡ Some shape → LastMade h (Some next) → FirstFits t v first → t.Reads v test → t.Fit v next → t.Fit v body → t.Fit v (s.Counted (counted_head shape first test) body)
  -- directives
  pub line : (l : LoopLine) → loop_line_lies l ≡ true → Holds own (λ w v x. t.Lines v x) (loop_line l)
  pub loop : (l : LoopLine) (v : World) (parts : LoopParts) (x : made.Stmt) → Good own v → t.Lines v parts → t.Fit v x → Unbroken t.Fit (judged_loop l.line.word parts (nest_of (length parts.names) x) v)
  pub set : (before : List NodeSet) (l : TaskLine) → task_line_lies l ≡ true → Holds own (λ w v x. t.Sets before v x) (task_line before l)
  pub no_task : (v : World) → t.Sharing v [] []
  pub one_task : (v : World) (before : List NodeSet) (done : List Task) (nodes : NodeSet) (x : made.Stmt) (at : Place) → t.Sharing v before done → t.Sets before v nodes → t.Fit v x →
      t.Sharing v (before ++ nodes ∷ []) (done ++ made_task nodes x at ∷ [])
  pub tasks : (v : World) (before : List NodeSet) (done : List Task) (at : Place) → (done ≡ [] → is_function v.names.region ≡ false) → Good own v → t.Sharing v before done → t.Fit v (s.Tasks done at)

-- As facts of two worlds.
abbrev pub facts_of : Tests → Facts
facts_of t = record {
  Fit = λ w v x. t.Fit v x;
  Items = λ w v all. AllByRecursion (t.Fit v) all;
  Reads = λ w v x. t.Reads v x;
  Heads = λ h w v x. HeadFits t h v x;
  Lines = λ w v x. t.Lines v x;
  Sets = λ before w v x. t.Sets before v x;
  Sharing = λ w v sets all. t.Sharing v sets all;
}

pub stays_of : {w v : World} → Goes w v → Stays w v
stays_of g = onward_stays g.onward

pub and_more : {A : Type 0} (P : A → Type 0) (xs ys : List A) → AllByRecursion P xs → AllByRecursion P ys → AllByRecursion P (xs ++ ys)
and_more P [] ys h k = k
and_more P (x ∷ xs) ys h k = (h.0, and_more P xs ys h.1 k)

module _ (own : Own) (t : Tests) (c : Cases own t) where
  all_stay : (w v : World) → Stays w v → (xs : List made.Stmt) → AllByRecursion (t.Fit w) xs → AllByRecursion (t.Fit v) xs
  all_stay w v g [] h = tt
  all_stay w v g (x ∷ xs) h = (c.fit_stays w v x g h.0, all_stay w v g xs h.1)

  -- ---- the head of a `for`

  first_stays : (w v : World) (x : First) → Stays w v → FirstFits t w x → FirstFits t v x
  first_stays w v x g h = record {
    declared = all_stay w v g x.declared h.declared;
    set = c.fit_stays w v (set None x.at x.target x.value) g h.set;
    target = c.reads_stay w v x.target g h.target;
    value = c.reads_stay w v x.value g h.value;
  }

  there_stays : {A : Type 0} (P : World → A → Type 0) → ((w v : World) (x : A) → Stays w v → P w x → P v x) → (w v : World) (o : Option A) → Stays w v → IfThere (P w) o → IfThere (P v) o
  there_stays P f w v None g h = tt
  there_stays P f w v (Some x) g h = f w v x g h

  -- A part that may be missing, and whose numbers lie in their types.
  there_lying : {A B : Type 0} (P : World → B → Type 0) (lies : A → Bool) (f : A → walk.Run B) → ((x : A) → Kept (f x)) → ((x : A) → lies x ≡ true → Holds own (λ w v b. P v b) (f x)) → (o : Option A) → there_lies lies o ≡ true →
      Holds own (λ w v o. IfThere (P v) o) (walk.if_there f o)
  there_lying P lies f kept h None n = record { at = λ w g e. tt }
  there_lying P lies f kept h (Some x) n = record {
    at = λ w g.
        unbroken_then P (λ v o. IfThere (P v) o) w (f x w) (λ y. walk.pure (Some y)) ((kept x).at w) ((h x n).at w g) (λ y. record { at = goes_refl }) (λ y v o i e. i);
  }

  nowhere : Place
  nowhere = record { line = 0; column = 0 }

  abbrev first_going : ForFirst → Going First
  first_going x = record { run = first_of x; kept = first_kept going going_scalars x }

  abbrev simple_going : Simple → Going made.Stmt
  simple_going x = record { run = simple_of x; kept = simple_kept going x }

  nexts : (h : ForHead) (first : Option First) (test : Option Operand) → Kept {A = ForParts} (walk.◌>>=◌ (walk.if_there simple_of h.next) (λ next. walk.pure (record { first = first; test = test; next = next })))
  nexts h first test = record { at = λ u. goes_then u (walk.if_there simple_of h.next u) (λ next. walk.pure (record { first = first; test = test; next = next })) ((there_kept going simple_going h.next).at u) (λ next. record { at = goes_refl }) }

  tests : (h : ForHead) (first : Option First) → Kept {A = ForParts} (walk.◌>>=◌ (walk.if_there walk.typed h.test) (λ test. walk.◌>>=◌ (walk.if_there simple_of h.next) (λ next. walk.pure (record { first = first; test = test; next = next }))))
  tests h first = record {
    at = λ u. goes_then u (walk.if_there walk.typed h.test u) (λ test. walk.◌>>=◌ (walk.if_there simple_of h.next) (λ next. walk.pure (record { first = first; test = test; next = next })))
        ((there_kept going (typed going) h.test).at u) (λ test. nexts h first test);
  }

  head_holds : (h : ForHead) → head_lies h ≡ true → Holds own (λ w v x. HeadFits t h v x) (head_parts going going_scalars h).run
  head_holds h num = record {
    at = λ w g.
        unbroken_then (λ v o. IfThere (FirstFits t v) o) (λ v x. HeadFits t h v x) w (walk.if_there first_of h.first w)
        (λ first. walk.◌>>=◌ (walk.if_there walk.typed h.test) (λ test. walk.◌>>=◌ (walk.if_there simple_of h.next) (λ next. walk.pure (record { first = first; test = test; next = next }))))
        ((there_kept going first_going h.first).at w) ((there_lying (λ v x. FirstFits t v x) first_lies first_of (first_kept going going_scalars) c.first h.first (left_true (there_lies first_lies h.first) _ num)).at w g) (λ first. tests h first)
        (λ first v o i. unbroken_then (λ v o. IfThere (t.Reads v) o) (λ v x. HeadFits t h v x) v (walk.if_there walk.typed h.test v)
        (λ test. walk.◌>>=◌ (walk.if_there simple_of h.next) (λ next. walk.pure (record { first = first; test = test; next = next })))
        ((there_kept going (typed going) h.test).at v) ((there_lying (λ v x. t.Reads v x) numbers_lie walk.typed (λ x. (typed going x).kept) c.test h.test (left_true (there_lies numbers_lie h.test) _ (right_true (there_lies first_lies h.first) _ num))).at v (o.good own g)) (λ test. nexts h first test)
        (λ test u q j. unbroken_then (λ v o. IfThere (t.Fit v) o × (walk.if_there simple_of h.next u ≡ Gave o v)) (λ v x. HeadFits t h v x) u (walk.if_there simple_of h.next u)
        (λ next. walk.pure (record { first = first; test = test; next = next }))
        ((there_kept going simple_going h.next).at u) (unbroken_is (λ v o. IfThere (t.Fit v) o) (walk.if_there simple_of h.next u) ((there_lying (λ v x. t.Fit v x) simple_lies simple_of (simple_kept going) (λ x n. c.plain (plain.Simple x nowhere) n) h.next (right_true (there_lies numbers_lie h.test) _ (right_true (there_lies first_lies h.first) _ num))).at u (q.good own (o.good own g)))) (λ next. record { at = goes_refl })
        (λ next x r k e. record {
          first = there_stays (λ v x. FirstFits t v x) first_stays v x first (stays_of (goes_trans q r)) i;
          test = there_stays (λ v x. t.Reads v x) c.reads_stay u x test (stays_of r) j;
          next = k.0;
          last = record { before = u; after = x; is = k.1 };
        })));
  }

  -- ---- what a `for` makes

  in_a_block : (v : World) (declared : List made.Stmt) (x : made.Stmt) → Good own v → AllByRecursion (t.Fit v) declared → t.Fit v x → t.Fit v (in_block declared x)
  in_a_block v [] x g h k = k
  in_a_block v (d ∷ ds) x g h k = c.block v ((d ∷ ds) ++ x ∷ []) g (and_more (t.Fit v) (d ∷ ds) (x ∷ []) h (k, tt))

  begun_fits : (v : World) (first : Option First) → IfThere (FirstFits t v) first → AllByRecursion (t.Fit v) (begun first)
  begun_fits v None h = tt
  begun_fits v (Some x) h = and_more (t.Fit v) x.declared (set None x.at x.target x.value ∷ []) h.declared (h.set, tt)

  last_fits : (v : World) (next : Option made.Stmt) → IfThere (t.Fit v) next → AllByRecursion (t.Fit v) (last_of next)
  last_fits v None h = tt
  last_fits v (Some x) h = (h, tt)

  again : (v : World) (test : Option Operand) (body : made.Stmt) (word : Place) → Good own v → IfThere (t.Reads v) test → t.Fit v body → t.Fit v (s.While (condition test) body word)
  again v None body word g h k = c.while_of v one body word g (c.one v) k
  again v (Some x) body word g h k = c.while_of v x body word g h k

  uncounted_fits : (h : ForHead) (v : World) (word : Place) (parts : ForParts) (body : made.Stmt) → Good own v → HeadFits t h v parts → t.Fit v body → t.Fit v (uncounted word parts body)
  uncounted_fits d v word parts body g h k =
      c.block v (begun parts.first ++ s.While (condition parts.test) (s.Block (body ∷ last_of parts.next)) word ∷ []) g
      (and_more (t.Fit v) (begun parts.first) _ (begun_fits v parts.first h.first)
      (again v parts.test (s.Block (body ∷ last_of parts.next)) word g h.test (c.block v (body ∷ last_of parts.next) g (k, last_fits v parts.next h.next)), tt))

  loop_fits : (h : ForHead) (v : World) (parts : ForParts) (body : made.Stmt) → Good own v → HeadFits t h v parts → t.Fit v body → t.Fit v (loop_of h parts body)
  loop_fits h v parts body g k b = by (shape_of h parts.first parts.test parts.next body) refl
    where
      shaped : (shape : Shape) (first : Option First) (test : Option Operand) (next : Option made.Stmt) → shape_of h first test next body ≡ Some shape → LastMade h next →
          IfThere (FirstFits t v) first → IfThere (t.Reads v) test → IfThere (t.Fit v) next → t.Fit v (counted_with shape first test body)
      shaped shape (Some first) (Some test) (Some next) e m i j l = in_a_block v first.declared (s.Counted (counted_head shape first test) body) g i.declared (c.counted h v shape first test next body g e m i j l b)
      shaped shape (Some first) (Some test) None e m i j l = absurd (none-some shape e)
      shaped shape (Some first) None next e m i j l = b
      shaped shape None test next e m i j l = b

      by : (o : Option Shape) → shape_of h parts.first parts.test parts.next body ≡ o → t.Fit v (loop_in o h.word parts body)
      by (Some shape) e = shaped shape parts.first parts.test parts.next e k.last k.first k.test k.next
      by None e = uncounted_fits h v h.word parts body g k b

  -- ---- all forms

  head_stays : (d : ForHead) (w v : World) (parts : ForParts) → Stays w v → HeadFits t d w parts → HeadFits t d v parts
  head_stays d w v parts g h = record {
    last = h.last;
    first = there_stays (λ v x. FirstFits t v x) first_stays w v parts.first g h.first;
    test = there_stays (λ v x. t.Reads v x) c.reads_stay w v parts.test g h.test;
    next = there_stays (λ v x. t.Fit v x) c.fit_stays w v parts.next g h.next;
  }

  each_time : {A : Type 0} (Q : World → A → Type 0) (w : World) (s : Step A) → GoesOn w s → ((u : World) (a : A) → Goes w u → Q u a) → Unbroken Q s
  each_time Q w (Gave a u) g k = λ e. k u a g

  both_times : {A : Type 0} (P Q : World → A → Type 0) (w : World) (s : Step A) → GoesOn w s → Unbroken P s → ((u : World) (a : A) → Goes w u → P u a → Q u a) → Unbroken Q s
  both_times P Q w (Gave a u) g h k = λ e. k u a g (h e)

  pub forms_of : Forms own (facts_of t)
  forms_of = record {
    plain = c.plain;
    test = c.test;
    no_else = λ w g. c.block w [] g tt;
    if_of = λ w v u x o a b g h k l i j m.
        c.if_of x o a b (l.good own (k.good own (h.good own g))) (c.reads_stay v x o (stays_of (goes_trans k l)) i) (c.fit_stays u x a (stays_of l) j) m;
    while_of = λ w v u o a at g h k i j. c.while_of u o a at (k.good own (h.good own g)) (c.reads_stay v u o (stays_of k) i) j;
    head = head_holds;
    for_of = λ h w v u parts x g o q i j.
        let d : Good own u = q.good own (o.good own (good_opened own w (opened w) (stays_opened w) refl g)) in
        c.fit_stays u (closed u) (loop_of h parts x) (stays_closed u) (loop_fits h u parts x d (head_stays h v u parts (stays_of q) i) j);
    line = c.line;
    loop = λ l w v u parts x g o q i j. c.loop l u parts x (q.good own (o.good own g)) (c.lines_stay v u parts (stays_of q) i) j;
    none = λ w. tt;
    mapping = λ x n w v done g h i. each_time (λ u _. AllByRecursion (t.Fit u) done) v (mapping_of x v) ((mapping_kept going x).at v) (λ u a k. all_stay v u (stays_of k) done i);
    declarator = λ ty d n w v done g h i. both_times (λ u all. AllByRecursion (t.Fit u) all) (λ u more. AllByRecursion (t.Fit u) (done ++ more)) v (local_declarator ty d v) ((declarator_kept going going_scalars going_arrays ty d).at v) ((c.declarator ty d n).at v h) (λ u more k j. and_more (t.Fit u) done more (all_stay v u (stays_of k) done i) j);
    statement = λ w v u done x g k i j. and_more (t.Fit u) done (x ∷ []) (all_stay v u (stays_of k) done i) (j, tt);
    block = λ w v all g k i.
        let d : Good own v = k.good own (good_opened own w (opened w) (stays_opened w) refl g) in
        c.fit_stays v (closed v) (s.Block all) (stays_closed v) (c.block v all d i);
    set = c.set;
    no_task = c.no_task;
    one_task = λ w v u x before done nodes y at g k l i j m.
        c.one_task x before done nodes y at (c.sharing_stays v x before done (stays_of (goes_trans k l)) i) (c.sets_stay before u x nodes (stays_of l) j) m;
    tasks = λ w v u before done at n g names k l i. c.tasks u before done at (λ e. ap is_function (l.onward.region ∙ k.onward.region) ∙ n e) (l.good own (k.good own g)) i;
  }
