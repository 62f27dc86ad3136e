-- The parts of a program that fit, statement by statement.
use Rattle.std.proofs.Common.{◌≡◌, ◌<◌, ◌++◌, ◌&&◌, ◌||◌, ℕ, suc, Bool, true, List, [], ◌∷◌, length, map, refl, sym, subst, ap, ◌∙◌}
use Rattle.std.specs.Prelude.{nat_lt}
use Rattle.std.specs.List.{AllByRecursion, list_all, flat_map}
use Rattle.std.proofs.lemmas.Bool.{leb-true}
use Rattle.std.proofs.lemmas.List.Folds.{list_all-append}
use Rattle.xmp_map.proofs.Counted.{and_left, and_right}
use Rattle.xmp_prog.specs.declared.parts.ProgParts.{ProgParts}
use Rattle.xmp_prog.specs.declared.parts.Kind.{Kind}
use Rattle.xmp_prog.specs.declared.parts.Kind.TheVariants.{Global}
use Rattle.xmp_prog.specs.declared.statements.Stmt.{Stmt}
use Rattle.xmp_prog.specs.declared.statements.Stmt.TheOpen.{Stmt-F}
use Rattle.xmp_prog.specs.declared.statements.Stmt.TheVariants as stmt
use Rattle.xmp_prog.specs.declared.statements.Stmt.TheFolds.{fold-Task, fold-roll-Task}
use Rattle.xmp_prog.specs.declared.statements.Task.{Task}
use Rattle.xmp_prog.specs.Terms.{Term, terms_of}
use Rattle.xmp_prog.specs.Tests.{constant_fits, operands_fit, choice_fits, element_fits, image_fits, asks_no_node, assignment_fits, counted_fits, is_no_sync}
use Rattle.xmp_prog.specs.Directives.{names_template, has_points, has_indices, is_small_point, indices_once, indices_of_nest, at_loops, nest_counted, at_gmoves, side_fits, sections_agree, cast_fits, tasks_inside, tasks_apart}
use Rattle.xmp_prog.specs.Fits.{has_coarrays, terms_of_program, statements_of_program, slots_of_function, slots_of_main, slots_of_starts}
use Rattle.xmp_prog.specs.Statements.{Statement, Walked, WalkedTask, walk_step, walk_task, walked, arrays_beside, statements_of, terms_in, slots_in, terms_of_stmt, slots_of_stmt, writes_of}
use Rattle.xmp_prog.proofs.Rolls.{at_plain, at_block, at_if, at_while, at_counted, at_loop, at_tasks}
use Rattle.xmp_meaning_laws.proofs.Conditions.{all_apart}
use Rattle.xmp_nodes.proofs.Standing.{TermStands, StatementStands, PartFits}
use Rattle.xmp_nodes.proofs.Leaves.{BodyFits, BlocksFit, IfsFit, WhilesFit, CountedsFit, StepFits, PlainFits, LoopsFit, AllTasksFit}

-- ---- tests of a list

list_first : {A : Type 0} (test : A → Bool) (xs ys : List A) → list_all test (xs ++ ys) ≡ true → list_all test xs ≡ true
list_first test xs ys e = and_left (list_all test xs) (list_all test ys) (sym (list_all-append test xs ys) ∙ e)

list_last : {A : Type 0} (test : A → Bool) (xs ys : List A) → list_all test (xs ++ ys) ≡ true → list_all test ys ≡ true
list_last test xs ys e = and_right (list_all test xs) (list_all test ys) (sym (list_all-append test xs ys) ∙ e)

all_below : (n : ℕ) (xs : List ℕ) → list_all (λ m. nat_lt m n) xs ≡ true → AllByRecursion (λ m. m < n) xs
all_below n [] e = tt
all_below n (x ∷ xs) e = (leb-true (suc x) n (and_left (nat_lt x n) (list_all (λ m. nat_lt m n) xs) e), all_below n xs (and_right (nat_lt x n) (list_all (λ m. nat_lt m n) xs) e))

flat_append : {A B : Type 0} (f : A → List B) (xs ys : List A) → flat_map f (xs ++ ys) ≡ flat_map f xs ++ flat_map f ys
flat_append f [] ys = refl
flat_append f (x ∷ xs) ys = ap (λ l. f x ++ l) (flat_append f xs ys) ∙ sym (joined (f x) (flat_map f xs) (flat_map f ys))
  where
    joined : {A : Type 0} (xs ys zs : List A) → (xs ++ ys) ++ zs ≡ xs ++ (ys ++ zs)
    joined [] ys zs = refl
    joined (x ∷ xs) ys zs = ap (λ l. x ∷ l) (joined xs ys zs)

module _ (p : ProgParts) where
  terms_stand : (ts : List Term) → list_all constant_fits ts ≡ true → list_all operands_fit ts ≡ true → list_all choice_fits ts ≡ true
      → list_all (element_fits p) ts ≡ true → list_all (image_fits p) ts ≡ true → list_all asks_no_node ts ≡ true → AllByRecursion (TermStands p) ts
  terms_stand [] a b c d e f = tt
  terms_stand (t ∷ ts) a b c d e f = (
    record {
      constant = and_left (constant_fits t) _ a;
      operands = and_left (operands_fit t) _ b;
      choice = and_left (choice_fits t) _ c;
      element = and_left (element_fits p t) _ d;
      image = and_left (image_fits p t) _ e;
      node = and_left (asks_no_node t) _ f;
    },
    terms_stand ts (and_right (constant_fits t) _ a) (and_right (operands_fit t) _ b) (and_right (choice_fits t) _ c) (and_right (element_fits p t) _ d)
        (and_right (image_fits p t) _ e) (and_right (asks_no_node t) _ f),
  )

  -- ---- statements and what stands in them

  pub record ListFits (ys : List Statement) : Type 0 where
    pub terms : AllByRecursion (TermStands p) (flat_map (terms_in p) ys)
    pub statements : AllByRecursion (StatementStands p) ys
    pub slots : AllByRecursion (λ n. n < length p.scalars) (flat_map (slots_in p) ys)

  list_of : (x : Stmt) → PartFits p x → ListFits (statements_of x)
  list_of x f = record { terms = f.terms; statements = f.statements; slots = f.slots }

  of_list : (x : Stmt) → ListFits (statements_of x) → PartFits p x
  of_list x f = record { terms = f.terms; statements = f.statements; slots = f.slots }

  head_fits : (y : Statement) (ys : List Statement) → ListFits (y ∷ ys) → StepFits p y × ListFits ys
  head_fits y ys f =
      let terms : _ = all_apart (TermStands p) (terms_in p y) (flat_map (terms_in p) ys) f.terms in
      let slots : _ = all_apart (λ n. n < length p.scalars) (slots_in p y) (flat_map (slots_in p) ys) f.slots in (
        record { terms = terms.0; stands = f.statements.0; slots = slots.0 },
        record { terms = terms.1; statements = f.statements.1; slots = slots.1 },
      )

  two_fit : (xs ys : List Statement) → ListFits (xs ++ ys) → ListFits xs × ListFits ys
  two_fit xs ys f =
      let terms : _ = all_apart (TermStands p) (flat_map (terms_in p) xs) (flat_map (terms_in p) ys) (subst (AllByRecursion (TermStands p)) (flat_append (terms_in p) xs ys) f.terms) in
      let statements : _ = all_apart (StatementStands p) xs ys f.statements in
      let slots : _ = all_apart (λ n. n < length p.scalars) (flat_map (slots_in p) xs) (flat_map (slots_in p) ys) (subst (AllByRecursion (λ n. n < length p.scalars)) (flat_append (slots_in p) xs ys) f.slots) in (
        record { terms = terms.0; statements = statements.0; slots = slots.0 },
        record { terms = terms.1; statements = statements.1; slots = slots.1 },
      )

  -- from what a walk gives at a form
  walk_of : (x : Stmt) (w : Walked) → walked x ≡ w → PartFits p x → ListFits w.statements
  walk_of x w e f = subst (λ (v : Walked). ListFits v.statements) e (list_of x f)

  all_of_walks : (all : List Stmt) → ListFits (flat_map (λ s. s.statements) (map walked all)) → AllByRecursion (PartFits p) all
  all_of_walks [] f = tt
  all_of_walks (x ∷ xs) f =
      let both : _ = two_fit (statements_of x) (flat_map (λ s. s.statements) (map walked xs)) f in
      (of_list x both.0, all_of_walks xs both.1)

  abbrev walked_task : Task → WalkedTask
  walked_task = fold-Task Walked WalkedTask walk_step walk_task

  task_walk : (t : Task) → walked_task t ≡ record { nodes = t.nodes; writes = (walked t.body).writes; statements = statements_of t.body }
  task_walk t = fold-roll-Task Walked WalkedTask walk_step walk_task (record { nodes = t.nodes; body = t.body; at = t.at })

  all_of_tasks : (all : List Task) → ListFits (flat_map (λ t. t.statements) (map walked_task all)) → AllByRecursion (λ t. PartFits p t.body) all
  all_of_tasks [] f = tt
  all_of_tasks (t ∷ ts) f =
      let both : _ = two_fit (walked_task t).statements (flat_map (λ t. t.statements) (map walked_task ts)) f in
      (of_list t.body (subst (λ (w : WalkedTask). ListFits w.statements) (task_walk t) both.0), all_of_tasks ts both.1)

  task_sets : (all : List Task) → map (λ t. t.nodes) (map walked_task all) ≡ map (λ t. t.nodes) all
  task_sets [] = refl
  task_sets (t ∷ ts) = ap (λ (w : WalkedTask). w.nodes ∷ map (λ t. t.nodes) (map walked_task ts)) (task_walk t) ∙ ap (λ l. t.nodes ∷ l) (task_sets ts)

  global_not : (k : Kind) (b : Bool) → k ≡ Global → (has_coarrays k || b) ≡ true → b ≡ true
  global_not k b e h = subst (λ z. (has_coarrays z || b) ≡ true) e h

abbrev Pass : (Statement → Bool) → List Statement → Type 0
Pass test ys = list_all test ys ≡ true

pub body_fits : BodyFits
body_fits p g = record {
  terms = terms_stand p (terms_of_stmt p p.body) (of_terms constant_fits g.fits.expressions.constants) (of_terms operands_fit g.fits.expressions.operands) (of_terms choice_fits g.fits.expressions.choices)
      (of_terms (element_fits p) g.fits.expressions.elements) (of_terms (image_fits p) g.fits.kinds.images) (of_terms asks_no_node (global_not p p.kind (list_all asks_no_node (terms_of_program p)) g.kind g.fits.kinds.node_numbers));
  statements = all_stand (statements_of p.body)
      (of_statements (assignment_fits p) g.fits.statements.assignments)
      (of_statements (counted_fits p) g.fits.statements.counted)
      (of_statements is_no_sync (global_not p p.kind (list_all is_no_sync (statements_of_program p)) g.kind g.fits.kinds.syncs))
      (of_statements (at_loops (names_template p)) g.fits.directives.loop_templates)
      (of_statements (at_loops (has_points p)) g.fits.directives.points)
      (of_statements (at_loops (λ d. list_all is_small_point d.points)) g.fits.directives.constants)
      (of_statements (at_loops (has_indices p)) g.fits.directives.distributed)
      (of_statements (at_loops indices_once) g.fits.directives.indices)
      (of_statements (at_loops indices_of_nest) g.fits.directives.nest_indices)
      (of_statements (nest_counted p) g.fits.directives.nests)
      (of_statements (λ s. list_all (λ a. nat_lt a (length p.arrays)) (arrays_beside s)) g.fits.directives.arrays)
      (of_statements (at_gmoves (λ target source. side_fits p target && side_fits p source)) g.fits.directives.sides)
      (of_statements (at_gmoves sections_agree) g.fits.directives.sections)
      (of_statements (cast_fits p) g.fits.directives.casts)
      (of_statements (tasks_inside p) g.fits.directives.tasks)
      (of_statements (tasks_apart p) g.fits.directives.tasks_apart);
  slots = all_below (length p.scalars) (slots_of_stmt p p.body)
      (list_last (λ n. nat_lt n (length p.scalars)) (slots_of_starts p) (slots_of_stmt p p.body)
      (list_last (λ n. nat_lt n (length p.scalars)) (flat_map (slots_of_function p) p.functions) (slots_of_main p) g.fits.scalars.numbers));
}
  where
    of_terms : (test : Term → Bool) → list_all test (terms_of_program p) ≡ true → list_all test (terms_of_stmt p p.body) ≡ true
    of_terms test e = list_last test (flat_map (λ f. terms_of_stmt p f.body) p.functions) (terms_of_stmt p p.body)
        (list_last test (flat_map (λ s. terms_of p s.value) p.start) (flat_map (λ f. terms_of_stmt p f.body) p.functions ++ terms_of_stmt p p.body) e)

    of_statements : (test : Statement → Bool) → list_all test (statements_of_program p) ≡ true → list_all test (statements_of p.body) ≡ true
    of_statements test e = list_last test (flat_map (λ f. statements_of f.body) p.functions) (statements_of p.body) e

    all_stand : (ys : List Statement) → Pass (assignment_fits p) ys → Pass (counted_fits p) ys → Pass is_no_sync ys → Pass (at_loops (names_template p)) ys
        → Pass (at_loops (has_points p)) ys → Pass (at_loops (λ d. list_all is_small_point d.points)) ys → Pass (at_loops (has_indices p)) ys
        → Pass (at_loops indices_once) ys → Pass (at_loops indices_of_nest) ys → Pass (nest_counted p) ys
        → Pass (λ s. list_all (λ a. nat_lt a (length p.arrays)) (arrays_beside s)) ys
        → Pass (at_gmoves (λ target source. side_fits p target && side_fits p source)) ys → Pass (at_gmoves sections_agree) ys → Pass (cast_fits p) ys
        → Pass (tasks_inside p) ys → Pass (tasks_apart p) ys → AllByRecursion (StatementStands p) ys
    all_stand [] a b c d e f h i j k l m n o q r = tt
    all_stand (y ∷ ys) a b c d e f h i j k l m n o q r = (
      record {
        assignment = and_left (assignment_fits p y) _ a;
        counted = and_left (counted_fits p y) _ b;
        sync = and_left (is_no_sync y) _ c;
        template = and_left (at_loops (names_template p) y) _ d;
        points = and_left (at_loops (has_points p) y) _ e;
        small = and_left (at_loops (λ d. list_all is_small_point d.points) y) _ f;
        distributed = and_left (at_loops (has_indices p) y) _ h;
        once = and_left (at_loops indices_once y) _ i;
        nest_indices = and_left (at_loops indices_of_nest y) _ j;
        nest = and_left (nest_counted p y) _ k;
        arrays = all_below (length p.arrays) (arrays_beside y) (and_left (list_all (λ a. nat_lt a (length p.arrays)) (arrays_beside y)) _ l);
        sides = and_left (at_gmoves (λ target source. side_fits p target && side_fits p source) y) _ m;
        sections = and_left (at_gmoves sections_agree y) _ n;
        cast = and_left (cast_fits p y) _ o;
        inside = and_left (tasks_inside p y) _ q;
        apart = and_left (tasks_apart p y) _ r;
      },
      all_stand ys (and_right (assignment_fits p y) _ a) (and_right (counted_fits p y) _ b) (and_right (is_no_sync y) _ c) (and_right (at_loops (names_template p) y) _ d)
          (and_right (at_loops (has_points p) y) _ e) (and_right (at_loops (λ d. list_all is_small_point d.points) y) _ f) (and_right (at_loops (has_indices p) y) _ h)
          (and_right (at_loops indices_once y) _ i) (and_right (at_loops indices_of_nest y) _ j) (and_right (nest_counted p y) _ k)
          (and_right (list_all (λ a. nat_lt a (length p.arrays)) (arrays_beside y)) _ l)
          (and_right (at_gmoves (λ target source. side_fits p target && side_fits p source) y) _ m) (and_right (at_gmoves sections_agree y) _ n) (and_right (cast_fits p y) _ o)
          (and_right (tasks_inside p y) _ q) (and_right (tasks_apart p y) _ r),
    )

-- ---- form by form

pub plain_fits : PlainFits
plain_fits p q f = (head_fits p _ _ (walk_of p (stmt.Plain q) _ (at_plain Walked WalkedTask walk_step walk_task q) f)).0

pub blocks_fit : BlocksFit
blocks_fit p all f = all_of_walks p all (head_fits p _ _ (walk_of p (stmt.Block all) _ (at_block Walked WalkedTask walk_step walk_task all) f)).1

pub ifs_fit : IfsFit
ifs_fit p e x y f =
    let parts : _ = head_fits p _ (statements_of x ++ statements_of y) (walk_of p (stmt.If e x y) _ (at_if Walked WalkedTask walk_step walk_task e x y) f) in
    let both : _ = two_fit p (statements_of x) (statements_of y) parts.1 in
    record { test = parts.0.terms; first = of_list p x both.0; second = of_list p y both.1 }

pub whiles_fit : WhilesFit
whiles_fit p e body at f =
    let parts : _ = head_fits p _ (statements_of body) (walk_of p (stmt.While e body at) _ (at_while Walked WalkedTask walk_step walk_task e body at) f) in
    record { test = parts.0.terms; inner = of_list p body parts.1 }

pub counteds_fit : CountedsFit
counteds_fit p head body f =
    let parts : _ = head_fits p (Stmt-F.Counted head (writes_of body)) (statements_of body) (walk_of p (stmt.Counted head body) _ (at_counted Walked WalkedTask walk_step walk_task head body) f) in
    let terms : _ = all_apart (TermStands p) (terms_of p head.from) (terms_of p head.to) parts.0.terms in
    record { from = terms.0; to = terms.1; index = parts.0.slots.0; counted = parts.0.stands.counted; inner = of_list p body parts.1 }

pub loops_fit : LoopsFit
loops_fit p d body f =
    let parts : _ = head_fits p (Stmt-F.Loop d (writes_of body)) (statements_of body) (walk_of p (stmt.Loop d body) _ (at_loop Walked WalkedTask walk_step walk_task d body) f) in
    record { step = parts.0; inner = of_list p body parts.1 }

pub all_tasks_fit : AllTasksFit
all_tasks_fit p all at f =
    let parts : _ = head_fits p (Stmt-F.Tasks (map (λ t. t.nodes) (map (walked_task p) all)) at) (flat_map (λ t. t.statements) (map (walked_task p) all))
    (walk_of p (stmt.Tasks all at) _ (at_tasks Walked WalkedTask walk_step walk_task all at) f) in
    record { step = subst (λ sets. StepFits p (Stmt-F.Tasks sets at)) (task_sets p all) parts.0; bodies = all_of_tasks p all parts.1 }
