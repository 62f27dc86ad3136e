-- Statements with others inside note what breaks at their spots, and leave what is in scope.
use Rattle.std.proofs.Common.{◌≡◌, ◌∙◌, refl, sym, ap, subst, ◌++◌, ◌∷◌, [], List, true, false, not, ◌||◌, Option, Some, None, is_some, length, map, flat_map, cond, append_assoc, append-nil}
use Rattle.std.proofs.lemmas.Grind.{flat_map-append}
use Rattle.std.specs.Prelude.{⊤}
use Rattle.std.specs.List.{AllZip}
use Rattle.std.specs.Option.{option_or}
use Rattle.xmp_base.specs.declared.place.Place.{Place}
use Rattle.xmp_num.specs.declared.types.Ty.{Ty}
use Rattle.xmp_num.specs.declared.types.Ty.TheVariants.{Int}
use Rattle.xmp_map.specs.declared.grid.NodeSet.{NodeSet}
use Rattle.xmp_prog.specs.declared.statements.Stmt as made
use Rattle.xmp_prog.specs.declared.statements.Stmt.TheVariants as s
use Rattle.xmp_prog.specs.declared.statements.Plain.TheVariants as p
use Rattle.xmp_prog.specs.declared.statements.Task.{Task}
use Rattle.xmp_syntax.specs.declared.parts.Name as named
use Rattle.xmp_syntax.specs.declared.parts.Reference.{Reference}
use Rattle.xmp_syntax.specs.declared.expression.Expr.{Expr}
use Rattle.xmp_syntax.specs.declared.declaration.Declarator.{Declarator}
use Rattle.xmp_syntax.specs.declared.declaration.Declarator.TheVariants as declarator
use Rattle.xmp_syntax.specs.declared.declaration.Declaration.{Declaration}
use Rattle.xmp_syntax.specs.declared.directive.DirectiveLine.{DirectiveLine}
use Rattle.xmp_syntax.specs.declared.directive.LoopLine.{LoopLine}
use Rattle.xmp_syntax.specs.declared.directive.TaskLine.{TaskLine}
use Rattle.xmp_syntax.specs.declared.directive.Mapping.{Mapping}
use Rattle.xmp_syntax.specs.declared.directive.Mapping.TheVariants as mapping
use Rattle.xmp_syntax.specs.declared.statement.Simple.{Simple}
use Rattle.xmp_syntax.specs.declared.statement.ForFirst.{ForFirst}
use Rattle.xmp_syntax.specs.declared.statement.ForFirst.TheVariants as for_first
use Rattle.xmp_syntax.specs.declared.statement.ForHead.{ForHead}
use Rattle.xmp_syntax.specs.declared.statement.BlockItem.{BlockItem}
use Rattle.xmp_syntax.specs.declared.statement.BlockItem.TheVariants as b
use Rattle.xmp_syntax.specs.declared.statement.Stmt.{Stmt}
use Rattle.xmp_syntax.specs.declared.statement.Stmt.TheOpen.{Stmt-F}
use Rattle.xmp_syntax.specs.declared.statement.Stmt.TheFolds.{fold-roll-Stmt, ind-Stmt, map-Stmt}
use Rattle.xmp_syntax.specs.declared.statement.Stmt.TheViews.{roll-Stmt}
use Rattle.xmp_scopes.specs.Names.{Name, in_scope, nearest}
use Rattle.xmp_rules.proofs.Names.{same_of_equal}
use Rattle.xmp_names.specs.declared.rules.Rule.TheVariants.{N5}
use Rattle.xmp_names.specs.declared.world.World.{World}
use Rattle.xmp_names.specs.Rules.{unless}
use Rattle.xmp_names.specs.Lists.{listed}
use Rattle.xmp_names.specs.Walk as walk
use Rattle.xmp_names.specs.Walk.{Gave, Run, first_place}
use Rattle.xmp_directives.specs.Directives as directives
use Rattle.xmp_directives.specs.Directives.{nest_of, made_task}
use Rattle.xmp_directives.specs.MappingLines as lines
use Rattle.xmp_walk.specs.declared.loops.First.{First}
use Rattle.xmp_walk.specs.declared.loops.ForParts.{ForParts}
use Rattle.xmp_walk.specs.Declarations.{type_of}
use Rattle.xmp_walk.specs.Statements as statements
use Rattle.xmp_walk.specs.Statements.{index_of, first_part, loop_of}
use Rattle.xmp_walk.specs.Program as program
use Rattle.xmp_rules.specs.Scopes.{Declared, Scalar, Scope, Context, inner_with, file_with, declare, opened}
use Rattle.xmp_rules.specs.Spots as spots
use Rattle.xmp_rules.specs.Spots.{Variable, What, Used, Declares, Directive, Spot, all_in, of_expr, of_reference, of_loop, of_task, of_mapping, behind_mapping, behind_declarator, behind_declarators, of_declaration, behind_declaration, of_plain, of_first, behind_first, of_simple, of_test, of_next, of_for, of_items, of_else, of_stmt}
use Rattle.xmp_rules.proofs.Kept.{kept}
use Rattle.xmp_rules.proofs.Standing.{Stands, in_function, used, breaks, found, all_found, found_in, or_true}
use Rattle.xmp_rules.proofs.Telling as telling
use Rattle.xmp_rules.proofs.Telling.{Ends, ends_then, ends_map, Tells, Telling, typed, typed_reference, directive_at}
use Rattle.xmp_rules.proofs.Directives.{loop_line_tells, judged_loop_tells, task_tells}
use Rattle.xmp_rules.proofs.Mappings.{mapping_moves}
use Rattle.xmp_rules.proofs.Statements.{simple_tells, plain_tells, declaration_moves, do_then}
use Rattle.xmp_rules.proofs.Moving.{Came, came_none, came_then, came_closed, Moves, moves_then, ◌>>=◌, ended, pure, known, quiet, quietly, moves_as, scalar_declared, opened_stands, IsOpen, Inner, inner_declared, inner_refl, inner_then, scoped}

-- ---- the head of a `for`

index_means : (n : Name) (d : Declared) (l : List Scope) (file : Scope) → IsOpen l → nearest n (inner_with n d l ++ file_with n d l file ∷ []) ≡ Some d
index_means n d [] file h = absurd h
index_means n d (s ∷ ss) file h = ap (λ t. option_or (cond t (Some d) (in_scope n s)) (nearest n (ss ++ file ∷ []))) (same_of_equal n n refl)

index_inner : (n : Name) (d : Declared) (l : List Scope) → IsOpen l → is_some (nearest n (inner_with n d l)) ≡ true
index_inner n d [] h = absurd h
index_inner n d (s ∷ ss) h = ap (λ t. is_some (option_or (cond t (Some d) (in_scope n s)) (nearest n ss))) (same_of_equal n n refl)

-- The index that a `for` declares may be named.
index_quiet : (c : Context) (n : named.Name) → IsOpen c.inner → found (declare n.text (Scalar Int) c) (of_reference (index_of n)) ≡ []
index_quiet c n h =
    ap (λ d. used (declare n.text (Scalar Int) c) n (Variable 0 false) d ++ []) (index_means n.text (Scalar Int) c.inner c.file h)
    ∙ (ap (λ t. unless (not (in_function c.part) || t) N5 n.at ++ []) (index_inner n.text (Scalar Int) c.inner h)
    ∙ ap (λ t. unless t N5 n.at ++ []) (or_true (not (in_function c.part))))

assign_tells : (r : Reference Expr) (at : Place) (x : Expr) → Tells (λ c. of_reference r ++ of_expr x) (statements.first_of (for_first.Assign r at x))
assign_tells r at x = (do_then (typed_reference r) (λ t. telling.ended (typed x) (λ v. first_part [] x t v))).tells

first_at : (f : Option ForFirst) (w : World) (c : Context) → IsOpen c.inner → Stands w.names c → Ends (λ a v. Came w v (behind_first f c) (all_found (of_first c f))) (walk.if_there statements.first_of f w)
first_at None w c h st = came_none w c st
first_at (Some (for_first.Assign r at x)) w c h st =
    (ended (quietly {ws = λ c. of_reference r ++ of_expr x} (statements.first_of (for_first.Assign r at x)) (assign_tells r at x)) (λ y. Some y)).moves.at w c st
first_at (Some (for_first.Declare at n equals x)) w c h st =
    ends_map (λ (a : Option First) v. Came w v (declare n.text (Scalar Int) c) (all_found (all_in c (Declares n ∷ []) ++ (all_in (declare n.text (Scalar Int) c) (of_reference (index_of n)) ++ all_in (declare n.text (Scalar Int) c) (of_expr x)))))
    (λ (a : Option First) v. Came w v (declare n.text (Scalar Int) c) (all_found (all_in c (Declares n ∷ []) ++ all_in (declare n.text (Scalar Int) c) (of_expr x))))
    (walk.if_there statements.first_of (Some (for_first.Declare at n equals x)) w)
    ((ended (do
      slot ← known {ws = λ c. all_in c (Declares n ∷ [])} {next = declare n.text (Scalar Int)} (walk.declare_scalar n Int) (scalar_declared n Int)
      t ← quietly {ws = λ c. of_reference (index_of n)} (walk.typed_reference (index_of n)) (typed_reference (index_of n)).tells
      ended (quietly {ws = λ c. of_expr x} (walk.typed x) (typed x).tells) (λ v. first_part (s.Plain (p.Declare slot None n.at) ∷ []) x t v)) (λ y. Some y)).moves.at w c st)
    (λ a v e. record {
      stands = e.stands;
      broken = e.broken ∙ ap (λ l. kept w.broken ++ (breaks c (Declares n) ++ l)) (flat_map-append (λ x. breaks x.in x.what) (all_in (declare n.text (Scalar Int) c) (of_reference (index_of n))) (all_in (declare n.text (Scalar Int) c) (of_expr x))
          ∙ ap (λ l. l ++ all_found (all_in (declare n.text (Scalar Int) c) (of_expr x))) (found_in (declare n.text (Scalar Int) c) (of_reference (index_of n)) ∙ index_quiet c n h));
    })

test_tells : (x : Option Expr) → Tells (λ c. of_test x) (walk.if_there walk.typed x)
test_tells None = (telling.pure None).tells
test_tells (Some x) = (telling.ended (typed x) (λ y. Some y)).tells

next_tells : (x : Option Simple) → Tells (λ c. of_next x) (walk.if_there statements.simple_of x)
next_tells None = (telling.pure None).tells
next_tells (Some x) = (telling.ended (telling.known {ws = λ c. of_simple x} (statements.simple_of x) (simple_tells x)) (λ y. Some y)).tells

-- The parts of a `for` behind its first one.
abbrev rest_of_head : ForHead → Option First → Run ForParts
rest_of_head h first = walk.◌>>=◌ (walk.if_there walk.typed h.test) (λ test. walk.◌>>=◌ (walk.if_there statements.simple_of h.next) (λ next. walk.pure (record { first = first; test = test; next = next })))

rest_tells : (h : ForHead) (first : Option First) → Tells (λ c. of_test h.test ++ of_next h.next) (rest_of_head h first)
rest_tells h first =
    (do_then (telling.known {ws = λ c. of_test h.test} (walk.if_there walk.typed h.test) (test_tells h.test))
    (λ test. telling.ended (telling.known {ws = λ c. of_next h.next} (walk.if_there statements.simple_of h.next) (next_tells h.next)) (λ next. record { first = first; test = test; next = next }))).tells

inner_first : (f : Option ForFirst) (c : Context) → IsOpen c.inner → Inner c (behind_first f c)
inner_first None c h = inner_refl c h
inner_first (Some (for_first.Assign r at x)) c h = inner_refl c h
inner_first (Some (for_first.Declare at n equals x)) c h = inner_declared n.text (Scalar Int) c h

-- The head of a `for`, in its scope.
abbrev head_of : ForHead → Run ForParts
head_of h = walk.◌>>=◌ (walk.if_there statements.first_of h.first) (λ first. rest_of_head h first)

abbrev of_head : ForHead → Context → List Spot
of_head h c = of_first c h.first ++ all_in (behind_first h.first c) (of_test h.test ++ of_next h.next)

head_at : (h : ForHead) (w : World) (c : Context) → IsOpen c.inner → Stands w.names c → Ends (λ parts v. Came w v (behind_first h.first c) (all_found (of_head h c))) (head_of h w)
head_at h w c k st =
    let d : Context = behind_first h.first c in
    let ys : List Spot = all_in d (of_test h.test ++ of_next h.next) in
    ends_then (λ (f : Option First) v. Came w v d (all_found (of_first c h.first))) (λ (parts : ForParts) v. Came w v d (all_found (of_head h c))) (walk.if_there statements.first_of h.first w) (λ first. rest_of_head h first)
    (first_at h.first w c k st)
    (λ first v e. ends_map (λ (parts : ForParts) u. Came v u d (all_found ys)) (λ (parts : ForParts) u. Came w u d (all_found (of_head h c))) (rest_of_head h first v)
    ((quiet (λ c. of_test h.test ++ of_next h.next) (rest_of_head h first) (rest_tells h first)).at v d e.stands)
    (λ parts u g. came_then w v u d d (of_first c h.first) ys e g))

pub for_moves : (h : ForHead) (run : Run made.Stmt) (ws : Context → List Spot) → Moves ws (λ c. c) run → Moves (λ c. of_for h ws c) (λ c. c) (statements.for_of h run)
for_moves h run ws k = record {
  at = λ w c st.
      let o : World = record w { names = record w.names { scopes = [] ∷ w.names.scopes } } in
      let d : Context = behind_first h.first (opened c) in
      ends_then (λ (parts : ForParts) v. Came o v d (all_found (of_head h (opened c)))) (λ (x : made.Stmt) v. Came w v c (all_found (of_for h ws c))) (head_of h o)
      (λ parts. walk.◌>>=◌ run (λ x. walk.◌>>=◌ walk.close_scope (λ _. walk.pure (loop_of h parts x))))
      (head_at h o (opened c) tt (opened_stands w c st))
      (λ parts v e. ends_then (λ (x : made.Stmt) u. Came v u d (all_found (ws d))) (λ (x : made.Stmt) u. Came w u c (all_found (of_for h ws c))) (run v) (λ x. walk.◌>>=◌ walk.close_scope (λ _. walk.pure (loop_of h parts x)))
      (k.at v d e.stands)
      (λ x u g. came_closed w u c d (all_found (of_for h ws c)) (inner_first h.first (opened c) tt)
      (subst (λ l. Came o u d (all_found l)) (append_assoc (of_first (opened c) h.first) (all_in d (of_test h.test ++ of_next h.next)) (ws d)) (came_then o v u d d (of_head h (opened c)) (ws d) e g))));
}

-- ---- what stands in a block

-- An item of the tree seen by the checker and as spots.
abbrev pub Matches : BlockItem (Run made.Stmt) → BlockItem (Context → List Spot) → Type 0
Matches (b.Mapping x) (b.Mapping y) = x ≡ y
Matches (b.Declaration x) (b.Declaration y) = x ≡ y
Matches (b.Stmt run) (b.Stmt ws) = Moves ws (λ c. c) run
Matches _ _ = ⊥

-- What is in scope behind items.
abbrev pub behind_items : {A : Type 0} → List (BlockItem A) → Context → Context
behind_items [] c = c
behind_items (b.Mapping x ∷ xs) c = behind_items xs (behind_mapping x c)
behind_items (b.Declaration d ∷ xs) c = behind_items xs (behind_declaration d c)
behind_items (b.Stmt x ∷ xs) c = behind_items xs c

pub items_move : (done : List made.Stmt) (xs : List (BlockItem (Run made.Stmt))) (ys : List (BlockItem (Context → List Spot))) → AllZip Matches xs ys → Moves (λ c. of_items c ys) (behind_items ys) (program.items_of done xs)
items_move done [] [] h = (pure done).moves
items_move done [] (y ∷ ys) h = absurd h
items_move done (x ∷ xs) [] h = absurd h
items_move done (b.Mapping x ∷ xs) (b.Mapping y ∷ ys) h =
    moves_then (λ c. all_in c (of_mapping y)) (λ c. of_items c ys) (behind_mapping y) (behind_items ys) (program.item_of done (b.Mapping x)) (λ so_far. program.items_of so_far xs)
    (subst (λ z. Moves (λ c. all_in c (of_mapping z)) (behind_mapping z) (program.item_of done (b.Mapping x))) h.0 (ended (known {ws = λ c. all_in c (of_mapping x)} {next = behind_mapping x} (lines.mapping_of x) (mapping_moves x)) (λ _. done)).moves)
    (λ so_far. items_move so_far xs ys h.1)
items_move done (b.Declaration x ∷ xs) (b.Declaration y ∷ ys) h =
    moves_then (λ c. of_declaration of_expr c y) (λ c. of_items c ys) (behind_declaration y) (behind_items ys) (program.item_of done (b.Declaration x)) (λ so_far. program.items_of so_far xs)
    (subst (λ z. Moves (λ c. of_declaration of_expr c z) (behind_declaration z) (program.item_of done (b.Declaration x))) h.0 (declaration_moves done x))
    (λ so_far. items_move so_far xs ys h.1)
items_move done (b.Stmt run ∷ xs) (b.Stmt ws ∷ ys) h =
    moves_then ws (λ c. of_items c ys) (λ c. c) (behind_items ys) (program.item_of done (b.Stmt run)) (λ so_far. program.items_of so_far xs)
    (ended (known {ws = ws} {next = λ c. c} run h.0) (λ one. done ++ one ∷ [])).moves
    (λ so_far. items_move so_far xs ys h.1)
items_move done (b.Mapping x ∷ xs) (b.Declaration y ∷ ys) h = absurd h.0
items_move done (b.Mapping x ∷ xs) (b.Stmt y ∷ ys) h = absurd h.0
items_move done (b.Declaration x ∷ xs) (b.Mapping y ∷ ys) h = absurd h.0
items_move done (b.Declaration x ∷ xs) (b.Stmt y ∷ ys) h = absurd h.0
items_move done (b.Stmt x ∷ xs) (b.Mapping y ∷ ys) h = absurd h.0
items_move done (b.Stmt x ∷ xs) (b.Declaration y ∷ ys) h = absurd h.0

inner_mapping : (x : Mapping) (c : Context) → IsOpen c.inner → Inner c (behind_mapping x c)
inner_mapping (mapping.Nodes line n sizes) c h = inner_declared n.text _ c h
inner_mapping (mapping.NodesStar line n star) c h = inner_declared n.text _ c h
inner_mapping (mapping.NodesPart line n size at set) c h = inner_declared n.text _ c h
inner_mapping (mapping.Template line n sizes) c h = inner_declared n.text _ c h
inner_mapping (mapping.Distribute line t forms at onto) c h = inner_refl c h
inner_mapping (mapping.Align line a dimensions at t points) c h = inner_refl c h
inner_mapping (mapping.Shadow line a widths) c h = inner_refl c h

inner_declarator : (ty : Ty) (d : Declarator) (c : Context) → IsOpen c.inner → Inner c (behind_declarator ty d c)
inner_declarator ty (declarator.Scalar n value) c h = inner_declared n.text _ c h
inner_declarator ty (declarator.Array n extents image) c h = inner_declared n.text _ c h

inner_declarators : (ty : Ty) (xs : List Declarator) (c : Context) → IsOpen c.inner → Inner c (behind_declarators ty xs c)
inner_declarators ty [] c h = inner_refl c h
inner_declarators ty (x ∷ xs) c h = inner_then (inner_declarator ty x c h) (λ k. inner_declarators ty xs (behind_declarator ty x c) k)

pub inner_items : {A : Type 0} (xs : List (BlockItem A)) (c : Context) → IsOpen c.inner → Inner c (behind_items xs c)
inner_items [] c h = inner_refl c h
inner_items (b.Mapping x ∷ xs) c h = inner_then (inner_mapping x c h) (λ k. inner_items xs (behind_mapping x c) k)
inner_items (b.Declaration d ∷ xs) c h = inner_then (inner_declarators (type_of d.ty) (listed d.items) c h) (λ k. inner_items xs (behind_declaration d c) k)
inner_items (b.Stmt x ∷ xs) c h = inner_items xs c h

block_moves : (xs : List (BlockItem (Run made.Stmt))) (ys : List (BlockItem (Context → List Spot))) → AllZip Matches xs ys → Moves (λ c. of_items (opened c) ys) (λ c. c) (program.block_of xs)
block_moves xs ys h = scoped (λ c. of_items c ys) (behind_items ys) (program.items_of [] xs) (λ made. s.Block made) (items_move [] xs ys h) (λ c k. inner_items ys c k)

-- ---- `if`, `while`, directives

abbrev pub MatchesElse : Option (Place × Run made.Stmt) → Option (Place × (Context → List Spot)) → Type 0
MatchesElse None None = ⊤
MatchesElse (Some x) (Some y) = Moves y.1 (λ c. c) x.1
MatchesElse _ _ = ⊥

else_moves : (x : Option (Place × Run made.Stmt)) (y : Option (Place × (Context → List Spot))) → MatchesElse x y → Moves (λ c. of_else y c) (λ c. c) (statements.else_of x)
else_moves None None h = (pure (s.Block [])).moves
else_moves None (Some y) h = absurd h
else_moves (Some x) None h = absurd h
else_moves (Some x) (Some y) h = h

if_moves : (test : Expr) (run : Run made.Stmt) (ws : Context → List Spot) (x : Option (Place × Run made.Stmt)) (y : Option (Place × (Context → List Spot))) → Moves ws (λ c. c) run → MatchesElse x y →
    Moves (λ c. all_in c (of_expr test) ++ (ws c ++ of_else y c)) (λ c. c) (statements.if_of test run x)
if_moves test run ws x y h k = (do
  t ← quietly {ws = λ c. of_expr test} (walk.typed test) (typed test).tells
  a ← known {ws = ws} {next = λ c. c} run h
  ended (known {ws = λ c. of_else y c} {next = λ c. c} (statements.else_of x) (else_moves x y k)) (λ z. s.If t.made a z)).moves

while_moves : (at : Place) (test : Expr) (run : Run made.Stmt) (ws : Context → List Spot) → Moves ws (λ c. c) run → Moves (λ c. all_in c (of_expr test) ++ ws c) (λ c. c) (statements.while_of at test run)
while_moves at test run ws h = (do
  t ← quietly {ws = λ c. of_expr test} (walk.typed test) (typed test).tells
  ended (known {ws = ws} {next = λ c. c} run h) (λ a. s.While t.made a at)).moves

loop_moves : (l : LoopLine) (h : ForHead) (run : Run made.Stmt) (ws : Context → List Spot) → Moves ws (λ c. c) run → Moves (λ c. all_in c (of_loop l) ++ of_for h ws c) (λ c. c) (program.loop_directive l h run)
loop_moves l h run ws k =
    moves_as (λ c. all_in c (of_loop l) ++ (of_for h ws c ++ all_in c [])) (λ c. all_in c (of_loop l) ++ of_for h ws c) (λ c. c) (λ c. c) (program.loop_directive l h run) (λ c. ap (λ z. all_found (all_in c (of_loop l) ++ z)) (append-nil (of_for h ws c))) (λ c. refl)
    (do
      parts ← quietly {ws = λ c. of_loop l} (directives.loop_line l) (loop_line_tells l)
      loop ← known {ws = λ c. of_for h ws c} {next = λ c. c} (statements.for_of h run) (for_moves h run ws k)
      quietly {ws = λ c. []} (directives.judged_loop l.line.word parts (nest_of (length parts.names) loop)) (judged_loop_tells l.line.word parts (nest_of (length parts.names) loop))).moves

task_moves : (l : TaskLine) (run : Run made.Stmt) (ws : Context → List Spot) → Moves ws (λ c. c) run → Moves (λ c. all_in c (of_task l) ++ ws c) (λ c. c) (directives.lone_task l run)
task_moves l run ws h = (do
  nodes ← quietly {ws = λ c. of_task l} (directives.task_line [] l) (task_tells [] l)
  ended (known {ws = ws} {next = λ c. c} run h) (λ x. s.Tasks (made_task nodes x l.line.word ∷ []) l.line.word)).moves

abbrev pub MatchesTask : TaskLine × Run made.Stmt → TaskLine × (Context → List Spot) → Type 0
MatchesTask x y = (x.0 ≡ y.0) × Moves y.1 (λ c. c) x.1

in_task : (before : List NodeSet) (l m : TaskLine) → l ≡ m → Tells (λ c. of_task m) (directives.task_line before l)
in_task before l m h = subst (λ m. Tells (λ c. of_task m) (directives.task_line before l)) h (task_tells before l)

tasks_move : (before : List NodeSet) (done : List Task) (xs : List (TaskLine × Run made.Stmt)) (ys : List (TaskLine × (Context → List Spot))) → AllZip MatchesTask xs ys →
    Moves (λ c. flat_map (λ x. all_in c (of_task x.0) ++ x.1 c) ys) (λ c. c) (directives.tasks_in before done xs)
tasks_move before done [] [] h = (pure done).moves
tasks_move before done [] (y ∷ ys) h = absurd h
tasks_move before done (x ∷ xs) [] h = absurd h
tasks_move before done (x ∷ xs) (y ∷ ys) h =
    moves_as (λ c. all_in c (of_task y.0) ++ (y.1 c ++ flat_map (λ x. all_in c (of_task x.0) ++ x.1 c) ys)) (λ c. flat_map (λ x. all_in c (of_task x.0) ++ x.1 c) (y ∷ ys)) (λ c. c) (λ c. c) (directives.tasks_in before done (x ∷ xs))
    (λ c. ap all_found (sym (append_assoc (all_in c (of_task y.0)) (y.1 c) (flat_map (λ x. all_in c (of_task x.0) ++ x.1 c) ys)))) (λ c. refl)
    (do
      nodes ← quietly {ws = λ c. of_task y.0} (directives.task_line before x.0) (in_task before x.0 y.0 h.0.0)
      z ← known {ws = y.1} {next = λ c. c} x.1 h.0.1
      known {ws = λ c. flat_map (λ x. all_in c (of_task x.0) ++ x.1 c) ys} {next = λ c. c} (directives.tasks_in (before ++ nodes ∷ []) (done ++ made_task nodes z x.0.line.word ∷ []) xs) (tasks_move (before ++ nodes ∷ []) (done ++ made_task nodes z x.0.line.word ∷ []) xs ys h.1)).moves

all_tasks_move : (l : DirectiveLine) (xs : List (TaskLine × Run made.Stmt)) (ys : List (TaskLine × (Context → List Spot))) → AllZip MatchesTask xs ys →
    Moves (λ c. all_in c (Directive l.word ∷ []) ++ flat_map (λ x. all_in c (of_task x.0) ++ x.1 c) ys) (λ c. c) (directives.tasks_of l xs)
all_tasks_move l xs ys h = (do
  _ ← quietly {ws = λ c. Directive l.word ∷ []} (walk.directive_at l.word) (directive_at l.word).tells
  ended (known {ws = λ c. flat_map (λ x. all_in c (of_task x.0) ++ x.1 c) ys} {next = λ c. c} (directives.tasks_in [] [] xs) (tasks_move [] [] xs ys h)) (λ tasks. s.Tasks tasks l.word)).moves

-- ---- all statements

abbrev P : Stmt → Type 0
P x = Moves (of_stmt x) (λ c. c) (program.stmt_of x)

abbrev Known : Type 0
Known = (x : Stmt) × P x

zip_items : (f : BlockItem Stmt → BlockItem (Run made.Stmt)) (g : BlockItem Stmt → BlockItem (Context → List Spot)) (k : BlockItem Known → BlockItem Stmt)
    → ((x : Mapping) → Matches (f (k (b.Mapping x))) (g (k (b.Mapping x)))) → ((d : Declaration) → Matches (f (k (b.Declaration d))) (g (k (b.Declaration d)))) → ((x : Known) → Matches (f (k (b.Stmt x))) (g (k (b.Stmt x))))
    → (xs : List (BlockItem Known)) → AllZip Matches (map f (map k xs)) (map g (map k xs))
zip_items f g k m d e [] = tt
zip_items f g k m d e (b.Mapping x ∷ xs) = (m x, zip_items f g k m d e xs)
zip_items f g k m d e (b.Declaration x ∷ xs) = (d x, zip_items f g k m d e xs)
zip_items f g k m d e (b.Stmt x ∷ xs) = (e x, zip_items f g k m d e xs)

zip_tasks : (xs : List (TaskLine × Known)) → AllZip MatchesTask (map (λ (x : TaskLine × Stmt). (x.0, program.stmt_of x.1)) (map (λ (x : TaskLine × Known). (x.0, x.1.0)) xs)) (map (λ (x : TaskLine × Stmt). (x.0, of_stmt x.1)) (map (λ (x : TaskLine × Known). (x.0, x.1.0)) xs))
zip_tasks [] = tt
zip_tasks (x ∷ xs) = ((refl, x.1.1), zip_tasks xs)

each_step : (y : Stmt-F Known) →
    Moves (spots.stmt_step (map-Stmt Stmt (Context → List Spot) of_stmt (map-Stmt Known Stmt (λ z. z.0) y))) (λ c. c) (program.stmt_step (map-Stmt Stmt (Run made.Stmt) program.stmt_of (map-Stmt Known Stmt (λ z. z.0) y)))
each_step (Stmt-F.Plain x) = quiet (λ c. of_plain c x) (program.plain_of x) (plain_tells x)
each_step (Stmt-F.Block x) = block_moves _ _ (zip_items _ _ _ (λ x. refl) (λ d. refl) (λ z. z.1) x.item)
each_step (Stmt-F.If at x a None) = if_moves x.item (program.stmt_of a.0) (of_stmt a.0) None None a.1 tt
each_step (Stmt-F.If at x a (Some z)) = if_moves x.item (program.stmt_of a.0) (of_stmt a.0) (Some (z.0, program.stmt_of z.1.0)) (Some (z.0, of_stmt z.1.0)) a.1 z.1.1
each_step (Stmt-F.While at x a) = while_moves at x.item _ _ a.1
each_step (Stmt-F.For h a) = for_moves h _ _ a.1
each_step (Stmt-F.Loop l h a) = loop_moves l h _ _ a.1
each_step (Stmt-F.Task l a) = task_moves l _ _ a.1
each_step (Stmt-F.Tasks l x) = all_tasks_move l _ _ (zip_tasks x.item)

pub stmt_moves : (x : Stmt) → Moves (of_stmt x) (λ c. c) (program.stmt_of x)
stmt_moves = ind-Stmt P (λ x y h. subst (λ z. P (roll-Stmt z)) h
    (subst (λ r. Moves (of_stmt (roll-Stmt (map-Stmt Known Stmt (λ z. z.0) y))) (λ c. c) r) (sym (fold-roll-Stmt (Run made.Stmt) program.stmt_step (map-Stmt Known Stmt (λ z. z.0) y)))
    (subst (λ ws. Moves ws (λ c. c) (program.stmt_step (map-Stmt Stmt (Run made.Stmt) program.stmt_of (map-Stmt Known Stmt (λ z. z.0) y)))) (sym (fold-roll-Stmt (Context → List Spot) spots.stmt_step (map-Stmt Known Stmt (λ z. z.0) y))) (each_step y))))
