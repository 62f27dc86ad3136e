-- The steps of sets of nodes, of `bcast` and of tasks: where no rule breaks, what they make fits.
use Rattle.std.proofs.Common.{◌≡◌, ◌<◌, ◌∙◌, sym, ap, refl, subst, ◌++◌, ◌∷◌, [], ◌&&◌, ◌||◌, ℕ, ℤ, Bool, true, false, not, List, Option, length}
use Rattle.std.specs.Prelude.{⊤, slice_get}
use Rattle.std.specs.List.{list_all, AllByRecursion}
use Rattle.xmp_base.specs.declared.place.Place.{Place}
use Rattle.xmp_map.specs.declared.grid.NodeSet.{NodeSet}
use Rattle.xmp_prog.specs.declared.parts.ProgParts.{ProgParts}
use Rattle.xmp_prog.specs.declared.statements.Plain.TheVariants as plain
use Rattle.xmp_prog.specs.declared.statements.Stmt as made
use Rattle.xmp_prog.specs.declared.statements.Stmt.TheVariants as s
use Rattle.xmp_prog.specs.declared.statements.Task.{Task, fold-roll-Task}
use Rattle.xmp_prog.specs.NodeSets.{is_node_set, is_one_node, sets_apart}
use Rattle.xmp_prog.specs.Numbers.{pairwise}
use Rattle.xmp_prog.specs.Statements.{Walked, WalkedTask, statements_of, walk_step, walk_task, writes_of}
use Rattle.xmp_syntax.specs.declared.directive.DirectiveLine.{DirectiveLine}
use Rattle.xmp_syntax.specs.declared.directive.Piece.{Piece}
use Rattle.xmp_syntax.specs.declared.directive.NodesSet.{NodesSet}
use Rattle.xmp_syntax.specs.declared.directive.TaskLine.{TaskLine}
use Rattle.xmp_syntax.specs.declared.parts.CommaList.{CommaList}
use Rattle.xmp_syntax.specs.declared.parts.Name as named
use Rattle.xmp_names.specs.declared.rules.Rule.TheVariants.{M8, M9}
use Rattle.xmp_names.specs.declared.world.World.{World}
use Rattle.xmp_names.specs.Rules.{unless}
use Rattle.xmp_names.specs.declared.mappings.Notation.{Notation}
use Rattle.xmp_names.specs.Lists.{listed, notation, parts}
use Rattle.xmp_directives.specs.Directives.{bcast_of, box_of, is_one, lone_task, made_task, match_nodes, nodes_sizes, piece_of, ranges, ranges_right, scalar_name, set_of, share, sizes_in, task_line, tasks_in, tasks_of}
use Rattle.xmp_names.specs.Sizes.{given_or_one}
use Rattle.xmp_mapping_rules.specs.MappingRules.{nodes_of}
use Rattle.xmp_names.specs.Walk.{Gave, Run, a_nodes, each, name_of}
use Rattle.xmp_fits.proofs.DirectivesPass.{DirectiveFits, Makes, StmtFits, StmtMade, TaskFits, plain_fits, sets_of, tasks_fit, walked_task}
use Rattle.xmp_fits.proofs.Endings.{Ending, Named, Number, before_judged, directed, earlier, ends_at, ends_in, found_at, goes_directed, judged_true, later_at, no_broken, nodes_number, opened, same_value, sizes_at_end}
use Rattle.xmp_fits.proofs.GoodSteps.{begins_length}
use Rattle.xmp_fits.proofs.GoodWorlds.{Good, Own}
use Rattle.xmp_fits.proofs.KeptRuns.{Goes, Kept, going}
use Rattle.xmp_fits.proofs.Respected.{Ends}
use Rattle.xmp_fits.proofs.RespectedSteps as kept_steps
use Rattle.xmp_fits.proofs.RespectedDirectives as kept_directives
use Rattle.xmp_fits.proofs.RespectedLines as kept_lines
use Rattle.xmp_fits.proofs.Respected as kept
use Rattle.xmp_fits.proofs.KeptStatements as kept_statements
use Rattle.xmp_parts.proofs.Rows.{right_nodes}
use Rattle.xmp_fits.proofs.SetsPass.{apart_more, one_node, set_inside}
use Rattle.xmp_parts.proofs.Unbroken.{both_true, left_true, right_true}

-- ---- a set of nodes

-- A set fits: it lies inside the grid, and is one node where one is asked for.
pub record SetFits (p : ProgParts) (one : Bool) (nodes : NodeSet) : Type 0 where
  pub inside : is_node_set p.grid nodes ≡ true
  pub single : one ≡ true → is_one_node p.grid nodes ≡ true

abbrev SetMade : Bool → NodeSet → World → Type 0
SetMade one nodes v = (p : ProgParts) → Ending v p → SetFits p one nodes

box_fits : (p : ProgParts) (w : World) (one : Bool) (parts : List (Option (ℤ × ℤ))) (sizes : List ℤ) (e : Ending w p) → sizes ≡ nodes_of e.last →
    (ranges_right sizes (ranges sizes parts) && (not one || is_one (ranges sizes parts))) ≡ true → SetFits p one (box_of sizes (ranges sizes parts))
box_fits p w one parts sizes e same h =
    let nodes : List ℤ = nodes_of e.last in
    let t : (ranges_right nodes (ranges nodes parts) && (not one || is_one (ranges nodes parts))) ≡ true =
    subst (λ ns. (ranges_right ns (ranges ns parts) && (not one || is_one (ranges ns parts))) ≡ true) same h in
    let right : ranges_right nodes (ranges nodes parts) ≡ true = left_true (ranges_right nodes (ranges nodes parts)) (not one || is_one (ranges nodes parts)) t in
    let n = right_nodes e.last e.rules e.count in
    subst (λ ns. SetFits p one (box_of ns (ranges ns parts))) (sym same) (record {
      inside = set_inside nodes parts p.grid n e.made.grid right;
      single = λ o. one_node nodes parts p.grid n e.made.grid right (asked one (is_one (ranges nodes parts)) o (right_true (ranges_right nodes (ranges nodes parts)) (not one || is_one (ranges nodes parts)) t));
    })
  where
    asked : (a b : Bool) → a ≡ true → (not a || b) ≡ true → b ≡ true
    asked true b o h = h
    asked false b o h = cc

pieces_kept : (written : Notation) (xs : List Piece) → Kept (each (piece_of written) xs)
pieces_kept written xs = (kept.each going (λ x. record { run = piece_of written x; kept = kept_directives.piece_kept going written x }) xs).kept

pub set_made : (own : Own) (w : World) (one : Bool) (word : Place) (x : NodesSet) → Good own w → Ends (SetMade one) (set_of one word x w)
set_made own w one word x g =
    opened (name_of a_nodes x.name w) _ (SetMade one) (λ number v e.
    opened (each (piece_of written) all v) _ (SetMade one) (λ pieces v2 e2.
    opened (match_nodes number written (length pieces) x.name.at v2) _ (SetMade one) (λ y v3 e3.
    opened (nodes_sizes number v3) _ (SetMade one) (λ sizes v4 e4. λ p end.
    at number pieces y sizes v v2 v3 v4 e e2 e3 e4 p end))))
  where
    written : Notation
    written = notation x.pieces

    all : List Piece
    all = parts x.pieces

    at : (number : Option ℕ) (pieces : List (Option (ℤ × ℤ))) (y : ⊤) (sizes : List ℤ) (v v2 v3 v4 : World) → name_of a_nodes x.name w ≡ Gave number v → each (piece_of written) all v ≡ Gave pieces v2 →
        match_nodes number written (length pieces) x.name.at v2 ≡ Gave y v3 → nodes_sizes number v3 ≡ Gave sizes v4 →
        (p : ProgParts) → Ending (record v4 { broken = v4.broken ++ unless (ranges_right sizes (ranges sizes pieces) && (not one || is_one (ranges sizes pieces))) M8 word }) p →
        SetFits p one (box_of sizes (ranges sizes pieces))
    at number pieces y sizes v v2 v3 v4 e e2 e3 e4 p end =
        let test : Bool = ranges_right sizes (ranges sizes pieces) && (not one || is_one (ranges sizes pieces)) in
        let right : test ≡ true = judged_true v4.broken test M8 word (no_broken _ p end) in
        let end4 : Ending v4 p = before_judged v4 (unless test M8 word) p end in
        let end3 : Ending v3 p = earlier v3 v4 p (later_at (nodes_sizes number) v3 sizes v4 (kept_directives.sizes_kept going number) e4).onward.later end4 in
        let l3 = later_at (match_nodes number written (length pieces) x.name.at) v2 y v3 (kept_lines.nodes_matched going number written (length pieces) x.name.at) e3 in
        let end2 : Ending v2 p = earlier v2 v3 p l3.onward.later end3 in
        let l2 = later_at (each (piece_of written) all) v pieces v2 (pieces_kept written all) e2 in
        let end1 : Ending v p = earlier v v2 p l2.onward.later end2 in
        let found : Named a_nodes x.name w number = found_at a_nodes x.name w v number p e end1 in
        let k : Number (length w.mappings.nodes) number = nodes_number own x.name w number g found in
        let later = later_at (name_of a_nodes x.name) w number v (kept_steps.name_of going a_nodes x.name).kept e in
        let there1 : k.number < length v.mappings.nodes = begins_length w.mappings.nodes v.mappings.nodes k.number later.onward.later.mappings.nodes k.below in
        let there2 : k.number < length v2.mappings.nodes = begins_length v.mappings.nodes v2.mappings.nodes k.number l2.onward.later.mappings.nodes there1 in
        let there : k.number < length v3.mappings.nodes = begins_length v2.mappings.nodes v3.mappings.nodes k.number l3.onward.later.mappings.nodes there2 in
        let read : Gave (sizes_in (given_or_one v3) (slice_get v3.mappings.nodes k.number)) v3 ≡ Gave sizes v4 = ap (λ o. nodes_sizes o v3) (sym k.is) ∙ e4 in
        box_fits p v3 one pieces sizes end3 (sym (same_value read) ∙ sizes_at_end v3 p k.number end3 there) right

pub set_kept : (one : Bool) (word : Place) (x : NodesSet) → Kept (set_of one word x)
set_kept one word x = (kept_directives.set_of going one word x).kept

-- ---- bcast

pub bcast_made : (own : Own) (w : World) (line : DirectiveLine) (names : CommaList named.Name) (x : NodesSet) → Good own w → Ends StmtMade (bcast_of line names x w)
bcast_made own w line names x g =
    let u : World = directed line.word w in
    let noted : Goes w u = goes_directed line.word w in
    opened (each scalar_name (listed names) u) _ StmtMade (λ variables v e.
    opened (set_of true line.word x v) _ StmtMade (λ nodes v2 e2. λ p end.
    let named = later_at (each scalar_name (listed names)) u variables v (kept.each going (kept_directives.scalar_name going) (listed names)).kept e in
    let set : SetFits p true nodes = ends_at (SetMade true) (set_of true line.word x v) nodes v2 (set_made own v true line.word x (named.good own (noted.good own g))) e2 p end in
    plain_fits p (plain.Cast variables nodes line.word) refl refl refl (set.single refl)))

-- ---- tasks

-- The set of a task behind others.
pub record TaskSet (p : ProgParts) (before : List NodeSet) (nodes : NodeSet) : Type 0 where
  pub inside : is_node_set p.grid nodes ≡ true
  pub no_share : list_all (λ other. not (share other nodes)) before ≡ true

abbrev pub TaskSetMade : List NodeSet → NodeSet → World → Type 0
TaskSetMade before nodes v = (p : ProgParts) → Ending v p → TaskSet p before nodes

pub line_made : (own : Own) (w : World) (before : List NodeSet) (line : TaskLine) → Good own w → Ends (TaskSetMade before) (task_line before line w)
line_made own w before line g =
    let u : World = directed line.line.word w in
    let noted : Goes w u = goes_directed line.line.word w in
    opened (set_of false line.line.word line.set u) _ (TaskSetMade before) (λ nodes v e. λ p end.
    let test : Bool = list_all (λ other. not (share other nodes)) before in
    let set : SetFits p false nodes = ends_at (SetMade false) (set_of false line.line.word line.set u) nodes v (set_made own u false line.line.word line.set (noted.good own g)) e p (before_judged v (unless test M9 line.line.word) p end) in
    record { inside = set.inside; no_share = judged_true v.broken test M9 line.line.word (no_broken _ p end) })

-- The tasks that are made so far.
pub record TasksFit (p : ProgParts) (before : List NodeSet) (done : List Task) : Type 0 where
  pub sets : sets_of done ≡ before
  pub inside : list_all (is_node_set p.grid) before ≡ true
  pub no_share : pairwise (sets_apart p.grid) before ≡ true
  pub bodies : AllByRecursion (TaskFits p) done

walked_made : (nodes : NodeSet) (b : made.Stmt) (at : Place) → walked_task (made_task nodes b at) ≡ record { nodes = nodes; writes = writes_of b; statements = statements_of b }
walked_made nodes b at = fold-roll-Task Walked WalkedTask walk_step walk_task (record { nodes = nodes; body = b; at = at })

sets_more : (done : List Task) (t : Task) → sets_of (done ++ t ∷ []) ≡ sets_of done ++ (walked_task t).nodes ∷ []
sets_more [] t = refl
sets_more (x ∷ xs) t = ap (λ l. (walked_task x).nodes ∷ l) (sets_more xs t)

pub all_more : {A : Type 0} (P : A → Type 0) (xs : List A) (x : A) → AllByRecursion P xs → P x → AllByRecursion P (xs ++ x ∷ [])
all_more P [] x h k = (k, tt)
all_more P (y ∷ ys) x h k = (h.0, all_more P ys x h.1 k)

one_inside : (test : NodeSet → Bool) (xs : List NodeSet) (x : NodeSet) → list_all test xs ≡ true → test x ≡ true → list_all test (xs ++ x ∷ []) ≡ true
one_inside test [] x h k = both_true (test x) true k refl
one_inside test (y ∷ ys) x h k = both_true (test y) _ (left_true (test y) _ h) (one_inside test ys x (right_true (test y) _ h) k)

pub tasks_more : (p : ProgParts) (before : List NodeSet) (done : List Task) (nodes : NodeSet) (b : made.Stmt) (at : Place) → TasksFit p before done → TaskSet p before nodes → StmtFits p b →
    TasksFit p (before ++ nodes ∷ []) (done ++ made_task nodes b at ∷ [])
tasks_more p before done nodes b at f t h = record {
  sets = sets_more done (made_task nodes b at) ∙ (ap (λ l. l ++ (walked_task (made_task nodes b at)).nodes ∷ []) f.sets ∙ ap (λ (x : WalkedTask). before ++ x.nodes ∷ []) (walked_made nodes b at));
  inside = one_inside (is_node_set p.grid) before nodes f.inside t.inside;
  no_share = apart_more p.grid before nodes f.no_share t.no_share;
  bodies = all_more (TaskFits p) done (made_task nodes b at) f.bodies (subst (λ (x : WalkedTask). AllByRecursion (DirectiveFits p) x.statements) (sym (walked_made nodes b at)) h);
}

-- Tasks that fit make a statement that does.
pub tasks_all : (p : ProgParts) (before : List NodeSet) (ts : List Task) (at : Place) → TasksFit p before ts → StmtFits p (s.Tasks ts at)
tasks_all p before ts at f = tasks_fit p ts at (ap (list_all (is_node_set p.grid)) f.sets ∙ f.inside) (ap (pairwise (sets_apart p.grid)) f.sets ∙ f.no_share) f.bodies

pub no_tasks : (p : ProgParts) → TasksFit p [] []
no_tasks p = record { sets = refl; inside = refl; no_share = refl; bodies = tt }

pub lone_made : (own : Own) (w : World) (line : TaskLine) (body : Run made.Stmt) → Good own w → Makes body → Ends StmtMade (lone_task line body w)
lone_made own w line body g m =
    opened (task_line [] line w) _ StmtMade (λ nodes v e.
    opened (body v) _ StmtMade (λ b v2 e2. λ p end.
    let there = later_at (task_line [] line) w nodes v (kept_directives.task_line_kept going [] line) e in
    let inner = later_at body v b v2 m.goes e2 in
    let set : TaskSet p [] nodes = ends_at (TaskSetMade []) (task_line [] line w) nodes v (line_made own w [] line g) e p (earlier v v2 p inner.onward.later end) in
    let fits : StmtFits p b = ends_at StmtMade (body v) b v2 (m.fits own v (there.good own g)) e2 p end in
    tasks_all p (nodes ∷ []) (made_task nodes b line.line.word ∷ []) line.line.word (tasks_more p [] [] nodes b line.line.word (no_tasks p) set fits)))

abbrev TasksMade : List NodeSet → List Task → List Task → World → Type 0
TasksMade before done ts v = (p : ProgParts) → Ending v p → TasksFit p before done → (all : List NodeSet) × TasksFit p all ts

tasks_made : (own : Own) (w : World) (before : List NodeSet) (done : List Task) (xs : List (TaskLine × Run made.Stmt)) → Good own w → AllByRecursion (λ t. Makes t.1) xs →
    Ends (TasksMade before done) (tasks_in before done xs w)
tasks_made own w before done [] g m = λ p end f. (before, f)
tasks_made own w before done (x ∷ xs) g m =
    opened (task_line before x.0 w) _ (TasksMade before done) (λ nodes v e.
    opened (x.1 v) _ (TasksMade before done) (λ b v2 e2.
    let there = later_at (task_line before x.0) w nodes v (kept_directives.task_line_kept going before x.0) e in
    let inner = later_at x.1 v b v2 m.0.goes e2 in
    let more : List NodeSet = before ++ nodes ∷ [] in
    let so_far : List Task = done ++ made_task nodes b x.0.line.word ∷ [] in
    let rest = tasks_made own v2 more so_far xs (inner.good own (there.good own g)) m.1 in
    ends_in (TasksMade before done) (tasks_in more so_far xs v2) (λ ts v3 e3. λ p end f.
    let last = later_at (tasks_in more so_far xs) v2 ts v3 (kept_statements.tasks_in_kept more so_far xs (runs_kept xs m.1)) e3 in
    let end2 : Ending v2 p = earlier v2 v3 p last.onward.later end in
    let set : TaskSet p before nodes = ends_at (TaskSetMade before) (task_line before x.0 w) nodes v (line_made own w before x.0 g) e p (earlier v v2 p inner.onward.later end2) in
    let fits : StmtFits p b = ends_at StmtMade (x.1 v) b v2 (m.0.fits own v (there.good own g)) e2 p end2 in
    ends_at (TasksMade more so_far) (tasks_in more so_far xs v2) ts v3 rest e3 p end (tasks_more p before done nodes b x.0.line.word f set fits))))
  where
    runs_kept : (xs : List (TaskLine × Run made.Stmt)) → AllByRecursion (λ t. Makes t.1) xs → AllByRecursion (λ t. Kept t.1) xs
    runs_kept [] m = tt
    runs_kept (x ∷ xs) m = (m.0.goes, runs_kept xs m.1)

pub all_tasks_made : (own : Own) (w : World) (line : DirectiveLine) (xs : List (TaskLine × Run made.Stmt)) → Good own w → AllByRecursion (λ t. Makes t.1) xs → Ends StmtMade (tasks_of line xs w)
all_tasks_made own w line xs g m =
    let u : World = directed line.word w in
    let noted : Goes w u = goes_directed line.word w in
    opened (tasks_in [] [] xs u) _ StmtMade (λ ts v e. λ p end.
    let all = ends_at (TasksMade [] []) (tasks_in [] [] xs u) ts v (tasks_made own u [] [] xs (noted.good own g) m) e p end (no_tasks p) in
    tasks_all p all.0 ts line.word all.1)
