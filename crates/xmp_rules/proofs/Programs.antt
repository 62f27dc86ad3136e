-- The walk over a program notes what breaks at its spots.
use Rattle.std.proofs.Common.{◌≡◌, ◌∙◌, refl, sym, ap, subst, ◌++◌, ◌∷◌, [], ℕ, ◌+◌, List, Bool, Option, length, map, drop, slice_get, slice_set, length-append, length-set, append_assoc, append-nil}
use Rattle.std.proofs.lemmas.Grind.{flat_map-append}
use Rattle.std.specs.Prelude.{⊤}
use Rattle.std.specs.List.{AllZip, list_any}
use Rattle.xmp_num.specs.declared.types.Ty.{Ty}
use Rattle.xmp_prog.specs.declared.statements.Stmt as made
use Rattle.xmp_prog.specs.declared.statements.Stmt.TheVariants as s
use Rattle.xmp_syntax.specs.declared.parts.Name as named
use Rattle.xmp_syntax.specs.declared.parts.TypeWords.{TypeWords}
use Rattle.xmp_syntax.specs.declared.statement.Plain.TheVariants as plain
use Rattle.xmp_syntax.specs.declared.statement.BlockItem.{BlockItem}
use Rattle.xmp_syntax.specs.declared.statement.BlockItem.TheVariants as b
use Rattle.xmp_syntax.specs.declared.statement.Stmt.{Stmt, out-Stmt}
use Rattle.xmp_syntax.specs.declared.statement.Stmt.TheOpen.{Stmt-F}
use Rattle.xmp_syntax.specs.declared.program.Function.{Function}
use Rattle.xmp_syntax.specs.declared.program.TopItem.{TopItem}
use Rattle.xmp_syntax.specs.declared.program.TopItem.TheVariants as top
use Rattle.xmp_syntax.specs.declared.program.Tree.{Tree}
use Rattle.xmp_scopes.specs.Names as scope
use Rattle.xmp_scopes.specs.Names.{Name}
use Rattle.xmp_names.specs.declared.names.Region.{Region}
use Rattle.xmp_names.specs.declared.names.Region.TheVariants as region
use Rattle.xmp_names.specs.declared.names.Meaning.{Meaning}
use Rattle.xmp_names.specs.declared.names.Meaning.TheVariants as m
use Rattle.xmp_names.specs.declared.rules.Rule.TheVariants.{N7}
use Rattle.xmp_names.specs.declared.rules.Broken.{Broken}
use Rattle.xmp_names.specs.declared.world.World.{World}
use Rattle.xmp_names.specs.Rules.{deeper}
use Rattle.xmp_names.specs.Walk as walk
use Rattle.xmp_names.specs.Walk.{Gave, Run}
use Rattle.xmp_directives.specs.MappingLines as lines
use Rattle.xmp_walk.specs.Declarations as declarations
use Rattle.xmp_walk.specs.Declarations.{type_of}
use Rattle.xmp_walk.specs.Program as program
use Rattle.xmp_walk.specs.Program.{parameters_in, coarray_top, with_depth}
use Rattle.xmp_rules.specs.Scopes as scopes
use Rattle.xmp_rules.specs.Scopes.{Declared, Scalar, Part, File, InFunction, InMain, Scope, Context, inner_with, file_with, declare, opened}
use Rattle.xmp_rules.specs.Spots as spots
use Rattle.xmp_rules.specs.Spots.{What, Declares, Head, Spot, all_in, constant, of_expr, of_return, of_mapping, behind_mapping, of_declaration, behind_declaration, of_items, of_stmt, seen, behind_parameters, of_parameters, declared, inside, deepest, of_body, of_function, behind_function, last_stmt, last_seen, seen_main, of_main, of_top, behind_top, of_last, of_tops, nothing}
use Rattle.xmp_rules.proofs.Kept.{kept}
use Rattle.xmp_rules.proofs.Standing.{Stands, SameScopes, region_of, IsLast, breaks, all_found}
use Rattle.xmp_rules.proofs.Telling.{Ends, ends_then, ends_map, judged_by}
use Rattle.xmp_rules.proofs.Statements.{last_return_tells, file_declaration_moves}
use Rattle.xmp_rules.proofs.Mappings.{mapping_moves}
use Rattle.xmp_rules.proofs.Blocks.{Matches, behind_items, items_move, inner_items, stmt_moves}
use Rattle.xmp_rules.proofs.Moving.{Came, came_then, Moves, moves_then, pure, quiet, declared_stands, declares_found, scalar_declared, closed_stands, IsOpen, Inner, inner_declared, inner_refl, inner_then}

-- ---- the bodies of functions

parameters_move : (done : List ℕ) (xs : List (TypeWords × named.Name)) → Moves (λ c. of_parameters c xs) (behind_parameters xs) (walk.each_after program.parameter_of done xs)
parameters_move done [] = (pure done).moves
parameters_move done (x ∷ xs) =
    moves_then (λ c. all_in c (Declares x.1 ∷ [])) (λ c. of_parameters c xs) (declare x.1.text (Scalar (type_of x.0))) (behind_parameters xs) (program.parameter_of x) (λ y. walk.each_after program.parameter_of (done ++ y ∷ []) xs)
    (scalar_declared x.1 (type_of x.0)) (λ y. parameters_move (done ++ y ∷ []) xs)

inner_parameters : (xs : List (TypeWords × named.Name)) (c : Context) → IsOpen c.inner → Inner c (behind_parameters xs c)
inner_parameters [] c h = inner_refl c h
inner_parameters (x ∷ xs) c h = inner_then (inner_declared x.1.text (Scalar (type_of x.0)) c h) (λ k. inner_parameters xs (declare x.1.text (Scalar (type_of x.0)) c) k)

items_match : (xs : List (BlockItem Stmt)) → AllZip Matches (map program.inside_item xs) (map seen xs)
items_match [] = tt
items_match (b.Mapping x ∷ xs) = (refl, items_match xs)
items_match (b.Declaration d ∷ xs) = (refl, items_match xs)
items_match (b.Stmt x ∷ xs) = (stmt_moves x, items_match xs)

last_moves : (x : Stmt) (o : Stmt-F Stmt) → Moves (last_stmt x o) (λ c. c) (program.last_in x o)
last_moves x (Stmt-F.Plain (plain.Return at value end)) = quiet (λ c. of_return value) (program.last_in x (Stmt-F.Plain (plain.Return at value end))) (last_return_tells at value)
last_moves x (Stmt-F.Plain (plain.Empty at)) = stmt_moves x
last_moves x (Stmt-F.Plain (plain.Simple y at)) = stmt_moves x
last_moves x _ = stmt_moves x

main_match : (xs : List (BlockItem Stmt)) → AllZip Matches (program.main_items xs) (seen_main xs)
main_match [] = tt
main_match (b.Mapping x ∷ []) = (refl, tt)
main_match (b.Declaration d ∷ []) = (refl, tt)
main_match (b.Stmt x ∷ []) = (last_moves x (out-Stmt x), tt)
main_match (b.Mapping x ∷ y ∷ ys) = (refl, main_match (y ∷ ys))
main_match (b.Declaration d ∷ y ∷ ys) = (refl, main_match (y ∷ ys))
main_match (b.Stmt x ∷ y ∷ ys) = (stmt_moves x, main_match (y ∷ ys))

-- ---- the head of a function and its end

head_at : (r : Region) (part : Part) (f : Function) (w : World) (c : Context) → Stands w.names c → r ≡ region_of part → IsLast part (c.functions + 1) →
    Ends (λ (k : ℕ) v. Came w v (inside part f c) (all_found (all_in c (Declares f.name ∷ [])))) (program.head_of r f w)
head_at r part f w c st h l =
    let d : Stands (record w.names { scopes = scope.declare f.name.text (m.Function (length w.names.functions) (type_of f.ty)) w.names.scopes }) (declare f.name.text (scopes.Function c.functions (length (parameters_in f.parameters.item)) (type_of f.ty) 0) c) =
    declared_stands w.names c f.name.text (m.Function (length w.names.functions) (type_of f.ty)) (scopes.Function c.functions (length (parameters_in f.parameters.item)) (type_of f.ty) 0) st.count st in
    record {
      stands = record {
        coarray = st.coarray;
        region = h;
        names = (tt, d.names);
        count = length-append w.names.functions (record { parameters = length (parameters_in f.parameters.item); depth = 0 } ∷ []) ∙ ap (λ n. n + 1) st.count;
        last = l;
      };
      broken = declares_found w c f.name st;
    }

-- A function's call depth is nothing that names tell.
other_depth : (n : Name) (j k : ℕ) (ty : Ty) (depth other : ℕ) (ms : List (List (Name × Meaning))) (l : List Scope) (file : Scope) →
    SameScopes ms (inner_with n (scopes.Function j k ty depth) l ++ file_with n (scopes.Function j k ty depth) l file ∷ []) → SameScopes ms (inner_with n (scopes.Function j k ty other) l ++ file_with n (scopes.Function j k ty other) l file ∷ [])
other_depth n j k ty depth other [] [] file h = absurd h
other_depth n j k ty depth other ([] ∷ ms) [] file h = absurd h.0
other_depth n j k ty depth other (((x, m.Function i tz) ∷ ds) ∷ ms) [] file h = h
other_depth n j k ty depth other (((x, m.Scalar _ _) ∷ ds) ∷ ms) [] file h = absurd h.0.1.0
other_depth n j k ty depth other (((x, m.Array _) ∷ ds) ∷ ms) [] file h = absurd h.0.1.0
other_depth n j k ty depth other (((x, m.Nodes _) ∷ ds) ∷ ms) [] file h = absurd h.0.1.0
other_depth n j k ty depth other (((x, m.Template _) ∷ ds) ∷ ms) [] file h = absurd h.0.1.0
other_depth n j k ty depth other [] (s ∷ ss) file h = absurd h
other_depth n j k ty depth other ([] ∷ ms) (s ∷ ss) file h = absurd h.0
other_depth n j k ty depth other (((x, m.Function i tz) ∷ ds) ∷ ms) (s ∷ ss) file h = h
other_depth n j k ty depth other (((x, m.Scalar _ _) ∷ ds) ∷ ms) (s ∷ ss) file h = absurd h.0.1.0
other_depth n j k ty depth other (((x, m.Array _) ∷ ds) ∷ ms) (s ∷ ss) file h = absurd h.0.1.0
other_depth n j k ty depth other (((x, m.Nodes _) ∷ ds) ∷ ms) (s ∷ ss) file h = absurd h.0.1.0
other_depth n j k ty depth other (((x, m.Template _) ∷ ds) ∷ ms) (s ∷ ss) file h = absurd h.0.1.0

-- The parameters of a function, what stands in its body, and what comes behind.
abbrev of_inside : Function → List (BlockItem (Context → List Spot)) → Context → List Spot
of_inside f ys c = of_parameters c (parameters_in f.parameters.item) ++ of_items (behind_parameters (parameters_in f.parameters.item) c) ys

abbrev behind_inside : Function → List (BlockItem (Context → List Spot)) → Context → Context
behind_inside f ys c = behind_items ys (behind_parameters (parameters_in f.parameters.item) c)

body_ends : {B : Type 0} (f : Function) (run : Run (List made.Stmt)) (ys : List (BlockItem (Context → List Spot))) (Q : B → World → Type 0) (q : List ℕ → List made.Stmt → Run B) (v : World) (c : Context) →
    Moves (λ c. of_items c ys) (behind_items ys) run → Stands v.names c → ((slots : List ℕ) (body : List made.Stmt) (u : World) → Came v u (behind_inside f ys c) (all_found (of_inside f ys c)) → Ends Q (q slots body u)) →
    Ends Q (walk.◌>>=◌ (walk.each program.parameter_of (parameters_in f.parameters.item)) (λ slots. walk.◌>>=◌ run (λ body. q slots body)) v)
body_ends {B} f run ys Q q v c h st k =
    let i : Context = behind_parameters (parameters_in f.parameters.item) c in
    ends_then (λ (slots : List ℕ) u. Came v u i (all_found (of_parameters c (parameters_in f.parameters.item)))) Q (walk.each program.parameter_of (parameters_in f.parameters.item) v) (λ slots. walk.◌>>=◌ run (λ body. q slots body))
    ((parameters_move [] (parameters_in f.parameters.item)).at v c st)
    (λ slots u e. ends_then (λ (body : List made.Stmt) t. Came u t (behind_items ys i) (all_found (of_items i ys))) Q (run u) (λ body. q slots body) (h.at u i e.stands)
    (λ body t g. k slots body t (came_then v u t i (behind_items ys i) (of_parameters c (parameters_in f.parameters.item)) (of_items i ys) e g)))

inner_body : (f : Function) (ys : List (BlockItem (Context → List Spot))) (c : Context) → IsOpen c.inner → Inner c (behind_inside f ys c)
inner_body f ys c h = inner_then (inner_parameters (parameters_in f.parameters.item) c h) (λ k. inner_items ys (behind_parameters (parameters_in f.parameters.item) c) k)

-- Behind the end of a function.
left_stands : (u : World) (k depth : ℕ) (f : Function) (part : Part) (c d : Context) → Inner (inside part f c) d → Stands u.names d →
    Stands (record u.names { scopes = drop 1 u.names.scopes; region = region.File; functions = slice_set u.names.functions k (with_depth (deeper u.deepest) (slice_get u.names.functions k)) }) (record (declared f depth c) { part = File })
left_stands u k depth f part c d h st =
    let e : Stands (record u.names { scopes = drop 1 u.names.scopes }) (record (declared f 0 c) { part = part }) = subst (Stands (record u.names { scopes = drop 1 u.names.scopes })) h.same (closed_stands u.names d h.open_now st) in
    record {
      coarray = e.coarray;
      region = refl;
      names = other_depth f.name.text c.functions (length (parameters_in f.parameters.item)) (type_of f.ty) 0 depth (drop 1 u.names.scopes) c.inner c.file e.names;
      count = length-set u.names.functions k (with_depth (deeper u.deepest) (slice_get u.names.functions k)) ∙ e.count;
      last = tt;
    }

-- What comes behind a function's body.
abbrev tail_of : ℕ → Function → List ℕ → List made.Stmt → Run ⊤
tail_of k f slots body = walk.◌>>=◌ walk.close_scope (λ _. walk.◌>>=◌ (program.leave k) (λ _. program.keep_function (record { result = type_of f.ty; parameters = slots; body = s.Block body })))

function_moves : (f : Function) → Moves (λ c. of_function c f) (behind_function f) (program.function_of f)
function_moves f = record {
  at = λ w c st.
      let i : Context = inside (InFunction c.functions) f c in
      let ys : List (BlockItem (Context → List Spot)) = map seen f.body.item in
      ends_then (λ (k : ℕ) v. Came w v i (all_found (all_in c (Declares f.name ∷ [])))) (λ (a : ⊤) v. Came w v (behind_function f c) (all_found (of_function c f))) (program.head_of region.Function f w)
      (λ k. walk.◌>>=◌ (walk.each program.parameter_of (parameters_in f.parameters.item)) (λ slots. walk.◌>>=◌ (program.items_of [] (map program.inside_item f.body.item)) (λ body. tail_of k f slots body)))
      (head_at region.Function (InFunction c.functions) f w c st refl refl)
      (λ k v e. body_ends f (program.items_of [] (map program.inside_item f.body.item)) ys (λ (a : ⊤) v. Came w v (behind_function f c) (all_found (of_function c f))) (tail_of k f) v i
      (items_move [] (map program.inside_item f.body.item) ys (items_match f.body.item)) e.stands
      (λ slots body u g. record {
        stands = left_stands u k (deepest (of_body i f) + 1) f (InFunction c.functions) c (behind_inside f ys i) (inner_body f ys i tt) g.stands;
        broken = (came_then w v u i (behind_inside f ys i) (all_in c (Declares f.name ∷ [])) (of_body i f) e g).broken;
      }));
}

-- ---- main and the program

-- What a run notes, whatever comes behind it.
pub record Notes_all {A : Type 0} (ws : Context → List Spot) (run : Run A) : Type 0 where
  pub at : (w : World) (c : Context) → Stands w.names c → Ends (λ a v. kept v.broken ≡ kept w.broken ++ all_found (ws c)) (run w)

all_noted : {A B : Type 0} (ws : Context → List Spot) (next : Context → Context) (run : Run A) (q : A → B) → Moves ws next run → Notes_all ws (walk.◌>>=◌ run (λ a. walk.pure (q a)))
all_noted {A} {B} ws next run q h = record {
  at = λ w c st. ends_then (λ (a : A) v. Came w v (next c) (all_found (ws c))) (λ (b : B) v. kept v.broken ≡ kept w.broken ++ all_found (ws c)) (run w) (λ a. walk.pure (q a)) (h.at w c st) (λ a v e. e.broken);
}

abbrev main_tail : ℕ → List ℕ → List made.Stmt → Run made.Stmt
main_tail k slots body = walk.◌>>=◌ walk.close_scope (λ _. walk.◌>>=◌ (program.leave k) (λ _. walk.pure (s.Block body)))

-- The head of main is judged.
main_judged : (f : Function) → Moves (λ c. all_in c (Head f ∷ [])) (λ c. c) (walk.judge (program.is_main_head f) N7 f.name.at)
main_judged f = quiet (λ c. Head f ∷ []) (walk.judge (program.is_main_head f) N7 f.name.at) (judged_by (Head f) (λ w. program.is_main_head f) N7 f.name.at refl (λ w c st. refl))

main_noted : (f : Function) → Notes_all (λ c. of_main c f) (program.main_of f)
main_noted f = record {
  at = λ w c st.
      let i : Context = inside InMain f c in
      let ys : List (BlockItem (Context → List Spot)) = seen_main f.body.item in
      let Q : made.Stmt → World → Type 0 = λ a v. kept v.broken ≡ kept w.broken ++ all_found (of_main c f) in
      ends_then (λ (k : ℕ) v. Came w v i (all_found (all_in c (Declares f.name ∷ [])))) Q (program.head_of region.Main f w)
      (λ k. walk.◌>>=◌ (walk.judge (program.is_main_head f) N7 f.name.at) (λ _. walk.◌>>=◌ (walk.each program.parameter_of (parameters_in f.parameters.item)) (λ slots. walk.◌>>=◌ (program.items_of [] (program.main_items f.body.item)) (λ body. main_tail k slots body))))
      (head_at region.Main InMain f w c st refl tt)
      (λ k v e. ends_then (λ (a : ⊤) u. Came v u i (all_found (all_in i (Head f ∷ [])))) Q (walk.judge (program.is_main_head f) N7 f.name.at v) (λ _. walk.◌>>=◌ (walk.each program.parameter_of (parameters_in f.parameters.item)) (λ slots. walk.◌>>=◌ (program.items_of [] (program.main_items f.body.item)) (λ body. main_tail k slots body)))
      ((main_judged f).at v i e.stands)
      (λ a u g. body_ends f (program.items_of [] (program.main_items f.body.item)) ys Q (main_tail k) u i (items_move [] (program.main_items f.body.item) ys (main_match f.body.item)) g.stands
      (λ slots body t d. (came_then w v t i (behind_inside f ys i) (all_in c (Declares f.name ∷ [])) (all_in i (Head f ∷ []) ++ of_inside f ys i) e (came_then v u t i (behind_inside f ys i) (all_in i (Head f ∷ [])) (of_inside f ys i) g d)).broken)));
}

top_moves : (x : TopItem) → Moves (λ c. of_top c x) (behind_top x) (program.top_of x)
top_moves (top.Mapping x) = mapping_moves x
top_moves (top.Declaration d) = file_declaration_moves d
top_moves (top.Function f) = function_moves f

last_noted : (x : TopItem) → Notes_all (λ c. of_last c x) (program.last_top x)
last_noted (top.Mapping x) = all_noted (λ c. all_in c (of_mapping x)) (behind_mapping x) (lines.mapping_of x) (λ _. s.Block []) (mapping_moves x)
last_noted (top.Declaration d) = all_noted (λ c. of_declaration constant c d) (behind_declaration d) (declarations.file_declaration d) (λ _. s.Block []) (file_declaration_moves d)
last_noted (top.Function f) = main_noted f

tops_noted : (xs : List TopItem) → Notes_all (λ c. of_tops c xs) (program.tops_of xs)
tops_noted [] = record { at = λ w c st. sym (append-nil (kept w.broken)) }
tops_noted (x ∷ []) = last_noted x
tops_noted (x ∷ y ∷ ys) = record {
  at = λ w c st.
      ends_then (λ (a : ⊤) v. Came w v (behind_top x c) (all_found (of_top c x))) (λ (a : made.Stmt) v. kept v.broken ≡ kept w.broken ++ all_found (of_top c x ++ of_tops (behind_top x c) (y ∷ ys))) (program.top_of x w) (λ _. program.tops_of (y ∷ ys))
      ((top_moves x).at w c st)
      (λ a v e. ends_map (λ (a : made.Stmt) u. kept u.broken ≡ kept v.broken ++ all_found (of_tops (behind_top x c) (y ∷ ys))) (λ (a : made.Stmt) u. kept u.broken ≡ kept w.broken ++ all_found (of_top c x ++ of_tops (behind_top x c) (y ∷ ys))) (program.tops_of (y ∷ ys) v)
      ((tops_noted (y ∷ ys)).at v (behind_top x c) e.stands)
      (λ b u g. g ∙ (ap (λ l. l ++ all_found (of_tops (behind_top x c) (y ∷ ys))) e.broken ∙ (append_assoc (kept w.broken) (all_found (of_top c x)) (all_found (of_tops (behind_top x c) (y ∷ ys)))
      ∙ ap (λ l. kept w.broken ++ l) (sym (flat_map-append (λ x. breaks x.in x.what) (of_top c x) (of_tops (behind_top x c) (y ∷ ys))))))));
}

pub start_stands : (given : Option ℕ) (coarray : Bool) → Stands (program.start_world given coarray).names (nothing coarray)
start_stands given coarray = record { coarray = refl; region = refl; names = (tt, tt); count = refl; last = tt }

counted_noted : (given : Option ℕ) (bs : List Broken) (t : walk.Step made.Stmt) → Ends (λ a v. kept v.broken ≡ bs) t → Ends (λ a v. kept v.broken ≡ bs) (program.with_count given t)
counted_noted given bs (Gave a v) h = h

-- The rules that are looked at and that the walk notes are those that break at the spots, in their order.
pub walk_found : (t : Tree) (given : Option ℕ) → Ends (λ a v. kept v.broken ≡ all_found (spots.spots t)) (program.program_of t given)
walk_found t given = counted_noted given (all_found (spots.spots t)) (program.tops_of t.parts (program.start_world given (list_any coarray_top t.parts)))
    ((tops_noted t.parts).at (program.start_world given (list_any coarray_top t.parts)) (nothing (list_any coarray_top t.parts)) (start_stands given (list_any coarray_top t.parts)))
