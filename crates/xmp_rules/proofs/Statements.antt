-- Declarations and statements note what breaks at their spots.
use Rattle.std.proofs.Common.{◌≡◌, ◌∙◌, refl, sym, ap, subst, ◌++◌, ◌∷◌, [], ℕ, List, Bool, true, false, not, ◌&&◌, ◌||◌, ◌==◌, nat_le, nat_lt, Option, Some, None, is_some, length, map, flat_map, append_assoc, append-nil}
use Rattle.std.proofs.lemmas.Grind.{flat_map-append}
use Rattle.std.specs.Prelude.{⊤}
use Rattle.std.specs.List.{list_all}
use Rattle.xmp_base.specs.declared.place.Place.{Place}
use Rattle.xmp_num.specs.declared.types.Ty.{Ty}
use Rattle.xmp_prog.specs.declared.statements.Stmt as made
use Rattle.xmp_prog.specs.declared.statements.Stmt.TheVariants as s
use Rattle.xmp_prog.specs.declared.statements.Plain.TheVariants as p
use Rattle.xmp_syntax.specs.declared.parts.Name as named
use Rattle.xmp_syntax.specs.declared.parts.Format.{Format}
use Rattle.xmp_syntax.specs.declared.parts.Next.{Next}
use Rattle.xmp_syntax.specs.declared.parts.Reference.{Reference}
use Rattle.xmp_syntax.specs.declared.expression.Expr.{Expr}
use Rattle.xmp_syntax.specs.declared.declaration.Declarator.{Declarator}
use Rattle.xmp_syntax.specs.declared.declaration.Declarator.TheVariants as declarator
use Rattle.xmp_syntax.specs.declared.declaration.Declaration.{Declaration}
use Rattle.xmp_syntax.specs.declared.statement.Simple.{Simple}
use Rattle.xmp_syntax.specs.declared.statement.Simple.TheVariants as simple
use Rattle.xmp_syntax.specs.declared.statement.Plain.{Plain}
use Rattle.xmp_syntax.specs.declared.statement.Plain.TheVariants as plain
use Rattle.xmp_scopes.specs.Names as scope
use Rattle.xmp_scopes.specs.Names.{Name}
use Rattle.xmp_names.specs.declared.names.Meaning.{Meaning}
use Rattle.xmp_names.specs.declared.names.Meaning.TheVariants as m
use Rattle.xmp_names.specs.declared.rules.Rule.TheVariants.{N1, N2, N3, N4, N5, N6, N7, N8}
use Rattle.xmp_names.specs.declared.typed.Operand.{Operand}
use Rattle.xmp_names.specs.declared.world.World.{World}
use Rattle.xmp_names.specs.Rules.{unless}
use Rattle.xmp_names.specs.declared.rules.Broken.{Broken}
use Rattle.xmp_names.specs.Expressions.{is_function, expr_of}
use Rattle.xmp_names.specs.Formats.{fits_format, is_scan_format}
use Rattle.xmp_names.specs.Lists.{listed, inner}
use Rattle.xmp_names.specs.Walk as walk
use Rattle.xmp_names.specs.Walk.{Gave, Run, first_place, is_known, is_main, is_outermost}
use Rattle.xmp_walk.specs.Declarations as declarations
use Rattle.xmp_walk.specs.Declarations.{type_of, extent_of, extent_right}
use Rattle.xmp_walk.specs.Statements as statements
use Rattle.xmp_walk.specs.Statements.{set, compound_of, one, call_statement, target_of, target_name, is_scalar_target, index_of, first_part, loop_of}
use Rattle.xmp_walk.specs.Program as program
use Rattle.xmp_rules.specs.Scopes as scopes
use Rattle.xmp_rules.specs.Scopes.{Declared, Scope, Context, inner_with, file_with, declare, opened}
use Rattle.xmp_rules.specs.Spots.{Status, What, Formed, Declares, Extents, Returned, Word, Sync, Printed, Scanned, Returns, Spot, all_in, constant, behind, of_expr, of_reference, behind_declarator, of_declarator, of_declarators, behind_declarators, of_declaration, behind_declaration, of_simple, of_return, of_plain}
use Rattle.xmp_rules.proofs.Kept.{kept, behind_all}
use Rattle.xmp_rules.proofs.Constancy.{value_in, value_is, and_true, and_moves}
use Rattle.xmp_rules.proofs.Standing.{Stands, breaks, found, all_found, found_in, part_is, main_is, in_function, in_main, or_true, is_out, out_is, extents_right}
use Rattle.xmp_rules.proofs.Telling as telling
use Rattle.xmp_rules.proofs.Telling.{Ends, ends_then, ends_map, Tells, Telling, skipped_by, unheard_by, judged_by, judged_behind, part_breaks, asked, typed, typed_reference, typed_call, typed_all, typed_constant, each, not_in_function}
use Rattle.xmp_rules.proofs.Directives.{reflect_tells, barrier_tells, bcast_tells, gmove_tells}
use Rattle.xmp_rules.proofs.Mappings.{in_append}
use Rattle.xmp_rules.proofs.Moving.{Came, came_then, Moves, moves_then, ◌>>=◌, ended, pure, known, quietly, moves_as, declared_stands, declares_found, scalar_declared}

-- ---- arrays

-- A declaration opens no scope.
same_out : (n : Name) (d : Declared) (c : Context) → is_out (declare n d c) ≡ is_out c
same_out n d c = ap (λ k. nat_lt k 2 || (in_main c.part && (k == 2))) (by c.inner)
  where
    by : (l : List Scope) → length (inner_with n d l ++ file_with n d l c.file ∷ []) ≡ length (l ++ c.file ∷ [])
    by [] = refl
    by (s ∷ ss) = refl

-- What is judged of an array behind its declaration.
array_judged : (v : World) (c : Context) (n : named.Name) (xs : List Expr) (right : Bool) → right ≡ extents_right xs → is_outermost v ≡ is_out c → is_function v.names.region ≡ in_function c.part →
    kept (((v.broken ++ unless right N8 n.at) ++ unless (is_outermost v) N8 n.at) ++ unless (not (is_function v.names.region)) N5 n.at) ≡ kept v.broken ++ breaks c (Extents n xs)
array_judged v c n xs right h o p =
    let a : List Broken = unless right N8 n.at in
    let b : List Broken = unless (is_outermost v) N8 n.at in
    let d : List Broken = unless (not (is_function v.names.region)) N5 n.at in
    behind_all ((v.broken ++ a) ++ b) (not (is_function v.names.region)) N5 n.at refl
    ∙ (ap (λ l. l ++ d) (behind_all (v.broken ++ a) (is_outermost v) N8 n.at refl ∙ ap (λ l. l ++ b) (behind_all v.broken right N8 n.at refl))
    ∙ (append_assoc (kept v.broken ++ a) b d ∙ (append_assoc (kept v.broken) a (b ++ d)
    ∙ ap (λ l. kept v.broken ++ l) (ap (λ t. unless t N8 n.at ++ (b ++ d)) h ∙ (ap (λ t. unless (extents_right xs) N8 n.at ++ (unless t N8 n.at ++ d)) o
    ∙ ap (λ t. unless (extents_right xs) N8 n.at ++ (unless (is_out c) N8 n.at ++ unless (not t) N5 n.at)) p)))))

-- An array is declared, and then judged: its extents and its place, and that it stands in no function.
array_end : (ty : Ty) (n : named.Name) (extents : List Expr) (xs : List ℕ) (right : Bool) (dimensions : ℕ) (coarray : Bool) → right ≡ extents_right extents →
    Moves (λ c. all_in c (Declares n ∷ (Extents n extents ∷ []))) (declare n.text (scopes.Array ty dimensions coarray))
    (walk.◌>>=◌ (declarations.new_array ty xs coarray n.at) (λ number. walk.◌>>=◌ (walk.declare n (m.Array number)) (λ _. walk.◌>>=◌ (walk.judge right N8 n.at) (λ _. walk.◌>>=◌ (walk.stands_outermost n.at) (λ _. walk.not_in_function n.at)))))
array_end ty n extents xs right dimensions coarray h = record {
  at = λ w c st.
      let v : World = record w { names = record w.names { scopes = scope.declare n.text (m.Array (length w.names.arrays)) w.names.scopes; arrays = w.names.arrays ++ record { ty = ty; extents = xs; coarray = coarray; at = n.at } ∷ [] }; broken = w.broken ++ unless (not (scope.is_declared_here n.text w.names.scopes || walk.is_reserved n.text)) N2 n.at } in
      let e : Came w v (declare n.text (scopes.Array ty dimensions coarray) c) (all_found (all_in c (Declares n ∷ []))) = record {
        stands = array_stands w c n (m.Array (length w.names.arrays)) ty dimensions coarray xs st;
        broken = declares_found w c n st;
      } in
      record {
        stands = e.stands;
        broken = array_judged v c n extents right h (out_is v (declare n.text (scopes.Array ty dimensions coarray) c) e.stands ∙ same_out n.text (scopes.Array ty dimensions coarray) c) (part_is w.names c st)
            ∙ (ap (λ l. l ++ breaks c (Extents n extents)) e.broken
            ∙ (append_assoc (kept w.broken) (all_found (all_in c (Declares n ∷ []))) (breaks c (Extents n extents))
            ∙ ap (λ l. kept w.broken ++ l) (ap (λ l. all_found (all_in c (Declares n ∷ [])) ++ l) (sym (append-nil (breaks c (Extents n extents)))) ∙ sym (flat_map-append (λ x. breaks x.in x.what) (all_in c (Declares n ∷ [])) (all_in c (Extents n extents ∷ []))))));
      };
}
  where
    array_stands : (w : World) (c : Context) (n : named.Name) (x : Meaning) (ty : Ty) (dimensions : ℕ) (coarray : Bool) (xs : List ℕ) → Stands w.names c →
        Stands (record w.names { scopes = scope.declare n.text (m.Array (length w.names.arrays)) w.names.scopes; arrays = w.names.arrays ++ record { ty = ty; extents = xs; coarray = coarray; at = n.at } ∷ [] }) (declare n.text (scopes.Array ty dimensions coarray) c)
    array_stands w c n x ty dimensions coarray xs st =
        let d : Stands (record w.names { scopes = scope.declare n.text (m.Array (length w.names.arrays)) w.names.scopes }) (declare n.text (scopes.Array ty dimensions coarray) c) = declared_stands w.names c n.text (m.Array (length w.names.arrays)) (scopes.Array ty dimensions coarray) tt st in
        record { coarray = d.coarray; region = d.region; names = d.names; count = d.count; last = d.last }

-- What follows the extents of an array.
abbrev array_behind : Ty → named.Name → List Expr → Bool → List Operand → Run ⊤
array_behind ty n extents coarray ts =
    walk.◌>>=◌ (declarations.new_array ty (map (λ t. extent_of t.value) ts) coarray n.at) (λ number. walk.◌>>=◌ (walk.declare n (m.Array number)) (λ _. walk.◌>>=◌ (walk.judge (list_all (λ t. extent_right t.value) ts && nat_le (length extents) 3) N8 n.at)
    (λ _. walk.◌>>=◌ (walk.stands_outermost n.at) (λ _. walk.not_in_function n.at))))

-- Extents, and that their values are right.
abbrev right_values : List Operand → Bool
right_values ts = list_all (λ t. extent_right t.value) ts

abbrev right_extents : List Expr → Bool
right_extents xs = list_all (λ x. extent_right (value_in x)) xs

all_behind : (ts : List Operand) (t : Operand) → right_values (ts ++ t ∷ []) ≡ (right_values ts && extent_right t.value)
all_behind [] t = and_true (extent_right t.value)
all_behind (s ∷ ts) t = ap (λ b. extent_right s.value && b) (all_behind ts t) ∙ sym (and_moves (extent_right s.value) (right_values ts) (extent_right t.value))

pub record Sized (w v : World) (c : Context) (xs : List Expr) (b : Bool) (ts : List Operand) : Type 0 where
  pub added : telling.Added w v (found c (flat_map constant xs))
  pub values : right_values ts ≡ (b && right_extents xs)

extents_sized : (xs : List Expr) (done : List Operand) (b : Bool) (w : World) (c : Context) → Stands w.names c → right_values done ≡ b → Ends (λ ts v. Sized w v c xs b ts) (walk.each_after walk.typed_constant done xs w)
extents_sized [] done b w c st h = record { added = telling.added_none w; values = h ∙ sym (and_true b) }
extents_sized (x ∷ xs) done b w c st h =
    ends_then (λ (t : Operand) v. telling.Valued w v c x t) (λ ts v. Sized w v c (x ∷ xs) b ts) (walk.typed_constant x w) (λ t. walk.each_after walk.typed_constant (done ++ t ∷ []) xs) (telling.constant_valued x w c st)
    (λ t v e. ends_map (λ ts u. Sized v u c xs (b && extent_right (value_in x)) ts) (λ ts u. Sized w u c (x ∷ xs) b ts) (walk.each_after walk.typed_constant (done ++ t ∷ []) xs v)
    (extents_sized xs (done ++ t ∷ []) (b && extent_right (value_in x)) v c (subst (λ n. Stands n c) (sym e.added.names) st)
    (all_behind done t ∙ (ap (λ r. r && extent_right t.value) h ∙ ap (λ y. b && extent_right y) e.value)))
    (λ ts u g. record {
      added = subst (telling.Added w u) (sym (flat_map-append (breaks c) (constant x) (flat_map constant xs))) (telling.added_then e.added g.added);
      values = g.values ∙ and_moves b (extent_right (value_in x)) (right_extents xs);
    }))

array_moves : (ty : Ty) (n : named.Name) (extents : List Expr) (dimensions : ℕ) (coarray : Bool) →
    Moves (λ c. all_in c (flat_map constant extents ++ (Declares n ∷ (Extents n extents ∷ [])))) (declare n.text (scopes.Array ty dimensions coarray)) (declarations.declare_array ty n extents coarray)
array_moves ty n extents dimensions coarray =
    moves_as (λ c. all_in c (flat_map constant extents) ++ all_in c (Declares n ∷ (Extents n extents ∷ []))) (λ c. all_in c (flat_map constant extents ++ (Declares n ∷ (Extents n extents ∷ [])))) _ _ (declarations.declare_array ty n extents coarray)
    (λ c. ap all_found (sym (in_append c (flat_map constant extents) (Declares n ∷ (Extents n extents ∷ []))))) (λ c. refl)
    (record {
      at = λ w c st.
          let d : Context = declare n.text (scopes.Array ty dimensions coarray) c in
          let xs : List Spot = all_in c (flat_map constant extents) in
          let ys : List Spot = all_in c (Declares n ∷ (Extents n extents ∷ [])) in
          ends_then (λ ts v. Sized w v c extents true ts) (λ (a : ⊤) v. Came w v d (all_found (xs ++ ys))) (walk.each walk.typed_constant extents w) (array_behind ty n extents coarray)
          (extents_sized extents [] true w c st refl)
          (λ ts v e. ends_map (λ (a : ⊤) u. Came v u d (all_found ys)) (λ (a : ⊤) u. Came w u d (all_found (xs ++ ys))) (array_behind ty n extents coarray ts v)
          ((array_end ty n extents (map (λ t. extent_of t.value) ts) (right_values ts && nat_le (length extents) 3) dimensions coarray (ap (λ b. b && nat_le (length extents) 3) e.values)).at v c (subst (λ n. Stands n c) (sym e.added.names) st))
          (λ a u g. came_then w v u c d xs ys (record { stands = subst (λ n. Stands n c) (sym e.added.names) st; broken = e.added.broken ∙ ap (λ l. kept w.broken ++ l) (sym (found_in c (flat_map constant extents))) }) g));
    })

-- ---- declarations

initialiser_tells : (x : Option (Place × Expr)) → Tells (λ c. behind of_expr x) (declarations.initialiser x)
initialiser_tells None = (telling.pure None).tells
initialiser_tells (Some x) = (telling.ended (typed x.1) (λ t. Some t.made)).tells

declarator_moves : (ty : Ty) (d : Declarator) → Moves (λ c. of_declarator of_expr ty c d) (behind_declarator ty d) (declarations.local_declarator ty d)
declarator_moves ty (declarator.Scalar n value) = (do
  slot ← known {ws = λ c. all_in c (Declares n ∷ [])} {next = declare n.text (scopes.Scalar ty)} (walk.declare_scalar n ty) (scalar_declared n ty)
  ended (quietly {ws = λ c. behind of_expr value} (declarations.initialiser value) (initialiser_tells value)) (λ first. s.Plain (p.Declare slot first n.at) ∷ [])).moves
declarator_moves ty (declarator.Array n extents image) = (ended (known {ws = λ c. all_in c (flat_map constant (inner extents) ++ (Declares n ∷ (Extents n (inner extents) ∷ [])))} {next = declare n.text (scopes.Array ty (length extents) (is_some image))} (declarations.declare_array ty n (inner extents) (is_some image)) (array_moves ty n (inner extents) (length extents) (is_some image))) (λ _. [])).moves

declarators_move : (ty : Ty) (done : List made.Stmt) (xs : List Declarator) → Moves (λ c. of_declarators of_expr ty c xs) (behind_declarators ty xs) (declarations.local_declarators ty done xs)
declarators_move ty done [] = (pure done).moves
declarators_move ty done (x ∷ xs) =
    moves_then (λ c. of_declarator of_expr ty c x) (λ c. of_declarators of_expr ty c xs) (behind_declarator ty x) (behind_declarators ty xs) (declarations.local_declarator ty x) (λ more. declarations.local_declarators ty (done ++ more) xs)
    (declarator_moves ty x) (λ more. declarators_move ty (done ++ more) xs)

pub declaration_moves : (done : List made.Stmt) (d : Declaration) → Moves (λ c. of_declaration of_expr c d) (behind_declaration d) (declarations.local_declaration done d)
declaration_moves done d = declarators_move (type_of d.ty) done (listed d.items)

start_tells : (slot : ℕ) (x : Option (Place × Expr)) → Tells (λ c. behind constant x) (declarations.start_of slot x)
start_tells slot None = (telling.pure tt).tells
start_tells slot (Some x) = record {
  at = λ w c st. ends_then (λ (t : Operand) v. telling.Added w v (found c (constant x.1))) (λ (t : ⊤) v. telling.Added w v (found c (constant x.1))) (walk.typed_constant x.1 w) (λ t. λ v. Gave tt (record v { start = v.start ++ record { slot = slot; value = t.made } ∷ [] })) ((typed_constant x.1).tells.at w c st)
      (λ t v e. record { names = e.names; broken = e.broken });
}

file_moves : (ty : Ty) (d : Declarator) → Moves (λ c. of_declarator constant ty c d) (behind_declarator ty d) (declarations.file_declarator ty d)
file_moves ty (declarator.Scalar n value) = (do
  slot ← known {ws = λ c. all_in c (Declares n ∷ [])} {next = declare n.text (scopes.Scalar ty)} (walk.declare_scalar n ty) (scalar_declared n ty)
  quietly {ws = λ c. behind constant value} (declarations.start_of slot value) (start_tells slot value)).moves
file_moves ty (declarator.Array n extents image) = array_moves ty n (inner extents) (length extents) (is_some image)

files_move : (ty : Ty) (xs : List Declarator) → Moves (λ c. of_declarators constant ty c xs) (behind_declarators ty xs) (walk.all (declarations.file_declarator ty) xs)
files_move ty [] = (pure tt).moves
files_move ty (x ∷ xs) =
    moves_then (λ c. of_declarator constant ty c x) (λ c. of_declarators constant ty c xs) (behind_declarator ty x) (behind_declarators ty xs) (declarations.file_declarator ty x) (λ _. walk.all (declarations.file_declarator ty) xs)
    (file_moves ty x) (λ _. files_move ty xs)

pub file_declaration_moves : (d : Declaration) → Moves (λ c. of_declaration constant c d) (behind_declaration d) (declarations.file_declaration d)
file_declaration_moves d = files_move (type_of d.ty) (listed d.items)

-- ---- statements with no statement inside

abbrev pub do_then : {xs ys : Context → List What} {A B : Type 0} → Telling xs A → (A → Telling ys B) → Telling (λ c. xs c ++ ys c) B
do_then p f = telling.◌>>=◌ p f

pub simple_tells : (x : Simple) → Tells (λ c. of_simple x) (statements.simple_of x)
simple_tells (simple.Assign r op x) = (do_then (typed_reference r) (λ t. telling.ended (typed x) (λ v. set (compound_of op.what) op.at t v))).tells
simple_tells (simple.Postfix r op) = (telling.ended (typed_reference r) (λ t. set (compound_of op.what) op.at t one)).tells
simple_tells (simple.Prefix op r) = (telling.ended (typed_reference r) (λ t. set (compound_of op.what) op.at t one)).tells
simple_tells (simple.Call x) = (telling.ended (typed_call x) (λ t. call_statement t.made)).tells

returned : (x : Expr) → Tells (λ c. of_return x) (statements.returned x)
returned x = record {
  at = λ w c st. record {
    names = refl;
    broken = judged_behind w c x (Returned x) (not (is_main w.names.region) || is_known (expr_of w.names x).operand.value) st
        (ap (λ v. unless (not (is_main w.names.region) || is_known v) N4 (first_place x)) (value_is w.names x) ∙ ap (λ t. unless (not t || is_known (value_in x)) N4 (first_place x)) (main_is w.names c st));
  };
}

or_false : (t : Bool) → (t || false) ≡ t
or_false true = refl
or_false false = refl

-- A `return` that isn't main's last statement.
pub return_tells : (at : Place) (x : Expr) → Tells (λ c. Returns at ∷ of_return x) (statements.return_of false at x)
return_tells at x = record {
  at = λ w c st. (do_then
      (telling.known {ws = λ c. Returns at ∷ []} (λ v. walk.judge (not (is_main v.names.region) || false) N7 at v)
      (judged_by (Returns at) (λ v. not (is_main v.names.region) || false) N7 at refl (λ v c st. ap (λ t. unless t N7 at) (or_false (not (is_main v.names.region)) ∙ ap not (main_is v.names c st)))))
      (λ _. telling.ended (telling.known {ws = λ c. of_return x} (statements.returned x) (returned x)) (λ t. s.Plain (p.Return t.made)))).tells.at w c st;
}

-- And one that is.
pub last_return_tells : (at : Place) (x : Expr) → Tells (λ c. of_return x) (statements.return_of true at x)
last_return_tells at x = record {
  at = λ w c st. (do_then
      (telling.known {ws = λ c. []} (λ v. walk.judge (not (is_main v.names.region) || true) N7 at v) (record {
        at = λ v c st. record { names = refl; broken = behind_all v.broken (not (is_main v.names.region) || true) N7 at refl ∙ ap (λ t. kept v.broken ++ unless t N7 at) (or_true (not (is_main v.names.region))) };
      }))
      (λ _. telling.ended (telling.known {ws = λ c. of_return x} (statements.returned x) (returned x)) (λ t. s.Plain (p.Return t.made)))).tells.at w c st;
}

print_tells : (at : Place) (f : Format) (es : List (Next Expr)) → Tells (λ c. Word at ∷ (flat_map (λ n. of_expr n.item) es ++ Printed f (map (λ n. n.item) es) ∷ [])) (statements.print_of at f es)
print_tells at f es = (do_then (not_in_function (Word at) at (λ c. refl)) (λ _. do_then (typed_all es) (λ ps. telling.ended
    (telling.known {ws = λ c. Printed f (map (λ n. n.item) es) ∷ []} (walk.judge (fits_format f.text ps.types) N6 f.at) (skipped_by (Printed f (map (λ n. n.item) es)) (λ w. fits_format f.text ps.types) N6 f.at refl (λ c. refl)))
    (λ _. s.Plain (p.Print f.text ps.made at))))).tells

scan_tells : (at : Place) (f : Format) (r : Reference Expr) → Tells (λ c. Word at ∷ (of_reference r ++ Scanned f r ∷ [])) (statements.scan_of at f r)
scan_tells at f r = (do_then (not_in_function (Word at) at (λ c. refl)) (λ _. do_then (typed_reference r) (λ t. telling.ended
    (telling.known {ws = λ c. Scanned f r ∷ []} (walk.judge (is_scan_format f.text t.ty) N6 f.at) (skipped_by (Scanned f r) (λ w. is_scan_format f.text t.ty) N6 f.at refl (λ c. refl)))
    (λ _. s.Plain (p.Scan (target_of t.made) at))))).tells

-- Whether a program has a coarray is asked at once and tested at once.
sync_start : (at : Place) → Tells (λ c. Sync at ∷ []) (walk.◌>>=◌ statements.has_coarray (λ known. walk.judge known N1 at))
sync_start at = judged_by (Sync at) (λ w. w.names.coarray) N1 at refl (λ w c st. ap (λ t. unless t N1 at) st.coarray)

sync_tells : (at : Place) (r : Reference Expr) → Tells (λ c. Sync at ∷ (Word at ∷ (of_reference r ++ Formed r.name Status ∷ []))) (statements.sync_of at r)
sync_tells at r = (do_then (telling.known {ws = λ c. Sync at ∷ []} (walk.◌>>=◌ statements.has_coarray (λ known. walk.judge known N1 at)) (sync_start at)) (λ _. do_then (not_in_function (Word at) at (λ c. refl)) (λ _. do_then (typed_reference r) (λ t. telling.ended
    (telling.known {ws = λ c. Formed r.name Status ∷ []} (walk.judge (is_scalar_target (target_of t.made)) N3 r.name.at) (skipped_by (Formed r.name Status) (λ w. is_scalar_target (target_of t.made)) N3 r.name.at refl (λ c. refl)))
    (λ _. s.Plain (p.Sync (target_name (target_of t.made)) at)))))).tells

pub plain_tells : (x : Plain) → Tells (λ c. of_plain c x) (program.plain_of x)
plain_tells (plain.Empty at) = (telling.pure (s.Block [])).tells
plain_tells (plain.Simple x at) = simple_tells x
plain_tells (plain.Return at x end) = return_tells at x
plain_tells (plain.Print at x end) = print_tells at x.item.0 x.item.1
plain_tells (plain.Scan at x end) = scan_tells at x.item.0 x.item.3
plain_tells (plain.Sync at x end) = sync_tells at x.item.1
plain_tells (plain.Reflect line names) = reflect_tells line names.item
plain_tells (plain.Barrier line) = barrier_tells line
plain_tells (plain.Bcast line names from_at set) = bcast_tells line names.item set
plain_tells (plain.Gmove line target equals source end) = gmove_tells line target source
