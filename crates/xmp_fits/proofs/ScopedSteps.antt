-- The scalars of all statements, by the induction over the statements of a tree.
use Rattle.std.proofs.Common.{◌≡◌, ◌∙◌, sym, ap, refl, subst, ◌++◌, ◌∷◌, [], ℕ, ℤ, ◌+◌, ◌≤◌, Bool, true, List, Option, Some, None, length, length-append, map, arith}
use Rattle.std.specs.Prelude.{⊤, pos, ◌||◌, not, is_some, slice_get}
use Rattle.std.specs.List.{flat_map, AllByRecursion}
use Rattle.std.specs.Option.{unwrap_or}
use Rattle.std.proofs.lemmas.List.{append-nil}
use Rattle.xmp_base.specs.declared.place.Place.{Place}
use Rattle.xmp_num.specs.declared.types.RedOp.{RedOp}
use Rattle.xmp_num.specs.declared.types.Ty.{Ty}
use Rattle.xmp_num.specs.declared.types.Ty.TheVariants.{Int, Long}
use Rattle.xmp_map.specs.declared.grid.NodeSet.{NodeSet}
use Rattle.xmp_prog.specs.declared.statements.Reduction as made_reduction
use Rattle.xmp_prog.specs.declared.statements.LoopDirective.{LoopDirective}
use Rattle.xmp_prog.specs.declared.statements.Stmt as made
use Rattle.xmp_prog.specs.declared.statements.Stmt.TheVariants as s
use Rattle.xmp_prog.specs.declared.statements.Plain.TheVariants as plain
use Rattle.xmp_prog.specs.declared.parts.ProgParts.{ProgParts}
use Rattle.xmp_prog.specs.Terms.{slots_of_terms}
use Rattle.xmp_prog.specs.Statements.{terms_of_head, slots_of_point, indices_of}
use Rattle.xmp_prog.specs.Scopes.{declared_in}
use Rattle.xmp_syntax.specs.declared.parts.Name as named
use Rattle.xmp_syntax.specs.declared.parts.Placed.{Placed}
use Rattle.xmp_lex.specs.declared.token.Mark.{Mark}
use Rattle.xmp_syntax.specs.declared.declaration.Declarator.{Declarator}
use Rattle.xmp_syntax.specs.declared.declaration.Declarator.TheVariants as declarator
use Rattle.xmp_syntax.specs.declared.directive.LoopLine.{LoopLine}
use Rattle.xmp_syntax.specs.declared.directive.Point.{Point}
use Rattle.xmp_syntax.specs.declared.directive.Point.TheVariants as point
use Rattle.xmp_syntax.specs.declared.directive.Reduction.{Reduction}
use Rattle.xmp_syntax.specs.declared.expression.Expr.{Expr}
use Rattle.xmp_syntax.specs.declared.statement.ForFirst.{ForFirst}
use Rattle.xmp_syntax.specs.declared.statement.ForFirst.TheVariants as for_first
use Rattle.xmp_syntax.specs.declared.statement.Simple.{Simple}
use Rattle.xmp_scopes.specs.Names as scope
use Rattle.xmp_names.specs.declared.names.Environment.{Environment}
use Rattle.xmp_names.specs.declared.names.Meaning.{Meaning}
use Rattle.xmp_names.specs.declared.names.Meaning.TheVariants as meaning
use Rattle.xmp_walk.specs.declared.loops.First.{First}
use Rattle.xmp_walk.specs.declared.loops.ForParts.{ForParts}
use Rattle.xmp_directives.specs.declared.loop_lines.LoopParts.{LoopParts}
use Rattle.xmp_names.specs.declared.rules.Rule.TheVariants.{N2, N3, M7}
use Rattle.xmp_names.specs.declared.typed.Typed.{Typed}
use Rattle.xmp_names.specs.declared.world.World.{World}
use Rattle.xmp_names.specs.Rules.{unless, greater}
use Rattle.xmp_names.specs.Expressions.{expr_of, reference_of}
use Rattle.xmp_names.specs.Walk as walk
use Rattle.xmp_names.specs.Walk.{Step, Gave, Run, and_then, an_int_scalar, a_template}
use Rattle.xmp_names.specs.declared.mappings.Notation.{Notation}
use Rattle.xmp_names.specs.Lists.{listed, inner, notation, parts}
use Rattle.xmp_walk.specs.Declarations.{local_declarator, declare_array}
use Rattle.xmp_walk.specs.Statements.{simple_of, return_of, first_of, first_part, index_of}
use Rattle.xmp_directives.specs.Directives.{signed, scalar_name, task_line, offset_of, index_name, point_of, made_points, slot_of_point, slots_of_points, names_or, name_list, operation_of, reduction_name, reductions_of, lowers_of, match_template, template_takes, Nest, nest_of, loop_right, is_indexed, use_template, made_loop, loop_line, judged_loop}
use Rattle.xmp_names.specs.Sizes.{limited}
use Rattle.xmp_directives.specs.MappingLines.{mapping_of}
use Rattle.xmp_walk.specs.Program.{plain_of}
use Rattle.xmp_parts.proofs.Unbroken.{left_none, right_none}
use Rattle.xmp_fits.proofs.GoodWorlds.{Own}
use Rattle.xmp_fits.proofs.KeptRuns.{Goes, goes_trans, going, going_arrays}
use Rattle.xmp_fits.proofs.Respected.{ends_then, ends_map, ends_both}
use Rattle.xmp_fits.proofs.RespectedLines.{array_kept}
use Rattle.xmp_fits.proofs.RespectedMappings.{mapping_kept}
use Rattle.xmp_fits.proofs.SameRuns.{Same, same_refl, same, same_arrays}
use Rattle.xmp_fits.proofs.Holding.{Unbroken, Holds, IfThere}
use Rattle.xmp_fits.proofs.FitPrinciple.{Facts, Forms}
use Rattle.xmp_fits.proofs.TermsFit.{Seen}
use Rattle.xmp_fits.proofs.StepsFit.{IsPlace, reference_place}
use Rattle.xmp_fits.proofs.ScopedForms as forms_of
use Rattle.xmp_fits.proofs.ScopedForms.{Rising, rising_from, rising_to, declared_loop, May, may_both}
use Rattle.xmp_fits.proofs.ScopedFits.{lawful_within, longer, same_names, Fits, ItemsFit, Sees, FlatFits, TasksFit, allow_all, allows_same, flat_fits, nothing_flat, none_fit, items_same, items_more, items_declared, block_fits, if_fits, while_fits, no_task_fits, one_task_fits, tasks_fit}
use Rattle.xmp_fits.proofs.ScopedFors.{FirstFits, declared_of, HeadFits, for_fits, nest_fits}
use Rattle.xmp_fits.proofs.SlotsSeen.{expr_sees, reference_sees}
use Rattle.xmp_fits.proofs.Looking.{Found, Looks, looks_then, looks_map, looks_pure, looks_next, looks_end, looks_each, looks_there, looks_judge, looks_judged, looks_directive, looks_typed, looks_constant, Means, looks_name}
use Rattle.xmp_fits.proofs.FlatStatements.{set_flat, simple_looks, return_looks, scalar_name_looks, task_line_looks, plain_looks}

one_longer : (xs : List Ty) (x : Ty) → length (xs ++ x ∷ []) ≡ length xs + 1
one_longer xs x = length-append xs (x ∷ [])

module _ (p : ProgParts) where
  -- ---- what is made where the names stay as they are

  flat_ends : (w : World) (run : Run made.Stmt) → Looks w.names (FlatFits p w.names) run → Unbroken (Fits p w) (run w)
  flat_ends w run h = ends_map (λ y v. Found w.names (FlatFits p w.names) w v y) (λ y v. v.broken ≡ [] → Fits p w v y) (run w) (h.at w refl)
      (λ y v f n. let l : length v.scalars ≡ length w.scalars = ap length f.scalars in flat_fits p w v y (same_names w v f.names) (omega (arith, l)) (f.holds n).1)

  -- ---- the head of a `for`

  record RestFits (env : Environment) (first : Option First) (parts : ForParts) : Type 0 where
    pub first_is : parts.first ≡ first
    pub test : IfThere (λ t. Sees p env t.made) parts.test
    pub next : IfThere (FlatFits p env) parts.next

  abbrev rest : Option Expr → Option Simple → Option First → Run ForParts
  rest test next first = walk.◌>>=◌ (walk.if_there walk.typed test) (λ t. walk.◌>>=◌ (walk.if_there simple_of next) (λ n. walk.pure (record { first = first; test = t; next = n })))

  rest_looks : (env : Environment) (test : Option Expr) (next : Option Simple) (first : Option First) → Looks env (RestFits env first) (rest test next first)
  rest_looks env test next first = looks_then env (IfThere (λ t. Sees p env t.made)) (RestFits env first) (walk.if_there walk.typed test) _ (looks_there env (λ t. Sees p env t.made) walk.typed (looks_typed env p) test) (λ t.
      looks_end env (IfThere (FlatFits p env)) (λ parts. IfThere (λ t. Sees p env t.made) t → RestFits env first parts) (walk.if_there simple_of next) (λ n. record { first = first; test = t; next = n })
      (looks_there env (FlatFits p env) simple_of (simple_looks env p) next) (λ n h k. record { first_is = refl; test = k; next = h }))

  -- the world behind the first part, in which the rest is read
  rest_ends : (w m : World) (test : Option Expr) (next : Option Simple) (first : Option First) → (m.broken ≡ [] → ItemsFit p w m (declared_of p first) × IfThere (FirstFits p m.names) first) →
      Unbroken (HeadFits p w) (rest test next first m)
  rest_ends w m test next first h = ends_map (λ parts v. Found m.names (RestFits m.names first) m v parts) (λ parts v. v.broken ≡ [] → HeadFits p w v parts) (rest test next first m) ((rest_looks m.names test next first).at m refl) (λ parts v f n.
      let g = f.holds n in
      let d = h g.0 in
      let r = g.1 in
      let back : m.names ≡ v.names = sym f.names in
      let l : length v.scalars ≡ length m.scalars = ap length f.scalars in record {
        declared = subst (λ o. ItemsFit p w v (declared_of p o)) (sym r.first_is) (items_same p w m v (declared_of p first) (same_names m v f.names) (omega (arith, l)) d.0);
        first = subst (λ o. IfThere (FirstFits p v.names) o) (sym r.first_is) (subst (λ e. IfThere (FirstFits p e) first) back d.1);
        test = subst (λ e. IfThere (λ t. Sees p e t.made) parts.test) back r.test;
        next = subst (λ e. IfThere (FlatFits p e) parts.next) back r.next;
      })

  -- what is known of a first part where its target and its value are read
  first_fits : (m : World) (t v : Typed) (x : Expr) (declared : List made.Stmt) → Sees p m.names t.operand.made → IsPlace t.operand.made → Sees p m.names v.operand.made →
      FirstFits p m.names (first_part declared x t.operand v.operand)
  first_fits m t v x declared f i g = record { target = f; value = g; set = set_flat m.names p None (walk.first_place x) t.operand v.operand f i g }

  heads_end : (o : Option ForFirst) (test : Option Expr) (next : Option Simple) (w : World) → Unbroken (HeadFits p w) (and_then (walk.if_there first_of o w) (rest test next))
  heads_end None test next w = rest_ends w w test next None (λ n. (none_fit p w, tt))
  heads_end (Some (for_first.Assign r at x)) test next w =
      let t : Typed = reference_of w.names r in
      let v : Typed = expr_of w.names x in
      let m : World = record w { deepest = greater (greater w.deepest t.notes.deepest) v.notes.deepest; broken = (w.broken ++ t.notes.broken) ++ v.notes.broken } in
      rest_ends w m test next (Some (first_part [] x t.operand v.operand)) (λ n.
      let before : w.broken ++ t.notes.broken ≡ [] = left_none (w.broken ++ t.notes.broken) v.notes.broken n in
      let h : t.notes.broken ≡ [] = right_none w.broken t.notes.broken before in (
        items_same p w w m [] (same_names w m refl) (omega arith) (none_fit p w),
        first_fits m t v x [] (reference_sees w.names p r h) (reference_place w.names r h) (expr_sees w.names p x (right_none (w.broken ++ t.notes.broken) v.notes.broken n)),
      ))
  heads_end (Some (for_first.Declare at k equals x)) test next w =
      let d : World = record w {
        names = record w.names { scopes = scope.declare k.text (meaning.Scalar (length w.scalars) Int) w.names.scopes };
        scalars = w.scalars ++ Int ∷ [];
        broken = w.broken ++ unless (not (scope.is_declared_here k.text w.names.scopes || walk.is_reserved k.text)) N2 k.at;
      } in
      let t : Typed = reference_of d.names (index_of k) in
      let v : Typed = expr_of d.names x in
      let m : World = record d { deepest = greater (greater d.deepest t.notes.deepest) v.notes.deepest; broken = (d.broken ++ t.notes.broken) ++ v.notes.broken } in
      let one : made.Stmt = s.Plain (plain.Declare (length w.scalars) None k.at) in
      rest_ends w m test next (Some (first_part (one ∷ []) x t.operand v.operand)) (λ n.
      let before : d.broken ++ t.notes.broken ≡ [] = left_none (d.broken ++ t.notes.broken) v.notes.broken n in
      let h : t.notes.broken ≡ [] = right_none d.broken t.notes.broken before in (
        items_declared p w w m [] k.text Int None k.at (none_fit p w) (one_longer w.scalars Int) refl refl tt,
        first_fits m t v x (one ∷ []) (reference_sees d.names p (index_of k) h) (reference_place d.names (index_of k) h) (expr_sees d.names p x (right_none (d.broken ++ t.notes.broken) v.notes.broken n)),
      ))

  -- ---- the line of a loop directive

  module _ (env : Environment) where
    abbrev All : List ℕ → Type 0
    All ns = AllByRecursion (Seen env) ns

    -- The scalars of its points and of its reductions are seen.
    pub record LineSees (parts : LoopParts) : Type 0 where
      pub points : All (slots_of_points parts.points)
      pub reductions : All (map (λ r. r.variable.number) parts.reductions)

    is_index_seen : (n : named.Name) (x : Meaning) (o : Option ℕ) → an_int_scalar x ≡ o → is_some o ≡ true → Means env n (Some x) → Seen env (unwrap_or o 0)
    is_index_seen n (meaning.Scalar slot Int) o i j k = subst (λ o. Seen env (unwrap_or o 0)) i (record { name = n; ty = Int; means = k.0; may = k.1 })
    is_index_seen n (meaning.Scalar slot Long) o i j k = absurd (cc (ap is_some i ∙ j))
    is_index_seen n (meaning.Array a) o i j k = absurd (cc (ap is_some i ∙ j))
    is_index_seen n (meaning.Nodes a) o i j k = absurd (cc (ap is_some i ∙ j))
    is_index_seen n (meaning.Template a) o i j k = absurd (cc (ap is_some i ∙ j))
    is_index_seen n (meaning.Function a r) o i j k = absurd (cc (ap is_some i ∙ j))

    index_looks : (n : named.Name) → Looks env (Seen env) (index_name n)
    index_looks n = looks_end env _ (Seen env) (walk.name_of an_int_scalar n) (λ o. unwrap_or o 0) (looks_name env an_int_scalar n) (λ o h. is_index_seen n h.0 o h.1 h.2 h.3)

    offset_looks : (x : Option (Placed Mark × Expr)) → Looks env (λ (c : ℤ). ⊤) (offset_of x)
    offset_looks None = looks_pure env (λ _. ⊤) (pos 0) tt
    offset_looks (Some x) = looks_end env (λ _. ⊤) (λ _. ⊤) (walk.constant x.1) (λ c. signed x.0.what (limited c)) (looks_constant env p x.1) (λ c h. tt)

    abbrev PointSees : Option (ℕ × ℤ) → Type 0
    PointSees x = All (slot_of_point x)

    point_looks : (x : Point) → Looks env PointSees (point_of x)
    point_looks (point.Star at) = looks_pure env PointSees None tt
    point_looks (point.Index n offset) = looks_then env (Seen env) PointSees (index_name n) _ (index_looks n) (λ slot.
        looks_end env (λ _. ⊤) (λ o. Seen env slot → PointSees o) (offset_of offset) (λ c. Some (slot, c)) (offset_looks offset) (λ c h k. (k, tt)))

    template_looks : (t : Option ℕ) (written : Notation) (count : ℕ) (at : Place) → Looks env (λ _. ⊤) (match_template t written count at)
    template_looks None written count at = looks_pure env (λ _. ⊤) tt tt
    template_looks (Some k) written count at = looks_judged env (λ w. template_takes written count (slice_get w.mappings.templates k)) N3 at

    lowers_look : (t : Option ℕ) → Looks env (λ (lowers : List ℤ). ⊤) (lowers_of t)
    lowers_look None = looks_pure env (λ _. ⊤) [] tt
    lowers_look (Some k) = record { at = λ w e. record { names = e; scalars = refl; holds = λ n. (n, tt) } }

    abbrev VariableSees : made_reduction.Reduction → Type 0
    VariableSees r = Seen env r.variable.number

    reduction_looks : (op : RedOp) (n : named.Name) → Looks env VariableSees (reduction_name op n)
    reduction_looks op n = looks_end env (λ x. Seen env x.number) VariableSees (scalar_name n) (λ x. record { op = op; variable = x }) (scalar_name_looks env p n) (λ x h. h)

    all_both : {A : Type 0} (P : A → Type 0) (xs ys : List A) → AllByRecursion P xs → AllByRecursion P ys → AllByRecursion P (xs ++ ys)
    all_both P [] ys h k = k
    all_both P (x ∷ xs) ys h k = (h.0, all_both P xs ys h.1 k)

    reductions_looks : (done : List made_reduction.Reduction) (rs : List Reduction) → Looks env (λ xs. AllByRecursion VariableSees done → AllByRecursion VariableSees xs) (reductions_of done rs)
    reductions_looks done [] = looks_pure env (λ xs. AllByRecursion VariableSees done → AllByRecursion VariableSees xs) done (λ h. h)
    reductions_looks done (r ∷ rs) = looks_then env (AllByRecursion VariableSees) (λ xs. AllByRecursion VariableSees done → AllByRecursion VariableSees xs) (walk.each (reduction_name (operation_of r.list.item.0)) (listed r.list.item.2)) _
        (looks_each env VariableSees (reduction_name (operation_of r.list.item.0)) (reduction_looks (operation_of r.list.item.0)) (listed r.list.item.2)) (λ more.
        looks_map env (λ xs. AllByRecursion VariableSees (done ++ more) → AllByRecursion VariableSees xs) (λ xs. AllByRecursion VariableSees more → AllByRecursion VariableSees done → AllByRecursion VariableSees xs) (reductions_of (done ++ more) rs)
        (reductions_looks (done ++ more) rs) (λ xs i k h. i (all_both VariableSees done more h k)))

    all_points : (xs : List (Option (ℕ × ℤ))) → AllByRecursion PointSees xs → All (slots_of_points xs)
    all_points [] h = tt
    all_points (x ∷ xs) h = all_both (Seen env) (slot_of_point x) (slots_of_points xs) h.0 (all_points xs h.1)

    all_variables : (xs : List made_reduction.Reduction) → AllByRecursion VariableSees xs → All (map (λ r. r.variable.number) xs)
    all_variables [] h = tt
    all_variables (x ∷ xs) h = (h.0, all_variables xs h.1)

    line_looks : (l : LoopLine) → Looks env LineSees (loop_line l)
    line_looks l = looks_next env (λ _. ⊤) LineSees (walk.directive_at l.line.word) _ (looks_directive env l.line.word) (λ _.
        looks_next env _ LineSees (walk.if_there name_list l.names) _ (looks_there env (AllByRecursion (Seen env)) name_list (λ x. looks_each env (Seen env) index_name index_looks (listed x.item)) l.names) (λ names.
        looks_next env _ LineSees (walk.name_of a_template l.template) _ (looks_name env a_template l.template) (λ template.
        looks_then env (AllByRecursion PointSees) LineSees (walk.each point_of (parts l.points)) _ (looks_each env PointSees point_of point_looks (parts l.points)) (λ points.
        looks_next env (λ _. ⊤) (λ y. AllByRecursion PointSees points → LineSees y) (match_template template (notation l.points) (length points) l.template.at) _ (template_looks template (notation l.points) (length points) l.template.at) (λ _.
        looks_next env (λ _. ⊤) (λ y. AllByRecursion PointSees points → LineSees y) (lowers_of template) _ (lowers_look template) (λ lowers.
        looks_end env (λ xs. AllByRecursion VariableSees [] → AllByRecursion VariableSees xs) (λ y. AllByRecursion PointSees points → LineSees y) (reductions_of [] l.reductions)
        (λ reductions. record { template = template; lowers = lowers; points = points; names = names_or names (slots_of_points points); reductions = reductions })
        (reductions_looks [] l.reductions) (λ reductions h k. record { points = all_points points k; reductions = all_variables reductions (h tt) })))))))

    use_looks : (t : Option ℕ) (at : Place) (indexed : List Bool) → Looks env (λ _. ⊤) (use_template t at indexed)
    use_looks None at indexed = looks_pure env (λ _. ⊤) tt tt
    use_looks (Some k) at indexed = record { at = λ w e. record { names = e; scalars = refl; holds = λ n. (n, tt) } }

    judged_looks : (word : Place) (parts : LoopParts) (nest : Nest) → Looks env (λ y. y ≡ made_loop parts nest word) (judged_loop word parts nest)
    judged_looks word parts nest = looks_next env _ (λ y. y ≡ made_loop parts nest word) (walk.judge (loop_right parts.names parts.points nest.0) M7 word) _
        (looks_judge env (loop_right parts.names parts.points nest.0) M7 word) (λ _.
        looks_end env (λ _. ⊤) (λ y. y ≡ made_loop parts nest word) (use_template parts.template word (map is_indexed parts.points)) (λ _. made_loop parts nest word)
        (use_looks parts.template word (map is_indexed parts.points)) (λ _ h. refl))

  -- ---- the loop directive

  slots_made : (lowers : List ℤ) (k : ℕ) (xs : List (Option (ℕ × ℤ))) → flat_map slots_of_point (made_points lowers k xs) ≡ slots_of_points xs
  slots_made lowers k [] = refl
  slots_made lowers k (None ∷ xs) = slots_made lowers (k + 1) xs
  slots_made lowers k (Some x ∷ xs) = ap (λ l. x.0 ∷ l) (slots_made lowers (k + 1) xs)

  directive_fits : (w v u t : World) (parts : LoopParts) (n : ℕ) (x : made.Stmt) (at : Place) → Same w v → length w.scalars ≤ length v.scalars → LineSees w.names parts → Fits p v u x → Same u t → length u.scalars ≤ length t.scalars →
      Fits p w t (made_loop parts (nest_of n x) at)
  directive_fits w v u t parts n x at i l see f j m =
      let nest : Nest = nest_of n x in
      let d : LoopDirective = record { template = unwrap_or parts.template 0; points = made_points parts.lowers 0 parts.points; nest = nest.0; reductions = parts.reductions; at = at } in
      let g = nest_fits p n x in
      let a : ℕ = length w.scalars in
      let b : ℕ = length v.scalars in
      let c : ℕ = length u.scalars in
      let e : ℕ = length t.scalars in record {
        same = record { seen = λ slot q. i.seen slot (f.same.seen slot (j.seen slot q)) };
        declares = subst (Rising a e) (g.declares ∙ sym (declared_loop d nest.1)) (rising_to a c e (declared_in x) (rising_from a b c (declared_in x) l f.declares) m);
        right = λ may known law h.
            let r = g.right may known (f.right may known (lawful_within a b c e may l m law) (allows_same p may known w v i h)) in
            let points : List ℕ = flat_map slots_of_point d.points in
            let variables : List ℕ = map (λ r. r.variable.number) parts.reductions in
            forms_of.loop_right p may d nest.1 known
            (may_both p may known (points ++ (indices_of nest.0 ++ variables)) (slots_of_terms (flat_map (terms_of_head p) nest.0))
            (may_both p may known points (indices_of nest.0 ++ variables) (subst (May p may known) (sym (slots_made parts.lowers 0 parts.points)) (allow_all p may known w.names (slots_of_points parts.points) h see.points))
            (may_both p may known (indices_of nest.0) variables r.0 (allow_all p may known w.names variables h see.reductions))) r.1) r.2;
      }

  loop_ends : (w v u : World) (word : Place) (parts : LoopParts) (x : made.Stmt) → Same w v → length w.scalars ≤ length v.scalars → LineSees w.names parts → Fits p v u x →
      Unbroken (Fits p w) (judged_loop word parts (nest_of (length parts.names) x) u)
  loop_ends w v u word parts x i l see f =
      ends_map (λ y t. Found u.names (λ y. y ≡ made_loop parts (nest_of (length parts.names) x) word) u t y) (λ y t. t.broken ≡ [] → Fits p w t y)
      (judged_loop word parts (nest_of (length parts.names) x) u) ((judged_looks u.names word parts (nest_of (length parts.names) x)).at u refl)
      (λ y t g n.
      let m : length t.scalars ≡ length u.scalars = ap length g.scalars in
      subst (λ z. Fits p w t z) (sym (g.holds n).1) (directive_fits w v u t parts (length parts.names) x word i l see f (same_names u t g.names) (omega (arith, m))))

  -- ---- declarators

  array_ends : (ty : Ty) (n : named.Name) (extents : List Expr) (coarray : Bool) (w v : World) (done : List made.Stmt) → ItemsFit p w v done →
      Unbroken (λ u more. ItemsFit p w u (done ++ more)) (and_then (declare_array ty n extents coarray v) (λ _. walk.pure []))
  array_ends ty n extents coarray w v done f =
      ends_then (λ _ u. Goes v u × Same v u) (λ more u. u.broken ≡ [] → ItemsFit p w u (done ++ more)) (declare_array ty n extents coarray v) (λ _. walk.pure [])
      (ends_both (λ _ u. Goes v u) (λ _ u. Same v u) (declare_array ty n extents coarray v) ((array_kept going going_arrays ty n extents coarray).at v) ((array_kept same same_arrays ty n extents coarray).at v))
      (λ _ u g e. subst (ItemsFit p w u) (sym (append-nil done)) (items_same p w v u done g.1 (longer g.0) f))

  declarator_ends : (ty : Ty) (d : Declarator) (w v : World) (done : List made.Stmt) → ItemsFit p w v done → Unbroken (λ u more. ItemsFit p w u (done ++ more)) (local_declarator ty d v)
  declarator_ends ty (declarator.Scalar n None) w v done f = λ e. items_declared p w v _ done n.text ty None n.at f (one_longer v.scalars ty) refl refl tt
  declarator_ends ty (declarator.Scalar n (Some x)) w v done f =
      let d : World = record v {
        names = record v.names { scopes = scope.declare n.text (meaning.Scalar (length v.scalars) ty) v.names.scopes };
        scalars = v.scalars ++ ty ∷ [];
        broken = v.broken ++ unless (not (scope.is_declared_here n.text v.names.scopes || walk.is_reserved n.text)) N2 n.at;
      } in
      let t : Typed = expr_of d.names x.1 in
      λ e. items_declared p w v (record d { deepest = greater d.deepest t.notes.deepest; broken = d.broken ++ t.notes.broken }) done n.text ty (Some t.operand.made) n.at f (one_longer v.scalars ty) refl refl (expr_sees d.names p x.1 (right_none d.broken t.notes.broken e))
  declarator_ends ty (declarator.Array n extents image) w v done f = array_ends ty n (inner extents) (is_some image) w v done f

  -- ---- all statements

  abbrev pub facts : Facts
  facts = record {
    Fit = λ w v x. Fits p w v x;
    Items = λ w v xs. ItemsFit p w v xs;
    Reads = λ w v x. (v.names ≡ w.names) × Sees p w.names x.made;
    Heads = λ h w v parts. HeadFits p w v parts;
    Lines = λ w v parts. (v.names ≡ w.names) × LineSees w.names parts;
    Sets = λ before w v nodes. Same w v;
    Sharing = λ w v sets ts. TasksFit p w v ts;
  }

  pub forms : (own : Own) → Forms own facts
  forms own = record {
    plain = λ x n. record { at = λ w g. flat_ends w (plain_of x) (plain_looks w.names p x) };
    test = λ x n. record {
      at = λ w g. ends_map (λ t v. Found w.names (λ t. Sees p w.names t.made) w v t) (λ t v. v.broken ≡ [] → (v.names ≡ w.names) × Sees p w.names t.made) (walk.typed x w) ((looks_typed w.names p x).at w refl)
          (λ t v f e. (f.names, (f.holds e).1));
    };
    no_else = λ w g. flat_fits p w w (s.Block []) (same_refl w) (omega arith) (nothing_flat p w.names);
    if_of = λ w v u t x a c g gv gu gt r f h. if_fits p w v u t x.made a c (same_names w v r.0) (longer gv) r.1 f h;
    while_of = λ w v u x a at g gv gu r f. while_fits p w v u x.made a at (same_names w v r.0) (longer gv) r.1 f;
    head = λ h n. record { at = λ w g. heads_end h.first h.test h.next w };
    for_of = λ h w v u parts x g gv gu i f. for_fits p h w v u parts x (goes_trans gv gu) i f;
    line = λ l n. record {
      at = λ w g. ends_map (λ y v. Found w.names (LineSees w.names) w v y) (λ y v. v.broken ≡ [] → (v.names ≡ w.names) × LineSees w.names y) (loop_line l w) ((line_looks w.names l).at w refl)
          (λ y v f e. (f.names, (f.holds e).1));
    };
    loop = λ l w v u parts x g gv gu i f. loop_ends w v u l.line.word parts x (same_names w v i.0) (longer gv) i.1 f;
    none = none_fit p;
    mapping = λ x n w v done gv g f. ends_map (λ (a : ⊤) u. Goes v u × Same v u) (λ (a : ⊤) u. u.broken ≡ [] → ItemsFit p w u done) (mapping_of x v)
        (ends_both (λ (a : ⊤) u. Goes v u) (λ (a : ⊤) u. Same v u) (mapping_of x v) ((mapping_kept going x).at v) ((mapping_kept same x).at v)) (λ a u h e. items_same p w v u done h.1 (longer h.0) f);
    declarator = λ ty d n w v done gv g f. declarator_ends ty d w v done f;
    statement = λ w v u done x gv gu f h. items_more p w v u done x f h;
    block = λ w v all g gv f. block_fits p w v all gv f;
    set = λ before l n. record { at = λ w g. ends_map (λ x v. Found w.names (λ (n : NodeSet). ⊤) w v x) (λ x v. v.broken ≡ [] → Same w v) (task_line before l w) ((task_line_looks w.names p before l).at w refl) (λ x v f e. same_names w v f.names) };
    no_task = no_task_fits p;
    one_task = λ w v u t before done nodes x at gv gu gt f i h. one_task_fits p w v u t done nodes x at f i (longer gu) h;
    tasks = λ w v u before done at none g e gv gu f. tasks_fit p w v u done at (same_names w v e) (longer gv) f;
  }

  -- main's last statement
  pub last_return : (own : Own) (at : Place) (x : Expr) → Holds own facts.Fit (return_of true at x)
  last_return own at x = record { at = λ w g. flat_ends w (return_of true at x) (return_looks w.names p true at x) }
