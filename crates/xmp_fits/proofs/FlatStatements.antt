-- A statement with no statement inside: where no rule breaks, all its scalars are seen where it stands, and it declares nothing.
use Rattle.std.proofs.Common.{◌≡◌, ◌∙◌, sym, ap, refl, subst, inl, inr, ◌++◌, ◌∷◌, [], ℕ, ℤ, Bool, true, false, List, Option, Some, None, length, map}
use Rattle.std.specs.Prelude.{⊤, pos, not, ◌||◌, ◌&&◌, ◌==◌, slice_get, drop, is_some}
use Rattle.std.specs.List.{flat_map, list_all, AllByRecursion}
use Rattle.std.proofs.lemmas.Grind.{flat_map-append}
use Rattle.xmp_base.specs.declared.place.Place.{Place}
use Rattle.xmp_num.specs.declared.types.Ty.{Ty}
use Rattle.xmp_num.specs.declared.types.Ty.TheVariants.{Int}
use Rattle.xmp_map.specs.declared.grid.NodeSet.{NodeSet}
use Rattle.xmp_prog.specs.declared.expressions.Expr as prog
use Rattle.xmp_prog.specs.declared.expressions.Expr.{out-Expr, out-roll-Expr}
use Rattle.xmp_prog.specs.declared.expressions.Expr.TheVariants as e
use Rattle.xmp_prog.specs.declared.expressions.Expr.TheOpen.{Expr-F}
use Rattle.xmp_prog.specs.declared.expressions.Access.{Access}
use Rattle.xmp_prog.specs.declared.statements.Name as made_name
use Rattle.xmp_prog.specs.declared.statements.Compound.{Compound}
use Rattle.xmp_prog.specs.declared.statements.Number.{Number}
use Rattle.xmp_prog.specs.declared.statements.Part.{Part}
use Rattle.xmp_prog.specs.declared.statements.Part.TheVariants as part
use Rattle.xmp_prog.specs.declared.statements.MoveSide.{MoveSide}
use Rattle.xmp_prog.specs.declared.statements.MoveSide.TheVariants as side
use Rattle.xmp_prog.specs.declared.statements.Target.{Target}
use Rattle.xmp_prog.specs.declared.statements.Target.TheVariants as target
use Rattle.xmp_prog.specs.declared.statements.Plain as made_plain
use Rattle.xmp_prog.specs.declared.statements.Plain.TheVariants as m
use Rattle.xmp_prog.specs.declared.statements.Stmt.TheVariants as s
use Rattle.xmp_prog.specs.declared.parts.ProgParts.{ProgParts}
use Rattle.xmp_prog.specs.Terms as term
use Rattle.xmp_prog.specs.Terms.{Term, terms_of, terms_of_access, terms_of_list, typed_step, access_step, slots_of_term, slots_of_terms}
use Rattle.xmp_prog.specs.Statements.{terms_of_plain, terms_of_target, terms_of_part, terms_of_side, slots_of_plain, slots_of_names, slots_of_target, slots_of_side}
use Rattle.xmp_prog.specs.Scopes.{declared_by_plain}
use Rattle.xmp_prog.specs.Directives.{sections_in}
use Rattle.xmp_prog.proofs.Rolls as rolls
use Rattle.xmp_syntax.specs.declared.parts.Name as named
use Rattle.xmp_syntax.specs.declared.parts.CommaList.{CommaList}
use Rattle.xmp_syntax.specs.declared.parts.Format.{Format}
use Rattle.xmp_syntax.specs.declared.parts.Next.{Next}
use Rattle.xmp_syntax.specs.declared.parts.Reference.{Reference}
use Rattle.xmp_syntax.specs.declared.expression.Expr.{Expr}
use Rattle.xmp_syntax.specs.declared.directive.DirectiveLine.{DirectiveLine}
use Rattle.xmp_syntax.specs.declared.directive.TaskLine.{TaskLine}
use Rattle.xmp_syntax.specs.declared.directive.Section.{Section}
use Rattle.xmp_syntax.specs.declared.directive.Section.TheVariants as section
use Rattle.xmp_syntax.specs.declared.directive.Sections.{Sections}
use Rattle.xmp_syntax.specs.declared.directive.Piece.{Piece}
use Rattle.xmp_syntax.specs.declared.directive.Piece.TheVariants as piece
use Rattle.xmp_syntax.specs.declared.directive.NodesSet.{NodesSet}
use Rattle.xmp_syntax.specs.declared.statement.Simple.{Simple}
use Rattle.xmp_syntax.specs.declared.statement.Simple.TheVariants as simple
use Rattle.xmp_syntax.specs.declared.statement.Plain.{Plain}
use Rattle.xmp_syntax.specs.declared.statement.Plain.TheVariants as plain
use Rattle.xmp_names.specs.declared.names.Meaning.{Meaning}
use Rattle.xmp_names.specs.declared.names.Meaning.TheVariants as meaning
use Rattle.xmp_names.specs.declared.names.Environment.{Environment}
use Rattle.xmp_names.specs.declared.operators.Operator.{Operator}
use Rattle.xmp_names.specs.declared.operators.Operator.TheVariants.{Arithmetic, Compare, Shift, Both, Either}
use Rattle.xmp_names.specs.declared.rules.Rule.TheVariants.{N1, N3, N4, N5, N6, N7, M8, M9}
use Rattle.xmp_names.specs.declared.typed.Operand.{Operand}
use Rattle.xmp_names.specs.Expressions.{is_function, is_nothing}
use Rattle.xmp_names.specs.Formats.{fits_format, is_scan_format}
use Rattle.xmp_names.specs.declared.mappings.Notation.{Notation}
use Rattle.xmp_names.specs.Lists.{listed, inner, notation, parts}
use Rattle.xmp_names.specs.Walk as walk
use Rattle.xmp_names.specs.Walk.{Gave, Run, a_scalar, a_nodes, an_array, first_place, is_known, is_main}
use Rattle.xmp_walk.specs.Statements.{target_in, target_of, compound_of, set, one, call_in, call_statement, is_scalar_target, target_name, simple_of, returned, return_of, print_of, scan_of, has_coarray, sync_of}
use Rattle.xmp_directives.specs.Directives.{slot_or_zero, scalar_name, array_name, match_nodes, nodes_from, nodes_take, piece_of, second_of, nodes_sizes, ranges, ranges_right, is_one, box_of, set_of, share, task_line, reflect_of, barrier_of, bcast_of, number_of, unwritten, step_of, part_with, part_of, parts_in, first_extent, no_side, side_as, side_of, sections_match, gmove_of}
use Rattle.xmp_names.specs.Sizes.{extents_in}
use Rattle.xmp_walk.specs.Program.{plain_of}
use Rattle.xmp_fits.proofs.TermsFit.{Seen}
use Rattle.xmp_fits.proofs.StepsFit.{IsPlace}
use Rattle.xmp_fits.proofs.ScopedForms.{declared_plain, May, may_both, plain_right}
use Rattle.xmp_fits.proofs.ScopedFits.{Sees, FlatFits, nothing_flat, allow_all}
use Rattle.xmp_fits.proofs.SlotsSeen.{terms_both, const_sees, operand_sees}
use Rattle.xmp_fits.proofs.Looking.{Looks, looks_then, looks_map, looks_pure, looks_next, looks_end, looks_each, looks_there, looks_judge, looks_asked, looks_judged, looks_directive, looks_typed, looks_reference, looks_call, looks_all, looks_constant, Means, looks_meaning, looks_name}

module _ (env : Environment) (p : ProgParts) where
  abbrev All : List ℕ → Type 0
  All ns = AllByRecursion (Seen env) ns

  -- ---- plain statements

  pub flat_plain : (x : made_plain.Plain) → declared_by_plain x ≡ [] → All (slots_of_plain x) → All (slots_of_terms (terms_of_plain p x)) → FlatFits p env (s.Plain x)
  flat_plain x i h k = record {
    declares = declared_plain x ∙ ap (λ l. l ++ []) i;
    right = λ may known a. plain_right p may x known
        (subst (λ d. May p may (d ++ known) (slots_of_plain x ++ slots_of_terms (terms_of_plain p x))) (sym i)
        (may_both p may known (slots_of_plain x) (slots_of_terms (terms_of_plain p x)) (allow_all p may known env (slots_of_plain x) a h) (allow_all p may known env (slots_of_terms (terms_of_plain p x)) a k)));
  }

  out_scalar : (slot : ℕ) (at : Place) → out-Expr (e.Scalar slot at) ≡ Expr-F.Scalar slot at
  out_scalar slot at = ap out-Expr (sym (e.rolls-Scalar slot at)) ∙ out-roll-Expr (Expr-F.Scalar slot at)

  out_cell : (a : Access) → out-Expr (e.Cell a) ≡ Expr-F.Cell a
  out_cell a = ap out-Expr (sym (e.rolls-Cell a)) ∙ out-roll-Expr (Expr-F.Cell a)

  out_call : (k : ℕ) (xs : List prog.Expr) (at : Place) → out-Expr (e.Call k xs at) ≡ Expr-F.Call k xs at
  out_call k xs at = ap out-Expr (sym (e.rolls-Call k xs at)) ∙ out-roll-Expr (Expr-F.Call k xs at)

  -- ---- what is written

  pub record TargetSees (x : Target) : Type 0 where
    pub terms : All (slots_of_terms (terms_of_target p x))
    pub slots : All (slots_of_target x)

  scalar_target : (slot : ℕ) (at : Place) → Sees p env (e.Scalar slot at) → TargetSees (target_of (e.Scalar slot at))
  scalar_target slot at h =
      let g = subst (λ (t : term.Typed). All (slots_of_terms t.terms)) (rolls.at_scalar term.Typed term.Typed (typed_step p) (access_step p) slot at) h in
      subst (λ x. TargetSees (target_in x)) (sym (out_scalar slot at)) (record { terms = tt; slots = g })

  cell_target : (a : Access) → Sees p env (e.Cell a) → TargetSees (target_of (e.Cell a))
  cell_target a h =
      let g = subst (λ (t : term.Typed). All (slots_of_terms t.terms)) (rolls.at_cell term.Typed term.Typed (typed_step p) (access_step p) a) h in
      subst (λ x. TargetSees (target_in x)) (sym (out_cell a)) (record { terms = g; slots = tt })

  pub target_sees : (x : prog.Expr) → Sees p env x → IsPlace x → TargetSees (target_of x)
  target_sees x f (inl (slot, at, h)) = subst (λ y. TargetSees (target_of y)) (sym h) (scalar_target slot at (subst (Sees p env) h f))
  target_sees x f (inr (a, h)) = subst (λ y. TargetSees (target_of y)) (sym h) (cell_target a (subst (Sees p env) h f))

  set_plain : (t : Target) (c : Option Compound) (v : prog.Expr) → TargetSees t → Sees p env v → FlatFits p env (s.Plain (m.Set t c v))
  set_plain t c v f g = flat_plain (m.Set t c v) refl f.slots (terms_both env p (terms_of_target p t) (terms_of p v) f.terms g)

  pub set_flat : (o : Option Operator) (at : Place) (t v : Operand) → Sees p env t.made → IsPlace t.made → Sees p env v.made → FlatFits p env (set o at t v)
  set_flat None at t v f i g = set_plain (target_of t.made) None v.made (target_sees t.made f i) g
  set_flat (Some (Arithmetic o)) at t v f i g = set_plain (target_of t.made) _ _ (target_sees t.made f i) (operand_sees env p _ v g)
  set_flat (Some (Shift o)) at t v f i g = set_plain (target_of t.made) _ v.made (target_sees t.made f i) g
  set_flat (Some (Compare o)) at t v f i g = set_plain (target_of t.made) None v.made (target_sees t.made f i) g
  set_flat (Some Both) at t v f i g = set_plain (target_of t.made) None v.made (target_sees t.made f i) g
  set_flat (Some Either) at t v f i g = set_plain (target_of t.made) None v.made (target_sees t.made f i) g

  one_sees : Sees p env one.made
  one_sees = const_sees env p (pos 1) Int

  call_made : (x : prog.Expr) (k : ℕ) (xs : List prog.Expr) (at : Place) → x ≡ e.Call k xs at → Sees p env x → FlatFits p env (s.Plain (m.Call k xs at))
  call_made x k xs at i h = flat_plain (m.Call k xs at) refl tt
      (subst (λ ts. All (slots_of_terms ts)) (again xs) (subst (λ (t : term.Typed). All (slots_of_terms t.terms)) (rolls.at_call term.Typed term.Typed (typed_step p) (access_step p) k xs at) (subst (Sees p env) i h)))
    where
      again : (xs : List prog.Expr) → flat_map (λ t. t.terms) (map (term.typed p) xs) ≡ terms_of_list p xs
      again [] = refl
      again (x ∷ xs) = ap (λ l. terms_of p x ++ l) (again xs)

  call_flat : (x : prog.Expr) → Sees p env x → FlatFits p env (call_statement x)
  call_flat x h = by (out-Expr x) refl
    where
      by : (o : Expr-F prog.Expr Access) → out-Expr x ≡ o → FlatFits p env (call_in o)
      by (Expr-F.Call k xs at) i = call_made x k xs at (sym (prog.roll-out-Expr x) ∙ (ap prog.roll-Expr i ∙ e.rolls-Call k xs at)) h
      by _ i = nothing_flat p env

  -- ---- assignments, calls, `return`, `printf`, `scanf`, `xmp_sync_all`

  pub simple_looks : (x : Simple) → Looks env (FlatFits p env) (simple_of x)
  simple_looks (simple.Assign r op x) = looks_then env _ (FlatFits p env) (walk.typed_reference r) _ (looks_reference env p r) (λ t.
      looks_end env (λ v. Sees p env v.made) (λ y. Sees p env t.made × IsPlace t.made → FlatFits p env y) (walk.typed x) (λ v. set (compound_of op.what) op.at t v) (looks_typed env p x) (λ v g f. set_flat (compound_of op.what) op.at t v f.0 f.1 g))
  simple_looks (simple.Postfix r op) = looks_end env (λ t. Sees p env t.made × IsPlace t.made) (FlatFits p env) (walk.typed_reference r) (λ t. set (compound_of op.what) op.at t one) (looks_reference env p r) (λ t f. set_flat (compound_of op.what) op.at t one f.0 f.1 one_sees)
  simple_looks (simple.Prefix op r) = looks_end env (λ t. Sees p env t.made × IsPlace t.made) (FlatFits p env) (walk.typed_reference r) (λ t. set (compound_of op.what) op.at t one) (looks_reference env p r) (λ t f. set_flat (compound_of op.what) op.at t one f.0 f.1 one_sees)
  simple_looks (simple.Call c) = looks_end env (λ t. Sees p env t.made) (FlatFits p env) (walk.typed_call c) (λ t. call_statement t.made) (looks_call env p c) (λ t h. call_flat t.made h)

  returned_looks : (x : Expr) → Looks env (λ t. Sees p env t.made) (returned x)
  returned_looks x = looks_next env (λ _. ⊤) (λ t. Sees p env t.made) walk.region_of _ (looks_asked env (λ w. w.names.region)) (λ r.
      looks_then env (λ t. Sees p env t.made) (λ t. Sees p env t.made) (walk.typed x) _ (looks_typed env p x) (λ t.
      looks_end env (λ _. (not (is_main r) || is_known t.value) ≡ true) (λ u. Sees p env t.made → Sees p env u.made) (walk.judge (not (is_main r) || is_known t.value) N4 (first_place x)) (λ _. t)
      (looks_judge env (not (is_main r) || is_known t.value) N4 (first_place x)) (λ _ i h. h)))

  pub return_looks : (is_last : Bool) (at : Place) (x : Expr) → Looks env (FlatFits p env) (return_of is_last at x)
  return_looks is_last at x = looks_next env (λ _. ⊤) (FlatFits p env) walk.region_of _ (looks_asked env (λ w. w.names.region)) (λ r.
      looks_next env (λ _. (not (is_main r) || is_last) ≡ true) (FlatFits p env) (walk.judge (not (is_main r) || is_last) N7 at) _ (looks_judge env (not (is_main r) || is_last) N7 at) (λ _.
      looks_end env (λ t. Sees p env t.made) (FlatFits p env) (returned x) (λ t. s.Plain (m.Return t.made)) (returned_looks x) (λ t h. flat_plain (m.Return t.made) refl tt h)))

  list_sees : (xs : List prog.Expr) → AllByRecursion (Sees p env) xs → All (slots_of_terms (terms_of_list p xs))
  list_sees [] h = tt
  list_sees (x ∷ xs) h = terms_both env p (terms_of p x) (terms_of_list p xs) h.0 (list_sees xs h.1)

  print_looks : (at : Place) (format : Format) (xs : List (Next Expr)) → Looks env (FlatFits p env) (print_of at format xs)
  print_looks at format xs = looks_next env (λ _. ⊤) (FlatFits p env) (walk.not_in_function at) _ (looks_judged env (λ w. not (is_function w.names.region)) N5 at) (λ _.
      looks_then env (λ q. AllByRecursion (Sees p env) q.made) (FlatFits p env) (walk.typed_all xs) _ (looks_all env p xs) (λ q.
      looks_end env (λ _. fits_format format.text q.types ≡ true) (λ y. AllByRecursion (Sees p env) q.made → FlatFits p env y) (walk.judge (fits_format format.text q.types) N6 format.at) (λ _. s.Plain (m.Print format.text q.made at))
      (looks_judge env (fits_format format.text q.types) N6 format.at) (λ _ i h. flat_plain (m.Print format.text q.made at) refl tt (list_sees q.made h))))

  scan_looks : (at : Place) (format : Format) (r : Reference Expr) → Looks env (FlatFits p env) (scan_of at format r)
  scan_looks at format r = looks_next env (λ _. ⊤) (FlatFits p env) (walk.not_in_function at) _ (looks_judged env (λ w. not (is_function w.names.region)) N5 at) (λ _.
      looks_then env (λ t. Sees p env t.made × IsPlace t.made) (FlatFits p env) (walk.typed_reference r) _ (looks_reference env p r) (λ t.
      looks_end env (λ _. is_scan_format format.text t.ty ≡ true) (λ y. Sees p env t.made × IsPlace t.made → FlatFits p env y) (walk.judge (is_scan_format format.text t.ty) N6 format.at) (λ _. s.Plain (m.Scan (target_of t.made) at))
      (looks_judge env (is_scan_format format.text t.ty) N6 format.at) (λ _ i f. let g = target_sees t.made f.0 f.1 in flat_plain (m.Scan (target_of t.made) at) refl g.slots g.terms)))

  named_slot : (x : Target) → TargetSees x → is_scalar_target x ≡ true → Seen env (target_name x).number
  named_slot (target.Scalar slot at) f h = f.slots.0
  named_slot (target.Cell a) f h = absurd (cc)

  sync_looks : (at : Place) (r : Reference Expr) → Looks env (FlatFits p env) (sync_of at r)
  sync_looks at r = looks_next env (λ _. ⊤) (FlatFits p env) has_coarray _ (looks_asked env (λ w. w.names.coarray)) (λ c.
      looks_next env (λ _. c ≡ true) (FlatFits p env) (walk.judge c N1 at) _ (looks_judge env c N1 at) (λ _.
      looks_next env (λ _. ⊤) (FlatFits p env) (walk.not_in_function at) _ (looks_judged env (λ w. not (is_function w.names.region)) N5 at) (λ _.
      looks_then env (λ t. Sees p env t.made × IsPlace t.made) (FlatFits p env) (walk.typed_reference r) _ (looks_reference env p r) (λ t.
      looks_end env (λ _. is_scalar_target (target_of t.made) ≡ true) (λ y. Sees p env t.made × IsPlace t.made → FlatFits p env y) (walk.judge (is_scalar_target (target_of t.made)) N3 r.name.at) (λ _. s.Plain (m.Sync (target_name (target_of t.made)) at))
      (looks_judge env (is_scalar_target (target_of t.made)) N3 r.name.at) (λ _ i f. flat_plain (m.Sync (target_name (target_of t.made)) at) refl (named_slot (target_of t.made) (target_sees t.made f.0 f.1) i, tt) tt)))))

  -- ---- names

  is_scalar_seen : (n : named.Name) (x : Meaning) (o : Option (ℕ × Ty)) → a_scalar x ≡ o → is_some o ≡ true → Means env n (Some x) → Seen env (slot_or_zero o)
  is_scalar_seen n (meaning.Scalar slot ty) o i j k = subst (λ o. Seen env (slot_or_zero o)) i (record { name = n; ty = ty; means = k.0; may = k.1 })
  is_scalar_seen n (meaning.Array a) o i j k = absurd (cc (ap is_some i ∙ j))
  is_scalar_seen n (meaning.Nodes a) o i j k = absurd (cc (ap is_some i ∙ j))
  is_scalar_seen n (meaning.Template a) o i j k = absurd (cc (ap is_some i ∙ j))
  is_scalar_seen n (meaning.Function a r) o i j k = absurd (cc (ap is_some i ∙ j))

  pub scalar_name_looks : (n : named.Name) → Looks env (λ x. Seen env x.number) (scalar_name n)
  scalar_name_looks n = looks_end env _ (λ x. Seen env x.number) (walk.name_of a_scalar n) (λ o. record { number = slot_or_zero o; at = n.at }) (looks_name env a_scalar n) (λ o h. is_scalar_seen n h.0 o h.1 h.2 h.3)

  array_name_looks : (n : named.Name) → Looks env (λ (x : made_name.Name). ⊤) (array_name n)
  array_name_looks n = looks_end env _ (λ x. ⊤) (walk.name_of an_array n) _ (looks_name env an_array n) (λ o h. tt)

  names_seen : (xs : List made_name.Name) → AllByRecursion (λ x. Seen env x.number) xs → All (slots_of_names xs)
  names_seen [] h = tt
  names_seen (x ∷ xs) h = (h.0, names_seen xs h.1)

  -- ---- reflect, barrier, bcast

  reflect_looks : (line : DirectiveLine) (names : CommaList named.Name) → Looks env (FlatFits p env) (reflect_of line names)
  reflect_looks line names = looks_next env (λ _. ⊤) (FlatFits p env) (walk.directive_at line.word) _ (looks_directive env line.word) (λ _.
      looks_end env _ (FlatFits p env) (walk.each array_name (listed names)) (λ arrays. s.Plain (m.Reflect arrays line.word)) (looks_each env (λ x. ⊤) array_name array_name_looks (listed names)) (λ arrays h. flat_plain (m.Reflect arrays line.word) refl tt tt))

  barrier_looks : (line : DirectiveLine) → Looks env (FlatFits p env) (barrier_of line)
  barrier_looks line = looks_end env (λ _. ⊤) (FlatFits p env) (walk.directive_at line.word) (λ _. s.Plain (m.Barrier line.word)) (looks_directive env line.word) (λ _ h. flat_plain (m.Barrier line.word) refl tt tt)

  piece_looks : (written : Notation) (x : Piece) → Looks env (λ (r : Option (ℤ × ℤ)). ⊤) (piece_of written x)
  piece_looks written (piece.All at) = looks_pure env (λ _. ⊤) None tt
  piece_looks written (piece.Numbers first second) = looks_next env (λ _. ⊤) (λ _. ⊤) (walk.constant first) _ (looks_constant env p first) (λ b.
      looks_end env _ (λ _. ⊤) (second_of second) (λ x. Some (nodes_from written b x)) (looks_there env (λ _. ⊤) (λ (y : Place × Expr). walk.constant y.1) (λ y. looks_constant env p y.1) second) (λ x h. tt))

  sizes_looks : (k : Option ℕ) → Looks env (λ (ns : List ℤ). ⊤) (nodes_sizes k)
  sizes_looks None = looks_pure env (λ _. ⊤) [] tt
  sizes_looks (Some k) = looks_asked env _

  nodes_look : (k : Option ℕ) (written : Notation) (count : ℕ) (at : Place) → Looks env (λ _. ⊤) (match_nodes k written count at)
  nodes_look None written count at = looks_pure env (λ _. ⊤) tt tt
  nodes_look (Some k) written count at = looks_judged env (λ w. (count == 0) || nodes_take written count (slice_get w.mappings.nodes k)) N3 at

  pub set_looks : (one_node : Bool) (word : Place) (x : NodesSet) → Looks env (λ (n : NodeSet). ⊤) (set_of one_node word x)
  set_looks one_node word x = looks_next env _ (λ _. ⊤) (walk.name_of a_nodes x.name) _ (looks_name env a_nodes x.name) (λ number.
      looks_next env _ (λ _. ⊤) (walk.each (piece_of (notation x.pieces)) (parts x.pieces)) _ (looks_each env (λ _. ⊤) (piece_of (notation x.pieces)) (piece_looks (notation x.pieces)) (parts x.pieces)) (λ pieces.
      looks_next env (λ _. ⊤) (λ _. ⊤) (match_nodes number (notation x.pieces) (length pieces) x.name.at) _ (nodes_look number (notation x.pieces) (length pieces) x.name.at) (λ _.
      looks_next env (λ _. ⊤) (λ _. ⊤) (nodes_sizes number) _ (sizes_looks number) (λ sizes.
      looks_end env _ (λ _. ⊤) (walk.judge (ranges_right sizes (ranges sizes pieces) && (not one_node || is_one (ranges sizes pieces))) M8 word) (λ _. box_of sizes (ranges sizes pieces))
      (looks_judge env (ranges_right sizes (ranges sizes pieces) && (not one_node || is_one (ranges sizes pieces))) M8 word) (λ _ h. tt)))))

  pub task_line_looks : (before : List NodeSet) (line : TaskLine) → Looks env (λ (n : NodeSet). ⊤) (task_line before line)
  task_line_looks before line = looks_next env (λ _. ⊤) (λ _. ⊤) (walk.directive_at line.line.word) _ (looks_directive env line.line.word) (λ _.
      looks_next env (λ _. ⊤) (λ _. ⊤) (set_of false line.line.word line.set) _ (set_looks false line.line.word line.set) (λ nodes.
      looks_end env _ (λ _. ⊤) (walk.judge (list_all (λ other. not (share other nodes)) before) M9 line.line.word) (λ _. nodes) (looks_judge env (list_all (λ other. not (share other nodes)) before) M9 line.line.word) (λ _ h. tt)))

  bcast_looks : (line : DirectiveLine) (names : CommaList named.Name) (x : NodesSet) → Looks env (FlatFits p env) (bcast_of line names x)
  bcast_looks line names x = looks_next env (λ _. ⊤) (FlatFits p env) (walk.directive_at line.word) _ (looks_directive env line.word) (λ _.
      looks_then env _ (FlatFits p env) (walk.each scalar_name (listed names)) _ (looks_each env (λ x. Seen env x.number) scalar_name scalar_name_looks (listed names)) (λ variables.
      looks_end env (λ _. ⊤) (λ y. AllByRecursion (λ x. Seen env x.number) variables → FlatFits p env y) (set_of true line.word x) (λ nodes. s.Plain (m.Cast variables nodes line.word)) (set_looks true line.word x)
      (λ nodes h f. flat_plain (m.Cast variables nodes line.word) refl (names_seen variables f) tt)))

  -- ---- gmove

  abbrev NumberSees : Number → Type 0
  NumberSees n = Sees p env n.value

  number_looks : (x : Expr) → Looks env NumberSees (number_of x)
  number_looks x = looks_end env (λ t. Sees p env t.made) NumberSees (walk.typed x) (λ t. record { value = t.made; at = first_place x }) (looks_typed env p x) (λ t h. h)

  unwritten_sees : (n : ℕ) (at : Place) → NumberSees (unwritten n at)
  unwritten_sees n at = const_sees env p (pos n) Int

  step_looks : (at : Place) (x : Option (Place × Expr)) → Looks env NumberSees (step_of at x)
  step_looks at None = looks_pure env NumberSees (unwritten 1 at) (unwritten_sees 1 at)
  step_looks at (Some x) = number_looks x.1

  abbrev PartSees : Part → Type 0
  PartSees x = All (slots_of_terms (terms_of_part p x))

  many_sees : (a b c : Number) → NumberSees a → NumberSees b → NumberSees c → PartSees (part.Many a b c)
  many_sees a b c f g h = terms_both env p (terms_of p a.value) (terms_of p b.value ++ terms_of p c.value) f (terms_both env p (terms_of p b.value) (terms_of p c.value) g h)

  with_looks : (at : Place) (base : Number) (many step : Option (Place × Expr)) → Looks env (λ x. NumberSees base → PartSees x) (part_with at base many step)
  with_looks at base None step = looks_pure env (λ x. NumberSees base → PartSees x) (part.One base) (λ h. h)
  with_looks at base (Some x) step = looks_then env NumberSees (λ y. NumberSees base → PartSees y) (number_of x.1) _ (number_looks x.1) (λ many.
      looks_end env NumberSees (λ y. NumberSees many → NumberSees base → PartSees y) (step_of at step) (λ by. part.Many base many by) (step_looks at step) (λ by h k l. many_sees base many by l k h))

  one_part_looks : (extent : ℕ) (at : Place) (x : Section) → Looks env PartSees (part_of extent at x)
  one_part_looks extent at (section.All colon) = looks_pure env PartSees _ (many_sees (unwritten 0 at) (unwritten extent at) (unwritten 1 at) (unwritten_sees 0 at) (unwritten_sees extent at) (unwritten_sees 1 at))
  one_part_looks extent at (section.Numbers first many step) = looks_then env NumberSees PartSees (number_of first) _ (number_looks first) (λ base. with_looks at base many step)

  abbrev PartsSee : List Part → Type 0
  PartsSee xs = All (slots_of_terms (flat_map (terms_of_part p) xs))

  more_parts : (xs : List Part) (x : Part) → PartsSee xs → PartSees x → PartsSee (xs ++ x ∷ [])
  more_parts [] x h k = terms_both env p (terms_of_part p x) [] k tt
  more_parts (y ∷ xs) x h k =
      let both = subst All (flat_map-append slots_of_term (terms_of_part p y) (flat_map (terms_of_part p) xs)) h in
      terms_both env p (terms_of_part p y) (flat_map (terms_of_part p) (xs ++ x ∷ [])) (first (slots_of_terms (terms_of_part p y)) _ both) (more_parts xs x (rest (slots_of_terms (terms_of_part p y)) _ both) k)
    where
      first : (ns ms : List ℕ) → All (ns ++ ms) → All ns
      first [] ms h = tt
      first (n ∷ ns) ms h = (h.0, first ns ms h.1)

      rest : (ns ms : List ℕ) → All (ns ++ ms) → All ms
      rest [] ms h = h
      rest (n ∷ ns) ms h = rest ns ms h.1

  parts_looks : (at : Place) (done : List Part) (extents : List ℕ) (xs : List Section) → Looks env (λ ys. PartsSee done → PartsSee ys) (parts_in at done extents xs)
  parts_looks at done extents [] = looks_pure env (λ ys. PartsSee done → PartsSee ys) done (λ h. h)
  parts_looks at done extents (x ∷ xs) = looks_then env PartSees (λ ys. PartsSee done → PartsSee ys) (part_of (first_extent extents) at x) _ (one_part_looks (first_extent extents) at x) (λ y.
      looks_map env (λ ys. PartsSee (done ++ y ∷ []) → PartsSee ys) (λ ys. PartSees y → PartsSee done → PartsSee ys) _ (parts_looks at (done ++ y ∷ []) (drop 1 extents) xs) (λ ys i k h. i (more_parts done y h k)))

  pub record SideSees (x : MoveSide) : Type 0 where
    pub slots : All (slots_of_side x)
    pub terms : All (slots_of_terms (terms_of_side p x))

  impossible : {B : Type 0} → false ≡ true → B
  impossible h = absurd (cc)

  no_side_looks : (x : Sections) (o : Option Meaning) → Looks env (λ y. Means env x.name o → SideSees y) (walk.◌>>=◌ (walk.judge false N3 x.name.at) (λ _. walk.pure (no_side x.name)))
  no_side_looks x o = looks_end env (λ _. false ≡ true) (λ y. Means env x.name o → SideSees y) (walk.judge false N3 x.name.at) (λ _. no_side x.name) (looks_judge env false N3 x.name.at) (λ _ i k. impossible i)

  side_as_looks : (x : Sections) (o : Option Meaning) → Looks env (λ y. Means env x.name o → SideSees y) (side_as x o)
  side_as_looks x (Some (meaning.Scalar slot ty)) = looks_end env (λ _. is_nothing x.sections ≡ true) (λ y. Means env x.name (Some (meaning.Scalar slot ty)) → SideSees y) (walk.judge (is_nothing x.sections) N3 x.name.at)
      (λ _. side.Scalar (record { number = slot; at = x.name.at })) (looks_judge env (is_nothing x.sections) N3 x.name.at)
      (λ _ i k. record { slots = (record { name = x.name; ty = ty; means = k.0; may = k.1 }, tt); terms = tt })
  side_as_looks x (Some (meaning.Array n)) = looks_next env (λ _. ⊤) (λ y. Means env x.name (Some (meaning.Array n)) → SideSees y) (λ w. Gave (extents_in (slice_get w.names.arrays n)) w) _ (looks_asked env (λ w. extents_in (slice_get w.names.arrays n))) (λ extents.
      looks_next env (λ _. (length x.sections == length extents) ≡ true) (λ y. Means env x.name (Some (meaning.Array n)) → SideSees y) (walk.judge (length x.sections == length extents) N3 x.name.at) _ (looks_judge env (length x.sections == length extents) N3 x.name.at) (λ _.
      looks_end env (λ ys. PartsSee [] → PartsSee ys) (λ y. Means env x.name (Some (meaning.Array n)) → SideSees y) (parts_in x.name.at [] extents (inner x.sections)) (λ parts. side.Array (record { number = n; at = x.name.at }) parts)
      (parts_looks x.name.at [] extents (inner x.sections)) (λ parts h k. record { slots = tt; terms = h tt })))
  side_as_looks x (Some (meaning.Nodes n)) = no_side_looks x (Some (meaning.Nodes n))
  side_as_looks x (Some (meaning.Template n)) = no_side_looks x (Some (meaning.Template n))
  side_as_looks x (Some (meaning.Function n r)) = no_side_looks x (Some (meaning.Function n r))
  side_as_looks x None = looks_end env (λ _. false ≡ true) (λ y. Means env x.name None → SideSees y) (walk.judge false N1 x.name.at) (λ _. no_side x.name) (looks_judge env false N1 x.name.at) (λ _ i k. impossible i)

  side_looks : (x : Sections) → Looks env SideSees (side_of x)
  side_looks x = looks_then env (Means env x.name) SideSees (walk.meaning_of x.name) _ (looks_meaning env x.name) (λ o. side_as_looks x o)

  both : (ns ms : List ℕ) → All ns → All ms → All (ns ++ ms)
  both [] ms h k = k
  both (n ∷ ns) ms h k = (h.0, both ns ms h.1 k)

  gmove_looks : (line : DirectiveLine) (target source : Sections) → Looks env (FlatFits p env) (gmove_of line target source)
  gmove_looks line target source = looks_next env (λ _. ⊤) (FlatFits p env) (walk.directive_at line.word) _ (looks_directive env line.word) (λ _.
      looks_then env SideSees (FlatFits p env) (side_of target) _ (side_looks target) (λ a.
      looks_then env SideSees (λ y. SideSees a → FlatFits p env y) (side_of source) _ (side_looks source) (λ b.
      looks_end env (λ _. sections_match (sections_in a) (sections_in b) ≡ true) (λ y. SideSees b → SideSees a → FlatFits p env y) (walk.judge (sections_match (sections_in a) (sections_in b)) N3 target.name.at) (λ _. s.Plain (m.Gmove a b line.word))
      (looks_judge env (sections_match (sections_in a) (sections_in b)) N3 target.name.at)
      (λ _ i g f. flat_plain (m.Gmove a b line.word) refl (both (slots_of_side a) (slots_of_side b) f.slots g.slots) (terms_both env p (terms_of_side p a) (terms_of_side p b) f.terms g.terms)))))

  -- ---- all of them

  pub plain_looks : (x : Plain) → Looks env (FlatFits p env) (plain_of x)
  plain_looks (plain.Empty at) = looks_pure env (FlatFits p env) (s.Block []) (nothing_flat p env)
  plain_looks (plain.Simple x at) = simple_looks x
  plain_looks (plain.Return at x end) = return_looks false at x
  plain_looks (plain.Print at x end) = print_looks at x.item.0 x.item.1
  plain_looks (plain.Scan at x end) = scan_looks at x.item.0 x.item.3
  plain_looks (plain.Sync at x end) = sync_looks at x.item.1
  plain_looks (plain.Reflect line names) = reflect_looks line names.item
  plain_looks (plain.Barrier line) = barrier_looks line
  plain_looks (plain.Bcast line names from_at set) = bcast_looks line names.item set
  plain_looks (plain.Gmove line target equals source end) = gmove_looks line target source
