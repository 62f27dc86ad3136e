-- Expressions: what the checker notes of one is what its names break.
use Rattle.std.proofs.Common.{◌≡◌, ◌∙◌, refl, sym, ap, subst, ◌++◌, ◌∷◌, [], ℕ, List, Bool, true, false, not, ◌&&◌, ◌||◌, ◌==◌, Option, Some, None, is_some, is_none, length, map, flat_map, codes, if◌then◌else◌, slice_get, append_assoc, append-nil, option_map}
use Rattle.std.proofs.lemmas.Grind.{flat_map-append}
use Rattle.xmp_base.specs.declared.place.Place.{Place}
use Rattle.xmp_num.specs.declared.types.Ty.{Ty}
use Rattle.xmp_lex.specs.declared.token.Mark.{Mark}
use Rattle.xmp_lex.specs.declared.token.Mark.TheVariants as mark
use Rattle.xmp_prog.specs.declared.expressions.Expr as prog
use Rattle.xmp_prog.specs.declared.expressions.Expr.TheVariants as x
use Rattle.xmp_syntax.specs.declared.parts.Name as named
use Rattle.xmp_syntax.specs.declared.parts.Inside.{Inside}
use Rattle.xmp_syntax.specs.declared.parts.CommaList.{CommaList}
use Rattle.xmp_syntax.specs.declared.parts.Next.{Next}
use Rattle.xmp_syntax.specs.declared.parts.Link.{Link}
use Rattle.xmp_syntax.specs.declared.parts.Image.{Image}
use Rattle.xmp_syntax.specs.declared.parts.Reference.{Reference}
use Rattle.xmp_syntax.specs.declared.parts.Call.{Call}
use Rattle.xmp_syntax.specs.declared.expression.Expr.{Expr}
use Rattle.xmp_syntax.specs.declared.expression.Expr.TheOpen.{Expr-F}
use Rattle.xmp_syntax.specs.declared.expression.Expr.TheFolds.{fold-roll-Expr, ind-Expr, map-Expr}
use Rattle.xmp_syntax.specs.declared.expression.Expr.TheViews.{roll-Expr}
use Rattle.xmp_scopes.specs.Names.{is_same, nearest}
use Rattle.xmp_names.specs.declared.names.Meaning.{Meaning}
use Rattle.xmp_names.specs.declared.names.Meaning.TheVariants as m
use Rattle.xmp_names.specs.declared.names.Array as array
use Rattle.xmp_names.specs.declared.names.Signature.{Signature}
use Rattle.xmp_names.specs.declared.names.Environment.{Environment}
use Rattle.xmp_names.specs.declared.operators.Operator.{Operator}
use Rattle.xmp_names.specs.declared.operators.Operator.TheVariants as op
use Rattle.xmp_names.specs.declared.rules.Rule.TheVariants.{N1, N3, N5, N10}
use Rattle.xmp_names.specs.declared.rules.Broken.{Broken}
use Rattle.xmp_names.specs.declared.rules.Notes.{Notes}
use Rattle.xmp_names.specs.declared.typed.Typed.{Typed}
use Rattle.xmp_names.specs.declared.typed.Parts.{Parts}
use Rattle.xmp_names.specs.Rules.{unless, noted, joined}
use Rattle.xmp_names.specs.Typing.{binary, unary, operator_of}
use Rattle.xmp_names.specs.Expressions.{no_parts, add, is_nothing, cell_of, read_as, image_notes, read, intrinsic, call_intrinsic, call_of, call_as, may_name, may_call, judged_call, call, chain, each_subscript, each_next, expr_step, expr_of, inside_of, next_of, right_of, reference_of, arguments_of}
use Rattle.xmp_rules.specs.Scopes.{Declared, Context, meaning}
use Rattle.xmp_rules.specs.Spots.{Use, Called, Variable, What, Used, how_many, step, of_expr, of_image, of_reference, of_arguments, of_call}
use Rattle.xmp_rules.proofs.Kept.{kept, kept_both, behind_none, behind_all}
use Rattle.xmp_rules.proofs.Standing.{Stands, SameOption, same_there, same_meaning, may_is, may, is_given, allowed, used, used_is, breaks, found}

-- ---- what an operator notes

binary_notes : (o : Operator) (at : Place) (a b : Typed) → (binary o at a b).notes ≡ joined a.notes b.notes
binary_notes (op.Arithmetic x) at a b = refl
binary_notes (op.Compare x) at a b = refl
binary_notes (op.Shift x) at a b = refl
binary_notes op.Both at a b = refl
binary_notes op.Either at a b = refl

unary_notes : (o : Mark) (at : Place) (x : Typed) → (unary o at x).notes.broken ≡ x.notes.broken
unary_notes mark.Minus at x = refl
unary_notes mark.Tilde at x = append-nil x.notes.broken
unary_notes mark.Bang at x = append-nil x.notes.broken
unary_notes _ at x = refl

-- ---- names

abbrev known_or : Option Meaning → Place → List Broken
known_or None at = unless false N1 at
known_or (Some x) at = []

cell_kept : (a : Option array.Array) (k : ℕ) (at : Place) (xs : List prog.Expr) (image : Option prog.Expr) (notes : Notes) → kept (cell_of a k at xs image notes).notes.broken ≡ kept notes.broken
cell_kept None k at xs image notes = behind_none notes.broken false N3 at refl
cell_kept (Some a) k at xs image notes = behind_none notes.broken ((length xs == length a.extents) && (a.coarray || is_none image)) N3 at refl

read_kept : (e : Environment) (x : Option Meaning) (at : Place) (xs : List prog.Expr) (image : Option prog.Expr) (notes : Notes) → kept (read_as e x at xs image notes).notes.broken ≡ kept notes.broken ++ known_or x at
read_kept e None at xs image notes = behind_all notes.broken false N1 at refl
read_kept e (Some (m.Scalar slot ty)) at xs image notes = behind_none notes.broken (is_nothing xs && is_none image) N3 at refl ∙ sym (append-nil (kept notes.broken))
read_kept e (Some (m.Array k)) at xs image notes = cell_kept (slice_get e.arrays k) k at xs image notes ∙ sym (append-nil (kept notes.broken))
read_kept e (Some (m.Nodes k)) at xs image notes = behind_none notes.broken false N3 at refl ∙ sym (append-nil (kept notes.broken))
read_kept e (Some (m.Template k)) at xs image notes = behind_none notes.broken false N3 at refl ∙ sym (append-nil (kept notes.broken))
read_kept e (Some (m.Function k ty)) at xs image notes = behind_none notes.broken false N3 at refl ∙ sym (append-nil (kept notes.broken))

known_is : (x : Option Meaning) (at : Place) → known_or x at ≡ unless (is_some x) N1 at
known_is None at = refl
known_is (Some x) at = refl

-- ---- calls

called_kept : (f : Option Signature) (k : ℕ) (ty : Ty) (at : Place) (p : Parts) → kept (call_of f k ty at p).notes.broken ≡ kept p.notes.broken
called_kept None k ty at p = behind_none p.notes.broken false N3 at refl
called_kept (Some f) k ty at p =
    behind_none (p.notes.broken ++ unless (length p.made == f.parameters) N3 at) _ N10 at refl
    ∙ behind_none p.notes.broken (length p.made == f.parameters) N3 at refl

given_kept : (made : Option prog.Expr) (at : Place) (p : Parts) → kept (call_intrinsic made at p).notes.broken ≡ kept p.notes.broken ++ unless (is_some made) N1 at
given_kept None at p = behind_all p.notes.broken false N1 at refl
given_kept (Some made) at p = behind_none p.notes.broken (is_nothing p.made) N3 at refl ∙ sym (append-nil (kept p.notes.broken))

intrinsic_is : (n : List ℕ) (coarray : Bool) → is_some (intrinsic n coarray) ≡ (coarray && (is_same n (codes "xmp_node_num") || is_same n (codes "xmp_num_nodes")))
intrinsic_is n false = refl
intrinsic_is n true = by (is_same n (codes "xmp_node_num")) (is_same n (codes "xmp_num_nodes"))
  where
    by : (a b : Bool) → is_some (if a then Some x.Node else (if b then Some x.Nodes else None)) ≡ (a || b)
    by true b = refl
    by false true = refl
    by false false = refl

-- ---- expressions

module _ (e : Environment) (c : Context) (s : Stands e c) where
  -- What a name breaks by itself.
  pub name_found : (n : named.Name) (u : Use) → ((b : Bool) → allowed n.text u b ≡ b) → is_given c n.text u ≡ false →
      unless (may_name e n (nearest n.text e.scopes)) N5 n.at ++ unless (is_some (nearest n.text e.scopes)) N1 n.at ≡ used c n u (meaning c n.text)
  name_found n u a g =
      ap (λ t. unless t N5 n.at ++ unless (is_some (nearest n.text e.scopes)) N1 n.at) (may_is e c s n)
      ∙ (ap (λ t. unless (may c n.text (meaning c n.text)) N5 n.at ++ unless t N1 n.at) (same_there (nearest n.text e.scopes) (meaning c n.text) (same_meaning e c s n))
      ∙ used_is c n u (meaning c n.text) a g)

  read_found : (n : named.Name) (p : Parts) (i : Option Typed) (k : ℕ) (b : Bool) → kept (read e n p i).notes.broken ≡ kept (image_notes i p.notes).broken ++ used c n (Variable k b) (meaning c n.text)
  read_found n p i k b =
      let x : Option Meaning = nearest n.text e.scopes in
      let ns : Notes = image_notes i p.notes in
      read_kept e x n.at p.made (option_map (λ x. x.operand.made) i) (noted ns (may_name e n x) N5 n.at)
      ∙ (ap (λ l. l ++ known_or x n.at) (behind_all ns.broken (may_name e n x) N5 n.at refl)
      ∙ (append_assoc (kept ns.broken) (unless (may_name e n x) N5 n.at) (known_or x n.at)
      ∙ ap (λ l. kept ns.broken ++ l) (ap (λ l. unless (may_name e n x) N5 n.at ++ l) (known_is x n.at) ∙ name_found n (Variable k b) (λ t. refl) refl)))

  judged_by : (n : named.Name) (p : Parts) (k : ℕ) (x : Meaning) (d : Declared) → may_name e n (Some x) ≡ may c n.text (Some d) →
      kept (p.notes.broken ++ unless (may_call e n (Some x)) N5 n.at) ≡ kept p.notes.broken ++ used c n (Called k) (Some d)
  judged_by n p k x d q = behind_all p.notes.broken (may_call e n (Some x)) N5 n.at refl ∙ ap (λ t. kept p.notes.broken ++ unless (t && not (is_same n.text (codes "main"))) N5 n.at) q

  call_by : (n : named.Name) (p : Parts) (k : ℕ) (x : Option Meaning) (d : Option Declared) → SameOption x d → may_name e n x ≡ may c n.text d →
      kept (call_as e x n (judged_call e n x p)).notes.broken ≡ kept p.notes.broken ++ used c n (Called k) d
  call_by n p k None None h q =
      given_kept (intrinsic n.text e.coarray) n.at p
      ∙ ap (λ t. kept p.notes.broken ++ unless t N1 n.at)
      (intrinsic_is n.text e.coarray ∙ ap (λ t. t && (is_same n.text (codes "xmp_node_num") || is_same n.text (codes "xmp_num_nodes"))) s.coarray)
  call_by n p k None (Some d) h q = absurd h
  call_by n p k (Some x) None h q = absurd h
  call_by n p k (Some (m.Scalar slot ty)) (Some d) h q = behind_none (p.notes.broken ++ unless (may_call e n (Some (m.Scalar slot ty))) N5 n.at) false N3 n.at refl ∙ judged_by n p k (m.Scalar slot ty) d q
  call_by n p k (Some (m.Array i)) (Some d) h q = behind_none (p.notes.broken ++ unless (may_call e n (Some (m.Array i))) N5 n.at) false N3 n.at refl ∙ judged_by n p k (m.Array i) d q
  call_by n p k (Some (m.Nodes i)) (Some d) h q = behind_none (p.notes.broken ++ unless (may_call e n (Some (m.Nodes i))) N5 n.at) false N3 n.at refl ∙ judged_by n p k (m.Nodes i) d q
  call_by n p k (Some (m.Template i)) (Some d) h q = behind_none (p.notes.broken ++ unless (may_call e n (Some (m.Template i))) N5 n.at) false N3 n.at refl ∙ judged_by n p k (m.Template i) d q
  call_by n p k (Some (m.Function i ty)) (Some d) h q = called_kept (slice_get e.functions i) i ty n.at (judged_call e n (Some (m.Function i ty)) p) ∙ judged_by n p k (m.Function i ty) d q

  call_found : (n : named.Name) (p : Parts) (k : ℕ) → kept (call e n p).notes.broken ≡ kept p.notes.broken ++ used c n (Called k) (meaning c n.text)
  call_found n p k = call_by n p k (nearest n.text e.scopes) (meaning c n.text) (same_meaning e c s n) (may_is e c s n)

  -- ---- lists

  found_both : (xs ys : List What) → found c (xs ++ ys) ≡ found c xs ++ found c ys
  found_both xs ys = flat_map-append (breaks c) xs ys

  found_last : (xs : List What) (w : What) → found c xs ++ breaks c w ≡ found c (xs ++ w ∷ [])
  found_last xs w = ap (λ l. found c xs ++ l) (sym (append-nil (breaks c w))) ∙ sym (found_both xs (w ∷ []))

  more : (a b z : List Broken) (ws rest : List What) → kept b ≡ found c ws → z ≡ kept (a ++ b) ++ found c rest → z ≡ kept a ++ found c (ws ++ rest)
  more a b z ws rest h k =
      k ∙ (ap (λ l. l ++ found c rest) (kept_both a b ∙ ap (λ l. kept a ++ l) h)
      ∙ (append_assoc (kept a) (found c ws) (found c rest) ∙ ap (λ l. kept a ++ l) (sym (found_both ws rest))))

  abbrev P : Expr → Type 0
  P x = kept (expr_of e x).notes.broken ≡ found c (of_expr x)

  abbrev Known : Type 0
  Known = (x : Expr) × P x

  abbrev inside_part : Inside Known → Inside Expr
  inside_part x = record { «open» = x.open; item = x.item.0; close = x.close }

  abbrev inside_seen : Inside Expr → Inside (List What)
  inside_seen x = record { «open» = x.open; item = of_expr x.item; close = x.close }

  abbrev next_part : Next Known → Next Expr
  next_part x = record { comma = x.comma; item = x.item.0 }

  abbrev next_seen : Next Expr → Next (List What)
  next_seen x = record { comma = x.comma; item = of_expr x.item }

  abbrev link_part : Link Known → Link Expr
  link_part x = record { operator = x.operator; right = x.right.0 }

  abbrev link_seen : Link Expr → Link (List What)
  link_seen x = record { operator = x.operator; right = of_expr x.right }

  subscripts_known : (p : Parts) (xs : List (Inside Known)) →
      kept (each_subscript p (map (inside_of e) (map inside_part xs))).notes.broken ≡ kept p.notes.broken ++ found c (flat_map (λ d. d.item) (map inside_seen (map inside_part xs)))
  subscripts_known p [] = sym (append-nil (kept p.notes.broken))
  subscripts_known p (x ∷ xs) = more p.notes.broken (expr_of e x.item.0).notes.broken _ (of_expr x.item.0) (flat_map (λ d. d.item) (map inside_seen (map inside_part xs))) x.item.1 (subscripts_known (add p (expr_of e x.item.0)) xs)

  rest_known : (p : Parts) (xs : List (Next Known)) →
      kept (each_next p (map (next_of e) (map next_part xs))).notes.broken ≡ kept p.notes.broken ++ found c (flat_map (λ d. d.item) (map next_seen (map next_part xs)))
  rest_known p [] = sym (append-nil (kept p.notes.broken))
  rest_known p (x ∷ xs) = more p.notes.broken (expr_of e x.item.0).notes.broken _ (of_expr x.item.0) (flat_map (λ d. d.item) (map next_seen (map next_part xs))) x.item.1 (rest_known (add p (expr_of e x.item.0)) xs)

  links_known : (t : Typed) (xs : List (Link Known)) →
      kept (chain t (map (right_of e) (map link_part xs))).notes.broken ≡ kept t.notes.broken ++ found c (flat_map (λ l. l.right) (map link_seen (map link_part xs)))
  links_known t [] = sym (append-nil (kept t.notes.broken))
  links_known t (x ∷ xs) =
      let r : Typed = expr_of e x.right.0 in
      let rest : List What = flat_map (λ l. l.right) (map link_seen (map link_part xs)) in
      more t.notes.broken r.notes.broken _ (of_expr x.right.0) rest x.right.1
      (links_known (binary (operator_of x.operator.what) x.operator.at t r) xs ∙ ap (λ (ns : Notes). kept ns.broken ++ found c rest) (binary_notes (operator_of x.operator.what) x.operator.at t r))

  each_step : (y : Expr-F Known) →
      kept (expr_step e (map-Expr Expr Typed (expr_of e) (map-Expr Known Expr (λ z. z.0) y))).notes.broken ≡ found c (step (map-Expr Expr (List What) of_expr (map-Expr Known Expr (λ z. z.0) y)))
  each_step (Expr-F.Number p v ty) = refl
  each_step (Expr-F.Parens x) = x.item.1
  each_step (Expr-F.Unary o x) = ap kept (unary_notes o.what o.at (expr_of e x.0)) ∙ x.1
  each_step (Expr-F.Cast ty x) = x.1
  each_step (Expr-F.Chain x xs) =
      links_known (expr_of e x.0) xs ∙ (ap (λ l. l ++ found c (flat_map (λ l. l.right) (map link_seen (map link_part xs)))) x.1
      ∙ sym (found_both (of_expr x.0) (flat_map (λ l. l.right) (map link_seen (map link_part xs)))))
  each_step (Expr-F.Conditional x p y q z) =
      let a : List Broken = (expr_of e x.0).notes.broken in
      let b : List Broken = (expr_of e y.0).notes.broken in
      let d : List Broken = (expr_of e z.0).notes.broken in
      kept_both (a ++ b) d ∙ (ap (λ l. l ++ kept d) (kept_both a b) ∙ (append_assoc (kept a) (kept b) (kept d)
      ∙ (ap (λ l. l ++ (kept b ++ kept d)) x.1 ∙ (ap (λ l. found c (of_expr x.0) ++ (l ++ kept d)) y.1 ∙ (ap (λ l. found c (of_expr x.0) ++ (found c (of_expr y.0) ++ l)) z.1
      ∙ (ap (λ l. found c (of_expr x.0) ++ l) (sym (found_both (of_expr y.0) (of_expr z.0))) ∙ sym (found_both (of_expr x.0) (of_expr y.0 ++ of_expr z.0))))))))
  each_step (Expr-F.Read r) = by_image r.image
    where
      by_image : (i : Option (Image Known)) →
          kept (expr_step e (map-Expr Expr Typed (expr_of e) (map-Expr Known Expr (λ z. z.0) (Expr-F.Read (record { name = r.name; subscripts = r.subscripts; image = i }))))).notes.broken
          ≡ found c (step (map-Expr Expr (List What) of_expr (map-Expr Known Expr (λ z. z.0) (Expr-F.Read (record { name = r.name; subscripts = r.subscripts; image = i })))))
      by_image None =
          read_found r.name (each_subscript no_parts (map (inside_of e) (map inside_part r.subscripts))) None (length (map inside_seen (map inside_part r.subscripts))) false
          ∙ (ap (λ l. l ++ used c r.name (Variable (length (map inside_seen (map inside_part r.subscripts))) false) (meaning c r.name.text)) (subscripts_known no_parts r.subscripts)
          ∙ found_last (flat_map (λ d. d.item) (map inside_seen (map inside_part r.subscripts))) (Used r.name (Variable (length (map inside_seen (map inside_part r.subscripts))) false)))
      by_image (Some i) =
          let xs : List (Inside (List What)) = map inside_seen (map inside_part r.subscripts) in
          let ps : Parts = each_subscript no_parts (map (inside_of e) (map inside_part r.subscripts)) in
          let w : What = Used r.name (Variable (length xs) true) in
          read_found r.name ps (Some (expr_of e i.number.item.0)) (length xs) true
          ∙ (ap (λ l. l ++ breaks c w) (kept_both ps.notes.broken (expr_of e i.number.item.0).notes.broken)
          ∙ (ap (λ l. (l ++ kept (expr_of e i.number.item.0).notes.broken) ++ breaks c w) (subscripts_known no_parts r.subscripts)
          ∙ (ap (λ l. (found c (flat_map (λ d. d.item) xs) ++ l) ++ breaks c w) i.number.item.1
          ∙ (append_assoc (found c (flat_map (λ d. d.item) xs)) (found c (of_expr i.number.item.0)) (breaks c w)
          ∙ (ap (λ l. found c (flat_map (λ d. d.item) xs) ++ l) (found_last (of_expr i.number.item.0) w)
          ∙ sym (found_both (flat_map (λ d. d.item) xs) (of_expr i.number.item.0 ++ w ∷ [])))))))
  each_step (Expr-F.Call x) = by_arguments x.arguments.item
    where
      by_arguments : (i : Option (CommaList Known)) →
          kept (expr_step e (map-Expr Expr Typed (expr_of e) (map-Expr Known Expr (λ z. z.0) (Expr-F.Call (record { name = x.name; arguments = record { «open» = x.arguments.open; item = i; close = x.arguments.close } }))))).notes.broken
          ≡ found c (step (map-Expr Expr (List What) of_expr (map-Expr Known Expr (λ z. z.0) (Expr-F.Call (record { name = x.name; arguments = record { «open» = x.arguments.open; item = i; close = x.arguments.close } })))))
      by_arguments None = call_found x.name no_parts 0 ∙ found_last [] (Used x.name (Called 0))
      by_arguments (Some l) =
          let ws : List What = of_expr l.first.0 ++ flat_map (λ d. d.item) (map next_seen (map next_part l.more)) in
          let k : ℕ = length (of_expr l.first.0 ∷ map (λ n. n.item) (map next_seen (map next_part l.more))) in
          call_found x.name (each_next (add no_parts (expr_of e l.first.0)) (map (next_of e) (map next_part l.more))) k
          ∙ (ap (λ z. z ++ used c x.name (Called k) (meaning c x.name.text))
          (more [] (expr_of e l.first.0).notes.broken _ (of_expr l.first.0) (flat_map (λ d. d.item) (map next_seen (map next_part l.more))) l.first.1 (rest_known (add no_parts (expr_of e l.first.0)) l.more))
          ∙ found_last ws (Used x.name (Called k)))

  pub expr_found : (x : Expr) → kept (expr_of e x).notes.broken ≡ found c (of_expr x)
  expr_found = ind-Expr P (λ x y h. subst (λ z. P (roll-Expr z)) h
      (ap (λ (t : Typed). kept t.notes.broken) (fold-roll-Expr Typed (expr_step e) (map-Expr Known Expr (λ z. z.0) y)) ∙ (each_step y
      ∙ sym (ap (found c) (fold-roll-Expr (List What) step (map-Expr Known Expr (λ z. z.0) y))))))

  -- ---- the parts that hold expressions

  pub subscripts_found : (p : Parts) (xs : List (Inside Expr)) → kept (each_subscript p (map (inside_of e) xs)).notes.broken ≡ kept p.notes.broken ++ found c (flat_map (λ d. of_expr d.item) xs)
  subscripts_found p [] = sym (append-nil (kept p.notes.broken))
  subscripts_found p (x ∷ xs) = more p.notes.broken (expr_of e x.item).notes.broken _ (of_expr x.item) (flat_map (λ d. of_expr d.item) xs) (expr_found x.item) (subscripts_found (add p (expr_of e x.item)) xs)

  pub rest_found : (p : Parts) (xs : List (Next Expr)) → kept (each_next p (map (next_of e) xs)).notes.broken ≡ kept p.notes.broken ++ found c (flat_map (λ d. of_expr d.item) xs)
  rest_found p [] = sym (append-nil (kept p.notes.broken))
  rest_found p (x ∷ xs) = more p.notes.broken (expr_of e x.item).notes.broken _ (of_expr x.item) (flat_map (λ d. of_expr d.item) xs) (expr_found x.item) (rest_found (add p (expr_of e x.item)) xs)

  pub reference_found : (r : Reference Expr) → kept (reference_of e r).notes.broken ≡ found c (of_reference r)
  reference_found r = by r.image
    where
      by : (i : Option (Image Expr)) →
          kept (read e r.name (each_subscript no_parts (map (inside_of e) r.subscripts)) (option_map (λ i. expr_of e i.number.item) i)).notes.broken
          ≡ found c (flat_map (λ d. of_expr d.item) r.subscripts ++ (of_image i ++ Used r.name (Variable (length r.subscripts) (is_some i)) ∷ []))
      by None =
          read_found r.name (each_subscript no_parts (map (inside_of e) r.subscripts)) None (length r.subscripts) false
          ∙ (ap (λ l. l ++ breaks c (Used r.name (Variable (length r.subscripts) false))) (subscripts_found no_parts r.subscripts)
          ∙ found_last (flat_map (λ d. of_expr d.item) r.subscripts) (Used r.name (Variable (length r.subscripts) false)))
      by (Some i) =
          let w : What = Used r.name (Variable (length r.subscripts) true) in
          let ys : List What = flat_map (λ d. of_expr d.item) r.subscripts in
          let qs : Parts = each_subscript no_parts (map (inside_of e) r.subscripts) in
          read_found r.name qs (Some (expr_of e i.number.item)) (length r.subscripts) true
          ∙ (ap (λ l. l ++ breaks c w) (kept_both qs.notes.broken (expr_of e i.number.item).notes.broken)
          ∙ (ap (λ l. (l ++ kept (expr_of e i.number.item).notes.broken) ++ breaks c w) (subscripts_found no_parts r.subscripts)
          ∙ (ap (λ l. (found c ys ++ l) ++ breaks c w) (expr_found i.number.item)
          ∙ (append_assoc (found c ys) (found c (of_expr i.number.item)) (breaks c w)
          ∙ (ap (λ l. found c ys ++ l) (found_last (of_expr i.number.item) w)
          ∙ sym (found_both ys (of_expr i.number.item ++ w ∷ [])))))))

  pub call_is_found : (x : Call Expr) → kept (call e x.name (arguments_of e x.arguments.item)).notes.broken ≡ found c (of_call x)
  call_is_found x = by x.arguments.item
    where
      by : (i : Option (CommaList Expr)) → kept (call e x.name (arguments_of e i)).notes.broken ≡ found c (of_arguments i ++ Used x.name (Called (how_many i)) ∷ [])
      by None = call_found x.name no_parts 0 ∙ found_last [] (Used x.name (Called 0))
      by (Some l) =
          call_found x.name (each_next (add no_parts (expr_of e l.first)) (map (next_of e) l.more)) (how_many (Some l))
          ∙ (ap (λ z. z ++ used c x.name (Called (how_many (Some l))) (meaning c x.name.text))
          (more [] (expr_of e l.first).notes.broken _ (of_expr l.first) (flat_map (λ d. of_expr d.item) l.more) (expr_found l.first) (rest_found (add no_parts (expr_of e l.first)) l.more))
          ∙ found_last (of_arguments (Some l)) (Used x.name (Called (how_many (Some l)))))
