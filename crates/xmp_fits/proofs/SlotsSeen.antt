-- The scalars in what is made of an expression are seen where it stands, where no rule breaks in it.
use Rattle.std.proofs.Common.{◌≡◌, ◌∙◌, sym, ap, refl, subst, ◌++◌, ◌∷◌, [], ◌&&◌, ℕ, ℤ, Bool, true, false, List, Option, Some, None, length, map}
use Rattle.std.specs.Prelude.{⊤, ◌||◌, ◌==◌, slice_get, nat_lt, is_none, pos, negsuc, if◌then◌else◌, codes}
use Rattle.std.specs.List.{flat_map, AllByRecursion}
use Rattle.std.specs.Option.{option_map}
use Rattle.std.proofs.lemmas.Option.{same_Some, none-some}
use Rattle.std.proofs.lemmas.Grind.{flat_map-append}
use Rattle.xmp_base.specs.declared.place.Place.{Place}
use Rattle.xmp_num.specs.declared.types.Ty.{Ty}
use Rattle.xmp_num.specs.declared.types.Ty.TheVariants.{Int}
use Rattle.xmp_num.specs.declared.types.BinOp.{BinOp}
use Rattle.xmp_num.specs.declared.types.BinOp.TheVariants as op
use Rattle.xmp_num.specs.Arithmetic.{wrap}
use Rattle.xmp_lex.specs.declared.token.Mark.{Mark}
use Rattle.xmp_lex.specs.declared.token.Mark.TheVariants as m
use Rattle.xmp_prog.specs.declared.expressions.Expr as prog
use Rattle.xmp_prog.specs.declared.expressions.Expr.TheVariants as e
use Rattle.xmp_prog.specs.declared.expressions.Expr.TheFolds.{fold-Access, fold-roll-Access}
use Rattle.xmp_prog.specs.declared.expressions.Access.{Access, roll-Access}
use Rattle.xmp_prog.specs.declared.parts.ProgParts.{ProgParts}
use Rattle.xmp_prog.specs.Terms as term
use Rattle.xmp_prog.specs.Terms.{Term, terms_of, typed_step, access_step, slots_of_term, slots_of_terms}
use Rattle.xmp_prog.proofs.Rolls as rolls
use Rattle.xmp_syntax.specs.declared.parts.Name as named
use Rattle.xmp_syntax.specs.declared.parts.Inside.{Inside}
use Rattle.xmp_syntax.specs.declared.parts.Image.{Image}
use Rattle.xmp_syntax.specs.declared.parts.CommaList.{CommaList}
use Rattle.xmp_syntax.specs.declared.parts.Next.{Next}
use Rattle.xmp_syntax.specs.declared.parts.Link.{Link}
use Rattle.xmp_syntax.specs.declared.parts.Reference.{Reference}
use Rattle.xmp_syntax.specs.declared.parts.Call.{Call}
use Rattle.xmp_syntax.specs.declared.expression.Expr.{Expr}
use Rattle.xmp_syntax.specs.declared.expression.Expr.TheFolds.{fold-roll-Expr, ind-Expr, map-Expr}
use Rattle.xmp_syntax.specs.declared.expression.Expr.TheViews.{roll-Expr}
use Rattle.xmp_syntax.specs.declared.expression.Expr.TheOpen.{Expr-F}
use Rattle.xmp_scopes.specs.Names.{nearest, is_same}
use Rattle.xmp_names.specs.declared.names.Meaning.{Meaning}
use Rattle.xmp_names.specs.declared.names.Meaning.TheVariants.{Scalar, Array, Nodes, Template, Function}
use Rattle.xmp_names.specs.declared.names.Array as array
use Rattle.xmp_names.specs.declared.names.Signature.{Signature}
use Rattle.xmp_names.specs.declared.names.Environment.{Environment}
use Rattle.xmp_names.specs.declared.rules.Notes.{Notes}
use Rattle.xmp_names.specs.declared.rules.Rule.{Rule}
use Rattle.xmp_names.specs.declared.rules.Rule.TheVariants.{N1, N3, N5, N10}
use Rattle.xmp_names.specs.declared.typed.Value.{Value}
use Rattle.xmp_names.specs.declared.typed.Value.TheVariants.{Named, Trapping, Known}
use Rattle.xmp_names.specs.declared.typed.Typed.{Typed}
use Rattle.xmp_names.specs.declared.typed.Parts.{Parts}
use Rattle.xmp_names.specs.declared.typed.Operand.{Operand}
use Rattle.xmp_names.specs.declared.operators.Operator.{Operator}
use Rattle.xmp_names.specs.declared.operators.Operator.TheVariants.{Arithmetic, Compare, Shift, Both, Either}
use Rattle.xmp_names.specs.Rules.{unless, noted, joined}
use Rattle.xmp_names.specs.Typing.{stands, is_of, convert, operand, number, operator, operator_of, binary, unary, cast, choose}
use Rattle.xmp_names.specs.Expressions.{no_parts, add, may_name, is_nothing, cell_of, read_as, image_notes, read, intrinsic, call_intrinsic, call_of, call_as, may_call, judged_call, call, chain, each_subscript, each_next, expr_step, expr_of, right_of, inside_of, next_of, reference_of, arguments_of}
use Rattle.xmp_parts.proofs.Unbroken.{left_none, right_none, holds}
use Rattle.xmp_fits.proofs.TermsFit.{Seen}
use Rattle.xmp_fits.proofs.ScopedFits.{Sees}

module _ (env : Environment) (p : ProgParts) where
  abbrev All : List ℕ → Type 0
  All ns = AllByRecursion (Seen env) ns

  -- ---- what is made, by its parts

  both : (ns ms : List ℕ) → All ns → All ms → All (ns ++ ms)
  both [] ms h k = k
  both (n ∷ ns) ms h k = (h.0, both ns ms h.1 k)

  pub terms_both : (ts us : List Term) → All (slots_of_terms ts) → All (slots_of_terms us) → All (slots_of_terms (ts ++ us))
  terms_both ts us h k = subst All (sym (flat_map-append slots_of_term ts us)) (both (slots_of_terms ts) (slots_of_terms us) h k)

  by_terms : (x : prog.Expr) (t : term.Typed) → term.typed p x ≡ t → All (slots_of_terms t.terms) → Sees p env x
  by_terms x t i h = subst (λ (u : term.Typed). All (slots_of_terms u.terms)) (sym i) h

  pub const_sees : (v : ℤ) (ty : Ty) → Sees p env (e.Const v ty)
  const_sees v ty = by_terms (e.Const v ty) _ (rolls.at_const term.Typed term.Typed (typed_step p) (access_step p) v ty) tt

  pub scalar_sees : (slot : ℕ) (at : Place) → Seen env slot → Sees p env (e.Scalar slot at)
  scalar_sees slot at h = by_terms (e.Scalar slot at) _ (rolls.at_scalar term.Typed term.Typed (typed_step p) (access_step p) slot at) (h, tt)

  two_see : (a b : prog.Expr) → Sees p env a → Sees p env b → All (slots_of_terms (terms_of p a ++ terms_of p b))
  two_see a b h k = terms_both (terms_of p a) (terms_of p b) h k

  binary_sees : (o : BinOp) (ty : Ty) (a b : prog.Expr) (at : Place) → Sees p env a → Sees p env b → Sees p env (e.Binary o ty a b at)
  binary_sees o ty a b at h k = by_terms (e.Binary o ty a b at) _ (rolls.at_binary term.Typed term.Typed (typed_step p) (access_step p) o ty a b at) (two_see a b h k)

  both_sees : (a b : prog.Expr) → Sees p env a → Sees p env b → Sees p env (e.Both a b)
  both_sees a b h k = by_terms (e.Both a b) _ (rolls.at_both term.Typed term.Typed (typed_step p) (access_step p) a b) (two_see a b h k)

  either_sees : (a b : prog.Expr) → Sees p env a → Sees p env b → Sees p env (e.Either a b)
  either_sees a b h k = by_terms (e.Either a b) _ (rolls.at_either term.Typed term.Typed (typed_step p) (access_step p) a b) (two_see a b h k)

  choose_sees : (a b c : prog.Expr) → Sees p env a → Sees p env b → Sees p env c → Sees p env (e.Choose a b c)
  choose_sees a b c h k l = by_terms (e.Choose a b c) _ (rolls.at_choose term.Typed term.Typed (typed_step p) (access_step p) a b c)
      (terms_both (terms_of p a) (terms_of p b ++ terms_of p c) h (two_see b c k l))

  convert_is : (ty : Ty) (a : prog.Expr) → Sees p env a → Sees p env (e.Convert ty a)
  convert_is ty a h = by_terms (e.Convert ty a) _ (rolls.at_convert term.Typed term.Typed (typed_step p) (access_step p) ty a) h

  pub all_see : (xs : List prog.Expr) → AllByRecursion (Sees p env) xs → All (slots_of_terms (flat_map (λ t. t.terms) (map (term.typed p) xs)))
  all_see [] h = tt
  all_see (x ∷ xs) h = terms_both (terms_of p x) (flat_map (λ t. t.terms) (map (term.typed p) xs)) h.0 (all_see xs h.1)

  call_sees : (k : ℕ) (xs : List prog.Expr) (at : Place) → AllByRecursion (Sees p env) xs → Sees p env (e.Call k xs at)
  call_sees k xs at h = by_terms (e.Call k xs at) _ (rolls.at_call term.Typed term.Typed (typed_step p) (access_step p) k xs at) (all_see xs h)

  abbrev accessed : Access → term.Typed
  accessed a = fold-Access term.Typed term.Typed (typed_step p) (access_step p) a

  abbrev There : Option prog.Expr → Type 0
  There None = ⊤
  There (Some x) = Sees p env x

  element_sees : (k : ℕ) (xs : List prog.Expr) (image : Option prog.Expr) (at : Place) → AllByRecursion (Sees p env) xs → There image →
      All (slots_of_terms (accessed (roll-Access (record { array = k; subscripts = xs; image = image; at = at }))).terms)
  element_sees k xs None at h i =
      subst (λ (t : term.Typed). All (slots_of_terms t.terms)) (sym (fold-roll-Access term.Typed term.Typed (typed_step p) (access_step p) (record { array = k; subscripts = xs; image = None; at = at })))
      (terms_both (flat_map (λ t. t.terms) (map (term.typed p) xs)) [] (all_see xs h) tt)
  element_sees k xs (Some x) at h i =
      subst (λ (t : term.Typed). All (slots_of_terms t.terms)) (sym (fold-roll-Access term.Typed term.Typed (typed_step p) (access_step p) (record { array = k; subscripts = xs; image = Some x; at = at })))
      (terms_both (flat_map (λ t. t.terms) (map (term.typed p) xs)) (terms_of p x) (all_see xs h) i)

  cell_sees : (k : ℕ) (xs : List prog.Expr) (image : Option prog.Expr) (at : Place) → AllByRecursion (Sees p env) xs → There image → Sees p env (e.Cell (roll-Access (record { array = k; subscripts = xs; image = image; at = at })))
  cell_sees k xs image at h i = by_terms (e.Cell (roll-Access (record { array = k; subscripts = xs; image = image; at = at }))) _
      (rolls.at_cell term.Typed term.Typed (typed_step p) (access_step p) (roll-Access (record { array = k; subscripts = xs; image = image; at = at }))) (element_sees k xs image at h i)

  node_sees : Sees p env e.Node
  node_sees = by_terms e.Node _ (rolls.at_node term.Typed term.Typed (typed_step p) (access_step p)) tt

  nodes_sees : Sees p env e.Nodes
  nodes_sees = by_terms e.Nodes _ (rolls.at_nodes term.Typed term.Typed (typed_step p) (access_step p)) tt

  -- ---- operations

  stands_sees : (v : Value) (ty : Ty) (x : prog.Expr) → Sees p env x → Sees p env (stands v ty x)
  stands_sees (Known v) ty x h = const_sees v ty
  stands_sees Named ty x h = h
  stands_sees Trapping ty x h = h

  convert_sees : (ty : Ty) (x : prog.Expr) (v : Value) → Sees p env x → Sees p env (convert ty x v)
  convert_sees ty x (Known v) h = const_sees (wrap ty v) ty
  convert_sees ty x Named h = convert_is ty x h
  convert_sees ty x Trapping h = convert_is ty x h

  pub operand_sees : (ty : Ty) (x : Operand) → Sees p env x.made → Sees p env (operand ty x)
  operand_sees ty x h = by (is_of x.ty ty)
    where
      by : (b : Bool) → Sees p env (if b then x.made else convert ty x.made x.value)
      by true = h
      by false = convert_sees ty x.made x.value h

  operator_sees : (o : Operator) (at : Place) (a b : Operand) (notes : Notes) → Sees p env a.made → Sees p env b.made → Sees p env (operator o at a b notes).operand.made
  operator_sees (Arithmetic o) at a b notes h k = stands_sees _ _ _ (binary_sees o _ (operand _ a) (operand _ b) at (operand_sees _ a h) (operand_sees _ b k))
  operator_sees (Compare o) at a b notes h k = stands_sees _ _ _ (binary_sees o _ (operand _ a) (operand _ b) at (operand_sees _ a h) (operand_sees _ b k))
  operator_sees (Shift o) at a b notes h k = stands_sees _ _ _ (binary_sees o _ a.made b.made at h k)
  operator_sees Both at a b notes h k = stands_sees _ _ _ (both_sees a.made b.made h k)
  operator_sees Either at a b notes h k = stands_sees _ _ _ (either_sees a.made b.made h k)

  operator_notes : (o : Operator) (at : Place) (a b : Operand) (notes : Notes) → (operator o at a b notes).notes ≡ notes
  operator_notes (Arithmetic o) at a b notes = refl
  operator_notes (Compare o) at a b notes = refl
  operator_notes (Shift o) at a b notes = refl
  operator_notes Both at a b notes = refl
  operator_notes Either at a b notes = refl

  -- What is made sees, where no rule breaks.
  abbrev pub Right : Typed → Type 0
  Right t = t.notes.broken ≡ [] → Sees p env t.operand.made

  binary_right : (o : Operator) (at : Place) (a b : Typed) → Right a → Right b → Right (binary o at a b)
  binary_right o at a b f g n =
      let all : a.notes.broken ++ b.notes.broken ≡ [] = sym (ap (λ x. x.broken) (operator_notes o at a.operand b.operand (joined a.notes b.notes))) ∙ n in
      operator_sees o at a.operand b.operand (joined a.notes b.notes) (f (left_none a.notes.broken b.notes.broken all)) (g (right_none a.notes.broken b.notes.broken all))

  number_right : (v : ℤ) (ty : Ty) → Right (number v ty)
  number_right v ty n = const_sees v ty

  unary_right : (k : Mark) (at : Place) (x : Typed) → Right x → Right (unary k at x)
  unary_right m.Minus at x f = binary_right (Arithmetic op.Sub) at (number (pos 0) Int) x (number_right (pos 0) Int) f
  unary_right m.Tilde at x f = binary_right (Arithmetic op.Xor) at x (number (negsuc 0) Int) f (number_right (negsuc 0) Int)
  unary_right m.Bang at x f = binary_right (Compare op.Equal) at x (number (pos 0) Int) f (number_right (pos 0) Int)
  unary_right _ at x f = f

  cast_right : (ty : Ty) (x : Typed) → Right x → Right (cast ty x)
  cast_right ty x f n = convert_sees ty x.operand.made x.operand.value (f n)

  choose_right : (c a b : Typed) → Right c → Right a → Right b → Right (choose c a b)
  choose_right c a b f g h n =
      let ca : c.notes.broken ++ a.notes.broken ≡ [] = left_none (c.notes.broken ++ a.notes.broken) b.notes.broken n in
      stands_sees _ _ _ (choose_sees c.operand.made (operand _ a.operand) (operand _ b.operand) (f (left_none c.notes.broken a.notes.broken ca))
      (operand_sees _ a.operand (g (right_none c.notes.broken a.notes.broken ca))) (operand_sees _ b.operand (h (right_none (c.notes.broken ++ a.notes.broken) b.notes.broken n))))

  chain_right : (x : Typed) (ls : List (Link Typed)) → Right x → AllByRecursion (λ l. Right l.right) ls → Right (chain x ls)
  chain_right x [] f g = f
  chain_right x (l ∷ ls) f g = chain_right (binary (operator_of l.operator.what) l.operator.at x l.right) ls (binary_right (operator_of l.operator.what) l.operator.at x l.right f g.0) g.1

  -- ---- names

  before : (notes : Notes) (t : Bool) (rule : Rule) (at : Place) → (noted notes t rule at).broken ≡ [] → notes.broken ≡ []
  before notes t rule at h = left_none notes.broken (unless t rule at) h

  abbrev pub PartsRight : Parts → Type 0
  PartsRight q = q.notes.broken ≡ [] → AllByRecursion (Sees p env) q.made

  one_more : (xs : List prog.Expr) (x : prog.Expr) → AllByRecursion (Sees p env) xs → Sees p env x → AllByRecursion (Sees p env) (xs ++ x ∷ [])
  one_more [] x h k = (k, tt)
  one_more (y ∷ xs) x h k = (h.0, one_more xs x h.1 k)

  add_right : (q : Parts) (x : Typed) → PartsRight q → Right x → PartsRight (add q x)
  add_right q x f g n = one_more q.made x.operand.made (f (left_none q.notes.broken x.notes.broken n)) (g (right_none q.notes.broken x.notes.broken n))

  abbrev ImageRight : Option Typed → Type 0
  ImageRight None = ⊤
  ImageRight (Some x) = Right x

  cell_right : (o : Option array.Array) (k : ℕ) (at : Place) (xs : List prog.Expr) (image : Option prog.Expr) (notes : Notes) → AllByRecursion (Sees p env) xs → There image → Sees p env (cell_of o k at xs image notes).operand.made
  cell_right None k at xs image notes h i = const_sees (pos 0) Int
  cell_right (Some a) k at xs image notes h i = cell_sees k xs image at h i

  cell_before : (o : Option array.Array) (k : ℕ) (at : Place) (xs : List prog.Expr) (image : Option prog.Expr) (notes : Notes) → (cell_of o k at xs image notes).notes.broken ≡ [] → notes.broken ≡ []
  cell_before None k at xs image notes n = before notes false N3 at n
  cell_before (Some a) k at xs image notes n = before notes ((length xs == length a.extents) && (a.coarray || is_none image)) N3 at n

  read_as_right : (name : named.Name) (meaning : Option Meaning) (xs : List prog.Expr) (image : Option prog.Expr) (notes : Notes) → nearest name.text env.scopes ≡ meaning → may_name env name meaning ≡ true →
      AllByRecursion (Sees p env) xs → There image → Sees p env (read_as env meaning name.at xs image notes).operand.made
  read_as_right name (Some (Scalar slot ty)) xs image notes h k f g = scalar_sees slot name.at (record { name = name; ty = ty; means = h; may = k })
  read_as_right name (Some (Array n)) xs image notes h k f g = cell_right (slice_get env.arrays n) n name.at xs image notes f g
  read_as_right name (Some (Nodes n)) xs image notes h k f g = const_sees (pos 0) Int
  read_as_right name (Some (Template n)) xs image notes h k f g = const_sees (pos 0) Int
  read_as_right name (Some (Function n r)) xs image notes h k f g = const_sees (pos 0) Int
  read_as_right name None xs image notes h k f g = const_sees (pos 0) Int

  read_before : (meaning : Option Meaning) (at : Place) (xs : List prog.Expr) (image : Option prog.Expr) (notes : Notes) → (read_as env meaning at xs image notes).notes.broken ≡ [] → notes.broken ≡ []
  read_before (Some (Scalar slot ty)) at xs image notes n = before notes (is_nothing xs && is_none image) N3 at n
  read_before (Some (Array k)) at xs image notes n = cell_before (slice_get env.arrays k) k at xs image notes n
  read_before (Some (Nodes k)) at xs image notes n = before notes false N3 at n
  read_before (Some (Template k)) at xs image notes n = before notes false N3 at n
  read_before (Some (Function k r)) at xs image notes n = before notes false N3 at n
  read_before None at xs image notes n = before notes false N1 at n

  image_here : (image : Option Typed) (notes : Notes) → ImageRight image → (image_notes image notes).broken ≡ [] → There (option_map (λ x. x.operand.made) image)
  image_here None notes f n = tt
  image_here (Some x) notes f n = f (right_none notes.broken x.notes.broken n)

  parts_before : (image : Option Typed) (notes : Notes) → (image_notes image notes).broken ≡ [] → notes.broken ≡ []
  parts_before None notes n = n
  parts_before (Some x) notes n = left_none notes.broken x.notes.broken n

  read_right : (name : named.Name) (q : Parts) (image : Option Typed) → PartsRight q → ImageRight image → Right (read env name q image)
  read_right name q image f g n =
      let meaning : Option Meaning = nearest name.text env.scopes in
      let notes : Notes = image_notes image q.notes in
      let judged : Notes = noted notes (may_name env name meaning) N5 name.at in
      let b = read_before meaning name.at q.made (option_map (λ x. x.operand.made) image) judged n in
      let c = before notes (may_name env name meaning) N5 name.at b in
      read_as_right name meaning q.made (option_map (λ x. x.operand.made) image) judged refl (holds (may_name env name meaning) N5 name.at (right_none notes.broken _ b)) (f (parts_before image q.notes c)) (image_here image q.notes g c)

  -- ---- calls

  intrinsic_sees : (c a b : Bool) (x : prog.Expr) → (if c then (if a then Some e.Node else (if b then Some e.Nodes else None)) else None) ≡ Some x → Sees p env x
  intrinsic_sees true true b x h = subst (Sees p env) (same_Some e.Node x h) node_sees
  intrinsic_sees true false true x h = subst (Sees p env) (same_Some e.Nodes x h) nodes_sees
  intrinsic_sees true false false x h = absurd (none-some x h)
  intrinsic_sees false a b x h = absurd (none-some x h)

  intrinsic_right : (o : Option prog.Expr) (name : named.Name) (q : Parts) → intrinsic name.text env.coarray ≡ o → Sees p env (call_intrinsic o name.at q).operand.made
  intrinsic_right None name q h = const_sees (pos 0) Int
  intrinsic_right (Some x) name q h = intrinsic_sees env.coarray (is_same name.text (codes "xmp_node_num")) (is_same name.text (codes "xmp_num_nodes")) x h

  intrinsic_before : (o : Option prog.Expr) (at : Place) (q : Parts) → (call_intrinsic o at q).notes.broken ≡ [] → q.notes.broken ≡ []
  intrinsic_before None at q n = before q.notes false N1 at n
  intrinsic_before (Some x) at q n = before q.notes (is_nothing q.made) N3 at n

  call_of_right : (o : Option Signature) (k : ℕ) (r : Ty) (at : Place) (q : Parts) → AllByRecursion (Sees p env) q.made → Sees p env (call_of o k r at q).operand.made
  call_of_right None k r at q h = const_sees (pos 0) Int
  call_of_right (Some s) k r at q h = call_sees k q.made at h

  call_of_before : (o : Option Signature) (k : ℕ) (r : Ty) (at : Place) (q : Parts) → (call_of o k r at q).notes.broken ≡ [] → q.notes.broken ≡ []
  call_of_before None k r at q n = before q.notes false N3 at n
  call_of_before (Some s) k r at q n = before q.notes (length q.made == s.parameters) N3 at (before (noted q.notes (length q.made == s.parameters) N3 at) (nat_lt s.depth 33) N10 at n)

  call_as_right : (meaning : Option Meaning) (name : named.Name) (q : Parts) → PartsRight q → Right (call_as env meaning name (judged_call env name meaning q))
  call_as_right None name q f n = intrinsic_right (intrinsic name.text env.coarray) name q refl
  call_as_right (Some (Function k r)) name q f n =
      let judged : Parts = record q { notes = noted q.notes (may_call env name (Some (Function k r))) N5 name.at } in
      call_of_right (slice_get env.functions k) k r name.at judged (f (before q.notes (may_call env name (Some (Function k r))) N5 name.at (call_of_before (slice_get env.functions k) k r name.at judged n)))
  call_as_right (Some (Scalar slot ty)) name q f n = const_sees (pos 0) Int
  call_as_right (Some (Array k)) name q f n = const_sees (pos 0) Int
  call_as_right (Some (Nodes k)) name q f n = const_sees (pos 0) Int
  call_as_right (Some (Template k)) name q f n = const_sees (pos 0) Int

  call_right : (name : named.Name) (q : Parts) → PartsRight q → Right (call env name q)
  call_right name q f = call_as_right (nearest name.text env.scopes) name q f

  -- ---- every expression

  abbrev ExprRight : Expr → Type 0
  ExprRight x = Right (expr_of env x)

  none_right : PartsRight no_parts
  none_right n = tt

  module _ {C : Type 0} (q : C → Expr) (h : (c : C) → ExprRight (q c)) where
    abbrev inside_part : Inside C → Inside Expr
    inside_part d = record { «open» = d.open; item = q d.item; close = d.close }

    abbrev next_part : Next C → Next Expr
    next_part n = record { comma = n.comma; item = q n.item }

    abbrev link_part : Link C → Link Expr
    link_part l = record { operator = l.operator; right = q l.right }

    subscripts_right : (ds : List (Inside C)) (s : Parts) → PartsRight s → PartsRight (each_subscript s (map (inside_of env) (map inside_part ds)))
    subscripts_right [] s f = f
    subscripts_right (d ∷ ds) s f = subscripts_right ds (add s (expr_of env (q d.item))) (add_right s (expr_of env (q d.item)) f (h d.item))

    rest_right : (ns : List (Next C)) (s : Parts) → PartsRight s → PartsRight (each_next s (map (next_of env) (map next_part ns)))
    rest_right [] s f = f
    rest_right (d ∷ ds) s f = rest_right ds (add s (expr_of env (q d.item))) (add_right s (expr_of env (q d.item)) f (h d.item))

    links_right : (ls : List (Link C)) → AllByRecursion (λ l. Right l.right) (map (right_of env) (map link_part ls))
    links_right [] = tt
    links_right (l ∷ ls) = (h l.right, links_right ls)

    abbrev Goal : Expr-F C → Type 0
    Goal y = Right (expr_step env (map-Expr Expr Typed (expr_of env) (map-Expr C Expr q y)))

    read_step : (name : named.Name) (ds : List (Inside C)) (i : Option (Image C)) → Goal (Expr-F.Read (record { name = name; subscripts = ds; image = i }))
    read_step name ds None = read_right name (each_subscript no_parts (map (inside_of env) (map inside_part ds))) None (subscripts_right ds no_parts none_right) tt
    read_step name ds (Some i) = read_right name (each_subscript no_parts (map (inside_of env) (map inside_part ds))) (Some (expr_of env (q i.number.item))) (subscripts_right ds no_parts none_right) (h i.number.item)

    call_step : (name : named.Name) (a b : Place) (l : Option (CommaList C)) → Goal (Expr-F.Call (record { name = name; arguments = record { «open» = a; item = l; close = b } }))
    call_step name a b None = call_right name no_parts none_right
    call_step name a b (Some l) = call_right name (each_next (add no_parts (expr_of env (q l.first))) (map (next_of env) (map next_part l.more)))
        (rest_right l.more (add no_parts (expr_of env (q l.first))) (add_right no_parts (expr_of env (q l.first)) none_right (h l.first)))

    step : (y : Expr-F C) → Goal y
    step (Expr-F.Number at v ty) = number_right v ty
    step (Expr-F.Read r) = read_step r.name r.subscripts r.image
    step (Expr-F.Call c) = call_step c.name c.arguments.open c.arguments.close c.arguments.item
    step (Expr-F.Parens x) = h x.item
    step (Expr-F.Unary k x) = unary_right k.what k.at (expr_of env (q x)) (h x)
    step (Expr-F.Cast ty x) = cast_right ty.item.what (expr_of env (q x)) (h x)
    step (Expr-F.Chain x ls) = chain_right (expr_of env (q x)) (map (right_of env) (map link_part ls)) (h x) (links_right ls)
    step (Expr-F.Conditional c at a colon b) = choose_right (expr_of env (q c)) (expr_of env (q a)) (expr_of env (q b)) (h c) (h a) (h b)

  rolled : (y : Expr-F Expr) → Right (expr_step env (map-Expr Expr Typed (expr_of env) y)) → ExprRight (roll-Expr y)
  rolled y f = subst Right (sym (fold-roll-Expr Typed (expr_step env) y)) f

  pub expr_sees : (x : Expr) → Right (expr_of env x)
  expr_sees = ind-Expr ExprRight (λ x y i. subst (λ z. ExprRight (roll-Expr z)) i (rolled (map-Expr _ Expr (λ c. c.0) y) (step (λ c. c.0) (λ c. c.1) y)))

  -- ---- references, calls and arguments

  subscripts_see : (ds : List (Inside Expr)) (s : Parts) → PartsRight s → PartsRight (each_subscript s (map (inside_of env) ds))
  subscripts_see [] s f = f
  subscripts_see (d ∷ ds) s f = subscripts_see ds (add s (expr_of env d.item)) (add_right s (expr_of env d.item) f (expr_sees d.item))

  pub rest_sees : (ds : List (Next Expr)) (s : Parts) → PartsRight s → PartsRight (each_next s (map (next_of env) ds))
  rest_sees [] s f = f
  rest_sees (d ∷ ds) s f = rest_sees ds (add s (expr_of env d.item)) (add_right s (expr_of env d.item) f (expr_sees d.item))

  image_sees : (i : Option (Image Expr)) → ImageRight (option_map (λ i. expr_of env i.number.item) i)
  image_sees None = tt
  image_sees (Some i) = expr_sees i.number.item

  pub reference_sees : (r : Reference Expr) → Right (reference_of env r)
  reference_sees r = read_right r.name (each_subscript no_parts (map (inside_of env) r.subscripts)) (option_map (λ i. expr_of env i.number.item) r.image) (subscripts_see r.subscripts no_parts none_right) (image_sees r.image)

  arguments_see : (l : Option (CommaList Expr)) → PartsRight (arguments_of env l)
  arguments_see None = none_right
  arguments_see (Some l) = rest_sees l.more (add no_parts (expr_of env l.first)) (add_right no_parts (expr_of env l.first) none_right (expr_sees l.first))

  pub call_is_seen : (c : Call Expr) → Right (call env c.name (arguments_of env c.arguments.item))
  call_is_seen c = call_right c.name (arguments_of env c.arguments.item) (arguments_see c.arguments.item)
