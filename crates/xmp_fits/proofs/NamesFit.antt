-- What is made of a name and of a call fits where what is known there is true of the program.
use Rattle.std.proofs.Common.{◌≡◌, ◌∙◌, sym, ap, refl, subst, ◌++◌, ◌∷◌, [], ◌+◌, ◌-◌, ◌<◌, ◌&&◌, ◌||◌, not, ℕ, Bool, true, false, List, Option, Some, None, length, arith, eqb-true}
use Rattle.std.specs.Prelude.{⊤, ◌==◌, slice_get, nat_lt, is_none, if◌then◌else◌, codes}
use Rattle.std.specs.Option.{option_map}
use Rattle.std.proofs.lemmas.Bool.{lt-ltb, ltb-true}
use Rattle.std.proofs.lemmas.Option.{same_Some, none-some}
use Rattle.xmp_base.specs.declared.place.Place.{Place}
use Rattle.xmp_num.specs.declared.types.Ty.{Ty}
use Rattle.xmp_num.specs.declared.types.Ty.TheVariants.{Int}
use Rattle.xmp_scopes.specs.Names.{is_same, nearest, depth_of}
use Rattle.xmp_prog.specs.declared.expressions.Expr.{Expr}
use Rattle.xmp_prog.specs.declared.expressions.Expr.TheVariants as e
use Rattle.xmp_prog.specs.declared.expressions.Access.{Access, roll-Access}
use Rattle.xmp_prog.specs.declared.expressions.Expr.TheOpen.{Access-F}
use Rattle.xmp_prog.specs.declared.parts.Function as made_function
use Rattle.xmp_prog.specs.declared.parts.ProgParts.{ProgParts}
use Rattle.xmp_prog.specs.Fits.{has_coarrays}
use Rattle.xmp_syntax.specs.declared.parts.Name as named
use Rattle.xmp_names.specs.declared.names.Meaning.{Meaning}
use Rattle.xmp_names.specs.declared.names.Meaning.TheVariants.{Scalar, Array, Nodes, Template, Function}
use Rattle.xmp_names.specs.declared.names.Array as array
use Rattle.xmp_names.specs.declared.names.Signature.{Signature}
use Rattle.xmp_names.specs.declared.names.Environment.{Environment}
use Rattle.xmp_names.specs.declared.rules.Notes.{Notes}
use Rattle.xmp_names.specs.declared.rules.Rule.{Rule}
use Rattle.xmp_names.specs.declared.rules.Rule.TheVariants.{N1, N3, N5, N10}
use Rattle.xmp_names.specs.declared.typed.Typed.{Typed}
use Rattle.xmp_names.specs.declared.typed.Parts.{Parts}
use Rattle.xmp_names.specs.Rules.{unless, noted}
use Rattle.xmp_names.specs.Expressions.{add, is_function, is_first, may_name, unknown, of_type, is_nothing, cell_of, read_as, image_notes, read, intrinsic, call_intrinsic, called, call_of, call_as, may_call, judged_call, call}
use Rattle.xmp_parts.proofs.Unbroken.{left_none, right_none, left_true, right_true, holds}
use Rattle.xmp_fits.proofs.GoodWorlds.{ArrayOf}
use Rattle.xmp_fits.proofs.TermsFit.{NoneInside, ExprFits, EachFits, each_append}
use Rattle.xmp_fits.proofs.TermForms.{fits_scalar, fits_cell, fits_element, fits_image, fits_call, fits_node, fits_nodes}
use Rattle.xmp_fits.proofs.OperandsFit.{Fits, Right}

-- ---- what is known is true of a program

-- A function of the program has this result, and as many parameters as a call has arguments.
pub record FunctionOf (p : ProgParts) (k : ℕ) (result : Ty) (f : Signature) : Type 0 where
  pub made : made_function.Function
  pub is : slice_get p.functions k ≡ Some made
  pub gives : made.result ≡ result
  pub parameters : f.parameters ≡ length made.parameters

pub record Tells (env : Environment) (p : ProgParts) : Type 0 where
  pub scalars : (n : named.Name) (slot : ℕ) (ty : Ty) → nearest n.text env.scopes ≡ Some (Scalar slot ty) → slice_get p.scalars slot ≡ Some ty
  pub arrays : (k : ℕ) (a : array.Array) → slice_get env.arrays k ≡ Some a → ArrayOf p k a
  pub functions : (n : named.Name) (k : ℕ) (result : Ty) (f : Signature) → nearest n.text env.scopes ≡ Some (Function k result) → may_call env n (Some (Function k result)) ≡ true →
      slice_get env.functions k ≡ Some f → FunctionOf p k result f
  pub kind : has_coarrays p.kind ≡ env.coarray

-- ---- rules that break

pub full : {A : Type 0} (xs : List A) (x : A) → xs ++ x ∷ [] ≡ [] → ⊥
full [] x h = cc
full (y ∷ ys) x h = cc

test_of : (notes : Notes) (t : Bool) (rule : Rule) (at : Place) → (noted notes t rule at).broken ≡ [] → t ≡ true
test_of notes t rule at h = holds t rule at (right_none notes.broken (unless t rule at) h)

before : (notes : Notes) (t : Bool) (rule : Rule) (at : Place) → (noted notes t rule at).broken ≡ [] → notes.broken ≡ []
before notes t rule at h = left_none notes.broken (unless t rule at) h

second : (a b : Bool) → (not a || b) ≡ true → a ≡ true → b ≡ true
second true b h k = h
second false b h k = cc

no_both : (b : Bool) → not b ≡ true → b ≡ true → ⊥
no_both true h k = cc
no_both false h k = cc

none_in : {A : Type 0} (xs : List A) → is_nothing xs ≡ true → xs ≡ []
none_in [] h = refl
none_in (x ∷ xs) h = absurd (cc)

module _ (env : Environment) (p : ProgParts) where
  -- ---- parts in a row

  abbrev pub PartsRight : Parts → Type 0
  PartsRight q = q.notes.broken ≡ [] → EachFits env p q.types q.made

  pub add_right : (q : Parts) (x : Typed) → PartsRight q → Right env p x → PartsRight (add q x)
  add_right q x f g n =
      let r = g (right_none q.notes.broken x.notes.broken n) in
      each_append env p q.types (x.operand.ty ∷ []) q.made (x.operand.made ∷ []) (f (left_none q.notes.broken x.notes.broken n)) ((r.ty, r.typed, r.fits), tt)

  -- ---- names

  abbrev pub ImageRight : Option Typed → Type 0
  ImageRight None = ⊤
  ImageRight (Some x) = Right env p x

  abbrev ImageFits : Option Typed → Type 0
  ImageFits None = ⊤
  ImageFits (Some x) = Fits env p x.operand

  unknown_right : (notes : Notes) (rule : Rule) (at : Place) → Right env p (unknown notes rule at)
  unknown_right notes rule at h = absurd (full notes.broken (record { rule = rule; at = at }) h)

  of_type_fits : (ty : Ty) (made : Expr) (notes : Notes) → ExprFits env p ty made → Fits env p (of_type ty made notes).operand
  of_type_fits ty made notes f = record { ty = ty; typed = refl; fits = f; lies = tt; constant = tt }

  module _ (t : Tells env p) where
    element_made : (a : array.Array) (k : ℕ) (at : Place) (q : Parts) (image : Option Typed) → slice_get env.arrays k ≡ Some a → EachFits env p q.types q.made → ImageFits image →
        length q.made ≡ length a.extents → (a.coarray || is_none (option_map (λ x. x.operand.made) image)) ≡ true → (NoneInside env → is_function env.region ≡ true → ⊥) →
        ExprFits env p a.ty (e.Cell (roll-Access (record { array = k; subscripts = q.made; image = option_map (λ x. x.operand.made) image; at = at })))
    element_made a k at q None h f g n c own =
        let b = t.arrays k a h in
        let x : Access-F Expr Access = record { array = k; subscripts = q.made; image = None; at = at } in
        subst (λ u. ExprFits env p u (e.Cell (roll-Access x))) b.same.ty (fits_cell env p b.made.ty (roll-Access x) (fits_element env p b.made k q.types q.made at b.is (n ∙ ap length (sym b.same.extents)) f own))
    element_made a k at q (Some i) h f g n c own =
        let b = t.arrays k a h in
        let x : Access-F Expr Access = record { array = k; subscripts = q.made; image = Some i.operand.made; at = at } in
        subst (λ u. ExprFits env p u (e.Cell (roll-Access x))) b.same.ty
        (fits_cell env p b.made.ty (roll-Access x) (fits_image env p b.made k q.types q.made g.ty i.operand.made at b.is (n ∙ ap length (sym b.same.extents)) f (b.same.image ∙ alone a.coarray c) g.fits own))
      where
        alone : (b : Bool) → (b || false) ≡ true → b ≡ true
        alone true h = refl
        alone false h = h

    cell_right : (o : Option array.Array) (k : ℕ) (at : Place) (q : Parts) (image : Option Typed) (notes : Notes) → slice_get env.arrays k ≡ o → EachFits env p q.types q.made → ImageFits image →
        (NoneInside env → is_function env.region ≡ true → ⊥) → Right env p (cell_of o k at q.made (option_map (λ x. x.operand.made) image) notes)
    cell_right None k at q image notes h f g own n = unknown_right notes N3 at n
    cell_right (Some a) k at q image notes h f g own n =
        let both = test_of notes _ N3 at n in
        of_type_fits a.ty (e.Cell (roll-Access (record { array = k; subscripts = q.made; image = option_map (λ x. x.operand.made) image; at = at }))) notes
        (element_made a k at q image h f g (eqb-true (length q.made) (length a.extents) (left_true (length q.made == length a.extents) _ both)) (right_true (length q.made == length a.extents) _ both) own)

    no_array : (n : named.Name) (k : ℕ) → nearest n.text env.scopes ≡ Some (Array k) → may_name env n (Some (Array k)) ≡ true → NoneInside env → is_function env.region ≡ true → ⊥
    no_array n k h m q f = no_both (is_first (depth_of n.text env.scopes)) (second (is_function env.region) _ m f) (q n k h)

    read_as_right : (name : named.Name) (meaning : Option Meaning) (q : Parts) (image : Option Typed) (notes : Notes) → nearest name.text env.scopes ≡ meaning → may_name env name meaning ≡ true →
        EachFits env p q.types q.made → ImageFits image → Right env p (read_as env meaning name.at q.made (option_map (λ x. x.operand.made) image) notes)
    read_as_right name (Some (Scalar slot ty)) q image notes h m f g n =
        of_type_fits ty (e.Scalar slot name.at) notes (fits_scalar env p ty slot name.at (t.scalars name slot ty h) (record { name = name; ty = ty; means = h; may = m }))
    read_as_right name (Some (Array k)) q image notes h m f g n = cell_right (slice_get env.arrays k) k name.at q image notes refl f g (no_array name k h m) n
    read_as_right name (Some (Nodes k)) q image notes h m f g n = unknown_right notes N3 name.at n
    read_as_right name (Some (Template k)) q image notes h m f g n = unknown_right notes N3 name.at n
    read_as_right name (Some (Function k r)) q image notes h m f g n = unknown_right notes N3 name.at n
    read_as_right name None q image notes h m f g n = unknown_right notes N1 name.at n

    -- no rule has broken before the last
    read_before : (meaning : Option Meaning) (at : Place) (xs : List Expr) (image : Option Expr) (notes : Notes) → (read_as env meaning at xs image notes).notes.broken ≡ [] → notes.broken ≡ []
    read_before (Some (Scalar slot ty)) at xs image notes n = before notes (is_nothing xs && is_none image) N3 at n
    read_before (Some (Array k)) at xs image notes n = at_cell (slice_get env.arrays k) n
      where
        at_cell : (o : Option array.Array) → (cell_of o k at xs image notes).notes.broken ≡ [] → notes.broken ≡ []
        at_cell None n = before notes false N3 at n
        at_cell (Some a) n = before notes ((length xs == length a.extents) && (a.coarray || is_none image)) N3 at n
    read_before (Some (Nodes k)) at xs image notes n = before notes false N3 at n
    read_before (Some (Template k)) at xs image notes n = before notes false N3 at n
    read_before (Some (Function k r)) at xs image notes n = before notes false N3 at n
    read_before None at xs image notes n = before notes false N1 at n

    parts_before : (image : Option Typed) (notes : Notes) → (image_notes image notes).broken ≡ [] → notes.broken ≡ []
    parts_before None notes n = n
    parts_before (Some x) notes n = left_none notes.broken x.notes.broken n

    image_before : (image : Option Typed) (notes : Notes) → ImageRight image → (image_notes image notes).broken ≡ [] → ImageFits image
    image_before None notes f n = tt
    image_before (Some x) notes f n = f (right_none notes.broken x.notes.broken n)

    pub read_right : (name : named.Name) (q : Parts) (image : Option Typed) → PartsRight q → ImageRight image → Right env p (read env name q image)
    read_right name q image f g n =
        let meaning : Option Meaning = nearest name.text env.scopes in
        let notes : Notes = image_notes image q.notes in
        let judged : Notes = noted notes (may_name env name meaning) N5 name.at in
        let b = read_before meaning name.at q.made (option_map (λ x. x.operand.made) image) judged n in
        let c = before notes (may_name env name meaning) N5 name.at b in
        read_as_right name meaning q image judged refl (test_of notes (may_name env name meaning) N5 name.at b) (f (parts_before image q.notes c)) (image_before image q.notes g c) n

    -- ---- calls

    intrinsic_fits : (c a b : Bool) (made : Expr) → has_coarrays p.kind ≡ c → (if c then (if a then Some e.Node else (if b then Some e.Nodes else None)) else None) ≡ Some made → ExprFits env p Int made
    intrinsic_fits true true b made k h = subst (ExprFits env p Int) (same_Some e.Node made h) (fits_node env p k)
    intrinsic_fits true false true made k h = subst (ExprFits env p Int) (same_Some e.Nodes made h) (fits_nodes env p k)
    intrinsic_fits true false false made k h = absurd (none-some made h)
    intrinsic_fits false a b made k h = absurd (none-some made h)

    intrinsic_right : (o : Option Expr) (name : named.Name) (q : Parts) → intrinsic name.text env.coarray ≡ o → Right env p (call_intrinsic o name.at q)
    intrinsic_right None name q h n = unknown_right q.notes N1 name.at n
    intrinsic_right (Some made) name q h n =
        of_type_fits Int made q.notes (intrinsic_fits env.coarray (is_same name.text (codes "xmp_node_num")) (is_same name.text (codes "xmp_num_nodes")) made t.kind h)

    -- a function that is called in another is earlier than that
    earlier : (name : named.Name) (k : ℕ) (r : Ty) → may_call env name (Some (Function k r)) ≡ true → is_function env.region ≡ true → nat_lt k (length env.functions - 1) ≡ true
    earlier name k r m f =
        let own : nat_lt (k + 1) (length env.functions) ≡ true = second (is_function env.region) _ (left_true (may_name env name (Some (Function k r))) _ m) f in
        let l : k + 1 < length env.functions = ltb-true (k + 1) (length env.functions) own in
        lt-ltb k (length env.functions - 1) (omega arith)

    call_of_right : (o : Option Signature) (name : named.Name) (k : ℕ) (r : Ty) (q : Parts) → slice_get env.functions k ≡ o → nearest name.text env.scopes ≡ Some (Function k r) → PartsRight q →
        Right env p (call_of o k r name.at (record q { notes = noted q.notes (may_call env name (Some (Function k r))) N5 name.at }))
    call_of_right None name k r q h m f n = unknown_right (noted q.notes (may_call env name (Some (Function k r))) N5 name.at) N3 name.at n
    call_of_right (Some s) name k r q h m f n =
        let judged : Notes = noted q.notes (may_call env name (Some (Function k r))) N5 name.at in
        let counted : Notes = noted judged (length q.made == s.parameters) N3 name.at in
        let b : counted.broken ≡ [] = before counted (nat_lt s.depth 33) N10 name.at n in
        let c : judged.broken ≡ [] = before judged (length q.made == s.parameters) N3 name.at b in
        let may : may_call env name (Some (Function k r)) ≡ true = test_of q.notes (may_call env name (Some (Function k r))) N5 name.at c in
        let x = t.functions name k r s m may h in
        let many : length q.made ≡ length x.made.parameters = eqb-true (length q.made) s.parameters (test_of judged (length q.made == s.parameters) N3 name.at b) ∙ x.parameters in
        of_type_fits r (e.Call k q.made name.at) (called s.depth (noted counted (nat_lt s.depth 33) N10 name.at))
        (subst (λ u. ExprFits env p u (e.Call k q.made name.at)) x.gives (fits_call env p k x.made q.types q.made name.at x.is many (f (before q.notes _ N5 name.at c)) (earlier name k r may)))

    call_as_right : (name : named.Name) (meaning : Option Meaning) (q : Parts) → nearest name.text env.scopes ≡ meaning → PartsRight q → Right env p (call_as env meaning name (judged_call env name meaning q))
    call_as_right name (Some (Function k r)) q h f n = call_of_right (slice_get env.functions k) name k r q refl h f n
    call_as_right name (Some (Scalar slot ty)) q h f n = unknown_right (noted q.notes (may_call env name (Some (Scalar slot ty))) N5 name.at) N3 name.at n
    call_as_right name (Some (Array k)) q h f n = unknown_right (noted q.notes (may_call env name (Some (Array k))) N5 name.at) N3 name.at n
    call_as_right name (Some (Nodes k)) q h f n = unknown_right (noted q.notes (may_call env name (Some (Nodes k))) N5 name.at) N3 name.at n
    call_as_right name (Some (Template k)) q h f n = unknown_right (noted q.notes (may_call env name (Some (Template k))) N5 name.at) N3 name.at n
    call_as_right name None q h f n = intrinsic_right (intrinsic name.text env.coarray) name q refl n

    pub call_right : (name : named.Name) (q : Parts) → PartsRight q → Right env p (call env name q)
    call_right name q f n = call_as_right name (nearest name.text env.scopes) q refl f n
