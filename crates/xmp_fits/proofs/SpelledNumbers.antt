-- The numbers of a tree lie in their types where those of its tokens do.
use Rattle.std.proofs.Common.{◌≡◌, ◌∙◌, refl, sym, ap, List, [], ◌∷◌, map, Bool, true, ◌&&◌, Option, Some, None}
use Rattle.std.specs.List.{All, list_all, AllByRecursion}
use Rattle.std.proofs.lemmas.List.Elements.{recursion_from_All}
use Rattle.xmp_base.specs.declared.place.Place.{Place}
use Rattle.xmp_lex.specs.declared.token.Token.{Token}
use Rattle.xmp_lex.specs.declared.token.TokenKind.TheVariants as t
use Rattle.xmp_lex.specs.declared.token.Mark.{Mark}
use Rattle.xmp_lex.specs.declared.token.Mark.TheVariants as m
use Rattle.xmp_lex.specs.declared.token.Reserved.TheVariants as w
use Rattle.xmp_syntax.specs.declared.parts.Name.{Name}
use Rattle.xmp_syntax.specs.declared.parts.Placed.{Placed}
use Rattle.xmp_syntax.specs.declared.parts.Several.{Several}
use Rattle.xmp_syntax.specs.declared.parts.Several.TheVariants as sev
use Rattle.xmp_syntax.specs.declared.parts.Single.{Single}
use Rattle.xmp_syntax.specs.declared.parts.Single.TheVariants as one
use Rattle.xmp_syntax.specs.declared.parts.TypeWords.{TypeWords}
use Rattle.xmp_syntax.specs.declared.parts.TypeWords.TheVariants as tw
use Rattle.xmp_syntax.specs.declared.declaration.Declarator.{Declarator}
use Rattle.xmp_syntax.specs.declared.declaration.Declarator.TheVariants as d
use Rattle.xmp_syntax.specs.declared.declaration.Declaration.{Declaration}
use Rattle.xmp_syntax.specs.declared.directive.DirectiveLine.{DirectiveLine}
use Rattle.xmp_syntax.specs.declared.directive.DistForm.{DistForm}
use Rattle.xmp_syntax.specs.declared.directive.DistForm.TheVariants as f
use Rattle.xmp_syntax.specs.declared.directive.AlignDimension.{AlignDimension}
use Rattle.xmp_syntax.specs.declared.directive.AlignDimension.TheVariants as al
use Rattle.xmp_syntax.specs.declared.directive.Point.{Point}
use Rattle.xmp_syntax.specs.declared.directive.Point.TheVariants as pt
use Rattle.xmp_syntax.specs.declared.directive.Section.{Section}
use Rattle.xmp_syntax.specs.declared.directive.Section.TheVariants as sc
use Rattle.xmp_syntax.specs.declared.directive.Sections.{Sections}
use Rattle.xmp_syntax.specs.declared.directive.Piece.{Piece}
use Rattle.xmp_syntax.specs.declared.directive.Piece.TheVariants as pi
use Rattle.xmp_syntax.specs.declared.directive.NodesSet.{NodesSet}
use Rattle.xmp_syntax.specs.declared.directive.Mapping.{Mapping}
use Rattle.xmp_syntax.specs.declared.directive.Mapping.TheVariants as mp
use Rattle.xmp_syntax.specs.declared.directive.ReductionOperator.{ReductionOperator}
use Rattle.xmp_syntax.specs.declared.directive.ReductionOperator.TheVariants as ro
use Rattle.xmp_syntax.specs.declared.directive.Reduction.{Reduction}
use Rattle.xmp_syntax.specs.declared.directive.LoopLine.{LoopLine}
use Rattle.xmp_syntax.specs.declared.directive.TaskLine.{TaskLine}
use Rattle.xmp_syntax.specs.declared.statement.Simple.{Simple}
use Rattle.xmp_syntax.specs.declared.statement.Simple.TheVariants as si
use Rattle.xmp_syntax.specs.declared.statement.ForFirst.{ForFirst}
use Rattle.xmp_syntax.specs.declared.statement.ForFirst.TheVariants as ff
use Rattle.xmp_syntax.specs.declared.statement.ForHead.{ForHead}
use Rattle.xmp_syntax.specs.declared.statement.Plain.{Plain}
use Rattle.xmp_syntax.specs.declared.statement.Plain.TheVariants as pl
use Rattle.xmp_syntax.specs.declared.statement.BlockItem.{BlockItem}
use Rattle.xmp_syntax.specs.declared.statement.BlockItem.TheVariants as b
use Rattle.xmp_syntax.specs.declared.statement.Stmt as made_stmt
use Rattle.xmp_syntax.specs.declared.program.Function.{Function}
use Rattle.xmp_syntax.specs.declared.program.Parameters.{Parameters}
use Rattle.xmp_syntax.specs.declared.program.Parameters.TheVariants as pr
use Rattle.xmp_syntax.specs.declared.program.TopItem.{TopItem}
use Rattle.xmp_syntax.specs.declared.program.TopItem.TheVariants as top
use Rattle.xmp_syntax.specs.declared.program.Tree.{Tree}
use Rattle.xmp_names.specs.Lists.{listed}
use Rattle.xmp_syntax.specs.declared.parts.Inside.{Inside}
use Rattle.xmp_syntax.specs.declared.parts.Image as made_image
use Rattle.xmp_syntax.specs.declared.parts.CommaList.{CommaList}
use Rattle.xmp_syntax.specs.declared.parts.Next.{Next}
use Rattle.xmp_syntax.specs.declared.parts.Link as made_link
use Rattle.xmp_syntax.specs.declared.parts.Reference.{Reference}
use Rattle.xmp_syntax.specs.declared.parts.Call.{Call}
use Rattle.xmp_syntax.specs.declared.expression.Expr as made
use Rattle.xmp_syntax.specs.declared.expression.Expr.TheFolds.{fold-roll-Expr}
use Rattle.xmp_syntax.specs.declared.expression.Expr.TheOpen.{Expr-F}
use Rattle.xmp_syntax.specs.declared.expression.Expr.TheVariants as e
use Rattle.xmp_syntax.specs.Trees as tree
use Rattle.xmp_syntax.specs.View.{expr_view, ref_view, subscripts_view, image_view, arguments_view, rest_view, stmt_view, items_view}
use Rattle.std.specs.Prelude.{ℕ, codes}
use Rattle.xmp_syntax.specs.Spell as sp
use Rattle.xmp_syntax.specs.Spell.{Text, ◌at◌, each, list, next, optional, in_brackets, dims, spell, spell_ref, spell_subscripts, spell_image, spell_arguments, spell_rest, spell_links, expr}
use Rattle.xmp_syntax.proofs.Backward.{back, back_ref, back_subscripts, back_image, back_arguments, back_rest, back_links, back_view}
use Rattle.xmp_syntax.proofs.BackStatements as bs
use Rattle.xmp_parts.proofs.Unbroken.{both_true}
use Rattle.xmp_fits.proofs.NumbersLie.{plain_is, if_is, else_is, while_is, for_is, loop_is, task_is, block_is, tasks_are}
use Rattle.xmp_fits.specs.NumbersLie as n
use Rattle.xmp_fits.specs.NumbersLie.{number_lies, numbers_lie, numbers_step, subscripts_lie, image_lies, reference_lies, rest_lies, arguments_lie, there_lies}

-- the numbers of tokens lie in their types
abbrev pub Lies : List Token → Type 0
Lies ts = AllByRecursion (λ token. number_lies token.kind ≡ true) ts

-- where the numbers of a part's tokens and of those behind it lie in their types, so do the part's and the rest's
abbrev pub Told : Bool → Text → Type 0
Told v f = (r : List Token) → Lies (f r) → (v ≡ true) × Lies r

-- ---- one level of an expression

abbrev inside_lies : Inside made.Expr → Inside Bool
inside_lies d = record { «open» = d.open; item = numbers_lie d.item; close = d.close }

abbrev next_lies : Next made.Expr → Next Bool
next_lies n = record { comma = n.comma; item = numbers_lie n.item }

abbrev link_lies : made_link.Link made.Expr → made_link.Link Bool
link_lies l = record { operator = l.operator; right = numbers_lie l.right }

abbrev links_lie : List (made_link.Link made.Expr) → Bool
links_lie ls = list_all (λ l. numbers_lie l.right) ls

same_inside : (ds : List (Inside made.Expr)) → list_all (λ d. d.item) (map inside_lies ds) ≡ subscripts_lie ds
same_inside [] = refl
same_inside (d ∷ ds) = ap (λ l. numbers_lie d.item && l) (same_inside ds)

same_rest : (ns : List (Next made.Expr)) → list_all (λ n. n.item) (map next_lies ns) ≡ rest_lies ns
same_rest [] = refl
same_rest (n ∷ ns) = ap (λ l. numbers_lie n.item && l) (same_rest ns)

same_links : (ls : List (made_link.Link made.Expr)) → list_all (λ l. l.right) (map link_lies ls) ≡ links_lie ls
same_links [] = refl
same_links (l ∷ ls) = ap (λ r. numbers_lie l.right && r) (same_links ls)

read_is : (x : Reference made.Expr) → numbers_lie (e.Read x) ≡ reference_lies x
read_is x = by_image x.image where
  by_image : (i : Option (made_image.Image made.Expr)) → numbers_lie (e.Read (record { name = x.name; subscripts = x.subscripts; image = i })) ≡ reference_lies (record { name = x.name; subscripts = x.subscripts; image = i })
  by_image None = ap numbers_lie (sym (e.rolls-Read _)) ∙ fold-roll-Expr Bool numbers_step (Expr-F.Read (record { name = x.name; subscripts = x.subscripts; image = None })) ∙ ap (λ l. l && true) (same_inside x.subscripts)
  by_image (Some i) = ap numbers_lie (sym (e.rolls-Read _)) ∙ fold-roll-Expr Bool numbers_step (Expr-F.Read (record { name = x.name; subscripts = x.subscripts; image = Some i })) ∙ ap (λ l. l && numbers_lie i.number.item) (same_inside x.subscripts)

call_is : (x : Call made.Expr) → numbers_lie (e.Call x) ≡ arguments_lie x.arguments.item
call_is x = by_arguments x.arguments.item where
  by_arguments : (i : Option (CommaList made.Expr)) → numbers_lie (e.Call (record { name = x.name; arguments = record { «open» = x.arguments.open; item = i; close = x.arguments.close } })) ≡ arguments_lie i
  by_arguments None = ap numbers_lie (sym (e.rolls-Call _)) ∙ fold-roll-Expr Bool numbers_step (Expr-F.Call (record { name = x.name; arguments = record { «open» = x.arguments.open; item = None; close = x.arguments.close } }))
  by_arguments (Some i) = ap numbers_lie (sym (e.rolls-Call _)) ∙ fold-roll-Expr Bool numbers_step (Expr-F.Call (record { name = x.name; arguments = record { «open» = x.arguments.open; item = Some i; close = x.arguments.close } })) ∙ ap (λ l. numbers_lie i.first && l) (same_rest i.more)

-- ---- expressions, as contracts speak of them

mutual
  spell_told : (x : tree.Expr) → Told (numbers_lie (back x)) (spell x)
  spell_told (tree.number p n ty) r h = (ap numbers_lie (sym (e.rolls-Number p n ty)) ∙ fold-roll-Expr Bool numbers_step (Expr-F.Number p n ty) ∙ h.0, h.1)
  spell_told (tree.read x) r h = let a = ref_told x r h in (read_is (back_ref x) ∙ a.0, a.1)
  spell_told (tree.call f o xs c) r h =
      let a = arguments_told xs (t.Mark m.CloseParen at c ∷ r) h.1.1 in
      (call_is (record { name = f; arguments = record { «open» = o; item = back_arguments xs; close = c } }) ∙ a.0, a.1.1)
  spell_told (tree.parens o x c) r h =
      let a = spell_told x (t.Mark m.CloseParen at c ∷ r) h.1 in
      (ap numbers_lie (sym (e.rolls-Parens _)) ∙ fold-roll-Expr Bool numbers_step (Expr-F.Parens (record { «open» = o; item = back x; close = c })) ∙ a.0, a.1.1)
  spell_told (tree.unary op p x) r h =
      let a = spell_told x r h.1 in
      (ap numbers_lie (sym (e.rolls-Unary _ _)) ∙ fold-roll-Expr Bool numbers_step (Expr-F.Unary (record { what = op; at = p }) (back x)) ∙ a.0, a.1)
  spell_told (tree.cast o ty p c x) r h =
      let a = spell_told x r h.1.1.1 in
      (ap numbers_lie (sym (e.rolls-Cast _ _)) ∙ fold-roll-Expr Bool numbers_step (Expr-F.Cast (record { «open» = o; item = record { what = ty; at = p }; close = c }) (back x)) ∙ a.0, a.1)
  spell_told (tree.chain x ls) r h =
      let a = spell_told x (spell_links ls r) h in
      let b = links_told ls r a.1 in (
        ap numbers_lie (sym (e.rolls-Chain _ _)) ∙ fold-roll-Expr Bool numbers_step (Expr-F.Chain (back x) (back_links ls)) ∙ ap (λ l. numbers_lie (back x) && l) (same_links (back_links ls))
            ∙ both_true (numbers_lie (back x)) (links_lie (back_links ls)) a.0 b.0,
        b.1,
      )
  spell_told (tree.conditional x p y q z) r h =
      let a = spell_told x (t.Mark m.Question at p ∷ spell y (t.Mark m.Colon at q ∷ spell z r)) h in
      let b = spell_told y (t.Mark m.Colon at q ∷ spell z r) a.1.1 in
      let c = spell_told z r b.1.1 in (
        ap numbers_lie (sym (e.rolls-Conditional _ _ _ _ _)) ∙ fold-roll-Expr Bool numbers_step (Expr-F.Conditional (back x) p (back y) q (back z))
            ∙ both_true (numbers_lie (back x)) (numbers_lie (back y) && numbers_lie (back z)) a.0 (both_true (numbers_lie (back y)) (numbers_lie (back z)) b.0 c.0),
        c.1,
      )

  ref_told : (x : tree.Ref) → Told (reference_lies (back_ref x)) (spell_ref x)
  ref_told (tree.ref n ds i) r h =
      let a = subscripts_told ds (spell_image i r) h.1 in
      let b = image_told i r a.1 in
      (both_true (subscripts_lie (back_subscripts ds)) (image_lies (back_image i)) a.0 b.0, b.1)

  subscripts_told : (x : tree.Subscripts) → Told (subscripts_lie (back_subscripts x)) (spell_subscripts x)
  subscripts_told tree.no_more r h = (refl, h)
  subscripts_told (tree.subscript o x c ds) r h =
      let a = spell_told x (t.Mark m.CloseBracket at c ∷ spell_subscripts ds r) h.1 in
      let b = subscripts_told ds r a.1.1 in
      (both_true (numbers_lie (back x)) (subscripts_lie (back_subscripts ds)) a.0 b.0, b.1)

  image_told : (x : tree.Image) → Told (image_lies (back_image x)) (spell_image x)
  image_told tree.no_image r h = (refl, h)
  image_told (tree.image p o x c) r h = let a = spell_told x (t.Mark m.CloseBracket at c ∷ r) h.1.1 in (a.0, a.1.1)

  arguments_told : (x : tree.Arguments) → Told (arguments_lie (back_arguments x)) (spell_arguments x)
  arguments_told tree.no_arguments r h = (refl, h)
  arguments_told (tree.arguments x es) r h =
      let a = spell_told x (spell_rest es r) h in
      let b = rest_told es r a.1 in
      (both_true (numbers_lie (back x)) (rest_lies (back_rest es)) a.0 b.0, b.1)

  rest_told : (x : tree.Rest) → Told (rest_lies (back_rest x)) (spell_rest x)
  rest_told tree.end r h = (refl, h)
  rest_told (tree.comma p x es) r h =
      let a = spell_told x (spell_rest es r) h.1 in
      let b = rest_told es r a.1 in
      (both_true (numbers_lie (back x)) (rest_lies (back_rest es)) a.0 b.0, b.1)

  links_told : (x : tree.Links) → Told (links_lie (back_links x)) (spell_links x)
  links_told tree.last r h = (refl, h)
  links_told (tree.link op p x ls) r h =
      let a = spell_told x (spell_links ls r) h.1 in
      let b = links_told ls r a.1 in
      (both_true (numbers_lie (back x)) (links_lie (back_links ls)) a.0 b.0, b.1)

-- ---- expressions of a tree, and the parts that hold them

pub expr_told : (x : made.Expr) → Told (numbers_lie x) (expr x)
expr_told x r h = let a = spell_told (expr_view x) r h in (sym (ap numbers_lie (back_view x)) ∙ a.0, a.1)

subs_seen : (ds : List (Inside made.Expr)) → Told (subscripts_lie ds) (spell_subscripts (subscripts_view ds))
subs_seen [] r h = (refl, h)
subs_seen (d ∷ ds) r h =
    let a = expr_told d.item (t.Mark m.CloseBracket at d.close ∷ spell_subscripts (subscripts_view ds) r) h.1 in
    let b = subs_seen ds r a.1.1 in
    (both_true (numbers_lie d.item) (subscripts_lie ds) a.0 b.0, b.1)

image_seen : (i : Option (made_image.Image made.Expr)) → Told (image_lies i) (spell_image (image_view i))
image_seen None r h = (refl, h)
image_seen (Some i) r h = let a = expr_told i.number.item (t.Mark m.CloseBracket at i.number.close ∷ r) h.1.1 in (a.0, a.1.1)

pub reference_told : (x : Reference made.Expr) → Told (reference_lies x) (spell_ref (ref_view x))
reference_told x r h =
    let a = subs_seen x.subscripts (spell_image (image_view x.image) r) h.1 in
    let b = image_seen x.image r a.1 in
    (both_true (subscripts_lie x.subscripts) (image_lies x.image) a.0 b.0, b.1)

pub rest_seen : (ns : List (Next made.Expr)) → Told (rest_lies ns) (spell_rest (rest_view ns))
rest_seen [] r h = (refl, h)
rest_seen (n ∷ ns) r h =
    let a = expr_told n.item (spell_rest (rest_view ns) r) h.1 in
    let b = rest_seen ns r a.1 in
    (both_true (numbers_lie n.item) (rest_lies ns) a.0 b.0, b.1)

pub arguments_seen : (x : Option (CommaList made.Expr)) → Told (arguments_lie x) (spell_arguments (arguments_view x))
arguments_seen None r h = (refl, h)
arguments_seen (Some x) r h =
    let a = expr_told x.first (spell_rest (rest_view x.more) r) h in
    let b = rest_seen x.more r a.1 in
    (both_true (numbers_lie x.first) (rest_lies x.more) a.0 b.0, b.1)

-- ---- parts in a row

each_told : {A : Type 0} (f : A → Text) (v : A → Bool) → ((x : A) → Told (v x) (f x)) → (xs : List A) → Told (list_all v xs) (each f xs)
each_told f v k [] r h = (refl, h)
each_told f v k (x ∷ xs) r h =
    let a = k x (each f xs r) h in
    let b = each_told f v k xs r a.1 in
    (both_true (v x) (list_all v xs) a.0 b.0, b.1)

dims_told : {A : Type 0} (f : A → Text) (v : A → Bool) → ((x : A) → Told (v x) (f x)) → (xs : List (Inside A)) → Told (list_all (λ d. v d.item) xs) (dims f xs)
dims_told f v k = each_told (in_brackets f) (λ d. v d.item) (λ d r h. let a = k d.item (sp.sign m.CloseBracket d.close r) h.1 in (a.0, a.1.1))

more_told : {A : Type 0} (f : A → Text) (v : A → Bool) → ((x : A) → Told (v x) (f x)) → (ns : List (Next A)) → Told (list_all v (map (λ n. n.item) ns)) (each (next f) ns)
more_told f v k [] r h = (refl, h)
more_told f v k (x ∷ xs) r h =
    let a = k x.item (each (next f) xs r) h.1 in
    let b = more_told f v k xs r a.1 in
    (both_true (v x.item) (list_all v (map (λ n. n.item) xs)) a.0 b.0, b.1)

list_told : {A : Type 0} (f : A → Text) (v : A → Bool) → ((x : A) → Told (v x) (f x)) → (x : CommaList A) → Told (list_all v (listed x)) (list f x)
list_told f v k x r h =
    let a = k x.first (each (next f) x.more r) h in
    let b = more_told f v k x.more r a.1 in
    (both_true (v x.first) (list_all v (map (λ n. n.item) x.more)) a.0 b.0, b.1)

optional_told : {A : Type 0} (f : A → Text) (v : A → Bool) → ((x : A) → Told (v x) (f x)) → (x : Option A) → Told (there_lies v x) (optional f x)
optional_told f v k None r h = (refl, h)
optional_told f v k (Some x) r h = k x r h

abbrev yes : {A : Type 0} → A → Bool
yes x = true

name_told : (x : Name) → Told true (sp.name x)
name_told x r h = (refl, h.1)

names_told : (x : CommaList Name) → (r : List Token) → Lies (sp.names x r) → Lies r
names_told x r h = (list_told sp.name yes name_told x r h).1

words_told : (x : TypeWords) → (r : List Token) → Lies (sp.type_words x r) → Lies r
words_told (tw.Int p) r h = h.1
words_told (tw.Long p) r h = h.1
words_told (tw.LongInt p q) r h = h.1.1

colon_told : (x : Place × made.Expr) → Told (n.second_lies x) (sp.after_colon x)
colon_told x r h = expr_told x.1 r h.1

value_told : (x : Place × made.Expr) → Told (n.second_lies x) (sp.value x)
value_told x r h = expr_told x.1 r h.1

exprs_told : (x : List (Inside made.Expr)) → Told (subscripts_lie x) (dims expr x)
exprs_told = dims_told expr numbers_lie expr_told

parens_told : (x : Inside made.Expr) → Told (numbers_lie x.item) (sp.in_parens expr x)
parens_told x r h = let a = expr_told x.item (sp.sign m.CloseParen x.close r) h.1 in (a.0, a.1.1)

-- ---- declarations

coarray_told : (x : Place × Inside Place) → Told true (sp.coarray x)
coarray_told x r h = (refl, h.1.1.1.1)

declarator_told : (x : Declarator) → Told (n.declarator_lies x) (sp.declarator x)
declarator_told (d.Scalar x v) r h = optional_told sp.value n.second_lies value_told v r h.1
declarator_told (d.Array x ds c) r h =
    let a = exprs_told ds (optional sp.coarray c r) h.1 in
    (a.0, (optional_told sp.coarray yes coarray_told c r a.1).1)

declaration_told : (x : Declaration) → Told (n.declaration_lies x) (sp.spell_declaration x)
declaration_told x r h =
    let a = list_told sp.declarator n.declarator_lies declarator_told x.items (sp.sign m.Semicolon x.end r) (words_told x.ty (list sp.declarator x.items (sp.sign m.Semicolon x.end r)) h) in (a.0, a.1.1)

-- ---- directives

line_told : (v : Bool) (bytes : List ℕ) (inner : Text) (x : DirectiveLine) → Told v inner → Told v (sp.directive_line bytes inner x)
line_told v bytes inner x k r h = let a = k (t.Close at x.end ∷ r) h.1.1 in (a.0, a.1.1)

form_told : (x : DistForm) → Told (n.form_lies x) (sp.dist_form x)
form_told (f.Whole p) r h = (refl, h.1)
form_told (f.Block p) r h = (refl, h.1)
form_told (f.Cyclic p x) r h = optional_told (sp.in_parens expr) (λ w. numbers_lie w.item) parens_told x r h.1
form_told (f.Gblock p x) r h =
    let a = list_told expr numbers_lie expr_told x.item.item (sp.sign m.CloseBrace x.item.close (sp.sign m.CloseParen x.close r)) h.1.1.1 in (a.0, a.1.1.1)

dimension_told : (x : AlignDimension) → Told true (sp.align_dimension x)
dimension_told (al.Star p) r h = (refl, h.1)
dimension_told (al.Dummy x) r h = (refl, h.1)

offset_told : (x : Placed Mark × made.Expr) → Told (numbers_lie x.1) (sp.offset x)
offset_told x r h = expr_told x.1 r h.1

point_told : (x : Point) → Told (n.point_lies x) (sp.point x)
point_told (pt.Star p) r h = (refl, h.1)
point_told (pt.Index x o) r h = optional_told sp.offset (λ x. numbers_lie x.1) offset_told o r h.1

section_told : (x : Section) → Told (n.section_lies x) (sp.section x)
section_told (sc.All p) r h = (refl, h.1)
section_told (sc.Numbers x y z) r h =
    let a = expr_told x (optional sp.after_colon y (optional sp.after_colon z r)) h in
    let b = optional_told sp.after_colon n.second_lies colon_told y (optional sp.after_colon z r) a.1 in
    let c = optional_told sp.after_colon n.second_lies colon_told z r b.1 in
    (both_true (numbers_lie x) (there_lies n.second_lies y && there_lies n.second_lies z) a.0 (both_true (there_lies n.second_lies y) (there_lies n.second_lies z) b.0 c.0), c.1)

sections_told : (x : Sections) → Told (n.sections_lie x) (sp.sections x)
sections_told x r h = dims_told sp.section n.section_lies section_told x.sections r h.1

several_told : {A B : Type 0} (f : A → Text) (v : A → Bool) → ((x : A) → Told (v x) (f x)) → (g : B → Text) (w : B → Bool) → ((x : B) → Told (w x) (g x)) → (x : Several A B) → Told (n.several_lie v w x) (sp.several f g x)
several_told f v k g w l (sev.Brackets xs) r h = dims_told f v k xs r h
several_told f v k g w l (sev.Parens x) r h = let a = list_told g w l x.item (sp.sign m.CloseParen x.close r) h.1 in (a.0, a.1.1)

single_told : (x : Single made.Expr) → Told (n.single_lies x) (sp.single expr x)
single_told (one.Bracket x) r h = let a = expr_told x.item (sp.sign m.CloseBracket x.close r) h.1 in (a.0, a.1.1)
single_told (one.Paren x) r h = parens_told x r h

range_told : (x : made.Expr × Option (Place × made.Expr)) → Told (n.range_lies x) (sp.range x)
range_told x r h =
    let a = expr_told x.0 (optional sp.after_colon x.1 r) h in
    let b = optional_told sp.after_colon n.second_lies colon_told x.1 r a.1 in
    (both_true (numbers_lie x.0) (there_lies n.second_lies x.1) a.0 b.0, b.1)

piece_told : (x : Piece) → Told (n.piece_lies x) (sp.piece x)
piece_told (pi.All p) r h = (refl, h.1)
piece_told (pi.Numbers x y) r h = range_told (x, y) r h

set_told : (x : NodesSet) → Told (n.set_lies x) (sp.nodes_set x)
set_told x r h = several_told sp.piece n.piece_lies piece_told sp.piece n.piece_lies piece_told x.pieces r h.1

points_told : (x : Several Point Point) → Told (n.several_lie n.point_lies n.point_lies x) (sp.several sp.point sp.point x)
points_told = several_told sp.point n.point_lies point_told sp.point n.point_lies point_told

mapping_told : (x : Mapping) → Told (n.mapping_lies x) (sp.spell_mapping x)
mapping_told (mp.Nodes l x ds) r h = let a = several_told expr numbers_lie expr_told expr numbers_lie expr_told ds (t.Close at l.end ∷ r) h.1.1.1 in (a.0, a.1.1)
mapping_told (mp.NodesStar l x (one.Bracket s)) r h = (refl, h.1.1.1.1.1.1.1)
mapping_told (mp.NodesStar l x (one.Paren s)) r h = (refl, h.1.1.1.1.1.1.1)
mapping_told (mp.NodesPart l x size p y) r h =
    let a = single_told size (sp.sign m.Assign p (sp.nodes_set y (t.Close at l.end ∷ r))) h.1.1.1 in
    let b = set_told y (t.Close at l.end ∷ r) a.1.1 in
    (both_true (n.single_lies size) (n.set_lies y) a.0 b.0, b.1.1)
mapping_told (mp.Template l x ds) r h = let a = several_told expr numbers_lie expr_told sp.range n.range_lies range_told ds (t.Close at l.end ∷ r) h.1.1.1 in (a.0, a.1.1)
mapping_told (mp.Distribute l x fs p o) r h =
    let a = several_told sp.dist_form n.form_lies form_told sp.dist_form n.form_lies form_told fs (sp.spelled (codes "onto") p (sp.name o (t.Close at l.end ∷ r))) h.1.1.1 in (a.0, a.1.1.1.1)
mapping_told (mp.Align l x xs p o ps) r h =
    let a = dims_told sp.align_dimension yes dimension_told xs (sp.spelled (codes "with") p (sp.name o (sp.several sp.point sp.point ps (t.Close at l.end ∷ r)))) h.1.1.1 in
    let b = points_told ps (t.Close at l.end ∷ r) a.1.1.1 in (b.0, b.1.1)
mapping_told (mp.Shadow l x ws) r h = let a = dims_told sp.range n.range_lies range_told ws (t.Close at l.end ∷ r) h.1.1.1 in (a.0, a.1.1)

names_in_parens : (x : Inside (CommaList Name)) → Told true (sp.in_parens sp.names x)
names_in_parens x r h = (refl, (names_told x.item (sp.sign m.CloseParen x.close r) h.1).1)

operator_told : (x : ReductionOperator) (r : List Token) → Lies (sp.reduction_operator x r) → Lies r
operator_told (ro.Mark x) r h = h.1
operator_told (ro.Max p) r h = h.1
operator_told (ro.Min p) r h = h.1

reduction_told : (x : Reduction) → Told true (sp.reduction x)
reduction_told x r h =
    (refl, (names_told x.list.item.2 (sp.sign m.CloseParen x.list.close r) ((operator_told x.list.item.0 (sp.sign m.Colon x.list.item.1 (sp.names x.list.item.2 (sp.sign m.CloseParen x.list.close r))) h.1.1).1)).1)

loop_told : (x : LoopLine) → Told (n.loop_line_lies x) (sp.loop_line x)
loop_told x r h =
    let z : List Token = t.Close at x.line.end ∷ r in
    let a = optional_told (sp.in_parens sp.names) yes names_in_parens x.names (sp.spelled (codes "on") x.on (sp.name x.template (sp.several sp.point sp.point x.points (each sp.reduction x.reductions z)))) h.1.1 in
    let b = points_told x.points (each sp.reduction x.reductions z) a.1.1.1 in
    let c = each_told sp.reduction yes reduction_told x.reductions z b.1 in
    (b.0, c.1.1)

task_told : (x : TaskLine) → Told (n.task_line_lies x) (sp.task_line x)
task_told x r h = let a = set_told x.set (t.Close at x.line.end ∷ r) h.1.1.1 in (a.0, a.1.1)

-- ---- statements

simple_told : (x : Simple) → Told (n.simple_lies x) (sp.spell_simple x)
simple_told (si.Assign x op v) r h =
    let a = reference_told x (sp.sign op.what op.at (expr v r)) h in
    let b = expr_told v r a.1.1 in
    (both_true (reference_lies x) (numbers_lie v) a.0 b.0, b.1)
simple_told (si.Postfix x op) r h = let a = reference_told x (sp.sign op.what op.at r) h in (a.0, a.1.1)
simple_told (si.Prefix op x) r h = reference_told x r h.1
simple_told (si.Call x) r h = let a = arguments_seen x.arguments.item (t.Mark m.CloseParen at x.arguments.close ∷ r) h.1.1 in (a.0, a.1.1)

first_told : (x : ForFirst) → Told (n.first_lies x) (sp.for_first x)
first_told (ff.Assign x p v) r h =
    let a = reference_told x (sp.sign m.Assign p (expr v r)) h in
    let b = expr_told v r a.1.1 in
    (both_true (reference_lies x) (numbers_lie v) a.0 b.0, b.1)
first_told (ff.Declare q x p v) r h = expr_told v r h.1.1.1

head_told : (x : ForHead) → Told (n.head_lies x) (sp.for_head x)
head_told x r h =
    let z : List Token = sp.sign m.CloseParen x.close r in
    let y : List Token = sp.sign m.Semicolon x.test_end (optional sp.spell_simple x.next z) in
    let a = optional_told sp.for_first n.first_lies first_told x.first (sp.sign m.Semicolon x.first_end (optional expr x.test y)) h.1.1 in
    let b = optional_told expr numbers_lie expr_told x.test y a.1.1 in
    let c = optional_told sp.spell_simple n.simple_lies simple_told x.next z b.1.1 in (
      both_true (there_lies n.first_lies x.first) (there_lies numbers_lie x.test && there_lies n.simple_lies x.next) a.0
          (both_true (there_lies numbers_lie x.test) (there_lies n.simple_lies x.next) b.0 c.0),
      c.1.1,
    )

plain_told : (x : Plain) → Told (n.plain_lies x) (sp.spell_plain x)
plain_told (pl.Empty p) r h = (refl, h.1)
plain_told (pl.Simple x p) r h = let a = simple_told x (sp.sign m.Semicolon p r) h in (a.0, a.1.1)
plain_told (pl.Return p x q) r h = let a = expr_told x (sp.sign m.Semicolon q r) h.1 in (a.0, a.1.1)
plain_told (pl.Print p x q) r h = let a = rest_seen x.item.1 (sp.sign m.CloseParen x.close (sp.sign m.Semicolon q r)) h.1.1.1 in (a.0, a.1.1.1)
plain_told (pl.Scan p x q) r h = let a = reference_told x.item.3 (sp.sign m.CloseParen x.close (sp.sign m.Semicolon q r)) h.1.1.1.1.1 in (a.0, a.1.1.1)
plain_told (pl.Sync p x q) r h = let a = reference_told x.item.1 (sp.sign m.CloseParen x.close (sp.sign m.Semicolon q r)) h.1.1.1 in (a.0, a.1.1.1)
plain_told (pl.Reflect l ns) r h = let a = names_in_parens ns (t.Close at l.end ∷ r) h.1.1 in (refl, a.1.1)
plain_told (pl.Barrier l) r h = (refl, h.1.1.1)
plain_told (pl.Bcast l ns p x) r h =
    let a = names_in_parens ns (sp.spelled (codes "from") p (sp.nodes_set x (t.Close at l.end ∷ r))) h.1.1 in
    let b = set_told x (t.Close at l.end ∷ r) a.1.1 in
    (b.0, b.1.1)
plain_told (pl.Gmove l x p y q) r h =
    let a = sections_told x (sp.sign m.Assign p (sp.sections y (sp.sign m.Semicolon q r))) h.1.1.1 in
    let b = sections_told y (sp.sign m.Semicolon q r) a.1.1 in
    (both_true (n.sections_lie x) (n.sections_lie y) a.0 b.0, b.1.1)

mutual
  stmt_told : (x : tree.Stmt) → Told (n.stmt_lies (bs.back x)) (sp.spell_stmt x)
  stmt_told (tree.plain x) r h = let a = plain_told x r h in (plain_is x ∙ a.0, a.1)
  stmt_told (tree.block o xs c) r h = let a = items_told xs (t.Mark m.CloseBrace at c ∷ r) h.1 in (block_is o (bs.back_items xs) c ∙ a.0, a.1.1)
  stmt_told (tree.if_then p x s) r h =
      let a = parens_told x (sp.spell_stmt s r) h.1 in
      let b = stmt_told s r a.1 in
      (if_is p x (bs.back s) ∙ both_true (numbers_lie x.item) (n.stmt_lies (bs.back s) && true) a.0 (both_true (n.stmt_lies (bs.back s)) true b.0 refl), b.1)
  stmt_told (tree.if_else p x s q u) r h =
      let a = parens_told x (sp.spell_stmt s (t.Word w.Else at q ∷ sp.spell_stmt u r)) h.1 in
      let b = stmt_told s (t.Word w.Else at q ∷ sp.spell_stmt u r) a.1 in
      let c = stmt_told u r b.1.1 in
      (else_is p x (bs.back s) q (bs.back u) ∙ both_true (numbers_lie x.item) (n.stmt_lies (bs.back s) && n.stmt_lies (bs.back u)) a.0 (both_true (n.stmt_lies (bs.back s)) (n.stmt_lies (bs.back u)) b.0 c.0), c.1)
  stmt_told (tree.while_do p x s) r h =
      let a = parens_told x (sp.spell_stmt s r) h.1 in
      let b = stmt_told s r a.1 in
      (while_is p x (bs.back s) ∙ both_true (numbers_lie x.item) (n.stmt_lies (bs.back s)) a.0 b.0, b.1)
  stmt_told (tree.for_do x s) r h =
      let a = head_told x (sp.spell_stmt s r) h in
      let b = stmt_told s r a.1 in
      (for_is x (bs.back s) ∙ both_true (n.head_lies x) (n.stmt_lies (bs.back s)) a.0 b.0, b.1)
  stmt_told (tree.loop l x s) r h =
      let o = loop_told l (sp.for_head x (sp.spell_stmt s r)) h in
      let a = head_told x (sp.spell_stmt s r) o.1 in
      let b = stmt_told s r a.1 in
      (loop_is l x (bs.back s) ∙ both_true (n.loop_line_lies l) (n.head_lies x && n.stmt_lies (bs.back s)) o.0 (both_true (n.head_lies x) (n.stmt_lies (bs.back s)) a.0 b.0), b.1)
  stmt_told (tree.task l s) r h =
      let a = task_told l (sp.spell_stmt s r) h in
      let b = stmt_told s r a.1 in
      (task_is l (bs.back s) ∙ both_true (n.task_line_lies l) (n.stmt_lies (bs.back s)) a.0 b.0, b.1)
  stmt_told (tree.tasks l o xs c) r h = let a = tasks_told xs (t.Mark m.CloseBrace at c ∷ r) h.1.1.1.1 in (tasks_are l o (bs.back_tasks xs) c ∙ a.0, a.1.1)

  items_told : (x : tree.BlockItems) → Told (n.items_lie (bs.back_items x)) (sp.spell_items x)
  items_told tree.none r h = (refl, h)
  items_told (tree.mapping x xs) r h =
      let a = mapping_told x (sp.spell_items xs r) h in
      let b = items_told xs r a.1 in
      (both_true (n.mapping_lies x) (n.items_lie (bs.back_items xs)) a.0 b.0, b.1)
  items_told (tree.declaration x xs) r h =
      let a = declaration_told x (sp.spell_items xs r) h in
      let b = items_told xs r a.1 in
      (both_true (n.declaration_lies x) (n.items_lie (bs.back_items xs)) a.0 b.0, b.1)
  items_told (tree.statement x xs) r h =
      let a = stmt_told x (sp.spell_items xs r) h in
      let b = items_told xs r a.1 in
      (both_true (n.stmt_lies (bs.back x)) (n.items_lie (bs.back_items xs)) a.0 b.0, b.1)

  tasks_told : (x : tree.Tasks) → Told (n.tasks_lie (bs.back_tasks x)) (sp.spell_tasks x)
  tasks_told tree.no_task r h = (refl, h)
  tasks_told (tree.a_task l x xs) r h =
      let a = task_told l (sp.spell_stmt x (sp.spell_tasks xs r)) h in
      let b = stmt_told x (sp.spell_tasks xs r) a.1 in
      let c = tasks_told xs r b.1 in
      (both_true (n.task_line_lies l && n.stmt_lies (bs.back x)) (n.tasks_lie (bs.back_tasks xs)) (both_true (n.task_line_lies l) (n.stmt_lies (bs.back x)) a.0 b.0) c.0, c.1)

-- ---- the program

block_told : (xs : List (BlockItem made_stmt.Stmt)) → Told (n.items_lie xs) (sp.spell_items (items_view xs))
block_told [] r h = (refl, h)
block_told (b.Mapping x ∷ xs) r h =
    let a = mapping_told x (sp.spell_items (items_view xs) r) h in
    let c = block_told xs r a.1 in
    (both_true (n.mapping_lies x) (n.items_lie xs) a.0 c.0, c.1)
block_told (b.Declaration x ∷ xs) r h =
    let a = declaration_told x (sp.spell_items (items_view xs) r) h in
    let c = block_told xs r a.1 in
    (both_true (n.declaration_lies x) (n.items_lie xs) a.0 c.0, c.1)
block_told (b.Stmt x ∷ xs) r h =
    let a = stmt_told (stmt_view x) (sp.spell_items (items_view xs) r) h in
    let c = block_told xs r a.1 in
    (both_true (n.stmt_lies x) (n.items_lie xs) (sym (ap n.stmt_lies (bs.back_view x)) ∙ a.0) c.0, c.1)

parameter_told : (x : TypeWords × Name) → Told true (sp.parameter x)
parameter_told x r h = (refl, (words_told x.0 (sp.name x.1 r) h).1)

parameters_told : (x : Parameters) → Told true (sp.parameters x)
parameters_told (pr.Void p) r h = (refl, h.1)
parameters_told (pr.Named x) r h = (refl, (list_told sp.parameter yes parameter_told x r h).1)

function_told : (x : Function) → Told (n.items_lie x.body.item) (sp.function x)
function_told x r h =
    let y : List Token = sp.sign m.CloseParen x.parameters.close (sp.body x.body r) in
    let o = words_told x.ty (sp.name x.name (sp.in_parens (optional sp.parameters) x.parameters (sp.body x.body r))) h in
    let a = optional_told sp.parameters yes parameters_told x.parameters.item y o.1.1 in
    let b = block_told x.body.item (sp.sign m.CloseBrace x.body.close r) a.1.1.1 in
    (b.0, b.1.1)

top_told : (x : TopItem) → Told (n.top_lies x) (sp.top_item x)
top_told (top.Mapping x) r h = mapping_told x r h
top_told (top.Declaration x) r h = declaration_told x r h
top_told (top.Function x) r h = function_told x r h

-- the numbers of a tree lie in their types where those of its tokens do
pub spelled : (x : Tree) → All (λ token. number_lies token.kind ≡ true) (sp.tokens x) → n.tree_lies x ≡ true
spelled x h =
    (each_told sp.top_item n.top_lies top_told x.parts (t.Finish at x.finish ∷ []) (recursion_from_All (λ token. number_lies token.kind ≡ true) (sp.tokens x) h)).0
