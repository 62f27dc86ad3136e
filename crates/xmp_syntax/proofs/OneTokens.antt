-- Parts with the same tokens, places too, are equal.
use Rattle.std.proofs.Common.{◌≡◌, List, ◌∷◌, refl, ap, ◌∙◌}
use Rattle.std.specs.Prelude.{ℤ, Option, None, Some}
use Rattle.xmp_base.specs.declared.place.Place.{Place}
use Rattle.xmp_num.specs.declared.types.Ty.{Ty}
use Rattle.xmp_num.specs.declared.types.Ty.TheVariants as ty
use Rattle.xmp_lex.specs.declared.token.Token.{Token}
use Rattle.xmp_lex.specs.declared.token.TokenKind.{TokenKind}
use Rattle.xmp_lex.specs.declared.token.TokenKind.TheVariants as t
use Rattle.xmp_lex.specs.declared.token.Mark.{Mark}
use Rattle.xmp_syntax.specs.declared.parts.Name.{Name}
use Rattle.xmp_syntax.specs.declared.parts.Format.{Format}
use Rattle.xmp_syntax.specs.declared.parts.Next.{Next}
use Rattle.xmp_syntax.specs.declared.parts.CommaList.{CommaList}
use Rattle.xmp_syntax.specs.declared.parts.Inside.{Inside}
use Rattle.xmp_syntax.specs.declared.parts.Several.{Several}
use Rattle.xmp_syntax.specs.declared.parts.Single.{Single}
use Rattle.xmp_syntax.specs.declared.parts.TypeWords.{TypeWords}
use Rattle.xmp_syntax.specs.declared.declaration.Declarator.{Declarator}
use Rattle.xmp_syntax.specs.declared.declaration.Declaration.{Declaration}
use Rattle.xmp_syntax.specs.declared.parts.Placed.{Placed}
use Rattle.xmp_syntax.specs.declared.directive.DirectiveLine.{DirectiveLine}
use Rattle.xmp_syntax.specs.declared.directive.Section.{Section}
use Rattle.xmp_syntax.specs.declared.directive.Sections.{Sections}
use Rattle.xmp_syntax.specs.declared.directive.Piece.{Piece}
use Rattle.xmp_syntax.specs.declared.directive.NodesSet.{NodesSet}
use Rattle.xmp_syntax.specs.declared.directive.DistForm.{DistForm}
use Rattle.xmp_syntax.specs.declared.directive.AlignDimension.{AlignDimension}
use Rattle.xmp_syntax.specs.declared.directive.Point.{Point}
use Rattle.xmp_syntax.specs.declared.directive.Mapping.TheVariants as mp
use Rattle.xmp_syntax.specs.declared.expression.Expr as made
use Rattle.xmp_syntax.specs.declared.directive.ReductionOperator.{ReductionOperator}
use Rattle.xmp_syntax.specs.declared.directive.Reduction.{Reduction}
use Rattle.xmp_syntax.specs.declared.directive.LoopLine.{LoopLine}
use Rattle.xmp_syntax.specs.declared.directive.TaskLine.{TaskLine}
use Rattle.xmp_syntax.specs.declared.statement.Simple.{Simple}
use Rattle.xmp_syntax.specs.declared.statement.ForFirst.{ForFirst}
use Rattle.xmp_syntax.specs.declared.statement.ForHead.{ForHead}
use Rattle.xmp_syntax.specs.declared.statement.BlockItem.{BlockItem}
use Rattle.xmp_syntax.specs.declared.statement.Stmt as made_stmt
use Rattle.xmp_syntax.specs.declared.program.Parameters.{Parameters}
use Rattle.xmp_syntax.specs.declared.program.Function.{Function}
use Rattle.xmp_syntax.specs.Trees.{Expr, number, call, parens, unary, cast, conditional, ref, Subscripts, subscript, Image, image, Arguments, arguments, Rest, end, comma, Links, link}
use Rattle.xmp_syntax.specs.Spell.{◌at◌, type_word}

-- from the same tokens, the same part and the same tokens behind it
abbrev pub Exact : {A : Type 0} → (A → List Token → List Token) → A → A → List Token → List Token → Type 0
Exact f x y r s = f x r ≡ f y s → (x ≡ y) × (r ≡ s)

-- the first tokens, and those behind them
pub apart : {j k : TokenKind} {p q : Place} {us vs : List Token} → j at p ∷ us ≡ k at q ∷ vs → (j ≡ k) × (p ≡ q) × (us ≡ vs)
apart {j} {k} {p} {q} h = let x : j at p ≡ k at q = cc in (ap (λ (u : Token). u.kind) x, ap (λ (u : Token). u.at) x, cc)

pub name_is : (x y : Name) → t.Name x.text ≡ t.Name y.text → x.at ≡ y.at → x ≡ y
name_is x y h k = let q : x.text ≡ y.text = cc in ap (λ v. record { text = v; at = x.at }) q ∙ ap (λ v. record { text = y.text; at = v }) k

pub format_is : (x y : Format) → t.Text x.text ≡ t.Text y.text → x.at ≡ y.at → x ≡ y
format_is x y h k = let q : x.text ≡ y.text = cc in ap (λ v. record { text = v; at = x.at }) q ∙ ap (λ v. record { text = y.text; at = v }) k

pub type_is : (x y : Ty) → t.Word (type_word x) ≡ t.Word (type_word y) → x ≡ y
type_is ty.Int ty.Int h = refl
type_is ty.Long ty.Long h = refl
type_is ty.Int ty.Long h = cc
type_is ty.Long ty.Int h = cc

pub number_is : {p p' : Place} {n n' : ℤ} {ty ty' : Ty} → t.Number n ty ≡ t.Number n' ty' → p ≡ p' → number p n ty ≡ number p' n' ty'
number_is h k = cc

pub call_is : {f f' : Name} {o o' c c' : Place} {xs ys : Arguments} → f ≡ f' → o ≡ o' → xs ≡ ys → c ≡ c' → call f o xs c ≡ call f' o' ys c'
call_is h i j k = cc

pub parens_is : {o o' c c' : Place} {x y : Expr} → o ≡ o' → x ≡ y → c ≡ c' → parens o x c ≡ parens o' y c'
parens_is h i j = cc

pub unary_is : {op op' : Mark} {p p' : Place} {x y : Expr} → t.Mark op ≡ t.Mark op' → p ≡ p' → x ≡ y → unary op p x ≡ unary op' p' y
unary_is h i j = cc

pub cast_is : {o o' p p' c c' : Place} {ty ty' : Ty} {x y : Expr} → o ≡ o' → ty ≡ ty' → p ≡ p' → c ≡ c' → x ≡ y → cast o ty p c x ≡ cast o' ty' p' c' y
cast_is h i j k l = cc

pub conditional_is : {x x' y y' z z' : Expr} {p p' q q' : Place} → x ≡ x' → p ≡ p' → y ≡ y' → q ≡ q' → z ≡ z' → conditional x p y q z ≡ conditional x' p' y' q' z'
conditional_is h i j k l = cc

pub ref_is : {n n' : Name} {ds es : Subscripts} {i j : Image} → n ≡ n' → ds ≡ es → i ≡ j → ref n ds i ≡ ref n' es j
ref_is h k l = cc

pub subscript_is : {o o' c c' : Place} {x y : Expr} {ds es : Subscripts} → o ≡ o' → x ≡ y → c ≡ c' → ds ≡ es → subscript o x c ds ≡ subscript o' y c' es
subscript_is h i j k = cc

pub image_is : {p p' o o' c c' : Place} {x y : Expr} → p ≡ p' → o ≡ o' → x ≡ y → c ≡ c' → image p o x c ≡ image p' o' y c'
image_is h i j k = cc

pub arguments_is : {x y : Expr} {es fs : Rest} → x ≡ y → es ≡ fs → arguments x es ≡ arguments y fs
arguments_is h i = cc

pub comma_is : {p p' : Place} {x y : Expr} {es fs : Rest} → p ≡ p' → x ≡ y → es ≡ fs → comma p x es ≡ comma p' y fs
comma_is h i j = cc

pub link_is : {op op' : Mark} {p p' : Place} {x y : Expr} {ls ms : Links} → t.Mark op ≡ t.Mark op' → p ≡ p' → x ≡ y → ls ≡ ms → link op p x ls ≡ link op' p' y ms
link_is h i j k = cc

-- Lists, and items between marks.
pub more_is : {A : Type 0} {x y : A} {xs ys : List A} → x ≡ y → xs ≡ ys → (x ∷ xs) ≡ (y ∷ ys)
more_is h k = cc

pub next_is : {A : Type 0} (x y : Next A) → x.comma ≡ y.comma → x.item ≡ y.item → x ≡ y
next_is {A} x y h k = let f : Place → Next A = λ v. record { comma = v; item = x.item } in let g : A → Next A = λ v. record { comma = y.comma; item = v } in ap f h ∙ ap g k

pub list_is : {A : Type 0} (x y : CommaList A) → x.first ≡ y.first → x.more ≡ y.more → x ≡ y
list_is {A} x y h k = let f : A → CommaList A = λ v. record { first = v; more = x.more } in let g : List (Next A) → CommaList A = λ v. record { first = y.first; more = v } in ap f h ∙ ap g k

pub inside_is : {A : Type 0} (x y : Inside A) → x.open ≡ y.open → x.item ≡ y.item → x.close ≡ y.close → x ≡ y
inside_is {A} x y h i j =
    let f : Place → Inside A = λ v. record { «open» = v; item = x.item; close = x.close } in
    let g : A → Inside A = λ v. record { «open» = y.open; item = v; close = x.close } in
    let k : Place → Inside A = λ v. record { «open» = y.open; item = y.item; close = v } in ap f h ∙ ap g i ∙ ap k j

pub pair_is : {A B : Type 0} (x y : A × B) → x.0 ≡ y.0 → x.1 ≡ y.1 → x ≡ y
pair_is {A} {B} x y h k = let f : A → A × B = λ v. (v, x.1) in let g : B → A × B = λ v. (y.0, v) in ap f h ∙ ap g k

pub triple_is : {A B C : Type 0} (x y : A × B × C) → x.0 ≡ y.0 → x.1 ≡ y.1 → x.2 ≡ y.2 → x ≡ y
triple_is {A} {B} {C} x y h i j =
    let f : A → A × B × C = λ v. (v, x.1, x.2) in
    let g : B → A × B × C = λ v. (y.0, v, x.2) in
    let k : C → A × B × C = λ v. (y.0, y.1, v) in ap f h ∙ ap g i ∙ ap k j

pub four_is : {A B C D : Type 0} (x y : A × B × C × D) → x.0 ≡ y.0 → x.1 ≡ y.1 → x.2 ≡ y.2 → x.3 ≡ y.3 → x ≡ y
four_is {A} {B} {C} {D} x y h i j l =
    let f : A → A × B × C × D = λ v. (v, x.1, x.2, x.3) in
    let g : B → A × B × C × D = λ v. (y.0, v, x.2, x.3) in
    let k : C → A × B × C × D = λ v. (y.0, y.1, v, x.3) in
    let n : D → A × B × C × D = λ v. (y.0, y.1, y.2, v) in ap f h ∙ ap g i ∙ ap k j ∙ ap n l

pub some_pair_is : {A B : Type 0} (x y : A × B) → x.0 ≡ y.0 → x.1 ≡ y.1 → Some x ≡ Some y
some_pair_is x y h k = ap Some (pair_is x y h k)

pub declaration_is : (x y : Declaration) → x.ty ≡ y.ty → x.items ≡ y.items → x.end ≡ y.end → x ≡ y
declaration_is x y h i j =
    let f : TypeWords → Declaration = λ v. record { ty = v; items = x.items; end = x.end } in
    let g : CommaList Declarator → Declaration = λ v. record { ty = y.ty; items = v; end = x.end } in
    let k : Place → Declaration = λ v. record { ty = y.ty; items = y.items; end = v } in ap f h ∙ ap g i ∙ ap k j

pub mark_is : (x y : Placed Mark) → t.Mark x.what ≡ t.Mark y.what → x.at ≡ y.at → x ≡ y
mark_is x y h k =
    let q : x.what ≡ y.what = cc in
    let f : Mark → Placed Mark = λ v. record { what = v; at = x.at } in
    let g : Place → Placed Mark = λ v. record { what = y.what; at = v } in ap f q ∙ ap g k

-- Directives.
pub sections_is : (x y : Sections) → x.name ≡ y.name → x.sections ≡ y.sections → x ≡ y
sections_is x y h k =
    let f : Name → Sections = λ v. record { name = v; sections = x.sections } in
    let g : List (Inside Section) → Sections = λ v. record { name = y.name; sections = v } in ap f h ∙ ap g k

pub line_is : (x y : DirectiveLine) → x.start ≡ y.start → x.word ≡ y.word → x.end ≡ y.end → x ≡ y
line_is x y h i j =
    let f : Place → DirectiveLine = λ v. record { start = v; word = x.word; end = x.end } in
    let g : Place → DirectiveLine = λ v. record { start = y.start; word = v; end = x.end } in
    let k : Place → DirectiveLine = λ v. record { start = y.start; word = y.word; end = v } in ap f h ∙ ap g i ∙ ap k j

pub set_is : (x y : NodesSet) → x.name ≡ y.name → x.pieces ≡ y.pieces → x ≡ y
set_is x y h k =
    let f : Name → NodesSet = λ v. record { name = v; pieces = x.pieces } in
    let g : Several Piece Piece → NodesSet = λ v. record { name = y.name; pieces = v } in ap f h ∙ ap g k

pub nodes_part_is : {l k : DirectiveLine} {n n' : Name} {x y : Single made.Expr} {p q : Place} {a b : NodesSet} → l ≡ k → n ≡ n' → x ≡ y → p ≡ q → a ≡ b → mp.NodesPart l n x p a ≡ mp.NodesPart k n' y q b
nodes_part_is a b c d e = cc

pub distribute_is : {l k : DirectiveLine} {n n' o o' : Name} {fs gs : Several DistForm DistForm} {p q : Place} → l ≡ k → n ≡ n' → fs ≡ gs → p ≡ q → o ≡ o' → mp.Distribute l n fs p o ≡ mp.Distribute k n' gs q o'
distribute_is a b c d e = cc

pub align_is : {l k : DirectiveLine} {n n' o o' : Name} {xs ys : List (Inside AlignDimension)} {ps qs : Several Point Point} {p q : Place} → l ≡ k → n ≡ n' → xs ≡ ys → p ≡ q → o ≡ o' → ps ≡ qs
    → mp.Align l n xs p o ps ≡ mp.Align k n' ys q o' qs
align_is a b c d e f = cc

pub reduction_is : (x y : Reduction) → x.word ≡ y.word → x.list ≡ y.list → x ≡ y
reduction_is x y h k =
    let f : Place → Reduction = λ v. record { word = v; list = x.list } in
    let g : Inside (ReductionOperator × Place × CommaList Name) → Reduction = λ v. record { word = y.word; list = v } in ap f h ∙ ap g k

pub loop_is : (x y : LoopLine) → x.line ≡ y.line → x.names ≡ y.names → x.on ≡ y.on → x.template ≡ y.template → x.points ≡ y.points → x.reductions ≡ y.reductions → x ≡ y
loop_is x y a b c d e f =
    let h1 : DirectiveLine → LoopLine = λ v. record { line = v; names = x.names; on = x.on; template = x.template; points = x.points; reductions = x.reductions } in
    let h2 : Option (Inside (CommaList Name)) → LoopLine = λ v. record { line = y.line; names = v; on = x.on; template = x.template; points = x.points; reductions = x.reductions } in
    let h3 : Place → LoopLine = λ v. record { line = y.line; names = y.names; on = v; template = x.template; points = x.points; reductions = x.reductions } in
    let h4 : Name → LoopLine = λ v. record { line = y.line; names = y.names; on = y.on; template = v; points = x.points; reductions = x.reductions } in
    let h5 : Several Point Point → LoopLine = λ v. record { line = y.line; names = y.names; on = y.on; template = y.template; points = v; reductions = x.reductions } in
    let h6 : List Reduction → LoopLine = λ v. record { line = y.line; names = y.names; on = y.on; template = y.template; points = y.points; reductions = v } in
    ap h1 a ∙ ap h2 b ∙ ap h3 c ∙ ap h4 d ∙ ap h5 e ∙ ap h6 f

pub task_is : (x y : TaskLine) → x.line ≡ y.line → x.on ≡ y.on → x.set ≡ y.set → x ≡ y
task_is x y a b c =
    let f : DirectiveLine → TaskLine = λ v. record { line = v; on = x.on; set = x.set } in
    let g : Place → TaskLine = λ v. record { line = y.line; on = v; set = x.set } in
    let h : NodesSet → TaskLine = λ v. record { line = y.line; on = y.on; set = v } in ap f a ∙ ap g b ∙ ap h c

-- The head of a for.
abbrev head : Place → Place → Option ForFirst → Place → Option made.Expr → Place → Option Simple → Place → ForHead
head a b c d e f g h = record { word = a; «open» = b; first = c; first_end = d; test = e; test_end = f; next = g; close = h }

pub head_is : (x y : ForHead) → x.word ≡ y.word → x.open ≡ y.open → x.first ≡ y.first → x.first_end ≡ y.first_end → x.test ≡ y.test → x.test_end ≡ y.test_end → x.next ≡ y.next → x.close ≡ y.close → x ≡ y
head_is x y a b c d e f g h =
    ap (λ v. head v x.open x.first x.first_end x.test x.test_end x.next x.close) a ∙ ap (λ v. head y.word v x.first x.first_end x.test x.test_end x.next x.close) b
    ∙ ap (λ v. head y.word y.open v x.first_end x.test x.test_end x.next x.close) c ∙ ap (λ v. head y.word y.open y.first v x.test x.test_end x.next x.close) d
    ∙ ap (λ v. head y.word y.open y.first y.first_end v x.test_end x.next x.close) e ∙ ap (λ v. head y.word y.open y.first y.first_end y.test v x.next x.close) f
    ∙ ap (λ v. head y.word y.open y.first y.first_end y.test y.test_end v x.close) g ∙ ap (head y.word y.open y.first y.first_end y.test y.test_end y.next) h

-- Functions.
abbrev whole : TypeWords → Name → Inside (Option Parameters) → Inside (List (BlockItem made_stmt.Stmt)) → Function
whole a b c d = record { ty = a; name = b; parameters = c; body = d }

pub function_is : (x y : Function) → x.ty ≡ y.ty → x.name ≡ y.name → x.parameters ≡ y.parameters → x.body ≡ y.body → x ≡ y
function_is x y a b c d = ap (λ v. whole v x.name x.parameters x.body) a ∙ ap (λ v. whole y.ty v x.parameters x.body) b ∙ ap (λ v. whole y.ty y.name v x.body) c ∙ ap (whole y.ty y.name y.parameters) d
