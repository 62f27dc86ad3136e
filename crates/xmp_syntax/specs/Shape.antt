-- A tree without its places: the kinds of its tokens, with those of each expression and of each statement in a group. Source: this project.
use Rattle.std.specs.Prelude.{ℕ, List, [], ◌∷◌, Option, None, Some, codes, map}
use Rattle.xmp_lex.specs.declared.token.Token.{Token}
use Rattle.xmp_lex.specs.declared.token.TokenKind.{TokenKind}
use Rattle.xmp_lex.specs.declared.token.TokenKind.TheVariants as t
use Rattle.xmp_lex.specs.declared.token.Mark.{Mark}
use Rattle.xmp_lex.specs.declared.token.Mark.TheVariants as m
use Rattle.xmp_lex.specs.declared.token.Reserved.{Reserved}
use Rattle.xmp_lex.specs.declared.token.Reserved.TheVariants as w
use Rattle.xmp_syntax.specs.declared.parts.Name.{Name}
use Rattle.xmp_syntax.specs.declared.parts.Format.{Format}
use Rattle.xmp_syntax.specs.declared.parts.Placed.{Placed}
use Rattle.xmp_syntax.specs.declared.parts.CommaList.{CommaList}
use Rattle.xmp_syntax.specs.declared.parts.Next.{Next}
use Rattle.xmp_syntax.specs.declared.parts.Inside.{Inside}
use Rattle.xmp_syntax.specs.declared.parts.Several.{Several}
use Rattle.xmp_syntax.specs.declared.parts.Several.TheVariants as sev
use Rattle.xmp_syntax.specs.declared.parts.Single.{Single}
use Rattle.xmp_syntax.specs.declared.parts.Single.TheVariants as one
use Rattle.xmp_syntax.specs.declared.parts.TypeWords.{TypeWords}
use Rattle.xmp_syntax.specs.declared.parts.TypeWords.TheVariants as tw
use Rattle.xmp_syntax.specs.Spell.{type_word}
use Rattle.xmp_base.specs.declared.place.Place.{Place}
use Rattle.xmp_syntax.specs.declared.expression.Expr as made
use Rattle.xmp_syntax.specs.declared.declaration.Declarator.{Declarator}
use Rattle.xmp_syntax.specs.declared.declaration.Declarator.TheVariants as d
use Rattle.xmp_syntax.specs.declared.declaration.Declaration.{Declaration}
use Rattle.xmp_syntax.specs.declared.directive.DistForm.{DistForm}
use Rattle.xmp_syntax.specs.declared.directive.DistForm.TheVariants as f
use Rattle.xmp_syntax.specs.declared.directive.AlignDimension.{AlignDimension}
use Rattle.xmp_syntax.specs.declared.directive.AlignDimension.TheVariants as al
use Rattle.xmp_syntax.specs.declared.directive.Point.{Point}
use Rattle.xmp_syntax.specs.declared.directive.Point.TheVariants as pt
use Rattle.xmp_syntax.specs.declared.directive.Section.{Section}
use Rattle.xmp_syntax.specs.declared.directive.Section.TheVariants as s
use Rattle.xmp_syntax.specs.declared.directive.Sections.{Sections}
use Rattle.xmp_syntax.specs.declared.directive.Piece.{Piece}
use Rattle.xmp_syntax.specs.declared.directive.Piece.TheVariants as pi
use Rattle.xmp_syntax.specs.declared.directive.NodesSet.{NodesSet}
use Rattle.xmp_syntax.specs.declared.directive.Mapping.{Mapping}
use Rattle.xmp_syntax.specs.declared.directive.Mapping.TheVariants as mp
use Rattle.xmp_syntax.specs.declared.directive.ReductionOperator.{ReductionOperator}
use Rattle.xmp_syntax.specs.declared.directive.ReductionOperator.TheVariants as ro
use Rattle.xmp_syntax.specs.declared.directive.Reduction.{Reduction}
use Rattle.xmp_syntax.specs.declared.directive.LoopLine.{LoopLine}
use Rattle.xmp_syntax.specs.declared.directive.TaskLine.{TaskLine}
use Rattle.xmp_syntax.specs.declared.statement.Simple.{Simple}
use Rattle.xmp_syntax.specs.declared.statement.Simple.TheVariants as si
use Rattle.xmp_syntax.specs.declared.statement.ForFirst.{ForFirst}
use Rattle.xmp_syntax.specs.declared.statement.ForFirst.TheVariants as ff
use Rattle.xmp_syntax.specs.declared.statement.ForHead.{ForHead}
use Rattle.xmp_syntax.specs.declared.statement.Plain.{Plain}
use Rattle.xmp_syntax.specs.declared.statement.Plain.TheVariants as pl
use Rattle.xmp_syntax.specs.declared.statement.BlockItem.{BlockItem}
use Rattle.xmp_syntax.specs.declared.statement.Stmt as made_stmt
use Rattle.xmp_syntax.specs.declared.program.Function.{Function}
use Rattle.xmp_syntax.specs.declared.program.Parameters.{Parameters}
use Rattle.xmp_syntax.specs.declared.program.Parameters.TheVariants as pr
use Rattle.xmp_syntax.specs.declared.program.TopItem.{TopItem}
use Rattle.xmp_syntax.specs.declared.program.TopItem.TheVariants as top
use Rattle.xmp_syntax.specs.declared.program.Tree.{Tree}
use Rattle.xmp_syntax.specs.Trees as tr
use Rattle.xmp_syntax.specs.Trees.{Expr, number, read, call, parens, unary, cast, chain, conditional, Ref, ref, Subscripts, no_more, subscript, Image, no_image, image, Arguments, no_arguments, arguments, Rest, end, comma, Links, last, link, Stmt, BlockItems, Tasks}
use Rattle.xmp_syntax.specs.View.{expr_view, ref_view, rest_view, call_view, items_view}

mutual
  pub data Shape : Type 0 where
    token : TokenKind → Shape
    group : Shapes → Shape

  pub data Shapes : Type 0 where
    done : Shapes
    ◌▸◌ : Shape → Shapes → Shapes

infixr 30 ◌▸◌
-- what a part has, before what the rest has
abbrev pub Outline : Type 0
Outline = Shapes → Shapes

abbrev pub sign : Mark → Outline
sign x r = token (t.Mark x) ▸ r

abbrev pub word : Reserved → Outline
word x r = token (t.Word x) ▸ r

abbrev pub spelled : List ℕ → Outline
spelled x r = token (t.Name x) ▸ r

abbrev pub name : Name → Outline
name n r = token (t.Name n.text) ▸ r

abbrev pub optional : {A : Type 0} → (A → Outline) → Option A → Outline
optional f None r = r
optional f (Some x) r = f x r

abbrev pub each : {A : Type 0} → (A → Outline) → List A → Outline
each f [] r = r
each f (x ∷ xs) r = f x (each f xs r)

abbrev pub next : {A : Type 0} → (A → Outline) → Next A → Outline
next f x r = sign m.Comma (f x.item r)

abbrev pub list : {A : Type 0} → (A → Outline) → CommaList A → Outline
list f x r = f x.first (each (next f) x.more r)

abbrev pub inside : {A : Type 0} → Mark → (A → Outline) → Mark → Inside A → Outline
inside a f z x r = sign a (f x.item (sign z r))

abbrev pub in_parens : {A : Type 0} → (A → Outline) → Inside A → Outline
in_parens f = inside m.OpenParen f m.CloseParen

abbrev pub in_brackets : {A : Type 0} → (A → Outline) → Inside A → Outline
in_brackets f = inside m.OpenBracket f m.CloseBracket

abbrev pub in_braces : {A : Type 0} → (A → Outline) → Inside A → Outline
in_braces f = inside m.OpenBrace f m.CloseBrace

abbrev pub dims : {A : Type 0} → (A → Outline) → List (Inside A) → Outline
dims f = each (in_brackets f)

abbrev pub several : {A B : Type 0} → (A → Outline) → (B → Outline) → Several A B → Outline
several f g (sev.Brackets xs) r = dims f xs r
several f g (sev.Parens x) r = in_parens (list g) x r

abbrev pub single : {A : Type 0} → (A → Outline) → Single A → Outline
single f (one.Bracket x) r = in_brackets f x r
single f (one.Paren x) r = in_parens f x r

abbrev pub type_words : TypeWords → Outline
type_words (tw.Int p) r = word w.Int r
type_words (tw.Long p) r = word w.Long r
type_words (tw.LongInt p q) r = word w.Long (word w.Int r)

-- Expressions.
abbrev mutual
  pub shape : Expr → Shape
  shape (number p n ty) = group (token (t.Number n ty) ▸ done)
  shape (read x) = group (ref_shape x done)
  shape (call f o xs c) = group (token (t.Name f.text) ▸ token (t.Mark m.OpenParen) ▸ arguments_shape xs (token (t.Mark m.CloseParen) ▸ done))
  shape (parens o e c) = group (token (t.Mark m.OpenParen) ▸ shape e ▸ token (t.Mark m.CloseParen) ▸ done)
  shape (unary op p e) = group (token (t.Mark op) ▸ shape e ▸ done)
  shape (cast o ty p c e) = group (token (t.Mark m.OpenParen) ▸ token (t.Word (type_word ty)) ▸ token (t.Mark m.CloseParen) ▸ shape e ▸ done)
  shape (chain e ls) = group (shape e ▸ links_shape ls)
  shape (conditional x p y q z) = group (shape x ▸ token (t.Mark m.Question) ▸ shape y ▸ token (t.Mark m.Colon) ▸ shape z ▸ done)

  pub ref_shape : Ref → Shapes → Shapes
  ref_shape (ref n ds i) r = token (t.Name n.text) ▸ subscripts_shape ds (image_shape i r)

  pub subscripts_shape : Subscripts → Shapes → Shapes
  subscripts_shape no_more r = r
  subscripts_shape (subscript o e c ds) r = token (t.Mark m.OpenBracket) ▸ shape e ▸ token (t.Mark m.CloseBracket) ▸ subscripts_shape ds r

  pub image_shape : Image → Shapes → Shapes
  image_shape no_image r = r
  image_shape (image p o e c) r = token (t.Mark m.Colon) ▸ token (t.Mark m.OpenBracket) ▸ shape e ▸ token (t.Mark m.CloseBracket) ▸ r

  pub arguments_shape : Arguments → Shapes → Shapes
  arguments_shape no_arguments r = r
  arguments_shape (arguments e es) r = shape e ▸ rest_shape es r

  pub rest_shape : Rest → Shapes → Shapes
  rest_shape end r = r
  rest_shape (comma p e es) r = token (t.Mark m.Comma) ▸ shape e ▸ rest_shape es r

  pub links_shape : Links → Shapes
  links_shape last = done
  links_shape (link op p e ls) = token (t.Mark op) ▸ shape e ▸ links_shape ls

-- the kinds of tokens
abbrev pub kinds : List Token → List TokenKind
kinds ts = map (λ y. y.kind) ts

abbrev pub expr : made.Expr → Outline
expr e r = shape (expr_view e) ▸ r

abbrev pub after_colon : Place × made.Expr → Outline
after_colon x r = sign m.Colon (expr x.1 r)

abbrev pub value : Place × made.Expr → Outline
value x r = sign m.Assign (expr x.1 r)

abbrev pub names : CommaList Name → Outline
names = list name

abbrev pub star : Place → Outline
star p r = sign m.Star r

-- Declarations and directives.
abbrev pub coarray : Place × Inside Place → Outline
coarray x r = sign m.Colon (in_brackets star x.1 r)

abbrev pub declarator : Declarator → Outline
declarator (d.Scalar n v) r = name n (optional value v r)
declarator (d.Array n ds c) r = name n (dims expr ds (optional coarray c r))

abbrev pub declaration_shape : Declaration → Outline
declaration_shape x r = type_words x.ty (list declarator x.items (sign m.Semicolon r))

abbrev pub line : List ℕ → Outline → Outline
line bytes inner r = token t.Pragma ▸ spelled bytes (inner (token t.Close ▸ r))

abbrev pub dist_form : DistForm → Outline
dist_form (f.Whole p) r = sign m.Star r
dist_form (f.Block p) r = spelled (codes "block") r
dist_form (f.Cyclic p x) r = spelled (codes "cyclic") (optional (in_parens expr) x r)
dist_form (f.Gblock p x) r = spelled (codes "gblock") (in_parens (in_braces (list expr)) x r)

abbrev pub align_dimension : AlignDimension → Outline
align_dimension (al.Star p) r = sign m.Star r
align_dimension (al.Dummy n) r = name n r

abbrev pub offset : Placed Mark × made.Expr → Outline
offset x r = sign x.0.what (expr x.1 r)

abbrev pub point : Point → Outline
point (pt.Star p) r = sign m.Star r
point (pt.Index n x) r = name n (optional offset x r)

abbrev pub section : Section → Outline
section (s.All p) r = sign m.Colon r
section (s.Numbers a n k) r = expr a (optional after_colon n (optional after_colon k r))

abbrev pub sections : Sections → Outline
sections x r = name x.name (dims section x.sections r)

abbrev pub range : made.Expr × Option (Place × made.Expr) → Outline
range x r = expr x.0 (optional after_colon x.1 r)

abbrev pub piece : Piece → Outline
piece (pi.All p) r = sign m.Colon r
piece (pi.Numbers a n) r = range (a, n) r

abbrev pub nodes_set : NodesSet → Outline
nodes_set x r = name x.name (several piece piece x.pieces r)

abbrev pub mapping_shape : Mapping → Outline
mapping_shape (mp.Nodes l n x) = line (codes "nodes") (λ r. name n (several expr expr x r))
mapping_shape (mp.NodesStar l n x) = line (codes "nodes") (λ r. name n (single star x r))
mapping_shape (mp.NodesPart l n x p y) = line (codes "nodes") (λ r. name n (single expr x (sign m.Assign (nodes_set y r))))
mapping_shape (mp.Template l n x) = line (codes "template") (λ r. name n (several expr range x r))
mapping_shape (mp.Distribute l n x p o) = line (codes "distribute") (λ r. name n (several dist_form dist_form x (spelled (codes "onto") (name o r))))
mapping_shape (mp.Align l n xs p o x) = line (codes "align") (λ r. name n (dims align_dimension xs (spelled (codes "with") (name o (several point point x r)))))
mapping_shape (mp.Shadow l n ws) = line (codes "shadow") (λ r. name n (dims range ws r))

abbrev pub reduction_operator : ReductionOperator → Outline
reduction_operator (ro.Mark x) r = sign x.what r
reduction_operator (ro.Max p) r = spelled (codes "max") r
reduction_operator (ro.Min p) r = spelled (codes "min") r

abbrev pub reduction_list : ReductionOperator × Place × CommaList Name → Outline
reduction_list x r = reduction_operator x.0 (sign m.Colon (names x.2 r))

abbrev pub reduction : Reduction → Outline
reduction x r = spelled (codes "reduction") (in_parens reduction_list x.list r)

abbrev pub loop_line : LoopLine → Outline
loop_line x = line (codes "loop") (λ r. optional (in_parens names) x.names (spelled (codes "on") (name x.template (several point point x.points (each reduction x.reductions r)))))

abbrev pub task_line : TaskLine → Outline
task_line x = line (codes "task") (λ r. spelled (codes "on") (nodes_set x.set r))

-- Statements.
abbrev pub simple_shape : Simple → Outline
simple_shape (si.Assign x op e) r = ref_shape (ref_view x) (sign op.what (expr e r))
simple_shape (si.Postfix x op) r = ref_shape (ref_view x) (sign op.what r)
simple_shape (si.Prefix op x) r = sign op.what (ref_shape (ref_view x) r)
simple_shape (si.Call x) r = shape (call_view x) ▸ r

abbrev pub for_first : ForFirst → Outline
for_first (ff.Assign x p e) r = ref_shape (ref_view x) (sign m.Assign (expr e r))
for_first (ff.Declare q n p e) r = word w.Int (name n (sign m.Assign (expr e r)))

abbrev pub for_head : ForHead → Outline
for_head x r = word w.For (sign m.OpenParen (optional for_first x.first (sign m.Semicolon (optional expr x.test (sign m.Semicolon (optional simple_shape x.next (sign m.CloseParen r)))))))

abbrev pub format : Format → Outline
format n r = token (t.Text n.text) ▸ r

abbrev pub plain_shape : Plain → Outline
plain_shape (pl.Empty p) r = sign m.Semicolon r
plain_shape (pl.Simple x p) r = simple_shape x (sign m.Semicolon r)
plain_shape (pl.Return p e q) r = word w.Return (expr e (sign m.Semicolon r))
plain_shape (pl.Print p x q) r = word w.Printf (in_parens (λ y z. format y.0 (rest_shape (rest_view y.1) z)) x (sign m.Semicolon r))
plain_shape (pl.Scan p x q) r = word w.Scanf (in_parens (λ y z. format y.0 (sign m.Comma (sign m.And (ref_shape (ref_view y.3) z)))) x (sign m.Semicolon r))
plain_shape (pl.Sync p x q) r = word w.SyncAll (in_parens (λ y z. sign m.And (ref_shape (ref_view y.1) z)) x (sign m.Semicolon r))
plain_shape (pl.Reflect l ns) r = line (codes "reflect") (in_parens names ns) r
plain_shape (pl.Barrier l) r = line (codes "barrier") (λ z. z) r
plain_shape (pl.Bcast l ns p x) r = line (codes "bcast") (λ z. in_parens names ns (spelled (codes "from") (nodes_set x z))) r
plain_shape (pl.Gmove l a p x q) r = line (codes "gmove") (λ z. z) (sections a (sign m.Assign (sections x (sign m.Semicolon r))))

abbrev mutual
  pub stmt_shape : Stmt → Shape
  stmt_shape (tr.plain x) = group (plain_shape x done)
  stmt_shape (tr.block o xs c) = group (token (t.Mark m.OpenBrace) ▸ items_shape xs (token (t.Mark m.CloseBrace) ▸ done))
  stmt_shape (tr.if_then p e s) = group (token (t.Word w.If) ▸ in_parens expr e (stmt_shape s ▸ done))
  stmt_shape (tr.if_else p e s q u) = group (token (t.Word w.If) ▸ in_parens expr e (stmt_shape s ▸ token (t.Word w.Else) ▸ stmt_shape u ▸ done))
  stmt_shape (tr.while_do p e s) = group (token (t.Word w.While) ▸ in_parens expr e (stmt_shape s ▸ done))
  stmt_shape (tr.for_do h s) = group (for_head h (stmt_shape s ▸ done))
  stmt_shape (tr.loop l h s) = group (loop_line l (for_head h (stmt_shape s ▸ done)))
  stmt_shape (tr.task l s) = group (task_line l (stmt_shape s ▸ done))
  stmt_shape (tr.tasks l o xs c) = group (line (codes "tasks") (λ z. z) (token (t.Mark m.OpenBrace) ▸ tasks_shape xs (token (t.Mark m.CloseBrace) ▸ done)))

  pub items_shape : BlockItems → Shapes → Shapes
  items_shape tr.none r = r
  items_shape (tr.mapping x xs) r = mapping_shape x (items_shape xs r)
  items_shape (tr.declaration x xs) r = declaration_shape x (items_shape xs r)
  items_shape (tr.statement x xs) r = stmt_shape x ▸ items_shape xs r

  pub tasks_shape : Tasks → Shapes → Shapes
  tasks_shape tr.no_task r = r
  tasks_shape (tr.a_task l s xs) r = task_line l (stmt_shape s ▸ tasks_shape xs r)

-- Programs.
abbrev pub parameter : TypeWords × Name → Outline
parameter x r = type_words x.0 (name x.1 r)

abbrev pub parameters : Parameters → Outline
parameters (pr.Void p) r = word w.Void r
parameters (pr.Named x) r = list parameter x r

abbrev pub body : Inside (List (BlockItem made_stmt.Stmt)) → Outline
body x r = in_braces (λ xs z. items_shape (items_view xs) z) x r

abbrev pub function : Function → Outline
function x r = type_words x.ty (name x.name (in_parens (optional parameters) x.parameters (body x.body r)))

abbrev pub top_item : TopItem → Outline
top_item (top.Mapping x) r = mapping_shape x r
top_item (top.Declaration x) r = declaration_shape x r
top_item (top.Function x) r = function x r

abbrev pub tree_shape : Tree → Shapes
tree_shape x = each top_item x.parts (token t.Finish ▸ done)
