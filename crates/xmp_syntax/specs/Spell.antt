-- The tokens of a tree, with their places. Source: the grammar of this project's language.
use Rattle.std.specs.Prelude.{ℕ, List, [], ◌∷◌, Option, None, Some, codes, map}
use Rattle.xmp_base.specs.declared.place.Place.{Place}
use Rattle.xmp_num.specs.declared.types.Ty.{Ty}
use Rattle.xmp_num.specs.declared.types.Ty.TheVariants as ty
use Rattle.xmp_lex.specs.declared.token.Token.{Token}
use Rattle.xmp_lex.specs.declared.token.TokenKind.{TokenKind}
use Rattle.xmp_lex.specs.declared.token.TokenKind.TheVariants as t
use Rattle.xmp_lex.specs.declared.token.Mark.{Mark}
use Rattle.xmp_lex.specs.declared.token.Mark.TheVariants as m
use Rattle.xmp_lex.specs.declared.token.Reserved.{Reserved}
use Rattle.xmp_lex.specs.declared.token.Reserved.TheVariants as w
use Rattle.xmp_syntax.specs.declared.parts.Name.{Name}
use Rattle.xmp_syntax.specs.declared.parts.Format.{Format}
use Rattle.xmp_syntax.specs.declared.parts.Placed.{Placed}
use Rattle.xmp_syntax.specs.declared.parts.CommaList.{CommaList}
use Rattle.xmp_syntax.specs.declared.parts.Next.{Next}
use Rattle.xmp_syntax.specs.declared.parts.Inside.{Inside}
use Rattle.xmp_syntax.specs.declared.parts.Several.{Several}
use Rattle.xmp_syntax.specs.declared.parts.Several.TheVariants as sev
use Rattle.xmp_syntax.specs.declared.parts.Single.{Single}
use Rattle.xmp_syntax.specs.declared.parts.Single.TheVariants as one
use Rattle.xmp_syntax.specs.declared.parts.TypeWords.{TypeWords}
use Rattle.xmp_syntax.specs.declared.parts.TypeWords.TheVariants as tw
use Rattle.xmp_syntax.specs.declared.expression.Expr as made
use Rattle.xmp_syntax.specs.declared.declaration.Declarator.{Declarator}
use Rattle.xmp_syntax.specs.declared.declaration.Declarator.TheVariants as d
use Rattle.xmp_syntax.specs.declared.declaration.Declaration.{Declaration}
use Rattle.xmp_syntax.specs.declared.directive.DirectiveLine.{DirectiveLine}
use Rattle.xmp_syntax.specs.declared.directive.DistForm.{DistForm}
use Rattle.xmp_syntax.specs.declared.directive.DistForm.TheVariants as f
use Rattle.xmp_syntax.specs.declared.directive.AlignDimension.{AlignDimension}
use Rattle.xmp_syntax.specs.declared.directive.AlignDimension.TheVariants as al
use Rattle.xmp_syntax.specs.declared.directive.Point.{Point}
use Rattle.xmp_syntax.specs.declared.directive.Point.TheVariants as pt
use Rattle.xmp_syntax.specs.declared.directive.Section.{Section}
use Rattle.xmp_syntax.specs.declared.directive.Section.TheVariants as s
use Rattle.xmp_syntax.specs.declared.directive.Sections.{Sections}
use Rattle.xmp_syntax.specs.declared.directive.Piece.{Piece}
use Rattle.xmp_syntax.specs.declared.directive.Piece.TheVariants as pi
use Rattle.xmp_syntax.specs.declared.directive.NodesSet.{NodesSet}
use Rattle.xmp_syntax.specs.declared.directive.Mapping.{Mapping}
use Rattle.xmp_syntax.specs.declared.directive.Mapping.TheVariants as mp
use Rattle.xmp_syntax.specs.declared.directive.ReductionOperator.{ReductionOperator}
use Rattle.xmp_syntax.specs.declared.directive.ReductionOperator.TheVariants as ro
use Rattle.xmp_syntax.specs.declared.directive.Reduction.{Reduction}
use Rattle.xmp_syntax.specs.declared.directive.LoopLine.{LoopLine}
use Rattle.xmp_syntax.specs.declared.directive.TaskLine.{TaskLine}
use Rattle.xmp_syntax.specs.declared.statement.Simple.{Simple}
use Rattle.xmp_syntax.specs.declared.statement.Simple.TheVariants as si
use Rattle.xmp_syntax.specs.declared.statement.ForFirst.{ForFirst}
use Rattle.xmp_syntax.specs.declared.statement.ForFirst.TheVariants as ff
use Rattle.xmp_syntax.specs.declared.statement.ForHead.{ForHead}
use Rattle.xmp_syntax.specs.declared.statement.Plain.{Plain}
use Rattle.xmp_syntax.specs.declared.statement.Plain.TheVariants as pl
use Rattle.xmp_syntax.specs.declared.statement.BlockItem.{BlockItem}
use Rattle.xmp_syntax.specs.declared.statement.BlockItem.TheVariants as b
use Rattle.xmp_syntax.specs.declared.statement.Stmt as made_stmt
use Rattle.xmp_syntax.specs.declared.program.Function.{Function}
use Rattle.xmp_syntax.specs.declared.program.Parameters.{Parameters}
use Rattle.xmp_syntax.specs.declared.program.Parameters.TheVariants as pr
use Rattle.xmp_syntax.specs.declared.program.TopItem.{TopItem}
use Rattle.xmp_syntax.specs.declared.program.TopItem.TheVariants as top
use Rattle.xmp_syntax.specs.declared.program.Tree.{Tree}
use Rattle.xmp_syntax.specs.Trees.{Expr, number, read, call, parens, unary, cast, chain, conditional, Ref, ref, Subscripts, no_more, subscript, Image, no_image, image, Arguments, no_arguments, arguments, Rest, end, comma, Links, last, link, Stmt, plain, block, if_then, if_else, while_do, for_do, loop, task, tasks, BlockItems, none, mapping, declaration, statement, Tasks, no_task, a_task}
use Rattle.xmp_syntax.specs.View.{expr_view, ref_view, subscripts_view, rest_view, call_view, stmt_view, items_view}

-- the tokens of a part, before those of the rest
abbrev pub Text : Type 0
Text = List Token → List Token

abbrev pub ◌at◌ : TokenKind → Place → Token
kind at p = record { kind = kind; at = p }

infixl 90 ◌at◌
abbrev pub sign : Mark → Place → Text
sign x p r = t.Mark x at p ∷ r

abbrev pub word : Reserved → Place → Text
word x p r = t.Word x at p ∷ r

-- a word of a directive, which is a plain name
abbrev pub spelled : List ℕ → Place → Text
spelled x p r = t.Name x at p ∷ r

abbrev pub name : Name → Text
name n r = t.Name n.text at n.at ∷ r

abbrev pub format : Format → Text
format n r = t.Text n.text at n.at ∷ r

abbrev pub optional : {A : Type 0} → (A → Text) → Option A → Text
optional f None r = r
optional f (Some x) r = f x r

abbrev pub each : {A : Type 0} → (A → Text) → List A → Text
each f [] r = r
each f (x ∷ xs) r = f x (each f xs r)

abbrev pub next : {A : Type 0} → (A → Text) → Next A → Text
next f x r = sign m.Comma x.comma (f x.item r)

abbrev pub list : {A : Type 0} → (A → Text) → CommaList A → Text
list f x r = f x.first (each (next f) x.more r)

abbrev pub inside : {A : Type 0} → Mark → (A → Text) → Mark → Inside A → Text
inside a f z x r = sign a x.open (f x.item (sign z x.close r))

abbrev pub in_parens : {A : Type 0} → (A → Text) → Inside A → Text
in_parens f = inside m.OpenParen f m.CloseParen

abbrev pub in_brackets : {A : Type 0} → (A → Text) → Inside A → Text
in_brackets f = inside m.OpenBracket f m.CloseBracket

abbrev pub in_braces : {A : Type 0} → (A → Text) → Inside A → Text
in_braces f = inside m.OpenBrace f m.CloseBrace

-- `{ "[" f "]" }`
abbrev pub dims : {A : Type 0} → (A → Text) → List (Inside A) → Text
dims f = each (in_brackets f)

-- each in brackets, or all between one pair of parentheses
abbrev pub several : {A B : Type 0} → (A → Text) → (B → Text) → Several A B → Text
several f g (sev.Brackets xs) r = dims f xs r
several f g (sev.Parens x) r = in_parens (list g) x r

-- in brackets or in parentheses
abbrev pub single : {A : Type 0} → (A → Text) → Single A → Text
single f (one.Bracket x) r = in_brackets f x r
single f (one.Paren x) r = in_parens f x r

abbrev pub type_word : Ty → Reserved
type_word ty.Int = w.Int
type_word ty.Long = w.Long

abbrev pub type_words : TypeWords → Text
type_words (tw.Int p) r = word w.Int p r
type_words (tw.Long p) r = word w.Long p r
type_words (tw.LongInt p q) r = word w.Long p (word w.Int q r)

-- Expressions.
abbrev mutual
  pub spell : Expr → List Token → List Token
  spell (number p n ty) r = t.Number n ty at p ∷ r
  spell (read x) r = spell_ref x r
  spell (call f o xs c) r = t.Name f.text at f.at ∷ t.Mark m.OpenParen at o ∷ spell_arguments xs (t.Mark m.CloseParen at c ∷ r)
  spell (parens o e c) r = t.Mark m.OpenParen at o ∷ spell e (t.Mark m.CloseParen at c ∷ r)
  spell (unary op p e) r = t.Mark op at p ∷ spell e r
  spell (cast o ty p c e) r = t.Mark m.OpenParen at o ∷ t.Word (type_word ty) at p ∷ t.Mark m.CloseParen at c ∷ spell e r
  spell (chain e ls) r = spell e (spell_links ls r)
  spell (conditional x p y q z) r = spell x (t.Mark m.Question at p ∷ spell y (t.Mark m.Colon at q ∷ spell z r))

  pub spell_ref : Ref → List Token → List Token
  spell_ref (ref n ds i) r = t.Name n.text at n.at ∷ spell_subscripts ds (spell_image i r)

  pub spell_subscripts : Subscripts → List Token → List Token
  spell_subscripts no_more r = r
  spell_subscripts (subscript o e c ds) r = t.Mark m.OpenBracket at o ∷ spell e (t.Mark m.CloseBracket at c ∷ spell_subscripts ds r)

  pub spell_image : Image → List Token → List Token
  spell_image no_image r = r
  spell_image (image p o e c) r = t.Mark m.Colon at p ∷ t.Mark m.OpenBracket at o ∷ spell e (t.Mark m.CloseBracket at c ∷ r)

  pub spell_arguments : Arguments → List Token → List Token
  spell_arguments no_arguments r = r
  spell_arguments (arguments e es) r = spell e (spell_rest es r)

  pub spell_rest : Rest → List Token → List Token
  spell_rest end r = r
  spell_rest (comma p e es) r = t.Mark m.Comma at p ∷ spell e (spell_rest es r)

  pub spell_links : Links → List Token → List Token
  spell_links last r = r
  spell_links (link op p e ls) r = t.Mark op at p ∷ spell e (spell_links ls r)

abbrev pub expr : made.Expr → Text
expr e = spell (expr_view e)

-- `":" expr`
abbrev pub after_colon : Place × made.Expr → Text
after_colon x r = sign m.Colon x.0 (expr x.1 r)

-- `"=" expr`
abbrev pub value : Place × made.Expr → Text
value x r = sign m.Assign x.0 (expr x.1 r)

abbrev pub names : CommaList Name → Text
names = list name

-- Declarations.
abbrev pub coarray : Place × Inside Place → Text
coarray x r = sign m.Colon x.0 (in_brackets (sign m.Star) x.1 r)

abbrev pub declarator : Declarator → Text
declarator (d.Scalar n v) r = name n (optional value v r)
declarator (d.Array n ds c) r = name n (dims expr ds (optional coarray c r))

abbrev pub spell_declaration : Declaration → Text
spell_declaration x r = type_words x.ty (list declarator x.items (sign m.Semicolon x.end r))

-- Directives.
abbrev pub directive_line : List ℕ → Text → DirectiveLine → Text
directive_line bytes inner x r = t.Pragma at x.start ∷ spelled bytes x.word (inner (t.Close at x.end ∷ r))

abbrev pub dist_form : DistForm → Text
dist_form (f.Whole p) r = sign m.Star p r
dist_form (f.Block p) r = spelled (codes "block") p r
dist_form (f.Cyclic p x) r = spelled (codes "cyclic") p (optional (in_parens expr) x r)
dist_form (f.Gblock p x) r = spelled (codes "gblock") p (in_parens (in_braces (list expr)) x r)

abbrev pub align_dimension : AlignDimension → Text
align_dimension (al.Star p) r = sign m.Star p r
align_dimension (al.Dummy n) r = name n r

abbrev pub offset : Placed Mark × made.Expr → Text
offset x r = sign x.0.what x.0.at (expr x.1 r)

abbrev pub point : Point → Text
point (pt.Star p) r = sign m.Star p r
point (pt.Index n x) r = name n (optional offset x r)

abbrev pub section : Section → Text
section (s.All p) r = sign m.Colon p r
section (s.Numbers a n k) r = expr a (optional after_colon n (optional after_colon k r))

abbrev pub sections : Sections → Text
sections x r = name x.name (dims section x.sections r)

-- a bound of a template, the widths of a shadow, the numbers of a piece: one, or two with a colon between them
abbrev pub range : made.Expr × Option (Place × made.Expr) → Text
range x r = expr x.0 (optional after_colon x.1 r)

abbrev pub piece : Piece → Text
piece (pi.All p) r = sign m.Colon p r
piece (pi.Numbers a n) r = range (a, n) r

abbrev pub nodes_set : NodesSet → Text
nodes_set x r = name x.name (several piece piece x.pieces r)

abbrev pub spell_mapping : Mapping → Text
spell_mapping (mp.Nodes l n x) = directive_line (codes "nodes") (λ r. name n (several expr expr x r)) l
spell_mapping (mp.NodesStar l n x) = directive_line (codes "nodes") (λ r. name n (single (sign m.Star) x r)) l
spell_mapping (mp.NodesPart l n x p y) = directive_line (codes "nodes") (λ r. name n (single expr x (sign m.Assign p (nodes_set y r)))) l
spell_mapping (mp.Template l n x) = directive_line (codes "template") (λ r. name n (several expr range x r)) l
spell_mapping (mp.Distribute l n x p o) = directive_line (codes "distribute") (λ r. name n (several dist_form dist_form x (spelled (codes "onto") p (name o r)))) l
spell_mapping (mp.Align l n xs p o x) = directive_line (codes "align") (λ r. name n (dims align_dimension xs (spelled (codes "with") p (name o (several point point x r))))) l
spell_mapping (mp.Shadow l n ws) = directive_line (codes "shadow") (λ r. name n (dims range ws r)) l

abbrev pub reduction_operator : ReductionOperator → Text
reduction_operator (ro.Mark x) r = sign x.what x.at r
reduction_operator (ro.Max p) r = spelled (codes "max") p r
reduction_operator (ro.Min p) r = spelled (codes "min") p r

abbrev pub reduction_list : ReductionOperator × Place × CommaList Name → Text
reduction_list x r = reduction_operator x.0 (sign m.Colon x.1 (names x.2 r))

abbrev pub reduction : Reduction → Text
reduction x r = spelled (codes "reduction") x.word (in_parens reduction_list x.list r)

abbrev pub loop_line : LoopLine → Text
loop_line x = directive_line (codes "loop") (λ r. optional (in_parens names) x.names (spelled (codes "on") x.on (name x.template (several point point x.points (each reduction x.reductions r))))) x.line

abbrev pub task_line : TaskLine → Text
task_line x = directive_line (codes "task") (λ r. spelled (codes "on") x.on (nodes_set x.set r)) x.line

-- Statements.
abbrev pub spell_simple : Simple → Text
spell_simple (si.Assign x op e) r = spell_ref (ref_view x) (sign op.what op.at (expr e r))
spell_simple (si.Postfix x op) r = spell_ref (ref_view x) (sign op.what op.at r)
spell_simple (si.Prefix op x) r = sign op.what op.at (spell_ref (ref_view x) r)
spell_simple (si.Call x) r = spell (call_view x) r

abbrev pub for_first : ForFirst → Text
for_first (ff.Assign x p e) r = spell_ref (ref_view x) (sign m.Assign p (expr e r))
for_first (ff.Declare q n p e) r = word w.Int q (name n (sign m.Assign p (expr e r)))

abbrev pub for_head : ForHead → Text
for_head x r = word w.For x.word (sign m.OpenParen x.open (optional for_first x.first (sign m.Semicolon x.first_end (optional expr x.test (sign m.Semicolon x.test_end (optional spell_simple x.next (sign m.CloseParen x.close r)))))))

abbrev pub print_list : Format × List (Next made.Expr) → Text
print_list x r = format x.0 (spell_rest (rest_view x.1) r)

abbrev pub spell_plain : Plain → Text
spell_plain (pl.Empty p) r = sign m.Semicolon p r
spell_plain (pl.Simple x p) r = spell_simple x (sign m.Semicolon p r)
spell_plain (pl.Return p e q) r = word w.Return p (expr e (sign m.Semicolon q r))
spell_plain (pl.Print p x q) r = word w.Printf p (in_parens print_list x (sign m.Semicolon q r))
spell_plain (pl.Scan p x q) r = word w.Scanf p (in_parens (λ y z. format y.0 (sign m.Comma y.1 (sign m.And y.2 (spell_ref (ref_view y.3) z)))) x (sign m.Semicolon q r))
spell_plain (pl.Sync p x q) r = word w.SyncAll p (in_parens (λ y z. sign m.And y.0 (spell_ref (ref_view y.1) z)) x (sign m.Semicolon q r))
spell_plain (pl.Reflect l ns) r = directive_line (codes "reflect") (in_parens names ns) l r
spell_plain (pl.Barrier l) r = directive_line (codes "barrier") (λ z. z) l r
spell_plain (pl.Bcast l ns p x) r = directive_line (codes "bcast") (λ z. in_parens names ns (spelled (codes "from") p (nodes_set x z))) l r
spell_plain (pl.Gmove l a p x q) r = directive_line (codes "gmove") (λ z. z) l (sections a (sign m.Assign p (sections x (sign m.Semicolon q r))))

abbrev mutual
  pub spell_stmt : Stmt → List Token → List Token
  spell_stmt (plain x) r = spell_plain x r
  spell_stmt (block o xs c) r = t.Mark m.OpenBrace at o ∷ spell_items xs (t.Mark m.CloseBrace at c ∷ r)
  spell_stmt (if_then p e s) r = t.Word w.If at p ∷ in_parens expr e (spell_stmt s r)
  spell_stmt (if_else p e s q u) r = t.Word w.If at p ∷ in_parens expr e (spell_stmt s (t.Word w.Else at q ∷ spell_stmt u r))
  spell_stmt (while_do p e s) r = t.Word w.While at p ∷ in_parens expr e (spell_stmt s r)
  spell_stmt (for_do h s) r = for_head h (spell_stmt s r)
  spell_stmt (loop l h s) r = loop_line l (for_head h (spell_stmt s r))
  spell_stmt (task l s) r = task_line l (spell_stmt s r)
  spell_stmt (tasks l o xs c) r = directive_line (codes "tasks") (λ z. z) l (t.Mark m.OpenBrace at o ∷ spell_tasks xs (t.Mark m.CloseBrace at c ∷ r))

  pub spell_items : BlockItems → List Token → List Token
  spell_items none r = r
  spell_items (mapping x xs) r = spell_mapping x (spell_items xs r)
  spell_items (declaration x xs) r = spell_declaration x (spell_items xs r)
  spell_items (statement x xs) r = spell_stmt x (spell_items xs r)

  pub spell_tasks : Tasks → List Token → List Token
  spell_tasks no_task r = r
  spell_tasks (a_task l s xs) r = task_line l (spell_stmt s (spell_tasks xs r))

-- Programs.
abbrev pub parameter : TypeWords × Name → Text
parameter x r = type_words x.0 (name x.1 r)

abbrev pub parameters : Parameters → Text
parameters (pr.Void p) r = word w.Void p r
parameters (pr.Named x) r = list parameter x r

abbrev pub body : Inside (List (BlockItem made_stmt.Stmt)) → Text
body x r = in_braces (λ xs z. spell_items (items_view xs) z) x r

abbrev pub function : Function → Text
function x r = type_words x.ty (name x.name (in_parens (optional parameters) x.parameters (body x.body r)))

abbrev pub top_item : TopItem → Text
top_item (top.Mapping x) r = spell_mapping x r
top_item (top.Declaration x) r = spell_declaration x r
top_item (top.Function x) r = function x r

-- the tokens of a program
abbrev pub tokens : Tree → List Token
tokens x = each top_item x.parts (t.Finish at x.finish ∷ [])

-- their kinds
abbrev pub spelling : Tree → List TokenKind
spelling x = map (λ y. y.kind) (tokens x)
