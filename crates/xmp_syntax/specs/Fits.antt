-- The trees that fit the grammar: each operand has the level that its place asks for, and no `else` is given to another `if` than the nearest. Source: ISO C 6.5 and 6.8.4.1, and the grammar of this project's language.
use Rattle.std.specs.Prelude.{◌≡◌, ◌≤◌, ◌<◌, ℕ, suc, List, [], ◌∷◌, Option, None, Some, Bool, true, false, ⊤, ◌⊎◌}
use Rattle.xmp_lex.specs.declared.token.Token.{Token}
use Rattle.xmp_lex.specs.declared.token.Mark.{Mark}
use Rattle.xmp_lex.specs.declared.token.Mark.TheVariants as m
use Rattle.xmp_lex.specs.declared.token.Reserved.TheVariants as w
use Rattle.xmp_syntax.specs.declared.parts.CommaList.{CommaList}
use Rattle.xmp_syntax.specs.declared.parts.Next.{Next}
use Rattle.xmp_syntax.specs.declared.parts.Inside.{Inside}
use Rattle.xmp_syntax.specs.declared.parts.Several.{Several}
use Rattle.xmp_syntax.specs.declared.parts.Several.TheVariants as sev
use Rattle.xmp_syntax.specs.declared.parts.Single.{Single}
use Rattle.xmp_syntax.specs.declared.parts.Single.TheVariants as one
use Rattle.xmp_syntax.specs.declared.parts.Placed.{Placed}
use Rattle.xmp_base.specs.declared.place.Place.{Place}
use Rattle.xmp_syntax.specs.declared.expression.Expr as made
use Rattle.xmp_syntax.specs.declared.declaration.Declarator.{Declarator}
use Rattle.xmp_syntax.specs.declared.declaration.Declarator.TheVariants as d
use Rattle.xmp_syntax.specs.declared.declaration.Declaration.{Declaration}
use Rattle.xmp_syntax.specs.declared.directive.DistForm.{DistForm}
use Rattle.xmp_syntax.specs.declared.directive.DistForm.TheVariants as f
use Rattle.xmp_syntax.specs.declared.directive.Point.{Point}
use Rattle.xmp_syntax.specs.declared.directive.Point.TheVariants as pt
use Rattle.xmp_syntax.specs.declared.directive.Section.{Section}
use Rattle.xmp_syntax.specs.declared.directive.Section.TheVariants as s
use Rattle.xmp_syntax.specs.declared.directive.Sections.{Sections}
use Rattle.xmp_syntax.specs.declared.directive.Piece.{Piece}
use Rattle.xmp_syntax.specs.declared.directive.Piece.TheVariants as pi
use Rattle.xmp_syntax.specs.declared.directive.NodesSet.{NodesSet}
use Rattle.xmp_syntax.specs.declared.directive.Mapping.{Mapping}
use Rattle.xmp_syntax.specs.declared.directive.Mapping.TheVariants as mp
use Rattle.xmp_syntax.specs.declared.directive.ReductionOperator.{ReductionOperator}
use Rattle.xmp_syntax.specs.declared.directive.ReductionOperator.TheVariants as ro
use Rattle.xmp_syntax.specs.declared.directive.Reduction.{Reduction}
use Rattle.xmp_syntax.specs.declared.directive.LoopLine.{LoopLine}
use Rattle.xmp_syntax.specs.declared.directive.TaskLine.{TaskLine}
use Rattle.xmp_syntax.specs.declared.statement.Simple.{Simple}
use Rattle.xmp_syntax.specs.declared.statement.Simple.TheVariants as si
use Rattle.xmp_syntax.specs.declared.statement.ForFirst.{ForFirst}
use Rattle.xmp_syntax.specs.declared.statement.ForFirst.TheVariants as ff
use Rattle.xmp_syntax.specs.declared.statement.ForHead.{ForHead}
use Rattle.xmp_syntax.specs.declared.statement.Plain.{Plain}
use Rattle.xmp_syntax.specs.declared.statement.Plain.TheVariants as pl
use Rattle.xmp_syntax.specs.declared.program.Function.{Function}
use Rattle.xmp_syntax.specs.declared.program.TopItem.{TopItem}
use Rattle.xmp_syntax.specs.declared.program.TopItem.TheVariants as top
use Rattle.xmp_syntax.specs.declared.program.Tree.{Tree}
use Rattle.xmp_syntax.specs.Trees.{Expr, number, read, call, parens, unary, cast, chain, conditional, Ref, ref, Subscripts, no_more, subscript, Image, no_image, image, Arguments, no_arguments, arguments, Rest, end, comma, Links, last, link, Stmt, plain, block, if_then, if_else, while_do, for_do, loop, task, tasks, BlockItems, none, mapping, declaration, statement, Tasks, no_task, a_task}
use Rattle.xmp_syntax.specs.View.{expr_view, ref_view, rest_view, call_view, stmt_view, items_view}
use Rattle.xmp_syntax.specs.Grammar.{mark_binds, is_unary_mark, is_assign_mark, is_step_mark, is_offset_mark, is_reduction_mark}

-- The level of an expression: 0 for an operand, 1 to 10 for an operator as it binds, 11 for a conditional.
abbrev pub links_level : Links → ℕ
links_level last = 0
links_level (link op p e ls) = mark_binds op

-- the level of an expression
abbrev pub level_of : Expr → ℕ
level_of (chain e ls) = links_level ls
level_of (conditional x p y q z) = 11
level_of _ = 0

-- Each operand has the level that its place asks for.
abbrev mutual
  pub Fits : Expr → Type 0
  Fits (number p n ty) = ⊤
  Fits (read x) = FitsRef x
  Fits (call f o xs c) = FitsArguments xs
  Fits (parens o e c) = Fits e
  Fits (unary op p e) = (is_unary_mark op ≡ true) × (level_of e ≤ 0) × Fits e
  Fits (cast o ty p c e) = (level_of e ≤ 0) × Fits e
  -- operators of one level, and operands of tighter ones
  Fits (chain e ls) = (level_of e < links_level ls) × Fits e × FitsLinks (links_level ls) ls
  Fits (conditional x p y q z) = (level_of x ≤ 10) × Fits x × Fits y × Fits z

  pub FitsRef : Ref → Type 0
  FitsRef (ref n ds i) = FitsSubscripts ds × FitsImage i

  pub FitsSubscripts : Subscripts → Type 0
  FitsSubscripts no_more = ⊤
  FitsSubscripts (subscript o e c ds) = Fits e × FitsSubscripts ds

  pub FitsImage : Image → Type 0
  FitsImage no_image = ⊤
  FitsImage (image p o e c) = Fits e

  pub FitsArguments : Arguments → Type 0
  FitsArguments no_arguments = ⊤
  FitsArguments (arguments e es) = Fits e × FitsRest es

  pub FitsRest : Rest → Type 0
  FitsRest end = ⊤
  FitsRest (comma p e es) = Fits e × FitsRest es

  pub FitsLinks : ℕ → Links → Type 0
  FitsLinks n last = ⊤
  FitsLinks n (link op p e ls) = (mark_binds op ≡ n) × (level_of e < n) × Fits e × FitsLinks n ls

abbrev pub FitsExpr : made.Expr → Type 0
FitsExpr e = Fits (expr_view e)

-- Parts of parts.
abbrev pub Each : {A : Type 0} → (A → Type 0) → List A → Type 0
Each P [] = ⊤
Each P (x ∷ xs) = P x × Each P xs

abbrev pub If : {A : Type 0} → (A → Type 0) → Option A → Type 0
If P None = ⊤
If P (Some x) = P x

abbrev pub FitsList : {A : Type 0} → (A → Type 0) → CommaList A → Type 0
FitsList P x = P x.first × Each (λ y. P y.item) x.more

-- in brackets, any number
abbrev pub FitsDims : {A : Type 0} → (A → Type 0) → List (Inside A) → Type 0
FitsDims P = Each (λ x. P x.item)

abbrev pub NotEmpty : {A : Type 0} → List A → Type 0
NotEmpty [] = ⊥
NotEmpty (x ∷ xs) = ⊤

-- in brackets, at least one
abbrev pub FitsSomeDims : {A : Type 0} → (A → Type 0) → List (Inside A) → Type 0
FitsSomeDims P xs = NotEmpty xs × FitsDims P xs

-- each in brackets, or all between one pair of parentheses
abbrev pub FitsSeveral : {A B : Type 0} → (A → Type 0) → (B → Type 0) → Several A B → Type 0
FitsSeveral P Q (sev.Brackets xs) = FitsSomeDims P xs
FitsSeveral P Q (sev.Parens x) = FitsList Q x.item

-- the same, or none
abbrev pub FitsAnySeveral : {A B : Type 0} → (A → Type 0) → (B → Type 0) → Several A B → Type 0
FitsAnySeveral P Q (sev.Brackets xs) = FitsDims P xs
FitsAnySeveral P Q (sev.Parens x) = FitsList Q x.item

abbrev pub FitsSingle : {A : Type 0} → (A → Type 0) → Single A → Type 0
FitsSingle P (one.Bracket x) = P x.item
FitsSingle P (one.Paren x) = P x.item

abbrev pub FitsSecond : Place × made.Expr → Type 0
FitsSecond x = FitsExpr x.1

-- Declarations and directives.
abbrev pub FitsDeclarator : Declarator → Type 0
FitsDeclarator (d.Scalar n v) = If FitsSecond v
FitsDeclarator (d.Array n ds c) = FitsSomeDims FitsExpr ds

abbrev pub FitsDeclaration : Declaration → Type 0
FitsDeclaration x = FitsList FitsDeclarator x.items

abbrev pub FitsForm : DistForm → Type 0
FitsForm (f.Whole p) = ⊤
FitsForm (f.Block p) = ⊤
FitsForm (f.Cyclic p x) = If (λ y. FitsExpr y.item) x
FitsForm (f.Gblock p x) = FitsList FitsExpr x.item.item

-- what follows the sign of an offset is an operand, as that of `*`
abbrev pub FitsOffset : Placed Mark × made.Expr → Type 0
FitsOffset x = (is_offset_mark x.0.what ≡ true) × (level_of (expr_view x.1) ≤ 0) × FitsExpr x.1

abbrev pub FitsPoint : Point → Type 0
FitsPoint (pt.Star p) = ⊤
FitsPoint (pt.Index n x) = If FitsOffset x

-- a third number only behind a second
abbrev pub FitsSection : Section → Type 0
FitsSection (s.All p) = ⊤
FitsSection (s.Numbers a None k) = FitsExpr a × (k ≡ None)
FitsSection (s.Numbers a (Some n) k) = FitsExpr a × FitsSecond n × If FitsSecond k

abbrev pub FitsSections : Sections → Type 0
FitsSections x = FitsDims FitsSection x.sections

abbrev pub FitsRange : made.Expr × Option (Place × made.Expr) → Type 0
FitsRange x = FitsExpr x.0 × If FitsSecond x.1

abbrev pub FitsPiece : Piece → Type 0
FitsPiece (pi.All p) = ⊤
FitsPiece (pi.Numbers a n) = FitsRange (a, n)

abbrev pub FitsSet : NodesSet → Type 0
FitsSet x = FitsAnySeveral FitsPiece FitsPiece x.pieces

abbrev pub FitsMapping : Mapping → Type 0
FitsMapping (mp.Nodes l n x) = FitsSeveral FitsExpr FitsExpr x
FitsMapping (mp.NodesStar l n x) = ⊤
FitsMapping (mp.NodesPart l n x p y) = FitsSingle FitsExpr x × FitsSet y
FitsMapping (mp.Template l n x) = FitsSeveral FitsExpr FitsRange x
FitsMapping (mp.Distribute l n x p o) = FitsSeveral FitsForm FitsForm x
FitsMapping (mp.Align l n xs p o x) = NotEmpty xs × FitsSeveral FitsPoint FitsPoint x
FitsMapping (mp.Shadow l n ws) = FitsSomeDims FitsRange ws

abbrev pub FitsOperator : ReductionOperator → Type 0
FitsOperator (ro.Mark x) = is_reduction_mark x.what ≡ true
FitsOperator (ro.Max p) = ⊤
FitsOperator (ro.Min p) = ⊤

abbrev pub FitsReduction : Reduction → Type 0
FitsReduction x = FitsOperator x.list.item.0

abbrev pub FitsLoopLine : LoopLine → Type 0
FitsLoopLine x = FitsSeveral FitsPoint FitsPoint x.points × Each FitsReduction x.reductions

-- Statements.
abbrev pub FitsSimple : Simple → Type 0
FitsSimple (si.Assign x op e) = FitsRef (ref_view x) × (is_assign_mark op.what ≡ true) × FitsExpr e
FitsSimple (si.Postfix x op) = FitsRef (ref_view x) × (is_step_mark op.what ≡ true)
FitsSimple (si.Prefix op x) = (is_step_mark op.what ≡ true) × FitsRef (ref_view x)
FitsSimple (si.Call x) = Fits (call_view x)

abbrev pub FitsFirst : ForFirst → Type 0
FitsFirst (ff.Assign x p e) = FitsRef (ref_view x) × FitsExpr e
FitsFirst (ff.Declare q n p e) = FitsExpr e

abbrev pub FitsHead : ForHead → Type 0
FitsHead x = If FitsFirst x.first × If FitsExpr x.test × If FitsSimple x.next

abbrev pub FitsPlain : Plain → Type 0
FitsPlain (pl.Empty p) = ⊤
FitsPlain (pl.Simple x p) = FitsSimple x
FitsPlain (pl.Return p e q) = FitsExpr e
FitsPlain (pl.Print p x q) = FitsRest (rest_view x.item.1)
FitsPlain (pl.Scan p x q) = FitsRef (ref_view x.item.3)
FitsPlain (pl.Sync p x q) = FitsRef (ref_view x.item.1)
FitsPlain (pl.Reflect l ns) = ⊤
FitsPlain (pl.Barrier l) = ⊤
FitsPlain (pl.Bcast l ns p x) = FitsSet x
FitsPlain (pl.Gmove l a p x q) = FitsSections a × FitsSections x

-- an else behind it would be its own
abbrev pub takes_else : Stmt → Bool
takes_else (if_then p e s) = true
takes_else (if_else p e s q u) = takes_else u
takes_else (while_do p e s) = takes_else s
takes_else (for_do h s) = takes_else s
takes_else (loop l h s) = takes_else s
takes_else (task l s) = takes_else s
takes_else _ = false

-- No else is given to another if than the nearest.
abbrev mutual
  pub FitsStmt : Stmt → Type 0
  FitsStmt (plain x) = FitsPlain x
  FitsStmt (block o xs c) = FitsItems xs
  FitsStmt (if_then p e s) = FitsExpr e.item × FitsStmt s
  FitsStmt (if_else p e s q u) = FitsExpr e.item × FitsStmt s × (takes_else s ≡ false) × FitsStmt u
  FitsStmt (while_do p e s) = FitsExpr e.item × FitsStmt s
  FitsStmt (for_do h s) = FitsHead h × FitsStmt s
  FitsStmt (loop l h s) = FitsLoopLine l × FitsHead h × FitsStmt s
  FitsStmt (task l s) = FitsSet l.set × FitsStmt s
  FitsStmt (tasks l o xs c) = FitsTasks xs

  pub FitsItems : BlockItems → Type 0
  FitsItems none = ⊤
  FitsItems (mapping x xs) = FitsMapping x × FitsItems xs
  FitsItems (declaration x xs) = FitsDeclaration x × FitsItems xs
  FitsItems (statement x xs) = FitsStmt x × FitsItems xs

  pub FitsTasks : Tasks → Type 0
  FitsTasks no_task = ⊤
  FitsTasks (a_task l s xs) = FitsSet l.set × FitsStmt s × FitsTasks xs

-- Programs.
abbrev pub FitsTop : TopItem → Type 0
FitsTop (top.Mapping x) = FitsMapping x
FitsTop (top.Declaration x) = FitsDeclaration x
FitsTop (top.Function x) = FitsItems (items_view x.body.item)

-- the last of the parts is a function
abbrev pub EndsInFunction : List TopItem → Type 0
EndsInFunction [] = ⊥
EndsInFunction (top.Function x ∷ []) = ⊤
EndsInFunction (x ∷ xs) = EndsInFunction xs

-- The tree fits the grammar: each of its parts does, and the last is a function.
abbrev pub FitsTree : Tree → Type 0
FitsTree x = EndsInFunction x.parts × Each FitsTop x.parts
