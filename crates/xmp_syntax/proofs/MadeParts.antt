-- What is made of each part of the grammar.
use Rattle.std.proofs.Common.{◌≡◌, ◌≤◌, ℕ, true, List, ◌∷◌}
use Rattle.std.specs.Prelude.{⊤, Option}
use Rattle.xmp_base.specs.declared.place.Place.{Place}
use Rattle.xmp_lex.specs.declared.token.Token.{Token}
use Rattle.xmp_lex.specs.declared.token.TokenKind.TheVariants as t
use Rattle.xmp_lex.specs.declared.token.Mark.TheVariants as m
use Rattle.xmp_lex.specs.declared.token.Reserved.TheVariants as w
use Rattle.xmp_syntax.specs.declared.parts.Name.{Name}
use Rattle.xmp_syntax.specs.declared.parts.Inside.{Inside}
use Rattle.xmp_syntax.specs.declared.parts.CommaList.{CommaList}
use Rattle.xmp_syntax.specs.declared.parts.Image as made_image
use Rattle.xmp_syntax.specs.declared.parts.Reference.{Reference}
use Rattle.xmp_syntax.specs.declared.expression.Expr as made
use Rattle.xmp_syntax.specs.declared.directive.TaskLine.{TaskLine}
use Rattle.xmp_syntax.specs.declared.statement.ForHead.{ForHead}
use Rattle.xmp_syntax.specs.declared.statement.BlockItem.{BlockItem}
use Rattle.xmp_syntax.specs.declared.statement.Stmt as made_stmt
use Rattle.xmp_syntax.specs.declared.program.Parameters.{Parameters}
use Rattle.xmp_syntax.specs.declared.program.TopItem.{TopItem}
use Rattle.xmp_syntax.specs.Parts.{Part}
use Rattle.xmp_syntax.specs.Parts as p
use Rattle.xmp_syntax.specs.Grammar.{is_word}
use Rattle.xmp_syntax.specs.View.{expr_view, ref_view, subscripts_view, image_view, arguments_view, stmt_view, items_view}
use Rattle.xmp_syntax.specs.Spell.{◌at◌, each, name, names, expr, spell_ref, spell_subscripts, spell_image, spell_arguments, optional, in_parens, type_words, parameter, parameters, body, declarator, spell_declaration, dist_form, align_dimension, point, section, sections, range, piece, nodes_set, spell_mapping, reduction, task_line, spell_simple, for_first, for_head, spell_stmt, spell_items, top_item}
use Rattle.xmp_syntax.specs.Fits.{FitsExpr, FitsRef, FitsSubscripts, FitsImage, FitsArguments, level_of, Each, FitsDeclarator, FitsDeclaration, FitsForm, FitsPoint, FitsRange, FitsPiece, FitsSection, FitsSet, FitsSections, FitsMapping, FitsReduction, FitsSimple, FitsFirst, FitsHead, FitsStmt, FitsItems, FitsTop, EndsInFunction, takes_else}
use Rattle.xmp_syntax.proofs.Done.{Not}

-- a part that fits
module _ {A : Type 0} (f : A → List Token → List Token) (P : A → Type 0) where
  abbrev pub Of : List Token → List Token → Type 0
  Of ts rest = (x : A) × P x × (ts ≡ f x rest)

-- an operand of a level
abbrev pub Level : ℕ → List Token → List Token → Type 0
Level n ts rest = (e : made.Expr) × (level_of (expr_view e) ≤ n) × FitsExpr e × (ts ≡ expr e rest)

-- no else of its own stands behind it
abbrev pub Shut : made_stmt.Stmt → List Token → Type 0
Shut s rest = takes_else (stmt_view s) ≡ true → Not (is_word w.Else) rest

abbrev pub Statement : List Token → List Token → Type 0
Statement ts rest = (s : made_stmt.Stmt) × FitsStmt (stmt_view s) × Shut s rest × (ts ≡ spell_stmt (stmt_view s) rest)

abbrev pub Block : List Token → List Token → Type 0
Block = Of body (λ x. FitsItems (items_view x.item))

-- one more item of a block
abbrev pub Item : List Token → List Token → Type 0
Item ts rest = (x : BlockItem made_stmt.Stmt) × ((xs : List (BlockItem made_stmt.Stmt)) → FitsItems (items_view xs) → FitsItems (items_view (x ∷ xs)))
    × ((xs : List (BlockItem made_stmt.Stmt)) (r : List Token) → rest ≡ spell_items (items_view xs) r → ts ≡ spell_items (items_view (x ∷ xs)) r)

abbrev pub For : List Token → List Token → Type 0
For ts rest = (h : ForHead) × (s : made_stmt.Stmt) × FitsHead h × FitsStmt (stmt_view s) × Shut s rest × (ts ≡ for_head h (spell_stmt (stmt_view s) rest))

-- behind the start of a line
abbrev pub MappingLine : List Token → List Token → Type 0
MappingLine ts rest = (q : Place) → Of spell_mapping FitsMapping (t.Pragma at q ∷ ts) rest

abbrev pub StatementLine : List Token → List Token → Type 0
StatementLine ts rest = (q : Place) → Statement (t.Pragma at q ∷ ts) rest

abbrev pub Task : List Token → List Token → Type 0
Task ts rest = (q : Place) → (l : TaskLine) × (s : made_stmt.Stmt) × FitsSet l.set × FitsStmt (stmt_view s) × Shut s rest × (t.Pragma at q ∷ ts ≡ task_line l (spell_stmt (stmt_view s) rest))

-- behind the name of a declarator
abbrev pub DeclaratorRest : List Token → List Token → Type 0
DeclaratorRest ts rest = (n : Name) → Of declarator FitsDeclarator (name n ts) rest

abbrev pub Fitting : {A : Type 0} → A → Type 0
Fitting x = ⊤

abbrev pub Made : Part → List Token → List Token → Type 0
Made p.program ts rest = (xs : List TopItem) × (q : Place) × EndsInFunction xs × Each FitsTop xs × (ts ≡ each top_item xs (t.Finish at q ∷ rest))
Made p.function_rest ts rest = (x : Inside (Option Parameters)) × (b : Inside (List (BlockItem made_stmt.Stmt))) × FitsItems (items_view b.item) × (ts ≡ in_parens (optional parameters) x (body b rest))
Made p.parameter ts rest = Of parameter Fitting ts rest
Made p.type_words ts rest = Of type_words Fitting ts rest
Made p.declaration ts rest = Of spell_declaration FitsDeclaration ts rest
Made p.declarator ts rest = Of declarator FitsDeclarator ts rest
Made p.declarator_rest ts rest = DeclaratorRest ts rest
Made (p.expression c) ts rest = Of expr FitsExpr ts rest
Made (p.level n c) ts rest = Level n ts rest
Made p.number ts rest = Level 0 ts rest
Made (p.named c) ts rest = Level 0 ts rest
Made (p.parens_or_cast c) ts rest = Level 0 ts rest
Made (p.unary c) ts rest = Level 0 ts rest
Made p.subscripts ts rest = (ds : List (Inside made.Expr)) × FitsSubscripts (subscripts_view ds) × (ts ≡ spell_subscripts (subscripts_view ds) rest)
Made (p.image c) ts rest = (i : Option (made_image.Image made.Expr)) × FitsImage (image_view i) × (ts ≡ spell_image (image_view i) rest)
Made (p.reference c) ts rest = (x : Reference made.Expr) × FitsRef (ref_view x) × (ts ≡ spell_ref (ref_view x) rest)
Made p.arguments ts rest = (x : Inside (Option (CommaList made.Expr))) × FitsArguments (arguments_view x.item) × (ts ≡ t.Mark m.OpenParen at x.open ∷ spell_arguments (arguments_view x.item) (t.Mark m.CloseParen at x.close ∷ rest))
Made p.block ts rest = Block ts rest
Made p.block_item ts rest = Item ts rest
Made p.statement ts rest = Statement ts rest
Made p.empty ts rest = Statement ts rest
Made p.simple ts rest = Of spell_simple FitsSimple ts rest
Made p.simple_statement ts rest = Statement ts rest
Made p.return_statement ts rest = Statement ts rest
Made p.if_statement ts rest = Statement ts rest
Made p.while_statement ts rest = Statement ts rest
Made p.for_statement ts rest = For ts rest
Made p.for_first ts rest = Of for_first FitsFirst ts rest
Made p.print_statement ts rest = Statement ts rest
Made p.scan_statement ts rest = Statement ts rest
Made p.sync_statement ts rest = Statement ts rest
Made p.directive ts rest = Statement ts rest
Made p.mapping ts rest = Of spell_mapping FitsMapping ts rest
Made p.line_in_block ts rest = Item ts rest
Made p.nodes ts rest = MappingLine ts rest
Made p.template ts rest = MappingLine ts rest
Made p.distribute ts rest = MappingLine ts rest
Made p.align ts rest = MappingLine ts rest
Made p.shadow ts rest = MappingLine ts rest
Made p.loop ts rest = StatementLine ts rest
Made p.reflect ts rest = StatementLine ts rest
Made p.barrier ts rest = StatementLine ts rest
Made p.bcast ts rest = StatementLine ts rest
Made p.gmove ts rest = StatementLine ts rest
Made p.task ts rest = Task ts rest
Made p.tasks ts rest = StatementLine ts rest
Made p.names ts rest = (x : CommaList Name) × (ts ≡ names x rest)
Made p.how ts rest = Of dist_form FitsForm ts rest
Made p.align_dimension ts rest = Of align_dimension Fitting ts rest
Made p.place ts rest = Of point FitsPoint ts rest
Made p.range ts rest = Of range FitsRange ts rest
Made p.piece ts rest = Of piece FitsPiece ts rest
Made p.section ts rest = Of section FitsSection ts rest
Made p.set ts rest = Of nodes_set FitsSet ts rest
Made p.sections ts rest = Of sections FitsSections ts rest
Made p.reduction ts rest = Of reduction FitsReduction ts rest
Made p.no_part ts rest = ⊥
