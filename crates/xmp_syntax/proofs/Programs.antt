-- Programs that fit are read.
use Rattle.std.proofs.Common.{◌≡◌, ℕ, Bool, true, false, List, [], ◌∷◌, ◌++◌, All, refl, sym, ap, ◌∙◌, subst}
use Rattle.std.specs.Prelude.{not, ⊤, Option, None, Some}
use Rattle.xmp_base.specs.declared.place.Place.{Place}
use Rattle.xmp_lex.specs.declared.token.Token.{Token}
use Rattle.xmp_lex.specs.declared.token.TokenKind.TheVariants as t
use Rattle.xmp_lex.specs.declared.token.Mark.TheVariants as m
use Rattle.xmp_lex.specs.declared.token.Reserved.TheVariants as w
use Rattle.xmp_syntax.specs.declared.parts.Name.{Name}
use Rattle.xmp_syntax.specs.declared.parts.Inside.{Inside}
use Rattle.xmp_syntax.specs.declared.parts.CommaList.{CommaList}
use Rattle.xmp_syntax.specs.declared.parts.Next as after
use Rattle.xmp_syntax.specs.declared.parts.TypeWords.{TypeWords}
use Rattle.xmp_syntax.specs.declared.parts.TypeWords.TheVariants as tw
use Rattle.xmp_syntax.specs.declared.declaration.Declarator.{Declarator}
use Rattle.xmp_syntax.specs.declared.declaration.Declarator.TheVariants as d
use Rattle.xmp_syntax.specs.declared.declaration.Declaration.{Declaration}
use Rattle.xmp_syntax.specs.declared.directive.Mapping.{Mapping}
use Rattle.xmp_syntax.specs.declared.directive.Mapping.TheVariants as mp
use Rattle.xmp_syntax.specs.declared.program.Function.{Function}
use Rattle.xmp_syntax.specs.declared.program.Parameters.{Parameters}
use Rattle.xmp_syntax.specs.declared.program.Parameters.TheVariants as pr
use Rattle.xmp_syntax.specs.declared.program.TopItem.{TopItem}
use Rattle.xmp_syntax.specs.declared.program.TopItem.TheVariants as top
use Rattle.xmp_syntax.specs.declared.program.Tree.{Tree}
use Rattle.xmp_syntax.specs.Parts as p
use Rattle.xmp_syntax.specs.Reading.{here, Effect, plain, closing, Rule, nothing, tok, part, ◌·◌, choice, many, Depths}
use Rattle.xmp_syntax.specs.Grammar as g
use Rattle.xmp_syntax.specs.Grammar.{rule, is_mark, is_word, is_pragma, is_finish}
use Rattle.xmp_syntax.specs.View.{items_view}
use Rattle.xmp_syntax.specs.Spell.{◌at◌, each, next, list, name, optional, in_parens, declarator, type_words, spell_mapping, spell_declaration, spell_items, parameter, parameters, function, body, top_item, tokens}
use Rattle.xmp_syntax.specs.Fits.{FitsDeclarator, FitsDeclaration, FitsMapping, FitsItems, FitsTop, Each, EndsInFunction, FitsTree}
use Rattle.xmp_syntax.specs.Refused.{Begins, start, program_rules}
use Rattle.xmp_syntax.specs.Steps.{begins_nothing}
use Rattle.xmp_syntax.proofs.Done.{Done, Next, fast, go, silent, Is, Not, choice_first, choice_second}
use Rattle.xmp_syntax.proofs.TokenFacts.{not_true}
use Rattle.xmp_syntax.proofs.Lists.{more_read, list_reads}
use Rattle.xmp_syntax.proofs.Lines.{EndsDeclarator, declarator_rest, rest_reads, declarator_reads, type_reads, mapping_reads}
use Rattle.xmp_syntax.proofs.Blocks.{block_reads, items_read}

-- the end of the text
ended : Next [] []
ended = record { from = λ E. record { depths = []; now = E; reads = here; fronts = fronts E } }
  where
    fronts : (E : Depths) (f rest : List Token) → [] ≡ f ++ rest → Begins E [] f
    fronts E [] rest e = begins_nothing E []
    fronts E (x ∷ f) rest e = cc

mapping_pragma : (x : Mapping) (r : List Token) → Is is_pragma (spell_mapping x r)
mapping_pragma (mp.Nodes l v ds) r = refl
mapping_pragma (mp.NodesStar l v x) r = refl
mapping_pragma (mp.NodesPart l v x q y) r = refl
mapping_pragma (mp.Template l v ds) r = refl
mapping_pragma (mp.Distribute l v fs q o) r = refl
mapping_pragma (mp.Align l v xs q o ps) r = refl
mapping_pragma (mp.Shadow l v ws) r = refl

type_no_pragma : (x : TypeWords) (r : List Token) → Not is_pragma (type_words x r)
type_no_pragma (tw.Int q) r = refl
type_no_pragma (tw.Long q) r = refl
type_no_pragma (tw.LongInt q z) r = refl

type_no_paren : (x : TypeWords) (r : List Token) → Not (is_mark m.CloseParen) (type_words x r) × Not (is_word w.Void) (type_words x r)
type_no_paren (tw.Int q) r = (refl, refl)
type_no_paren (tw.Long q) r = (refl, refl)
type_no_paren (tw.LongInt q z) r = (refl, refl)

-- A declaration among the parts of a program: its first declarator, and the others.
no_paren : (us : List Token) → EndsDeclarator us → Not (is_mark m.OpenParen) us
no_paren [] e = e.1
no_paren (x ∷ us) e = e.0.0.0

rest_first : (y : Declarator) → FitsDeclarator y → (us : List Token) → EndsDeclarator us → Not (is_mark m.OpenParen) (declarator_rest y us)
rest_first (d.Scalar v None) F us e = no_paren us e
rest_first (d.Scalar v (Some x)) F us e = refl
rest_first (d.Array v [] c) F us e = absurd F.0
rest_first (d.Array v (x ∷ ds) c) F us e = refl

first_declarator : (y : Declarator) → FitsDeclarator y → (f r : Rule) (K : List Rule) (us : List Token) → EndsDeclarator us → Next (r ∷ K) us
    → Not (is_word w.Int) (declarator y us) × Next ((g.name · choice (is_mark m.OpenParen) f (part p.declarator_rest · r)) ∷ K) (declarator y us)
first_declarator (d.Scalar v x) F f r K us e n =
    (refl, fast 2 (λ E. go (choice_second _ f _ K _ (rest_first (d.Scalar v x) F us e) (silent 1 (λ E x xs. refl) (rest_reads (d.Scalar v x) F (r ∷ K) us e n)))))
first_declarator (d.Array v ds c) F f r K us e n =
    (refl, fast 2 (λ E. go (choice_second _ f _ K _ (rest_first (d.Array v ds c) F us e) (silent 1 (λ E x xs. refl) (rest_reads (d.Array v ds c) F (r ∷ K) us e n)))))

declaration_top : (x : Declaration) → FitsDeclaration x → (us : List Token) → Next (part p.program ∷ []) us → Next (part p.program ∷ []) (spell_declaration x us)
declaration_top x F us n =
    let more = more_read declarator (part p.declarator) FitsDeclarator EndsDeclarator declarator_reads (λ q vs. (((refl, refl, refl, refl), refl), refl)) x.items.more F.1
    ((g.semicolon · part p.program) ∷ []) (t.Mark m.Semicolon at x.end ∷ us) (((refl, refl, refl, refl), refl), refl) refl (fast 2 (λ E. go n)) in
    let a = first_declarator x.items.first F.0 _ _ [] (each (next declarator) x.items.more (t.Mark m.Semicolon at x.end ∷ us)) more.0 (silent 1 (λ E x xs. refl) more.1) in
    silent 1 (λ E x xs. refl) (choice_second is_pragma _ _ [] _ (type_no_pragma x.ty _) (silent 1 (λ E x xs. refl) (type_reads x.ty _ _ a.0 a.1)))

-- Functions.
parameter_reads : (x : TypeWords × Name) → ⊤ → (K : List Rule) (us : List Token) → ⊤ → Next K us → Next (part p.parameter ∷ K) (parameter x us)
parameter_reads x F K us w n = silent 2 (λ E x xs. refl) (type_reads x.0 _ (name x.1 us) refl (fast 1 (λ E. go n)))

all_named : (xs : List (after.Next (TypeWords × Name))) → Each (λ y. ⊤) xs
all_named [] = tt
all_named (x ∷ xs) = (tt, all_named xs)

parameters_read : (x : Option Parameters) (K : List Rule) (c : Place) (us : List Token) → Next K us
    → Next ((g.optional (λ k. not (is_mark m.CloseParen k)) (choice (is_word w.Void) (g.word w.Void) (g.list (part p.parameter))) · tok closing (is_mark m.CloseParen)) ∷ K)
    (optional parameters x (t.Mark m.CloseParen at c ∷ us))
parameters_read None K c us n = fast 4 (λ E. go n)
parameters_read (Some (pr.Void q)) K c us n = fast 5 (λ E. go n)
parameters_read (Some (pr.Named x)) K c us n =
    let r : List Token = t.Mark m.CloseParen at c ∷ us in
    let k = tok closing (is_mark m.CloseParen) ∷ K in
    silent 1 (λ E x xs. refl) (choice_first (λ k. not (is_mark m.CloseParen k)) _ nothing k (list parameter x r) (not_true (is_mark m.CloseParen) (list parameter x r) (type_no_paren x.first.0 _).0)
    (choice_second (is_word w.Void) _ _ k (list parameter x r) (type_no_paren x.first.0 _).1
    (list_reads parameter (part p.parameter) (λ y. ⊤) (λ y. ⊤) parameter_reads (λ q us. tt) x (tt, all_named x.more) k r tt refl (fast 1 (λ E. go n)))))

function_top : (x : Function) → FitsItems (items_view x.body.item) → (us : List Token) → Next (choice is_finish (tok plain is_finish) (part p.program) ∷ []) us → Next (part p.program ∷ []) (function x us)
function_top x F us n =
    let b = block_reads x.body.open (items_view x.body.item) x.body.close (items_read (items_view x.body.item) F) _ us n in
    let a = parameters_read x.parameters.item _ x.parameters.close (body x.body us) (fast 1 (λ E. go b)) in
    silent 1 (λ E x xs. refl) (choice_second is_pragma _ _ [] _ (type_no_pragma x.ty _) (silent 1 (λ E x xs. refl) (type_reads x.ty _ _ refl (fast 8 (λ E. go a)))))

top_first : (x : TopItem) (r : List Token) → Not is_finish (top_item x r)
top_first (top.Mapping x) r = mapping_no_finish x r
  where
    mapping_no_finish : (x : Mapping) (r : List Token) → Not is_finish (spell_mapping x r)
    mapping_no_finish (mp.Nodes l v ds) r = refl
    mapping_no_finish (mp.NodesStar l v x) r = refl
    mapping_no_finish (mp.NodesPart l v x q y) r = refl
    mapping_no_finish (mp.Template l v ds) r = refl
    mapping_no_finish (mp.Distribute l v fs q o) r = refl
    mapping_no_finish (mp.Align l v xs q o ps) r = refl
    mapping_no_finish (mp.Shadow l v ws) r = refl
top_first (top.Declaration x) r = type_no_finish x.ty _
  where
    type_no_finish : (x : TypeWords) (r : List Token) → Not is_finish (type_words x r)
    type_no_finish (tw.Int q) r = refl
    type_no_finish (tw.Long q) r = refl
    type_no_finish (tw.LongInt q z) r = refl
top_first (top.Function x) r = type_no_finish x.ty _
  where
    type_no_finish : (x : TypeWords) (r : List Token) → Not is_finish (type_words x r)
    type_no_finish (tw.Int q) r = refl
    type_no_finish (tw.Long q) r = refl
    type_no_finish (tw.LongInt q z) r = refl

pub program_reads : (xs : List TopItem) (q : Place) → EndsInFunction xs → Each FitsTop xs → Next program_rules (each top_item xs (t.Finish at q ∷ []))
program_reads [] q e F = absurd e
program_reads (top.Mapping x ∷ xs) q e F =
    silent 1 (λ E x xs. refl) (choice_first is_pragma _ _ [] _ (mapping_pragma x _) (silent 1 (λ E x xs. refl) (mapping_reads x F.0 _ _ (program_reads xs q e F.1))))
program_reads (top.Declaration x ∷ xs) q e F = declaration_top x F.0 _ (program_reads xs q e F.1)
program_reads (top.Function x ∷ []) q e F = function_top x F.0 _ (fast 2 (λ E. go ended))
program_reads (top.Function x ∷ y ∷ xs) q e F = function_top x F.0 _ (choice_second is_finish _ _ [] _ (top_first y _) (program_reads (y ∷ xs) q e F.1))

pub tree_reads : (x : Tree) → FitsTree x → Done start program_rules (tokens x)
tree_reads x F = (program_reads x.parts x.finish F.0 F.1).from start
