-- What the rules of programs spell fits, and each begun text is the front of a program.
use Rattle.std.proofs.Common.{◌≡◌, true, false, not, List, [], ◌∷◌, inl, inr, ap, ◌∙◌}
use Rattle.std.specs.Prelude.{Option, None, Some}
use Rattle.xmp_base.specs.declared.place.Place.{Place}
use Rattle.xmp_lex.specs.declared.token.Token.{Token}
use Rattle.xmp_lex.specs.declared.token.TokenKind.TheVariants as t
use Rattle.xmp_lex.specs.declared.token.Mark.TheVariants as m
use Rattle.xmp_lex.specs.declared.token.Reserved.TheVariants as w
use Rattle.xmp_syntax.specs.Parts.{Part}
use Rattle.xmp_syntax.specs.Parts as p
use Rattle.xmp_syntax.specs.Reading.{plain, tok, part, choice}
use Rattle.xmp_syntax.specs.Grammar as g
use Rattle.xmp_syntax.specs.Grammar.{rule, is_mark, is_word, is_spelled, is_pragma, is_step, is_step_mark, is_assign, is_text, same_text, mapping_named, mapping_of, directive_named, directive_of, line_of, statement_of, item_of}
use Rattle.xmp_syntax.specs.View.{items_view}
use Rattle.xmp_syntax.specs.Spell.{◌at◌, name, each, next, optional, spell_mapping}
use Rattle.xmp_syntax.specs.Fits.{FitsItems}
use Rattle.xmp_syntax.specs.declared.declaration.Declaration.{Declaration}
use Rattle.xmp_syntax.specs.declared.program.Function.{Function}
use Rattle.xmp_syntax.specs.declared.program.Parameters.{Parameters}
use Rattle.xmp_syntax.specs.declared.program.Parameters.TheVariants as pr
use Rattle.xmp_syntax.specs.declared.program.TopItem.{TopItem}
use Rattle.xmp_syntax.specs.declared.program.TopItem.TheVariants as top
use Rattle.xmp_syntax.specs.Grammar.{is_finish, operand_of}
use Rattle.xmp_syntax.specs.Spell.{type_words, declarator, parameter, parameters, function}
use Rattle.xmp_syntax.specs.Fits.{FitsDeclarator, EndsInFunction}
use Rattle.xmp_syntax.proofs.TokenKinds.{finish_token}
use Rattle.xmp_syntax.proofs.MadeParts.{Made, Of, Fitting}
use Rattle.xmp_syntax.proofs.MadeExprs.{Says, marked, worded, named, wrapped, list_made, more_made, number_made, named_made, unary_made, parens_made, level_made, expression_made, subscripts_made, image_made, arguments_made, ref_made}
use Rattle.xmp_syntax.proofs.MadeLines.{type_made, parameter_made, rest_made, declarator_made, declaration_made, names_made, range_made, piece_made, section_made, set_made, sections_made, point_made, form_made, align_made, reduction_made, template_made, shadow_made, distribute_made, align_line_made, nodes_made}
use Rattle.xmp_syntax.proofs.MadeStatements.{empty_made, simple_made, simple_statement_made, return_made, print_made, scan_made, sync_made}
use Rattle.xmp_syntax.proofs.MadeBlocks.{while_made, if_made, first_made, for_made, block_made, statement_any, item_any, reflect_made, barrier_made, bcast_made, gmove_made, loop_made, task_made, tasks_made, directive_made, mapping_made, line_made}

parameters_made : (ts rest : List Token) → Says (g.optional (λ k. not (is_mark m.CloseParen k)) (choice (is_word w.Void) (g.word w.Void) (g.list (part p.parameter)))) ts rest
    → (x : Option Parameters) × (ts ≡ optional parameters x rest)
parameters_made ts rest s = elim s as (λ _. (x : Option Parameters) × (ts ≡ optional parameters x rest)) [
  | inl a ↦ elim a as (λ _. (x : Option Parameters) × (ts ≡ optional parameters x rest)) [
    | inl v ↦ (let q = worded w.Void ts rest v in (Some (pr.Void q.0), q.1))
    | inr l ↦ (let x = list_made parameter Fitting (part p.parameter) (λ ts rest s. s) ts rest l.1 in (Some (pr.Named x.0), x.2))
  ]
  | inr b ↦ (None, b.1)
]

function_rest_made : (ts rest : List Token) → Says (rule p.function_rest) ts rest → Made p.function_rest ts rest
function_rest_made ts rest s =
    let v = wrapped m.OpenParen m.CloseParen (g.optional (λ k. not (is_mark m.CloseParen k)) (choice (is_word w.Void) (g.word w.Void) (g.list (part p.parameter)))) ts s.0 s.1 in
    let x = parameters_made v.2 (t.Mark m.CloseParen at v.1 ∷ s.0) v.4 in
    let k = s.2 in
    (record { «open» = v.0; item = x.0; close = v.1 }, k.0, k.1, v.3 ∙ ap (λ l. t.Mark m.OpenParen at v.0 ∷ l) (x.1 ∙ ap (λ l. optional parameters x.0 (t.Mark m.CloseParen at v.1 ∷ l)) k.2))

pub function_made : (ts m1 m2 rest : List Token) → Made p.type_words ts m1 → Says g.name m1 m2 → Made p.function_rest m2 rest → Of function (λ x. FitsItems (items_view x.body.item)) ts rest
function_made ts m1 m2 rest v k f =
    let n = named m1 m2 k in
    (record { ty = v.0; name = n.0; parameters = f.0; body = f.1 }, f.2, v.2 ∙ ap (type_words v.0) (n.1 ∙ ap (name n.0) f.3))

ends_on : (x : Function) (xs : List TopItem) → EndsInFunction xs → EndsInFunction (top.Function x ∷ xs)
ends_on x [] h = tt
ends_on x (y ∷ ys) h = h

finish : (ts rest : List Token) → Says (tok plain is_finish) ts rest → (q : Place) × (ts ≡ t.Finish at q ∷ rest)
finish ts rest k = (k.0.at, k.2 ∙ ap (λ y. y ∷ rest) (finish_token k.0 k.1))

program_made : (ts rest : List Token) → Says (rule p.program) ts rest → Made p.program ts rest
program_made ts rest s = elim s as (λ _. Made p.program ts rest) [
  | inl a ↦ (let x = a.1 in let k = a.2 in (top.Mapping x.0 ∷ k.0, k.1, k.2, (x.1, k.3), x.2 ∙ ap (spell_mapping x.0) k.4))
  | inr b ↦ elim b.1.2.2 as (λ _. Made p.program ts rest) [
    | inl a ↦
        let f = function_made ts b.1.0 b.1.2.0 a.0 b.1.1 b.1.2.1 a.1 in
        elim a.2 as (λ _. Made p.program ts rest) [
          | inl e ↦ (let q = finish a.0 rest e in (top.Function f.0 ∷ [], q.0, tt, (f.1, tt), f.2 ∙ ap (function f.0) q.1))
          | inr c ↦ (let k = c.1 in (top.Function f.0 ∷ k.0, k.1, ends_on f.0 k.0 k.2, (f.1, k.3), f.2 ∙ ap (function f.0) k.4))
        ]
    | inr c ↦
        let v = b.1.1 in
        let n = named b.1.0 b.1.2.0 b.1.2.1 in
        let j = c.1 in
        let x = j.1 n.0 in
        let y = more_made declarator FitsDeclarator (part p.declarator) (λ ts rest s. s) j.0 j.2.0 j.2.1 in
        let q = marked m.Semicolon j.2.0 j.2.2.0 j.2.2.1 in
        let k = j.2.2.2 in
        let l : Declaration = record { ty = v.0; items = record { first = x.0; more = y.0 }; end = q.0 } in (
          top.Declaration l ∷ k.0,
          k.1,
          k.2,
          ((x.1, y.1), k.3),
          v.2 ∙ ap (type_words v.0) (n.1 ∙ x.2 ∙ ap (declarator x.0) (y.2 ∙ ap (each (next declarator) y.0) (q.1 ∙ ap (λ l. t.Mark m.Semicolon at q.0 ∷ l) k.4))),
        )
  ]
]

-- Each rule makes its part.
pub make : (P : Part) (ts rest : List Token) → Says (rule P) ts rest → Made P ts rest
make p.program = program_made
make p.function_rest = function_rest_made
make p.parameter = parameter_made
make p.type_words = type_made
make p.declaration = declaration_made
make p.declarator = declarator_made
make p.declarator_rest = rest_made
make (p.expression c) = expression_made c
make (p.level n c) = level_made n c
make p.number = number_made
make (p.named c) = named_made c
make (p.parens_or_cast c) = parens_made c
make (p.unary c) = unary_made c
make p.subscripts = subscripts_made
make (p.image c) = image_made c
make (p.reference c) = ref_made c
make p.arguments = arguments_made
make p.block = block_made
make p.empty = empty_made
make p.simple = simple_made
make p.simple_statement = simple_statement_made
make p.return_statement = return_made
make p.if_statement = if_made
make p.while_statement = while_made
make p.for_statement = for_made
make p.for_first = first_made
make p.print_statement = print_made
make p.scan_statement = scan_made
make p.sync_statement = sync_made
make p.directive = directive_made
make p.mapping = mapping_made
make p.line_in_block = line_made
make p.nodes = nodes_made
make p.template = template_made
make p.distribute = distribute_made
make p.align = align_line_made
make p.shadow = shadow_made
make p.loop = loop_made
make p.reflect = reflect_made
make p.barrier = barrier_made
make p.bcast = bcast_made
make p.gmove = gmove_made
make p.task = task_made
make p.tasks = tasks_made
make p.names = names_made
make p.how = form_made
make p.align_dimension = align_made
make p.place = point_made
make p.range = range_made
make p.piece = piece_made
make p.section = section_made
make p.set = set_made
make p.sections = sections_made
make p.reduction = reduction_made
make p.statement = λ ts rest s. statement_any s.0 ts rest s.1
make p.block_item = λ ts rest s. item_any s.0 ts rest s.1
make p.no_part = λ ts rest s. (let z : false ≡ true = s.1 in cc)
