-- Each token of the grammar's rules stands for some and each part has a spelling, so a begun text is the front of a program.
use Rattle.std.proofs.Common.{◌≡◌, ℕ, zero, suc, Bool, true, false, not, List, [], ◌∷◌, ◌⊎◌, inl, inr, refl, sym, ap, ◌∙◌, arith}
use Rattle.std.specs.Prelude.{codes, pos}
use Rattle.xmp_lex.specs.declared.token.Token.{Token}
use Rattle.xmp_lex.specs.declared.token.TokenKind.TheVariants as t
use Rattle.xmp_lex.specs.declared.token.Mark.TheVariants as m
use Rattle.xmp_lex.specs.declared.token.Reserved.TheVariants as w
use Rattle.xmp_syntax.specs.Parts.{Part}
use Rattle.xmp_syntax.specs.Parts as p
use Rattle.xmp_syntax.specs.Reading.{plain, Rule, tok, part, ◌·◌, choice, many}
use Rattle.xmp_syntax.specs.Grammar as g
use Rattle.xmp_syntax.specs.Grammar.{rule, is_mark, is_word, is_spelled, is_pragma, is_step, is_step_mark, is_assign, is_text, same_text, mapping_named, mapping_of, directive_named, directive_of, line_of, statement_of, item_of}
use Rattle.xmp_syntax.specs.Spell.{◌at◌, each}
use Rattle.xmp_num.specs.declared.types.Ty.TheVariants as ty
use Rattle.xmp_syntax.specs.declared.program.TopItem.TheVariants as top
use Rattle.xmp_syntax.specs.Reading.{reading}
use Rattle.xmp_syntax.specs.Grammar.{is_finish, operand_of}
use Rattle.xmp_syntax.specs.Spell.{top_item}
use Rattle.xmp_syntax.specs.Refused.{Begins, start, program_rules}
use Rattle.xmp_syntax.proofs.Made.{Good, GoodAt, total, is_front, nowhere}
use Rattle.xmp_syntax.proofs.MadeParts.{Made}
use Rattle.xmp_syntax.specs.Fronts.{IsFront}
use Rattle.xmp_syntax.proofs.Programs.{tree_reads}
use Rattle.xmp_syntax.proofs.MadeProgram.{make, function_made}
use Rattle.xmp_syntax.proofs.MadeBlocks.{statement_item}

abbrev Sample : Part → Type 0
Sample P = (rest : List Token) → (ts : List Token) × Made P ts rest

abbrev Fine : Rule → Type 0
Fine = Good Made

by_rule : (P : Part) → Fine (rule P) → Sample P
by_rule P k rest = let v = total Made (rule P) k rest in (v.0, make P v.0 rest v.1)

-- Tokens.
name_ : Fine g.name
name_ = (t.Name (codes "x"), refl)

comma : Fine g.comma
comma = (t.Mark m.Comma, refl)

semicolon : Fine g.semicolon
semicolon = (t.Mark m.Semicolon, refl)

colon : Fine (g.sign m.Colon)
colon = (t.Mark m.Colon, refl)

assign : Fine (g.sign m.Assign)
assign = (t.Mark m.Assign, refl)

star : Fine (g.sign m.Star)
star = (t.Mark m.Star, refl)

line_end : Fine g.line_end
line_end = (t.Close, refl)

pragma_ : Fine (tok plain is_pragma)
pragma_ = (t.Pragma, refl)

step_ : Fine (tok plain is_step)
step_ = (t.Mark m.Increment, refl)

in_bracket : (r : Rule) → Fine r → Fine (g.brackets r)
in_bracket r x = ((t.Mark m.OpenBracket, refl), (x, (t.Mark m.CloseBracket, refl)))

in_paren : (r : Rule) → Fine r → Fine (g.parens r)
in_paren r x = ((t.Mark m.OpenParen, refl), (x, (t.Mark m.CloseParen, refl)))

in_brace : (r : Rule) → Fine r → Fine (g.braces r)
in_brace r x = ((t.Mark m.OpenBrace, refl), (x, (t.Mark m.CloseBrace, refl)))

any_dims : (r : Rule) → Fine r → Fine (g.any_dims r)
any_dims r x = λ k h. in_bracket r x

all_dims : (r : Rule) → Fine r → Fine (g.dims r)
all_dims r x = (in_bracket r x, any_dims r x)

all_list : (r : Rule) → Fine r → Fine (g.list r)
all_list r x = (x, λ k h. (comma, x))

all_several : (q r : Rule) → Fine q → Fine r → Fine (g.several q r)
all_several q r x y = (in_paren (g.list r) (all_list r y), all_dims q x)

-- Expressions.
number_ : Sample p.number
number_ = by_rule p.number (t.Number (pos 0) ty.Int, refl)

level_ : (n : ℕ) (c : Bool) → Sample (p.level n c)
level_ n c rest = let x = number_ rest in (x.0, (x.1.0, omega (arith, x.1.1), x.1.2, x.1.3))

expr_ : (c : Bool) → Sample (p.expression c)
expr_ c rest = let x = number_ rest in (x.0, (x.1.0, x.1.2, x.1.3))

subscripts_ : Sample p.subscripts
subscripts_ = by_rule p.subscripts (any_dims g.expr (expr_ false))

good_image : (c : Bool) → Fine (rule (p.image c))
good_image false = ((colon, in_bracket g.expr (expr_ false)), tt)
good_image true = (expr_ false, (t.Mark m.CloseBracket, refl))

image_ : (c : Bool) → Sample (p.image c)
image_ c = by_rule (p.image c) (good_image c)

good_reference : (c : Bool) → Fine (rule (p.reference c))
good_reference c = (name_, (subscripts_, image_ c))

reference_ : (c : Bool) → Sample (p.reference c)
reference_ c = by_rule (p.reference c) (good_reference c)

good_arguments : Fine (rule p.arguments)
good_arguments = in_paren (g.optional (λ k. not (is_mark m.CloseParen k)) (g.list g.expr)) (all_list g.expr (expr_ false), tt)

arguments_ : Sample p.arguments
arguments_ = by_rule p.arguments good_arguments

good_level : (n : ℕ) (c : Bool) → Fine (rule (p.level n c))
good_level zero c = (t.Number (pos 0) ty.Int, number_)
good_level (suc n) c = (level_ n c, λ k h. ((k, h), level_ n c))

good_expression : (c : Bool) → Fine (rule (p.expression c))
good_expression c = (level_ 10 c, (((t.Mark m.Question, refl), (expr_ true, (colon, expr_ c))), tt))

good_parens : (c : Bool) → Fine (rule (p.parens_or_cast c))
good_parens c = ((t.Mark m.OpenParen, refl), (((t.Word w.Int, refl), ((t.Mark m.CloseParen, refl), level_ 0 c)), (expr_ false, (t.Mark m.CloseParen, refl))))

-- Declarations and the parts of lines.
good_type : Fine (rule p.type_words)
good_type = ((t.Word w.Int, refl), ((t.Word w.Long, refl), ((t.Word w.Int, refl), tt)))

type_ : Sample p.type_words
type_ = by_rule p.type_words good_type

good_declarator_rest : Fine (rule p.declarator_rest)
good_declarator_rest = ((all_dims g.expr (expr_ false), ((colon, in_bracket (g.sign m.Star) star), tt)), ((assign, expr_ false), tt))

declarator_rest_ : Sample p.declarator_rest
declarator_rest_ = by_rule p.declarator_rest good_declarator_rest

declarator_ : Sample p.declarator
declarator_ = by_rule p.declarator (name_, declarator_rest_)

good_declaration : Fine (rule p.declaration)
good_declaration = (type_, (all_list (part p.declarator) declarator_, semicolon))

parameter_ : Sample p.parameter
parameter_ = by_rule p.parameter (type_, name_)

names_ : Sample p.names
names_ = by_rule p.names (all_list g.name name_)

good_form : Fine (rule p.how)
good_form = (star, ((t.Name (codes "block"), refl), (((t.Name (codes "cyclic"), refl), (in_paren g.expr (expr_ false), tt)), ((t.Name (codes "gblock"), refl), in_paren (g.braces (g.list g.expr)) (in_brace (g.list g.expr) (all_list g.expr (expr_ false)))))))

form_ : Sample p.how
form_ = by_rule p.how good_form

good_align : Fine (rule p.align_dimension)
good_align = (star, name_)

good_point : Fine (rule p.place)
good_point = (star, (name_, (((t.Mark m.Plus, refl), level_ 0 false), tt)))

point_ : Sample p.place
point_ = by_rule p.place good_point

good_range : Fine (rule p.range)
good_range = (expr_ true, ((colon, expr_ false), tt))

range_ : Sample p.range
range_ = by_rule p.range good_range

good_piece : Fine (rule p.piece)
good_piece = (colon, range_)

piece_ : Sample p.piece
piece_ = by_rule p.piece good_piece

good_section : Fine (rule p.section)
good_section = (colon, (expr_ true, ((colon, range_), tt)))

good_set : Fine (rule p.set)
good_set = (name_, (in_paren (g.list (part p.piece)) (all_list (part p.piece) piece_), any_dims (part p.piece) piece_))

set_ : Sample p.set
set_ = by_rule p.set good_set

good_sections : Fine (rule p.sections)
good_sections = (name_, any_dims (part p.section) (by_rule p.section good_section))

sections_ : Sample p.sections
sections_ = by_rule p.sections good_sections

good_reduction : Fine (rule p.reduction)
good_reduction = ((t.Name (codes "reduction"), refl), ((t.Mark m.OpenParen, refl), ((((t.Mark m.Plus, refl), (t.Name (codes "max"), refl)), (colon, names_)), (t.Mark m.CloseParen, refl))))

reduction_ : Sample p.reduction
reduction_ = by_rule p.reduction good_reduction

-- Mappings.
good_end : Fine g.nodes_end
good_end = (((assign, set_), tt), line_end)

open_paren : Fine (tok plain (is_mark m.OpenParen))
open_paren = (t.Mark m.OpenParen, refl)

close_paren : Fine (tok plain (is_mark m.CloseParen))
close_paren = (t.Mark m.CloseParen, refl)

open_bracket : Fine (tok plain (is_mark m.OpenBracket))
open_bracket = (t.Mark m.OpenBracket, refl)

close_bracket : Fine (tok plain (is_mark m.CloseBracket))
close_bracket = (t.Mark m.CloseBracket, refl)

good_in_parens : Fine g.nodes_in_parens
good_in_parens = (open_paren, ((star, (close_paren, line_end)), (expr_ false, (((λ k h. (comma, expr_ false)), (close_paren, line_end)), (close_paren, good_end)))))

good_in_brackets : Fine g.nodes_in_brackets
good_in_brackets = (open_bracket, ((star, (close_bracket, line_end)), (expr_ false, (close_bracket, ((all_dims g.expr (expr_ false), line_end), good_end)))))

good_nodes : Fine (rule p.nodes)
good_nodes = ((t.Name (codes "nodes"), refl), (name_, (good_in_parens, good_in_brackets)))

good_mapping : Fine (rule p.mapping)
good_mapping = (pragma_, (t.Name (codes "nodes"), by_rule p.nodes good_nodes))

mapping_ : Sample p.mapping
mapping_ = by_rule p.mapping good_mapping

-- Statements.
empty_ : Sample p.empty
empty_ = by_rule p.empty semicolon

statement_ : Sample p.statement
statement_ = empty_

item_ : Sample p.block_item
item_ rest = let x = empty_ rest in (x.0, statement_item x.0 rest x.1)

good_block : Fine (rule p.block)
good_block = in_brace (many (λ k. not (is_mark m.CloseBrace k)) (part p.block_item)) (λ k h. item_)

good_simple : Fine (rule p.simple)
good_simple = ((step_, reference_ false), (name_, (arguments_, (subscripts_, (image_ false, (step_, ((t.Mark m.Assign, refl), expr_ false)))))))

simple_ : Sample p.simple
simple_ = by_rule p.simple good_simple

good_first : Fine (rule p.for_first)
good_first = ((((t.Word w.Int, refl), name_), reference_ false), (assign, expr_ false))

good_for : Fine (rule p.for_statement)
good_for = (tt, (((t.Word w.For, refl), (((t.Mark m.OpenParen, refl), (((by_rule p.for_first good_first, tt), (semicolon, ((expr_ false, tt), (semicolon, (simple_, tt))))), (t.Mark m.CloseParen, refl))), statement_)), tt))

for_ : Sample p.for_statement
for_ = by_rule p.for_statement good_for

good_if : Fine (rule p.if_statement)
good_if = ((tt, (((t.Word w.If, refl), (in_paren g.expr (expr_ false), statement_)), tt)), ((tt, (((t.Word w.Else, refl), statement_), tt)), tt))

good_barrier : Fine (rule p.barrier)
good_barrier = ((t.Name (codes "barrier"), refl), line_end)

good_task : Fine (rule p.task)
good_task = (tt, (((t.Name (codes "task"), refl), ((t.Name (codes "on"), refl), (set_, (line_end, statement_)))), tt))

good_loop : Fine (rule p.loop)
good_loop = (tt, (((t.Name (codes "loop"), refl), ((in_paren (part p.names) names_, tt), ((t.Name (codes "on"), refl), (name_, (all_several (part p.place) (part p.place) point_ point_, ((λ k h. reduction_), (line_end, for_))))))), tt))

-- Programs.
good_function_rest : Fine (rule p.function_rest)
good_function_rest = (((t.Mark m.OpenParen, refl), ((((t.Word w.Void, refl), all_list (part p.parameter) parameter_), tt), (t.Mark m.CloseParen, refl))), by_rule p.block good_block)

function_rest_ : Sample p.function_rest
function_rest_ = by_rule p.function_rest good_function_rest

program_ : Sample p.program
program_ rest =
    let v = total Made (part p.type_words · g.name · part p.function_rest) (type_, (name_, function_rest_)) (t.Finish at nowhere ∷ rest) in
    let x = function_made v.0 v.1.0 v.1.2.0 (t.Finish at nowhere ∷ rest) v.1.1 v.1.2.1 v.1.2.2 in
    (v.0, (top.Function x.0 ∷ [], nowhere, tt, (x.1, tt), x.2))

good_program : Fine (rule p.program)
good_program = ((mapping_, program_), (type_, (name_, ((function_rest_, ((t.Finish, refl), program_)), (declarator_rest_, ((λ k h. (comma, declarator_)), (semicolon, program_)))))))

good : (P : Part) → (P ≡ p.no_part) ⊎ Fine (rule P)
good p.program = inr good_program
good p.function_rest = inr good_function_rest
good p.parameter = inr (type_, name_)
good p.type_words = inr good_type
good p.declaration = inr good_declaration
good p.declarator = inr (name_, declarator_rest_)
good p.declarator_rest = inr good_declarator_rest
good (p.expression c) = inr (good_expression c)
good (p.level n c) = inr (good_level n c)
good p.number = inr (t.Number (pos 0) ty.Int, refl)
good (p.named c) = inr (name_, (arguments_, (subscripts_, image_ c)))
good (p.parens_or_cast c) = inr (good_parens c)
good (p.unary c) = inr ((t.Mark m.Minus, refl), level_ 0 c)
good p.subscripts = inr (any_dims g.expr (expr_ false))
good (p.image c) = inr (good_image c)
good (p.reference c) = inr (good_reference c)
good p.arguments = inr good_arguments
good p.block = inr good_block
good p.block_item = inr (t.Mark m.Semicolon, empty_)
good p.statement = inr (t.Mark m.Semicolon, empty_)
good p.empty = inr semicolon
good p.simple = inr good_simple
good p.simple_statement = inr (simple_, semicolon)
good p.return_statement = inr ((t.Word w.Return, refl), (expr_ false, semicolon))
good p.if_statement = inr good_if
good p.while_statement = inr (tt, (((t.Word w.While, refl), (in_paren g.expr (expr_ false), statement_)), tt))
good p.for_statement = inr good_for
good p.for_first = inr good_first
good p.print_statement = inr ((t.Word w.Printf, refl), (((t.Mark m.OpenParen, refl), (((t.Text [], refl), λ k h. (comma, expr_ false)), (t.Mark m.CloseParen, refl))), semicolon))
good p.scan_statement = inr ((t.Word w.Scanf, refl), (((t.Mark m.OpenParen, refl), (((t.Text [], refl), (comma, ((t.Mark m.And, refl), reference_ false))), (t.Mark m.CloseParen, refl))), semicolon))
good p.sync_statement = inr ((t.Word w.SyncAll, refl), (((t.Mark m.OpenParen, refl), (((t.Mark m.And, refl), reference_ false), (t.Mark m.CloseParen, refl))), semicolon))
good p.directive = inr (pragma_, (t.Name (codes "barrier"), by_rule p.barrier good_barrier))
good p.mapping = inr good_mapping
good p.line_in_block = inr (pragma_, (t.Name (codes "nodes"), by_rule p.nodes good_nodes))
good p.nodes = inr good_nodes
good p.template = inr ((t.Name (codes "template"), refl), (name_, (all_several g.expr (part p.range) (expr_ false) range_, line_end)))
good p.distribute = inr ((t.Name (codes "distribute"), refl), (name_, (all_several (part p.how) (part p.how) form_ form_, ((t.Name (codes "onto"), refl), (name_, line_end)))))
good p.align = inr ((t.Name (codes "align"), refl), (name_, (all_dims (part p.align_dimension) (by_rule p.align_dimension good_align), ((t.Name (codes "with"), refl), (name_, (all_several (part p.place) (part p.place) point_ point_, line_end))))))
good p.shadow = inr ((t.Name (codes "shadow"), refl), (name_, (all_dims (part p.range) range_, line_end)))
good p.loop = inr good_loop
good p.reflect = inr ((t.Name (codes "reflect"), refl), (in_paren (part p.names) names_, line_end))
good p.barrier = inr good_barrier
good p.bcast = inr ((t.Name (codes "bcast"), refl), (in_paren (part p.names) names_, ((t.Name (codes "from"), refl), (set_, line_end))))
good p.gmove = inr ((t.Name (codes "gmove"), refl), (line_end, (sections_, (assign, (sections_, semicolon)))))
good p.task = inr good_task
good p.tasks = inr (tt, (((t.Name (codes "tasks"), refl), (line_end, in_brace (many is_pragma (tok plain is_pragma · part p.task)) (λ k h. (pragma_, by_rule p.task good_task)))), tt))
good p.names = inr (all_list g.name name_)
good p.how = inr good_form
good p.align_dimension = inr good_align
good p.place = inr good_point
good p.range = inr good_range
good p.piece = inr good_piece
good p.section = inr good_section
good p.set = inr good_set
good p.sections = inr good_sections
good p.reduction = inr good_reduction
good p.no_part = inl refl

pub front : (ts : List Token) → Begins start program_rules ts → IsFront ts
front ts h =
    let k = is_front Made make good (λ ts rest z. z) (reading start program_rules ts) (reading h.now h.left []) h.depths h.reads (begun ts) h.now h.left refl in
    let v = k.1.1 in
    record {
      tree = record { parts = v.0; finish = v.1 };
      rest = k.0;
      fits = (v.2, v.3);
      whole = sym (v.4 ∙ ap (λ l. each top_item v.0 (t.Finish at v.1 ∷ l)) k.1.2);
    }
  where
    begun : (ts : List Token) → GoodAt Made (reading start program_rules ts)
    begun [] = (program_, tt)
    begun (x ∷ ts) = inl (program_, tt)

pub begins : (ts : List Token) → IsFront ts → Begins start program_rules ts
begins ts x = (tree_reads x.tree x.fits).fronts ts x.rest x.whole
