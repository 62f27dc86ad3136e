-- The grammar of a program's tokens. Source: ISO C 6.5, 6.7 and 6.8 and XcalableMP 1.4, sections 4 to 6, less what this project's language leaves out.
use Rattle.std.specs.Prelude.{ℕ, zero, suc, List, [], ◌∷◌, Bool, true, false, ◌==◌, ◌&&◌, ◌||◌, not, cond, codes}
use Rattle.xmp_lex.specs.declared.token.TokenKind.{TokenKind}
use Rattle.xmp_lex.specs.declared.token.TokenKind.TheVariants as t
use Rattle.xmp_lex.specs.declared.token.Mark.{Mark}
use Rattle.xmp_lex.specs.declared.token.Mark.TheVariants as m
use Rattle.xmp_lex.specs.declared.token.Reserved.{Reserved}
use Rattle.xmp_lex.specs.declared.token.Reserved.TheVariants as w
use Rattle.xmp_syntax.specs.Parts as p
use Rattle.xmp_syntax.specs.Parts.{Part}
use Rattle.xmp_syntax.specs.Reading.{Test, Effect, plain, operator, separator, opening, closing, cast, enter, leave, Rule, nothing, tok, mark, part, by, ◌·◌, choice, many, pair}

-- a number for each mark, so that they can be compared
abbrev pub mark_code : Mark → ℕ
mark_code m.Plus = 0
mark_code m.Minus = 1
mark_code m.Star = 2
mark_code m.Slash = 3
mark_code m.Percent = 4
mark_code m.ShiftLeft = 5
mark_code m.ShiftRight = 6
mark_code m.Less = 7
mark_code m.LessEqual = 8
mark_code m.Greater = 9
mark_code m.GreaterEqual = 10
mark_code m.Equal = 11
mark_code m.Differ = 12
mark_code m.And = 13
mark_code m.Or = 14
mark_code m.Xor = 15
mark_code m.Tilde = 16
mark_code m.Bang = 17
mark_code m.AndAnd = 18
mark_code m.OrOr = 19
mark_code m.Question = 20
mark_code m.Colon = 21
mark_code m.Assign = 22
mark_code m.AddAssign = 23
mark_code m.SubAssign = 24
mark_code m.MulAssign = 25
mark_code m.DivAssign = 26
mark_code m.RemAssign = 27
mark_code m.ShlAssign = 28
mark_code m.ShrAssign = 29
mark_code m.AndAssign = 30
mark_code m.OrAssign = 31
mark_code m.XorAssign = 32
mark_code m.Increment = 33
mark_code m.Decrement = 34
mark_code m.OpenParen = 35
mark_code m.CloseParen = 36
mark_code m.OpenBracket = 37
mark_code m.CloseBracket = 38
mark_code m.OpenBrace = 39
mark_code m.CloseBrace = 40
mark_code m.Comma = 41
mark_code m.Semicolon = 42

-- a number for each reserved word, so that they can be compared
abbrev pub word_code : Reserved → ℕ
word_code w.Int = 0
word_code w.Long = 1
word_code w.Void = 2
word_code w.If = 3
word_code w.Else = 4
word_code w.While = 5
word_code w.For = 6
word_code w.Return = 7
word_code w.Printf = 8
word_code w.Scanf = 9
word_code w.SyncAll = 10

-- the same bytes
abbrev pub same_text : List ℕ → List ℕ → Bool
same_text [] [] = true
same_text [] (b ∷ bs) = false
same_text (a ∷ as') [] = false
same_text (a ∷ as') (b ∷ bs) = (a == b) && same_text as' bs

abbrev pub is_mark : Mark → Test
is_mark x (t.Mark y) = mark_code x == mark_code y
is_mark x _ = false

abbrev pub is_word : Reserved → Test
is_word x (t.Word y) = word_code x == word_code y
is_word x _ = false

-- a name that is spelled so
abbrev pub is_spelled : List ℕ → Test
is_spelled bytes (t.Name n) = same_text bytes n
is_spelled bytes _ = false

abbrev pub is_name : Test
is_name (t.Name n) = true
is_name _ = false

abbrev pub is_number : Test
is_number (t.Number n ty) = true
is_number _ = false

abbrev pub is_text : Test
is_text (t.Text n) = true
is_text _ = false

-- the start of a directive's line, its end, and the end of the text
abbrev pub is_pragma : Test
is_pragma t.Pragma = true
is_pragma _ = false

abbrev pub is_close : Test
is_close t.Close = true
is_close _ = false

abbrev pub is_finish : Test
is_finish t.Finish = true
is_finish _ = false

-- How loosely a binary operator binds: 1 for `* / %` to 10 for `||`; 0 for what is none.
abbrev pub mark_binds : Mark → ℕ
mark_binds m.Star = 1
mark_binds m.Slash = 1
mark_binds m.Percent = 1
mark_binds m.Plus = 2
mark_binds m.Minus = 2
mark_binds m.ShiftLeft = 3
mark_binds m.ShiftRight = 3
mark_binds m.Less = 4
mark_binds m.LessEqual = 4
mark_binds m.Greater = 4
mark_binds m.GreaterEqual = 4
mark_binds m.Equal = 5
mark_binds m.Differ = 5
mark_binds m.And = 6
mark_binds m.Xor = 7
mark_binds m.Or = 8
mark_binds m.AndAnd = 9
mark_binds m.OrOr = 10
mark_binds _ = 0

-- The same of a token.
abbrev pub binds : TokenKind → ℕ
binds (t.Mark x) = mark_binds x
binds _ = 0

-- a binary operator of this level
abbrev pub binary : ℕ → Test
binary n kind = binds kind == n

abbrev pub is_unary_mark : Mark → Bool
is_unary_mark m.Plus = true
is_unary_mark m.Minus = true
is_unary_mark m.Tilde = true
is_unary_mark m.Bang = true
is_unary_mark _ = false

abbrev pub is_unary : Test
is_unary (t.Mark x) = is_unary_mark x
is_unary _ = false

abbrev pub is_assign_mark : Mark → Bool
is_assign_mark m.Assign = true
is_assign_mark m.AddAssign = true
is_assign_mark m.SubAssign = true
is_assign_mark m.MulAssign = true
is_assign_mark m.DivAssign = true
is_assign_mark m.RemAssign = true
is_assign_mark m.ShlAssign = true
is_assign_mark m.ShrAssign = true
is_assign_mark m.AndAssign = true
is_assign_mark m.OrAssign = true
is_assign_mark m.XorAssign = true
is_assign_mark _ = false

abbrev pub is_assign : Test
is_assign (t.Mark x) = is_assign_mark x
is_assign _ = false

-- `++` and `--`
abbrev pub is_step_mark : Mark → Bool
is_step_mark m.Increment = true
is_step_mark m.Decrement = true
is_step_mark _ = false

abbrev pub is_step : Test
is_step (t.Mark x) = is_step_mark x
is_step _ = false

abbrev pub is_offset_mark : Mark → Bool
is_offset_mark m.Plus = true
is_offset_mark m.Minus = true
is_offset_mark _ = false

-- `+` and `-` of a point
abbrev pub is_offset : Test
is_offset (t.Mark x) = is_offset_mark x
is_offset _ = false

abbrev pub is_reduction_mark : Mark → Bool
is_reduction_mark m.Plus = true
is_reduction_mark m.Star = true
is_reduction_mark m.And = true
is_reduction_mark m.Or = true
is_reduction_mark m.Xor = true
is_reduction_mark _ = false

abbrev pub is_reduction : Test
is_reduction (t.Mark x) = is_reduction_mark x
is_reduction _ = false

abbrev pub is_type : Test
is_type kind = is_word w.Int kind || is_word w.Long kind

abbrev pub is_max_or_min : Test
is_max_or_min kind = is_spelled (codes "max") kind || is_spelled (codes "min") kind

-- Rules for tokens.
abbrev pub sign : Mark → Rule
sign x = tok plain (is_mark x)

abbrev pub word : Reserved → Rule
word x = tok plain (is_word x)

abbrev pub spelled : List ℕ → Rule
spelled bytes = tok plain (is_spelled bytes)

abbrev pub name : Rule
name = tok plain is_name

abbrev pub comma : Rule
comma = tok separator (is_mark m.Comma)

abbrev pub semicolon : Rule
semicolon = tok separator (is_mark m.Semicolon)

abbrev pub line_end : Rule
line_end = tok plain is_close

abbrev pub parens : Rule → Rule
parens r = tok opening (is_mark m.OpenParen) · r · tok closing (is_mark m.CloseParen)

abbrev pub brackets : Rule → Rule
brackets r = tok opening (is_mark m.OpenBracket) · r · tok closing (is_mark m.CloseBracket)

abbrev pub braces : Rule → Rule
braces r = tok opening (is_mark m.OpenBrace) · r · tok closing (is_mark m.CloseBrace)

-- what is there where its first token stands
abbrev pub optional : Test → Rule → Rule
optional p r = choice p r nothing

-- `r { "," r }`
abbrev pub list : Rule → Rule
list r = r · many (is_mark m.Comma) (comma · r)

-- `{ "[" r "]" }`, and at least one
abbrev pub any_dims : Rule → Rule
any_dims r = many (is_mark m.OpenBracket) (brackets r)

abbrev pub dims : Rule → Rule
dims r = brackets r · any_dims r

-- each in brackets, or all between one pair of parentheses
abbrev pub several : Rule → Rule → Rule
several q r = choice (is_mark m.OpenParen) (parens (list r)) (dims q)

-- the same, or none
abbrev pub any_several : Rule → Rule
any_several r = choice (is_mark m.OpenParen) (parens (list r)) (any_dims r)

-- an expression behind which no colon may stand but an image's
abbrev pub expr : Rule
expr = part (p.expression false)

-- an expression behind which a colon may stand that is no image's
abbrev pub expr_colon : Rule
expr_colon = part (p.expression true)

-- a statement that counts in the depth, from here to its end
abbrev pub counted : Rule → Rule
counted r = mark enter · r · mark leave

-- The part by its first token, for each group of alternatives.
abbrev pub operand_of : Bool → TokenKind → Part
operand_of c (t.Number n ty) = p.number
operand_of c (t.Name n) = p.named c
operand_of c (t.Mark m.OpenParen) = p.parens_or_cast c
operand_of c (t.Mark x) = cond (is_unary_mark x) (p.unary c) p.no_part
operand_of c _ = p.no_part

abbrev pub mapping_named : List ℕ → Part → Part
mapping_named n other =
    cond (same_text (codes "nodes") n) p.nodes (
    cond (same_text (codes "template") n) p.template (
    cond (same_text (codes "distribute") n) p.distribute (
    cond (same_text (codes "align") n) p.align (
    cond (same_text (codes "shadow") n) p.shadow other))))

abbrev pub directive_named : List ℕ → Part
directive_named n =
    cond (same_text (codes "loop") n) p.loop (
    cond (same_text (codes "reflect") n) p.reflect (
    cond (same_text (codes "barrier") n) p.barrier (
    cond (same_text (codes "bcast") n) p.bcast (
    cond (same_text (codes "gmove") n) p.gmove (
    cond (same_text (codes "task") n) p.task (
    cond (same_text (codes "tasks") n) p.tasks p.no_part))))))

abbrev pub mapping_of : TokenKind → Part
mapping_of (t.Name n) = mapping_named n p.no_part
mapping_of _ = p.no_part

abbrev pub directive_of : TokenKind → Part
directive_of (t.Name n) = directive_named n
directive_of _ = p.no_part

abbrev pub line_of : TokenKind → Part
line_of (t.Name n) = mapping_named n (directive_named n)
line_of _ = p.no_part

abbrev pub statement_of : TokenKind → Part
statement_of (t.Mark m.OpenBrace) = p.block
statement_of (t.Mark m.Semicolon) = p.empty
statement_of (t.Mark m.Increment) = p.simple_statement
statement_of (t.Mark m.Decrement) = p.simple_statement
statement_of (t.Name n) = p.simple_statement
statement_of (t.Word w.Return) = p.return_statement
statement_of (t.Word w.If) = p.if_statement
statement_of (t.Word w.While) = p.while_statement
statement_of (t.Word w.For) = p.for_statement
statement_of (t.Word w.Printf) = p.print_statement
statement_of (t.Word w.Scanf) = p.scan_statement
statement_of (t.Word w.SyncAll) = p.sync_statement
statement_of t.Pragma = p.directive
statement_of _ = p.no_part

abbrev pub item_of : TokenKind → Part
item_of (t.Word w.Int) = p.declaration
item_of (t.Word w.Long) = p.declaration
item_of t.Pragma = p.line_in_block
item_of kind = statement_of kind

-- The end of a nodes line of one size: the set of nodes that it names, where there is one.
abbrev pub nodes_end : Rule
nodes_end = optional (is_mark m.Assign) (sign m.Assign · part p.set) · line_end

-- The sizes of a nodes line behind its name, to the end of the line: `*`, or sizes, of which one alone may have a set behind it.
abbrev pub nodes_in_parens : Rule
nodes_in_parens = tok opening (is_mark m.OpenParen) · choice (is_mark m.Star)
    (sign m.Star · tok closing (is_mark m.CloseParen) · line_end)
    (expr · choice (is_mark m.Comma)
    (many (is_mark m.Comma) (comma · expr) · tok closing (is_mark m.CloseParen) · line_end)
    (tok closing (is_mark m.CloseParen) · nodes_end))

abbrev pub nodes_in_brackets : Rule
nodes_in_brackets = tok opening (is_mark m.OpenBracket) · choice (is_mark m.Star)
    (sign m.Star · tok closing (is_mark m.CloseBracket) · line_end)
    (expr · tok closing (is_mark m.CloseBracket) · choice (is_mark m.OpenBracket) (dims expr · line_end) nodes_end)

-- The grammar.
abbrev pub rule : Part → Rule
-- mappings, declarations and functions, the last a function
rule p.program = choice is_pragma
    (part p.mapping · part p.program)
    (part p.type_words · name · choice (is_mark m.OpenParen)
    (part p.function_rest · choice is_finish (tok plain is_finish) (part p.program))
    (part p.declarator_rest · many (is_mark m.Comma) (comma · part p.declarator) · semicolon · part p.program))
rule p.function_rest =
    parens (optional (λ k. not (is_mark m.CloseParen k)) (choice (is_word w.Void) (word w.Void) (list (part p.parameter)))) · part p.block
rule p.parameter = part p.type_words · name
rule p.type_words = choice (is_word w.Int) (word w.Int) (word w.Long · optional (is_word w.Int) (word w.Int))
rule p.declaration = part p.type_words · list (part p.declarator) · semicolon
rule p.declarator = name · part p.declarator_rest
rule p.declarator_rest = choice (is_mark m.OpenBracket)
    (dims expr · optional (is_mark m.Colon) (sign m.Colon · brackets (sign m.Star)))
    (optional (is_mark m.Assign) (sign m.Assign · expr))
-- expressions: a conditional, the ten levels of binary operators, and below them the unary operators, casts and operands
rule (p.expression c) = part (p.level 10 c) · optional (is_mark m.Question)
    (tok operator (is_mark m.Question) · expr_colon · tok operator (is_mark m.Colon) · part (p.expression c))
rule (p.level (suc n) c) = part (p.level n c) · many (binary (suc n)) (tok operator (binary (suc n)) · part (p.level n c))
rule (p.level zero c) = by (operand_of c)
rule p.number = tok plain is_number
rule (p.named c) = name · choice (is_mark m.OpenParen) (part p.arguments) (part p.subscripts · part (p.image c))
rule (p.parens_or_cast c) = tok opening (is_mark m.OpenParen) · choice is_type
    (tok plain is_type · tok cast (is_mark m.CloseParen) · part (p.level 0 c))
    (expr · tok closing (is_mark m.CloseParen))
rule (p.unary c) = tok operator is_unary · part (p.level 0 c)
rule p.subscripts = any_dims expr
-- behind a reference a colon is the image's; where another colon may follow, it is the image's where a bracket stands behind it
rule (p.image false) = optional (is_mark m.Colon) (sign m.Colon · brackets expr)
rule (p.image true) = pair (is_mark m.Colon) (is_mark m.OpenBracket) (expr · tok closing (is_mark m.CloseBracket))
rule (p.reference c) = name · part p.subscripts · part (p.image c)
rule p.arguments = parens (optional (λ k. not (is_mark m.CloseParen k)) (list expr))
-- statements
rule p.block = braces (many (λ k. not (is_mark m.CloseBrace k)) (part p.block_item))
rule p.block_item = by item_of
rule p.statement = by statement_of
rule p.empty = semicolon
rule p.simple = choice is_step
    (tok plain is_step · part (p.reference false))
    (name · choice (is_mark m.OpenParen) (part p.arguments)
    (part p.subscripts · part (p.image false) · choice is_step (tok plain is_step) (tok plain is_assign · expr)))
rule p.simple_statement = part p.simple · semicolon
rule p.return_statement = word w.Return · expr · semicolon
rule p.if_statement = counted (word w.If · parens expr · part p.statement) · optional (is_word w.Else) (counted (word w.Else · part p.statement))
rule p.while_statement = counted (word w.While · parens expr · part p.statement)
rule p.for_statement = counted (word w.For · parens (
    optional (λ k. not (is_mark m.Semicolon k)) (part p.for_first) · semicolon
    · optional (λ k. not (is_mark m.Semicolon k)) expr · semicolon
    · optional (λ k. not (is_mark m.CloseParen k)) (part p.simple))
    · part p.statement)
rule p.for_first = choice (is_word w.Int) (word w.Int · name) (part (p.reference false)) · sign m.Assign · expr
rule p.print_statement = word w.Printf · parens (tok plain is_text · many (is_mark m.Comma) (comma · expr)) · semicolon
rule p.scan_statement = word w.Scanf · parens (tok plain is_text · comma · sign m.And · part (p.reference false)) · semicolon
rule p.sync_statement = word w.SyncAll · parens (sign m.And · part (p.reference false)) · semicolon
-- the lines of directives, each from its `#pragma xmp`
rule p.directive = tok plain is_pragma · by directive_of
rule p.mapping = tok plain is_pragma · by mapping_of
rule p.line_in_block = tok plain is_pragma · by line_of
-- the rest of each, from its word on
rule p.nodes = spelled (codes "nodes") · name · choice (is_mark m.OpenParen) nodes_in_parens nodes_in_brackets
rule p.template = spelled (codes "template") · name · several expr (part p.range) · line_end
rule p.distribute = spelled (codes "distribute") · name · several (part p.how) (part p.how) · spelled (codes "onto") · name · line_end
rule p.align = spelled (codes "align") · name · dims (part p.align_dimension) · spelled (codes "with") · name · several (part p.place) (part p.place) · line_end
rule p.shadow = spelled (codes "shadow") · name · dims (part p.range) · line_end
rule p.loop = counted (spelled (codes "loop") · optional (is_mark m.OpenParen) (parens (part p.names)) · spelled (codes "on") · name · several (part p.place) (part p.place)
    · many (is_spelled (codes "reduction")) (part p.reduction) · line_end · part p.for_statement)
rule p.reflect = spelled (codes "reflect") · parens (part p.names) · line_end
rule p.barrier = spelled (codes "barrier") · line_end
rule p.bcast = spelled (codes "bcast") · parens (part p.names) · spelled (codes "from") · part p.set · line_end
rule p.gmove = spelled (codes "gmove") · line_end · part p.sections · sign m.Assign · part p.sections · semicolon
rule p.task = counted (spelled (codes "task") · spelled (codes "on") · part p.set · line_end · part p.statement)
rule p.tasks = counted (spelled (codes "tasks") · line_end · braces (many is_pragma (tok plain is_pragma · part p.task)))
rule p.names = list name
rule p.how = choice (is_mark m.Star) (sign m.Star) (
    choice (is_spelled (codes "block")) (spelled (codes "block")) (
    choice (is_spelled (codes "cyclic")) (spelled (codes "cyclic") · optional (is_mark m.OpenParen) (parens expr)) (
    spelled (codes "gblock") · parens (braces (list expr)))))
rule p.align_dimension = choice (is_mark m.Star) (sign m.Star) name
rule p.place = choice (is_mark m.Star) (sign m.Star) (name · optional is_offset (tok operator is_offset · part (p.level 0 false)))
rule p.range = expr_colon · optional (is_mark m.Colon) (sign m.Colon · expr)
rule p.piece = choice (is_mark m.Colon) (sign m.Colon) (part p.range)
rule p.section = choice (is_mark m.Colon) (sign m.Colon) (expr_colon · optional (is_mark m.Colon) (sign m.Colon · part p.range))
rule p.set = name · any_several (part p.piece)
rule p.sections = name · any_dims (part p.section)
rule p.reduction = spelled (codes "reduction") · parens (choice is_reduction (tok plain is_reduction) (tok plain is_max_or_min) · sign m.Colon · part p.names)
rule p.no_part = tok plain (λ k. false)
