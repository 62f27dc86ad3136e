-- The rules of the grammar are sound: a reading comes to a token or halts after so many steps, no rule but the last reads the end of a
-- text, and what counts in the depth begins with a token.
use Rattle.std.proofs.Common.{◌≡◌, ◌≤◌, ◌+◌, ◌*◌, ℕ, zero, suc, max, Bool, true, false, not, ◌&&◌, ◌||◌, nat_le, cond, List, [], ◌∷◌, refl, sym, ap, arith}
use Rattle.std.specs.Prelude.{codes, ◌==◌}
use Rattle.std.proofs.Math.Dec.{eqb-zero-suc}
use Rattle.xmp_lex.specs.declared.token.TokenKind.{TokenKind}
use Rattle.xmp_lex.specs.declared.token.TokenKind.TheVariants as t
use Rattle.xmp_lex.specs.declared.token.Mark.TheVariants as m
use Rattle.xmp_lex.specs.declared.token.Reserved.TheVariants as w
use Rattle.xmp_syntax.specs.Parts as p
use Rattle.xmp_syntax.specs.Parts.{Part}
use Rattle.xmp_syntax.specs.Reading.{Effect, plain, enter, leave, Rule, nothing, tok, mark, part, by, ◌·◌, choice, many, pair}
use Rattle.xmp_syntax.specs.Grammar.{rule, same_text, operand_of, statement_of, item_of, mapping_named, mapping_of, directive_named, directive_of, line_of}

-- the parts that may be read without a token
abbrev pub may_be_empty : Part → Bool
may_be_empty p.subscripts = true
may_be_empty (p.image c) = true
may_be_empty p.declarator_rest = true
may_be_empty _ = false

-- the most steps from a part to its first token or its end
abbrev pub weight : Part → ℕ
weight p.program = 20
weight p.type_words = 3
weight p.simple = 3
weight p.block_item = 20
weight p.statement = 20
weight p.for_first = 20
weight p.range = 50
weight p.piece = 60
weight p.section = 60
weight (p.level n c) = 12 + 2 * n
weight (p.expression c) = 40
weight _ = 10

abbrev pub is_program : Part → Bool
is_program p.program = true
is_program _ = false

-- the parts that a next token tells: the first token comes soon
abbrev pub small : Part → Bool
small P = not (may_be_empty P) && (nat_le (weight P) 10 && not (is_program P))

-- the most steps from a part, and from a rule, to a token or to the end of what follows, which takes k steps at most
abbrev pub part_steps : Part → ℕ → ℕ
part_steps P k = cond (may_be_empty P) (weight P + k) (weight P)

abbrev pub steps : Rule → ℕ → ℕ
steps nothing k = 1 + k
steps (tok e q) k = 0
steps (mark e) k = 1 + k
steps (part P) k = 1 + part_steps P k
steps (by f) k = 11
steps (r · s) k = 1 + steps r (steps s k)
steps (choice q r s) k = 1 + max (steps r k) (steps s k)
steps (many q r) k = 1 + max (steps r 0) k
steps (pair q v r) k = 1 + k

-- the rule reads a token, or the reading halts in it
abbrev pub takes : Rule → Bool
takes nothing = false
takes (tok e q) = true
takes (mark e) = false
takes (part P) = not (may_be_empty P)
takes (by f) = true
takes (r · s) = takes r || takes s
takes (choice q r s) = takes r && takes s
takes (many q r) = false
takes (pair q v r) = false

abbrev pub is_plain : Effect → Bool
is_plain plain = true
is_plain _ = false

-- the start and the end of what is counted
abbrev pub bounds : Effect → Bool
bounds enter = true
bounds leave = true
bounds _ = false

-- the rule begins with a token that does nothing to the depth
abbrev pub opens : Rule → Bool
opens (tok e q) = is_plain e
opens (r · s) = opens r
opens _ = false

-- behind the start of what is counted comes such a rule
abbrev pub starts : Rule → List Rule → Bool
starts (mark enter) [] = false
starts (mark enter) (s ∷ K) = opens s
starts _ K = true

abbrev pub same : Bool → Bool → Bool
same true b = b
same false b = not b

-- The rule is sound, `last` if it is the last of those to come.
abbrev pub Sound : Bool → Rule → Type 0
Sound last nothing = last ≡ false
Sound last (tok e q) = (last || not (q t.Finish)) ≡ true
Sound last (mark e) = (last ≡ false) × (bounds e ≡ true)
Sound last (part P) = is_program P ≡ last
Sound last (by f) = (last ≡ false) × ((k : TokenKind) → small (f k) ≡ true)
Sound last (r · s) = Sound false r × Sound last s × (starts r (s ∷ []) ≡ true) × (starts s [] ≡ true)
Sound last (choice q r s) = Sound last r × Sound last s × (starts r [] ≡ true) × (starts s [] ≡ true)
Sound last (many q r) = (last ≡ false) × Sound false r × (takes r ≡ true) × (starts r [] ≡ true)
Sound last (pair q v r) = (last ≡ false) × (q t.Finish ≡ false) × (v t.Finish ≡ false) × Sound false r × (starts r [] ≡ true)

-- the same as a test, for rules without a part that the next token tells
abbrev sound : Bool → Rule → Bool
sound last nothing = not last
sound last (tok e q) = last || not (q t.Finish)
sound last (mark e) = not last && bounds e
sound last (part P) = same (is_program P) last
sound last (by f) = false
sound last (r · s) = sound false r && (sound last s && (starts r (s ∷ []) && starts s []))
sound last (choice q r s) = sound last r && (sound last s && (starts r [] && starts s []))
sound last (many q r) = not last && (sound false r && (takes r && starts r []))
sound last (pair q v r) = not last && (not (q t.Finish) && (not (v t.Finish) && (sound false r && starts r [])))

both : (a b : Bool) → a && b ≡ true → (a ≡ true) × (b ≡ true)
both true b h = (refl, h)
both false b h = cc

is_false : (b : Bool) → not b ≡ true → b ≡ false
is_false true h = cc
is_false false h = refl

are_same : (a b : Bool) → same a b ≡ true → a ≡ b
are_same true b h = sym h
are_same false b h = sym (is_false b h)

by_test : (last : Bool) (r : Rule) → sound last r ≡ true → Sound last r
by_test last nothing h = is_false last h
by_test last (tok e q) h = h
by_test last (mark e) h = let a = both (not last) (bounds e) h in (is_false last a.0, a.1)
by_test last (part P) h = are_same (is_program P) last h
by_test last (by f) h = cc
by_test last (r · s) h =
    let a = both (sound false r) _ h in
    let b = both (sound last s) _ a.1 in
    let c = both (starts r (s ∷ [])) (starts s []) b.1 in
    (by_test false r a.0, by_test last s b.0, c.0, c.1)
by_test last (choice q r s) h =
    let a = both (sound last r) _ h in
    let b = both (sound last s) _ a.1 in
    let c = both (starts r []) (starts s []) b.1 in
    (by_test last r a.0, by_test last s b.0, c.0, c.1)
by_test last (many q r) h =
    let a = both (not last) _ h in
    let b = both (sound false r) _ a.1 in
    let c = both (takes r) (starts r []) b.1 in
    (is_false last a.0, by_test false r b.0, c.0, c.1)
by_test last (pair q v r) h =
    let a = both (not last) _ h in
    let b = both (not (q t.Finish)) _ a.1 in
    let c = both (not (v t.Finish)) _ b.1 in
    let d = both (sound false r) (starts r []) c.1 in
    (is_false last a.0, is_false (q t.Finish) b.0, is_false (v t.Finish) c.0, by_test false r d.0, d.1)

-- ---- the parts that a next token tells

record Small (P : Part) : Type 0 where
  is : small P ≡ true

of_two : (b : Bool) (P Q : Part) → Small P → Small Q → Small (cond b P Q)
of_two true P Q h k = h
of_two false P Q h k = k

one : (P : Part) → small P ≡ true → Small P
one P h = record { is = h }

directive_small : (n : List ℕ) → Small (directive_named n)
directive_small n =
    of_two (same_text (codes "loop") n) p.loop _ (one p.loop refl) (
    of_two (same_text (codes "reflect") n) p.reflect _ (one p.reflect refl) (
    of_two (same_text (codes "barrier") n) p.barrier _ (one p.barrier refl) (
    of_two (same_text (codes "bcast") n) p.bcast _ (one p.bcast refl) (
    of_two (same_text (codes "gmove") n) p.gmove _ (one p.gmove refl) (
    of_two (same_text (codes "task") n) p.task _ (one p.task refl) (
    of_two (same_text (codes "tasks") n) p.tasks p.no_part (one p.tasks refl) (one p.no_part refl)))))))

mapping_small : (n : List ℕ) (Q : Part) → Small Q → Small (mapping_named n Q)
mapping_small n Q h =
    of_two (same_text (codes "nodes") n) p.nodes _ (one p.nodes refl) (
    of_two (same_text (codes "template") n) p.template _ (one p.template refl) (
    of_two (same_text (codes "distribute") n) p.distribute _ (one p.distribute refl) (
    of_two (same_text (codes "align") n) p.align _ (one p.align refl) (
    of_two (same_text (codes "shadow") n) p.shadow Q (one p.shadow refl) h))))

directives_small : (k : TokenKind) → small (directive_of k) ≡ true
directives_small (t.Name n) = (directive_small n).is
directives_small _ = refl

mappings_small : (k : TokenKind) → small (mapping_of k) ≡ true
mappings_small (t.Name n) = (mapping_small n p.no_part (one p.no_part refl)).is
mappings_small _ = refl

lines_small : (k : TokenKind) → small (line_of k) ≡ true
lines_small (t.Name n) = (mapping_small n (directive_named n) (directive_small n)).is
lines_small _ = refl

statements_small : (k : TokenKind) → small (statement_of k) ≡ true
statements_small (t.Mark m.OpenBrace) = refl
statements_small (t.Mark m.Semicolon) = refl
statements_small (t.Mark m.Increment) = refl
statements_small (t.Mark m.Decrement) = refl
statements_small (t.Mark _) = refl
statements_small (t.Word w.Return) = refl
statements_small (t.Word _) = refl
statements_small _ = refl

items_small : (k : TokenKind) → small (item_of k) ≡ true
items_small (t.Word w.Int) = refl
items_small (t.Word w.Long) = refl
items_small (t.Word w.Return) = refl
items_small (t.Word _) = refl
items_small (t.Mark m.OpenBrace) = refl
items_small (t.Mark _) = refl
items_small _ = refl

operands_small : (c : Bool) (k : TokenKind) → small (operand_of c k) ≡ true
operands_small c (t.Name n) = refl
operands_small c (t.Mark m.OpenParen) = refl
operands_small c (t.Mark m.Plus) = refl
operands_small c (t.Mark m.Minus) = refl
operands_small c (t.Mark m.Tilde) = refl
operands_small c (t.Mark m.Bang) = refl
operands_small c (t.Mark _) = refl
operands_small c _ = refl

-- ---- the grammar

pub record SoundPart (P : Part) : Type 0 where
  pub sound : Sound (is_program P) (rule P)
  pub starts : starts (rule P) [] ≡ true
  pub few : (k : ℕ) → steps (rule P) k ≤ part_steps P k

checked : (P : Part) → sound (is_program P) (rule P) ≡ true → starts (rule P) [] ≡ true → ((k : ℕ) → steps (rule P) k ≤ part_steps P k) → SoundPart P
checked P h s f = record { sound = by_test (is_program P) (rule P) h; starts = s; few = f }

-- the end of a text is no operator
no_level : (n : ℕ) → not (0 == suc n) ≡ true
no_level n = ap not (eqb-zero-suc n)

pub sound_part : (P : Part) → SoundPart P
sound_part (p.level zero c) = record { sound = (refl, operands_small c); starts = refl; few = λ k. omega arith }
sound_part (p.level (suc n) c) = record { sound = (refl, (refl, (no_level n, refl, refl, refl), refl, refl), refl, refl); starts = refl; few = λ k. omega arith }
sound_part p.block_item = record { sound = (refl, items_small); starts = refl; few = λ k. omega arith }
sound_part p.statement = record { sound = (refl, statements_small); starts = refl; few = λ k. omega arith }
sound_part p.directive = record { sound = (refl, (refl, directives_small), refl, refl); starts = refl; few = λ k. omega arith }
sound_part p.mapping = record { sound = (refl, (refl, mappings_small), refl, refl); starts = refl; few = λ k. omega arith }
sound_part p.line_in_block = record { sound = (refl, (refl, lines_small), refl, refl); starts = refl; few = λ k. omega arith }
sound_part p.program = checked p.program refl refl (λ k. omega arith)
sound_part p.function_rest = checked p.function_rest refl refl (λ k. omega arith)
sound_part p.declaration = checked p.declaration refl refl (λ k. omega arith)
sound_part p.declarator = checked p.declarator refl refl (λ k. omega arith)
sound_part p.declarator_rest = checked p.declarator_rest refl refl (λ k. omega arith)
sound_part p.type_words = checked p.type_words refl refl (λ k. omega arith)
sound_part p.parameter = checked p.parameter refl refl (λ k. omega arith)
sound_part (p.expression c) = checked (p.expression c) refl refl (λ k. omega arith)
sound_part p.number = checked p.number refl refl (λ k. omega arith)
sound_part (p.named c) = checked (p.named c) refl refl (λ k. omega arith)
sound_part (p.parens_or_cast c) = checked (p.parens_or_cast c) refl refl (λ k. omega arith)
sound_part (p.unary c) = checked (p.unary c) refl refl (λ k. omega arith)
sound_part p.subscripts = checked p.subscripts refl refl (λ k. omega arith)
sound_part (p.image false) = checked (p.image false) refl refl (λ k. omega arith)
sound_part (p.image true) = checked (p.image true) refl refl (λ k. omega arith)
sound_part (p.reference c) = checked (p.reference c) refl refl (λ k. omega arith)
sound_part p.arguments = checked p.arguments refl refl (λ k. omega arith)
sound_part p.block = checked p.block refl refl (λ k. omega arith)
sound_part p.empty = checked p.empty refl refl (λ k. omega arith)
sound_part p.simple = checked p.simple refl refl (λ k. omega arith)
sound_part p.simple_statement = checked p.simple_statement refl refl (λ k. omega arith)
sound_part p.return_statement = checked p.return_statement refl refl (λ k. omega arith)
sound_part p.if_statement = checked p.if_statement refl refl (λ k. omega arith)
sound_part p.while_statement = checked p.while_statement refl refl (λ k. omega arith)
sound_part p.for_statement = checked p.for_statement refl refl (λ k. omega arith)
sound_part p.for_first = checked p.for_first refl refl (λ k. omega arith)
sound_part p.print_statement = checked p.print_statement refl refl (λ k. omega arith)
sound_part p.scan_statement = checked p.scan_statement refl refl (λ k. omega arith)
sound_part p.sync_statement = checked p.sync_statement refl refl (λ k. omega arith)
sound_part p.nodes = checked p.nodes refl refl (λ k. omega arith)
sound_part p.template = checked p.template refl refl (λ k. omega arith)
sound_part p.distribute = checked p.distribute refl refl (λ k. omega arith)
sound_part p.align = checked p.align refl refl (λ k. omega arith)
sound_part p.shadow = checked p.shadow refl refl (λ k. omega arith)
sound_part p.loop = checked p.loop refl refl (λ k. omega arith)
sound_part p.reflect = checked p.reflect refl refl (λ k. omega arith)
sound_part p.barrier = checked p.barrier refl refl (λ k. omega arith)
sound_part p.bcast = checked p.bcast refl refl (λ k. omega arith)
sound_part p.gmove = checked p.gmove refl refl (λ k. omega arith)
sound_part p.task = checked p.task refl refl (λ k. omega arith)
sound_part p.tasks = checked p.tasks refl refl (λ k. omega arith)
sound_part p.names = checked p.names refl refl (λ k. omega arith)
sound_part p.how = checked p.how refl refl (λ k. omega arith)
sound_part p.align_dimension = checked p.align_dimension refl refl (λ k. omega arith)
sound_part p.place = checked p.place refl refl (λ k. omega arith)
sound_part p.range = checked p.range refl refl (λ k. omega arith)
sound_part p.piece = checked p.piece refl refl (λ k. omega arith)
sound_part p.section = checked p.section refl refl (λ k. omega arith)
sound_part p.set = checked p.set refl refl (λ k. omega arith)
sound_part p.sections = checked p.sections refl refl (λ k. omega arith)
sound_part p.reduction = checked p.reduction refl refl (λ k. omega arith)
sound_part p.no_part = checked p.no_part refl refl (λ k. omega arith)
