-- The words of directives' lines, and lines that are read. Source: XcalableMP 1.4, sections 4 to 6.
use Rattle.std.specs.Prelude.{◌≡◌, ℕ, List, [], ◌∷◌, Bool, cond, codes, Option, None, Some, Result, ⊤}
use Rattle.xmp_lex.specs.declared.token.Token.{Token}
use Rattle.xmp_lex.specs.declared.token.TokenKind.{TokenKind}
use Rattle.xmp_lex.specs.declared.token.TokenKind.TheVariants as t
use Rattle.xmp_lex.specs.declared.token.Mark.{Mark}
use Rattle.xmp_base.specs.declared.place.Place.{Place}
use Rattle.xmp_syntax.specs.declared.parts.Name.{Name}
use Rattle.xmp_syntax.specs.Spell.{◌at◌, spelled, name}
use Rattle.xmp_syntax.specs.Parts as p
use Rattle.xmp_syntax.specs.Parts.{Part}
use Rattle.xmp_syntax.specs.Reading.{Rule, State, tok, mark, closing, leave, ◌·◌}
use Rattle.xmp_syntax.specs.Grammar.{rule, is_mark, is_spelled}
use Rattle.xmp_reader.specs.declared.depth.Depth.{Depth}
use Rattle.xmp_reader.specs.declared.reader.Reader.{Reader}
use Rattle.xmp_reader.specs.declared.reader.Stop.{Stop}
use Rattle.xmp_line_reader.specs.declared.words.MappingWord.{MappingWord}
use Rattle.xmp_line_reader.specs.declared.words.MappingWord.TheVariants as mw
use Rattle.xmp_line_reader.specs.declared.words.DirectiveWord.{DirectiveWord}
use Rattle.xmp_line_reader.specs.declared.words.DirectiveWord.TheVariants as dw
use Rattle.xmp_reader.specs.Going.{Comes, After, stands}
use Rattle.xmp_reader.specs.Kinds.{next_is}

-- the mapping of a word
abbrev pub part_of_mapping : MappingWord → Part
part_of_mapping mw.Nodes = p.nodes
part_of_mapping mw.Template = p.template
part_of_mapping mw.Distribute = p.distribute
part_of_mapping mw.Align = p.align
part_of_mapping mw.Shadow = p.shadow

-- the word of a mapping that stands next
abbrev pub mapping_word_next : List Token → Option MappingWord
mapping_word_next ts =
    cond (next_is (is_spelled (codes "nodes")) ts) (Some mw.Nodes) (
    cond (next_is (is_spelled (codes "template")) ts) (Some mw.Template) (
    cond (next_is (is_spelled (codes "distribute")) ts) (Some mw.Distribute) (
    cond (next_is (is_spelled (codes "align")) ts) (Some mw.Align) (
    cond (next_is (is_spelled (codes "shadow")) ts) (Some mw.Shadow) None))))

-- the directive of a word
abbrev pub part_of_directive : DirectiveWord → Part
part_of_directive dw.Loop = p.loop
part_of_directive dw.Reflect = p.reflect
part_of_directive dw.Barrier = p.barrier
part_of_directive dw.Bcast = p.bcast
part_of_directive dw.Gmove = p.gmove
part_of_directive dw.Task = p.task
part_of_directive dw.Tasks = p.tasks

-- the word of another directive that stands next
abbrev pub directive_word_next : List Token → Option DirectiveWord
directive_word_next ts =
    cond (next_is (is_spelled (codes "loop")) ts) (Some dw.Loop) (
    cond (next_is (is_spelled (codes "reflect")) ts) (Some dw.Reflect) (
    cond (next_is (is_spelled (codes "barrier")) ts) (Some dw.Barrier) (
    cond (next_is (is_spelled (codes "bcast")) ts) (Some dw.Bcast) (
    cond (next_is (is_spelled (codes "gmove")) ts) (Some dw.Gmove) (
    cond (next_is (is_spelled (codes "task")) ts) (Some dw.Task) (
    cond (next_is (is_spelled (codes "tasks")) ts) (Some dw.Tasks) None))))))

-- its directive holds no statement
abbrev pub IsPlainWord : DirectiveWord → Type 0
IsPlainWord dw.Loop = ⊥
IsPlainWord dw.Task = ⊥
IsPlainWord dw.Tasks = ⊥
IsPlainWord _ = ⊤

-- Both give the same part at the next token.
abbrev pub Agree : (TokenKind → Part) → (TokenKind → Part) → List Token → Type 0
Agree f g [] = ⊤
Agree f g (t ∷ ts) = f t.kind ≡ g t.kind

-- What is between an opening bracket and its closing one is read, and the closing one.
abbrev pub Closes : {A : Type 0} → Rule → Mark → Depth → Reader → Result (A × Reader) Stop → Type 0
Closes R x outer r result = (s : State) (L : List (ℕ × ℕ)) (N : Rule) (K : List Rule) → Comes s (stands ((outer.now, outer.base) ∷ L) (R ∷ (tok closing (is_mark x) · N) ∷ K) r) → After s L (N ∷ K) result

-- What the rule has before another rule is read, up to that one.
abbrev pub ReadsBefore : {A : Type 0} → (Rule → Rule) → Reader → Result (A × Reader) Stop → Type 0
ReadsBefore R r result = (s : State) (L : List (ℕ × ℕ)) (N : Rule) (K : List Rule) → Comes s (stands L (R N ∷ K) r) → After s L (N ∷ K) result

-- The rule is read to its end where a bracket is open, which it closes.
abbrev pub Ends : {A : Type 0} → Rule → Depth → Reader → Result (A × Reader) Stop → Type 0
Ends R outer r result = (s : State) (L : List (ℕ × ℕ)) (K : List Rule) → Comes s (stands ((outer.now, outer.base) ∷ L) (R ∷ K) r) → After s L K result

-- a nodes line before what stands behind its name: its start, its word and its name
abbrev pub nodes_line : Place → Place × Name → List Token → List Token
nodes_line start head r = t.Pragma at start ∷ spelled (codes "nodes") head.0 (name head.1 r)

-- The line of a directive is read, up to the statement that the directive holds.
abbrev pub Heads : {A : Type 0} → Part → Rule → Reader → Result (A × Reader) Stop → Type 0
Heads P held r result = (s : State) (L : List (ℕ × ℕ)) (K : List Rule) → Comes s (stands L (rule P ∷ K) r) → After s ((r.depth.now, r.depth.base) ∷ L) (held ∷ mark leave ∷ K) result
