-- Parts of blocks. Source: ISO C 6.8, and XcalableMP 1.4, section 4.
use Rattle.std.specs.Prelude.{◌≡◌, ℕ, List, [], ◌∷◌, true, false, Result}
use Rattle.xmp_lex.specs.declared.token.Token.{Token}
use Rattle.xmp_lex.specs.declared.token.TokenKind.{TokenKind}
use Rattle.xmp_lex.specs.declared.token.Reserved.TheVariants as w
use Rattle.xmp_syntax.specs.declared.directive.TaskLine.{TaskLine}
use Rattle.xmp_syntax.specs.declared.statement.BlockItem.{BlockItem}
use Rattle.xmp_syntax.specs.declared.statement.Stmt as made
use Rattle.xmp_syntax.specs.Parts as p
use Rattle.xmp_syntax.specs.Parts.{Part}
use Rattle.xmp_syntax.specs.Reading.{Rule, State, part, mark, leave, by}
use Rattle.xmp_syntax.specs.Grammar.{is_word, directive_of}
use Rattle.xmp_syntax.specs.Trees.{Stmt}
use Rattle.xmp_syntax.specs.View.{items_view, tasks_view}
use Rattle.xmp_syntax.specs.Spell.{Text, spell_items, spell_tasks}
use Rattle.xmp_syntax.specs.Fits.{FitsItems, FitsTasks, takes_else}
use Rattle.xmp_reader.specs.declared.depth.Depth.{Depth}
use Rattle.xmp_reader.specs.declared.reader.Reader.{Reader}
use Rattle.xmp_reader.specs.declared.reader.Stop.{Stop}
use Rattle.xmp_reader.specs.Going.{Comes, After, stands, Parses}
use Rattle.xmp_reader.specs.Kinds.{next_is}
use Rattle.xmp_line_reader.specs.Lines.{Agree}

-- one item of a block
abbrev pub spell_item : BlockItem made.Stmt → Text
spell_item x r = spell_items (items_view (x ∷ [])) r

abbrev pub FitsItem : BlockItem made.Stmt → Type 0
FitsItem x = FitsItems (items_view (x ∷ []))

-- one task with its statement
abbrev pub spell_task : TaskLine × made.Stmt → Text
spell_task x r = spell_tasks (tasks_view (x ∷ [])) r

abbrev pub FitsTask : TaskLine × made.Stmt → Type 0
FitsTask x = FitsTasks (tasks_view (x ∷ []))

-- No else stands behind a statement that would take one.
abbrev pub LeavesElse : Stmt → List Token → Type 0
LeavesElse s ts = takes_else s ≡ true → next_is (is_word w.Else) ts ≡ false

-- A directive is read from its word on, by whichever choice is the directives' here.
abbrev pub Directs : {A : Type 0} → Reader → Result (A × Reader) Stop → Type 0
Directs r result = (f : TokenKind → Part) → Agree f directive_of r.tokens.now → Parses (by f) r result

-- The statement that a counted statement holds is read, and the counted statement ends; these are the depths outside.
abbrev pub Holds : {A : Type 0} → Depth → Reader → Result (A × Reader) Stop → Type 0
Holds outer r result = (s : State) (L : List (ℕ × ℕ)) (K : List Rule) → Comes s (stands ((outer.now, outer.base) ∷ L) (part p.statement ∷ mark leave ∷ K) r) → After s L K result
