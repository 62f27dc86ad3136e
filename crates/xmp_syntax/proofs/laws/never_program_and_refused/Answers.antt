use Rattle.std.proofs.Common.{rules, ◌≡◌, ◌≤◌, ℕ, List, [], ◌∷◌, ◌++◌, All, sym, ◌∙◌, arith}
use Rattle.std.proofs.lemmas.List.Elements.{All-head}
use Rattle.xmp_lex.specs.declared.token.Token.{Token}
use Rattle.xmp_syntax.specs.declared.program.Tree.{Tree}
use Rattle.xmp_syntax.specs.Refused.{IsProgram, Stuck, TooDeep, start, program_rules}
use Rattle.xmp_syntax.specs.Steps.{regroup, all_split}
use Rattle.xmp_syntax.proofs.Programs.{tree_reads}
use Rattle.xmp_syntax.proofs.laws.never_program_and_refused.Goals as goal

no_refusal : (ts : List Token) (x : Tree) (left : ℕ) → IsProgram ts x → Stuck start program_rules ts left → ⊥
no_refusal ts x left P S = S.ends ((tree_reads x P.fits).fronts (S.front ++ S.bad ∷ []) S.after (sym P.whole ∙ S.whole ∙ regroup S.front S.bad S.after))

no_depth : (ts : List Token) (x : Tree) (left : ℕ) → IsProgram ts x → TooDeep start program_rules ts left → ⊥
no_depth ts x left P S =
    let a = all_split S.front (S.depth ∷ []) (P.shallow (S.front ++ S.depth ∷ []) _ S.reads) in
    let h : S.depth ≤ 128 = All-head (λ d. d ≤ 128) S.depth [] a.1 in
    omega (arith, h, S.deep)

pub returns-clause-stuck : goal.returns-clause-stuck
returns-clause-stuck c = no_refusal

pub returns-clause-deep : goal.returns-clause-deep
returns-clause-deep c = no_depth
