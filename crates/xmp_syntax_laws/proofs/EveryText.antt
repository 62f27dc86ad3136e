-- Finished tokens are a program, or one of them is the first bad one or the first that is too deep.
use Rattle.std.proofs.Common.{◌≡◌, ◌≤◌, ◌+◌, ◌⊎◌, inl, inr, ℕ, List, [], ◌∷◌, ◌++◌, length, All, refl, sym, ap, ◌∙◌, subst, arith, append-nil, length-append}
use Rattle.xmp_base.specs.Limits.{depth_limit}
use Rattle.xmp_lex.specs.declared.token.Token.{Token}
use Rattle.xmp_lex.specs.Lines.{IsFinished}
use Rattle.xmp_syntax.specs.declared.program.Tree.{Tree}
use Rattle.xmp_syntax.specs.Reading.{Rule, Depths, reading, Reads}
use Rattle.xmp_syntax.specs.Grammar.{rule}
use Rattle.xmp_syntax.specs.Fronts.{FirstBad}
use Rattle.xmp_syntax.specs.Refused.{Begins, TooDeep, IsShallow, IsProgram, start, program_rules}
use Rattle.xmp_syntax.specs.Steps.{all_split}
use Rattle.xmp_syntax.proofs.Fronts as fronts
use Rattle.xmp_syntax.proofs.DeepTokens.{stuck_front}
use Rattle.xmp_syntax.proofs.Programs.{tree_reads}
use Rattle.xmp_syntax.proofs.Readings.{Fronts, first, second, one_way, counted, left_at}
use Rattle.xmp_syntax_laws.proofs.Steps.{Stack}
use Rattle.xmp_syntax_laws.proofs.Readings.{Outcome, at_end, stuck, deep, comes_to_an_end, ends}

begun : Stack program_rules
begun = (refl, refl, tt)

-- behind finished tokens nothing more is read
no_more : (ts rest : List Token) → IsFinished ts → Begins start program_rules (ts ++ rest) → rest ≡ []
no_more ts rest i b = (ends _ _ b.depths b.reads begun b.now b.left refl rest ts refl i).0

-- ---- no reading gets deeper than one to the end of the tokens

same_depths : (ds es fs : List ℕ) → es ≡ ds ++ fs → length es ≤ length ds → All (λ d. d ≤ depth_limit) ds → All (λ d. d ≤ depth_limit) es
same_depths ds es [] q h w = subst (λ (l : List ℕ). All (λ d. d ≤ depth_limit) l) (sym (append-nil ds) ∙ sym q) w
same_depths ds es (f ∷ fs) q h w = let z = ap length q in absurd (omega (arith, length-append ds (f ∷ fs)))

all_shallow : (ts : List Token) (ds : List ℕ) (E : Depths) (M : List Rule) → Reads rule (reading start program_rules ts) ds (reading E M [])
    → All (λ d. d ≤ depth_limit) ds → IsShallow ts
all_shallow ts ds E M r w es s q = by (one_way _ _ _ _ _ r q) where
  fewer : length es ≤ length ds
  fewer = let a : length ts ≡ length ds + 0 = counted _ _ ds r in let b : length ts ≡ length es + length (left_at s) = counted _ _ es q in omega arith

  by : Fronts ds es → All (λ d. d ≤ depth_limit) es
  by (first fs p) = same_depths ds es fs p fewer w
  by (second fs p) = (all_split es fs (subst (λ (l : List ℕ). All (λ d. d ≤ depth_limit) l) p w)).0

-- ---- the tree

program_of : (ts : List Token) → IsFinished ts → (ds : List ℕ) (E : Depths) (M : List Rule)
    → Reads rule (reading start program_rules ts) ds (reading E M []) → All (λ d. d ≤ depth_limit) ds
    → (x : Tree) × IsProgram ts x
program_of ts i ds E M r w =
    let b : Begins start program_rules ts = record { depths = ds; now = E; left = M; reads = r } in
    let f = fronts.front ts b in
    let a = (tree_reads f.tree f.fits).fronts (ts ++ f.rest) [] (f.whole ∙ sym (append-nil (ts ++ f.rest))) in
    let e : f.rest ≡ [] = no_more ts f.rest i a in (
      f.tree,
      record {
        whole = sym (f.whole ∙ ap (λ (l : List Token). ts ++ l) e ∙ append-nil ts);
        fits = f.fits;
        shallow = all_shallow ts ds E M r w;
      },
    )

abbrev ProgramOrRefused : List Token → Type 0
ProgramOrRefused ts = ((x : Tree) × IsProgram ts x) ⊎ ((left : ℕ) × FirstBad ts left) ⊎ ((left : ℕ) × TooDeep start program_rules ts left)

judged : (ts : List Token) → IsFinished ts → Outcome start program_rules ts → ProgramOrRefused ts
judged ts i (at_end ds E M r w) = inl (program_of ts i ds E M r w)
judged ts i (stuck left s) = inr (inl (left, stuck_front ts left s))
judged ts i (deep left x) = inr (inr (left, x))

pub every_text : (ts : List Token) → IsFinished ts → ProgramOrRefused ts
every_text ts i = judged ts i (comes_to_an_end ts start program_rules begun (inl (omega arith, omega arith, tt)))
