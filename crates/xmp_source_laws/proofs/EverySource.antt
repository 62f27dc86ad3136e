-- Each text has a tree or is refused: by its tokens, its macros or its syntax.
use Rattle.std.proofs.Common.{◌≡◌, ◌<◌, ◌+◌, ◌⊎◌, inl, inr, ℕ, List, [], ◌∷◌, ◌++◌, length, refl, ap, ◌∙◌, arith, append_assoc, length-append}
use Rattle.xmp_base.specs.declared.place.Place.{Place}
use Rattle.xmp_base.specs.declared.refusal.Refusal.{Refusal}
use Rattle.xmp_base.specs.declared.refusal.Fault.TheVariants as fault
use Rattle.xmp_base.specs.declared.refusal.Phase.TheVariants as phase
use Rattle.xmp_lex.specs.declared.token.Token.{Token}
use Rattle.xmp_lex.specs.Lines.{IsFinished}
use Rattle.xmp_lex.specs.Cut.{Cut, BreaksLexRule}
use Rattle.xmp_lex.specs.Expand.{Expanded, BreaksMacros}
use Rattle.xmp_lex.proofs.LineLemmas.{cut_closed, cut_finished}
use Rattle.xmp_lex.proofs.ExpandLemmas.{expanded_finished}
use Rattle.xmp_syntax.specs.declared.program.Tree.{Tree}
use Rattle.xmp_syntax.specs.Fronts.{FirstBad}
use Rattle.xmp_syntax.specs.Refused.{IsProgram, TooDeep, start, program_rules}
use Rattle.xmp_syntax.proofs.Readings.{taken, counted}
use Rattle.xmp_lex_laws.proofs.EveryCut as cuts
use Rattle.xmp_lex_laws.proofs.EveryExpansion as expansions
use Rattle.xmp_syntax_laws.proofs.EveryText as syntax
use Rattle.xmp_parse.specs.Faults.{StandsAt, Breaks}
use Rattle.xmp_source.specs.Source as source
use Rattle.xmp_source.specs.Source.{Comes, IsTreeOf, in_text, in_macros, in_syntax}

-- ---- the place of a token that is too deep

-- the last of some tokens
last_of : (xs : List Token) → 0 < length xs → (front : List Token) × (x : Token) × (xs ≡ front ++ x ∷ [])
last_of [] h = absurd (omega arith)
last_of (x ∷ []) h = ([], x, refl)
last_of (x ∷ y ∷ xs) h = let w = last_of (y ∷ xs) (omega arith) in (x ∷ w.0, w.1, ap (λ (l : List Token). x ∷ l) w.2)

deep_place : (ts : List Token) (left : ℕ) → TooDeep start program_rules ts left → (at : Place) × StandsAt ts left at
deep_place ts left x =
    let w = taken start program_rules ts _ (x.front ++ x.depth ∷ []) x.reads in
    let n : length (x.front ++ x.depth ∷ []) ≡ length x.front + 1 = length-append x.front (x.depth ∷ []) in
    let v = last_of w.tokens (let m = w.many in omega arith) in
    let c : length ts ≡ length (x.front ++ x.depth ∷ []) + length x.rest = counted _ _ (x.front ++ x.depth ∷ []) x.reads in
    let d : length ts ≡ length w.tokens + length w.rest = ap length w.whole ∙ length-append w.tokens w.rest in (
      v.1.at,
      record {
        front = v.0;
        token = v.1;
        after = w.rest;
        whole = w.whole ∙ (ap (λ (l : List Token). l ++ w.rest) v.2 ∙ append_assoc v.0 (v.1 ∷ []) w.rest);
        count = (let k = x.count in let m = w.many in omega arith);
        place = refl;
      },
    )

bad_place : (ts : List Token) (left : ℕ) → (f : FirstBad ts left) → StandsAt ts left f.bad.at
bad_place ts left f = record { front = f.front; token = f.bad; after = f.after; whole = f.whole; count = f.count; place = refl }

-- ---- the syntax

abbrev ParsedOrRefused : List Token → Type 0
ParsedOrRefused ts = ((x : Tree) × IsProgram ts x) ⊎ ((r : Refusal) × Breaks ts r)

parsed : (ts : List Token) → ((x : Tree) × IsProgram ts x) ⊎ ((left : ℕ) × FirstBad ts left) ⊎ ((left : ℕ) × TooDeep start program_rules ts left)
    → ParsedOrRefused ts
parsed ts (inl x) = inl x
parsed ts (inr (inl b)) =
    inr (record { phase = phase.Syntax; rule = 1; at = b.1.bad.at }, record { phase = refl; left = b.0; place = bad_place ts b.0 b.1; rule = inl (refl, b.1) })
parsed ts (inr (inr d)) =
    let w = deep_place ts d.0 d.1 in
    inr (record { phase = phase.Syntax; rule = 2; at = w.0 }, record { phase = refl; left = d.0; place = w.1; rule = inr (refl, d.1) })

pub every_finished_text : (ts : List Token) → IsFinished ts → ParsedOrRefused ts
every_finished_text ts i = parsed ts (syntax.every_text ts i)

-- ---- the text

abbrev TreeOrRefused : List ℕ → Type 0
TreeOrRefused text = ((x : Tree) × IsTreeOf text x) ⊎ ((r : Refusal) × source.Breaks text (fault.Refused r))

module _ (text : List ℕ) where
  behind_macros : (ts : List Token) → Comes text ts → ParsedOrRefused ts → TreeOrRefused text
  behind_macros ts c (inl x) = inl (x.0, record { expanded = ts; comes = c; program = x.1 })
  behind_macros ts c (inr r) = inr (r.0, in_syntax ts c r.1)

  behind_cut : (ts : List Token) → Cut text ts → ((us : List Token) × Expanded ts us) ⊎ ((rule : ℕ) × (at : Place) × BreaksMacros ts rule at)
      → TreeOrRefused text
  behind_cut ts c (inl e) = behind_macros e.0 (record { tokens = ts; cut = c; expands = e.1 }) (every_finished_text e.0 (expanded_finished ts e.0 (cut_finished text ts c) e.1))
  behind_cut ts c (inr b) = inr (record { phase = phase.Macro; rule = b.0; at = b.1 }, in_macros ts c (refl, b.2))

  by_cut : ((ts : List Token) × Cut text ts) ⊎ ((rule : ℕ) × (at : Place) × BreaksLexRule text rule at) → TreeOrRefused text
  by_cut (inl c) = behind_cut c.0 c.1 (expansions.every_closed_text c.0 (cut_closed text c.0 c.1))
  by_cut (inr b) = inr (record { phase = phase.Lex; rule = b.0; at = b.1 }, in_text (refl, b.2))

pub every_text : (text : List ℕ) → TreeOrRefused text
every_text text = by_cut text (cuts.every_text text)
