-- A text breaks one rule of text, macros and syntax first, at one place.
use Rattle.std.proofs.Common.{◌≡◌, ℕ, List, sym, ◌∙◌, subst}
use Rattle.xmp_base.specs.declared.place.Place.{Place}
use Rattle.xmp_base.specs.declared.refusal.Refusal.{Refusal}
use Rattle.xmp_base.specs.declared.refusal.Fault.TheVariants as fault
use Rattle.xmp_lex.specs.declared.token.Token.{Token}
use Rattle.xmp_lex.specs.Cut.{Cut, BreaksLexRule}
use Rattle.xmp_lex.specs.Expand.{Expanded, BreaksMacros}
use Rattle.xmp_parse.specs.Faults as syntax
use Rattle.xmp_parse.proofs.OneBreak.{same_refusal}
use Rattle.xmp_source.specs.Source.{Comes, Breaks, in_text, in_macros, in_syntax}
use Rattle.xmp_source.proofs.Sources.{OneCut, OneExpansion, CutOrRefused, ExpandedOrRefused, one_text}

abbrev pub OneInText : Type 0
OneInText = (text : List ℕ) (rule other : ℕ) (at place : Place) → BreaksLexRule text rule at → BreaksLexRule text other place → (rule ≡ other) × (at ≡ place)

abbrev pub OneInMacros : Type 0
OneInMacros = (ts : List Token) (rule other : ℕ) (at place : Place) → BreaksMacros ts rule at → BreaksMacros ts other place → (rule ≡ other) × (at ≡ place)

abbrev pub OneInSyntax : Type 0
OneInSyntax = (ts : List Token) (r s : Refusal) → syntax.Breaks ts r → syntax.Breaks ts s → r ≡ s

-- the laws of the phases
pub record Laws : Type 0 where
  pub cut : OneCut
  pub expansion : OneExpansion
  pub in_text : OneInText
  pub in_macros : OneInMacros
  pub in_syntax : OneInSyntax
  pub cut_or_refused : CutOrRefused
  pub expanded_or_refused : ExpandedOrRefused

-- no text comes to tokens, and is refused in its macros
macros_or_tokens : Laws → (text : List ℕ) (ts us : List Token) (r : Refusal) → Cut text ts → BreaksMacros ts r.rule r.at → Comes text us → ⊥
macros_or_tokens l text ts us r u b v =
    let same : v.tokens ≡ ts = l.cut text v.tokens ts v.cut u in
    l.expanded_or_refused ts us r.rule r.at (subst (λ (xs : List Token). Expanded xs us) same v.expands) b

pub one_refusal : Laws → (text : List ℕ) (r s : Refusal) → Breaks text (fault.Refused r) → Breaks text (fault.Refused s) → r ≡ s
one_refusal l text r s (in_text b) (in_text d) =
    let w = l.in_text text r.rule s.rule r.at s.at b.1 d.1 in same_refusal r s (b.0 ∙ sym d.0) w.0 w.1
one_refusal l text r s (in_text b) (in_macros us v d) = absurd (l.cut_or_refused text us r.rule r.at v b.1)
one_refusal l text r s (in_text b) (in_syntax us v d) = absurd (l.cut_or_refused text v.tokens r.rule r.at v.cut b.1)
one_refusal l text r s (in_macros ts u b) (in_text d) = absurd (l.cut_or_refused text ts s.rule s.at u d.1)
one_refusal l text r s (in_macros ts u b) (in_macros us v d) =
    let there : BreaksMacros ts s.rule s.at = subst (λ (xs : List Token). BreaksMacros xs s.rule s.at) (l.cut text us ts v u) d.1 in
    let w = l.in_macros ts r.rule s.rule r.at s.at b.1 there in
    same_refusal r s (b.0 ∙ sym d.0) w.0 w.1
one_refusal l text r s (in_macros ts u b) (in_syntax us v d) = absurd (macros_or_tokens l text ts us r u b.1 v)
one_refusal l text r s (in_syntax ts u b) (in_text d) = absurd (l.cut_or_refused text u.tokens s.rule s.at u.cut d.1)
one_refusal l text r s (in_syntax ts u b) (in_macros us v d) = absurd (macros_or_tokens l text us ts s v d.1 u)
one_refusal l text r s (in_syntax ts u b) (in_syntax us v d) =
    l.in_syntax ts r s b (subst (λ (xs : List Token). syntax.Breaks xs s) (one_text l.cut l.expansion text us ts v u) d)
