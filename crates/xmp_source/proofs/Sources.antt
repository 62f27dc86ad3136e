-- A text has one tree at most, and is not refused beside it, by the same laws of its tokens.
use Rattle.std.proofs.Common.{◌≡◌, ◌∙◌, ℕ, List, [], sym, ap, subst, refl}
use Rattle.std.specs.Prelude.{Result, Ok, Err, IfErr}
use Rattle.xmp_base.specs.declared.place.Place.{Place}
use Rattle.xmp_base.specs.declared.refusal.Refusal.{Refusal}
use Rattle.xmp_base.specs.declared.refusal.Fault.{Fault}
use Rattle.xmp_base.specs.declared.refusal.Fault.TheVariants as fault
use Rattle.xmp_lex.specs.declared.token.Token.{Token}
use Rattle.xmp_lex.specs.Cut.{Cut, BreaksLexRule, IsRefused}
use Rattle.xmp_lex.specs.Expand.{Event, Expands, Expanded, BreaksMacros, IsMacroRefusal, tokens_of}
use Rattle.xmp_syntax.specs.declared.program.Tree.{Tree}
use Rattle.xmp_syntax.specs.Fits.{FitsTree}
use Rattle.xmp_syntax.specs.Spell.{tokens}
use Rattle.xmp_syntax.specs.Refused.{IsProgram}
use Rattle.xmp_parse.specs.Faults as syntax
use Rattle.xmp_source.specs.Source.{Comes, IsTreeOf, Breaks, in_text, in_macros, in_syntax, IsSourceFault}

abbrev pub OneCut : Type 0
OneCut = (text : List ℕ) (ts us : List Token) → Cut text ts → Cut text us → ts ≡ us

abbrev pub OneExpansion : Type 0
OneExpansion = (ts : List Token) (events others : List Event) → Expands [] ts events → Expands [] ts others → events ≡ others

abbrev pub SameTokens : Type 0
SameTokens = (x y : Tree) → FitsTree x → FitsTree y → tokens x ≡ tokens y → x ≡ y

-- tokens come to one list
one_result : OneExpansion → (ts us vs : List Token) → Expanded ts us → Expanded ts vs → us ≡ vs
one_result one ts us vs p q = p.result_is ∙ ap tokens_of (one ts p.events q.events p.expands q.expands) ∙ sym q.result_is

-- and so does a text
pub one_text : OneCut → OneExpansion → (text : List ℕ) (us vs : List Token) → Comes text us → Comes text vs → us ≡ vs
one_text cut one text us vs p q =
    let same : p.tokens ≡ q.tokens = cut text p.tokens q.tokens p.cut q.cut in
    let there : Expanded p.tokens vs = subst (λ ts. Expanded ts vs) (sym same) q.expands in
    one_result one p.tokens us vs p.expands there

pub one_tree : OneCut → OneExpansion → SameTokens → (text : List ℕ) (x y : Tree) → IsTreeOf text x → IsTreeOf text y → x ≡ y
one_tree cut one same text x y p q =
    let ts : p.expanded ≡ q.expanded = one_text cut one text p.expanded q.expanded p.comes q.comes in
    same x y p.program.fits q.program.fits (sym p.program.whole ∙ ts ∙ q.program.whole)

abbrev pub CutOrRefused : Type 0
CutOrRefused = (text : List ℕ) (ts : List Token) (rule : ℕ) (at : Place) → Cut text ts → BreaksLexRule text rule at → ⊥

abbrev pub ExpandedOrRefused : Type 0
ExpandedOrRefused = (ts us : List Token) (rule : ℕ) (at : Place) → Expanded ts us → BreaksMacros ts rule at → ⊥

abbrev pub NeverBoth : Type 0
NeverBoth = (ts : List Token) (x : Tree) (r : Refusal) → IsProgram ts x → syntax.Breaks ts r → ⊥

pub tree_or_refused : OneCut → OneExpansion → CutOrRefused → ExpandedOrRefused → NeverBoth → (text : List ℕ) (x : Tree) (r : Refusal)
    → IsTreeOf text x → Breaks text (fault.Refused r) → ⊥
tree_or_refused cut one c e d text x r p (in_text b) = c text p.comes.tokens r.rule r.at p.comes.cut b.1
tree_or_refused cut one c e d text x r p (in_macros ts u b) =
    let same : p.comes.tokens ≡ ts = cut text p.comes.tokens ts p.comes.cut u in
    e ts p.expanded r.rule r.at (subst (λ ts. Expanded ts p.expanded) same p.comes.expands) b.1
tree_or_refused cut one c e d text x r p (in_syntax us v b) =
    let same : p.expanded ≡ us = one_text cut one text p.expanded us p.comes v in
    d us x r (subst (λ ts. IsProgram ts x) same p.program) b

-- ---- faults

-- of a fault another thing is known too
pub err_map : {A E : Type 0} {P Q : E → Type 0} (r : Result A E) → ((e : E) → P e → Q e) → IfErr r P → IfErr r Q
err_map (Ok a) f h = tt
err_map (Err e) f h = f e h

pub text_fault : (text : List ℕ) (e : Fault) → IsRefused text e → IsSourceFault text e
text_fault text fault.NoMemory b = tt
text_fault text (fault.Refused r) b = in_text b

pub macro_fault : (text : List ℕ) (ts : List Token) (e : Fault) → Cut text ts → IsMacroRefusal ts e → IsSourceFault text e
macro_fault text ts fault.NoMemory u b = tt
macro_fault text ts (fault.Refused r) u b = in_macros ts u b

pub syntax_fault : (text : List ℕ) (ts : List Token) (e : Fault) → Comes text ts → syntax.IsFault ts e → IsSourceFault text e
syntax_fault text ts fault.NoMemory v b = tt
syntax_fault text ts (fault.Refused r) v b = in_syntax ts v b

-- a text with a tree is refused for want of memory alone
pub only_memory : (text : List ℕ) → ((r : Refusal) → Breaks text (fault.Refused r) → ⊥) → (e : Fault) → IsSourceFault text e → e ≡ fault.NoMemory
only_memory text never fault.NoMemory b = refl
only_memory text never (fault.Refused r) b = absurd (never r b)
