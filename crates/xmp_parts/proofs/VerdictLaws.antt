-- The verdict is the first rule of names that breaks, or, where none does, the first rule of mappings; and there is no other.
use Rattle.std.proofs.Common.{◌≡◌, ◌∙◌, refl, sym, ap, subst, arith, inl, inr, ⊎_elim, ℕ, Bool, true, false, List, [], ◌∷◌, Option, Some, None, cond, not}
use Rattle.std.specs.Prelude.{filter}
use Rattle.std.proofs.lemmas.Bool.Decides.{nat_tests}
use Rattle.xmp_base.specs.First.{comes_first, IsFirst}
use Rattle.xmp_base.specs.declared.refusal.Fault.{Fault}
use Rattle.xmp_base.specs.declared.refusal.Fault.TheVariants.{Refused, NoMemory}
use Rattle.xmp_base.specs.declared.refusal.Refusal.{Refusal}
use Rattle.xmp_syntax.specs.declared.program.Tree.{Tree}
use Rattle.xmp_names.specs.declared.rules.Broken.{Broken}
use Rattle.xmp_parts.specs.Parts.{RefusedBy}
use Rattle.xmp_parts.specs.Verdict.{IsIn, refusal_of, is_of_names, phase_in, first_in, of_names, of_mappings, broken_rules, BreaksNames, BreaksMappings, IsVerdictIn, IsVerdict, IsFaultOf, after_names, verdict}
use Rattle.xmp_parts.proofs.Firsts.{first_is, in_either}

-- ---- the verdict is one

second : (N M : Refusal → Type 0) (b : Option Refusal) → IsFirst N None → IsFirst M b → IsVerdictIn N M b
second N M (Some r) f g = inr (f, g)
second N M None f g = (f, g)

is_verdict : (N : Refusal → Type 0) (ms : List Broken) (a : Option Refusal) → IsFirst N a → IsVerdictIn N (IsIn ms) (after_names a ms)
is_verdict N ms (Some r) f = inl f
is_verdict N ms None f = second N (IsIn ms) (first_in ms) f (first_is ms)

pub verdict_is : (t : Tree) (given : Option ℕ) → IsVerdict t given (verdict t given)
verdict_is t given = is_verdict (BreaksNames t given) (of_mappings (broken_rules t given)) (first_in (of_names (broken_rules t given))) (first_is (of_names (broken_rules t given)))

pub none_breaks : (t : Tree) (given : Option ℕ) → verdict t given ≡ None → IsVerdict t given None
none_breaks t given e = subst (λ o. IsVerdict t given o) e (verdict_is t given)

pub fault_is : (t : Tree) (given : Option ℕ) (e : Fault) → RefusedBy (verdict t given) e → IsFaultOf t given e
fault_is t given (Refused r) e = subst (λ o. IsVerdict t given o) e (verdict_is t given)
fault_is t given NoMemory e = tt

-- ---- there is no other

-- Two refusals of one phase each of which comes first are the same.
same_refusal : (a b : Refusal) → a.phase ≡ b.phase → comes_first a b ≡ true → comes_first b a ≡ true → a ≡ b
same_refusal a b p h k =
    let line : a.at.line ≡ b.at.line = grind (arith, nat_tests) in
    let column : a.at.column ≡ b.at.column = grind (arith, nat_tests) in
    let rule : a.rule ≡ b.rule = grind (arith, nat_tests) in
    λ i. record { phase = p i; rule = rule i; at = record { line = line i; column = column i } }

-- All refusals that are asked for are of one phase.
abbrev OfOnePhase : (Refusal → Type 0) → Type 0
OfOnePhase P = (a b : Refusal) → P a → P b → a.phase ≡ b.phase

one_first : (P : Refusal → Type 0) → OfOnePhase P → (a b : Refusal) → IsFirst P (Some a) → IsFirst P (Some b) → a ≡ b
one_first P one a b f g = same_refusal a b (one a b f.0 g.0) (f.1 b g.0) (g.1 a f.0)

one_verdict : (N M : Refusal → Type 0) → OfOnePhase N → OfOnePhase M → (a b : Option Refusal) → IsVerdictIn N M a → IsVerdictIn N M b → a ≡ b
one_verdict N M n m None None h k = refl
one_verdict N M n m None (Some b) h (inl k) = absurd (h.0 b k.0)
one_verdict N M n m None (Some b) h (inr k) = absurd (h.1 b k.1.0)
one_verdict N M n m (Some a) None (inl h) k = absurd (k.0 a h.0)
one_verdict N M n m (Some a) None (inr h) k = absurd (k.1 a h.1.0)
one_verdict N M n m (Some a) (Some b) (inl h) (inl k) = ap Some (one_first N n a b h k)
one_verdict N M n m (Some a) (Some b) (inl h) (inr k) = absurd (k.0 a h.0)
one_verdict N M n m (Some a) (Some b) (inr h) (inl k) = absurd (h.0 b k.0)
one_verdict N M n m (Some a) (Some b) (inr h) (inr k) = ap Some (one_first M m a b h.1 k.1)

-- A refusal of those that pass a test is that of a broken rule that passes it.
passes : (p : Broken → Bool) (bs : List Broken) (r : Refusal) → IsIn (filter p bs) r → (b : Broken) × (p b ≡ true) × (r ≡ refusal_of b)
passes p [] r s = absurd (omega (arith, s.2))
passes p (b ∷ bs) r s = at (λ q. passes p bs r q) (p b) refl s
  where
    at : (IsIn (filter p bs) r → (x : Broken) × (p x ≡ true) × (r ≡ refusal_of x)) → (t : Bool) → p b ≡ t → IsIn (cond t (b ∷ filter p bs) (filter p bs)) r →
        (x : Broken) × (p x ≡ true) × (r ≡ refusal_of x)
    at more true e q = ⊎_elim (λ is. (b, e, is)) more (in_either r b (filter p bs) q)
    at more false e q = more q

names_phase : (bs : List Broken) → OfOnePhase (IsIn (of_names bs))
names_phase bs a b h k =
    let x = passes (λ c. is_of_names c.rule) bs a h in
    let y = passes (λ c. is_of_names c.rule) bs b k in
    ap (λ c. c.phase) x.2 ∙ (ap phase_in (x.1 ∙ sym y.1) ∙ sym (ap (λ c. c.phase) y.2))

is_false : (b : Bool) → not b ≡ true → b ≡ false
is_false false e = refl
is_false true e = sym e

mappings_phase : (bs : List Broken) → OfOnePhase (IsIn (of_mappings bs))
mappings_phase bs a b h k =
    let x = passes (λ c. not (is_of_names c.rule)) bs a h in
    let y = passes (λ c. not (is_of_names c.rule)) bs b k in
    ap (λ c. c.phase) x.2 ∙ (ap phase_in (is_false _ x.1 ∙ sym (is_false _ y.1)) ∙ sym (ap (λ c. c.phase) y.2))

pub verdict_alone : (t : Tree) (given : Option ℕ) (found : Option Refusal) → IsVerdict t given found → found ≡ verdict t given
verdict_alone t given found h =
    one_verdict (BreaksNames t given) (BreaksMappings t given) (names_phase (broken_rules t given)) (mappings_phase (broken_rules t given)) found (verdict t given) h (verdict_is t given)
