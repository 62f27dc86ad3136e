-- Where there is no verdict, no rule breaks.
use Rattle.std.proofs.Common.{◌≡◌, refl, ap, sym, Bool, true, false, List, Option, Some, None, [], ◌∷◌, cond, ◌∙◌, not}
use Rattle.std.specs.Prelude.{filter, if◌then◌else◌}
use Rattle.std.proofs.lemmas.Option.{none-some}
use Rattle.xmp_base.specs.declared.refusal.Refusal.{Refusal}
use Rattle.xmp_base.specs.First.{comes_first, first_of}
use Rattle.xmp_names.specs.declared.rules.Broken.{Broken}
use Rattle.xmp_names.specs.declared.world.World.{World}
use Rattle.xmp_mapping_rules.specs.MappingRules.{mapping_rules}
use Rattle.xmp_parts.specs.Verdict.{after_names, broken_in, first_in, is_of_names, refusal_of, verdict_of}
use Rattle.xmp_parts.proofs.Unbroken.{right_none}

one_is_first : (r : Refusal) (o : Option Refusal) → first_of (Some r) o ≡ None → ⊥
one_is_first r None h = absurd (cc)
one_is_first r (Some q) h = at (comes_first r q) h
  where
    at : (b : Bool) → (if b then Some r else Some q) ≡ None → ⊥
    at true e = none-some r (sym e)
    at false e = none-some q (sym e)

nothing_in : (bs : List Broken) → first_in bs ≡ None → bs ≡ []
nothing_in [] h = refl
nothing_in (b ∷ bs) h = absurd (one_is_first (refusal_of b) (first_in bs) h)

names_first : (o : Option Refusal) (bs : List Broken) → after_names o bs ≡ None → (o ≡ None) × (first_in bs ≡ None)
names_first None bs h = (refl, h)
names_first (Some r) bs h = absurd (none-some r (sym h))

full : (b : Broken) (bs : List Broken) → b ∷ bs ≡ [] → ⊥
full b bs h = cc

-- What neither passes a test nor fails it isn't there.
neither : (p : Broken → Bool) (bs : List Broken) → filter p bs ≡ [] → filter (λ b. not (p b)) bs ≡ [] → bs ≡ []
neither p [] h k = refl
neither p (b ∷ bs) h k = at (p b) refl
  where
    at : (t : Bool) → p b ≡ t → b ∷ bs ≡ []
    at true e = absurd (full b (filter p bs) (ap (λ t. cond t (b ∷ filter p bs) (filter p bs)) (sym e) ∙ h))
    at false e = absurd (full b (filter (λ x. not (p x)) bs) (ap (λ t. cond (not t) (b ∷ filter (λ x. not (p x)) bs) (filter (λ x. not (p x)) bs)) (sym e) ∙ k))

pub no_verdict : (bs : List Broken) → verdict_of bs ≡ None → bs ≡ []
no_verdict bs h =
    let both = names_first (first_in (filter (λ b. is_of_names b.rule) bs)) (filter (λ b. not (is_of_names b.rule)) bs) h in
    neither (λ b. is_of_names b.rule) bs (nothing_in _ both.0) (nothing_in _ both.1)

pub unbroken : (w : World) → verdict_of (broken_in w) ≡ None → mapping_rules w ≡ []
unbroken w h = right_none w.broken (mapping_rules w) (no_verdict (broken_in w) h)
