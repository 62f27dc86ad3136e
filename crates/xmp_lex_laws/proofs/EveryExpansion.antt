-- Closed tokens are expanded, or a rule of macros breaks.
use Rattle.std.proofs.Common.{◌≡◌, ◌++◌, ◌⊎◌, inl, inr, ℕ, true, List, [], ◌∷◌, length, subst, sym, ◌∙◌, refl, arith, append_assoc, append-nil, length-append}
use Rattle.std.proofs.lemmas.Bool.{cases_eq}
use Rattle.std.proofs.lemmas.List.Elements.{All-nil, All-cons, All-append}
use Rattle.xmp_base.specs.Limits.{token_limit}
use Rattle.xmp_base.specs.declared.place.Place.{Place}
use Rattle.xmp_lex.specs.declared.token.Token.{Token}
use Rattle.xmp_lex.specs.Lines.{IsClosed}
use Rattle.xmp_lex.specs.Expand.{Event, Expands, out, used, again, counts, place_of, IsFine, BreaksMacroRule, twice, too_many, Expanded, BreaksMacros, tokens_of}
use Rattle.xmp_lex.proofs.ExpandLemmas.{some_text}
use Rattle.xmp_lex_laws.proofs.Searches.{Decided}

abbrev Judged : List Event → Type 0
Judged es = IsFine es ⊎ ((rule : ℕ) × (at : Place) × BreaksMacroRule es rule at)

module _ (es : List Event) where
  -- an event that counts, behind events that break no rule
  counted : (before after : List Event) (e : Event) → es ≡ before ++ e ∷ after → IsFine before → counts e ≡ true
      → Decided (length before ≡ token_limit)
      → (es ≡ (before ++ e ∷ []) ++ after → IsFine (before ++ e ∷ []) → Judged es) → Judged es
  counted before after e h f c (inl q) on = inr (2, place_of e, too_many before after e h c f q)
  counted before after e h f c (inr q) on = on (h ∙ sym (append_assoc before (e ∷ []) after)) (record {
    once = All-append (λ x. counts x ≡ true) before (e ∷ []) f.once (All-cons (λ x. counts x ≡ true) e [] c (All-nil (λ x. counts x ≡ true)));
    few = (let w = f.few in omega (arith, length-append before (e ∷ [])));
  })

  behind : (before after : List Event) → es ≡ before ++ after → IsFine before → Judged es
  behind before [] h f = inl (subst IsFine (sym (h ∙ append-nil before)) f)
  behind before (again at ∷ after) h f = inr (1, at, twice before after at h f)
  behind before (out x ∷ after) h f = counted before after (out x) h f refl (cases_eq (length before) token_limit) (λ q g. behind (before ++ out x ∷ []) after q g)
  behind before (used at ∷ after) h f = counted before after (used at) h f refl (cases_eq (length before) token_limit) (λ q g. behind (before ++ used at ∷ []) after q g)

abbrev ExpandedOrRefused : List Token → Type 0
ExpandedOrRefused tokens = ((result : List Token) × Expanded tokens result) ⊎ ((rule : ℕ) × (at : Place) × BreaksMacros tokens rule at)

judged : (tokens : List Token) (es : List Event) → Expands [] tokens es → Judged es → ExpandedOrRefused tokens
judged tokens es e (inl f) = inl (tokens_of es, record { events = es; expands = e; fine = f; result_is = refl })
judged tokens es e (inr b) = inr (b.0, b.1, record { events = es; expands = e; breaks = b.2 })

pub every_closed_text : (tokens : List Token) → IsClosed tokens → ExpandedOrRefused tokens
every_closed_text tokens c =
    let x = some_text tokens c in
    judged tokens x.0 x.1 (behind x.0 [] x.0 refl (record { once = All-nil (λ e. counts e ≡ true); few = omega arith }))
