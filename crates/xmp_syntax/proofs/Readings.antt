-- Readings of the same tokens agree: of one place, and of the tokens before a bad one.
use Rattle.std.proofs.Common.{◌≡◌, ◌+◌, ℕ, suc, List, [], ◌∷◌, ◌++◌, length, refl, sym, ap, ◌∙◌, subst, append_assoc, arith}
use Rattle.std.proofs.lemmas.List.{length-append}
use Rattle.xmp_lex.specs.declared.token.Token.{Token}
use Rattle.xmp_syntax.specs.Reading.{Rule, Depths, State, reading, goes, step, Reads, here, onward}
use Rattle.xmp_syntax.specs.Grammar.{rule}
use Rattle.xmp_syntax.specs.Refused.{Begins}
use Rattle.xmp_syntax.specs.Steps.{Local, no_token, one_token, two_tokens, local, begins_nothing}

abbrev pub left_at : State → List Token
left_at (reading D K ts) = ts

-- ---- from one place

-- one of two lists is the front of the other
pub data Fronts (ds es : List ℕ) : Type 0 where
  first : (fs : List ℕ) → es ≡ ds ++ fs → Fronts ds es
  second : (fs : List ℕ) → ds ≡ es ++ fs → Fronts ds es

behind_both : (as' ds es : List ℕ) → Fronts ds es → Fronts (as' ++ ds) (as' ++ es)
behind_both as' ds es (first fs q) = first fs (ap (λ (l : List ℕ). as' ++ l) q ∙ sym (append_assoc as' ds fs))
behind_both as' ds es (second fs q) = second fs (ap (λ (l : List ℕ). as' ++ l) q ∙ sym (append_assoc as' es fs))

-- of two readings from one place one goes on where the other ends
pub one_way : (s u v : State) (ds es : List ℕ) → Reads rule s ds u → Reads rule s es v → Fronts ds es
one_way s u v ds es here q = first es refl
one_way s u v ds es r here = second ds refl
one_way s u v ds es (onward {t = x} {ds = as'} {es = bs} e r) (onward {t = y} {ds = cs} {es = fs} f q) =
    let z : goes as' x ≡ goes cs y = sym e ∙ f in
    let a : as' ≡ cs = cc in
    let b : y ≡ x = cc in
    subst (λ (l : List ℕ). Fronts (as' ++ bs) (l ++ fs)) a
    (behind_both as' bs fs (one_way x u v bs fs r (subst (λ (w : State). Reads rule w fs v) b q)))

-- ---- how many tokens are read

tokens_counted : (D : Depths) (K : List Rule) (ts : List Token) (ds : List ℕ) (E : Depths) (M : List Rule) (us : List Token)
    → Local D K ts ds E M us → length ts ≡ length ds + length us
tokens_counted D K ts ds E M us (no_token k vs q v n h) =
    let a : length ts ≡ length us = ap length (q ∙ sym v) in
    let b : length ds ≡ 0 = ap length n in
    omega (arith, a, b)
tokens_counted D K ts ds E M us (one_token k d q n h) =
    let a : length ts ≡ suc (length us) = ap length q in
    let b : length ds ≡ 1 = ap length n in
    omega (arith, a, b)
tokens_counted D K ts ds E M us (two_tokens k j d e q n h) =
    let a : length ts ≡ suc (suc (length us)) = ap length q in
    let b : length ds ≡ 2 = ap length n in
    omega (arith, a, b)

-- a reading leaves the tokens for which it gives no depth
pub counted : (s u : State) (ds : List ℕ) → Reads rule s ds u → length (left_at s) ≡ length ds + length (left_at u)
counted s u ds here = omega arith
counted (reading D K ts) u ds (onward {t = reading E M us} {ds = as'} {es = bs} e r) =
    let a : length ts ≡ length as' + length us = tokens_counted D K ts as' E M us (local D K ts as' E M us e) in
    let b : length us ≡ length bs + length (left_at u) = counted (reading E M us) u bs r in
    let c : length (as' ++ bs) ≡ length as' + length bs = length-append as' bs in
    omega (arith, a, b, c)

-- ---- the tokens that are read begin the rules

-- the tokens that a reading takes, as many as it gives depths
pub record Taken (D : Depths) (K : List Rule) (ts : List Token) (ds : List ℕ) : Type 0 where
  pub tokens : List Token
  pub rest : List Token
  pub whole : ts ≡ tokens ++ rest
  pub many : length tokens ≡ length ds
  pub begins : Begins D K tokens

before_step : (D : Depths) (K : List Rule) (ts : List Token) (ds : List ℕ) (E : Depths) (M : List Rule) (us : List Token)
    → step rule (reading D K ts) ≡ goes ds (reading E M us) → Begins E M us → Begins D K ts
before_step D K ts ds E M us e b = record { depths = ds ++ b.depths; now = b.now; left = b.left; reads = onward e b.reads }

taken_silent : (D : Depths) (K : List Rule) (k : Token) (vs : List Token) (E : Depths) (M : List Rule)
    → ((f rest : List Token) → vs ≡ f ++ rest → step rule (reading D K (k ∷ f)) ≡ goes [] (reading E M (k ∷ f)))
    → (xs rest : List Token) → k ∷ vs ≡ xs ++ rest → Begins E M xs → Begins D K xs
taken_silent D K k vs E M h [] rest q b = begins_nothing D K
taken_silent D K k vs E M h (x ∷ xs) rest q b =
    let a : x ≡ k = cc in
    let z : vs ≡ xs ++ rest = cc in
    subst (λ (y : Token). Begins D K (y ∷ xs)) (sym a)
    (before_step D K (k ∷ xs) [] E M (k ∷ xs) (h xs rest z) (subst (λ (y : Token). Begins E M (y ∷ xs)) a b))

taken_step : (D : Depths) (K : List Rule) (ts : List Token) (ds : List ℕ) (E : Depths) (M : List Rule) (us : List Token) (es : List ℕ)
    → Local D K ts ds E M us → Taken E M us es → Taken D K ts (ds ++ es)
taken_step D K ts ds E M us es (no_token k vs q v n h) x = record {
  tokens = x.tokens;
  rest = x.rest;
  whole = q ∙ (sym v ∙ x.whole);
  many = x.many ∙ sym (ap (λ (l : List ℕ). length (l ++ es)) n);
  begins = taken_silent D K k vs E M (λ f rest z. subst (λ (l : List ℕ). step rule (reading D K (k ∷ f)) ≡ goes l (reading E M (k ∷ f))) n (h f rest z))
      x.tokens x.rest (sym v ∙ x.whole) x.begins;
}
taken_step D K ts ds E M us es (one_token k d q n h) x = record {
  tokens = k ∷ x.tokens;
  rest = x.rest;
  whole = q ∙ ap (λ (l : List Token). k ∷ l) x.whole;
  many = ap suc x.many ∙ sym (ap (λ (l : List ℕ). length (l ++ es)) n);
  begins = before_step D K (k ∷ x.tokens) ds E M x.tokens (h x.tokens) x.begins;
}
taken_step D K ts ds E M us es (two_tokens k j d e q n h) x = record {
  tokens = k ∷ j ∷ x.tokens;
  rest = x.rest;
  whole = q ∙ ap (λ (l : List Token). k ∷ j ∷ l) x.whole;
  many = ap (λ (m : ℕ). suc (suc m)) x.many ∙ sym (ap (λ (l : List ℕ). length (l ++ es)) n);
  begins = before_step D K (k ∷ j ∷ x.tokens) ds E M x.tokens (h x.tokens) x.begins;
}

-- what a reading takes begins the rules
pub taken : (D : Depths) (K : List Rule) (ts : List Token) (u : State) (ds : List ℕ) → Reads rule (reading D K ts) ds u → Taken D K ts ds
taken D K ts u ds here = record { tokens = []; rest = ts; whole = refl; many = refl; begins = begins_nothing D K }
taken D K ts u ds (onward {t = reading E M us} {ds = as'} {es = bs} e r) =
    taken_step D K ts as' E M us bs (local D K ts as' E M us e) (taken E M us u bs r)

-- ---- the tokens before a bad one

-- The bad token begins the rules with those before it and some behind it; or a reading gives no depth but of those before it.
pub data Agrees (D : Depths) (K : List Rule) (front : List Token) (bad : Token) (after : List Token) (ds es : List ℕ) : Type 0 where
  with_bad : (more rest : List Token) → after ≡ more ++ rest → Begins D K (front ++ bad ∷ more) → Agrees D K front bad after ds es
  inside : (fs : List ℕ) → ds ≡ es ++ fs → Agrees D K front bad after ds es

-- a step from a place at which a reading doesn't end is its first
first_step : (s u t : State) (ds as' : List ℕ) → Reads rule s ds u → step rule s ≡ goes as' t → (s ≡ u → ⊥)
    → (bs : List ℕ) × (ds ≡ as' ++ bs) × Reads rule t bs u
first_step s u t ds as' here e n = absurd (n refl)
first_step s u t ds as' (onward {t = x} {ds = cs} {es = bs} f r) e n =
    let z : goes cs x ≡ goes as' t = sym f ∙ e in
    let a : cs ≡ as' = cc in
    let b : x ≡ t = cc in
    (bs, ap (λ (l : List ℕ). l ++ bs) a, subst (λ (w : State). Reads rule w bs u) b r)

some_left : (D E : Depths) (K M : List Rule) (x : Token) (xs : List Token) → reading D K (x ∷ xs) ≡ reading E M [] → ⊥
some_left D E K M x xs q = cc

-- a reading that begins at the bad token takes it, or none
at_bad : (D : Depths) (K : List Rule) (bad : Token) (after : List Token) (ds es : List ℕ) → Taken D K (bad ∷ after) es → Agrees D K [] bad after ds es
at_bad D K bad after ds es x = by_tokens x.tokens x.whole x.many x.begins
  where
    by_tokens : (xs : List Token) → bad ∷ after ≡ xs ++ x.rest → length xs ≡ length es → Begins D K xs → Agrees D K [] bad after ds es
    by_tokens [] q n b = inside ds (no_depths es n)
      where
        no_depths : (l : List ℕ) → 0 ≡ length l → ds ≡ l ++ ds
        no_depths [] m = refl
        no_depths (y ∷ l) m = cc
    by_tokens (y ∷ xs) q n b =
        let a : y ≡ bad = cc in
        let z : after ≡ xs ++ x.rest = cc in
        with_bad xs x.rest z (subst (λ (w : Token). Begins D K (w ∷ xs)) a b)

-- ---- one step more, before what agrees behind it

agrees_silent : (D : Depths) (K : List Rule) (k : Token) (vs : List Token) (E : Depths) (M : List Rule) (front : List Token) (bad : Token) (after : List Token)
    (ds bs es : List ℕ)
    → ((f rest : List Token) → vs ≡ f ++ rest → step rule (reading D K (k ∷ f)) ≡ goes [] (reading E M (k ∷ f)))
    → vs ≡ front ++ bad ∷ after → ds ≡ bs → Agrees E M (k ∷ front) bad after bs es → Agrees D K (k ∷ front) bad after ds es
agrees_silent D K k vs E M front bad after ds bs es h q w (with_bad more rest z b) =
    let c : vs ≡ (front ++ bad ∷ more) ++ rest = q ∙ (ap (λ (l : List Token). front ++ bad ∷ l) z ∙ sym (append_assoc front (bad ∷ more) rest)) in
    with_bad more rest z (before_step D K (k ∷ front ++ bad ∷ more) [] E M (k ∷ front ++ bad ∷ more) (h (front ++ bad ∷ more) rest c) b)
agrees_silent D K k vs E M front bad after ds bs es h q w (inside fs z) = inside fs (w ∙ z)

-- the depths that a step gives before both
more_depths : (as' ds bs es fs : List ℕ) → ds ≡ as' ++ bs → bs ≡ es ++ fs → ds ≡ (as' ++ es) ++ fs
more_depths as' ds bs es fs w z = w ∙ (ap (λ (l : List ℕ). as' ++ l) z ∙ sym (append_assoc as' es fs))

agrees_one : (D : Depths) (K : List Rule) (k : Token) (as' : List ℕ) (E : Depths) (M : List Rule) (front : List Token) (bad : Token) (after : List Token)
    (ds bs es : List ℕ) → ((f : List Token) → step rule (reading D K (k ∷ f)) ≡ goes as' (reading E M f))
    → ds ≡ as' ++ bs → Agrees E M front bad after bs es → Agrees D K (k ∷ front) bad after ds (as' ++ es)
agrees_one D K k as' E M front bad after ds bs es h w (with_bad more rest z b) =
    with_bad more rest z (before_step D K (k ∷ front ++ bad ∷ more) as' E M (front ++ bad ∷ more) (h (front ++ bad ∷ more)) b)
agrees_one D K k as' E M front bad after ds bs es h w (inside fs z) = inside fs (more_depths as' ds bs es fs w z)

agrees_two : (D : Depths) (K : List Rule) (k j : Token) (as' : List ℕ) (E : Depths) (M : List Rule) (front : List Token) (bad : Token) (after : List Token)
    (ds bs es : List ℕ) → ((f : List Token) → step rule (reading D K (k ∷ j ∷ f)) ≡ goes as' (reading E M f))
    → ds ≡ as' ++ bs → Agrees E M front bad after bs es → Agrees D K (k ∷ j ∷ front) bad after ds (as' ++ es)
agrees_two D K k j as' E M front bad after ds bs es h w (with_bad more rest z b) =
    with_bad more rest z (before_step D K (k ∷ j ∷ front ++ bad ∷ more) as' E M (front ++ bad ∷ more) (h (front ++ bad ∷ more)) b)
agrees_two D K k j as' E M front bad after ds bs es h w (inside fs z) = inside fs (more_depths as' ds bs es fs w z)

-- ---- two readings, of all tokens and of those before the bad one

-- what agrees behind a step, with any reading of the tokens before the bad one
abbrev Behind : Depths → List Rule → List Token → List ℕ → Type 0
Behind E M us es = (front : List Token) (bad : Token) (after : List Token) → us ≡ front ++ bad ∷ after
    → (ds : List ℕ) (F : Depths) (L : List Rule) → Reads rule (reading E M front) ds (reading F L []) → Agrees E M front bad after ds es

agrees_step : (D : Depths) (K : List Rule) (ts : List Token) (as' : List ℕ) (E : Depths) (M : List Rule) (us : List Token) (es : List ℕ)
    → Local D K ts as' E M us → Behind E M us es → (x : Token) (front : List Token) (bad : Token) (after : List Token) → ts ≡ x ∷ front ++ bad ∷ after
    → (ds : List ℕ) (F : Depths) (L : List Rule) → Reads rule (reading D K (x ∷ front)) ds (reading F L []) → Agrees D K (x ∷ front) bad after ds (as' ++ es)
agrees_step D K ts as' E M us es (no_token k vs q v n h) g x front bad after p ds F L r =
    let a : k ∷ vs ≡ x ∷ front ++ bad ∷ after = sym q ∙ p in
    let b : k ≡ x = cc in
    let c : vs ≡ front ++ bad ∷ after = cc in
    let silent : (f rest : List Token) → vs ≡ f ++ rest → step rule (reading D K (k ∷ f)) ≡ goes [] (reading E M (k ∷ f)) =
    (λ f rest z. subst (λ (l : List ℕ). step rule (reading D K (k ∷ f)) ≡ goes l (reading E M (k ∷ f))) n (h f rest z)) in
    let here' : Reads rule (reading D K (k ∷ front)) ds (reading F L []) =
    subst (λ (y : Token). Reads rule (reading D K (y ∷ front)) ds (reading F L [])) (sym b) r in
    let w = first_step _ _ (reading E M (k ∷ front)) ds [] here' (silent front (bad ∷ after) c) (some_left D F K L k front) in
    let t : Agrees D K (k ∷ front) bad after ds es =
    agrees_silent D K k vs E M front bad after ds w.0 es silent c w.1
    (g (k ∷ front) bad after (v ∙ ap (λ (l : List Token). k ∷ l) c) w.0 F L w.2) in
    subst (λ (l : List ℕ). Agrees D K (x ∷ front) bad after ds (l ++ es)) (sym n) (subst (λ (y : Token). Agrees D K (y ∷ front) bad after ds es) b t)
agrees_step D K ts as' E M us es (one_token k d q n h) g x front bad after p ds F L r =
    let a : k ∷ us ≡ x ∷ front ++ bad ∷ after = sym q ∙ p in
    let b : k ≡ x = cc in
    let c : us ≡ front ++ bad ∷ after = cc in
    let here' : Reads rule (reading D K (k ∷ front)) ds (reading F L []) =
    subst (λ (y : Token). Reads rule (reading D K (y ∷ front)) ds (reading F L [])) (sym b) r in
    let w = first_step _ _ (reading E M front) ds as' here' (h front) (some_left D F K L k front) in
    subst (λ (y : Token). Agrees D K (y ∷ front) bad after ds (as' ++ es)) b
    (agrees_one D K k as' E M front bad after ds w.0 es h w.1 (g front bad after c w.0 F L w.2))
agrees_step D K ts as' E M us es (two_tokens k j d e q n h) g x [] bad after p ds F L r =
    let a : k ∷ j ∷ us ≡ x ∷ bad ∷ after = sym q ∙ p in
    let b : k ≡ x = cc in
    let c : j ≡ bad = cc in
    with_bad [] after refl (subst (λ (y : Token). Begins D K (y ∷ bad ∷ [])) b (subst (λ (y : Token). Begins D K (k ∷ y ∷ [])) c
    (before_step D K (k ∷ j ∷ []) as' E M [] (h []) (begins_nothing E M))))
agrees_step D K ts as' E M us es (two_tokens k j d e q n h) g x (y ∷ front) bad after p ds F L r =
    let a : k ∷ j ∷ us ≡ x ∷ y ∷ front ++ bad ∷ after = sym q ∙ p in
    let b : k ≡ x = cc in
    let c : j ≡ y = cc in
    let o : us ≡ front ++ bad ∷ after = cc in
    let here' : Reads rule (reading D K (k ∷ j ∷ front)) ds (reading F L []) =
    subst (λ (v : Token). Reads rule (reading D K (v ∷ j ∷ front)) ds (reading F L [])) (sym b)
    (subst (λ (v : Token). Reads rule (reading D K (x ∷ v ∷ front)) ds (reading F L [])) (sym c) r) in
    let w = first_step _ _ (reading E M front) ds as' here' (h front) (some_left D F K L k (j ∷ front)) in
    subst (λ (v : Token). Agrees D K (v ∷ y ∷ front) bad after ds (as' ++ es)) b (subst (λ (v : Token). Agrees D K (k ∷ v ∷ front) bad after ds (as' ++ es)) c
    (agrees_two D K k j as' E M front bad after ds w.0 es h w.1 (g front bad after o w.0 F L w.2)))

-- A reading of tokens, and one of those before the bad one to their end, agree.
pub agree : (D : Depths) (K : List Rule) (ts : List Token) (u : State) (es : List ℕ) → Reads rule (reading D K ts) es u → Behind D K ts es
agree D K ts u es here front bad after p ds F L q = inside ds refl
agree D K ts u es r [] bad after p ds F L q =
    at_bad D K bad after ds es (subst (λ (l : List Token). Taken D K l es) p (taken D K ts u es r))
agree D K ts u es (onward {t = reading E M us} {ds = as'} {es = bs} e r) (x ∷ front) bad after p ds F L q =
    agrees_step D K ts as' E M us bs (local D K ts as' E M us e) (λ f b a z es' G N t. agree E M us u bs r f b a z es' G N t) x front bad after p ds F L q
