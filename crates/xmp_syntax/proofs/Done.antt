-- Readings to the end of the tokens, built from their end.
use Rattle.std.proofs.Common.{◌≡◌, ℕ, zero, suc, Bool, true, false, cond, List, [], ◌∷◌, ◌++◌, refl, sym, ap, ◌∙◌, subst}
use Rattle.std.specs.Prelude.{◌&&◌, ⊤}
use Rattle.xmp_lex.specs.declared.token.Token.{Token}
use Rattle.xmp_lex.specs.declared.token.TokenKind.{TokenKind}
use Rattle.xmp_syntax.specs.Reading.{Test, Effect, opening, Rule, nothing, tok, mark, part, by, ◌·◌, choice, many, pair, Depths, now, behind, State, reading, Step, goes, halts, step, pair_step, Reads, here, onward}
use Rattle.xmp_syntax.specs.Parts.{Part}
use Rattle.xmp_syntax.specs.Grammar.{rule, optional}
use Rattle.xmp_syntax.specs.Refused.{Begins}
use Rattle.xmp_syntax.specs.Steps.{Local, no_token, one_token, two_tokens, local, begins_nothing}

-- The rules are read to the end of the tokens, and each front of the tokens begins a spelling of the rules.
pub record Done (D : Depths) (K : List Rule) (ts : List Token) : Type 0 where
  pub depths : List ℕ
  pub now : Depths
  pub reads : Reads rule (reading D K ts) depths (reading now [] [])
  pub fronts : (f rest : List Token) → ts ≡ f ++ rest → Begins D K f

-- the same at any depths
pub record Next (K : List Rule) (ts : List Token) : Type 0 where
  pub from : (D : Depths) → Done D K ts

abbrev pub DoneAt : State → Type 0
DoneAt (reading D K ts) = Done D K ts

pub begins_step : (D : Depths) (K : List Rule) (ts : List Token) (ds : List ℕ) (E : Depths) (M : List Rule) (us : List Token)
    → step rule (reading D K ts) ≡ goes ds (reading E M us) → Begins E M us → Begins D K ts
begins_step D K ts ds E M us e b = record { depths = ds ++ b.depths; now = b.now; left = b.left; reads = onward e b.reads }

pub fronts_silent : (D : Depths) (K : List Rule) (t : Token) (vs : List Token) (ds : List ℕ) (E : Depths) (M : List Rule)
    → ((f rest : List Token) → vs ≡ f ++ rest → step rule (reading D K (t ∷ f)) ≡ goes ds (reading E M (t ∷ f)))
    → ((f rest : List Token) → t ∷ vs ≡ f ++ rest → Begins E M f) → (f rest : List Token) → t ∷ vs ≡ f ++ rest → Begins D K f
fronts_silent D K t vs ds E M h g [] rest w = begins_nothing D K
fronts_silent D K t vs ds E M h g (x ∷ f) rest w =
    let q : t ≡ x = cc in
    let z : vs ≡ f ++ rest = cc in
    subst (λ (y : Token). Begins D K (y ∷ f)) q (begins_step D K (t ∷ f) ds E M (t ∷ f) (h f rest z) (g (t ∷ f) rest (ap (λ l. t ∷ l) z)))

pub fronts_one : (D : Depths) (K : List Rule) (t : Token) (us : List Token) (ds : List ℕ) (E : Depths) (M : List Rule)
    → ((f : List Token) → step rule (reading D K (t ∷ f)) ≡ goes ds (reading E M f))
    → ((f rest : List Token) → us ≡ f ++ rest → Begins E M f) → (f rest : List Token) → t ∷ us ≡ f ++ rest → Begins D K f
fronts_one D K t us ds E M h g [] rest w = begins_nothing D K
fronts_one D K t us ds E M h g (x ∷ f) rest w =
    let q : t ≡ x = cc in
    let z : us ≡ f ++ rest = cc in
    subst (λ (y : Token). Begins D K (y ∷ f)) q (begins_step D K (t ∷ f) ds E M f (h f) (g f rest z))

pub fronts_two : (D : Depths) (K : List Rule) (t u : Token) (us : List Token) (ds : List ℕ) (E : Depths) (M : List Rule)
    → ((f : List Token) → step rule (reading D K (t ∷ u ∷ f)) ≡ goes ds (reading E M f)) → Begins D K (t ∷ [])
    → ((f rest : List Token) → us ≡ f ++ rest → Begins E M f) → (f rest : List Token) → t ∷ u ∷ us ≡ f ++ rest → Begins D K f
fronts_two D K t u us ds E M h b g [] rest w = begins_nothing D K
fronts_two D K t u us ds E M h b g (x ∷ []) rest w = let q : t ≡ x = cc in subst (λ (y : Token). Begins D K (y ∷ [])) q b
fronts_two D K t u us ds E M h b g (x ∷ y ∷ f) rest w =
    let q : t ≡ x = cc in
    let k : u ≡ y = cc in
    let z : us ≡ f ++ rest = cc in
    subst (λ (v : Token). Begins D K (v ∷ y ∷ f)) q (subst (λ (v : Token). Begins D K (t ∷ v ∷ f)) k (begins_step D K (t ∷ u ∷ f) ds E M f (h f) (g f rest z)))

-- what a step may read here
abbrev Short : List ℕ → Type 0
Short [] = ⊤
Short (d ∷ []) = ⊤
Short (d ∷ e ∷ ds) = ⊥

fronts_of : (D : Depths) (K : List Rule) (ts : List Token) (ds : List ℕ) (E : Depths) (M : List Rule) (us : List Token)
    → Local D K ts ds E M us → Short ds → ((f rest : List Token) → us ≡ f ++ rest → Begins E M f) → (f rest : List Token) → ts ≡ f ++ rest → Begins D K f
fronts_of D K ts ds E M us (no_token t vs p q n h) s g f rest w = fronts_silent D K t vs ds E M h (λ f' r z. g f' r (q ∙ z)) f rest (sym p ∙ w)
fronts_of D K ts ds E M us (one_token t d p n h) s g f rest w = fronts_one D K t us ds E M h g f rest (sym p ∙ w)
fronts_of D K ts ds E M us (two_tokens t u d e p n h) s g f rest w = absurd (subst Short n s)

pub done_step : (s t : State) (ds : List ℕ) → step rule s ≡ goes ds t → Short ds → DoneAt t → DoneAt s
done_step (reading D K ts) (reading E M us) ds e s d = record {
  depths = ds ++ d.depths;
  now = d.now;
  reads = onward e d.reads;
  fronts = fronts_of D K ts ds E M us (local D K ts ds E M us e) s d.fronts;
}

-- the state behind a step that reads at most one token
abbrev pub after_step : Step → State → State
after_step (goes [] t) s = t
after_step (goes (d ∷ []) t) s = t
after_step _ s = s

abbrev pub advance : ℕ → State → State
advance zero s = s
advance (suc n) s = advance n (after_step (step rule s) s)

after_done : (x : Step) (s : State) → step rule s ≡ x → DoneAt (after_step x s) → DoneAt s
after_done (goes [] t) s e d = done_step s t [] e tt d
after_done (goes (x ∷ []) t) s e d = done_step s t (x ∷ []) e tt d
after_done (goes (x ∷ y ∷ ds) t) s e d = d
after_done halts s e d = d

advance_done : (n : ℕ) (s : State) → DoneAt (advance n s) → DoneAt s
advance_done zero s d = d
advance_done (suc n) s d = after_done (step rule s) s refl (advance_done n (after_step (step rule s) s) d)

-- so many steps on
pub fast : (n : ℕ) {K : List Rule} {ts : List Token} → ((E : Depths) → DoneAt (advance n (reading E K ts))) → Next K ts
fast n {K = K} {ts = ts} h = record { from = λ E. advance_done n (reading E K ts) (h E) }

pub go : {K : List Rule} {ts : List Token} {E : Depths} → Next K ts → Done E K ts
go {E = E} h = h.from E

-- the next token passes the test, or there is one that doesn't
abbrev pub Is : Test → List Token → Type 0
Is p [] = ⊥
Is p (t ∷ ts) = p t.kind ≡ true

abbrev pub Not : Test → List Token → Type 0
Not p [] = ⊥
Not p (t ∷ ts) = p t.kind ≡ false

pub choice_first : (p : Test) (r s : Rule) (K : List Rule) (ts : List Token) → Is p ts → Next (r ∷ K) ts → Next (choice p r s ∷ K) ts
choice_first p r s K [] i n = absurd i
choice_first p r s K (t ∷ ts) i n =
    record { from = λ E. done_step (reading E (choice p r s ∷ K) (t ∷ ts)) (reading E (r ∷ K) (t ∷ ts)) [] (ap (λ b. goes [] (reading E (cond b r s ∷ K) (t ∷ ts))) i) tt (n.from E) }

pub choice_second : (p : Test) (r s : Rule) (K : List Rule) (ts : List Token) → Not p ts → Next (s ∷ K) ts → Next (choice p r s ∷ K) ts
choice_second p r s K [] i n = absurd i
choice_second p r s K (t ∷ ts) i n =
    record { from = λ E. done_step (reading E (choice p r s ∷ K) (t ∷ ts)) (reading E (s ∷ K) (t ∷ ts)) [] (ap (λ b. goes [] (reading E (cond b r s ∷ K) (t ∷ ts))) i) tt (n.from E) }

pub many_stop : (p : Test) (r : Rule) (K : List Rule) (ts : List Token) → Not p ts → Next K ts → Next (many p r ∷ K) ts
many_stop p r K [] i n = absurd i
many_stop p r K (t ∷ ts) i n =
    record { from = λ E. done_step (reading E (many p r ∷ K) (t ∷ ts)) (reading E K (t ∷ ts)) [] (ap (λ b. goes [] (reading E (cond b (r ∷ many p r ∷ K) K) (t ∷ ts))) i) tt (n.from E) }

pub many_more : (p : Test) (r : Rule) (K : List Rule) (ts : List Token) → Is p ts → Next (r ∷ many p r ∷ K) ts → Next (many p r ∷ K) ts
many_more p r K [] i n = absurd i
many_more p r K (t ∷ ts) i n =
    record { from = λ E. done_step (reading E (many p r ∷ K) (t ∷ ts)) (reading E (r ∷ many p r ∷ K) (t ∷ ts)) [] (ap (λ b. goes [] (reading E (cond b (r ∷ many p r ∷ K) K) (t ∷ ts))) i) tt (n.from E) }

pub skip : (p : Test) (r : Rule) (K : List Rule) (ts : List Token) → Not p ts → Next K ts → Next (optional p r ∷ K) ts
skip p r K [] i n = absurd i
skip p r K (t ∷ ts) i n = choice_second p r nothing K (t ∷ ts) i (fast 1 (λ E. n.from E))

pub take_token : (e : Effect) (p : Test) (K : List Rule) (t : Token) (ts : List Token) → p t.kind ≡ true → Next K ts → Next (tok e p ∷ K) (t ∷ ts)
take_token e p K t ts i n =
    record { from = λ E. done_step (reading E (tok e p ∷ K) (t ∷ ts)) (reading (behind e E) K ts) (_) (ap (λ b. cond b (goes (now (behind e E) ∷ []) (reading (behind e E) K ts)) halts) i) tt (n.from (behind e E)) }

pub take_pair : (p q : Test) (r : Rule) (K : List Rule) (t u : Token) (ts : List Token) → p t.kind && q u.kind ≡ true
    → ((D : Depths) → Begins D K (t ∷ [])) → Next (r ∷ K) ts → Next (pair p q r ∷ K) (t ∷ u ∷ ts)
take_pair p q r K t u ts i b n = record {
  from = λ E. let d = n.from (behind opening E) in
      let e : (f : List Token) → step rule (reading E (pair p q r ∷ K) (t ∷ u ∷ f)) ≡ goes (now E ∷ now (behind opening E) ∷ []) (reading (behind opening E) (r ∷ K) f) = (λ f. ap (λ b. pair_step b E r K t u f) i) in
      record {
        depths = (now E ∷ now (behind opening E) ∷ []) ++ d.depths;
        now = d.now;
        reads = onward (e ts) d.reads;
        fronts = fronts_two E (pair p q r ∷ K) t u ts _ (behind opening E) (r ∷ K) e (begins_step E (pair p q r ∷ K) (t ∷ []) [] E K (t ∷ []) refl (b E)) d.fronts;
      };
}

-- what is read to its end has tokens
done_none : (D E : Depths) (r : Rule) (K : List Rule) (ds : List ℕ) → Reads rule (reading D (r ∷ K) []) ds (reading E [] []) → ⊥
done_none D E r K ds h = none_of _ _ ds h refl refl
  where
    none_of : (s u : State) (es : List ℕ) → Reads rule s es u → s ≡ reading D (r ∷ K) [] → u ≡ reading E [] [] → ⊥
    none_of s u es here p q = cc
    none_of s u es (onward {t = v} {ds = as'} {es = bs} e w) p q = let z : halts ≡ goes as' v = sym (ap (step rule) p) ∙ e in cc

-- so many steps on that read no token and look at none
pub silent : (n : ℕ) {K : List Rule} {r : Rule} {L : List Rule} {ts : List Token}
    → ((E : Depths) (t : Token) (vs : List Token) → advance n (reading E K (t ∷ vs)) ≡ reading E (r ∷ L) (t ∷ vs)) → Next (r ∷ L) ts → Next K ts
silent n {K = K} {r = r} {L = L} {ts = []} h x = record { from = λ E. absurd (done_none E (x.from E).now r L (x.from E).depths (x.from E).reads) }
silent n {K = K} {r = r} {L = L} {ts = t ∷ vs} h x = fast n (λ E. subst (λ (s : State). DoneAt s) (sym (h E t vs)) (x.from E))

-- the part that the next token tells
pub by_part : (f : TokenKind → Part) (P : Part) (K : List Rule) (t : Token) (ts : List Token) → f t.kind ≡ P → Next (rule P ∷ K) (t ∷ ts) → Next (by f ∷ K) (t ∷ ts)
by_part f P K t ts h n = record { from = λ E. done_step (reading E (by f ∷ K) (t ∷ ts)) (reading E (rule P ∷ K) (t ∷ ts)) [] (ap (λ Q. goes [] (reading E (rule Q ∷ K) (t ∷ ts))) h) tt (n.from E) }

pub leave_pair : (p q : Test) (r : Rule) (K : List Rule) (t u : Token) (ts : List Token) → p t.kind && q u.kind ≡ false → Next K (t ∷ u ∷ ts) → Next (pair p q r ∷ K) (t ∷ u ∷ ts)
leave_pair p q r K t u ts h n = record { from = λ E. done_step (reading E (pair p q r ∷ K) (t ∷ u ∷ ts)) (reading E K (t ∷ u ∷ ts)) [] (ap (λ b. pair_step b E r K t u ts) h) tt (n.from E) }
