-- Readings of sound rules end: at a bad token, behind one that is too deep, or at the end of the tokens.
use Rattle.std.proofs.Common.{◌≡◌, ◌≤◌, ◌<◌, ◌⊎◌, inl, inr, ℕ, zero, suc, List, [], ◌∷◌, ◌++◌, length, All, refl, sym, ap, ◌∙◌, subst, subst₂, arith, append_assoc}
use Rattle.std.proofs.lemmas.Bool.{cases_lt}
use Rattle.std.proofs.lemmas.List.Elements.{All-nil, All-cons, All-append}
use Rattle.xmp_base.specs.Limits.{depth_limit}
use Rattle.xmp_lex.specs.declared.token.Token.{Token}
use Rattle.xmp_lex.specs.declared.token.TokenKind.TheVariants as t
use Rattle.xmp_lex.specs.Lines.{IsFinished}
use Rattle.xmp_syntax.specs.Reading.{Rule, Depths, now, State, reading, goes, halts, step, Reads, here, onward}
use Rattle.xmp_syntax.specs.Grammar.{rule}
use Rattle.xmp_syntax.specs.Refused.{Stuck, TooDeep}
use Rattle.xmp_syntax.specs.Steps.{local, stuck_before, stuck_here, deep_here}
use Rattle.xmp_syntax_laws.proofs.Steps.{Stack, all_steps, Low, StepOf, stops, silent, takes_one, takes_two, step_of}

abbrev AreShallow : List ℕ → Type 0
AreShallow ds = All (λ d. d ≤ depth_limit) ds

-- what a reading comes to
pub data Outcome (D : Depths) (K : List Rule) (ts : List Token) : Type 0 where
  at_end : (ds : List ℕ) (E : Depths) (M : List Rule) → Reads rule (reading D K ts) ds (reading E M []) → AreShallow ds → Outcome D K ts
  stuck : (left : ℕ) → Stuck D K ts left → Outcome D K ts
  deep : (left : ℕ) → TooDeep D K ts left → Outcome D K ts

-- the outcome before a step
before : (D : Depths) (K : List Rule) (ts : List Token) (ds : List ℕ) (E : Depths) (M : List Rule) (us : List Token)
    → step rule (reading D K ts) ≡ goes ds (reading E M us) → AreShallow ds → Outcome E M us → Outcome D K ts
before D K ts ds E M us e w (at_end es F L r v) = at_end (ds ++ es) F L (onward e r) (All-append (λ d. d ≤ depth_limit) ds es w v)
before D K ts ds E M us e w (stuck left s) = stuck left (stuck_before D K ts ds E M us left (local D K ts ds E M us e) w s)
before D K ts ds E M us e w (deep left x) = deep left (record {
  front = ds ++ x.front;
  depth = x.depth;
  now = x.now;
  rules = x.rules;
  rest = x.rest;
  reads = subst (λ (l : List ℕ). Reads rule (reading D K ts) l (reading x.now x.rules x.rest)) (sym (append_assoc ds x.front (x.depth ∷ []))) (onward e x.reads);
  count = x.count;
  shallow = All-append (λ d. d ≤ depth_limit) ds x.front w x.shallow;
  deep = x.deep;
})

none : AreShallow []
none = All-nil (λ d. d ≤ depth_limit)

one : (d : ℕ) → d ≤ depth_limit → AreShallow (d ∷ [])
one d h = All-cons (λ d. d ≤ depth_limit) d [] h none

two : (d e : ℕ) → d ≤ depth_limit → e ≤ depth_limit → AreShallow (d ∷ e ∷ [])
two d e h k = All-cons (λ d. d ≤ depth_limit) d (e ∷ []) h (one e k)

abbrev Judged : List Token → Type 0
Judged us = (E : Depths) (M : List Rule) → Stack M → Low E M → Outcome E M us

-- one token is read, which may be too deep
behind_one : (D : Depths) (K : List Rule) (x : Token) (ts : List Token) (E : Depths) (M : List Rule)
    → step rule (reading D K (x ∷ ts)) ≡ goes (now E ∷ []) (reading E M ts)
    → (depth_limit < now E) ⊎ (now E ≤ depth_limit) → (now E ≤ depth_limit → Outcome E M ts) → Outcome D K (x ∷ ts)
behind_one D K x ts E M e (inl h) on = deep (suc (length ts)) (deep_here D K x ts (now E) E M e h)
behind_one D K x ts E M e (inr h) on = before D K (x ∷ ts) (now E ∷ []) E M ts e (one (now E) h) (on h)

behind_two : (D : Depths) (K : List Rule) (x y : Token) (us : List Token) (E : Depths) (M : List Rule)
    → step rule (reading D K (x ∷ y ∷ us)) ≡ goes (now D ∷ now E ∷ []) (reading E M us) → now D ≤ depth_limit
    → (depth_limit < now E) ⊎ (now E ≤ depth_limit) → (now E ≤ depth_limit → Outcome E M us) → Outcome D K (x ∷ y ∷ us)
behind_two D K x y us E M e l (inl h) on = deep (suc (length us)) (record {
  front = now D ∷ [];
  depth = now E;
  now = E;
  rules = M;
  rest = us;
  reads = onward e here;
  count = refl;
  shallow = one (now D) l;
  deep = h;
})
behind_two D K x y us E M e l (inr h) on = before D K (x ∷ y ∷ us) (now D ∷ now E ∷ []) E M us e (two (now D) (now E) l h) (on h)

-- one step, where what is nearer to a token is judged, and what has fewer tokens
by_step : (D : Depths) (K : List Rule) (x : Token) (ts : List Token) → Low D K
    → ((E : Depths) (M : List Rule) → all_steps M < all_steps K → Stack M → Low E M → Outcome E M (x ∷ ts))
    → ((us : List Token) → length us ≤ length ts → Judged us) → StepOf D K x ts → Outcome D K (x ∷ ts)
by_step D K x ts l nearer fewer (stops e f) = stuck (suc (length ts)) (stuck_here D K x ts e)
by_step D K x ts l nearer fewer (silent E M e m s w) = before D K (x ∷ ts) [] E M (x ∷ ts) e none (nearer E M m s (w l))
by_step D K x ts l nearer fewer (takes_one E M e s f w) = behind_one D K x ts E M e (cases_lt depth_limit (now E)) (λ h. fewer ts (omega arith) E M s (inl (w l h)))
by_step D K x ts l nearer fewer (takes_two y us E M q e s f g v w) =
    subst (λ (vs : List Token). Outcome D K (x ∷ vs)) (sym q)
    (behind_two D K x y us E M (subst (λ (vs : List Token). step rule (reading D K (x ∷ vs)) ≡ goes (now D ∷ now E ∷ []) (reading E M us)) q e) (v l) (cases_lt depth_limit (now E))
    (λ h. fewer us (let z = ap length q in omega arith) E M s (inl (w l h))))

by_steps : (x : Token) (ts : List Token) → ((us : List Token) → length us ≤ length ts → Judged us) → (fuel : ℕ) (D : Depths) (K : List Rule)
    → all_steps K ≤ fuel
    → Stack K → Low D K → Outcome D K (x ∷ ts)
by_steps x ts fewer zero D K h s l = by_step D K x ts l (λ E M m. absurd (omega arith)) fewer (step_of D K x ts s)
by_steps x ts fewer (suc n) D K h s l = by_step D K x ts l (λ E M m r k. by_steps x ts fewer n E M (omega arith) r k) fewer (step_of D K x ts s)

by_length : (fuel : ℕ) (ts : List Token) → length ts ≤ fuel → Judged ts
by_length fuel [] h D K s l = at_end [] D K here none
by_length zero (x ∷ ts) h D K s l = absurd (omega arith)
by_length (suc n) (x ∷ ts) h D K s l = by_steps x ts (λ us k. by_length n us (omega arith)) (all_steps K) D K (omega arith) s l

-- Each reading that begins with sound rules and no depth above the limit comes to an end.
pub comes_to_an_end : (ts : List Token) → Judged ts
comes_to_an_end ts = by_length (length ts) ts (omega arith)

-- ---- the end of a text

nothing_behind : (s u : State) (ds : List ℕ) → Reads rule s ds u → (D E : Depths) (M : List Rule) (ts : List Token) → s ≡ reading D [] ts
    → u ≡ reading E M [] → (ts ≡ []) × (M ≡ [])
nothing_behind s u ds here D E M ts p q = let z : reading D [] ts ≡ reading E M [] = sym p ∙ q in ((let a : ts ≡ [] = cc in a), (let a : [] ≡ M = cc in sym a))
nothing_behind s u ds (onward {t = v} {ds = as'} {es = bs} e r) D E M ts p q = let z : halts ≡ goes as' v = sym (ap (step rule) p) ∙ e in cc

-- with nothing left behind the end of a text
abbrev Whole : List Token → List Token → List Rule → Type 0
Whole us rest M = (ts : List Token) → us ≡ ts ++ rest → IsFinished ts → (rest ≡ []) × (M ≡ [])

abbrev Ends : State → List Token → List Rule → Type 0
Ends (reading D K us) rest M = Whole us rest M

same_goes : (as' bs : List ℕ) (v w : State) → goes as' v ≡ goes bs w → v ≡ w
same_goes as' bs v w e = cc

abbrev StackAt : State → Type 0
StackAt (reading D K ts) = Stack K

ends_one : (x : Token) (us rest : List Token) (E : Depths) (L M : List Rule) (F : Depths) (es : List ℕ)
    → Reads rule (reading E L us) es (reading F M []) → (x.kind ≡ t.Finish → L ≡ [])
    → Ends (reading E L us) rest M → (ts : List Token) → x ∷ us ≡ ts ++ rest → IsFinished ts → (rest ≡ []) × (M ≡ [])
ends_one x us rest E L M F es r f on [] q i = absurd i
ends_one x us rest E L M F es r f on (y ∷ []) q i =
    let a : x ≡ y = cc in
    let b : us ≡ rest = cc in
    let c : L ≡ [] = f (ap (λ (z : Token). z.kind) a ∙ i) in
    let w = nothing_behind (reading E L us) (reading F M []) es r E F M us (ap (λ (k : List Rule). reading E k us) c) refl in
    (sym b ∙ w.0, w.1)
ends_one x us rest E L M F es r f on (y ∷ z ∷ ts) q i = on (z ∷ ts) (cc) i

ends_two : (x y : Token) (us vs rest : List Token) (M : List Rule) → us ≡ y ∷ vs → (x.kind ≡ t.Finish → ⊥) → (y.kind ≡ t.Finish → ⊥)
    → Whole vs rest M → Whole (x ∷ us) rest M
ends_two x y us vs rest M p f g on [] q i = absurd i
ends_two x y us vs rest M p f g on (a ∷ []) q i = let z : x ≡ a = cc in absurd (f (ap (λ (z : Token). z.kind) z ∙ i))
ends_two x y us vs rest M p f g on (a ∷ b ∷ []) q i =
    let w : y ∷ vs ≡ b ∷ rest = sym p ∙ cc in
    let z : y ≡ b = cc in absurd (g (ap (λ (z : Token). z.kind) z ∙ i))
ends_two x y us vs rest M p f g on (a ∷ b ∷ c ∷ ts) q i =
    let w : y ∷ vs ≡ b ∷ c ∷ ts ++ rest = sym p ∙ cc in
    on (c ∷ ts) (cc) i

pub ends : (s u : State) (ds : List ℕ) → Reads rule s ds u → StackAt s → (F : Depths) (M : List Rule) → u ≡ reading F M [] → (rest : List Token)
    → Ends s rest M
ends s u ds here k F M q rest = at_end_of s (q) where
  none_left : (us : List Token) → us ≡ [] → Whole us rest M
  none_left us e [] w i = absurd i
  none_left us e (x ∷ ts) w i = let z : [] ≡ x ∷ ts ++ rest = sym e ∙ w in cc

  at_end_of : (v : State) → v ≡ reading F M [] → Ends v rest M
  at_end_of (reading D K us) e = none_left us (cc)
ends (reading D K []) u ds (onward {t = v} {ds = as'} {es = bs} e r) k F M q rest = λ ts w i. no_step K e
  where
    no_step : (L : List Rule) → step rule (reading D L []) ≡ goes as' v → (rest ≡ []) × (M ≡ [])
    no_step [] e = cc
    no_step (x ∷ L) e = cc
ends (reading D K (x ∷ us)) u ds (onward {t = v} {ds = as'} {es = bs} e r) k F M q rest =
    behind (step_of D K x us k) (λ h. ends v u bs r h F M q rest)
  where
    behind : StepOf D K x us → (StackAt v → Ends v rest M) → Ends (reading D K (x ∷ us)) rest M
    behind (stops h f) on = let z : halts ≡ goes as' v = sym f ∙ e in cc
    behind (silent E L f m s w) on =
        let z : v ≡ reading E L (x ∷ us) = same_goes as' [] v _ (sym e ∙ f) in
        subst (λ (o : State). (StackAt o → Ends o rest M) → Ends (reading E L (x ∷ us)) rest M) (sym z) (λ g. g s) on
    behind (takes_one E L f s g w) on =
        let z : v ≡ reading E L us = same_goes as' (now E ∷ []) v _ (sym e ∙ f) in
        ends_one x us rest E L M F bs (subst₂ (λ (o p : State). Reads rule o bs p) z q r) g (subst (λ (o : State). (StackAt o → Ends o rest M) → Ends (reading E L us) rest M) (sym z) (λ h. h s) on)
    behind (takes_two y vs E L p f s g h l w) on =
        let z : v ≡ reading E L vs = same_goes as' (now D ∷ now E ∷ []) v _ (sym e ∙ f) in
        ends_two x y us vs rest M p g h (subst (λ (o : State). (StackAt o → Ends o rest M) → Whole vs rest M) (sym z) (λ k. k s) on)
