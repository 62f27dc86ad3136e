-- Shared lemmas: how readings, and the places of refusals, are put together. Four definitions stand among them: `Local`, `ShallowBegins`,
-- `StuckAt` and `TooDeepAt`.
use Rattle.std.proofs.Common.{◌≡◌, ◌≤◌, ◌<◌, ℕ, suc, Bool, true, false, cond, List, [], ◌∷◌, ◌++◌, length, All, refl, sym, ap, ◌∙◌, subst, append_assoc}
use Rattle.std.specs.Prelude.{◌&&◌, ◌⊎◌}
use Rattle.std.proofs.lemmas.List.Elements.{All-nil, All-cons, All-head, All-tail, All-append}
use Rattle.xmp_lex.specs.declared.token.Token.{Token}
use Rattle.xmp_lex.specs.declared.token.TokenKind.{TokenKind}
use Rattle.xmp_syntax.specs.Parts.{Part}
use Rattle.xmp_syntax.specs.Reading.{Effect, opening, Rule, nothing, tok, mark, part, by, ◌·◌, choice, many, pair, Depths, now, behind, State, reading, Step, goes, halts, step, pair_step, Reads, here, onward}
use Rattle.xmp_syntax.specs.Grammar.{rule}
use Rattle.xmp_syntax.specs.Refused.{Begins, Stuck, TooDeep}

-- one reading behind another
pub reads_on : (s t u : State) (ds es : List ℕ) → Reads rule s ds t → Reads rule t es u → Reads rule s (ds ++ es) u
reads_on s t u ds es here q = q
reads_on s t u ds es (onward {t = v} {ds = as'} {es = bs} e r) q =
    subst (λ (l : List ℕ). Reads rule s l u) (sym (append_assoc as' bs es)) (onward e (reads_on v t u bs es r q))

-- What a step does to the tokens, and that it does the same before fewer of them.
pub data Local (D : Depths) (K : List Rule) (ts : List Token) (ds : List ℕ) (E : Depths) (M : List Rule) (us : List Token) : Type 0 where
  no_token : (t : Token) (vs : List Token) → ts ≡ t ∷ vs → us ≡ t ∷ vs → ds ≡ []
      → ((f rest : List Token) → vs ≡ f ++ rest → step rule (reading D K (t ∷ f)) ≡ goes ds (reading E M (t ∷ f))) → Local D K ts ds E M us
  one_token : (t : Token) (d : ℕ) → ts ≡ t ∷ us → ds ≡ d ∷ [] → ((f : List Token) → step rule (reading D K (t ∷ f)) ≡ goes ds (reading E M f)) → Local D K ts ds E M us
  two_tokens : (t u : Token) (d e : ℕ) → ts ≡ t ∷ u ∷ us → ds ≡ d ∷ e ∷ [] → ((f : List Token) → step rule (reading D K (t ∷ u ∷ f)) ≡ goes ds (reading E M f)) → Local D K ts ds E M us

-- a silent step that looks at the next token alone
quiet : (D : Depths) (K : List Rule) (t : Token) (ts : List Token) (ds : List ℕ) (E : Depths) (M : List Rule) (us : List Token) (N : List Rule) (F : Depths)
    → ((f : List Token) → step rule (reading D K (t ∷ f)) ≡ goes [] (reading F N (t ∷ f)))
    → goes [] (reading F N (t ∷ ts)) ≡ goes ds (reading E M us) → Local D K (t ∷ ts) ds E M us
quiet D K t ts ds E M us N F h e =
    let a : ds ≡ [] = cc in
    let b : F ≡ E = cc in
    let c : N ≡ M = cc in
    no_token t ts refl (cc) a (λ f rest q. h f ∙ cc)

both_of : (b : Bool) (D : Depths) (r : Rule) (K : List Rule) (p q : TokenKind → Bool) (t u : Token) (ts : List Token) (ds : List ℕ) (E : Depths) (M : List Rule) (us : List Token)
    → p t.kind && q u.kind ≡ b → pair_step b D r K t u ts ≡ goes ds (reading E M us) → Local D (pair p q r ∷ K) (t ∷ u ∷ ts) ds E M us
both_of true D r K p q t u ts ds E M us h e =
    let z : ts ≡ us = cc in
    let y : now D ∷ now (behind opening D) ∷ [] ≡ ds = cc in
    let a : behind opening D ≡ E = cc in
    let b : r ∷ K ≡ M = cc in
    two_tokens t u (now D) (now (behind opening D)) (ap (λ l. t ∷ u ∷ l) z) (sym y) (λ f. ap (λ b. pair_step b D r K t u f) h ∙ cc)
both_of false D r K p q t u ts ds E M us h e =
    let a : ds ≡ [] = cc in
    let b : D ≡ E = cc in
    let c : K ≡ M = cc in
    no_token t (u ∷ ts) refl (cc) a (λ f rest w. again f rest w)
  where
    again : (f rest : List Token) → u ∷ ts ≡ f ++ rest → step rule (reading D (pair p q r ∷ K) (t ∷ f)) ≡ goes ds (reading E M (t ∷ f))
    again [] rest w = cc
    again (v ∷ f) rest w =
        let z : u ≡ v = cc in
        let k : p t.kind && q v.kind ≡ false = subst (λ (x : Token). p t.kind && q x.kind ≡ false) z h in
        ap (λ b. pair_step b D r K t v f) k ∙ cc

pub took : (b : Bool) (x : List ℕ) (s t : State) (ds : List ℕ) → cond b (goes x s) halts ≡ goes ds t → (b ≡ true) × (x ≡ ds) × (s ≡ t)
took true x s t ds e = (refl, cc, cc)
took false x s t ds e = cc

pub local : (D : Depths) (K : List Rule) (ts : List Token) (ds : List ℕ) (E : Depths) (M : List Rule) (us : List Token)
    → step rule (reading D K ts) ≡ goes ds (reading E M us) → Local D K ts ds E M us
local D [] ts ds E M us e = cc
local D (r ∷ K) [] ds E M us e = cc
local D (nothing ∷ K) (t ∷ ts) ds E M us e = quiet D _ t ts ds E M us _ _ (λ f. refl) e
local D (tok x p ∷ K) (t ∷ ts) ds E M us e =
    let w = took (p t.kind) (now (behind x D) ∷ []) (reading (behind x D) K ts) (reading E M us) ds e in
    one_token t (now (behind x D)) (let z : reading (behind x D) K ts ≡ reading E M us = w.2 in let y : ts ≡ us = cc in ap (λ l. t ∷ l) y) (sym w.1)
    (λ f. ap (λ b. cond b (goes (now (behind x D) ∷ []) (reading (behind x D) K f)) halts) w.0
    ∙ (let z : reading (behind x D) K ts ≡ reading E M us = w.2 in let y : now (behind x D) ∷ [] ≡ ds = w.1 in cc))
local D (mark x ∷ K) (t ∷ ts) ds E M us e = quiet D _ t ts ds E M us _ _ (λ f. refl) e
local D (part P ∷ K) (t ∷ ts) ds E M us e = quiet D _ t ts ds E M us _ _ (λ f. refl) e
local D (by g ∷ K) (t ∷ ts) ds E M us e = quiet D _ t ts ds E M us _ _ (λ f. refl) e
local D ((r · s) ∷ K) (t ∷ ts) ds E M us e = quiet D _ t ts ds E M us _ _ (λ f. refl) e
local D (choice p r s ∷ K) (t ∷ ts) ds E M us e = quiet D _ t ts ds E M us _ _ (λ f. refl) e
local D (many p r ∷ K) (t ∷ ts) ds E M us e = quiet D _ t ts ds E M us _ _ (λ f. refl) e
local D (pair p q r ∷ K) (t ∷ []) ds E M us e =
    no_token t [] refl (cc) (cc) (λ f rest w. alone f rest w)
  where
    alone : (f rest : List Token) → [] ≡ f ++ rest → step rule (reading D (pair p q r ∷ K) (t ∷ f)) ≡ goes ds (reading E M (t ∷ f))
    alone [] rest w = cc
    alone (v ∷ f) rest w = cc
local D (pair p q r ∷ K) (t ∷ u ∷ ts) ds E M us e = both_of (p t.kind && q u.kind) D r K p q t u ts ds E M us refl e

abbrev pub ShallowBegins : Depths → List Rule → List Token → Type 0
ShallowBegins D K ts = (b : Begins D K ts) × All (λ d. d ≤ 128) b.depths

-- What begins before a step, and behind it.
pub begins_before : (D : Depths) (K : List Rule) (ts : List Token) (ds : List ℕ) (E : Depths) (M : List Rule) (us : List Token)
    → step rule (reading D K ts) ≡ goes ds (reading E M us) → All (λ d. d ≤ 128) ds → (b : Begins E M us) → All (λ d. d ≤ 128) b.depths
    → (a : Begins D K ts) × All (λ d. d ≤ 128) a.depths
begins_before D K ts ds E M us e w b v =
    (record { depths = ds ++ b.depths; now = b.now; left = b.left; reads = onward e b.reads }, All-append (λ d. d ≤ 128) ds b.depths w v)

-- what is read from a place with tokens left is read behind the step from there
behind_step : (s u : State) (es : List ℕ) → Reads rule s es u → (ds : List ℕ) (t : State) (E : Depths) (M : List Rule) → step rule s ≡ goes ds t → u ≡ reading E M [] → (s ≡ reading E M [] → ⊥)
    → (bs : List ℕ) × Reads rule t bs u
behind_step s u es here ds t E M e f g = absurd (g f)
behind_step s u es (onward {t = v} {ds = as'} {es = bs} h r) ds t E M e f g =
    let q : v ≡ t = (let z : goes as' v ≡ goes ds t = sym h ∙ e in cc) in
    (bs, subst (λ (x : State). Reads rule x bs u) q r)

pub begins_behind : (D : Depths) (K : List Rule) (t : Token) (ts : List Token) (ds : List ℕ) (E : Depths) (M : List Rule) (us : List Token)
    → step rule (reading D K (t ∷ ts)) ≡ goes ds (reading E M us) → Begins D K (t ∷ ts) → Begins E M us
begins_behind D K t ts ds E M us e b =
    let w = behind_step _ _ b.depths b.reads ds (reading E M us) b.now b.left e refl (λ q. cc) in
    record { depths = w.0; now = b.now; left = b.left; reads = w.1 }

-- no token begins anything
abbrev pub begins_nothing : (D : Depths) (K : List Rule) → Begins D K []
begins_nothing D K = record { depths = []; now = D; left = K; reads = here }

-- A token that a step takes, before a refusal and behind it.
stuck_token : (D : Depths) (K : List Rule) (t : Token) (ds : List ℕ) (E : Depths) (M : List Rule) (us : List Token) (left : ℕ)
    → ((f : List Token) → step rule (reading D K (t ∷ f)) ≡ goes ds (reading E M f)) → All (λ d. d ≤ 128) ds → Stuck E M us left → Stuck D K (t ∷ us) left
stuck_token D K t ds E M us left h w s =
    let a = begins_before D K (t ∷ s.front) ds E M s.front (h s.front) w s.begins s.shallow in
    record {
      front = t ∷ s.front;
      bad = s.bad;
      after = s.after;
      whole = ap (λ l. t ∷ l) s.whole;
      count = s.count;
      begins = a.0;
      shallow = a.1;
      ends = λ b. s.ends (begins_behind D K t (s.front ++ s.bad ∷ []) ds E M (s.front ++ s.bad ∷ []) (h (s.front ++ s.bad ∷ [])) b);
    }

stuck_tokens : (D : Depths) (K : List Rule) (t u : Token) (ds : List ℕ) (E : Depths) (M : List Rule) (us : List Token) (left : ℕ)
    → ((f : List Token) → step rule (reading D K (t ∷ u ∷ f)) ≡ goes ds (reading E M f)) → All (λ d. d ≤ 128) ds → Stuck E M us left → Stuck D K (t ∷ u ∷ us) left
stuck_tokens D K t u ds E M us left h w s =
    let a = begins_before D K (t ∷ u ∷ s.front) ds E M s.front (h s.front) w s.begins s.shallow in
    record {
      front = t ∷ u ∷ s.front;
      bad = s.bad;
      after = s.after;
      whole = ap (λ l. t ∷ u ∷ l) s.whole;
      count = s.count;
      begins = a.0;
      shallow = a.1;
      ends = λ b. s.ends (begins_behind D K t (u ∷ s.front ++ s.bad ∷ []) ds E M (s.front ++ s.bad ∷ []) (h (s.front ++ s.bad ∷ [])) b);
    }

pub regroup : (a : List Token) (x : Token) (b : List Token) → a ++ x ∷ b ≡ (a ++ x ∷ []) ++ b
regroup [] x b = refl
regroup (y ∷ a) x b = ap (λ l. y ∷ l) (regroup a x b)

-- the front of a refusal, taken apart
stuck_silent : (D : Depths) (K : List Rule) (t : Token) (vs : List Token) (E : Depths) (M : List Rule) (left : ℕ)
    → ((f rest : List Token) → vs ≡ f ++ rest → step rule (reading D K (t ∷ f)) ≡ goes [] (reading E M (t ∷ f)))
    → (front : List Token) (bad : Token) (after : List Token) → t ∷ vs ≡ front ++ bad ∷ after → left ≡ length (bad ∷ after)
    → ShallowBegins E M front → (Begins E M (front ++ bad ∷ []) → ⊥) → Stuck D K (t ∷ vs) left
stuck_silent D K t vs E M left h [] bad after w k b g =
    let q : t ≡ bad = cc in
    record {
      front = [];
      bad = bad;
      after = after;
      whole = w;
      count = k;
      begins = begins_nothing D K;
      shallow = All-nil (λ d. d ≤ 128);
      ends = λ c. g (subst (λ (x : Token). Begins E M (x ∷ [])) q (begins_behind D K t [] [] E M (t ∷ []) (h [] vs refl) (subst (λ (x : Token). Begins D K (x ∷ [])) (sym q) c)));
    }
stuck_silent D K t vs E M left h (x ∷ front) bad after w k b g =
    let q : t ≡ x = cc in
    let z : vs ≡ front ++ bad ∷ after = cc in
    let v : ShallowBegins E M (t ∷ front) = subst (λ (y : Token). ShallowBegins E M (y ∷ front)) (sym q) b in
    let a = begins_before D K (t ∷ front) [] E M (t ∷ front) (h front (bad ∷ after) z) (All-nil (λ d. d ≤ 128)) v.0 v.1 in
    record {
      front = t ∷ front;
      bad = bad;
      after = after;
      whole = ap (λ l. t ∷ l) z;
      count = k;
      begins = a.0;
      shallow = a.1;
      ends = λ c. g (subst (λ (y : Token). Begins E M (y ∷ front ++ bad ∷ [])) q
          (begins_behind D K t (front ++ bad ∷ []) [] E M (t ∷ front ++ bad ∷ []) (h (front ++ bad ∷ []) after (z ∙ regroup front bad after)) c));
    }

-- A refusal behind a step is one before it.
pub stuck_before : (D : Depths) (K : List Rule) (ts : List Token) (ds : List ℕ) (E : Depths) (M : List Rule) (us : List Token) (left : ℕ)
    → Local D K ts ds E M us → All (λ d. d ≤ 128) ds → Stuck E M us left → Stuck D K ts left
stuck_before D K ts ds E M us left (no_token t vs p q n h) w s =
    subst (λ (l : List Token). Stuck D K l left) (sym p)
    (stuck_silent D K t vs E M left (λ f rest z. subst (λ (l : List ℕ). step rule (reading D K (t ∷ f)) ≡ goes l (reading E M (t ∷ f))) n (h f rest z))
    s.front s.bad s.after (sym q ∙ s.whole) s.count (s.begins, s.shallow) s.ends)
stuck_before D K ts ds E M us left (one_token t d p n h) w s =
    subst (λ (l : List Token). Stuck D K l left) (sym p) (stuck_token D K t ds E M us left h w s)
stuck_before D K ts ds E M us left (two_tokens t u d e p n h) w s =
    subst (λ (l : List Token). Stuck D K l left) (sym p) (stuck_tokens D K t u ds E M us left h w s)

-- what holds of two lists of depths holds of each
pub all_split : (xs ys : List ℕ) → All (λ d. d ≤ 128) (xs ++ ys) → All (λ d. d ≤ 128) xs × All (λ d. d ≤ 128) ys
all_split [] ys a = (All-nil (λ d. d ≤ 128), a)
all_split (x ∷ xs) ys a =
    let w = all_split xs ys (All-tail (λ d. d ≤ 128) x (xs ++ ys) a) in
    (All-cons (λ d. d ≤ 128) x xs (All-head (λ d. d ≤ 128) x (xs ++ ys) a) w.0, w.1)

-- the same of a place of a reading
abbrev pub StuckAt : State → ℕ → Type 0
StuckAt (reading D K ts) left = Stuck D K ts left

abbrev pub TooDeepAt : State → ℕ → Type 0
TooDeepAt (reading D K ts) left = TooDeep D K ts left

stuck_one : (s t : State) (ds : List ℕ) (left : ℕ) → step rule s ≡ goes ds t → All (λ d. d ≤ 128) ds → StuckAt t left → StuckAt s left
stuck_one (reading D K ts) (reading E M us) ds left e w s = stuck_before D K ts ds E M us left (local D K ts ds E M us e) w s

-- A refusal behind a reading that is not too deep is one before it.
pub stuck_through : (s t : State) (ds : List ℕ) (left : ℕ) → Reads rule s ds t → All (λ d. d ≤ 128) ds → StuckAt t left → StuckAt s left
stuck_through s t ds left here w x = x
stuck_through s t ds left (onward {t = v} {ds = as'} {es = bs} e r) w x =
    let a = all_split as' bs w in
    stuck_one s v as' left e a.0 (stuck_through v t bs left r a.1 x)

pub deep_through : (D : Depths) (K : List Rule) (ts : List Token) (E : Depths) (M : List Rule) (us : List Token) (ds : List ℕ) (left : ℕ)
    → Reads rule (reading D K ts) ds (reading E M us) → All (λ d. d ≤ 128) ds → TooDeep E M us left → TooDeep D K ts left
deep_through D K ts E M us ds left r w x = record {
  front = ds ++ x.front;
  depth = x.depth;
  now = x.now;
  rules = x.rules;
  rest = x.rest;
  reads = subst (λ (l : List ℕ). Reads rule (reading D K ts) l (reading x.now x.rules x.rest)) (sym (append_assoc ds x.front (x.depth ∷ [])))
      (reads_on _ _ _ ds (x.front ++ x.depth ∷ []) r x.reads);
  count = x.count;
  shallow = All-append (λ d. d ≤ 128) ds x.front w x.shallow;
  deep = x.deep;
}

-- the next token is bad
pub stuck_here : (D : Depths) (K : List Rule) (t : Token) (ts : List Token) → step rule (reading D K (t ∷ [])) ≡ halts → Stuck D K (t ∷ ts) (suc (length ts))
stuck_here D K t ts h = record {
  front = [];
  bad = t;
  after = ts;
  whole = refl;
  count = refl;
  begins = begins_nothing D K;
  shallow = All-nil (λ d. d ≤ 128);
  ends = λ b. none_behind _ _ b.depths b.reads b.now b.left h refl (λ q. cc);
} where
  none_behind : (s u : State) (es : List ℕ) → Reads rule s es u → (E : Depths) (M : List Rule) → step rule s ≡ halts → u ≡ reading E M [] → (s ≡ reading E M [] → ⊥) → ⊥
  none_behind s u es here E M e f g = g f
  none_behind s u es (onward {t = v} {ds = as'} {es = bs} h r) E M e f g = let z : goes as' v ≡ halts = sym h ∙ e in cc

-- the next token is too deep
pub deep_here : (D : Depths) (K : List Rule) (t : Token) (ts : List Token) (d : ℕ) (E : Depths) (M : List Rule)
    → step rule (reading D K (t ∷ ts)) ≡ goes (d ∷ []) (reading E M ts) → 128 < d → TooDeep D K (t ∷ ts) (suc (length ts))
deep_here D K t ts d E M e h = record { front = []; depth = d; now = E; rules = M; rest = ts; reads = onward e here; count = refl; shallow = All-nil (λ d. d ≤ 128); deep = h }
