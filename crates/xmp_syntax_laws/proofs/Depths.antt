-- The depths of a reading count the parts that are open.
use Rattle.std.proofs.Common.{◌≡◌, ◌&&◌, ℕ, zero, suc, Bool, true, false, cond, List, [], ◌∷◌, ◌++◌, refl, sym, ap, ◌∙◌, subst}
use Rattle.xmp_lex.specs.declared.token.Token.{Token}
use Rattle.xmp_syntax.specs.Reading as read
use Rattle.xmp_syntax.specs.Reading.{Effect, plain, operator, separator, opening, closing, cast, enter, leave, Rule, nothing, tok, mark, part, by, ◌·◌, choice, many, pair, Depths, depths, now, outside, behind, State, reading, Step, goes, halts, step, pair_step, Reads}
use Rattle.xmp_syntax.specs.Grammar.{rule}
use Rattle.xmp_syntax.specs.Refused.{start}
use Rattle.xmp_syntax_laws.specs.OpenParts.{open_back, open_parts, passed, counts, Counts, here, onward}

-- the depths of the levels around are the counts behind what is closed
abbrev Kept : List (ℕ × ℕ) → (ℕ → Bool → ℕ) → Type 0
Kept [] f = (n : ℕ) (b : Bool) → f n b ≡ 0
Kept (x ∷ L) f = (x.0 ≡ f zero false) × (x.1 ≡ f zero true) × Kept L (λ n. f (suc n))

-- the depths are the counts
abbrev Tells : Depths → List Effect → Type 0
Tells (depths d b L) es = (d ≡ open_back false zero es) × (b ≡ open_back true zero es) × Kept L (λ n s. open_back s (suc n) es)

tells_on : (e : Effect) (D : Depths) (es : List Effect) → Tells D es → Tells (behind e D) (e ∷ es)
tells_on plain (depths d b L) es t = t
tells_on operator (depths d b L) es t = (ap suc t.0, t.1, t.2)
tells_on separator (depths d b L) es t = (t.1, t.1, t.2)
tells_on opening (depths d b L) es t = (ap suc t.0, ap suc t.0, (t.0, t.1, t.2))
tells_on closing (depths d b []) es t = (sym (t.2 zero false), sym (t.2 zero true), λ n s. t.2 (suc n) s)
tells_on closing (depths d b (x ∷ L)) es t = t.2
tells_on cast (depths d b []) es t = (ap suc (sym (t.2 zero false)), sym (t.2 zero true), λ n s. t.2 (suc n) s)
tells_on cast (depths d b (x ∷ L)) es t = (ap suc t.2.0, t.2.1, t.2.2)
tells_on enter (depths d b L) es t = (ap suc t.0, ap suc t.1, (t.0, t.1, t.2))
tells_on leave (depths d b []) es t = (sym (t.2 zero false), sym (t.2 zero true), λ n s. t.2 (suc n) s)
tells_on leave (depths d b (x ∷ L)) es t = t.2

now_is : (D : Depths) (es : List Effect) → Tells D es → now D ≡ open_parts es
now_is (depths d b L) es t = t.0

abbrev TellsAt : State → List Effect → Type 0
TellsAt (reading D K ts) es = Tells D es

-- what a step does
abbrev Right : State → List Effect → List ℕ → State → Type 0
Right s es ds t = (ds ≡ counts s es) × TellsAt t (passed s ++ es)

goes_on : (ds bs : List ℕ) (t u : State) → goes bs u ≡ goes ds t → (bs ≡ ds) × (u ≡ t)
goes_on ds bs t u e = (cc, cc)

same : (s : State) (es : List Effect) (ds bs : List ℕ) (t u : State) → goes bs u ≡ goes ds t → Right s es bs u → Right s es ds t
same s es ds bs t u e r = let w = goes_on ds bs t u e in (sym w.0 ∙ r.0, subst (λ (v : State). TellsAt v (passed s ++ es)) w.1 r.1)

token : (x : Effect) (D : Depths) (q : read.Test) (K : List Rule) (t : Token) (ts : List Token) (es : List Effect) (ds : List ℕ) (v : State) (b : Bool) → Tells D es
    → cond b (goes (now (behind x D) ∷ []) (reading (behind x D) K ts)) halts ≡ goes ds v → Right (reading D (tok x q ∷ K) (t ∷ ts)) es ds v
token x D q K t ts es ds v true h e =
    let w = tells_on x D es h in
    same (reading D (tok x q ∷ K) (t ∷ ts)) es ds (now (behind x D) ∷ []) v (reading (behind x D) K ts) e (ap (λ (n : ℕ). n ∷ []) (now_is (behind x D) (x ∷ es) w), w)
token x D q K t ts es ds v false h e = cc

two : (D : Depths) (p q : read.Test) (r : Rule) (K : List Rule) (t u : Token) (ts : List Token) (es : List Effect) (ds : List ℕ) (v : State) (b : Bool) → p t.kind && q u.kind ≡ b → Tells D es
    → pair_step b D r K t u ts ≡ goes ds v → Right (reading D (pair p q r ∷ K) (t ∷ u ∷ ts)) es ds v
two D p q r K t u ts es ds v true c h e =
    let w = tells_on opening D (plain ∷ es) (tells_on plain D es h) in
    let a : now D ∷ now (behind opening D) ∷ [] ≡ open_parts (plain ∷ es) ∷ open_parts (opening ∷ plain ∷ es) ∷ [] =
    ap (λ (n : ℕ). n ∷ now (behind opening D) ∷ []) (now_is D (plain ∷ es) (tells_on plain D es h)) ∙ ap (λ (n : ℕ). open_parts (plain ∷ es) ∷ n ∷ []) (now_is (behind opening D) (opening ∷ plain ∷ es) w) in
    same (reading D (pair p q r ∷ K) (t ∷ u ∷ ts)) es ds (now D ∷ now (behind opening D) ∷ []) v (reading (behind opening D) (r ∷ K) ts) e (
      a ∙ ap (λ (b : Bool). cond b (open_parts (plain ∷ es) ∷ open_parts (opening ∷ plain ∷ es) ∷ []) []) (sym c),
      subst (λ (b : Bool). Tells (behind opening D) (cond b (opening ∷ plain ∷ []) [] ++ es)) (sym c) w,
    )
two D p q r K t u ts es ds v false c h e =
    same (reading D (pair p q r ∷ K) (t ∷ u ∷ ts)) es ds [] v (reading D K (t ∷ u ∷ ts)) e (
      ap (λ (b : Bool). cond b (open_parts (plain ∷ es) ∷ open_parts (opening ∷ plain ∷ es) ∷ []) []) (sym c),
      subst (λ (b : Bool). Tells D (cond b (opening ∷ plain ∷ []) [] ++ es)) (sym c) h,
    )

right : (D : Depths) (K : List Rule) (ts : List Token) (es : List Effect) (ds : List ℕ) (v : State) → Tells D es
    → step rule (reading D K ts) ≡ goes ds v → Right (reading D K ts) es ds v
right D [] ts es ds v h e = cc
right D (r ∷ K) [] es ds v h e = cc
right D (nothing ∷ K) (t ∷ ts) es ds v h e = same (reading D (nothing ∷ K) (t ∷ ts)) es ds [] v _ e (refl, h)
right D (tok x q ∷ K) (t ∷ ts) es ds v h e = token x D q K t ts es ds v (q t.kind) h e
right D (mark x ∷ K) (t ∷ ts) es ds v h e = same (reading D (mark x ∷ K) (t ∷ ts)) es ds [] v _ e (refl, tells_on x D es h)
right D (part P ∷ K) (t ∷ ts) es ds v h e = same (reading D (part P ∷ K) (t ∷ ts)) es ds [] v _ e (refl, h)
right D (by f ∷ K) (t ∷ ts) es ds v h e = same (reading D (by f ∷ K) (t ∷ ts)) es ds [] v _ e (refl, h)
right D ((r · s) ∷ K) (t ∷ ts) es ds v h e = same (reading D ((r · s) ∷ K) (t ∷ ts)) es ds [] v _ e (refl, h)
right D (choice q r s ∷ K) (t ∷ ts) es ds v h e = same (reading D (choice q r s ∷ K) (t ∷ ts)) es ds [] v _ e (refl, h)
right D (many q r ∷ K) (t ∷ ts) es ds v h e = same (reading D (many q r ∷ K) (t ∷ ts)) es ds [] v _ e (refl, h)
right D (pair p q r ∷ K) (t ∷ []) es ds v h e = same (reading D (pair p q r ∷ K) (t ∷ [])) es ds [] v _ e (refl, h)
right D (pair p q r ∷ K) (t ∷ u ∷ ts) es ds v h e = two D p q r K t u ts es ds v (p t.kind && q u.kind) refl h e

right_at : (s t : State) (es : List Effect) (ds : List ℕ) → TellsAt s es → step rule s ≡ goes ds t → Right s es ds t
right_at (reading D K ts) t es ds h e = right D K ts es ds t h e

counted : (s u : State) (es : List Effect) (ds : List ℕ) → TellsAt s es → Reads rule s ds u → Counts s es ds u
counted s u es ds h read.here = here
counted s u es ds h (read.onward {t = v} {ds = as'} {es = bs} e r) =
    let w = right_at s v es as' h e in
    subst (λ (l : List ℕ). Counts s es (l ++ bs) u) (sym w.0) (onward e (counted v u (passed s ++ es) bs w.1 r))

reads : (s u : State) (es : List Effect) (ds : List ℕ) → TellsAt s es → Counts s es ds u → Reads rule s ds u
reads s u es ds h here = read.here
reads s u _ _ h (onward {t = v} {es = es} {ds = as'} {ms = bs} e c) =
    let w = right_at s v es as' h e in
    subst (λ (l : List ℕ). Reads rule s (l ++ bs) u) w.0 (read.onward e (reads v u (passed s ++ es) bs w.1 c))

begun : Tells start []
begun = (refl, refl, λ n b. refl)

pub depths_count : (K : List Rule) (ts : List Token) (ds : List ℕ) (u : State) → Reads rule (reading start K ts) ds u
    → Counts (reading start K ts) [] ds u
depths_count K ts ds u r = counted (reading start K ts) u [] ds begun r

pub counts_are_depths : (K : List Rule) (ts : List Token) (ds : List ℕ) (u : State) → Counts (reading start K ts) [] ds u
    → Reads rule (reading start K ts) ds u
counts_are_depths K ts ds u c = reads (reading start K ts) u [] ds begun c
