-- Readings that end: they are the only ones.
use Rattle.std.proofs.Common.{◌≡◌, ◌≤◌, ℕ, suc, Bool, true, false, cond, List, [], ◌∷◌, ◌++◌, length, All, refl, sym, ap, ◌∙◌, subst, append_assoc}
use Rattle.std.proofs.lemmas.List.Elements.{All-nil, All-cons, All-append}
use Rattle.xmp_lex.specs.declared.token.Token.{Token}
use Rattle.xmp_lex.specs.declared.token.TokenKind.TheVariants as t
use Rattle.xmp_syntax.specs.Reading.{Effect, plain, Rule, tok, Depths, depths, now, behind, State, reading, Step, goes, halts, step, Reads, here, onward}
use Rattle.xmp_syntax.specs.Grammar.{rule, is_finish}
use Rattle.xmp_syntax.specs.Refused.{IsShallow, start, program_rules}
use Rattle.xmp_syntax.specs.Steps.{reads_on, all_split, StuckAt, stuck_here, stuck_through}
use Rattle.xmp_syntax.specs.Spell.{◌at◌}
use Rattle.xmp_reader.specs.declared.depth.Depth.{Depth}
use Rattle.xmp_reader.specs.Kinds.{next_is, next_kind}
use Rattle.xmp_reader.specs.Going.{Comes}
use Rattle.xmp_reader.proofs.Taking.{read_one}
use Rattle.xmp_reader.proofs.Held.{finish_next}

-- a reading is the beginning of each that ends
begins_it : (s u : State) (ds : List ℕ) → Reads rule s ds u → step rule u ≡ halts → (v : State) (es : List ℕ) → Reads rule s es v → (fs : List ℕ) × (ds ≡ es ++ fs)
begins_it s u ds r h v es here = (ds, refl)
begins_it s u ds here h v es (onward {t = w} {ds = as'} {es = bs} e q) = let z : goes as' w ≡ halts = sym e ∙ h in cc
begins_it s u ds (onward {t = x} {ds = cs} {es = gs} f r) h v es (onward {t = w} {ds = as'} {es = bs} e q) =
    let z : goes cs x ≡ goes as' w = sym f ∙ e in
    let a : cs ≡ as' = cc in
    let b : x ≡ w = cc in
    let i = begins_it x u gs r h v bs (subst (λ (y : State). Reads rule y bs v) (sym b) q) in
    (i.0, ap (λ (l : List ℕ). l ++ gs) a ∙ (ap (λ (l : List ℕ). as' ++ l) i.1 ∙ sym (append_assoc as' bs i.0)))

-- No token of a text is too deep, where none is in a reading that ends.
pub shallow_whole : (ts : List Token) (ds : List ℕ) (u : State) → Reads rule (reading start program_rules ts) ds u → step rule u ≡ halts → All (λ d. d ≤ 128) ds → IsShallow ts
shallow_whole ts ds u r h w = λ es v q.
    let i = begins_it _ u ds r h v es q in
    (all_split es i.0 (subst (λ (l : List ℕ). All (λ d. d ≤ 128) l) i.1 w)).0

-- the end of the text is taken
pub finished : (s : State) (D : Depths) (K : List Rule) (k : Token) (ts : List Token) → is_finish k.kind ≡ true → now D ≤ 128 → Comes s (reading D (tok plain is_finish ∷ K) (k ∷ ts))
    → (ds : List ℕ) × Reads rule s ds (reading D K ts) × All (λ d. d ≤ 128) ds
finished s D K k ts h w c = (
  c.depths ++ now D ∷ [],
  reads_on s _ (reading D K ts) c.depths (now D ∷ []) c.reads (onward (ap (λ (b : Bool). cond b (goes (now D ∷ []) (reading D K ts)) halts) h) here),
  All-append (λ d. d ≤ 128) c.depths (now D ∷ []) c.shallow (All-cons (λ d. d ≤ 128) (now D) [] w (All-nil (λ d. d ≤ 128))),
)

-- a token behind the end of the text
pub behind_end : (s : State) (D : Depths) (ds : List ℕ) (k : Token) (ts : List Token) → Reads rule s ds (reading D [] (k ∷ ts)) → All (λ d. d ≤ 128) ds → StuckAt s (suc (length ts))
behind_end s D ds k ts r w = stuck_through s (reading D [] (k ∷ ts)) ds (suc (length ts)) r w (stuck_here D [] k ts refl)

pub finish_ok : (s : State) (d n : Depth) (ks : List Token) (k : Token) (ts : List Token) (L : List (ℕ × ℕ)) (K : List Rule) → ks ≡ k ∷ ts → next_is is_finish ks ≡ true → (n.now ≡ d.now) × (n.base ≡ d.base) × (n.now ≤ 128)
    → Comes s (reading (depths d.now d.base L) (tok plain is_finish ∷ K) ks) → (ds : List ℕ) × Reads rule s ds (reading (depths n.now n.base L) K ts) × All (λ d. d ≤ 128) ds
finish_ok s d n ks k ts L K q h a c =
    let v = finished s (depths d.now d.base L) K k ts (subst (λ (l : List Token). next_is is_finish l ≡ true) q h) (subst (λ (x : ℕ). x ≤ 128) a.0 a.2)
    (subst (λ (l : List Token). Comes s (reading (depths d.now d.base L) (tok plain is_finish ∷ K) l)) q c) in
    (v.0, subst (λ (x : ℕ). Reads rule s v.0 (reading (depths x n.base L) K ts)) (sym a.0) (subst (λ (x : ℕ). Reads rule s v.0 (reading (depths d.now x L) K ts)) (sym a.1) v.1), v.2)

pub finish_read : (ks : List Token) (k : Token) (ts : List Token) → ks ≡ k ∷ ts → next_is is_finish ks ≡ true → ks ≡ (t.Finish at k.at) ∷ ts
finish_read ks k ts q h = read_one ks k ts t.Finish q (finish_next ks h)
