-- One token of a reading is taken, or refused.
use Rattle.std.proofs.Common.{◌≡◌, ◌≤◌, ◌<◌, ℕ, suc, Bool, true, false, cond, List, [], ◌∷◌, ◌++◌, length, All, refl, sym, ap, ◌∙◌, subst, arith, Option, None, Some}
use Rattle.std.specs.Prelude.{◌||◌}
use Rattle.std.proofs.lemmas.List.Elements.{All-nil, All-cons, All-append}
use Rattle.xmp_lex.specs.declared.token.Token.{Token}
use Rattle.xmp_lex.specs.declared.token.TokenKind.{TokenKind}
use Rattle.xmp_lex.specs.declared.token.TokenKind.TheVariants as t
use Rattle.xmp_syntax.specs.Reading.{Test, Effect, plain, operator, separator, opening, closing, cast, enter, Rule, tok, mark, Depths, depths, now, behind, State, reading, Step, goes, halts, step, Reads, here, onward}
use Rattle.xmp_syntax.specs.Grammar.{rule, is_finish}
use Rattle.xmp_syntax.specs.Steps.{reads_on, StuckAt, TooDeepAt, stuck_here, stuck_through, deep_here, deep_through}
use Rattle.xmp_reader.specs.declared.depth.Depth.{Depth}
use Rattle.xmp_reader.specs.declared.effect.Effect as code
use Rattle.xmp_reader.specs.declared.effect.Effect.TheVariants as e
use Rattle.xmp_reader.specs.Depths.{now_behind, base_behind}
use Rattle.xmp_reader.specs.Going.{has_finish, left_at, Comes}
use Rattle.xmp_reader.specs.Kinds.{next_is, next_kind}
use Rattle.xmp_syntax.specs.Spell.{◌at◌}
use Rattle.xmp_reader.specs.Effects.{taking, now_before, base_before, around, around_behind}

-- what passes a test that the end of the text does not pass is not the end of the text
pub not_finish : (p : Test) (k : TokenKind) → p t.Finish ≡ false → p k ≡ true → is_finish k ≡ false
not_finish p (t.Name a) f h = refl
not_finish p (t.Word a) f h = refl
not_finish p (t.Number a b) f h = refl
not_finish p (t.Text a) f h = refl
not_finish p (t.Mark a) f h = refl
not_finish p (t.Define a) f h = refl
not_finish p t.Pragma f h = refl
not_finish p t.Close f h = refl
not_finish p t.Finish f h = let c : true ≡ false = sym h ∙ f in cc

later : (b c : Bool) → b ≡ false → b || c ≡ true → c ≡ true
later true c e f = cc
later false c e f = f

-- a silent step
pub silent : (s u v : State) → step rule u ≡ goes [] v → left_at u ≡ left_at v → Comes s u → Comes s v
silent s u v e q c = record {
  depths = c.depths ++ [];
  reads = reads_on s u v c.depths [] c.reads (onward e here);
  shallow = All-append (λ d. d ≤ 128) c.depths [] c.shallow (All-nil (λ d. d ≤ 128));
  finish = ap has_finish (sym q) ∙ c.finish;
}

-- the token is taken
pub one : (x : Effect) (p : Test) (D : Depths) (K : List Rule) (k : Token) (ts : List Token) (s : State)
    → p k.kind ≡ true → p t.Finish ≡ false → now (behind x D) ≤ 128 → Comes s (reading D (tok x p ∷ K) (k ∷ ts)) → Comes s (reading (behind x D) K ts)
one x p D K k ts s h f w c =
    let d = now (behind x D) in
    record {
      depths = c.depths ++ d ∷ [];
      reads = reads_on s (reading D (tok x p ∷ K) (k ∷ ts)) (reading (behind x D) K ts) c.depths (d ∷ []) c.reads
          (onward (ap (λ b. cond b (goes (d ∷ []) (reading (behind x D) K ts)) halts) h) here);
      shallow = All-append (λ d. d ≤ 128) c.depths (d ∷ []) c.shallow (All-cons (λ d. d ≤ 128) d [] w (All-nil (λ d. d ≤ 128)));
      finish = later (is_finish k.kind) (has_finish ts) (not_finish p k.kind f h) c.finish;
    }

-- it is too deep
pub one_deep : (x : Effect) (p : Test) (D : Depths) (K : List Rule) (k : Token) (ts : List Token) (s : State)
    → p k.kind ≡ true → 128 < now (behind x D) → Comes s (reading D (tok x p ∷ K) (k ∷ ts)) → TooDeepAt s (suc (length ts))
one_deep x p D K k ts (reading E M us) h w c =
    deep_through E M us D (tok x p ∷ K) (k ∷ ts) c.depths (suc (length ts)) c.reads c.shallow
    (deep_here D (tok x p ∷ K) k ts (now (behind x D)) (behind x D) K (ap (λ b. cond b (goes (now (behind x D) ∷ []) (reading (behind x D) K ts)) halts) h) w)

-- it is another
pub one_stuck : (x : Effect) (p : Test) (D : Depths) (K : List Rule) (k : Token) (ts : List Token) (s : State)
    → p k.kind ≡ false → Comes s (reading D (tok x p ∷ K) (k ∷ ts)) → StuckAt s (suc (length ts))
one_stuck x p D K k ts s h c =
    stuck_through s (reading D (tok x p ∷ K) (k ∷ ts)) c.depths (suc (length ts)) c.reads c.shallow
    (stuck_here D (tok x p ∷ K) k ts (ap (λ b. cond b (goes (now (behind x D) ∷ []) (reading (behind x D) K [])) halts) h))

-- the depths that the code counts
pub same_depths : (n b m c : ℕ) (L : List (ℕ × ℕ)) (K : List Rule) (ts : List Token) (s : State) → n ≡ m → b ≡ c → Comes s (reading (depths m c L) K ts) → Comes s (reading (depths n b L) K ts)
same_depths n b m c L K ts s p q w = subst (λ (x : ℕ). Comes s (reading (depths x b L) K ts)) (sym p) (subst (λ (x : ℕ). Comes s (reading (depths m x L) K ts)) (sym q) w)

-- The token is taken, for each effect.
pub taken : (x : code.Effect) (p : Test) (d n : Depth) (k : Token) (ts : List Token) (s : State) (L : List (ℕ × ℕ)) (K : List Rule)
    → p k.kind ≡ true → p t.Finish ≡ false → n.now ≡ now_behind d x → n.base ≡ base_behind d x → n.now ≤ 128
    → Comes s (reading (depths (now_before d x) (base_before d x) (around d x L)) (taking x p K) (k ∷ ts)) → Comes s (reading (depths n.now n.base (around_behind d x L)) K ts)
taken e.Plain p d n k ts s L K h f a b w c = same_depths _ _ _ _ L K ts s a b (one plain p _ K k ts s h f (subst (λ (z : ℕ). z ≤ 128) a w) c)
taken e.Operator p d n k ts s L K h f a b w c = same_depths _ _ _ _ L K ts s a b (one operator p _ K k ts s h f (subst (λ (z : ℕ). z ≤ 128) a w) c)
taken e.Separator p d n k ts s L K h f a b w c = same_depths _ _ _ _ L K ts s a b (one separator p _ K k ts s h f (subst (λ (z : ℕ). z ≤ 128) a w) c)
taken e.Opening p d n k ts s L K h f a b w c = same_depths _ _ _ _ _ K ts s a b (one opening p _ K k ts s h f (subst (λ (z : ℕ). z ≤ 128) a w) c)
taken (e.Closing o) p d n k ts s L K h f a b w c = same_depths _ _ _ _ L K ts s a b (one closing p _ K k ts s h f (subst (λ (z : ℕ). z ≤ 128) a w) c)
taken (e.Cast o) p d n k ts s L K h f a b w c = same_depths _ _ _ _ L K ts s a b (one cast p _ K k ts s h f (subst (λ (z : ℕ). z ≤ 128) a w) c)
taken e.Entering p d n k ts s L K h f a b w c =
    same_depths _ _ _ _ _ K ts s a b (one plain p _ K k ts s h f (subst (λ (z : ℕ). z ≤ 128) a w) c)

pub taken_deep : (x : code.Effect) (p : Test) (d : Depth) (k : Token) (ts : List Token) (s : State) (L : List (ℕ × ℕ)) (K : List Rule)
    → p k.kind ≡ true → 128 < now_behind d x
    → Comes s (reading (depths (now_before d x) (base_before d x) (around d x L)) (taking x p K) (k ∷ ts)) → TooDeepAt s (suc (length ts))
taken_deep e.Plain p d k ts s L K h w c = one_deep plain p _ K k ts s h w c
taken_deep e.Operator p d k ts s L K h w c = one_deep operator p _ K k ts s h w c
taken_deep e.Separator p d k ts s L K h w c = one_deep separator p _ K k ts s h w c
taken_deep e.Opening p d k ts s L K h w c = one_deep opening p _ K k ts s h w c
taken_deep (e.Closing o) p d k ts s L K h w c = one_deep closing p _ K k ts s h w c
taken_deep (e.Cast o) p d k ts s L K h w c = one_deep cast p _ K k ts s h w c
taken_deep e.Entering p d k ts s L K h w c = one_deep plain p _ K k ts s h w c

stuck_entering : (x : code.Effect) (p : Test) (d : Depth) (k : Token) (ts : List Token) (s : State) (L : List (ℕ × ℕ)) (K : List Rule)
    → p k.kind ≡ false
    → Comes s (reading (depths (now_before d x) (base_before d x) (around d x L)) (taking x p K) (k ∷ ts)) → StuckAt s (suc (length ts))
stuck_entering e.Plain p d k ts s L K h c = one_stuck plain p _ K k ts s h c
stuck_entering e.Operator p d k ts s L K h c = one_stuck operator p _ K k ts s h c
stuck_entering e.Separator p d k ts s L K h c = one_stuck separator p _ K k ts s h c
stuck_entering e.Opening p d k ts s L K h c = one_stuck opening p _ K k ts s h c
stuck_entering (e.Closing o) p d k ts s L K h c = one_stuck closing p _ K k ts s h c
stuck_entering (e.Cast o) p d k ts s L K h c = one_stuck cast p _ K k ts s h c
stuck_entering e.Entering p d k ts s L K h c = one_stuck plain p _ K k ts s h c

-- The next token doesn't pass the test.
pub taken_stuck : (x : code.Effect) (p : Test) (d : Depth) (ks : List Token) (s : State) (L : List (ℕ × ℕ)) (K : List Rule)
    → next_is p ks ≡ false
    → Comes s (reading (depths (now_before d x) (base_before d x) (around d x L)) (taking x p K) ks) → StuckAt s (length ks)
taken_stuck x p d [] s L K h c = let f = c.finish in cc
taken_stuck x p d (k ∷ ts) s L K h c = stuck_entering x p d k ts s L K h c

-- The same of a reader.
pub past_ok : (x : code.Effect) (p : Test) (d n : Depth) (ks : List Token) (k : Token) (ts : List Token) (s : State) (L : List (ℕ × ℕ)) (K : List Rule)
    → ks ≡ k ∷ ts → next_is p ks ≡ true → p t.Finish ≡ false → (n.now ≡ now_behind d x) × (n.base ≡ base_behind d x) × (n.now ≤ 128)
    → Comes s (reading (depths (now_before d x) (base_before d x) (around d x L)) (taking x p K) ks) → Comes s (reading (depths n.now n.base (around_behind d x L)) K ts)
past_ok x p d n ks k ts s L K q h f a c =
    taken x p d n k ts s L K (subst (λ (l : List Token). next_is p l ≡ true) q h) f a.0 a.1 a.2 (subst (λ (l : List Token). Comes s (reading (depths (now_before d x) (base_before d x) (around d x L)) (taking x p K) l)) q c)

pub past_deep : (x : code.Effect) (p : Test) (d : Depth) (ks : List Token) (k : Token) (ts : List Token) (s : State) (L : List (ℕ × ℕ)) (K : List Rule)
    → ks ≡ k ∷ ts → next_is p ks ≡ true → 128 < now_behind d x
    → Comes s (reading (depths (now_before d x) (base_before d x) (around d x L)) (taking x p K) ks) → TooDeepAt s (length ks)
past_deep x p d ks k ts s L K q h w c =
    subst (λ (l : List Token). TooDeepAt s (length l)) (sym q)
    (taken_deep x p d k ts s L K (subst (λ (l : List Token). next_is p l ≡ true) q h) w (subst (λ (l : List Token). Comes s (reading (depths (now_before d x) (base_before d x) (around d x L)) (taking x p K) l)) q c))

pub past_none : (p : Test) (ks : List Token) → ks ≡ [] → next_is p ks ≡ true → ⊥
past_none p [] q h = cc
past_none p (k ∷ ks) q h = cc

-- the token, by its kind
pub read_one : (ks : List Token) (k : Token) (ts : List Token) (a : TokenKind) → ks ≡ k ∷ ts → next_kind ks ≡ Some a → ks ≡ (a at k.at) ∷ ts
read_one [] k ts a q h = cc
read_one (x ∷ xs) k ts a q h =
    let z : x ≡ k = cc in
    let y : xs ≡ ts = cc in
    let w : x.kind ≡ a = cc in
    let v : x ≡ (a at k.at) = ap (λ (j : TokenKind). j at x.at) w ∙ ap (λ (j : Token). a at j.at) z in
    ap (λ (j : Token). j ∷ xs) v ∙ ap (λ (l : List Token). (a at k.at) ∷ l) y
