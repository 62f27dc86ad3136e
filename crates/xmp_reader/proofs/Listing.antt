-- Lists of parts that are read so far.
use Rattle.std.proofs.Common.{◌≡◌, ◌≤◌, ◌<◌, ℕ, Bool, true, false, cond, List, [], ◌∷◌, ◌++◌, length, refl, sym, ap, ◌∙◌, subst, arith}
use Rattle.std.specs.Prelude.{⊤}
use Rattle.xmp_lex.specs.declared.token.Token.{Token}
use Rattle.xmp_syntax.specs.Parts.{Part}
use Rattle.xmp_syntax.specs.Reading.{Test, Effect, Rule, mark, behind, part, ◌·◌, choice, many, Depths, State, reading, goes, step}
use Rattle.xmp_syntax.specs.Grammar.{rule}
use Rattle.xmp_syntax.specs.Spell.{each}
use Rattle.xmp_syntax.specs.Fits.{Each}
use Rattle.xmp_reader.specs.declared.reader.Reader.{Reader}
use Rattle.xmp_reader.specs.Going.{Comes, stands}
use Rattle.xmp_reader.specs.Kinds.{next_is}
use Rattle.xmp_reader.specs.SoFar.{Onward}
use Rattle.xmp_reader.proofs.Taking.{silent}

-- The reading comes from one reader to the other, and the tokens between are those of the list.
pub record ListSoFar (A : Type 0) (R : Rule) (text : A → List Token → List Token) (fit : A → Type 0) (r : Reader) (xs : List A) (rest : Reader) : Type 0 where
  pub goes : Onward R r rest
  pub reads : r.tokens.now ≡ each text xs rest.tokens.now
  pub fits : Each fit xs
  pub shorter : length rest.tokens.now ≤ length r.tokens.now

pub each_more : (A : Type 0) (text : A → List Token → List Token) (xs : List A) (x : A) (r : List Token) → each text (xs ++ x ∷ []) r ≡ each text xs (text x r)
each_more A text [] x r = refl
each_more A text (y ∷ xs) x r = ap (λ (l : List Token). text y l) (each_more A text xs x r)

pub each_both : (A : Type 0) (text : A → List Token → List Token) (xs ys : List A) (r : List Token) → each text (xs ++ ys) r ≡ each text xs (each text ys r)
each_both A text [] ys r = refl
each_both A text (y ∷ xs) ys r = ap (λ (l : List Token). text y l) (each_both A text xs ys r)

pub fits_more : (A : Type 0) (fit : A → Type 0) (xs : List A) (x : A) → Each fit xs → fit x → Each fit (xs ++ x ∷ [])
fits_more A fit [] x a b = (b, tt)
fits_more A fit (y ∷ xs) x a b = (a.0, fits_more A fit xs x a.1 b)

pub none_so_far : (A : Type 0) (R : Rule) (text : A → List Token → List Token) (fit : A → Type 0) (r : Reader) → ListSoFar A R text fit r [] r
none_so_far A R text fit r = record { goes = λ s L K w. w; reads = refl; fits = tt; shorter = omega arith }

pub one_more : (A : Type 0) (R : Rule) (text : A → List Token → List Token) (fit : A → Type 0) (r : Reader) (xs : List A) (mid rest : Reader) (x : A)
    → ListSoFar A R text fit r xs mid → Onward R mid rest → mid.tokens.now ≡ text x rest.tokens.now → fit x → length rest.tokens.now < length mid.tokens.now
    → ListSoFar A R text fit r (xs ++ x ∷ []) rest
one_more A R text fit r xs mid rest x a g q f h = record {
  goes = λ s L K w. g s L K (a.goes s L K w);
  reads = a.reads ∙ ap (λ (l : List Token). each text xs l) q ∙ sym (each_more A text xs x rest.tokens.now);
  fits = fits_more A fit xs x a.fits f;
  shorter = let z = a.shorter in omega arith;
}

-- Silent steps that leave the rules behind them whole.
shown : (s : State) (D : Depths) (K M : List Rule) (ts : List Token) → ((k : Token) (us : List Token) → step rule (reading D K (k ∷ us)) ≡ goes [] (reading D M (k ∷ us)))
    → Comes s (reading D K ts) → Comes s (reading D M ts)
shown s D K M [] h c = let f = c.finish in cc
shown s D K M (k ∷ ts) h c = silent s _ _ (h k ts) refl c

pub split : {s : State} {D : Depths} {a b : Rule} {K : List Rule} {ts : List Token} → Comes s (reading D ((a · b) ∷ K) ts) → Comes s (reading D (a ∷ b ∷ K) ts)
split {s = s} {D = D} {a = a} {b = b} {K = K} {ts = ts} c = shown s D _ _ ts (λ k us. refl) c

pub whole : {s : State} {D : Depths} {P : Part} {K : List Rule} {ts : List Token} → Comes s (reading D (part P ∷ K) ts) → Comes s (reading D (rule P ∷ K) ts)
whole {s = s} {D = D} {P = P} {K = K} {ts = ts} c = shown s D _ _ ts (λ k us. refl) c

pub once_more : {s : State} {D : Depths} {q : Test} {a : Rule} {K : List Rule} {ts : List Token} → next_is q ts ≡ true → Comes s (reading D (many q a ∷ K) ts) → Comes s (reading D (a ∷ many q a ∷ K) ts)
once_more {s = s} {D = D} {q = q} {a = a} {K = K} {ts = []} h c = cc
once_more {s = s} {D = D} {q = q} {a = a} {K = K} {ts = k ∷ ts} h c =
    silent s _ _ (ap (λ (x : Bool). goes [] (reading D (cond x (a ∷ many q a ∷ K) K) (k ∷ ts))) h) refl c

pub if_so : {s : State} {D : Depths} {q : Test} {a b : Rule} {K : List Rule} {ts : List Token} → next_is q ts ≡ true → Comes s (reading D (choice q a b ∷ K) ts) → Comes s (reading D (a ∷ K) ts)
if_so {s = s} {D = D} {q = q} {a = a} {b = b} {K = K} {ts = []} h c = cc
if_so {s = s} {D = D} {q = q} {a = a} {b = b} {K = K} {ts = k ∷ ts} h c =
    silent s _ _ (ap (λ (x : Bool). goes [] (reading D (cond x a b ∷ K) (k ∷ ts))) h) refl c

pub if_not : {s : State} {D : Depths} {q : Test} {a b : Rule} {K : List Rule} {ts : List Token} → next_is q ts ≡ false → Comes s (reading D (choice q a b ∷ K) ts) → Comes s (reading D (b ∷ K) ts)
if_not {s = s} {D = D} {q = q} {a = a} {b = b} {K = K} {ts = []} h c = let f = c.finish in cc
if_not {s = s} {D = D} {q = q} {a = a} {b = b} {K = K} {ts = k ∷ ts} h c =
    silent s _ _ (ap (λ (x : Bool). goes [] (reading D (cond x a b ∷ K) (k ∷ ts))) h) refl c

-- a counted statement begins, or ends
pub entered : {s : State} {D : Depths} {e : Effect} {K : List Rule} {ts : List Token} → Comes s (reading D (mark e ∷ K) ts) → Comes s (reading (behind e D) K ts)
entered {s = s} {D = D} {e = e} {K = K} {ts = []} c = let f = c.finish in cc
entered {s = s} {D = D} {e = e} {K = K} {ts = k ∷ ts} c = silent s _ _ refl refl c
