-- Readings that come to one place by silent steps.
use Rattle.std.proofs.Common.{◌≡◌, ◌≤◌, ◌<◌, ℕ, Bool, true, false, List, [], ◌∷◌, ◌++◌, length, All, refl, sym, ap, ◌∙◌, subst, arith}
use Rattle.std.proofs.lemmas.List.Elements.{All-nil, All-append}
use Rattle.xmp_lex.specs.declared.token.Token.{Token}
use Rattle.xmp_syntax.specs.Reading.{Rule, Depths, State, reading, Step, goes, step, Reads, here, onward}
use Rattle.xmp_syntax.specs.Grammar.{rule}
use Rattle.xmp_syntax.specs.Refused.{Begins, Stuck, TooDeep}
use Rattle.xmp_syntax.specs.Steps.{reads_on, begins_nothing, stuck_through, deep_through}
use Rattle.xmp_reader.specs.declared.reader.Stop.{Stop}
use Rattle.xmp_reader.specs.declared.reader.Stop.TheVariants as stop
use Rattle.xmp_reader.specs.Going.{has_finish, left_at, Comes, Refused}

-- each reading comes to where it begins
pub itself : (s : State) → has_finish (left_at s) ≡ true → Comes s s
itself s f = record { depths = []; reads = here; shallow = All-nil (λ d. d ≤ 128); finish = f }

-- one reading behind another
pub comes_on : (s u v : State) → Comes s u → Comes u v → Comes s v
comes_on s u v a b = record {
  depths = a.depths ++ b.depths;
  reads = reads_on s u v a.depths b.depths a.reads b.reads;
  shallow = All-append (λ d. d ≤ 128) a.depths b.depths a.shallow b.shallow;
  finish = b.finish;
}

pub refused_on : (s u : State) (e : Stop) → Comes s u → Refused u e → Refused s e
refused_on s u stop.NoMemory c h = tt
refused_on s u (stop.Unexpected left) c h = stuck_through s u c.depths left c.reads c.shallow h
refused_on (reading D K ts) (reading E M us) (stop.TooDeep left) c h = deep_through D K ts E M us c.depths left c.reads c.shallow h

-- A reading without its first step, which is silent.
without_first : (v u x : State) (es : List ℕ) → Reads rule v es x → step rule v ≡ goes [] u → (v ≡ x → es ≡ [] → ⊥) → Reads rule u es x
without_first v u x es here e h = absurd (h refl refl)
without_first v u x es (onward {t = y} {ds = as'} {es = bs} f r) e h =
    let z : goes as' y ≡ goes [] u = sym f ∙ e in
    let a : as' ≡ [] = cc in
    let b : y ≡ u = cc in
    subst (λ (l : List ℕ). Reads rule u (l ++ bs) x) (sym a) (subst (λ (k : State). Reads rule k bs x) b r)

-- a step that no tokens behind the next one change
abbrev pub Silent : List Rule → Depths → Token → List Rule → Type 0
Silent N D k M = (us : List Token) → step rule (reading D N (k ∷ us)) ≡ goes [] (reading D M (k ∷ us))

same_length : (a b : List Token) → a ≡ b → length b < length a → ⊥
same_length a b e h = let q : length a ≡ length b = ap length e in omega (arith, q, h)

pub comes_behind : (D : Depths) (N M : List Rule) (k : Token) (ts : List Token) (E : Depths) (K : List Rule) (us : List Token) → Silent N D k M → length us < length (k ∷ ts)
    → Comes (reading D N (k ∷ ts)) (reading E K us) → Comes (reading D M (k ∷ ts)) (reading E K us)
comes_behind D N M k ts E K us h l c = record {
  depths = c.depths;
  reads = without_first (reading D N (k ∷ ts)) (reading D M (k ∷ ts)) (reading E K us) c.depths c.reads (h ts) (λ q i. same_length (k ∷ ts) us (let z : k ∷ ts ≡ us = cc in z) l);
  shallow = c.shallow;
  finish = c.finish;
}

begins_one : (D : Depths) (N M : List Rule) (k : Token) (ts : List Token) → Silent N D k M → Begins D M (k ∷ ts) → Begins D N (k ∷ ts)
begins_one D N M k ts h b = record { depths = [] ++ b.depths; now = b.now; left = b.left; reads = onward (h ts) b.reads }

no_token : (x : Token) (xs : List Token) → x ∷ xs ≡ [] → ⊥
no_token x xs e = cc

stuck_of : (D : Depths) (N M : List Rule) (k : Token) (ts : List Token) (left : ℕ) → Silent N D k M → (front : List Token) (bad : Token) (after : List Token) → k ∷ ts ≡ front ++ bad ∷ after → left ≡ length (bad ∷ after)
    → (b : Begins D N front) → All (λ d. d ≤ 128) b.depths → (Begins D N (front ++ bad ∷ []) → ⊥) → Stuck D M (k ∷ ts) left
stuck_of D N M k ts left h [] bad after w c b a e =
    let q : k ≡ bad = cc in
    record {
      front = [];
      bad = bad;
      after = after;
      whole = w;
      count = c;
      begins = begins_nothing D M;
      shallow = All-nil (λ d. d ≤ 128);
      ends = λ x. e (begins_one D N M bad [] (subst (λ (y : Token). Silent N D y M) q h) x);
    }
stuck_of D N M k ts left h (x ∷ front) bad after w c b a e =
    let q : k ≡ x = cc in
    let g : Silent N D x M = subst (λ (y : Token). Silent N D y M) q h in
    record {
      front = x ∷ front;
      bad = bad;
      after = after;
      whole = w;
      count = c;
      begins = record {
        depths = b.depths;
        now = b.now;
        left = b.left;
        reads = without_first (reading D N (x ∷ front)) (reading D M (x ∷ front)) (reading b.now b.left []) b.depths b.reads (g front) (λ z i. no_token x front (let y : x ∷ front ≡ [] = cc in y));
      };
      shallow = a;
      ends = λ y. e (begins_one D N M x (front ++ bad ∷ []) g y);
    }

not_nil : (xs : List ℕ) (d : ℕ) → xs ++ d ∷ [] ≡ [] → ⊥
not_nil [] d e = cc
not_nil (x ∷ xs) d e = cc

pub refused_behind : (D : Depths) (N M : List Rule) (k : Token) (ts : List Token) (e : Stop) → Silent N D k M → Refused (reading D N (k ∷ ts)) e → Refused (reading D M (k ∷ ts)) e
refused_behind D N M k ts stop.NoMemory h S = tt
refused_behind D N M k ts (stop.Unexpected left) h S = stuck_of D N M k ts left h S.front S.bad S.after S.whole S.count S.begins S.shallow S.ends
refused_behind D N M k ts (stop.TooDeep left) h S = record {
  front = S.front;
  depth = S.depth;
  now = S.now;
  rules = S.rules;
  rest = S.rest;
  reads = without_first _ (reading D M (k ∷ ts)) _ (S.front ++ S.depth ∷ []) S.reads (h ts) (λ q i. not_nil S.front S.depth i);
  count = S.count;
  shallow = S.shallow;
  deep = S.deep;
}
