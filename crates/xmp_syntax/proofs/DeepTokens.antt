-- The first token that is too deep: there is one at most, and none where a token before it begins no program.
use Rattle.std.proofs.Common.{◌≡◌, ◌≤◌, ◌<◌, ◌+◌, ℕ, suc, List, [], ◌∷◌, ◌++◌, length, All, refl, sym, ap, ◌∙◌, subst, append_assoc, arith}
use Rattle.std.proofs.lemmas.List.{length-append}
use Rattle.std.proofs.lemmas.List.Elements.{All-head}
use Rattle.xmp_lex.specs.declared.token.Token.{Token}
use Rattle.xmp_syntax.specs.Reading.{State, reading, Reads}
use Rattle.xmp_syntax.specs.Grammar.{rule}
use Rattle.xmp_syntax.specs.Refused.{Begins, Stuck, TooDeep, IsShallow, start, program_rules}
use Rattle.xmp_syntax.specs.Fronts.{IsFront, FirstBad}
use Rattle.xmp_syntax.specs.Steps.{regroup, all_split}
use Rattle.xmp_syntax.proofs.Fronts as fronts
use Rattle.xmp_syntax.proofs.Readings.{Fronts, first, second, one_way, counted, left_at, Agrees, with_bad, inside, agree}
use Rattle.xmp_syntax.proofs.Shorter.{shorter}

-- ---- two tokens too deep

not_among : (ds : List ℕ) (d : ℕ) (es : List ℕ) → All (λ d. d ≤ 128) (ds ++ d ∷ es) → 128 < d → ⊥
not_among ds d es w h =
    let a : d ≤ 128 = All-head (λ d. d ≤ 128) d es (all_split ds (d ∷ es) w).1 in
    omega (arith, a, h)

-- the same, where the depths before it and those behind are put together
not_in : (ds : List ℕ) (d : ℕ) (es fs : List ℕ) → All (λ d. d ≤ 128) fs → fs ≡ (ds ++ d ∷ []) ++ es → 128 < d → ⊥
not_in ds d es fs w q h =
    not_among ds d es (subst (λ (l : List ℕ). All (λ d. d ≤ 128) l) (q ∙ append_assoc ds (d ∷ []) es) w) h

one_end : (d e : ℕ) (gs es : List ℕ) → e ∷ [] ≡ gs ++ d ∷ es → es ≡ []
one_end d e [] es q = cc
one_end d e (x ∷ []) es q = cc
one_end d e (x ∷ y ∷ gs) es q = cc

-- the first that is too deep is the last of a list that is longer
first_deep : (ds : List ℕ) (d : ℕ) (es : List ℕ) (f : ℕ) (gs : List ℕ) → All (λ d. d ≤ 128) es → 128 < d → es ++ f ∷ [] ≡ (ds ++ d ∷ []) ++ gs → gs ≡ []
first_deep ds d es f gs w h q = no_more ds es w (q ∙ append_assoc ds (d ∷ []) gs)
  where
    no_more : (as' bs : List ℕ) → All (λ d. d ≤ 128) bs → bs ++ f ∷ [] ≡ as' ++ d ∷ gs → gs ≡ []
    no_more as' [] v p = one_end d f as' gs p
    no_more [] (b ∷ bs) v p =
        let c : b ≡ d = cc in
        let a : b ≤ 128 = All-head (λ d. d ≤ 128) b bs v in
        absurd (omega (arith, a, c, h))
    no_more (a ∷ as') (b ∷ bs) v p = no_more as' bs (all_split (b ∷ []) bs v).1 (cc)

-- where the depths of a reading are as many, so are the tokens that are left
as_many : (ts us vs : List Token) (ds es : List ℕ) → length ts ≡ length ds + length us → length ts ≡ length es + length vs → ds ≡ es
    → length us ≡ length vs
as_many ts us vs ds es a b q = let c : length ds ≡ length es = ap length q in omega (arith, a, b, c)

same_end : (ds es gs : List ℕ) → es ≡ ds ++ gs → gs ≡ [] → ds ≡ es
same_end ds es gs q e = sym (q ∙ (ap (λ (l : List ℕ). ds ++ l) e ∙ append_nil ds))
  where
    append_nil : (l : List ℕ) → l ++ [] ≡ l
    append_nil [] = refl
    append_nil (x ∷ l) = ap (λ (k : List ℕ). x ∷ k) (append_nil l)

-- tokens are too deep first at one place
pub one_deep : (ts : List Token) (left other : ℕ) → TooDeep start program_rules ts left → TooDeep start program_rules ts other → left ≡ other
one_deep ts left other x y =
    x.count ∙ (ap suc (as_many ts x.rest y.rest _ _ (counted _ _ _ x.reads) (counted _ _ _ y.reads) same) ∙ sym y.count)
  where
    by_length : Fronts (x.front ++ x.depth ∷ []) (y.front ++ y.depth ∷ []) → x.front ++ x.depth ∷ [] ≡ y.front ++ y.depth ∷ []
    by_length (first gs q) = same_end _ _ gs q (first_deep x.front x.depth y.front y.depth gs y.shallow x.deep q)
    by_length (second gs q) = sym (same_end _ _ gs q (first_deep y.front y.depth x.front x.depth gs x.shallow y.deep q))

    same : x.front ++ x.depth ∷ [] ≡ y.front ++ y.depth ∷ []
    same = by_length (one_way _ _ _ _ _ x.reads y.reads)

-- ---- a token too deep, and one that begins no program

pub stuck_or_deep : (ts : List Token) (left other : ℕ) → Stuck start program_rules ts left → TooDeep start program_rules ts other → ⊥
stuck_or_deep ts left other s x =
    by_agreement (agree start program_rules ts _ (x.front ++ x.depth ∷ []) x.reads s.front s.bad s.after s.whole s.begins.depths s.begins.now s.begins.left s.begins.reads)
  where
    by_agreement : Agrees start program_rules s.front s.bad s.after s.begins.depths (x.front ++ x.depth ∷ []) → ⊥
    by_agreement (with_bad more rest z b) =
        s.ends (shorter (s.front ++ s.bad ∷ []) more (subst (λ (l : List Token). Begins start program_rules l) (regroup s.front s.bad more) b))
    by_agreement (inside fs q) = not_in x.front x.depth fs s.begins.depths s.shallow q x.deep

-- ---- the first bad token, by readings and by trees

-- no reading of tokens that one reads shallow to their end gets deeper
all_shallow : (ts : List Token) (b : Begins start program_rules ts) → All (λ d. d ≤ 128) b.depths → IsShallow ts
all_shallow ts b w ds s r = by_length (one_way _ _ _ _ _ b.reads r)
  where
    no_more : (fs : List ℕ) → ds ≡ b.depths ++ fs → fs ≡ []
    no_more [] q = refl
    no_more (f ∷ fs) q =
        let a : length ts ≡ length b.depths + 0 = counted _ _ _ b.reads in
        let c : length ts ≡ length ds + length (left_at s) = counted _ _ _ r in
        let d : length ds ≡ length b.depths + suc (length fs) = ap length q ∙ length-append b.depths (f ∷ fs) in
        absurd (omega (arith, a, c, d))

    by_length : Fronts b.depths ds → All (λ d. d ≤ 128) ds
    by_length (second fs q) = (all_split ds fs (subst (λ (l : List ℕ). All (λ d. d ≤ 128) l) q w)).0
    by_length (first fs q) = subst (λ (l : List ℕ). All (λ d. d ≤ 128) l) (same_end b.depths ds fs q (no_more fs q)) w

-- where the grammar stops, the fronts of trees do
pub stuck_front : (ts : List Token) (left : ℕ) → Stuck start program_rules ts left → FirstBad ts left
stuck_front ts left s = record {
  front = s.front;
  bad = s.bad;
  after = s.after;
  whole = s.whole;
  count = s.count;
  begins = fronts.front s.front s.begins;
  shallow = all_shallow s.front s.begins s.shallow;
  ends = λ f. s.ends (fronts.begins (s.front ++ s.bad ∷ []) f);
}

pub front_stuck : (ts : List Token) (left : ℕ) → FirstBad ts left → Stuck start program_rules ts left
front_stuck ts left s =
    let b = fronts.begins s.front s.begins in
    record {
      front = s.front;
      bad = s.bad;
      after = s.after;
      whole = s.whole;
      count = s.count;
      begins = b;
      shallow = s.shallow b.depths (reading b.now b.left []) b.reads;
      ends = λ c. s.ends (fronts.front (s.front ++ s.bad ∷ []) c);
    }
