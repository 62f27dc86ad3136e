-- What the rules of the grammar spell, and that a reading of all tokens of a text is the front of such a spelling.
use Rattle.std.proofs.Common.{◌≡◌, ℕ, Bool, true, false, cond, ◌&&◌, List, [], ◌∷◌, ◌++◌, ◌⊎◌, inl, inr, refl, sym, ap, ◌∙◌, subst}
use Rattle.std.specs.Prelude.{⊤}
use Rattle.xmp_base.specs.declared.place.Place.{Place}
use Rattle.xmp_lex.specs.declared.token.Token.{Token}
use Rattle.xmp_lex.specs.declared.token.TokenKind.{TokenKind}
use Rattle.xmp_syntax.specs.Parts.{Part}
use Rattle.xmp_syntax.specs.Parts as p
use Rattle.xmp_syntax.specs.Reading.{Test, Effect, opening, Rule, nothing, tok, mark, part, by, ◌·◌, choice, many, pair, Depths, behind, now, State, reading, Step, goes, halts, step, pair_step, Reads, here, onward}
use Rattle.xmp_syntax.specs.Grammar.{rule}
use Rattle.xmp_syntax.specs.Spell.{◌at◌}
use Rattle.xmp_syntax.proofs.Done.{Not}

-- the place of a token that is made
abbrev pub nowhere : Place
nowhere = record { line = 1; column = 1 }

both : (x y : Bool) → x && y ≡ true → (x ≡ true) × (y ≡ true)
both true true e = (refl, refl)
both true false e = cc
both false y e = cc

-- one after another, as long as tokens pass the test
pub data Many (S : List Token → List Token → Type 0) : List Token → List Token → Type 0 where
  stop : (ts : List Token) → Many S ts ts
  more : (ts mid rest : List Token) → S ts mid → Many S mid rest → Many S ts rest

-- Made P: what is made of a part; make: of each spelling of its rule.
module _ (Made : Part → List Token → List Token → Type 0) where
  -- The text before the rest is spelled by the rule.
  abbrev pub Spelled : Rule → List Token → List Token → Type 0
  Spelled nothing ts rest = ts ≡ rest
  Spelled (tok e q) ts rest = (x : Token) × (q x.kind ≡ true) × (ts ≡ x ∷ rest)
  Spelled (mark e) ts rest = ts ≡ rest
  Spelled (part P) ts rest = Made P ts rest
  Spelled (by f) ts rest = (k : TokenKind) × Made (f k) ts rest
  Spelled (r · s) ts rest = (mid : List Token) × Spelled r ts mid × Spelled s mid rest
  Spelled (choice q r s) ts rest = Spelled r ts rest ⊎ (Not q ts × Spelled s ts rest)
  Spelled (many q r) ts rest = Many (Spelled r) ts rest
  Spelled (pair q q' r) ts rest = (ts ≡ rest) ⊎ ((x y : Token) × (q x.kind ≡ true) × (q' y.kind ≡ true) × (mid : List Token) × (ts ≡ x ∷ y ∷ mid) × Spelled r mid rest)

  abbrev pub Whole : List Rule → List Token → Type 0
  Whole [] ts = ts ≡ []
  Whole (r ∷ K) ts = (mid : List Token) × Spelled r ts mid × Whole K mid

  -- Each token of a rule stands for some, and each part has a spelling.
  abbrev pub Good : Rule → Type 0
  Good nothing = ⊤
  Good (tok e q) = (k : TokenKind) × (q k ≡ true)
  Good (mark e) = ⊤
  Good (part P) = (rest : List Token) → (ts : List Token) × Made P ts rest
  Good (by f) = (k : TokenKind) × ((rest : List Token) → (ts : List Token) × Made (f k) ts rest)
  Good (r · s) = Good r × Good s
  Good (choice q r s) = Good r × Good s
  Good (many q r) = (k : TokenKind) → q k ≡ true → Good r
  Good (pair q q' r) = Good r

  abbrev pub AllGood : List Rule → Type 0
  AllGood [] = ⊤
  AllGood (r ∷ K) = Good r × AllGood K

  -- the same at a place of a reading, and behind a step
  abbrev pub WholeAt : State → List Token → Type 0
  WholeAt (reading D K ts) vs = Whole K (ts ++ vs)

  abbrev WholeStep : Step → List Token → Type 0
  WholeStep (goes ds s) vs = WholeAt s vs
  WholeStep halts vs = ⊥

  -- all good, or no way on before the next token
  abbrev pub GoodAt : State → Type 0
  GoodAt (reading D K []) = AllGood K
  GoodAt (reading D K (x ∷ ts)) = AllGood K ⊎ (step rule (reading D K (x ∷ ts)) ≡ halts)

  abbrev GoodStep : Step → Type 0
  GoodStep (goes ds s) = GoodAt s
  GoodStep halts = ⊤

  all_good : (D : Depths) (K : List Rule) (ts : List Token) → AllGood K → GoodAt (reading D K ts)
  all_good D K [] g = g
  all_good D K (x ∷ ts) g = inl g

  -- A rule that is good has a spelling before every rest.
  pub total : (r : Rule) → Good r → (rest : List Token) → (ts : List Token) × Spelled r ts rest
  total nothing g rest = (rest, refl)
  total (tok e q) g rest = (g.0 at nowhere ∷ rest, (g.0 at nowhere, g.1, refl))
  total (mark e) g rest = (rest, refl)
  total (part P) g rest = g rest
  total (by f) g rest = let w = g.1 rest in (w.0, (g.0, w.1))
  total (r · s) g rest = let b = total s g.1 rest in let a = total r g.0 b.0 in (a.0, (b.0, a.1, b.1))
  total (choice q r s) g rest = let a = total r g.0 rest in (a.0, inl a.1)
  total (many q r) g rest = (rest, stop rest)
  total (pair q q' r) g rest = (rest, inl refl)

  finish : (K : List Rule) → AllGood K → (ts : List Token) × Whole K ts
  finish [] g = ([], refl)
  finish (r ∷ K) g = let k = finish K g.1 in let a = total r g.0 k.0 in (a.0, (k.0, a.1, k.1))

  choose : (q : Test) (b : Bool) (x : Token) (r s : Rule) (K : List Rule) (ts : List Token) → q x.kind ≡ b → Whole (cond b r s ∷ K) (x ∷ ts) → Whole (choice q r s ∷ K) (x ∷ ts)
  choose q true x r s K ts h w = (w.0, inl w.1, w.2)
  choose q false x r s K ts h w = (w.0, inr (h, w.1), w.2)

  again : (q : Test) (b : Bool) (r : Rule) (K : List Rule) (ts : List Token) → Whole (cond b (r ∷ many q r ∷ K) K) ts → Whole (many q r ∷ K) ts
  again q true r K ts w = (w.2.0, more ts w.0 w.2.0 w.1 w.2.1, w.2.2)
  again q false r K ts w = (ts, stop ts, w)

  taken : (e : Effect) (q : Test) (b : Bool) (D : Depths) (K : List Rule) (x : Token) (ts vs : List Token) → q x.kind ≡ b
      → WholeStep (cond b (goes (now (behind e D) ∷ []) (reading (behind e D) K ts)) halts) vs → Whole (tok e q ∷ K) (x ∷ ts ++ vs)
  taken e q true D K x ts vs h w = (ts ++ vs, (x, h, refl), w)
  taken e q false D K x ts vs h w = absurd w

  paired : (q q' : Test) (b : Bool) (D : Depths) (r : Rule) (K : List Rule) (x y : Token) (ts vs : List Token) → q x.kind && q' y.kind ≡ b
      → WholeStep (pair_step b D r K x y ts) vs → Whole (pair q q' r ∷ K) (x ∷ y ∷ ts ++ vs)
  paired q q' true D r K x y ts vs h w = let k = both (q x.kind) (q' y.kind) h in (w.0, inr (x, y, k.0, k.1, ts ++ vs, refl, w.1), w.2)
  paired q q' false D r K x y ts vs h w = (x ∷ y ∷ ts ++ vs, inl refl, w)

  good_taken : (e : Effect) (b : Bool) (D : Depths) (K : List Rule) (ts : List Token) → AllGood K → GoodStep (cond b (goes (now (behind e D) ∷ []) (reading (behind e D) K ts)) halts)
  good_taken e true D K ts g = all_good (behind e D) K ts g
  good_taken e false D K ts g = tt

  good_choice : (b : Bool) (r s : Rule) (K : List Rule) → Good r → Good s → AllGood K → AllGood (cond b r s ∷ K)
  good_choice true r s K g h k = (g, k)
  good_choice false r s K g h k = (h, k)

  good_many : (b : Bool) (q : Test) (x : Token) (r : Rule) (K : List Rule) → q x.kind ≡ b → ((j : TokenKind) → q j ≡ true → Good r) → AllGood K → AllGood (cond b (r ∷ many q r ∷ K) K)
  good_many true q x r K h g k = (g x.kind h, (g, k))
  good_many false q x r K h g k = k

  good_pair : (b : Bool) (D : Depths) (r : Rule) (K : List Rule) (x y : Token) (ts : List Token) → Good r → AllGood K → GoodStep (pair_step b D r K x y ts)
  good_pair true D r K x y ts g k = all_good (behind opening D) (r ∷ K) ts (g, k)
  good_pair false D r K x y ts g k = inl k

  module _ (make : (P : Part) (ts rest : List Token) → Spelled (rule P) ts rest → Made P ts rest) (good : (P : Part) → (P ≡ p.no_part) ⊎ Good (rule P)) (none : (ts rest : List Token) → Made p.no_part ts rest → ⊥) where
    -- What is spelled behind a step is spelled before it.
    back : (D : Depths) (K : List Rule) (ts vs : List Token) → WholeStep (step rule (reading D K ts)) vs → Whole K (ts ++ vs)
    back D [] ts vs w = absurd w
    back D (r ∷ K) [] vs w = absurd w
    back D (nothing ∷ K) (x ∷ ts) vs w = (x ∷ ts ++ vs, refl, w)
    back D (tok e q ∷ K) (x ∷ ts) vs w = taken e q (q x.kind) D K x ts vs refl w
    back D (mark e ∷ K) (x ∷ ts) vs w = (x ∷ ts ++ vs, refl, w)
    back D (part P ∷ K) (x ∷ ts) vs w = (w.0, make P (x ∷ ts ++ vs) w.0 w.1, w.2)
    back D (by f ∷ K) (x ∷ ts) vs w = (w.0, (x.kind, make (f x.kind) (x ∷ ts ++ vs) w.0 w.1), w.2)
    back D ((r · s) ∷ K) (x ∷ ts) vs w = (w.2.0, (w.0, w.1, w.2.1), w.2.2)
    back D (choice q r s ∷ K) (x ∷ ts) vs w = choose q (q x.kind) x r s K (ts ++ vs) refl w
    back D (many q r ∷ K) (x ∷ ts) vs w = again q (q x.kind) r K (x ∷ ts ++ vs) w
    back D (pair q q' r ∷ K) (x ∷ []) vs w = (x ∷ vs, inl refl, w)
    back D (pair q q' r ∷ K) (x ∷ y ∷ ts) vs w = paired q q' (q x.kind && q' y.kind) D r K x y ts vs refl w

    some_part : (P : Part) → ((rest : List Token) → (ts : List Token) × Made P ts rest) → Good (rule P)
    some_part P g = elim (good P) [
      | inl e ↦ (let v = g [] in absurd (none v.0 [] (subst (λ (Q : Part). Made Q v.0 []) e v.1)))
      | inr h ↦ h
    ]

    good_by : (D : Depths) (P : Part) (K : List Rule) (x : Token) (ts : List Token) → AllGood K → GoodAt (reading D (rule P ∷ K) (x ∷ ts))
    good_by D P K x ts g = elim (good P) [
      | inl e ↦ inr (ap (λ (Q : Part). step rule (reading D (rule Q ∷ K) (x ∷ ts))) e)
      | inr h ↦ inl (h, g)
    ]

    good_step : (D : Depths) (K : List Rule) (ts : List Token) → AllGood K → GoodStep (step rule (reading D K ts))
    good_step D [] ts g = tt
    good_step D (r ∷ K) [] g = tt
    good_step D (nothing ∷ K) (x ∷ ts) g = inl g.1
    good_step D (tok e q ∷ K) (x ∷ ts) g = good_taken e (q x.kind) D K ts g.1
    good_step D (mark e ∷ K) (x ∷ ts) g = inl g.1
    good_step D (part P ∷ K) (x ∷ ts) g = inl (some_part P g.0, g.1)
    good_step D (by f ∷ K) (x ∷ ts) g = good_by D (f x.kind) K x ts g.1
    good_step D ((r · s) ∷ K) (x ∷ ts) g = inl (g.0.0, (g.0.1, g.1))
    good_step D (choice q r s ∷ K) (x ∷ ts) g = inl (good_choice (q x.kind) r s K g.0.0 g.0.1 g.1)
    good_step D (many q r ∷ K) (x ∷ ts) g = inl (good_many (q x.kind) q x r K refl g.0 g.1)
    good_step D (pair q q' r ∷ K) (x ∷ []) g = inl g.1
    good_step D (pair q q' r ∷ K) (x ∷ y ∷ ts) g = good_pair (q x.kind && q' y.kind) D r K x y ts g.0 g.1

    on : (D : Depths) (K : List Rule) (ts : List Token) (s : State) (ds : List ℕ) → step rule (reading D K ts) ≡ goes ds s → GoodAt (reading D K ts) → GoodAt s
    on D K [] s ds e g = subst (λ (z : Step). GoodStep z) e (good_step D K [] g)
    on D K (x ∷ ts) s ds e (inl g) = subst (λ (z : Step). GoodStep z) e (good_step D K (x ∷ ts) g)
    on D K (x ∷ ts) s ds e (inr h) = let z : goes ds s ≡ halts = sym e ∙ h in cc

    at_end : (D : Depths) (K : List Rule) (ts : List Token) (E : Depths) (M : List Rule) → GoodAt (reading D K ts) → reading D K ts ≡ reading E M [] → (vs : List Token) × Whole K (ts ++ vs)
    at_end D K [] E M g e = finish K g
    at_end D K (x ∷ ts) E M g e = cc

    pub is_front : (s u : State) (ds : List ℕ) → Reads rule s ds u → GoodAt s → (E : Depths) (M : List Rule) → u ≡ reading E M [] → (vs : List Token) × WholeAt s vs
    is_front (reading D K ts) u ds here g E M e = at_end D K ts E M g e
    is_front (reading D K ts) u ds (onward {t = v} {ds = as'} {es = bs} h r) g E M e =
        let w = is_front v u bs r (on D K ts v as' h g) E M e in
        (w.0, back D K ts w.0 (subst (λ (z : Step). WholeStep z w.0) (sym h) w.1))
