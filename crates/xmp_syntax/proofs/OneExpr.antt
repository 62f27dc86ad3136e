-- Expressions that fit and have the same kinds of tokens have one shape; with the same tokens they are equal.
use Rattle.std.proofs.Common.{◌≡◌, ◌≤◌, ◌<◌, ℕ, zero, suc, ◌+◌, ◌*◌, Bool, true, false, ◌&&◌, nat_le, List, [], ◌∷◌, length, inl, inr, refl, sym, ap, ◌∙◌, subst, arith}
use Rattle.std.proofs.lemmas.Bool.Decides.{nat_tests}
use Rattle.xmp_base.specs.declared.place.Place.{Place}
use Rattle.xmp_lex.specs.declared.token.Token.{Token}
use Rattle.xmp_lex.specs.declared.token.TokenKind.{TokenKind}
use Rattle.xmp_lex.specs.declared.token.TokenKind.TheVariants as t
use Rattle.xmp_lex.specs.declared.token.Mark.{Mark}
use Rattle.xmp_lex.specs.declared.token.Mark.TheVariants as m
use Rattle.xmp_syntax.specs.Reading.{Test}
use Rattle.xmp_syntax.proofs.OneTokens.{Exact, apart, name_is, type_is, number_is, call_is, parens_is, unary_is, cast_is, conditional_is, ref_is, subscript_is, image_is, arguments_is, comma_is, link_is}
use Rattle.xmp_syntax.specs.Grammar.{is_mark, mark_binds, is_unary_mark}
use Rattle.xmp_syntax.specs.Trees.{Expr, number, read, call, parens, unary, cast, chain, conditional, Ref, ref, Subscripts, no_more, subscript, Image, no_image, image, Arguments, no_arguments, arguments, Rest, end, comma, Links, last, link}
use Rattle.xmp_syntax.specs.Spell.{◌at◌, spell, spell_ref, spell_subscripts, spell_image, spell_arguments, spell_rest, spell_links, type_word}
use Rattle.xmp_syntax.specs.Fits.{Fits, FitsRef, FitsSubscripts, FitsImage, FitsArguments, FitsRest, FitsLinks, level_of, links_level}
use Rattle.xmp_syntax.specs.Shape.{Shapes, token, group, done, ◌▸◌, shape, ref_shape, subscripts_shape, image_shape, arguments_shape, rest_shape, links_shape, kinds}
use Rattle.xmp_syntax.proofs.Done.{Not}
use Rattle.xmp_syntax.proofs.TokenFacts.{starts, within, Ends, EndsExpr, ends_less, ends_operator, ends_bracket, ends_paren, colon_free}
use Rattle.xmp_syntax.proofs.Exprs.{first_of, le_or_same, links_low, ref_first, image_first, ends_colon}

-- at least one token more
mutual
  pub long : (e : Expr) (r : List Token) → length r < length (spell e r)
  long (number p n ty) r = omega arith
  long (read x) r = long_ref x r
  long (call f o xs c) r = omega (arith, long_arguments xs (t.Mark m.CloseParen at c ∷ r))
  long (parens o e c) r = omega (arith, long e (t.Mark m.CloseParen at c ∷ r))
  long (unary op p e) r = omega (arith, long e r)
  long (cast o ty p c e) r = omega (arith, long e r)
  long (chain e ls) r = omega (arith, long e (spell_links ls r), long_links ls r)
  long (conditional x p y q z) r =
      omega (arith, long x (t.Mark m.Question at p ∷ spell y (t.Mark m.Colon at q ∷ spell z r)), long y (t.Mark m.Colon at q ∷ spell z r), long z r)

  pub long_ref : (x : Ref) (r : List Token) → length r < length (spell_ref x r)
  long_ref (ref n ds i) r = omega (arith, long_subscripts ds (spell_image i r), long_image i r)

  pub long_subscripts : (ds : Subscripts) (r : List Token) → length r ≤ length (spell_subscripts ds r)
  long_subscripts no_more r = omega arith
  long_subscripts (subscript o e c ds) r = omega (arith, long e (t.Mark m.CloseBracket at c ∷ spell_subscripts ds r), long_subscripts ds r)

  pub long_image : (i : Image) (r : List Token) → length r ≤ length (spell_image i r)
  long_image no_image r = omega arith
  long_image (image p o e c) r = omega (arith, long e (t.Mark m.CloseBracket at c ∷ r))

  pub long_arguments : (xs : Arguments) (r : List Token) → length r ≤ length (spell_arguments xs r)
  long_arguments no_arguments r = omega arith
  long_arguments (arguments e es) r = omega (arith, long e (spell_rest es r), long_rest es r)

  pub long_rest : (es : Rest) (r : List Token) → length r ≤ length (spell_rest es r)
  long_rest end r = omega arith
  long_rest (comma p e es) r = omega (arith, long e (spell_rest es r), long_rest es r)

  pub long_links : (ls : Links) (r : List Token) → length r ≤ length (spell_links ls r)
  long_links last r = omega arith
  long_links (link op p e ls) r = omega (arith, long e (spell_links ls r), long_links ls r)

-- a token that fails a test is none that passes it
pub no_first : (p : Test) (k : TokenKind) (us : List Token) (ks : List TokenKind) → p k ≡ true → Not p us → kinds us ≡ k ∷ ks → ⊥
no_first p k [] ks h n e = n
no_first p k (u ∷ us) ks h n e = let q : u.kind ≡ k = cc in let w : p u.kind ≡ true = ap p q ∙ h in cc

pub first_kind : (e : Expr) → Fits e → (r : List Token) (k : TokenKind) (ks : List TokenKind) → kinds (spell e r) ≡ k ∷ ks → starts k ≡ true
first_kind e F r k ks h =
    let f = first_of e F r in
    let z : kinds (f.0 ∷ f.1) ≡ k ∷ ks = ap kinds (sym f.2) ∙ h in
    let q : f.0.kind ≡ k = cc in ap starts (sym q) ∙ f.3

in_level : (b n : ℕ) → b ≡ suc n → nat_le 1 b && nat_le b (suc n) ≡ true
in_level b n h = grind (arith, nat_tests)

-- what ends a level begins with no operator of it
no_link : (op : Mark) (n : ℕ) (c : Bool) (r : List Token) (ks : List TokenKind) → mark_binds op ≡ suc n → Ends (suc n) c r → kinds r ≡ t.Mark op ∷ ks → ⊥
no_link op n c [] ks b en e = en
no_link op n c (x ∷ r) ks b en e =
    let q : x.kind ≡ t.Mark op = cc in
    let w : within (suc n) x.kind ≡ true = ap (within (suc n)) q ∙ in_level (mark_binds op) n b in
    let f : within (suc n) x.kind ≡ false = en.2 in cc

no_image_first : (c : Bool) (r : List Token) (ks : List TokenKind) → Ends 0 c r → kinds r ≡ t.Mark m.Colon ∷ t.Mark m.OpenBracket ∷ ks → ⊥
no_image_first c [] ks en e = en
no_image_first false (x ∷ r) ks en e = let q : x.kind ≡ t.Mark m.Colon = cc in let w : is_mark m.Colon x.kind ≡ true = ap (is_mark m.Colon) q in let f : is_mark m.Colon x.kind ≡ false = en.3 in cc
no_image_first true (x ∷ []) ks en e = cc
no_image_first true (x ∷ u ∷ r) ks en e =
    let q : x.kind ≡ t.Mark m.Colon = cc in
    let k : u.kind ≡ t.Mark m.OpenBracket = cc in
    let w : is_mark m.Colon x.kind && is_mark m.OpenBracket u.kind ≡ true = ap (λ v. is_mark m.Colon v && is_mark m.OpenBracket u.kind) q ∙ ap (is_mark m.OpenBracket) k in
    let f : is_mark m.Colon x.kind && is_mark m.OpenBracket u.kind ≡ false = en.3 in cc

unary_no_paren : (op : Mark) → is_unary_mark op ≡ true → t.Mark op ≡ t.Mark m.OpenParen → ⊥
unary_no_paren op h e = let q : op ≡ m.OpenParen = cc in let w : is_unary_mark m.OpenParen ≡ true = subst (λ (v : Mark). is_unary_mark v ≡ true) q h in cc

-- an expression as an operand with links of the level above m
abbrev join : Expr → Links → Expr
join e last = e
join e (link op p x ls) = chain e (link op p x ls)

record Split (m : ℕ) (c : Bool) (x : Expr) (r : List Token) : Type 0 where
  head : Expr
  links : Links
  same : x ≡ join head links
  text : spell x r ≡ spell head (spell_links links r)
  fits : Fits head
  low : level_of head ≤ m
  all : FitsLinks (suc m) links

alone : (m : ℕ) (c : Bool) (x : Expr) (r : List Token) → Fits x → level_of x ≤ m → Split m c x r
alone m c x r F h = record { head = x; links = last; same = refl; text = refl; fits = F; low = h; all = tt }

split_chain : (m : ℕ) (c : Bool) (e : Expr) (ls : Links) (r : List Token) → Fits (chain e ls) → links_level ls ≡ suc m → Split m c (chain e ls) r
split_chain m c e last r F q = absurd (omega arith)
split_chain m c e (link op p x ls) r F q =
    record { head = e; links = link op p x ls; same = refl; text = refl; fits = F.1; low = omega (arith, F.0); all = subst (λ (v : ℕ). FitsLinks v (link op p x ls)) q F.2 }

split : (m : ℕ) (c : Bool) (x : Expr) (r : List Token) → Fits x → level_of x ≤ suc m → suc m ≤ 10 → Split m c x r
split m c (chain e ls) r F h k = elim (le_or_same (links_level ls) m h) [
  | inl q ↦ alone m c (chain e ls) r F q
  | inr q ↦ split_chain m c e ls r F q
]
split m c (conditional x p y q z) r F h k = absurd (omega arith)
split m c x r F h k = alone m c x r F (omega arith)

join_shape : (x y : Expr) (ls ms : Links) → shape x ≡ shape y → links_shape ls ≡ links_shape ms → shape (join x ls) ≡ shape (join y ms)
join_shape x y last last h k = h
join_shape x y last (link op p e ms) h k = cc
join_shape x y (link op p e ls) last h k = cc
join_shape x y (link op p e ls) (link op' p' e' ms) h k = ap group (ap (λ v. v ▸ links_shape (link op p e ls)) h ∙ ap (λ v. shape y ▸ v) k)

ends_links : (n : ℕ) (c : Bool) (ls : Links) (r : List Token) → FitsLinks (suc n) ls → Ends (suc n) c r → Ends n c (spell_links ls r)
ends_links n c last r F en = ends_less n c r en
ends_links n c (link op p e ls) r F en = ends_operator op n c p (spell e (spell_links ls r)) F.0

ends_rest : (es : Rest) (r : List Token) → EndsExpr false r → EndsExpr false (spell_rest es r)
ends_rest end r en = en
ends_rest (comma p e es) r en = ((refl, refl, refl, refl), refl)

-- f bounds the tokens and the level
mutual
  pub same : (f n : ℕ) (c : Bool) (x y : Expr) (r s : List Token) → 16 * length (spell x r) + n < f → Fits x → Fits y → level_of x ≤ n → level_of y ≤ n → n ≤ 10 → Ends n c r → Ends n c s
      → kinds (spell x r) ≡ kinds (spell y s) → (shape x ≡ shape y) × (kinds r ≡ kinds s) × Exact spell x y r s
  same zero n c x y r s b F G h i k en em e = absurd (omega arith)
  same (suc f) zero c x y r s b F G h i k en em e = same_operand f c x y r s (omega arith) F G h i en em e
  same (suc f) (suc n) c x y r s b F G h i k en em e =
      let a = split n c x r F h k in
      let d = split n c y s G i k in
      let l : length (spell x r) ≡ length (spell a.head (spell_links a.links r)) = ap length a.text in
      let z : kinds (spell a.head (spell_links a.links r)) ≡ kinds (spell d.head (spell_links d.links s)) = ap kinds (sym a.text) ∙ e ∙ ap kinds d.text in
      let q = same f n c a.head d.head (spell_links a.links r) (spell_links d.links s) (omega arith) a.fits d.fits a.low d.low (omega arith)
      (ends_links n c a.links r a.all en) (ends_links n c d.links s d.all em) z in
      let w = same_links f n c a.links d.links r s (omega (arith, long a.head (spell_links a.links r))) a.all d.all (omega arith) en em q.1 in
      (ap shape a.same ∙ join_shape a.head d.head a.links d.links q.0 w.0 ∙ ap shape (sym d.same), w.1, λ h. let g = q.2 (sym a.text ∙ h ∙ d.text) in let k = w.2 g.1 in (a.same ∙ ap (λ v. join v a.links) g.0 ∙ ap (join d.head) k.0 ∙ sym d.same, k.1))

  same_links : (f n : ℕ) (c : Bool) (x y : Links) (r s : List Token) → 16 * length (spell_links x r) + n < f → FitsLinks (suc n) x → FitsLinks (suc n) y → n ≤ 10 → Ends (suc n) c r → Ends (suc n) c s
      → kinds (spell_links x r) ≡ kinds (spell_links y s) → (links_shape x ≡ links_shape y) × (kinds r ≡ kinds s) × Exact spell_links x y r s
  same_links zero n c x y r s b F G k en em e = absurd (omega arith)
  same_links (suc f) n c last last r s b F G k en em e = (refl, e, λ h. (refl, h))
  same_links (suc f) n c last (link op p x ls) r s b F G k en em e = absurd (no_link op n c r _ G.0 en e)
  same_links (suc f) n c (link op p x ls) last r s b F G k en em e = absurd (no_link op n c s _ F.0 em (sym e))
  same_links (suc f) n c (link op p x ls) (link op' p' y ms) r s b F G k en em e =
      let z : kinds (spell x (spell_links ls r)) ≡ kinds (spell y (spell_links ms s)) = cc in
      let o : t.Mark op ≡ t.Mark op' = cc in
      let q = same f n c x y (spell_links ls r) (spell_links ms s) (omega arith) F.2 G.2 (omega (arith, F.1)) (omega (arith, G.1)) k (ends_links n c ls r F.3 en) (ends_links n c ms s G.3 em) z in
      let w = same_links f n c ls ms r s (omega (arith, long x (spell_links ls r))) F.3 G.3 k en em q.1 in
      (ap (λ v. token v ▸ shape x ▸ links_shape ls) o ∙ ap (λ v. token (t.Mark op') ▸ v ▸ links_shape ls) q.0 ∙ ap (λ v. token (t.Mark op') ▸ shape y ▸ v) w.0, w.1, λ h. let t = apart h in let g = q.2 t.2 in let j = w.2 g.1 in (link_is t.0 t.1 g.0 j.0, j.1))

  -- whole expressions
  pub same_full : (f : ℕ) (c : Bool) (x y : Expr) (r s : List Token) → 16 * length (spell x r) + 11 < f → Fits x → Fits y → EndsExpr c r → EndsExpr c s
      → kinds (spell x r) ≡ kinds (spell y s) → (shape x ≡ shape y) × (kinds r ≡ kinds s) × Exact spell x y r s
  same_full zero c x y r s b F G en em e = absurd (omega arith)
  same_full (suc f) c (conditional x p y q z) (conditional x' p' y' q' z') r s b F G en em e =
      let u : List Token = t.Mark m.Colon at q ∷ spell z r in
      let v : List Token = t.Mark m.Colon at q' ∷ spell z' s in
      let ux : List Token = t.Mark m.Question at p ∷ spell y u in
      let vx : List Token = t.Mark m.Question at p' ∷ spell y' v in
      let l1 = long x ux in
      let l2 = long y u in
      let a = same f 10 c x x' ux vx (omega arith) F.1 G.1 F.0 G.0 (omega arith) (refl, refl, refl, colon_free c (t.Mark m.Question) (spell y u) refl) (refl, refl, refl, colon_free c (t.Mark m.Question) (spell y' v) refl) e in
      let e1 : kinds (spell y u) ≡ kinds (spell y' v) = (let k = a.1 in cc) in
      let d = same_full f true y y' u v (omega (arith, l1, l2)) F.2 G.2 (ends_colon q z F.3 r) (ends_colon q' z' G.3 s) e1 in
      let e2 : kinds (spell z r) ≡ kinds (spell z' s) = (let k = d.1 in cc) in
      let w = same_full f c z z' r s (omega (arith, l1, l2)) F.3 G.3 en em e2 in (
        ap group (ap (λ k. k ▸ token (t.Mark m.Question) ▸ shape y ▸ token (t.Mark m.Colon) ▸ shape z ▸ done) a.0
            ∙ ap (λ k. shape x' ▸ token (t.Mark m.Question) ▸ k ▸ token (t.Mark m.Colon) ▸ shape z ▸ done) d.0
            ∙ ap (λ k. shape x' ▸ token (t.Mark m.Question) ▸ shape y' ▸ token (t.Mark m.Colon) ▸ k ▸ done) w.0),
        w.1,
        λ h. let g = a.2 h in let t = apart g.1 in let i = d.2 t.2 in let o = apart i.1 in let j = w.2 o.2 in (conditional_is g.0 t.1 i.0 o.1 j.0, j.1),
      )
  same_full (suc f) c (conditional x p y q z) (chain e' ls) r s b F G en em e =
      let u : List Token = t.Mark m.Question at p ∷ spell y (t.Mark m.Colon at q ∷ spell z r) in
      let l = long x u in
      let a = same f 10 c x (chain e' ls) u s (omega arith) F.1 G F.0 (links_low ls) (omega arith) (refl, refl, refl, colon_free c (t.Mark m.Question) (spell y (t.Mark m.Colon at q ∷ spell z r)) refl) em.0 e in
      absurd (no_first (is_mark m.Question) (t.Mark m.Question) s (kinds (spell y (t.Mark m.Colon at q ∷ spell z r))) refl em.1 (sym a.1))
  same_full (suc f) c (conditional x p y q z) y' r s b F G en em e =
      let u : List Token = t.Mark m.Question at p ∷ spell y (t.Mark m.Colon at q ∷ spell z r) in
      let l = long x u in
      let a = same f 10 c x y' u s (omega arith) F.1 G F.0 (omega arith) (omega arith) (refl, refl, refl, colon_free c (t.Mark m.Question) (spell y (t.Mark m.Colon at q ∷ spell z r)) refl) em.0 e in
      absurd (no_first (is_mark m.Question) (t.Mark m.Question) s (kinds (spell y (t.Mark m.Colon at q ∷ spell z r))) refl em.1 (sym a.1))
  same_full (suc f) c (chain e' ls) (conditional x p y q z) r s b F G en em e =
      let u : List Token = t.Mark m.Question at p ∷ spell y (t.Mark m.Colon at q ∷ spell z s) in
      let a = same f 10 c (chain e' ls) x r u (omega arith) F G.1 (links_low ls) G.0 (omega arith) en.0 (refl, refl, refl, colon_free c (t.Mark m.Question) (spell y (t.Mark m.Colon at q ∷ spell z s)) refl) e in
      absurd (no_first (is_mark m.Question) (t.Mark m.Question) r (kinds (spell y (t.Mark m.Colon at q ∷ spell z s))) refl en.1 a.1)
  same_full (suc f) c x' (conditional x p y q z) r s b F G en em e =
      let u : List Token = t.Mark m.Question at p ∷ spell y (t.Mark m.Colon at q ∷ spell z s) in
      let a = same f 10 c x' x r u (omega arith) F G.1 (omega arith) G.0 (omega arith) en.0 (refl, refl, refl, colon_free c (t.Mark m.Question) (spell y (t.Mark m.Colon at q ∷ spell z s)) refl) e in
      absurd (no_first (is_mark m.Question) (t.Mark m.Question) r (kinds (spell y (t.Mark m.Colon at q ∷ spell z s))) refl en.1 a.1)
  same_full (suc f) c (chain e' ls) (chain e2 ms) r s b F G en em e = same f 10 c (chain e' ls) (chain e2 ms) r s (omega arith) F G (links_low ls) (links_low ms) (omega arith) en.0 em.0 e
  same_full (suc f) c (chain e' ls) y r s b F G en em e = same f 10 c (chain e' ls) y r s (omega arith) F G (links_low ls) (omega arith) (omega arith) en.0 em.0 e
  same_full (suc f) c x (chain e2 ms) r s b F G en em e = same f 10 c x (chain e2 ms) r s (omega arith) F G (omega arith) (links_low ms) (omega arith) en.0 em.0 e
  same_full (suc f) c x y r s b F G en em e = same f 10 c x y r s (omega arith) F G (omega arith) (omega arith) (omega arith) en.0 em.0 e

  -- operands
  same_operand : (f : ℕ) (c : Bool) (x y : Expr) (r s : List Token) → 16 * length (spell x r) + 0 < suc f → Fits x → Fits y → level_of x ≤ 0 → level_of y ≤ 0 → Ends 0 c r → Ends 0 c s
      → kinds (spell x r) ≡ kinds (spell y s) → (shape x ≡ shape y) × (kinds r ≡ kinds s) × Exact spell x y r s
  same_operand zero c x y r s b F G h i en em e = absurd (omega (arith, long x r))
  same_operand (suc f) c (chain e' ls) y r s b F G h i en em e = absurd (omega (arith, F.0))
  same_operand (suc f) c x (chain e' ls) r s b F G h i en em e = absurd (omega (arith, G.0))
  same_operand (suc f) c (conditional x p y' q z) y r s b F G h i en em e = absurd (omega arith)
  same_operand (suc f) c x (conditional x' p y q z) r s b F G h i en em e = absurd (omega arith)
  same_operand (suc f) c (number p n ty) (number p' n' ty') r s b F G h i en em e =
      let k : t.Number n ty ≡ t.Number n' ty' = cc in (ap (λ v. group (token v ▸ done)) k, cc, λ h. let t = apart h in (number_is t.0 t.1, t.2))
  same_operand (suc f) c (read x) (read y) r s b F G h i en em e = let w = same_ref f c x y r s b F G en em e in (ap group (w.0 done), w.1, λ h. let g = w.2 h in (ap read g.0, g.1))
  same_operand (suc f) c (read (ref n ds i)) (call v o xs z) r s b F G h j en em e =
      absurd (no_first (is_mark m.OpenParen) (t.Mark m.OpenParen) (spell_subscripts ds (spell_image i r)) (kinds (spell_arguments xs (t.Mark m.CloseParen at z ∷ s))) refl (ref_first ds i r (ends_paren 0 c r en)) (cc))
  same_operand (suc f) c (call v o xs z) (read (ref n ds i)) r s b F G h j en em e =
      absurd (no_first (is_mark m.OpenParen) (t.Mark m.OpenParen) (spell_subscripts ds (spell_image i s)) (kinds (spell_arguments xs (t.Mark m.CloseParen at z ∷ r))) refl (ref_first ds i s (ends_paren 0 c s em)) (cc))
  same_operand (suc f) c (call v o xs z) (call v' o' ys z') r s b F G h i en em e =
      let k : t.Name v.text ≡ t.Name v'.text = cc in
      let a : kinds (spell_arguments xs (t.Mark m.CloseParen at z ∷ r)) ≡ kinds (spell_arguments ys (t.Mark m.CloseParen at z' ∷ s)) = cc in
      let w = same_arguments f xs ys z z' r s (omega arith) F G a in (
        ap group (ap (λ u. token u ▸ token (t.Mark m.OpenParen) ▸ arguments_shape xs (token (t.Mark m.CloseParen) ▸ done)) k
            ∙ ap (λ u. token (t.Name v'.text) ▸ token (t.Mark m.OpenParen) ▸ u) (w.0 (token (t.Mark m.CloseParen) ▸ done))),
        w.1,
        λ h. let t = apart h in let j = apart t.2 in let g = w.2 j.2 in (call_is (name_is v v' t.0 t.1) j.1 g.0 g.1, g.2),
      )
  same_operand (suc f) c (parens o x z) (parens o' y z') r s b F G h i en em e =
      let a : kinds (spell x (t.Mark m.CloseParen at z ∷ r)) ≡ kinds (spell y (t.Mark m.CloseParen at z' ∷ s)) = cc in
      let w = same_full f false x y (t.Mark m.CloseParen at z ∷ r) (t.Mark m.CloseParen at z' ∷ s) (omega arith) F G ((refl, refl, refl, refl), refl) ((refl, refl, refl, refl), refl) a in
      (ap (λ u. group (token (t.Mark m.OpenParen) ▸ u ▸ token (t.Mark m.CloseParen) ▸ done)) w.0, (let k = w.1 in cc), λ h. let t = apart h in let g = w.2 t.2 in let j = apart g.1 in (parens_is t.1 g.0 j.1, j.2))
  same_operand (suc f) c (parens o x z) (cast o' ty p z' y) r s b F G h i en em e =
      let k : starts (t.Word (type_word ty)) ≡ true = first_kind x F (t.Mark m.CloseParen at z ∷ r) (t.Word (type_word ty)) (kinds (t.Mark m.CloseParen at z' ∷ spell y s)) (cc) in cc
  same_operand (suc f) c (cast o' ty p z' x) (parens o y z) r s b F G h i en em e =
      let k : starts (t.Word (type_word ty)) ≡ true = first_kind y G (t.Mark m.CloseParen at z ∷ s) (t.Word (type_word ty)) (kinds (t.Mark m.CloseParen at z' ∷ spell x r)) (cc) in cc
  same_operand (suc f) c (cast o ty p z x) (cast o' ty' p' z' y) r s b F G h i en em e =
      let k : t.Word (type_word ty) ≡ t.Word (type_word ty') = cc in
      let a : kinds (spell x r) ≡ kinds (spell y s) = cc in
      let w = same f 0 c x y r s (omega arith) F.1 G.1 F.0 G.0 (omega arith) en em a in (
        ap group (ap (λ u. token (t.Mark m.OpenParen) ▸ token u ▸ token (t.Mark m.CloseParen) ▸ shape x ▸ done) k
            ∙ ap (λ u. token (t.Mark m.OpenParen) ▸ token (t.Word (type_word ty')) ▸ token (t.Mark m.CloseParen) ▸ u ▸ done) w.0),
        w.1,
        λ h. let t = apart h in let i = apart t.2 in let j = apart i.2 in let g = w.2 j.2 in (cast_is t.1 (type_is ty ty' i.0) i.1 j.1 g.0, g.1),
      )
  same_operand (suc f) c (unary op p x) (unary op' p' y) r s b F G h i en em e =
      let k : t.Mark op ≡ t.Mark op' = cc in
      let a : kinds (spell x r) ≡ kinds (spell y s) = cc in
      let w = same f 0 c x y r s (omega arith) F.2 G.2 F.1 G.1 (omega arith) en em a in
      (ap group (ap (λ u. token u ▸ shape x ▸ done) k ∙ ap (λ u. token (t.Mark op') ▸ u ▸ done) w.0), w.1, λ h. let t = apart h in let g = w.2 t.2 in (unary_is t.0 t.1 g.0, g.1))
  same_operand (suc f) c (unary op p x) (parens o y z) r s b F G h i en em e = absurd (unary_no_paren op F.0 (cc))
  same_operand (suc f) c (unary op p x) (cast o ty q z y) r s b F G h i en em e = absurd (unary_no_paren op F.0 (cc))
  same_operand (suc f) c (parens o x z) (unary op p y) r s b F G h i en em e = absurd (unary_no_paren op G.0 (let k : t.Mark m.OpenParen ≡ t.Mark op = cc in sym k))
  same_operand (suc f) c (cast o ty q z x) (unary op p y) r s b F G h i en em e = absurd (unary_no_paren op G.0 (let k : t.Mark m.OpenParen ≡ t.Mark op = cc in sym k))
  same_operand (suc f) c (number p n ty) (read (ref v ds i)) r s b F G h j en em e = cc
  same_operand (suc f) c (read (ref v ds i)) (number p n ty) r s b F G h j en em e = cc
  same_operand (suc f) c (read (ref v ds i)) y r s b F G h j en em e = cc
  same_operand (suc f) c x (read (ref v ds i)) r s b F G h j en em e = cc
  same_operand (suc f) c x y r s b F G h i en em e = cc

  pub same_ref : (f : ℕ) (c : Bool) (x y : Ref) (r s : List Token) → 16 * length (spell_ref x r) + 0 < suc (suc f) → FitsRef x → FitsRef y → Ends 0 c r → Ends 0 c s
      → kinds (spell_ref x r) ≡ kinds (spell_ref y s) → ((q : Shapes) → ref_shape x q ≡ ref_shape y q) × (kinds r ≡ kinds s) × Exact spell_ref x y r s
  same_ref zero c x y r s b F G en em e = absurd (omega (arith, long_ref x r))
  same_ref (suc f) c (ref n ds i) (ref n' es j) r s b F G en em e =
      let k : t.Name n.text ≡ t.Name n'.text = cc in
      let a : kinds (spell_subscripts ds (spell_image i r)) ≡ kinds (spell_subscripts es (spell_image j s)) = cc in
      let l = long_subscripts ds (spell_image i r) in
      let u = same_subscripts f ds es (spell_image i r) (spell_image j s) (omega arith) F.0 G.0 (image_first i r (ends_bracket 0 c r en)) (image_first j s (ends_bracket 0 c s em)) a in
      let w = same_image f c i j r s (omega (arith, l)) F.1 G.1 en em u.1 in (
        λ q. ap (λ v. token v ▸ subscripts_shape ds (image_shape i q)) k ∙ ap (λ v. token (t.Name n'.text) ▸ v) (u.0 (image_shape i q) ∙ ap (subscripts_shape es) (w.0 q)),
        w.1,
        λ h. let t = apart h in let g = u.2 t.2 in let o = w.2 g.1 in (ref_is (name_is n n' t.0 t.1) g.0 o.0, o.1),
      )

  same_subscripts : (f : ℕ) (x y : Subscripts) (r s : List Token) → 16 * length (spell_subscripts x r) + 1 < f → FitsSubscripts x → FitsSubscripts y → Not (is_mark m.OpenBracket) r → Not (is_mark m.OpenBracket) s
      → kinds (spell_subscripts x r) ≡ kinds (spell_subscripts y s) → ((q : Shapes) → subscripts_shape x q ≡ subscripts_shape y q) × (kinds r ≡ kinds s) × Exact spell_subscripts x y r s
  same_subscripts zero x y r s b F G h i e = absurd (omega arith)
  same_subscripts (suc f) no_more no_more r s b F G h i e = (λ q. refl, e, λ h. (refl, h))
  same_subscripts (suc f) no_more (subscript o y z es) r s b F G h i e = absurd (no_first (is_mark m.OpenBracket) (t.Mark m.OpenBracket) r _ refl h e)
  same_subscripts (suc f) (subscript o x z ds) no_more r s b F G h i e = absurd (no_first (is_mark m.OpenBracket) (t.Mark m.OpenBracket) s _ refl i (sym e))
  same_subscripts (suc f) (subscript o x z ds) (subscript o' y z' es) r s b F G h i e =
      let u : List Token = t.Mark m.CloseBracket at z ∷ spell_subscripts ds r in
      let v : List Token = t.Mark m.CloseBracket at z' ∷ spell_subscripts es s in
      let a : kinds (spell x u) ≡ kinds (spell y v) = cc in
      let w = same_full f false x y u v (omega arith) F.0 G.0 ((refl, refl, refl, refl), refl) ((refl, refl, refl, refl), refl) a in
      let l = long x u in
      let k = same_subscripts f ds es r s (omega (arith, l)) F.1 G.1 h i (let z = w.1 in cc) in (
        λ q. ap (λ v. token (t.Mark m.OpenBracket) ▸ v ▸ token (t.Mark m.CloseBracket) ▸ subscripts_shape ds q) w.0
            ∙ ap (λ v. token (t.Mark m.OpenBracket) ▸ shape y ▸ token (t.Mark m.CloseBracket) ▸ v) (k.0 q),
        k.1,
        λ h. let t = apart h in let g = w.2 t.2 in let j = apart g.1 in let n = k.2 j.2 in (subscript_is t.1 g.0 j.1 n.0, n.1),
      )

  same_image : (f : ℕ) (c : Bool) (x y : Image) (r s : List Token) → 16 * length (spell_image x r) + 1 < f → FitsImage x → FitsImage y → Ends 0 c r → Ends 0 c s
      → kinds (spell_image x r) ≡ kinds (spell_image y s) → ((q : Shapes) → image_shape x q ≡ image_shape y q) × (kinds r ≡ kinds s) × Exact spell_image x y r s
  same_image zero c x y r s b F G en em e = absurd (omega arith)
  same_image (suc f) c no_image no_image r s b F G en em e = (λ q. refl, e, λ h. (refl, h))
  same_image (suc f) c no_image (image p o y z) r s b F G en em e = absurd (no_image_first c r _ en e)
  same_image (suc f) c (image p o x z) no_image r s b F G en em e = absurd (no_image_first c s _ em (sym e))
  same_image (suc f) c (image p o x z) (image p' o' y z') r s b F G en em e =
      let a : kinds (spell x (t.Mark m.CloseBracket at z ∷ r)) ≡ kinds (spell y (t.Mark m.CloseBracket at z' ∷ s)) = cc in
      let w = same_full f false x y (t.Mark m.CloseBracket at z ∷ r) (t.Mark m.CloseBracket at z' ∷ s) (omega arith) F G ((refl, refl, refl, refl), refl) ((refl, refl, refl, refl), refl) a in (
        λ q. ap (λ v. token (t.Mark m.Colon) ▸ token (t.Mark m.OpenBracket) ▸ v ▸ token (t.Mark m.CloseBracket) ▸ q) w.0,
        (let k = w.1 in cc),
        λ h. let t = apart h in let i = apart t.2 in let g = w.2 i.2 in let j = apart g.1 in (image_is t.1 i.1 g.0 j.1, j.2),
      )

  pub same_arguments : (f : ℕ) (x y : Arguments) (z z' : Place) (r s : List Token) → 16 * length (spell_arguments x (t.Mark m.CloseParen at z ∷ r)) + 12 < f → FitsArguments x → FitsArguments y
      → kinds (spell_arguments x (t.Mark m.CloseParen at z ∷ r)) ≡ kinds (spell_arguments y (t.Mark m.CloseParen at z' ∷ s))
      → ((q : Shapes) → arguments_shape x q ≡ arguments_shape y q) × (kinds r ≡ kinds s)
      × (spell_arguments x (t.Mark m.CloseParen at z ∷ r) ≡ spell_arguments y (t.Mark m.CloseParen at z' ∷ s) → (x ≡ y) × (z ≡ z') × (r ≡ s))
  same_arguments zero x y z z' r s b F G e = absurd (omega arith)
  same_arguments (suc f) no_arguments no_arguments z z' r s b F G e = (λ q. refl, cc, λ h. let t = apart h in (refl, t.1, t.2))
  same_arguments (suc f) no_arguments (arguments y es) z z' r s b F G e =
      let k : starts (t.Mark m.CloseParen) ≡ true = first_kind y G.0 (spell_rest es (t.Mark m.CloseParen at z' ∷ s)) (t.Mark m.CloseParen) (kinds r) (sym e) in cc
  same_arguments (suc f) (arguments x es) no_arguments z z' r s b F G e =
      let k : starts (t.Mark m.CloseParen) ≡ true = first_kind x F.0 (spell_rest es (t.Mark m.CloseParen at z ∷ r)) (t.Mark m.CloseParen) (kinds s) e in cc
  same_arguments (suc f) (arguments x es) (arguments y fs) z z' r s b F G e =
      let u : List Token = t.Mark m.CloseParen at z ∷ r in
      let v : List Token = t.Mark m.CloseParen at z' ∷ s in
      let w = same_full f false x y (spell_rest es u) (spell_rest fs v) (omega arith) F.0 G.0 (ends_rest es u ((refl, refl, refl, refl), refl)) (ends_rest fs v ((refl, refl, refl, refl), refl)) e in
      let k = same_rest f es fs u v (omega (arith, long x (spell_rest es u))) F.1 G.1 ((refl, refl, refl, refl), refl) ((refl, refl, refl, refl), refl) refl refl w.1 in (
        λ q. ap (λ v. v ▸ rest_shape es q) w.0 ∙ ap (λ v. shape y ▸ v) (k.0 q),
        (let j = k.1 in cc),
        λ h. let g = w.2 h in let j = k.2 g.1 in let t = apart j.1 in (arguments_is g.0 j.0, t.1, t.2),
      )

  pub same_rest : (f : ℕ) (x y : Rest) (r s : List Token) → 16 * length (spell_rest x r) + 1 < f → FitsRest x → FitsRest y → EndsExpr false r → EndsExpr false s → Not (is_mark m.Comma) r → Not (is_mark m.Comma) s
      → kinds (spell_rest x r) ≡ kinds (spell_rest y s) → ((q : Shapes) → rest_shape x q ≡ rest_shape y q) × (kinds r ≡ kinds s) × Exact spell_rest x y r s
  same_rest zero x y r s b F G en em h i e = absurd (omega arith)
  same_rest (suc f) end end r s b F G en em h i e = (λ q. refl, e, λ h. (refl, h))
  same_rest (suc f) end (comma p y es) r s b F G en em h i e = absurd (no_first (is_mark m.Comma) (t.Mark m.Comma) r _ refl h e)
  same_rest (suc f) (comma p x es) end r s b F G en em h i e = absurd (no_first (is_mark m.Comma) (t.Mark m.Comma) s _ refl i (sym e))
  same_rest (suc f) (comma p x es) (comma p' y fs) r s b F G en em h i e =
      let a : kinds (spell x (spell_rest es r)) ≡ kinds (spell y (spell_rest fs s)) = cc in
      let w = same_full f false x y (spell_rest es r) (spell_rest fs s) (omega arith) F.0 G.0 (ends_rest es r en) (ends_rest fs s em) a in
      let k = same_rest f es fs r s (omega (arith, long x (spell_rest es r))) F.1 G.1 en em h i w.1 in (
        λ q. ap (λ v. token (t.Mark m.Comma) ▸ v ▸ rest_shape es q) w.0 ∙ ap (λ v. token (t.Mark m.Comma) ▸ shape y ▸ v) (k.0 q),
        k.1,
        λ h. let t = apart h in let g = w.2 t.2 in let j = k.2 g.1 in (comma_is t.1 g.0 j.0, j.1),
      )
