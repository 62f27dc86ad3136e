-- Lists that fit are read: behind commas, and in brackets.
use Rattle.std.proofs.Common.{◌≡◌, ◌≤◌, ◌<◌, ℕ, zero, suc, Bool, true, false, ◌&&◌, List, [], ◌∷◌, refl, sym, ap, ◌∙◌, subst, arith}
use Rattle.std.specs.Prelude.{not, ⊤}
use Rattle.xmp_base.specs.declared.place.Place.{Place}
use Rattle.xmp_lex.specs.declared.token.Token.{Token}
use Rattle.xmp_lex.specs.declared.token.TokenKind.TheVariants as t
use Rattle.xmp_lex.specs.declared.token.Mark.TheVariants as m
use Rattle.xmp_syntax.specs.declared.parts.Name.{Name}
use Rattle.xmp_syntax.specs.declared.parts.CommaList.{CommaList}
use Rattle.xmp_syntax.specs.declared.parts.Next as made
use Rattle.xmp_syntax.specs.declared.parts.Inside.{Inside}
use Rattle.xmp_syntax.specs.declared.parts.Several.{Several}
use Rattle.xmp_syntax.specs.declared.parts.Several.TheVariants as sev
use Rattle.xmp_syntax.specs.declared.parts.Single.{Single}
use Rattle.xmp_syntax.specs.declared.parts.Single.TheVariants as one
use Rattle.xmp_syntax.specs.Parts as p
use Rattle.xmp_syntax.specs.Reading.{Effect, closing, leave, Rule, tok, mark, part, ◌·◌, choice, many}
use Rattle.xmp_syntax.specs.Grammar as g
use Rattle.xmp_syntax.specs.Grammar.{is_mark}
use Rattle.xmp_syntax.specs.Spell.{Text, ◌at◌, each, next, list, dims, in_parens, several, single, names, name}
use Rattle.xmp_syntax.specs.Fits.{Each, FitsList, FitsDims, NotEmpty, FitsSomeDims, FitsSeveral, FitsAnySeveral, FitsSingle}
use Rattle.xmp_syntax.proofs.Done.{Next, fast, go, silent, Is, Not, choice_second, many_stop, many_more}
use Rattle.xmp_syntax.proofs.TokenFacts.{EndsExpr}

-- there is a token
abbrev pub NonEmpty : List Token → Type 0
NonEmpty [] = ⊥
NonEmpty (x ∷ xs) = ⊤

-- the end of a counted statement
pub leave_reads : (K : List Rule) (us : List Token) → NonEmpty us → Next K us → Next (mark leave ∷ K) us
leave_reads K [] h n = absurd h
leave_reads K (x ∷ xs) h n = fast 1 (λ E. go n)

-- A comma list, whose items ask for something of what follows.
module _ {A : Type 0} (f : A → Text) (r : Rule) (P : A → Type 0) (Follow : List Token → Type 0)
    (item : (x : A) → P x → (K : List Rule) (us : List Token) → Follow us → Next K us → Next (r ∷ K) (f x us))
    (comma : (q : Place) (us : List Token) → Follow (t.Mark m.Comma at q ∷ us)) where
  pub more_read : (xs : List (made.Next A)) → Each (λ y. P y.item) xs → (K : List Rule) (us : List Token) → Follow us → Not (is_mark m.Comma) us → Next K us
      → Follow (each (next f) xs us) × Next (many (is_mark m.Comma) (g.comma · r) ∷ K) (each (next f) xs us)
  more_read [] F K us w h n = (w, many_stop _ _ K us h n)
  more_read (x ∷ xs) F K us w h n =
      let a = more_read xs F.1 K us w h n in
      (comma x.comma (f x.item (each (next f) xs us)), fast 3 (λ E. go (item x.item F.0 (many (is_mark m.Comma) (g.comma · r) ∷ K) (each (next f) xs us) a.0 a.1)))

  pub list_reads : (x : CommaList A) → FitsList P x → (K : List Rule) (us : List Token) → Follow us → Not (is_mark m.Comma) us → Next K us → Next (g.list r ∷ K) (list f x us)
  list_reads x F K us w h n =
      let a = more_read x.more F.1 K us w h n in
      silent 1 (λ E x xs. refl) (item x.first F.0 (many (is_mark m.Comma) (g.comma · r) ∷ K) (each (next f) x.more us) a.0 a.1)

-- What an item asks for of what follows: that it doesn't go on with an expression.
abbrev pub ItemReads : {A : Type 0} → (A → Text) → Rule → (A → Type 0) → Type 0
ItemReads {A} f r P = (x : A) → P x → (K : List Rule) (us : List Token) → EndsExpr false us → Next K us → Next (r ∷ K) (f x us)

-- Items in brackets.
module _ {A : Type 0} (f : A → Text) (r : Rule) (P : A → Type 0) (item : ItemReads f r P) where
  before_close : (x : A) → P x → (K : List Rule) (c : Place) (us : List Token) → Next K us → Next ((r · tok closing (is_mark m.CloseBracket)) ∷ K) (f x (t.Mark m.CloseBracket at c ∷ us))
  before_close x F K c us n = silent 1 (λ E x xs. refl) (item x F (tok closing (is_mark m.CloseBracket) ∷ K) (t.Mark m.CloseBracket at c ∷ us) ((refl, refl, refl, refl), refl) (fast 1 (λ E. go n)))

  pub any_read : (xs : List (Inside A)) → FitsDims P xs → (K : List Rule) (us : List Token) → Not (is_mark m.OpenBracket) us → Next K us → Next (g.any_dims r ∷ K) (dims f xs us)
  any_read [] F K us h n = many_stop _ _ K us h n
  any_read (x ∷ xs) F K us h n = fast 3 (λ E. go (before_close x.item F.0 (g.any_dims r ∷ K) x.close (dims f xs us) (any_read xs F.1 K us h n)))

  pub dims_read : (xs : List (Inside A)) → FitsSomeDims P xs → (K : List Rule) (us : List Token) → Not (is_mark m.OpenBracket) us → Next K us → Next (g.dims r ∷ K) (dims f xs us)
  dims_read [] F K us h n = absurd F.0
  dims_read (x ∷ xs) F K us h n = fast 3 (λ E. go (before_close x.item F.1.0 (g.any_dims r ∷ K) x.close (dims f xs us) (any_read xs F.1.1 K us h n)))

  -- all between one pair of parentheses
  pub parens_read : (x : Inside (CommaList A)) → FitsList P x.item → (K : List Rule) (us : List Token) → Next K us → Next (g.parens (g.list r) ∷ K) (in_parens (list f) x us)
  parens_read x F K us n = fast 2 (λ E. go (silent 1 (λ E x xs. refl) (list_reads f r P (EndsExpr false) item (λ q vs. ((refl, refl, refl, refl), refl)) x.item F
      (tok closing (is_mark m.CloseParen) ∷ K) (t.Mark m.CloseParen at x.close ∷ us) ((refl, refl, refl, refl), refl) refl (fast 1 (λ E. go n)))))

-- Items in brackets, or between parentheses.
module _ {A B : Type 0} (f : A → Text) (q : Rule) (P : A → Type 0) (one : ItemReads f q P) (h : B → Text) (r : Rule) (Q : B → Type 0) (other : ItemReads h r Q) where
  pub several_read : (x : Several A B) → FitsSeveral P Q x → (K : List Rule) (us : List Token) → Not (is_mark m.OpenBracket) us → Next K us → Next (g.several q r ∷ K) (several f h x us)
  several_read (sev.Brackets []) F K us b n = absurd F.0
  several_read (sev.Brackets (x ∷ xs)) F K us b n = fast 1 (λ E. go (dims_read f q P one (x ∷ xs) F K us b n))
  several_read (sev.Parens x) F K us b n = fast 1 (λ E. go (parens_read h r Q other x F K us n))

  pub any_several_read : (x : Several A B) → FitsAnySeveral P Q x → (K : List Rule) (us : List Token) → Not (is_mark m.OpenParen) us → Not (is_mark m.OpenBracket) us → Next K us
      → Next (choice (is_mark m.OpenParen) (g.parens (g.list r)) (g.any_dims q) ∷ K) (several f h x us)
  any_several_read (sev.Brackets []) F K us a b n = choice_second _ _ _ K us a (any_read f q P one [] F K us b n)
  any_several_read (sev.Brackets (x ∷ xs)) F K us a b n = fast 1 (λ E. go (any_read f q P one (x ∷ xs) F K us b n))
  any_several_read (sev.Parens x) F K us a b n = fast 1 (λ E. go (parens_read h r Q other x F K us n))

-- one item, as several
abbrev pub as_several : {A : Type 0} → Single A → Several A A
as_several (one.Bracket x) = sev.Brackets (x ∷ [])
as_several (one.Paren x) = sev.Parens (record { «open» = x.open; item = record { first = x.item; more = [] }; close = x.close })

pub as_fits : {A : Type 0} (P : A → Type 0) (x : Single A) → FitsSingle P x → FitsSeveral P P (as_several x)
as_fits P (one.Bracket x) F = (tt, (F, tt))
as_fits P (one.Paren x) F = (F, tt)

pub as_spelled : {A : Type 0} (f : A → Text) (x : Single A) (r : List Token) → single f x r ≡ several f f (as_several x) r
as_spelled f (one.Bracket x) r = refl
as_spelled f (one.Paren x) r = refl

all_fit : {A : Type 0} (xs : List (made.Next A)) → Each (λ y. ⊤) xs
all_fit [] = tt
all_fit (x ∷ xs) = (tt, all_fit xs)

-- names behind commas
pub names_read : (x : CommaList Name) (K : List Rule) (us : List Token) → Not (is_mark m.Comma) us → Next K us → Next (part p.names ∷ K) (names x us)
names_read x K us h n = silent 1 (λ E x xs. refl)
    (list_reads name g.name (λ y. ⊤) (λ y. ⊤) (λ y F K us w n. fast 1 (λ E. go n)) (λ q us. tt) x (tt, all_fit x.more) K us tt h n)
