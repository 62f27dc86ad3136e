-- Expressions that fit are read by the grammar.
use Rattle.std.proofs.Common.{◌≡◌, ◌≤◌, ◌<◌, ℕ, zero, suc, Bool, true, false, ◌==◌, ◌&&◌, cond, List, [], ◌∷◌, ◌⊎◌, inl, inr, refl, sym, ap, ◌∙◌, subst, arith}
use Rattle.std.specs.Prelude.{not, ⊤, ℤ}
use Rattle.xmp_base.specs.declared.place.Place.{Place}
use Rattle.xmp_num.specs.declared.types.Ty.{Ty}
use Rattle.xmp_num.specs.declared.types.Ty.TheVariants as ty
use Rattle.xmp_lex.specs.declared.token.Token.{Token}
use Rattle.xmp_lex.specs.declared.token.TokenKind.{TokenKind}
use Rattle.xmp_lex.specs.declared.token.TokenKind.TheVariants as t
use Rattle.xmp_lex.specs.declared.token.Mark.{Mark}
use Rattle.xmp_lex.specs.declared.token.Mark.TheVariants as m
use Rattle.xmp_syntax.specs.declared.parts.Name.{Name}
use Rattle.xmp_syntax.specs.Parts as p
use Rattle.xmp_syntax.specs.Parts.{Part}
use Rattle.xmp_syntax.specs.Reading.{here, onward, Test, Effect, plain, operator, separator, opening, closing, Rule, nothing, tok, part, by, ◌·◌, choice, many, pair, Depths, State, reading, goes, step}
use Rattle.xmp_syntax.specs.Grammar as g
use Rattle.xmp_syntax.specs.Grammar.{rule, is_mark, mark_code, mark_binds, binary, is_type, is_unary, is_unary_mark, operand_of, any_dims}
use Rattle.xmp_syntax.specs.Trees.{Expr, number, read, call, parens, unary, cast, chain, conditional, Ref, ref, Subscripts, no_more, subscript, Image, no_image, image, Arguments, no_arguments, arguments, Rest, end, comma, Links, last, link}
use Rattle.xmp_syntax.specs.Spell.{◌at◌, spell, spell_ref, spell_subscripts, spell_image, spell_arguments, spell_rest, spell_links, type_word}
use Rattle.xmp_syntax.specs.Fits.{Fits, FitsRef, FitsSubscripts, FitsImage, FitsArguments, FitsRest, FitsLinks, level_of, links_level}
use Rattle.xmp_syntax.specs.Refused.{Begins}
use Rattle.xmp_syntax.proofs.Done.{Done, Next, fast, go, silent, by_part, Is, Not, choice_first, choice_second, many_stop, many_more, skip, take_token, take_pair, leave_pair, begins_step, done_step}
use Rattle.xmp_syntax.proofs.TokenFacts.{starts, starts_code, starts_other, starts_no_type, unary_starts, unary_part, within, ColonFree, Ends, EndsExpr, ends_less, ends_binary, ends_operator, operator_is, binds_low, ends_bracket, ends_paren, not_true, no_operator, colon_free}

-- a colon begins what follows, where one may stand there
abbrev pub Accepts : Bool → List Rule → Type 0
Accepts false K = ⊤
Accepts true K = (D : Depths) (q : Place) → Begins D K (t.Mark m.Colon at q ∷ [])

-- An expression is read, whatever may follow.
pub record ExprReads (e : Expr) : Type 0 where
  pub all : (c : Bool) (K : List Rule) (us : List Token) → EndsExpr c us → Accepts c K → Next K us → Next (part (p.expression c) ∷ K) (spell e us)

-- an expression as an operand of a level
pub record Passes (n : ℕ) (e : Expr) : Type 0 where
  pub reads : (c : Bool) (K : List Rule) (us : List Token) → Ends n c us → Accepts c K → Next K us → Next (part (p.level n c) ∷ K) (spell e us)

pub record Both (e : Expr) : Type 0 where
  pub low : level_of e ≤ 10 → Passes (level_of e) e
  pub all : ExprReads e

-- the operators of a level with their operands, and the rest of a conditional
abbrev pub tail : ℕ → Bool → Rule
tail n c = many (binary (suc n)) (tok operator (binary (suc n)) · part (p.level n c))

abbrev pub question : Bool → Rule
question c = g.optional (is_mark m.Question) (tok operator (is_mark m.Question) · g.expr_colon · tok operator (is_mark m.Colon) · part (p.expression c))

pub accepts_tail : (n : ℕ) (c : Bool) (K : List Rule) → Accepts c K → Accepts c (tail n c ∷ K)
accepts_tail n false K a = tt
accepts_tail n true K a = λ D q. begins_step D (tail n true ∷ K) (t.Mark m.Colon at q ∷ []) [] D K (t.Mark m.Colon at q ∷ [])
    (ap (λ b. goes [] (reading D (cond b ((tok operator (binary (suc n)) · part (p.level n true)) ∷ tail n true ∷ K) K) (t.Mark m.Colon at q ∷ []))) (no_operator n)) (a D q)

pub accepts_question : (c : Bool) (K : List Rule) → Accepts c K → Accepts c (question c ∷ K)
accepts_question false K a = tt
accepts_question true K a = λ D q. begins_step D (question true ∷ K) (t.Mark m.Colon at q ∷ []) [] D (nothing ∷ K) (t.Mark m.Colon at q ∷ []) refl
    (begins_step D (nothing ∷ K) (t.Mark m.Colon at q ∷ []) [] D K (t.Mark m.Colon at q ∷ []) refl (a D q))

-- One level up.
lift : (n : ℕ) (e : Expr) → Passes n e → Passes (suc n) e
lift n e P = record { reads = λ c K us en ac nx. silent 2 (λ E x xs. refl) (P.reads c (tail n c ∷ K) us (ends_less n c us en) (accepts_tail n c K ac) (many_stop _ _ K us (ends_binary n c us en) nx)) }

pub le_or_same : (m n : ℕ) → m ≤ suc n → (m ≤ n) ⊎ (m ≡ suc n)
le_or_same m n h = grind arith

pub raise : (n m : ℕ) (e : Expr) → m ≤ n → Passes m e → Passes n e
raise zero m e h P = let q : m ≡ 0 = omega arith in subst (λ (v : ℕ). Passes v e) q P
raise (suc n) m e h P = elim (le_or_same m n h) [
  | inl q ↦ lift n e (raise n m e q P)
  | inr q ↦ subst (λ (v : ℕ). Passes v e) q P
]

both_low : (e : Expr) → level_of e ≤ 10 → Passes (level_of e) e → Both e
both_low e h P = record {
  low = λ k. P;
  all = record { all = λ c K us en ac nx. silent 2 (λ E x xs. refl) ((raise 10 (level_of e) e h P).reads c (question c ∷ K) us en.0 (accepts_question c K ac) (skip _ _ K us en.1 nx)) };
}

-- the first token of an expression
pub first_of : (e : Expr) → Fits e → (r : List Token) → (x : Token) × (xs : List Token) × (spell e r ≡ x ∷ xs) × (starts x.kind ≡ true)
first_of (number p n ty) F r = (_, _, refl, refl)
first_of (read (ref n ds i)) F r = (_, _, refl, refl)
first_of (call f o xs c) F r = (_, _, refl, refl)
first_of (parens o e c) F r = (_, _, refl, refl)
first_of (unary op p e) F r = (_, _, refl, unary_starts op F.0)
first_of (cast o ty p c e) F r = (_, _, refl, refl)
first_of (chain e ls) F r = first_of e F.1 (spell_links ls r)
first_of (conditional x p y q z) F r = first_of x F.1 (t.Mark m.Question at p ∷ spell y (t.Mark m.Colon at q ∷ spell z r))

pub not_first : (x : Mark) (e : Expr) → Fits e → (r : List Token) → starts_code (mark_code x) ≡ false → Not (is_mark x) (spell e r)
not_first x e F r h = let f = first_of e F r in subst (λ (l : List Token). Not (is_mark x) l) (sym f.2) (starts_other f.0.kind x f.3 h)

pub no_type_first : (e : Expr) → Fits e → (r : List Token) → Not is_type (spell e r)
no_type_first e F r = let f = first_of e F r in subst (λ (l : List Token). Not is_type l) (sym f.2) (starts_no_type f.0.kind f.3)

-- a colon before an expression is no image's
colon_expr : (e : Expr) → Fits e → (r : List Token) → ColonFree true (t.Mark m.Colon) (spell e r)
colon_expr e F r = let f = first_of e F r in subst (λ (l : List Token). ColonFree true (t.Mark m.Colon) l) (sym f.2) (starts_other f.0.kind m.OpenBracket f.3 refl)

pub ends_colon : (q : Place) (e : Expr) → Fits e → (r : List Token) → EndsExpr true (t.Mark m.Colon at q ∷ spell e r)
ends_colon q e F r = ((refl, refl, refl, colon_expr e F r), refl)

-- Lists of expressions, each in brackets or behind a comma.
pub record SubscriptsRead (ds : Subscripts) : Type 0 where
  pub all : (K : List Rule) (us : List Token) → Not (is_mark m.OpenBracket) us → Next K us → Next (any_dims g.expr ∷ K) (spell_subscripts ds us)

pub record RestReads (es : Rest) : Type 0 where
  pub all : (K : List Rule) (us : List Token) → EndsExpr false us → Not (is_mark m.Comma) us → Next K us
      → EndsExpr false (spell_rest es us) × Next (many (is_mark m.Comma) (g.comma · g.expr) ∷ K) (spell_rest es us)

pub record ImageReads (i : Image) : Type 0 where
  pub all : (c : Bool) (K : List Rule) (us : List Token) → Ends 0 c us → Accepts c K → Next K us → Next (part (p.image c) ∷ K) (spell_image i us)

pub record ArgumentsRead (xs : Arguments) : Type 0 where
  pub all : (K : List Rule) (o c : Place) (us : List Token) → Next K us → Next (part p.arguments ∷ K) (t.Mark m.OpenParen at o ∷ spell_arguments xs (t.Mark m.CloseParen at c ∷ us))

pub record LinksRead (n : ℕ) (ls : Links) : Type 0 where
  pub all : (c : Bool) (K : List Rule) (us : List Token) → Ends (suc n) c us → Accepts c K → Next K us
      → Ends n c (spell_links ls us) × Next (tail n c ∷ K) (spell_links ls us)

-- an expression and the bracket that closes it
pub in_parens_reads : (e : Expr) (K : List Rule) (c : Place) (us : List Token) → ExprReads e → Next K us → Next ((g.expr · tok closing (is_mark m.CloseParen)) ∷ K) (spell e (t.Mark m.CloseParen at c ∷ us))
in_parens_reads e K c us X nx = silent 1 (λ E x xs. refl) (X.all false (tok closing (is_mark m.CloseParen) ∷ K) (t.Mark m.CloseParen at c ∷ us) ((refl, refl, refl, refl), refl) tt (fast 1 (λ E. go nx)))

pub in_brackets_reads : (e : Expr) (K : List Rule) (c : Place) (us : List Token) → ExprReads e → Next K us → Next ((g.expr · tok closing (is_mark m.CloseBracket)) ∷ K) (spell e (t.Mark m.CloseBracket at c ∷ us))
in_brackets_reads e K c us X nx = silent 1 (λ E x xs. refl) (X.all false (tok closing (is_mark m.CloseBracket) ∷ K) (t.Mark m.CloseBracket at c ∷ us) ((refl, refl, refl, refl), refl) tt (fast 1 (λ E. go nx)))

subscript_reads : (o : Place) (e : Expr) (c : Place) (ds : Subscripts) → ExprReads e → SubscriptsRead ds → SubscriptsRead (subscript o e c ds)
subscript_reads o e c ds X S = record {
  all = λ K us q nx. fast 3 (λ E. go (in_brackets_reads e _ c _ X (S.all K us q nx)));
}

comma_reads : (q : Place) (e : Expr) (es : Rest) → ExprReads e → RestReads es → RestReads (comma q e es)
comma_reads q e es X R = record {
  all = λ K us en no nx. let r = R.all K us en no nx in
      (((refl, refl, refl, refl), refl), fast 3 (λ E. go (X.all false (many (is_mark m.Comma) (g.comma · g.expr) ∷ K) (spell_rest es us) r.0 tt r.1)));
}

rest_end : RestReads end
rest_end = record { all = λ K us en no nx. (en, many_stop _ _ K us no nx) }

no_image_reads : ImageReads no_image
no_image_reads = record { all = all } where
  all : (c : Bool) (K : List Rule) (us : List Token) → Ends 0 c us → Accepts c K → Next K us → Next (part (p.image c) ∷ K) us
  all c K [] en ac nx = absurd en
  all false K (x ∷ us) en ac nx = silent 1 (λ E x xs. refl) (skip (is_mark m.Colon) _ K (x ∷ us) en.3 nx)
  all true K (x ∷ []) en ac nx = fast 2 (λ E. go nx)
  all true K (x ∷ y ∷ us) en ac nx = silent 1 (λ E x xs. refl) (leave_pair (is_mark m.Colon) (is_mark m.OpenBracket) _ K x y us en.3 nx)

image_reads : (q o : Place) (e : Expr) (c : Place) → ExprReads e → ImageReads (image q o e c)
image_reads q o e z X = record { all = all } where
  all : (c : Bool) (K : List Rule) (us : List Token) → Ends 0 c us → Accepts c K → Next K us → Next (part (p.image c) ∷ K) (spell_image (image q o e z) us)
  all false K us en ac nx = fast 6 (λ E. go (in_brackets_reads e K z us X nx))
  all true K us en ac nx = silent 1 (λ E x xs. refl) (take_pair (is_mark m.Colon) (is_mark m.OpenBracket) _ K _ _ _ refl (λ D. ac D q)
      (in_brackets_reads e K z us X nx))

no_arguments_read : ArgumentsRead no_arguments
no_arguments_read = record { all = λ K o c us nx. fast 7 (λ E. go nx) }

arguments_read : (e : Expr) (es : Rest) → Fits e → ExprReads e → RestReads es → ArgumentsRead (arguments e es)
arguments_read e es F X R = record {
  all = λ K o c us nx.
      let r = R.all (tok closing (is_mark m.CloseParen) ∷ K) (t.Mark m.CloseParen at c ∷ us) ((refl, refl, refl, refl), refl) refl (fast 1 (λ E. go nx)) in
      let us' : List Token = spell_rest es (t.Mark m.CloseParen at c ∷ us) in
      fast 3 (λ E. go (silent 1 (λ E x xs. refl) (choice_first (λ k. not (is_mark m.CloseParen k)) (g.list g.expr) nothing (tok closing (is_mark m.CloseParen) ∷ K) (spell e us')
      (not_true (is_mark m.CloseParen) (spell e us') (not_first m.CloseParen e F us' refl))
      (silent 1 (λ E x xs. refl) (X.all false _ us' r.0 tt r.1)))));
}

last_reads : (n : ℕ) → LinksRead n last
last_reads n = record { all = λ c K us en ac nx. (ends_less n c us en, many_stop _ _ K us (ends_binary n c us en) nx) }

link_reads : (n : ℕ) (op : Mark) (q : Place) (e : Expr) (ls : Links) → mark_binds op ≡ suc n → level_of e ≤ n → Passes (level_of e) e → LinksRead n ls → LinksRead n (link op q e ls)
link_reads n op q e ls b h P L = record {
  all = λ c K us en ac nx. let l = L.all c K us en ac nx in (
    ends_operator op n c q (spell e (spell_links ls us)) b,
    many_more _ _ K _ (operator_is op (suc n) b) (silent 1 (λ E x xs. refl) (take_token operator _ _ _ _ (operator_is op (suc n) b)
        ((raise n (level_of e) e h P).reads c (tail n c ∷ K) (spell_links ls us) l.0 (accepts_tail n c K ac) l.1))),
  );
}

-- An operand and its parts.
number_passes : (q : Place) (n : ℤ) (y : Ty) → Passes 0 (number q n y)
number_passes q n y = record { reads = λ c K us en ac nx. fast 3 (λ E. go nx) }

pub ref_first : (ds : Subscripts) (i : Image) (us : List Token) → Not (is_mark m.OpenParen) us → Not (is_mark m.OpenParen) (spell_subscripts ds (spell_image i us))
ref_first no_more no_image us h = h
ref_first no_more (image q o e c) us h = refl
ref_first (subscript o e c ds) i us h = refl

pub image_first : (i : Image) (us : List Token) → Not (is_mark m.OpenBracket) us → Not (is_mark m.OpenBracket) (spell_image i us)
image_first no_image us h = h
image_first (image q o e c) us h = refl

-- behind the name
pub name_reads : (ds : Subscripts) (i : Image) → SubscriptsRead ds → ImageReads i → (c : Bool) (K : List Rule) (us : List Token) → Ends 0 c us → Accepts c K → Next K us
    → Next (part p.subscripts ∷ part (p.image c) ∷ K) (spell_subscripts ds (spell_image i us))
name_reads ds i S I c K us en ac nx = silent 1 (λ E x xs. refl) (S.all (part (p.image c) ∷ K) (spell_image i us) (image_first i us (ends_bracket 0 c us en)) (I.all c K us en ac nx))

pub name_reads_before : (ds : Subscripts) (i : Image) → SubscriptsRead ds → ImageReads i → (r : Rule) (K : List Rule) (us : List Token) → Ends 0 false us → Next (r ∷ K) us
    → Next (part p.subscripts ∷ (part (p.image false) · r) ∷ K) (spell_subscripts ds (spell_image i us))
name_reads_before ds i S I r K us en nx = silent 1 (λ E x xs. refl) (S.all ((part (p.image false) · r) ∷ K) (spell_image i us) (image_first i us (ends_bracket 0 false us en))
    (silent 1 (λ E x xs. refl) (I.all false (r ∷ K) us en tt nx)))

read_passes : (v : Name) (ds : Subscripts) (i : Image) → SubscriptsRead ds → ImageReads i → Passes 0 (read (ref v ds i))
read_passes v ds i S I = record {
  reads = λ c K us en ac nx. fast 4 (λ E. go (choice_second _ _ _ K _ (ref_first ds i us (ends_paren 0 c us en))
      (silent 1 (λ E x xs. refl) (name_reads ds i S I c K us en ac nx))));
}

call_passes : (v : Name) (o : Place) (xs : Arguments) (z : Place) → ArgumentsRead xs → Passes 0 (call v o xs z)
call_passes v o xs z A = record { reads = λ c K us en ac nx. fast 5 (λ E. go (A.all K o z us nx)) }

parens_passes : (o : Place) (e : Expr) (z : Place) → Fits e → ExprReads e → Passes 0 (parens o e z)
parens_passes o e z F X = record {
  reads = λ c K us en ac nx. fast 4 (λ E. go (choice_second is_type _ _ K _ (no_type_first e F _)
      (in_parens_reads e K z us X nx)));
}

unary_passes : (op : Mark) (q : Place) (e : Expr) → is_unary_mark op ≡ true → Passes 0 e → Passes 0 (unary op q e)
unary_passes op q e h P = record {
  reads = λ c K us en ac nx. fast 1 (λ E. go (by_part (operand_of c) (p.unary c) K _ _ (unary_part op c h)
      (silent 1 (λ E x xs. refl) (take_token operator is_unary _ _ _ h (P.reads c K us en ac nx)))));
}

cast_passes : (o : Place) (y : Ty) (q z : Place) (e : Expr) → Passes 0 e → Passes 0 (cast o y q z e)
cast_passes o ty.Int q z e P = record { reads = λ c K us en ac nx. fast 9 (λ E. go (P.reads c K us en ac nx)) }
cast_passes o ty.Long q z e P = record { reads = λ c K us en ac nx. fast 9 (λ E. go (P.reads c K us en ac nx)) }

chain_passes : (n : ℕ) (e : Expr) (ls : Links) → level_of e < n → Passes (level_of e) e → ((k : ℕ) → n ≡ suc k → LinksRead k ls) → Passes n (chain e ls)
chain_passes zero e ls h P L = absurd (omega arith)
chain_passes (suc n) e ls h P L = record {
  reads = λ c K us en ac nx.
      let l = (L n refl).all c K us en ac nx in
      let k : level_of e ≤ n = omega arith in
      silent 2 (λ E x xs. refl) ((raise n (level_of e) e k P).reads c (tail n c ∷ K) (spell_links ls us) l.0 (accepts_tail n c K ac) l.1);
}

conditional_reads : (x : Expr) (q : Place) (y : Expr) (r : Place) (z : Expr) → level_of x ≤ 10 → Fits z → Both x → ExprReads y → ExprReads z → ExprReads (conditional x q y r z)
conditional_reads x q y r z h F X Y Z = record {
  all = λ c K us en ac nx. silent 2 (λ E x xs. refl) ((raise 10 (level_of x) x h (X.low h)).reads c (question c ∷ K) _ (refl, refl, refl, question_free c us) (accepts_question c K ac)
      (fast 3 (λ E. go (silent 1 (λ E x xs. refl) (Y.all true ((tok operator (is_mark m.Colon) · part (p.expression c)) ∷ K) (t.Mark m.Colon at r ∷ spell z us) (ends_colon r z F us) (λ D v. begins_colon D c v K)
      (fast 2 (λ E. go (Z.all c K us en ac nx))))))));
} where
  begins_colon : (D : Depths) (c : Bool) (v : Place) (K : List Rule) → Begins D ((tok operator (is_mark m.Colon) · part (p.expression c)) ∷ K) (t.Mark m.Colon at v ∷ [])
  begins_colon D c v K = record { depths = _; now = _; left = _; reads = onward refl (onward refl here) }

  question_free : (c : Bool) (us : List Token) → ColonFree c (t.Mark m.Question) (spell y (t.Mark m.Colon at r ∷ spell z us))
  question_free c us = colon_free c (t.Mark m.Question) _ refl

-- what stands between the brackets of an expression that fits ends it
pub links_low : (ls : Links) → links_level ls ≤ 10
links_low last = omega arith
links_low (link op q e ls) = binds_low op

mutual
  pub reads : (e : Expr) → Fits e → Both e
  reads (number q n y) F = both_low (number q n y) (omega arith) (number_passes q n y)
  reads (read (ref v ds i)) F = both_low (read (ref v ds i)) (omega arith) (read_passes v ds i (subscripts_read ds F.0) (image_read i F.1))
  reads (call v o xs z) F = both_low (call v o xs z) (omega arith) (call_passes v o xs z (arguments_all xs F))
  reads (parens o e z) F = both_low (parens o e z) (omega arith) (parens_passes o e z F (reads e F).all)
  reads (unary op q e) F = both_low (unary op q e) (omega arith) (unary_passes op q e F.0 (raise 0 (level_of e) e F.1 ((reads e F.2).low (omega (arith, F.1)))))
  reads (cast o y q z e) F = both_low (cast o y q z e) (omega arith) (cast_passes o y q z e (raise 0 (level_of e) e F.0 ((reads e F.1).low (omega (arith, F.0)))))
  reads (chain e ls) F = both_low (chain e ls) (links_low ls)
      (chain_passes (links_level ls) e ls F.0 ((reads e F.1).low (omega (arith, F.0, links_low ls))) (λ k q. links_read k ls (subst (λ (v : ℕ). FitsLinks v ls) q F.2) (subst (λ (v : ℕ). v ≤ 10) q (links_low ls))))
  reads (conditional x q y r z) F = record {
    low = λ h. absurd (omega (arith, h));
    all = conditional_reads x q y r z F.0 F.3 (reads x F.1) (reads y F.2).all (reads z F.3).all;
  }

  pub subscripts_read : (ds : Subscripts) → FitsSubscripts ds → SubscriptsRead ds
  subscripts_read no_more F = record { all = λ K us q nx. many_stop _ _ K us q nx }
  subscripts_read (subscript o e c ds) F = subscript_reads o e c ds (reads e F.0).all (subscripts_read ds F.1)

  pub image_read : (i : Image) → FitsImage i → ImageReads i
  image_read no_image F = no_image_reads
  image_read (image q o e c) F = image_reads q o e c (reads e F).all

  pub arguments_all : (xs : Arguments) → FitsArguments xs → ArgumentsRead xs
  arguments_all no_arguments F = no_arguments_read
  arguments_all (arguments e es) F = arguments_read e es F.0 (reads e F.0).all (rest_reads es F.1)

  pub rest_reads : (es : Rest) → FitsRest es → RestReads es
  rest_reads end F = rest_end
  rest_reads (comma q e es) F = comma_reads q e es (reads e F.0).all (rest_reads es F.1)

  pub links_read : (n : ℕ) (ls : Links) → FitsLinks (suc n) ls → suc n ≤ 10 → LinksRead n ls
  links_read n last F h = last_reads n
  links_read n (link op q e ls) F h = link_reads n op q e ls F.0 (omega (arith, F.1)) ((reads e F.2).low (omega (arith, F.1))) (links_read n ls F.3 h)
