-- What is left out at the end of a begun spelling leaves a begun spelling.
use Rattle.std.proofs.Common.{◌≡◌, ℕ, zero, suc, Bool, true, false, cond, length, List, [], ◌∷◌, ◌++◌, refl, sym, ap, ◌∙◌, subst}
use Rattle.std.specs.Prelude.{◌&&◌, ⊤, not, codes}
use Rattle.xmp_base.specs.declared.place.Place.{Place}
use Rattle.xmp_lex.specs.declared.token.Token.{Token}
use Rattle.xmp_lex.specs.declared.token.TokenKind.{TokenKind}
use Rattle.xmp_lex.specs.declared.token.TokenKind.TheVariants as t
use Rattle.xmp_lex.specs.declared.token.Mark.{Mark}
use Rattle.xmp_lex.specs.declared.token.Mark.TheVariants as m
use Rattle.xmp_lex.specs.declared.token.Reserved.TheVariants as w
use Rattle.xmp_syntax.specs.Parts as p
use Rattle.xmp_syntax.specs.Parts.{Part}
use Rattle.xmp_syntax.specs.Reading.{Test, Effect, opening, operator, Rule, nothing, tok, mark, part, by, ◌·◌, choice, many, pair, Depths, now, behind, State, reading, Step, goes, halts, step, pair_step, Reads, here, onward}
use Rattle.xmp_syntax.specs.Grammar as g
use Rattle.xmp_syntax.specs.Grammar.{rule, is_mark, mark_code, operand_of, statement_of, item_of, mapping_of, directive_of, line_of, is_unary_mark, mapping_named, directive_named}
use Rattle.xmp_syntax.specs.Spell.{◌at◌}
use Rattle.xmp_syntax.specs.Refused.{Begins, Stuck, start, program_rules}
use Rattle.xmp_syntax.specs.Steps.{Local, no_token, one_token, two_tokens, local, begins_nothing, regroup, took}
use Rattle.xmp_syntax.proofs.Done.{begins_step, fronts_silent, fronts_one, fronts_two}
use Rattle.xmp_syntax.proofs.Exprs.{Accepts, accepts_tail, accepts_question}

-- the parts behind which a colon may stand
abbrev flag : Part → Bool
flag (p.expression c) = c
flag (p.level n c) = c
flag (p.named c) = c
flag (p.parens_or_cast c) = c
flag (p.unary c) = c
flag (p.image c) = c
flag (p.reference c) = c
flag _ = false

-- Each part behind which a colon may stand is followed by what a colon begins.
abbrev GoodRule : Rule → List Rule → Type 0
GoodRule nothing K = ⊤
GoodRule (tok e q) K = ⊤
GoodRule (mark e) K = ⊤
GoodRule (part P) K = Accepts (flag P) K
GoodRule (by f) K = (kind : TokenKind) → Accepts (flag (f kind)) K
GoodRule (r · s) K = GoodRule r (s ∷ K) × GoodRule s K
GoodRule (choice q r s) K = GoodRule r K × GoodRule s K
GoodRule (many q r) K = GoodRule r (many q r ∷ K)
GoodRule (pair q v r) K = ((D : Depths) (x : Token) → q x.kind ≡ true → Begins D K (x ∷ [])) × GoodRule r K

abbrev Good : List Rule → Type 0
Good [] = ⊤
Good (r ∷ K) = GoodRule r K × Good K

-- no such part in the rule
abbrev clean : Rule → Bool
clean nothing = true
clean (tok e q) = true
clean (mark e) = true
clean (part P) = not (flag P)
clean (by f) = false
clean (r · s) = clean r && clean s
clean (choice q r s) = clean r && clean s
clean (many q r) = clean r
clean (pair q v r) = false

both_true : (a b : Bool) → a && b ≡ true → (a ≡ true) × (b ≡ true)
both_true true b h = (refl, h)
both_true false b h = cc

no_flag : (b : Bool) (K : List Rule) → not b ≡ true → Accepts b K
no_flag true K h = cc
no_flag false K h = tt

pub clean_good : (r : Rule) (K : List Rule) → clean r ≡ true → GoodRule r K
clean_good nothing K h = tt
clean_good (tok e q) K h = tt
clean_good (mark e) K h = tt
clean_good (part P) K h = no_flag (flag P) K h
clean_good (by f) K h = cc
clean_good (r · s) K h = let w = both_true (clean r) (clean s) h in (clean_good r (s ∷ K) w.0, clean_good s K w.1)
clean_good (choice q r s) K h = let w = both_true (clean r) (clean s) h in (clean_good r K w.0, clean_good s K w.1)
clean_good (many q r) K h = clean_good r (many q r ∷ K) h
clean_good (pair q v r) K h = cc

-- no alternative of a statement or a line is such a part
unflagged : (f : TokenKind → Part) (K : List Rule) → ((kind : TokenKind) → flag (f kind) ≡ false) → GoodRule (by f) K
unflagged f K h = λ kind. subst (λ (b : Bool). Accepts b K) (sym (h kind)) tt

record Unflagged (P : Part) : Type 0 where
  none : flag P ≡ false

plain_choice : (b : Bool) (P Q : Part) → Unflagged P → Unflagged Q → Unflagged (cond b P Q)
plain_choice true P Q h k = h
plain_choice false P Q h k = k

plain : (P : Part) → flag P ≡ false → Unflagged P
plain P h = record { none = h }

directive_flag : (n : List ℕ) → Unflagged (directive_named n)
directive_flag n =
    plain_choice (g.same_text (codes "loop") n) p.loop _ (plain p.loop refl) (
    plain_choice (g.same_text (codes "reflect") n) p.reflect _ (plain p.reflect refl) (
    plain_choice (g.same_text (codes "barrier") n) p.barrier _ (plain p.barrier refl) (
    plain_choice (g.same_text (codes "bcast") n) p.bcast _ (plain p.bcast refl) (
    plain_choice (g.same_text (codes "gmove") n) p.gmove _ (plain p.gmove refl) (
    plain_choice (g.same_text (codes "task") n) p.task _ (plain p.task refl) (
    plain_choice (g.same_text (codes "tasks") n) p.tasks p.no_part (plain p.tasks refl) (plain p.no_part refl)))))))

mapping_flag : (n : List ℕ) (Q : Part) → Unflagged Q → Unflagged (mapping_named n Q)
mapping_flag n Q h =
    plain_choice (g.same_text (codes "nodes") n) p.nodes _ (plain p.nodes refl) (
    plain_choice (g.same_text (codes "template") n) p.template _ (plain p.template refl) (
    plain_choice (g.same_text (codes "distribute") n) p.distribute _ (plain p.distribute refl) (
    plain_choice (g.same_text (codes "align") n) p.align _ (plain p.align refl) (
    plain_choice (g.same_text (codes "shadow") n) p.shadow Q (plain p.shadow refl) h))))

directive_all : (kind : TokenKind) → flag (directive_of kind) ≡ false
directive_all (t.Name n) = (directive_flag n).none
directive_all _ = refl

mapping_all : (kind : TokenKind) → flag (mapping_of kind) ≡ false
mapping_all (t.Name n) = (mapping_flag n p.no_part (plain p.no_part refl)).none
mapping_all _ = refl

line_all : (kind : TokenKind) → flag (line_of kind) ≡ false
line_all (t.Name n) = (mapping_flag n (directive_named n) (directive_flag n)).none
line_all _ = refl

statement_all : (kind : TokenKind) → flag (statement_of kind) ≡ false
statement_all (t.Mark m.OpenBrace) = refl
statement_all (t.Mark m.Semicolon) = refl
statement_all (t.Mark m.Increment) = refl
statement_all (t.Mark m.Decrement) = refl
statement_all (t.Mark _) = refl
statement_all (t.Word w.Return) = refl
statement_all (t.Word _) = refl
statement_all _ = refl

item_all : (kind : TokenKind) → flag (item_of kind) ≡ false
item_all (t.Word w.Int) = refl
item_all (t.Word w.Long) = refl
item_all (t.Word w.Return) = refl
item_all (t.Word _) = refl
item_all (t.Mark m.OpenBrace) = refl
item_all (t.Mark _) = refl
item_all _ = refl

operand_all : (c : Bool) (K : List Rule) → Accepts c K → (kind : TokenKind) → Accepts (flag (operand_of c kind)) K
operand_all c K a (t.Name n) = a
operand_all c K a (t.Mark m.OpenParen) = a
operand_all c K a (t.Mark m.Plus) = a
operand_all c K a (t.Mark m.Minus) = a
operand_all c K a (t.Mark m.Tilde) = a
operand_all c K a (t.Mark m.Bang) = a
operand_all c K a (t.Mark _) = tt
operand_all c K a _ = tt

is_colon : (kind : TokenKind) → is_mark m.Colon kind ≡ true → kind ≡ t.Mark m.Colon
is_colon (t.Mark m.Colon) h = refl
is_colon (t.Mark _) h = cc
is_colon _ h = cc

colon_token : (K : List Rule) → Accepts true K → (D : Depths) (x : Token) → is_mark m.Colon x.kind ≡ true → Begins D K (x ∷ [])
colon_token K a D x h = subst (λ (k : TokenKind). Begins D K (record { kind = k; at = x.at } ∷ [])) (sym (is_colon x.kind h)) (a D x.at)

-- a colon that may stand there, and what reads one
may_colon : (r : Rule) (K : List Rule) → Accepts true (g.optional (is_mark m.Colon) (g.sign m.Colon · r) ∷ K)
may_colon r K = λ D q. record { depths = _; now = _; left = _; reads = onward refl (onward refl (onward refl here)) }

must_colon : (r : Rule) (K : List Rule) → Accepts true ((tok operator (is_mark m.Colon) · r) ∷ K)
must_colon r K = λ D q. record { depths = _; now = _; left = _; reads = onward refl (onward refl here) }

pub good_rule : (P : Part) (K : List Rule) → Accepts (flag P) K → GoodRule (rule P) K
good_rule (p.expression c) K a = (accepts_question c K a, ((tt, (must_colon (part (p.expression c)) K, (tt, a))), tt))
good_rule (p.level (suc n) c) K a = (accepts_tail n c K a, (tt, accepts_tail n c K a))
good_rule (p.level zero c) K a = operand_all c K a
good_rule (p.named c) K a = (tt, (clean_good (part p.arguments) K refl, (tt, a)))
good_rule (p.parens_or_cast c) K a = (tt, ((tt, (tt, a)), (tt, tt)))
good_rule (p.unary c) K a = (tt, a)
good_rule (p.image true) K a = (colon_token K a, (tt, tt))
good_rule (p.image false) K a = clean_good (rule (p.image false)) K refl
good_rule (p.reference c) K a = (tt, (tt, a))
good_rule p.range K a = (may_colon g.expr K, ((tt, tt), tt))
good_rule p.section K a = (tt, (may_colon (part p.range) K, ((tt, tt), tt)))
good_rule p.block_item K a = unflagged item_of K item_all
good_rule p.statement K a = unflagged statement_of K statement_all
good_rule p.directive K a = (tt, unflagged directive_of K directive_all)
good_rule p.mapping K a = (tt, unflagged mapping_of K mapping_all)
good_rule p.line_in_block K a = (tt, unflagged line_of K line_all)
good_rule p.program K a = clean_good (rule p.program) K refl
good_rule p.function_rest K a = clean_good (rule p.function_rest) K refl
good_rule p.declaration K a = clean_good (rule p.declaration) K refl
good_rule p.declarator K a = clean_good (rule p.declarator) K refl
good_rule p.declarator_rest K a = clean_good (rule p.declarator_rest) K refl
good_rule p.type_words K a = clean_good (rule p.type_words) K refl
good_rule p.parameter K a = clean_good (rule p.parameter) K refl
good_rule p.number K a = clean_good (rule p.number) K refl
good_rule p.subscripts K a = clean_good (rule p.subscripts) K refl
good_rule p.arguments K a = clean_good (rule p.arguments) K refl
good_rule p.block K a = clean_good (rule p.block) K refl
good_rule p.empty K a = clean_good (rule p.empty) K refl
good_rule p.simple K a = clean_good (rule p.simple) K refl
good_rule p.simple_statement K a = clean_good (rule p.simple_statement) K refl
good_rule p.return_statement K a = clean_good (rule p.return_statement) K refl
good_rule p.if_statement K a = clean_good (rule p.if_statement) K refl
good_rule p.while_statement K a = clean_good (rule p.while_statement) K refl
good_rule p.for_statement K a = clean_good (rule p.for_statement) K refl
good_rule p.for_first K a = clean_good (rule p.for_first) K refl
good_rule p.print_statement K a = clean_good (rule p.print_statement) K refl
good_rule p.scan_statement K a = clean_good (rule p.scan_statement) K refl
good_rule p.sync_statement K a = clean_good (rule p.sync_statement) K refl
good_rule p.nodes K a = clean_good (rule p.nodes) K refl
good_rule p.template K a = clean_good (rule p.template) K refl
good_rule p.distribute K a = clean_good (rule p.distribute) K refl
good_rule p.align K a = clean_good (rule p.align) K refl
good_rule p.loop K a = clean_good (rule p.loop) K refl
good_rule p.reflect K a = clean_good (rule p.reflect) K refl
good_rule p.barrier K a = clean_good (rule p.barrier) K refl
good_rule p.bcast K a = clean_good (rule p.bcast) K refl
good_rule p.gmove K a = clean_good (rule p.gmove) K refl
good_rule p.task K a = clean_good (rule p.task) K refl
good_rule p.tasks K a = clean_good (rule p.tasks) K refl
good_rule p.names K a = clean_good (rule p.names) K refl
good_rule p.shadow K a = clean_good (rule p.shadow) K refl
good_rule p.how K a = clean_good (rule p.how) K refl
good_rule p.align_dimension K a = clean_good (rule p.align_dimension) K refl
good_rule p.place K a = clean_good (rule p.place) K refl
good_rule p.piece K a = clean_good (rule p.piece) K refl
good_rule p.set K a = clean_good (rule p.set) K refl
good_rule p.sections K a = clean_good (rule p.sections) K refl
good_rule p.reduction K a = clean_good (rule p.reduction) K refl
good_rule p.no_part K a = clean_good (rule p.no_part) K refl

good_cond : (b : Bool) (r s : Rule) (K : List Rule) → GoodRule r K → GoodRule s K → GoodRule (cond b r s) K
good_cond true r s K h k = h
good_cond false r s K h k = k

good_many : (b : Bool) (q : Test) (r : Rule) (K : List Rule) → GoodRule r (many q r ∷ K) → Good K → Good (cond b (r ∷ many q r ∷ K) K)
good_many true q r K h k = (h, (h, k))
good_many false q r K h k = k

same_rules : (D E : Depths) (N M : List Rule) (xs us : List Token) (bs ds : List ℕ) → goes bs (reading D N xs) ≡ goes ds (reading E M us) → Good N → Good M
same_rules D E N M xs us bs ds e h = let c : N ≡ M = cc in subst Good c h

good_pair : (b : Bool) (D : Depths) (r : Rule) (K : List Rule) (t u : Token) (ts : List Token) (ds : List ℕ) (E : Depths) (M : List Rule) (us : List Token)
    → pair_step b D r K t u ts ≡ goes ds (reading E M us) → Good (r ∷ K) → Good K → Good M
good_pair true D r K t u ts ds E M us e h k = same_rules (behind opening D) E (r ∷ K) M ts us _ ds e h
good_pair false D r K t u ts ds E M us e h k = same_rules D E K M (t ∷ u ∷ ts) us _ ds e k

good_step : (D : Depths) (K : List Rule) (ts : List Token) (ds : List ℕ) (E : Depths) (M : List Rule) (us : List Token)
    → step rule (reading D K ts) ≡ goes ds (reading E M us) → Good K → Good M
good_step D [] ts ds E M us e h = cc
good_step D (r ∷ K) [] ds E M us e h = cc
good_step D (nothing ∷ K) (t ∷ ts) ds E M us e h = same_rules D E K M (t ∷ ts) us _ ds e h.1
good_step D (tok x q ∷ K) (t ∷ ts) ds E M us e h =
    let v = took (q t.kind) (now (behind x D) ∷ []) (reading (behind x D) K ts) (reading E M us) ds e in
    let c : K ≡ M = (let z : reading (behind x D) K ts ≡ reading E M us = v.2 in cc) in subst Good c h.1
good_step D (mark x ∷ K) (t ∷ ts) ds E M us e h = same_rules (behind x D) E K M (t ∷ ts) us _ ds e h.1
good_step D (part P ∷ K) (t ∷ ts) ds E M us e h = same_rules D E (rule P ∷ K) M (t ∷ ts) us _ ds e (good_rule P K h.0, h.1)
good_step D (by f ∷ K) (t ∷ ts) ds E M us e h = same_rules D E (rule (f t.kind) ∷ K) M (t ∷ ts) us _ ds e (good_rule (f t.kind) K (h.0 t.kind), h.1)
good_step D ((r · s) ∷ K) (t ∷ ts) ds E M us e h = same_rules D E (r ∷ s ∷ K) M (t ∷ ts) us _ ds e (h.0.0, (h.0.1, h.1))
good_step D (choice q r s ∷ K) (t ∷ ts) ds E M us e h =
    same_rules D E (cond (q t.kind) r s ∷ K) M (t ∷ ts) us _ ds e (good_cond (q t.kind) r s K h.0.0 h.0.1, h.1)
good_step D (many q r ∷ K) (t ∷ ts) ds E M us e h = same_rules D E (cond (q t.kind) (r ∷ many q r ∷ K) K) M (t ∷ ts) us _ ds e (good_many (q t.kind) q r K h.0 h.1)
good_step D (pair q v r ∷ K) (t ∷ []) ds E M us e h = same_rules D E K M (t ∷ []) us _ ds e h.1
good_step D (pair q v r ∷ K) (t ∷ u ∷ ts) ds E M us e h = good_pair (q t.kind && v u.kind) D r K t u ts ds E M us e (h.0.1, h.1) h.1

-- A front that ends between the two tokens of a pair.
cut_pair : (b : Bool) (D : Depths) (q v : Test) (r : Rule) (K : List Rule) (t u : Token) (ts : List Token) (x y : ℕ) (s : State)
    → q t.kind && v u.kind ≡ b → pair_step b D r K t u ts ≡ goes (x ∷ y ∷ []) s → ((D : Depths) (x : Token) → q x.kind ≡ true → Begins D K (x ∷ [])) → Begins D (pair q v r ∷ K) (t ∷ [])
cut_pair true D q v r K t u ts x y s h e a = begins_step D (pair q v r ∷ K) (t ∷ []) [] D K (t ∷ []) refl (a D t (both_true (q t.kind) (v u.kind) h).0)
cut_pair false D q v r K t u ts x y s h e a = cc

cut : (D : Depths) (K : List Rule) (t u : Token) (ts : List Token) (x y : ℕ) (s : State) → step rule (reading D K (t ∷ u ∷ ts)) ≡ goes (x ∷ y ∷ []) s → Good K → Begins D K (t ∷ [])
cut D [] t u ts x y s e h = cc
cut D (nothing ∷ K) t u ts x y s e h = cc
cut D (tok z q ∷ K) t u ts x y s e h = let v = took (q t.kind) (now (behind z D) ∷ []) (reading (behind z D) K (u ∷ ts)) s (x ∷ y ∷ []) e in (let k : now (behind z D) ∷ [] ≡ x ∷ y ∷ [] = v.1 in cc)
cut D (mark z ∷ K) t u ts x y s e h = cc
cut D (part P ∷ K) t u ts x y s e h = cc
cut D (by f ∷ K) t u ts x y s e h = cc
cut D ((r · v) ∷ K) t u ts x y s e h = cc
cut D (choice q r v ∷ K) t u ts x y s e h = cc
cut D (many q r ∷ K) t u ts x y s e h = cc
cut D (pair q v r ∷ K) t u ts x y s e h = cut_pair (q t.kind && v u.kind) D q v r K t u ts x y s refl e h.0.0

fronts_local : (D : Depths) (K : List Rule) (ts : List Token) (ds : List ℕ) (E : Depths) (M : List Rule) (us : List Token)
    → Local D K ts ds E M us → Good K → ((f rest : List Token) → us ≡ f ++ rest → Begins E M f) → (f rest : List Token) → ts ≡ f ++ rest → Begins D K f
fronts_local D K ts ds E M us (no_token t vs a q n h) s g f rest w = fronts_silent D K t vs ds E M h (λ f' r z. g f' r (q ∙ z)) f rest (sym a ∙ w)
fronts_local D K ts ds E M us (one_token t d a n h) s g f rest w = fronts_one D K t us ds E M h g f rest (sym a ∙ w)
fronts_local D K ts ds E M us (two_tokens t u d e a n h) s g f rest w =
    fronts_two D K t u us ds E M h (cut D K t u us d e (reading E M us) (h us ∙ ap (λ l. goes l (reading E M us)) n) s) g f rest (sym a ∙ w)

fronts_begin : (s v : State) (es : List ℕ) → Reads rule s es v → (D : Depths) (K : List Rule) (ts : List Token) → s ≡ reading D K ts → (E : Depths) (M : List Rule) → v ≡ reading E M [] → Good K
    → (f rest : List Token) → ts ≡ f ++ rest → Begins D K f
fronts_begin s v es here D K ts a E M b h [] rest w = begins_nothing D K
fronts_begin s v es here D K ts a E M b h (x ∷ f) rest w = (let z : reading D K ts ≡ reading E M [] = sym a ∙ b in let k : x ∷ f ++ rest ≡ [] = (let y : ts ≡ [] = cc in sym w ∙ y) in absurd (cc))
fronts_begin s v es (onward {t = reading F N us} {ds = ds} e r) D K ts a E M b h f rest w =
    let k : step rule (reading D K ts) ≡ goes ds (reading F N us) = sym (ap (step rule) a) ∙ e in
    fronts_local D K ts ds F N us (local D K ts ds F N us k) h (fronts_begin (reading F N us) v _ r F N us refl E M b (good_step D K ts ds F N us k h)) f rest w

pub shorter : (ts us : List Token) → Begins start program_rules (ts ++ us) → Begins start program_rules ts
shorter ts us b = fronts_begin _ _ b.depths b.reads start program_rules (ts ++ us) refl b.now b.left refl (tt, tt) ts us refl

-- Of two places in one list the first stands before the second, or they are one.
data Order (f g : List Token) (b c : Token) (as' bs : List Token) : Type 0 where
  same : f ≡ g → as' ≡ bs → Order f g b c as' bs
  before : (h : List Token) → g ≡ f ++ b ∷ h → Order f g b c as' bs
  behind_it : (h : List Token) → f ≡ g ++ c ∷ h → Order f g b c as' bs

later : (x : Token) (f g : List Token) (b c : Token) (as' bs : List Token) → Order f g b c as' bs → Order (x ∷ f) (x ∷ g) b c as' bs
later x f g b c as' bs (same p q) = same (ap (λ l. x ∷ l) p) q
later x f g b c as' bs (before h p) = before h (ap (λ l. x ∷ l) p)
later x f g b c as' bs (behind_it h p) = behind_it h (ap (λ l. x ∷ l) p)

order : (f g : List Token) (b c : Token) (as' bs : List Token) → f ++ b ∷ as' ≡ g ++ c ∷ bs → Order f g b c as' bs
order [] [] b c as' bs e = same refl (cc)
order [] (y ∷ g) b c as' bs e = before g (let q : b ≡ y = cc in ap (λ v. v ∷ g) (sym q))
order (x ∷ f) [] b c as' bs e = behind_it f (let q : x ≡ c = cc in ap (λ v. v ∷ f) q)
order (x ∷ f) (y ∷ g) b c as' bs e =
    let q : x ≡ y = cc in
    let z : f ++ b ∷ as' ≡ g ++ c ∷ bs = cc in
    subst (λ (v : Token). Order (x ∷ f) (v ∷ g) b c as' bs) q (later x f g b c as' bs (order f g b c as' bs z))

not_before : (f g h : List Token) (b : Token) → g ≡ f ++ b ∷ h → Begins start program_rules g → (Begins start program_rules (f ++ b ∷ []) → ⊥) → ⊥
not_before f g h b e w n = n (shorter (f ++ b ∷ []) h (subst (λ (l : List Token). Begins start program_rules l) (e ∙ regroup f b h) w))

pub one_place : (ts : List Token) (left other : ℕ) → Stuck start program_rules ts left → Stuck start program_rules ts other → left ≡ other
one_place ts left other S T = elim (order S.front T.front S.bad T.bad S.after T.after (sym S.whole ∙ T.whole)) [
  | same p q ↦ S.count ∙ ap (λ l. suc (length l)) q ∙ sym T.count
  | before h p ↦ absurd (not_before S.front T.front h S.bad p T.begins S.ends)
  | behind_it h p ↦ absurd (not_before T.front S.front h T.bad p S.begins T.ends)
]
