-- The rules that are to come, opened up to the next token.
use Rattle.std.proofs.Common.{◌≡◌, ◌≤◌, ◌<◌, ℕ, zero, suc, Bool, true, false, cond, List, [], ◌∷◌, ◌++◌, length, All, refl, sym, ap, ◌∙◌, subst, arith, Option, None, Some}
use Rattle.std.specs.Prelude.{◌&&◌, ◌||◌, not}
use Rattle.std.proofs.lemmas.List.Elements.{All-nil, All-cons, All-append}
use Rattle.xmp_lex.specs.declared.token.Token.{Token}
use Rattle.xmp_lex.specs.declared.token.TokenKind.{TokenKind}
use Rattle.xmp_lex.specs.declared.token.TokenKind.TheVariants as t
use Rattle.xmp_lex.specs.declared.token.Mark.{Mark}
use Rattle.xmp_lex.specs.declared.token.Mark.TheVariants as m
use Rattle.xmp_syntax.specs.Parts as p
use Rattle.xmp_syntax.specs.Parts.{Part}
use Rattle.xmp_syntax.specs.Reading.{Test, Effect, plain, operator, separator, opening, closing, cast, enter, Rule, nothing, tok, mark, part, by, ◌·◌, choice, many, pair, Depths, depths, now, behind, State, reading, Step, goes, halts, step, pair_step, Reads, here, onward}
use Rattle.xmp_syntax.specs.Grammar.{rule, is_finish, is_mark, is_unary, is_unary_mark, is_number, is_name, binary, operand_of, expr, brackets}
use Rattle.xmp_syntax.specs.Steps.{reads_on, StuckAt, TooDeepAt, stuck_here, stuck_through, deep_here, deep_through}
use Rattle.xmp_syntax.specs.Refused.{TooDeep}
use Rattle.xmp_reader.specs.Going.{has_finish, left_at, Comes}
use Rattle.xmp_reader.specs.Kinds.{next_is, next_are, next_kind, begins_image}
use Rattle.xmp_reader.specs.declared.depth.Depth.{Depth}
use Rattle.xmp_reader.proofs.Taking.{silent, one_stuck, not_finish, same_depths}
use Rattle.xmp_reader.proofs.Held.{same_mark}

-- a silent step that any next token allows
opened : (s : State) (D : Depths) (K M : List Rule) (ts : List Token) → ((k : Token) (us : List Token) → step rule (reading D K (k ∷ us)) ≡ goes [] (reading D M (k ∷ us)))
    → Comes s (reading D K ts) → Comes s (reading D M ts)
opened s D K M [] h c = let f = c.finish in cc
opened s D K M (k ∷ ts) h c = silent s _ _ (h k ts) refl c

-- the first of the rules at the front
abbrev pub head : Rule → List Rule → List Rule
head (a · b) K = head a (b ∷ K)
head r K = r ∷ K

heads : (R : Rule) (s : State) (D : Depths) (K : List Rule) (ts : List Token) → Comes s (reading D (R ∷ K) ts) → Comes s (reading D (head R K) ts)
heads (a · b) s D K ts c = heads a s D (b ∷ K) ts (opened s D _ _ ts (λ k us. refl) c)
heads nothing s D K ts c = c
heads (tok e q) s D K ts c = c
heads (mark e) s D K ts c = c
heads (part P) s D K ts c = c
heads (by f) s D K ts c = c
heads (choice q a b) s D K ts c = c
heads (many q a) s D K ts c = c
heads (pair q r a) s D K ts c = c

-- a sequence, and a part by its rule
pub seq : {s : State} {D : Depths} {R : Rule} {K : List Rule} {ts : List Token} → Comes s (reading D (R ∷ K) ts) → Comes s (reading D (head R K) ts)
seq {s = s} {D = D} {R = R} {K = K} {ts = ts} c = heads R s D K ts c

pub into : {s : State} {D : Depths} {P : Part} {K : List Rule} {ts : List Token} → Comes s (reading D (part P ∷ K) ts) → Comes s (reading D (head (rule P) K) ts)
into {s = s} {D = D} {P = P} {K = K} {ts = ts} c = heads (rule P) s D K ts (opened s D _ _ ts (λ k us. refl) c)

pub skip : {s : State} {D : Depths} {K : List Rule} {ts : List Token} → Comes s (reading D (nothing ∷ K) ts) → Comes s (reading D K ts)
skip {s = s} {D = D} {K = K} {ts = ts} c = opened s D _ _ ts (λ k us. refl) c

-- a choice that the next token settles
pub first : {s : State} {D : Depths} {q : Test} {a b : Rule} {K : List Rule} {ts : List Token} → next_is q ts ≡ true → Comes s (reading D (choice q a b ∷ K) ts) → Comes s (reading D (head a K) ts)
first {s = s} {D = D} {q = q} {a = a} {b = b} {K = K} {ts = []} h c = cc
first {s = s} {D = D} {q = q} {a = a} {b = b} {K = K} {ts = k ∷ ts} h c =
    heads a s D K (k ∷ ts) (silent s _ _ (ap (λ (x : Bool). goes [] (reading D (cond x a b ∷ K) (k ∷ ts))) h) refl c)

pub second : {s : State} {D : Depths} {q : Test} {a b : Rule} {K : List Rule} {ts : List Token} → next_is q ts ≡ false → Comes s (reading D (choice q a b ∷ K) ts) → Comes s (reading D (head b K) ts)
second {s = s} {D = D} {q = q} {a = a} {b = b} {K = K} {ts = []} h c = let f = c.finish in cc
second {s = s} {D = D} {q = q} {a = a} {b = b} {K = K} {ts = k ∷ ts} h c =
    heads b s D K (k ∷ ts) (silent s _ _ (ap (λ (x : Bool). goes [] (reading D (cond x a b ∷ K) (k ∷ ts))) h) refl c)

-- one more, and no more
pub again : {s : State} {D : Depths} {q : Test} {a : Rule} {K : List Rule} {ts : List Token} → next_is q ts ≡ true → Comes s (reading D (many q a ∷ K) ts) → Comes s (reading D (head a (many q a ∷ K)) ts)
again {s = s} {D = D} {q = q} {a = a} {K = K} {ts = []} h c = cc
again {s = s} {D = D} {q = q} {a = a} {K = K} {ts = k ∷ ts} h c =
    heads a s D (many q a ∷ K) (k ∷ ts) (silent s _ _ (ap (λ (x : Bool). goes [] (reading D (cond x (a ∷ many q a ∷ K) K) (k ∷ ts))) h) refl c)

pub no_more : {s : State} {D : Depths} {q : Test} {a : Rule} {K : List Rule} {ts : List Token} → next_is q ts ≡ false → Comes s (reading D (many q a ∷ K) ts) → Comes s (reading D K ts)
no_more {s = s} {D = D} {q = q} {a = a} {K = K} {ts = []} h c = let f = c.finish in cc
no_more {s = s} {D = D} {q = q} {a = a} {K = K} {ts = k ∷ ts} h c =
    silent s _ _ (ap (λ (x : Bool). goes [] (reading D (cond x (a ∷ many q a ∷ K) K) (k ∷ ts))) h) refl c

-- a level of operators
pub level_of_operators : {s : State} {D : Depths} {c : Bool} {K : List Rule} {ts : List Token} (n b : ℕ) → n ≡ suc b → Comes s (reading D (part (p.level n c) ∷ K) ts)
    → Comes s (reading D (part (p.level b c) ∷ many (binary n) (tok operator (binary n) · part (p.level b c)) ∷ K) ts)
level_of_operators {s = s} {D = D} {c = c} {K = K} {ts = ts} n b e w =
    subst (λ (x : ℕ). Comes s (reading D (part (p.level b c) ∷ many (binary x) (tok operator (binary x) · part (p.level b c)) ∷ K) ts)) (sym e)
    (into (subst (λ (x : ℕ). Comes s (reading D (part (p.level x c) ∷ K) ts)) e w))

-- an operand by its first token
operand_by : (s : State) (D : Depths) (c : Bool) (K : List Rule) (k : Token) (ts : List Token) (P : Part) → operand_of c k.kind ≡ P → Comes s (reading D (part (p.level 0 c) ∷ K) (k ∷ ts)) → Comes s (reading D (rule P ∷ K) (k ∷ ts))
operand_by s D c K k ts P e w = silent s _ _ (ap (λ (x : Part). goes [] (reading D (rule x ∷ K) (k ∷ ts))) e) refl (opened s D _ _ (k ∷ ts) (λ j us. refl) w)

number_operand : (c : Bool) (k : TokenKind) → is_number k ≡ true → operand_of c k ≡ p.number
number_operand c (t.Name a) h = cc
number_operand c (t.Word a) h = cc
number_operand c (t.Number a b) h = refl
number_operand c (t.Text a) h = cc
number_operand c (t.Mark a) h = cc
number_operand c (t.Define a) h = cc
number_operand c t.Pragma h = cc
number_operand c t.Close h = cc
number_operand c t.Finish h = cc

name_operand : (c : Bool) (k : TokenKind) → is_name k ≡ true → operand_of c k ≡ p.named c
name_operand c (t.Name a) h = refl
name_operand c (t.Word a) h = cc
name_operand c (t.Number a b) h = cc
name_operand c (t.Text a) h = cc
name_operand c (t.Mark a) h = cc
name_operand c (t.Define a) h = cc
name_operand c t.Pragma h = cc
name_operand c t.Close h = cc
name_operand c t.Finish h = cc

paren_operand : (c : Bool) (k : TokenKind) → is_mark m.OpenParen k ≡ true → operand_of c k ≡ p.parens_or_cast c
paren_operand c (t.Name a) h = cc
paren_operand c (t.Word a) h = cc
paren_operand c (t.Number a b) h = cc
paren_operand c (t.Text a) h = cc
paren_operand c (t.Mark a) h = ap (λ (j : Mark). operand_of c (t.Mark j)) (sym (same_mark m.OpenParen a h))
paren_operand c (t.Define a) h = cc
paren_operand c t.Pragma h = cc
paren_operand c t.Close h = cc
paren_operand c t.Finish h = cc

unary_mark_operand : (c : Bool) (x : Mark) → is_unary_mark x ≡ true → operand_of c (t.Mark x) ≡ p.unary c
unary_mark_operand c m.Plus h = refl
unary_mark_operand c m.Minus h = refl
unary_mark_operand c m.Star h = cc
unary_mark_operand c m.Slash h = cc
unary_mark_operand c m.Percent h = cc
unary_mark_operand c m.ShiftLeft h = cc
unary_mark_operand c m.ShiftRight h = cc
unary_mark_operand c m.Less h = cc
unary_mark_operand c m.LessEqual h = cc
unary_mark_operand c m.Greater h = cc
unary_mark_operand c m.GreaterEqual h = cc
unary_mark_operand c m.Equal h = cc
unary_mark_operand c m.Differ h = cc
unary_mark_operand c m.And h = cc
unary_mark_operand c m.Or h = cc
unary_mark_operand c m.Xor h = cc
unary_mark_operand c m.Tilde h = refl
unary_mark_operand c m.Bang h = refl
unary_mark_operand c m.AndAnd h = cc
unary_mark_operand c m.OrOr h = cc
unary_mark_operand c m.Question h = cc
unary_mark_operand c m.Colon h = cc
unary_mark_operand c m.Assign h = cc
unary_mark_operand c m.AddAssign h = cc
unary_mark_operand c m.SubAssign h = cc
unary_mark_operand c m.MulAssign h = cc
unary_mark_operand c m.DivAssign h = cc
unary_mark_operand c m.RemAssign h = cc
unary_mark_operand c m.ShlAssign h = cc
unary_mark_operand c m.ShrAssign h = cc
unary_mark_operand c m.AndAssign h = cc
unary_mark_operand c m.OrAssign h = cc
unary_mark_operand c m.XorAssign h = cc
unary_mark_operand c m.Increment h = cc
unary_mark_operand c m.Decrement h = cc
unary_mark_operand c m.OpenParen h = cc
unary_mark_operand c m.CloseParen h = cc
unary_mark_operand c m.OpenBracket h = cc
unary_mark_operand c m.CloseBracket h = cc
unary_mark_operand c m.OpenBrace h = cc
unary_mark_operand c m.CloseBrace h = cc
unary_mark_operand c m.Comma h = cc
unary_mark_operand c m.Semicolon h = cc

unary_operand : (c : Bool) (k : TokenKind) → is_unary k ≡ true → operand_of c k ≡ p.unary c
unary_operand c (t.Name a) h = cc
unary_operand c (t.Word a) h = cc
unary_operand c (t.Number a b) h = cc
unary_operand c (t.Text a) h = cc
unary_operand c (t.Mark a) h = unary_mark_operand c a h
unary_operand c (t.Define a) h = cc
unary_operand c t.Pragma h = cc
unary_operand c t.Close h = cc
unary_operand c t.Finish h = cc

other_mark_operand : (c : Bool) (x : Mark) → is_mark m.OpenParen (t.Mark x) ≡ false → is_unary_mark x ≡ false → operand_of c (t.Mark x) ≡ p.no_part
other_mark_operand c m.Plus g h = cc
other_mark_operand c m.Minus g h = cc
other_mark_operand c m.Star g h = refl
other_mark_operand c m.Slash g h = refl
other_mark_operand c m.Percent g h = refl
other_mark_operand c m.ShiftLeft g h = refl
other_mark_operand c m.ShiftRight g h = refl
other_mark_operand c m.Less g h = refl
other_mark_operand c m.LessEqual g h = refl
other_mark_operand c m.Greater g h = refl
other_mark_operand c m.GreaterEqual g h = refl
other_mark_operand c m.Equal g h = refl
other_mark_operand c m.Differ g h = refl
other_mark_operand c m.And g h = refl
other_mark_operand c m.Or g h = refl
other_mark_operand c m.Xor g h = refl
other_mark_operand c m.Tilde g h = cc
other_mark_operand c m.Bang g h = cc
other_mark_operand c m.AndAnd g h = refl
other_mark_operand c m.OrOr g h = refl
other_mark_operand c m.Question g h = refl
other_mark_operand c m.Colon g h = refl
other_mark_operand c m.Assign g h = refl
other_mark_operand c m.AddAssign g h = refl
other_mark_operand c m.SubAssign g h = refl
other_mark_operand c m.MulAssign g h = refl
other_mark_operand c m.DivAssign g h = refl
other_mark_operand c m.RemAssign g h = refl
other_mark_operand c m.ShlAssign g h = refl
other_mark_operand c m.ShrAssign g h = refl
other_mark_operand c m.AndAssign g h = refl
other_mark_operand c m.OrAssign g h = refl
other_mark_operand c m.XorAssign g h = refl
other_mark_operand c m.Increment g h = refl
other_mark_operand c m.Decrement g h = refl
other_mark_operand c m.OpenParen g h = cc
other_mark_operand c m.CloseParen g h = refl
other_mark_operand c m.OpenBracket g h = refl
other_mark_operand c m.CloseBracket g h = refl
other_mark_operand c m.OpenBrace g h = refl
other_mark_operand c m.CloseBrace g h = refl
other_mark_operand c m.Comma g h = refl
other_mark_operand c m.Semicolon g h = refl

other_operand : (c : Bool) (k : TokenKind) → is_number k ≡ false → is_name k ≡ false → is_mark m.OpenParen k ≡ false → is_unary k ≡ false → operand_of c k ≡ p.no_part
other_operand c (t.Name a) d e g h = cc
other_operand c (t.Word a) d e g h = refl
other_operand c (t.Number a b) d e g h = cc
other_operand c (t.Text a) d e g h = refl
other_operand c (t.Mark a) d e g h = other_mark_operand c a g h
other_operand c (t.Define a) d e g h = refl
other_operand c t.Pragma d e g h = refl
other_operand c t.Close d e g h = refl
other_operand c t.Finish d e g h = refl

pub a_number : {s : State} {D : Depths} {c : Bool} {K : List Rule} {ts : List Token} → next_is is_number ts ≡ true → Comes s (reading D (part (p.level 0 c) ∷ K) ts) → Comes s (reading D (tok plain is_number ∷ K) ts)
a_number {s = s} {D = D} {c = c} {K = K} {ts = []} h w = cc
a_number {s = s} {D = D} {c = c} {K = K} {ts = k ∷ ts} h w = operand_by s D c K k ts p.number (number_operand c k.kind h) w

pub a_name : {s : State} {D : Depths} {c : Bool} {K : List Rule} {ts : List Token} → next_is is_name ts ≡ true → Comes s (reading D (part (p.level 0 c) ∷ K) ts) → Comes s (reading D (rule (p.named c) ∷ K) ts)
a_name {s = s} {D = D} {c = c} {K = K} {ts = []} h w = cc
a_name {s = s} {D = D} {c = c} {K = K} {ts = k ∷ ts} h w = operand_by s D c K k ts (p.named c) (name_operand c k.kind h) w

pub a_paren : {s : State} {D : Depths} {c : Bool} {K : List Rule} {ts : List Token} → next_is (is_mark m.OpenParen) ts ≡ true → Comes s (reading D (part (p.level 0 c) ∷ K) ts) → Comes s (reading D (rule (p.parens_or_cast c) ∷ K) ts)
a_paren {s = s} {D = D} {c = c} {K = K} {ts = []} h w = cc
a_paren {s = s} {D = D} {c = c} {K = K} {ts = k ∷ ts} h w = operand_by s D c K k ts (p.parens_or_cast c) (paren_operand c k.kind h) w

pub a_unary : {s : State} {D : Depths} {c : Bool} {K : List Rule} {ts : List Token} → next_is is_unary ts ≡ true → Comes s (reading D (part (p.level 0 c) ∷ K) ts) → Comes s (reading D (tok operator is_unary ∷ part (p.level 0 c) ∷ K) ts)
a_unary {s = s} {D = D} {c = c} {K = K} {ts = []} h w = cc
a_unary {s = s} {D = D} {c = c} {K = K} {ts = k ∷ ts} h w = seq (operand_by s D c K k ts (p.unary c) (unary_operand c k.kind h) w)

pub no_operand : (s : State) (D : Depths) (c : Bool) (K : List Rule) (ts : List Token) → next_is is_number ts ≡ false → next_is is_name ts ≡ false → next_is (is_mark m.OpenParen) ts ≡ false → next_is is_unary ts ≡ false
    → Comes s (reading D (part (p.level 0 c) ∷ K) ts) → StuckAt s (length ts)
no_operand s D c K [] d e g h w = let f = w.finish in cc
no_operand s D c K (k ∷ ts) d e g h w = one_stuck plain (λ j. false) D K k ts s refl (operand_by s D c K k ts p.no_part (other_operand c k.kind d e g h) w)

-- the colon and the bracket of an image, where another colon may follow
both_true : (a b : Bool) → a && b ≡ true → (a ≡ true) × (b ≡ true)
both_true true b h = (refl, h)
both_true false b h = cc

after_both : (x y : Bool) (z : Bool) → x ≡ false → y ≡ false → x || (y || z) ≡ true → z ≡ true
after_both true y z a b h = cc
after_both false true z a b h = cc
after_both false false z a b h = h

pair_taken : (s : State) (D : Depths) (q r : Test) (a : Rule) (K : List Rule) (k j : Token) (ts : List Token)
    → q k.kind ≡ true → r j.kind ≡ true → q t.Finish ≡ false → r t.Finish ≡ false → now (behind opening D) ≤ 128 → now D ≤ 128
    → Comes s (reading D (pair q r a ∷ K) (k ∷ j ∷ ts)) → Comes s (reading (behind opening D) (a ∷ K) ts)
pair_taken s D q r a K k j ts f g x y w v c =
    let h : q k.kind && r j.kind ≡ true = ap (λ (b : Bool). b && r j.kind) f ∙ g in
    record {
      depths = c.depths ++ now D ∷ now (behind opening D) ∷ [];
      reads = reads_on s _ _ c.depths (now D ∷ now (behind opening D) ∷ []) c.reads (onward (ap (λ (b : Bool). pair_step b D a K k j ts) h) here);
      shallow = All-append (λ d. d ≤ 128) c.depths (now D ∷ now (behind opening D) ∷ []) c.shallow
          (All-cons (λ d. d ≤ 128) (now D) (now (behind opening D) ∷ []) v (All-cons (λ d. d ≤ 128) (now (behind opening D)) [] w (All-nil (λ d. d ≤ 128))));
      finish = after_both (is_finish k.kind) (is_finish j.kind) (has_finish ts) (not_finish q k.kind x f) (not_finish r j.kind y g) c.finish;
    }

pair_deep : (s : State) (D : Depths) (q r : Test) (a : Rule) (K : List Rule) (k j : Token) (ts : List Token)
    → q k.kind ≡ true → r j.kind ≡ true → 128 < now (behind opening D) → now D ≤ 128
    → Comes s (reading D (pair q r a ∷ K) (k ∷ j ∷ ts)) → TooDeepAt s (suc (length ts))
pair_deep (reading E M us) D q r a K k j ts f g w v c =
    let h : q k.kind && r j.kind ≡ true = ap (λ (b : Bool). b && r j.kind) f ∙ g in
    deep_through E M us D (pair q r a ∷ K) (k ∷ j ∷ ts) c.depths (suc (length ts)) c.reads c.shallow
    (record {
      front = now D ∷ [];
      depth = now (behind opening D);
      now = behind opening D;
      rules = a ∷ K;
      rest = ts;
      reads = onward (ap (λ (b : Bool). pair_step b D a K k j ts) h) here;
      count = refl;
      shallow = All-cons (λ d. d ≤ 128) (now D) [] v (All-nil (λ d. d ≤ 128));
      deep = w;
    })

pub image_taken : (s : State) (d n : Depth) (ks : List Token) (k : Token) (us : List Token) (j : Token) (ts : List Token) (L : List (ℕ × ℕ)) (K : List Rule)
    → ks ≡ k ∷ us → us ≡ j ∷ ts → next_are (is_mark m.Colon) (is_mark m.OpenBracket) ks ≡ true → (n.now ≡ suc d.now) × (n.base ≡ suc d.now) × (n.now ≤ 128) → d.now ≤ 128
    → Comes s (reading (depths d.now d.base L) (part (p.image true) ∷ K) ks)
    → Comes s (reading (depths n.now n.base ((d.now, d.base) ∷ L)) (expr ∷ tok closing (is_mark m.CloseBracket) ∷ K) ts)
image_taken s d n ks k us j ts L K e f h g v c =
    let q : ks ≡ k ∷ j ∷ ts = e ∙ ap (λ (l : List Token). k ∷ l) f in
    let b = both_true _ _ (subst (λ (l : List Token). next_are (is_mark m.Colon) (is_mark m.OpenBracket) l ≡ true) q h) in
    let r = seq (pair_taken s (depths d.now d.base L) (is_mark m.Colon) (is_mark m.OpenBracket) (expr · tok closing (is_mark m.CloseBracket)) K k j ts b.0 b.1 refl refl
    (subst (λ (x : ℕ). x ≤ 128) g.0 g.2) v (into (subst (λ (l : List Token). Comes s (reading (depths d.now d.base L) (part (p.image true) ∷ K) l)) q c))) in
    same_depths n.now n.base (suc d.now) (suc d.now) _ _ ts s g.0 g.1 r

pub image_deep : (s : State) (d : Depth) (ks : List Token) (k : Token) (us : List Token) (j : Token) (ts : List Token) (L : List (ℕ × ℕ)) (K : List Rule)
    → ks ≡ k ∷ us → us ≡ j ∷ ts → next_are (is_mark m.Colon) (is_mark m.OpenBracket) ks ≡ true → 128 < suc d.now → d.now ≤ 128
    → Comes s (reading (depths d.now d.base L) (part (p.image true) ∷ K) ks) → TooDeepAt s (length us)
image_deep s d ks k us j ts L K e f h g v c =
    let q : ks ≡ k ∷ j ∷ ts = e ∙ ap (λ (l : List Token). k ∷ l) f in
    let b = both_true _ _ (subst (λ (l : List Token). next_are (is_mark m.Colon) (is_mark m.OpenBracket) l ≡ true) q h) in
    subst (λ (l : List Token). TooDeepAt s (length l)) (sym f)
    (pair_deep s (depths d.now d.base L) (is_mark m.Colon) (is_mark m.OpenBracket) (expr · tok closing (is_mark m.CloseBracket)) K k j ts b.0 b.1 g v
    (into (subst (λ (l : List Token). Comes s (reading (depths d.now d.base L) (part (p.image true) ∷ K) l)) q c)))

pub no_pair : (q r : Test) (ks : List Token) (k : Token) (us : List Token) → ks ≡ k ∷ us → us ≡ [] → next_are q r ks ≡ true → ⊥
no_pair q r ks k us e f h =
    let z : ks ≡ k ∷ [] = e ∙ ap (λ (l : List Token). k ∷ l) f in
    let b = both_true _ _ (subst (λ (l : List Token). next_are q r l ≡ true) z h) in
    let w : false ≡ true = b.1 in cc

pub no_pair_at_all : (q r : Test) (ks : List Token) → ks ≡ [] → next_are q r ks ≡ true → ⊥
no_pair_at_all q r ks e h = let w : false ≡ true = subst (λ (l : List Token). next_are q r l ≡ true) e h in cc

-- no image begins
next_two : (s : State) (D : Depths) (q r : Test) (a : Rule) (K : List Rule) (ts : List Token) → next_are q r ts ≡ false → Comes s (reading D (pair q r a ∷ K) ts) → Comes s (reading D K ts)
next_two s D q r a K [] h c = let f = c.finish in cc
next_two s D q r a K (k ∷ []) h c = silent s _ _ refl refl c
next_two s D q r a K (k ∷ j ∷ ts) h c = silent s _ _ (ap (λ (b : Bool). pair_step b D a K k j ts) h) refl c

pub without_image : (x : Bool) {s : State} {D : Depths} {K : List Rule} {ts : List Token} → begins_image x ts ≡ false → Comes s (reading D (part (p.image x) ∷ K) ts) → Comes s (reading D K ts)
without_image true {s = s} {D = D} {K = K} {ts = ts} h c = next_two s D _ _ _ K ts h (into c)
without_image false h c = skip (second h (into c))

-- an image behind which no other colon may stand
pub image_alone : (x : Bool) {s : State} {D : Depths} {K : List Rule} {ts : List Token} → x ≡ false → begins_image x ts ≡ true → Comes s (reading D (part (p.image x) ∷ K) ts)
    → Comes s (reading D (tok plain (is_mark m.Colon) ∷ brackets expr ∷ K) ts)
image_alone true e h c = cc
image_alone false e h c = first h (into c)

-- the depths around, counted elsewhere
pub same_around : {s : State} {a b n m c d : ℕ} {L : List (ℕ × ℕ)} {K : List Rule} {ts : List Token} → n ≡ c → m ≡ d → Comes s (reading (depths a b ((n, m) ∷ L)) K ts) → Comes s (reading (depths a b ((c, d) ∷ L)) K ts)
same_around {s = s} {a = a} {b = b} {n = n} {m = m} {c = c} {d = d} {L = L} {K = K} {ts = ts} p q w =
    subst (λ (x : ℕ). Comes s (reading (depths a b ((x, d) ∷ L)) K ts)) p (subst (λ (x : ℕ). Comes s (reading (depths a b ((n, x) ∷ L)) K ts)) q w)

-- a choice by the token that is not to come
pub first_not : (q : Test) {s : State} {D : Depths} {a b : Rule} {K : List Rule} {ts : List Token} → next_is q ts ≡ false → Comes s (reading D (choice (λ k. not (q k)) a b ∷ K) ts) → Comes s (reading D (head a K) ts)
first_not q {s = s} {D = D} {a = a} {b = b} {K = K} {ts = []} h c = let f = c.finish in cc
first_not q {s = s} {D = D} {a = a} {b = b} {K = K} {ts = k ∷ ts} h c = first {s = s} {D = D} {q = λ j. not (q j)} {a = a} {b = b} {K = K} {ts = k ∷ ts} (ap not h) c

pub second_not : (q : Test) {s : State} {D : Depths} {a b : Rule} {K : List Rule} {ts : List Token} → next_is q ts ≡ true → Comes s (reading D (choice (λ k. not (q k)) a b ∷ K) ts) → Comes s (reading D (head b K) ts)
second_not q {s = s} {D = D} {a = a} {b = b} {K = K} {ts = []} h c = cc
second_not q {s = s} {D = D} {a = a} {b = b} {K = K} {ts = k ∷ ts} h c = second {s = s} {D = D} {q = λ j. not (q j)} {a = a} {b = b} {K = K} {ts = k ∷ ts} (ap not h) c

-- the first of a choice, as it stands
pub chosen : {s : State} {D : Depths} {q : Test} {a b : Rule} {K : List Rule} {ts : List Token} → next_is q ts ≡ true → Comes s (reading D (choice q a b ∷ K) ts) → Comes s (reading D (a ∷ K) ts)
chosen {s = s} {D = D} {q = q} {a = a} {b = b} {K = K} {ts = []} h c = cc
chosen {s = s} {D = D} {q = q} {a = a} {b = b} {K = K} {ts = k ∷ ts} h c = silent s _ _ (ap (λ (x : Bool). goes [] (reading D (cond x a b ∷ K) (k ∷ ts))) h) refl c
