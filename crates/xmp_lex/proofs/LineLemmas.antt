-- The tokens of a cut stand in lines.
use Rattle.std.proofs.Common.{◌≡◌, ◌≢◌, ◌++◌, ℕ, List, [], ◌∷◌, map, refl, sym, ap, ◌∙◌, subst, append_assoc, append-nil, Bool, true, false}
use Rattle.xmp_lex.specs.declared.token.Token.{Token}
use Rattle.xmp_lex.specs.declared.token.TokenKind.{TokenKind}
use Rattle.xmp_lex.specs.declared.token.TokenKind.TheVariants as t
use Rattle.xmp_lex.specs.LineStates.{LineState}
use Rattle.xmp_lex.specs.LineStates as state
use Rattle.xmp_lex.specs.Pieces.{Spelled, name, word, number, quoted, mark, define, include, pragma, other_pragma}
use Rattle.xmp_lex.specs.Cut.{Piece, white, comment, token, hash, line_space, skip, close, Front, Cuts, none, piece, placed, ending, Cut}
use Rattle.xmp_lex.specs.LineStates.{IsOutside, IsHashLine, behind_white, behind_token, at_end}
use Rattle.xmp_lex.proofs.CloseLemmas.{fin_append}
use Rattle.xmp_lex.specs.Lines.{IsFinished, closes, Closes, IsClosed, IsClosedBehind}

-- a token that neither begins nor ends a line
abbrev pub IsPlain : TokenKind → Type 0
IsPlain (t.Define n) = ⊥
IsPlain t.Pragma = ⊥
IsPlain t.Close = ⊥
IsPlain t.Finish = ⊥
IsPlain _ = Unit {0}

spelled_plain : (text : List ℕ) (n : ℕ) (k : TokenKind) → Spelled text n k → IsPlain k
spelled_plain text n _ (name _ a b c) = tt
spelled_plain text n _ (word _ r a b c) = tt
spelled_plain text n _ (number _ v a b c) = tt
spelled_plain text n _ (quoted k _ a b c d e) = tt
spelled_plain text n _ (mark _ x a b c d) = tt

-- tokens without a Define, and closed lines, go on
closes_append : (ss ts : List Token) → Closes ss → Closes (ss ++ ts)
closes_append [] ts h = absurd h
closes_append (x ∷ ss) ts h = by x.kind h (closes_append ss ts) where
  by : (k : TokenKind) → closes k (Closes ss) → (Closes ss → Closes (ss ++ ts)) → closes k (Closes (ss ++ ts))
  by (t.Name n) h next = next h
  by (t.Word w) h next = next h
  by (t.Number v ty) h next = next h
  by (t.Text bytes) h next = next h
  by (t.Mark m) h next = next h
  by (t.Define n) h next = h
  by t.Pragma h next = h
  by t.Close h next = h
  by t.Finish h next = h

closed_append : (ss ts : List Token) → IsClosed ss → IsClosed ts → IsClosed (ss ++ ts)
closed_append [] ts h k = k
closed_append (x ∷ ss) ts h k = (by x.kind h.0, closed_append ss ts h.1 k) where
  by : (kd : TokenKind) → IsClosedBehind kd ss → IsClosedBehind kd (ss ++ ts)
  by (t.Name n) h = tt
  by (t.Word w) h = tt
  by (t.Number v ty) h = tt
  by (t.Text bytes) h = tt
  by (t.Mark m) h = tt
  by (t.Define n) h = closes_append ss ts h
  by t.Pragma h = tt
  by t.Close h = tt
  by t.Finish h = tt

-- a line that is open: its tokens so far are plain
unfoldable pub ArePlain : List Token → Type 0
ArePlain [] = Unit {0}
ArePlain (x ∷ ts) = IsPlain x.kind × ArePlain ts

plain_append : (ss ts : List Token) → ArePlain ss → ArePlain ts → ArePlain (ss ++ ts)
unfolding ArePlain
plain_append [] ts h k = k
plain_append (x ∷ ss) ts h k = (h.0, plain_append ss ts h.1 k)

closed_line : (ss : List Token) (c : Token) → ArePlain ss → c.kind ≡ t.Close → IsClosed (ss ++ c ∷ [])
unfolding ArePlain
closed_line [] c h e = (subst (λ k. IsClosedBehind k []) (sym e) tt, tt)
closed_line (x ∷ ss) c h e = (by x.kind h.0, closed_line ss c h.1 e) where
  by : (kd : TokenKind) → IsPlain kd → IsClosedBehind kd (ss ++ c ∷ [])
  by (t.Name n) h = tt
  by (t.Word w) h = tt
  by (t.Number v ty) h = tt
  by (t.Text bytes) h = tt
  by (t.Mark m) h = tt
  by (t.Define n) h = absurd h
  by t.Pragma h = absurd h
  by t.Close h = absurd h
  by t.Finish h = absurd h

closes_line : (ss : List Token) (c : Token) → ArePlain ss → c.kind ≡ t.Close → Closes (ss ++ c ∷ [])
unfolding ArePlain
closes_line [] c h e = subst (λ k. closes k ⊥) (sym e) tt
closes_line (x ∷ ss) c h e = by x.kind h.0 (closes_line ss c h.1 e) where
  by : (kd : TokenKind) → IsPlain kd → Closes (ss ++ c ∷ []) → closes kd (Closes (ss ++ c ∷ []))
  by (t.Name n) h next = next
  by (t.Word w) h next = next
  by (t.Number v ty) h next = next
  by (t.Text bytes) h next = next
  by (t.Mark m) h next = next
  by (t.Define n) h next = absurd h
  by t.Pragma h next = absurd h
  by t.Close h next = absurd h
  by t.Finish h next = absurd h

pub record OpenLine (ts : List Token) : Type 0 where
  pub before : List Token
  pub head : Token
  pub body : List Token
  pub are : ts ≡ before ++ head ∷ body
  pub closed : IsClosed before
  pub plain : ArePlain body

-- the lines so far, at each mode
abbrev pub Lines : LineState → List Token → Type 0
Lines state.directive ts = OpenLine ts
Lines _ ts = IsClosed ts

plain_last : (ts : List Token) (x : Token) → IsPlain x.kind → IsClosed ts → IsClosed (ts ++ x ∷ [])
plain_last ts x p h = closed_append ts (x ∷ []) h (by x.kind p, tt) where
  by : (kd : TokenKind) → IsPlain kd → IsClosedBehind kd []
  by (t.Name n) h = tt
  by (t.Word w) h = tt
  by (t.Number v ty) h = tt
  by (t.Text bytes) h = tt
  by (t.Mark m) h = tt
  by (t.Define n) h = absurd h
  by t.Pragma h = tt
  by t.Close h = tt
  by t.Finish h = tt

open_last : (ts : List Token) (x : Token) → IsPlain x.kind → OpenLine ts → OpenLine (ts ++ x ∷ [])
unfolding ArePlain
open_last ts x p o = record {
  before = o.before;
  head = o.head;
  body = o.body ++ x ∷ [];
  are = ap (λ us. us ++ x ∷ []) o.are ∙ append_assoc o.before (o.head ∷ o.body) (x ∷ []);
  closed = o.closed;
  plain = plain_append o.body (x ∷ []) o.plain (p, tt);
}

closed_last : (ts : List Token) (c : Token) → c.kind ≡ t.Close → OpenLine ts → IsClosed (ts ++ c ∷ [])
closed_last ts c e o = subst IsClosed (sym (ap (λ us. us ++ c ∷ []) o.are ∙ append_assoc o.before (o.head ∷ o.body) (c ∷ [])))
    (closed_append o.before (o.head ∷ (o.body ++ c ∷ [])) o.closed (by o.head.kind, closed_line o.body c o.plain e))
  where
    by : (kd : TokenKind) → IsClosedBehind kd (o.body ++ c ∷ [])
    by (t.Name n) = tt
    by (t.Word w) = tt
    by (t.Number v ty) = tt
    by (t.Text bytes) = tt
    by (t.Mark m) = tt
    by (t.Define n) = closes_line o.body c o.plain e
    by t.Pragma = tt
    by t.Close = tt
    by t.Finish = tt

same : (ts : List Token) (x : LineState) → Lines x ts → Lines x (ts ++ [])
same ts x h = subst (Lines x) (sym (append-nil ts)) h

after_white : (ts : List Token) (x : LineState) (b : Bool) → IsOutside x → Lines x ts → Lines (behind_white x b) ts
after_white ts state.fresh true o h = h
after_white ts state.fresh false o h = h
after_white ts state.begun true o h = h
after_white ts state.begun false o h = h
after_white ts state.directive b o h = absurd o
after_white ts state.ignored b o h = absurd o

after_token : (ts : List Token) (x : LineState) (k : Token) → x ≢ state.ignored → IsPlain k.kind → Lines x ts → Lines (behind_token x) (ts ++ k ∷ [])
after_token ts state.fresh k i p h = plain_last ts k p h
after_token ts state.begun k i p h = plain_last ts k p h
after_token ts state.directive k i p h = open_last ts k p h
after_token ts state.ignored k i p h = absurd (i refl)

opened : (ts : List Token) (d : Token) → IsClosed ts → OpenLine (ts ++ d ∷ [])
unfolding ArePlain
opened ts d h = record { before = ts; head = d; body = []; are = refl; closed = h; plain = tt }

lines_piece : (text : List ℕ) (x y : LineState) (n : ℕ) (out : List (ℕ × TokenKind)) (f : Front) → Piece text x n out y → Lines x f.tokens → Lines y (f.tokens ++ placed f.at text out)
lines_piece text x _ n _ f (white _ o w) h = same f.tokens _ (after_white f.tokens x _ o h)
lines_piece text x _ n _ f (comment _ _ o c) h = same f.tokens x h
lines_piece text x _ n _ f (token _ _ kind i s) h = after_token f.tokens x _ i (spelled_plain text n kind s) h
lines_piece text _ _ n _ f (hash _ _ _ b (define m k r hd s p)) h = opened f.tokens _ h
lines_piece text _ _ n _ f (hash _ _ _ b (include m hd e)) h = same f.tokens state.ignored h
lines_piece text _ _ n _ f (hash _ _ _ b (pragma m x)) h = opened f.tokens _ h
lines_piece text _ _ n _ f (hash _ _ _ b (other_pragma m w o)) h = same f.tokens state.ignored h
lines_piece text x _ n _ f (line_space _ _ o g) h = same f.tokens x h
lines_piece text _ _ n _ f (skip e g u) h = same f.tokens state.ignored h
lines_piece text x _ n _ f (close _ o e) h = by x o h where
  by : (y : LineState) → IsHashLine y → Lines y f.tokens → IsClosed (f.tokens ++ placed f.at text (map (λ k. (0, k)) (at_end y)))
  by state.fresh o h = absurd o
  by state.begun o h = absurd o
  by state.directive o h = closed_last f.tokens _ refl h
  by state.ignored o h = same f.tokens state.fresh h

lines_cut : (text : List ℕ) (f : Front) → Cuts text f → Lines f.state f.tokens
lines_cut text _ none = tt
lines_cut text _ (piece f n out x c some p) = lines_piece f.rest f.state x n out f p (lines_cut text f c)

closed_ending : (x : LineState) (ts : List Token) (f : Front) → Lines x ts → IsClosed (ts ++ ending x f.at)
closed_ending state.fresh ts f h = closed_append ts _ h (tt, tt)
closed_ending state.begun ts f h = closed_append ts _ h (tt, tt)
closed_ending state.directive ts f h =
    let c : Token = record { kind = t.Close; at = f.at } in let e : Token = record { kind = t.Finish; at = f.at } in
    subst IsClosed (append_assoc ts (c ∷ []) (e ∷ [])) (closed_append (ts ++ c ∷ []) (e ∷ []) (closed_last ts c refl h) (tt, tt))
closed_ending state.ignored ts f h = closed_append ts _ h (tt, tt)

pub cut_closed : (text : List ℕ) (tokens : List Token) → Cut text tokens → IsClosed tokens
cut_closed text tokens c = subst IsClosed (sym c.tokens_are) (closed_ending c.front.state c.front.tokens c.front (lines_cut text c.front c.cuts))

finished_ending : (x : LineState) (f : Front) → IsFinished (ending x f.at)
finished_ending state.fresh f = refl
finished_ending state.begun f = refl
finished_ending state.directive f = refl
finished_ending state.ignored f = refl

pub cut_finished : (text : List ℕ) (tokens : List Token) → Cut text tokens → IsFinished tokens
cut_finished text tokens c = subst IsFinished (sym c.tokens_are) (fin_append c.front.tokens (ending c.front.state c.front.at) (finished_ending c.front.state c.front))
