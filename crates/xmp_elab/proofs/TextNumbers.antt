-- Each number among the tokens of a text, before and behind expansion, is a value of its type.
use Rattle.std.proofs.Common.{◌≡◌, ◌<◌, ◌++◌, ◌||◌, ℕ, List, [], ◌∷◌, refl, sym, subst, arith, true, false, Bool, Option, Some, None, All, take, cond}
use Rattle.std.specs.Prelude.{nat_le, pos, option_map, IfSome}
use Rattle.std.specs.List.{list_any}
use Rattle.std.proofs.lemmas.List.Elements.{All-nil, All-cons, All-append, All-head, All-tail, All-map}
use Rattle.std.proofs.lemmas.Map.Entries.{All-lookup}
use Rattle.xmp_base.specs.declared.place.Place.{Place}
use Rattle.xmp_num.specs.declared.types.Ty.TheVariants as ty
use Rattle.xmp_lex.specs.declared.token.Token.{Token}
use Rattle.xmp_lex.specs.declared.token.TokenKind.{TokenKind}
use Rattle.xmp_lex.specs.declared.token.TokenKind.TheVariants as t
use Rattle.xmp_lex.specs.LineStates.{LineState}
use Rattle.xmp_lex.specs.LineStates as state
use Rattle.xmp_lex.specs.Bytes.{has_suffix}
use Rattle.xmp_lex.specs.Pieces.{type_of, Spelled, name, word, number, quoted, mark, LineForm, define, include, pragma, other_pragma}
use Rattle.xmp_lex.specs.Cut.{behind, Piece, white, comment, token, hash, line_space, skip, close, Front, Cuts, none, piece, placed, ending, Cut}
use Rattle.xmp_lex.specs.LineStates.{at_end}
use Rattle.xmp_lex.specs.Expand.{Definition, same, body_of, definition_of, moved, Event, out, used, again, Replaces, done, keep, replace, Expands, Expanded, tokens_of}
use Rattle.xmp_lex.specs.Expand as e
use Rattle.xmp_prog.specs.Numbers.{lies_in}
use Rattle.xmp_fits.specs.NumbersLie.{number_lies}

-- what is to hold of a kind, a token, a definition and an event
abbrev KindLies : TokenKind → Type 0
KindLies k = number_lies k ≡ true

abbrev Lies : Token → Type 0
Lies x = number_lies x.kind ≡ true

abbrev OutLies : ℕ × TokenKind → Type 0
OutLies o = number_lies o.1 ≡ true

abbrev BodyLies : Definition → Type 0
BodyLies d = All Lies d.1

abbrev EventLies : Event → Type 0
EventLies (out x) = Lies x
EventLies (used at) = Unit {0}
EventLies (again at) = Unit {0}

-- ---- the text

int_lies : (v : ℕ) → nat_le 2147483648 v ≡ false → lies_in ty.Int (pos v) ≡ true
int_lies v h = grind arith

long_lies : (v : ℕ) → v < 9223372036854775808 → lies_in ty.Long (pos v) ≡ true
long_lies v h = grind arith

typed_lies : (v : ℕ) (s l : Bool) → nat_le 2147483648 v ≡ l → v < 9223372036854775808 → KindLies (t.Number (pos v) (type_of (s || l)))
typed_lies v true l e h = long_lies v h
typed_lies v false true e h = long_lies v h
typed_lies v false false e h = int_lies v e

spelled_lies : (text : List ℕ) (n : ℕ) (k : TokenKind) → Spelled text n k → KindLies k
spelled_lies text n _ (name _ l r w) = refl
spelled_lies text n _ (word _ x l r w) = refl
spelled_lies text n _ (number _ v d r i) = typed_lies v (has_suffix (take n text)) (nat_le 2147483648 v) refl i.value.fits
spelled_lies text n _ (quoted k _ q x c b l) = refl
spelled_lies text n _ (mark _ x b l i q) = refl

form_lies : (text : List ℕ) (n : ℕ) (outs : List (ℕ × TokenKind)) (x : LineState) → LineForm text n outs x → All OutLies outs
form_lies text _ _ _ (define n k r h s o) = All-cons OutLies (n, t.Define r) [] refl (All-nil OutLies)
form_lies text _ _ _ (include _ h s) = All-nil OutLies
form_lies text _ _ _ (pragma n x) = All-cons OutLies (0, t.Pragma) [] refl (All-nil OutLies)
form_lies text _ _ _ (other_pragma _ w o) = All-nil OutLies

close_lies : (x : LineState) → All KindLies (at_end x)
close_lies state.fresh = All-nil KindLies
close_lies state.begun = All-nil KindLies
close_lies state.directive = All-cons KindLies t.Close [] refl (All-nil KindLies)
close_lies state.ignored = All-nil KindLies

piece_lies : (text : List ℕ) (x : LineState) (n : ℕ) (outs : List (ℕ × TokenKind)) (y : LineState) → Piece text x n outs y → All OutLies outs
piece_lies text _ _ _ _ (white x o w) = All-nil OutLies
piece_lies text _ _ _ _ (comment x n o c) = All-nil OutLies
piece_lies text _ _ _ _ (token x n k o s) = All-cons OutLies (0, k) [] (spelled_lies text n k s) (All-nil OutLies)
piece_lies text _ _ _ _ (hash n outs x h f) = form_lies text n outs x f
piece_lies text _ _ _ _ (line_space x n h s) = All-nil OutLies
piece_lies text _ _ _ _ (skip h s u) = All-nil OutLies
piece_lies text _ _ _ _ (close x h s) = All-map OutLies (λ (k : TokenKind). (let z : ℕ × TokenKind = (0, k) in z)) (at_end x) (close_lies x)

cuts_lie : (text : List ℕ) (f : Front) → Cuts text f → All Lies f.tokens
cuts_lie text _ none = All-nil Lies
cuts_lie text _ (piece f n outs x c some p) = All-append Lies f.tokens (placed f.at f.rest outs) (cuts_lie text f c)
    (All-map Lies (λ (o : ℕ × TokenKind). (let z : Token = record { kind = o.1; at = behind f.at (take o.0 f.rest) } in z)) outs (piece_lies f.rest f.state n outs x p))

ending_lies : (x : LineState) (at : Place) → All Lies (ending x at)
ending_lies x at = All-map Lies (λ (k : TokenKind). (let z : Token = record { kind = k; at = at } in z)) (at_end x ++ t.Finish ∷ [])
    (All-append KindLies (at_end x) (t.Finish ∷ []) (close_lies x) (All-cons KindLies t.Finish [] refl (All-nil KindLies)))

pub cut_lies : (text : List ℕ) (ts : List Token) → Cut text ts → All Lies ts
cut_lies text ts c = subst (All Lies) (sym c.tokens_are)
    (All-append Lies c.front.tokens (ending c.front.state c.front.at) (cuts_lie text c.front c.cuts) (ending_lies c.front.state c.front.at))

-- ---- the expansion

none_is : {X : Type 0} {x : X} → None ≡ Some x → ⊥
none_is h = cc

some_same : (x y : Definition) → Some x ≡ Some y → x ≡ y
some_same x y s = cc

by_name : (n : List ℕ) (d : Definition) (b : Bool) (o : Option (List Token)) → IfSome o (All Lies) → cond b None (option_map (λ body. (n, body)) o) ≡ Some d → BodyLies d
by_name n d true o a z = absurd (let z2 : None ≡ Some d = z in cc)
by_name n d false None a z = absurd (let z2 : None ≡ Some d = z in cc)
by_name n d false (Some body) a z = let p : Definition = (n, body) in subst BodyLies (some_same p d z) a

-- the tokens by which a name is replaced
body_lies : (known : List Definition) (hidden : List (List ℕ)) (kind : TokenKind) (d : Definition) → All BodyLies known → definition_of known hidden kind ≡ Some d → BodyLies d
body_lies known hidden (t.Name n) d a z = by_name n d (list_any (same n) hidden) (body_of known n) (All-lookup (All Lies) (same n) known a) z
body_lies known hidden (t.Word w) d a z = absurd (let z2 : None ≡ Some d = z in cc)
body_lies known hidden (t.Number v y) d a z = absurd (let z2 : None ≡ Some d = z in cc)
body_lies known hidden (t.Text bytes) d a z = absurd (let z2 : None ≡ Some d = z in cc)
body_lies known hidden (t.Mark m) d a z = absurd (let z2 : None ≡ Some d = z in cc)
body_lies known hidden (t.Define n) d a z = absurd (let z2 : None ≡ Some d = z in cc)
body_lies known hidden t.Pragma d a z = absurd (let z2 : None ≡ Some d = z in cc)
body_lies known hidden t.Close d a z = absurd (let z2 : None ≡ Some d = z in cc)
body_lies known hidden t.Finish d a z = absurd (let z2 : None ≡ Some d = z in cc)

replaces_lie : (known : List Definition) (hidden : List (List ℕ)) (ts : List Token) (es : List Event) → All BodyLies known → All Lies ts → Replaces known hidden ts es → All EventLies es
replaces_lie known hidden _ _ k a (done _) = All-nil EventLies
replaces_lie known hidden _ _ k a (keep _ x ts es n r) = All-cons EventLies (out x) es (All-head Lies x ts a) (replaces_lie known hidden ts es k (All-tail Lies x ts a) r)
replaces_lie known hidden _ _ k a (replace _ x d ts inner es s i r) =
    All-cons EventLies (used x.at) (inner ++ es) tt (All-append EventLies inner es
    (replaces_lie known (d.0 ∷ hidden) (moved x.at d.1) inner k (All-map Lies (λ (y : Token). (let z : Token = record { kind = y.kind; at = x.at } in z)) d.1 (body_lies known hidden x.kind d k s)) i)
    (replaces_lie known hidden ts es k (All-tail Lies x ts a) r))

front_of : (xs ys : List Token) → All Lies (xs ++ ys) → All Lies xs
front_of [] ys a = All-nil Lies
front_of (x ∷ xs) ys a = All-cons Lies x xs (All-head Lies x (xs ++ ys) a) (front_of xs ys (All-tail Lies x (xs ++ ys) a))

back_of : (xs ys : List Token) → All Lies (xs ++ ys) → All Lies ys
back_of [] ys a = a
back_of (x ∷ xs) ys a = back_of xs ys (All-tail Lies x (xs ++ ys) a)

expands_lie : (known : List Definition) (ts : List Token) (es : List Event) → All BodyLies known → All Lies ts → Expands known ts es → All EventLies es
expands_lie _ _ _ k a (e.end _) = All-nil EventLies
expands_lie _ _ _ k a (e.token known x ts inner es n r p) = All-append EventLies inner es
    (replaces_lie known [] (x ∷ []) inner k (All-cons Lies x [] (All-head Lies x ts a) (All-nil Lies)) r)
    (expands_lie known ts es k (All-tail Lies x ts a) p)
expands_lie _ _ _ k a (e.define known x c n body ts es i w b l p) =
    let rest = All-tail Lies x (body ++ c ∷ ts) a in
    expands_lie (known ++ (n, body) ∷ []) ts es
    (All-append BodyLies known ((n, body) ∷ []) k (All-cons BodyLies (n, body) [] (front_of body (c ∷ ts) rest) (All-nil BodyLies)))
    (All-tail Lies c ts (back_of body (c ∷ ts) rest)) p
expands_lie _ _ _ k a (e.define_again known x c n old body ts es i w b l p) =
    let rest = All-tail Lies x (body ++ c ∷ ts) a in
    All-cons EventLies (again x.at) es tt (expands_lie known ts es k (All-tail Lies c ts (back_of body (c ∷ ts) rest)) p)

stay_lie : (es : List Event) → All EventLies es → All Lies (tokens_of es)
stay_lie [] a = All-nil Lies
stay_lie (out x ∷ es) a = All-cons Lies x (tokens_of es) (All-head EventLies (out x) es a) (stay_lie es (All-tail EventLies (out x) es a))
stay_lie (used at ∷ es) a = stay_lie es (All-tail EventLies (used at) es a)
stay_lie (again at ∷ es) a = stay_lie es (All-tail EventLies (again at) es a)

pub all_numbers : (text : List ℕ) (ts us : List Token) → Cut text ts → Expanded ts us → All (λ x. number_lies x.kind ≡ true) us
all_numbers text ts us c x = subst (All Lies) (sym x.result_is)
    (stay_lie x.events (expands_lie [] ts x.events (All-nil BodyLies) (cut_lies text ts c) x.expands))
