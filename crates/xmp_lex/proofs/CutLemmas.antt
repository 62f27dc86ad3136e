-- NextPiece, in the forms that the code's goals have.
use Rattle.std.proofs.Common.{◌≡◌, ◌≢◌, ◌<◌, ◌≤◌, ◌+◌, ◌-◌, ◌++◌, ◌==◌, ℕ, List, [], ◌∷◌, length, take, drop, get_or, refl, sym, ap, ◌∙◌, arith, subst, add-one, true, false, Bool, Option, Some, drop-cons, option_to_list, slice_get, length-append, length-drop, length-take}
use Rattle.std.proofs.lemmas.List.{drop_all}
use Rattle.std.proofs.lemmas.Option.{slice_get_read}
use Rattle.std.proofs.Math.Seq.{get_or-append_seam}
use Rattle.xmp_base.specs.declared.place.Place.{Place}
use Rattle.xmp_lex.specs.declared.token.Token.{Token}
use Rattle.xmp_lex.specs.declared.token.TokenKind.{TokenKind}
use Rattle.xmp_lex.specs.LineStates.{LineState}
use Rattle.xmp_lex.specs.LineStates as state
use Rattle.xmp_base.specs.declared.refusal.Fault.{Fault}
use Rattle.xmp_base.specs.declared.refusal.Fault.TheVariants as fault
use Rattle.xmp_lex.specs.declared.tokens.PieceError.{PieceError}
use Rattle.xmp_lex.specs.declared.tokens.PieceError.TheVariants as error
use Rattle.xmp_lex.specs.Bytes.{is_white}
use Rattle.xmp_lex.specs.Pieces.{LineSpace, Splice}
use Rattle.xmp_lex.specs.Found.{IsMalformed}
use Rattle.xmp_lex.specs.Pieces as pieces
use Rattle.xmp_lex.specs.Cut.{no_token, white, behind, step, Cuts, none, piece, Front, placed, Piece, Cut, BreaksLexRule, broken, too_many, too_many_last, IsRefused, ending}
use Rattle.xmp_lex.specs.LineStates.{IsOutside, behind_white}
use Rattle.xmp_lex.specs.declared.mode.Mode.{Mode}
use Rattle.xmp_lex.specs.Found.{state_of, IsBroken, IsPiece, IsTooMany, IsWithin, refusal, breaks}

pub behind_next : (p : Place) (xs : List ℕ) (i : ℕ) → i < length xs → behind p (drop i xs) ≡ behind (step p (get_or xs i 0 == 10)) (drop (i + 1) xs)
unfolding behind
behind_next p xs i h = rw (add-one, drop-cons xs i 0) refl

pub behind_end : (p : Place) (xs : List ℕ) (i : ℕ) (q : Place) → length xs ≤ i → behind p (drop i xs) ≡ q → p ≡ q
unfolding behind
behind_end p xs i q h e = ap (behind p) (sym (drop_all i xs h)) ∙ e

pub step_line : (p : Place) (b : Bool) → (step p b).line ≤ p.line + 1
step_line p true = omega arith
step_line p false = omega arith

pub step_column : (p : Place) (b : Bool) → (step p b).column ≤ p.column + 1
step_column p true = omega arith
step_column p false = omega arith

pub malformed_broken : (text : List ℕ) (x : LineState) (e : PieceError) → x ≢ state.ignored → (x ≡ state.fresh → get_or text 0 0 ≡ 35 → ⊥) → (x ≡ state.directive → (n : ℕ) → Splice text n → ⊥) → IsMalformed text e → IsBroken text x e
malformed_broken text x error.NoMemory i f l s = tt
malformed_broken text x (error.Rule rule k) i f l s = (no_token x rule k i f l s.0, s.1)

pub not_white : (text : List ℕ) → ((n : ℕ) → LineSpace text n → ⊥) → (get_or text 0 0 ≡ 10 → ⊥) → is_white (get_or text 0 0) ≡ false
not_white text g h = by (is_white (get_or text 0 0)) refl where
  by : (b : Bool) → is_white (get_or text 0 0) ≡ b → is_white (get_or text 0 0) ≡ false
  by true e = absurd (g 1 (pieces.white 1 e h refl))
  by false e = e

pub white_piece : (text : List ℕ) (x : LineState) (b : ℕ) → IsOutside x → b ≡ get_or text 0 0 → is_white b ≡ true → 0 < length text → Piece text x 1 [] (behind_white x (b == 10)) × (1 ≤ length text) × (1 ≤ 1) × Unit {0}
white_piece text x b o e w l = (subst (λ c. Piece text x 1 [] (behind_white x (c == 10))) (sym e) (white x o (ap is_white (sym e) ∙ w)), omega arith, omega arith, tt)

-- where the loop stands
pub record In (text : List ℕ) (tokens : List Token) (at : Place) (x : LineState) (rest : List ℕ) : Type 0 where
  pub cuts : Cuts text (record { tokens = tokens; at = at; state = x; rest = rest })
  pub few : length tokens ≤ 200000
  pub line : at.line + length rest ≤ 1048577
  pub column : at.column + length rest ≤ 1048577

pub one_more : (old : List Token) (x : Token) → length old ≡ 200000 → IsTooMany old (x ∷ []) (breaks 5 x.at)
one_more old x e = (refl, refl, (x, read, refl)) where
  read : slice_get (old ++ x ∷ []) 200000 ≡ Some x
  read = slice_get_read (old ++ x ∷ []) (length (old ++ x ∷ [])) 200000 x refl (omega (arith, length-append old (x ∷ []))) (sym (get_or-append_seam old x [] x) ∙ ap (λ n. get_or (old ++ x ∷ []) n x) e)

pub in_start : (text : List ℕ) → length text ≤ 1048576 → In text [] (record { line = 1; column = 1 }) state.fresh text
in_start text h = record { cuts = none; few = omega arith; line = omega arith; column = omega arith }

pub in_next : (text : List ℕ) (tokens : List Token) (at : Place) (x : LineState) (rest : List ℕ) (n : ℕ) (o : Option (ℕ × TokenKind)) (y : Mode) (new : List Token) (at2 : Place) (piece_ rest2 : List ℕ)
    → In text tokens at x rest → 0 < length rest → IsPiece rest x (record { length = n; token = o; mode = y }) → (new ≡ tokens ++ placed at rest (option_to_list o)) × (length new ≤ 200000)
    → piece_ ≡ take n rest → at2 ≡ behind at piece_ → at2.line ≤ at.line + length piece_ → at2.column ≤ at.column + length piece_ → rest2 ≡ drop n rest → In text new at2 (state_of y) rest2
in_next text tokens at x rest n o y new at2 p rest2 i some is ne pe ae le ce re =
    let f : Front = record { tokens = tokens; at = at; state = x; rest = rest } in
    let ae2 : at2 ≡ behind at (take n rest) = ae ∙ ap (behind at) pe in
    let lp : length p ≡ n = ap length pe ∙ length_of in
    let lr : length rest2 ≡ length rest - n = ap length re ∙ length-drop n rest in
    let nn : n ≤ length rest = is.1 in
    record {
      cuts = subst (λ (g : Front). Cuts text g) (same (sym ne.0) (sym ae2) (sym re)) (piece f n (option_to_list o) (state_of y) i.cuts some is.0);
      few = ne.1;
      line = (let h = i.line in omega arith);
      column = (let h = i.column in omega arith);
    }
  where
    length_of : length (take n rest) ≡ n
    length_of = let nn : n ≤ length rest = is.1 in omega (arith, length-take n rest)

    same : {t u : List Token} {a b : Place} {r s : List ℕ} → t ≡ u → a ≡ b → r ≡ s → (let l : Front = record { tokens = t; at = a; state = state_of y; rest = r } in l) ≡ record { tokens = u; at = b; state = state_of y; rest = s }
    same e d h = cc

pub refused : (text : List ℕ) (tokens : List Token) (at : Place) (x : LineState) (rest : List ℕ) (e : PieceError) → In text tokens at x rest → 0 < length rest → IsBroken rest x e → IsRefused text (refusal e at rest)
refused text tokens at x rest error.NoMemory i some b = tt
refused text tokens at x rest (error.Rule rule k) i some b = (refl, broken (record { tokens = tokens; at = at; state = x; rest = rest }) rule k i.cuts i.few some b.0)

pub broken_within : (rest : List ℕ) (x : LineState) (e : PieceError) → IsBroken rest x e → IsWithin e rest
broken_within rest x error.NoMemory b = tt
broken_within rest x (error.Rule rule k) b = b.1

pub passed : (text : List ℕ) (tokens : List Token) (at : Place) (x : LineState) (rest : List ℕ) (n : ℕ) (o : Option (ℕ × TokenKind)) (y : Mode) (e : Fault) → In text tokens at x rest → 0 < length rest → IsPiece rest x (record { length = n; token = o; mode = y }) → IsTooMany tokens (placed at rest (option_to_list o)) e → IsRefused text e
passed text tokens at x rest n o y fault.NoMemory i some is m = tt
passed text tokens at x rest n o y (fault.Refused q) i some is m =
    let r : BreaksLexRule text 5 m.2.0.at = too_many (record { tokens = tokens; at = at; state = x; rest = rest }) n (option_to_list o) (state_of y) m.2.0 i.cuts i.few some is.0 m.2.1 in
    (m.0, subst (λ z. BreaksLexRule text z q.at) (sym m.1) (subst (BreaksLexRule text 5) (sym m.2.2) r))

pub passed_last : (text : List ℕ) (tokens : List Token) (at : Place) (x : LineState) (rest : List ℕ) (e : Fault) → In text tokens at x rest → rest ≡ [] → IsTooMany tokens (ending x at) e → IsRefused text e
passed_last text tokens at x rest fault.NoMemory i z m = tt
passed_last text tokens at x rest (fault.Refused q) i z m =
    let r : BreaksLexRule text 5 m.2.0.at = too_many_last (record { tokens = tokens; at = at; state = x; rest = rest }) m.2.0 i.cuts i.few z m.2.1 in
    (m.0, subst (λ z. BreaksLexRule text z q.at) (sym m.1) (subst (BreaksLexRule text 5) (sym m.2.2) r))

pub cut_whole : (text : List ℕ) (tokens : List Token) (at : Place) (x : LineState) (rest : List ℕ) (new : List Token) → In text tokens at x rest → rest ≡ [] → (new ≡ tokens ++ ending x at) × (length new ≤ 200000) → Cut text new
cut_whole text tokens at x rest new i z n = record { front = record { tokens = tokens; at = at; state = x; rest = rest }; cuts = i.cuts; whole = z; tokens_are = n.0; few = n.1 }

pub nonempty : (xs : List ℕ) (b : Bool) → b ≡ (length xs == 0) → b ≡ false → 0 < length xs
nonempty xs b e f = grind arith

pub is_nil : (xs : List ℕ) (b : Bool) → b ≡ (length xs == 0) → b ≡ true → xs ≡ []
is_nil [] b e f = refl
is_nil (x ∷ xs) b e f = absurd (grind arith)
