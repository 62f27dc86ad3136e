-- Each token of a cut stands at a place of the text.
use Rattle.std.proofs.Common.{◌≡◌, ◌+◌, ◌++◌, ◌==◌, ℕ, List, [], ◌∷◌, take, drop, refl, sym, ap, ◌∙◌, subst, All, drop-drop, get_or}
use Rattle.std.proofs.Math.Seq.{take-add}
use Rattle.std.proofs.lemmas.List.Elements.{All-nil, All-append, All-map}
use Rattle.xmp_base.specs.declared.place.Place.{Place}
use Rattle.xmp_lex.specs.declared.token.Token.{Token}
use Rattle.xmp_lex.specs.declared.token.TokenKind.{TokenKind}
use Rattle.xmp_lex.specs.LineStates.{LineState}
use Rattle.xmp_lex.specs.Cut.{behind, step, Front, Cuts, none, piece, placed, ending, Cut, IsPlaceOf}

abbrev first : Place
first = record { line = 1; column = 1 }

behind_append : (p : Place) (xs ys : List ℕ) → behind p (xs ++ ys) ≡ behind (behind p xs) ys
unfolding behind
behind_append p [] ys = refl
behind_append p (x ∷ xs) ys = behind_append (step p (x == 10)) xs ys

-- where cutting stands in the text
record IsAt (text : List ℕ) (f : Front) : Type 0 where
  bytes : ℕ
  rest_is : f.rest ≡ drop bytes text
  at_is : f.at ≡ behind first (take bytes text)
  tokens : All (λ x. IsPlaceOf text x.at) f.tokens

further : (text : List ℕ) (f : Front) (i : IsAt text f) (k : ℕ) → behind f.at (take k f.rest) ≡ behind first (take (i.bytes + k) text)
further text f i k = ap (λ p. behind p (take k f.rest)) i.at_is ∙ ap (λ r. behind (behind first (take i.bytes text)) (take k r)) i.rest_is
    ∙ sym (behind_append first (take i.bytes text) (take k (drop i.bytes text))) ∙ ap (behind first) (sym (take-add i.bytes k text))

start_is : first ≡ behind first []
unfolding behind
start_is = refl

places : (text : List ℕ) (f : Front) → Cuts text f → IsAt text f
places text _ none = record { bytes = 0; rest_is = refl; at_is = start_is; tokens = All-nil (λ (x : Token). IsPlaceOf text x.at) }
places text _ (piece f n out x c some p) = let i = places text f c in record {
  bytes = i.bytes + n;
  rest_is = ap (drop n) i.rest_is ∙ drop-drop n i.bytes text;
  at_is = further text f i n;
  tokens = All-append (λ (y : Token). IsPlaceOf text y.at) f.tokens (placed f.at f.rest out) i.tokens
      (All-map (λ (y : Token). IsPlaceOf text y.at) (λ (o : ℕ × TokenKind). (let z : Token = record { kind = o.1; at = behind f.at (take o.0 f.rest) } in z)) out (λ k o l. (i.bytes + (get_or out k o).0, further text f i (get_or out k o).0)));
}

ending_at : (text : List ℕ) (f : Front) → IsAt text f → (x : LineState) → All (λ (y : Token). IsPlaceOf text y.at) (ending x f.at)
ending_at text f i x = All-map (λ (y : Token). IsPlaceOf text y.at) (λ (k : TokenKind). (let z : Token = record { kind = k; at = f.at } in z)) _ (λ k o l. (i.bytes, i.at_is))

pub token_places : (text : List ℕ) (tokens : List Token) → Cut text tokens → All (λ x. IsPlaceOf text x.at) tokens
token_places text tokens c = let i = places text c.front c.cuts in
    subst (All (λ x. IsPlaceOf text x.at)) (sym c.tokens_are) (All-append (λ (y : Token). IsPlaceOf text y.at) c.front.tokens (ending c.front.state c.front.at) i.tokens (ending_at text c.front i c.front.state))
