-- Each text is cut into tokens, or a rule breaks.
use Rattle.std.proofs.Common.{◌≡◌, ◌≢◌, ◌<◌, ◌≤◌, ◌++◌, ◌⊎◌, inl, inr, ℕ, zero, suc, Bool, true, false, List, [], ◌∷◌, length, get_or, subst, ap, sym, refl, arith, length-drop, ◌==◌, Some, slice_get}
use Rattle.std.proofs.lemmas.Bool.{cases_eq, cases_lt}
use Rattle.std.proofs.lemmas.Option.{slice_get_cases}
use Rattle.xmp_base.specs.Limits.{token_limit}
use Rattle.xmp_base.specs.declared.place.Place.{Place}
use Rattle.xmp_lex.specs.declared.token.Token.{Token}
use Rattle.xmp_lex.specs.Bytes.{is_white}
use Rattle.xmp_lex.specs.LineStates.{LineState, IsOutside, behind_white, behind_token}
use Rattle.xmp_lex.specs.LineStates as state
use Rattle.xmp_lex.specs.Pieces.{splice}
use Rattle.xmp_lex.specs.Cut.{white, comment, token, line_space, skip, close, unclosed_comment, no_token, Front, start, after, placed, Cuts, none, piece, Cut, BreaksLexRule, broken, too_many, too_many_last, last}
use Rattle.xmp_lex.proofs.CutLemmas.{not_white}
use Rattle.xmp_lex_laws.proofs.Searches.{Decided}
use Rattle.xmp_lex_laws.proofs.SpacesFound as spaces
use Rattle.xmp_lex_laws.proofs.SpacesFound.{CommentFound, closed, comment_at, SpaceFound, space, space_at}
use Rattle.xmp_lex_laws.proofs.TokensFound.{TokenFound, spelled, malformed, token_at}
use Rattle.xmp_lex_laws.proofs.FormsFound.{PieceFound, stands, breaks, form_at}

-- ---- one piece

-- outside of `#` lines
outside : (text : List ℕ) (x : LineState) → IsOutside x → x ≢ state.ignored → (x ≡ state.directive → ⊥) → 0 < length text
    → Decided ((x ≡ state.fresh) × (get_or text 0 0 ≡ 35)) → PieceFound text x
outside text x o i d some h = by h (is_white (get_or text 0 0)) refl (comment_at text) where
  token_found : (x ≡ state.fresh → get_or text 0 0 ≢ 35) → TokenFound text → PieceFound text x
  token_found f (spelled n kind s l) = stands n ((0, kind) ∷ []) (behind_token x) (token x n kind i s) l
  token_found f (malformed rule k m) = breaks rule k (no_token x rule k i f (λ e. absurd (d e)) m)

  by : Decided ((x ≡ state.fresh) × (get_or text 0 0 ≡ 35)) → (b : Bool) → is_white (get_or text 0 0) ≡ b → CommentFound text → PieceFound text x
  by (inl e) b w c = subst (PieceFound text) (sym e.0) (form_at text e.1)
  by (inr f) true w c = stands 1 [] (behind_white x (get_or text 0 0 == 10)) (white x o w) (omega arith)
  by (inr f) false w (closed n c l e) = stands n [] x (comment x n o c) e
  by (inr f) false w (spaces.unclosed u) = breaks 2 0 (unclosed_comment x u)
  by (inr f) false w (spaces.absent k l) = token_found (λ e q. f (e, q)) (token_at text some w k l)

-- in a `#` line whose tokens count
in_directive : (text : List ℕ) → 0 < length text → Decided (get_or text 0 0 ≡ 10) → SpaceFound text → PieceFound text state.directive
in_directive text some (inl e) s = stands 1 _ state.fresh (close state.directive tt e) (omega arith)
in_directive text some (inr f) (space n s l o) = stands n [] state.directive (line_space state.directive n tt s) o
in_directive text some (inr f) (spaces.unclosed u) = breaks 2 0 (unclosed_comment state.directive u)
in_directive text some (inr f) (spaces.absent g u k l) = token_found (token_at text some (not_white text g f) k l) where
  token_found : TokenFound text → PieceFound text state.directive
  token_found (spelled n kind s l) = stands n ((0, kind) ∷ []) state.directive (token state.directive n kind (λ e. cc) s) l
  token_found (malformed rule k m) = breaks rule k (no_token state.directive rule k (λ e. cc) (λ e. cc) (λ e n s. g n (splice n s)) m)

-- in a `#` line that gives no token
in_ignored : (text : List ℕ) → Decided (get_or text 0 0 ≡ 10) → SpaceFound text → PieceFound text state.ignored
in_ignored text (inl e) s = stands 1 _ state.fresh (close state.ignored tt e) (omega arith)
in_ignored text (inr f) (space n s l o) = stands n [] state.ignored (line_space state.ignored n tt s) o
in_ignored text (inr f) (spaces.unclosed u) = breaks 2 0 (unclosed_comment state.ignored u)
in_ignored text (inr f) (spaces.absent g u k l) = stands 1 [] state.ignored (skip f g u) (omega arith)

pub piece_at : (text : List ℕ) (x : LineState) → 0 < length text → PieceFound text x
piece_at text state.fresh some = outside text state.fresh tt (λ e. cc) (λ e. cc) some (hash_first (cases_eq (get_or text 0 0) 35)) where
  hash_first : Decided (get_or text 0 0 ≡ 35) → Decided ((state.fresh ≡ state.fresh) × (get_or text 0 0 ≡ 35))
  hash_first (inl e) = inl (refl, e)
  hash_first (inr f) = inr (λ h. f h.1)
piece_at text state.begun some = outside text state.begun tt (λ e. cc) (λ e. cc) some (inr (λ h. let z = h.0 in cc))
piece_at text state.directive some = in_directive text some (cases_eq (get_or text 0 0) 10) (space_at text)
piece_at text state.ignored some = in_ignored text (cases_eq (get_or text 0 0) 10) (space_at text)

-- ---- the whole text

abbrev pub CutOrRefused : List ℕ → Type 0
CutOrRefused text = ((tokens : List Token) × Cut text tokens) ⊎ ((rule : ℕ) × (at : Place) × BreaksLexRule text rule at)

-- a list with more than so many has one at that place
one_beyond : (xs : List Token) → token_limit < length xs → (x : Token) × (slice_get xs token_limit ≡ Some x)
one_beyond xs l = elim (slice_get_cases xs token_limit).1 [ inl w ↦ (w.0, w.2) | inr w ↦ (let v = w.0 in absurd (omega arith)) ]

at_end : (text : List ℕ) (f : Front) → Cuts text f → length f.tokens ≤ token_limit → f.rest ≡ []
    → (token_limit < length (last f)) ⊎ (length (last f) ≤ token_limit) → CutOrRefused text
at_end text f c few e (inl l) = let b = one_beyond (last f) l in inr (5, b.0.at, too_many_last f b.0 c few e b.1)
at_end text f c few e (inr l) = inl (last f, record { front = f; cuts = c; whole = e; tokens_are = refl; few = l })

module _ (text : List ℕ) where
  -- from a front on, where all after it that are shorter are judged
  from : (f : Front) → Cuts text f → length f.tokens ≤ token_limit → 0 < length f.rest → PieceFound f.rest f.state
      → ((g : Front) → Cuts text g → length g.tokens ≤ token_limit → length g.rest < length f.rest → CutOrRefused text) → CutOrRefused text
  from f c few some (breaks rule k b) on = inr (rule, _, broken f rule k c few some b)
  from f c few some (stands n out x p l) on = by (cases_lt token_limit (length (f.tokens ++ placed f.at f.rest out))) where
    by : (token_limit < length (f.tokens ++ placed f.at f.rest out)) ⊎ (length (f.tokens ++ placed f.at f.rest out) ≤ token_limit) → CutOrRefused text
    by (inl m) = let b = one_beyond (f.tokens ++ placed f.at f.rest out) m in inr (5, b.0.at, too_many f n out x b.0 c few some p b.1)
    by (inr m) = on (after f n out x) (piece f n out x c some p) m (omega (arith, length-drop n f.rest))

  cut_from : (fuel : ℕ) (f : Front) → length f.rest ≤ fuel → Cuts text f → length f.tokens ≤ token_limit → (r : List ℕ) → f.rest ≡ r
      → CutOrRefused text
  cut_from fuel f h c few [] e = at_end text f c few e (cases_lt token_limit (length (last f)))
  cut_from zero f h c few (b ∷ r) e = let z = ap length e in absurd (omega arith)
  cut_from (suc m) f h c few (b ∷ r) e =
      let some : 0 < length f.rest = (let z = ap length e in omega arith) in
      from f c few some (piece_at f.rest f.state some) (λ g d w l. cut_from m g (omega arith) d w g.rest refl)

pub every_text : (text : List ℕ) → CutOrRefused text
every_text text = cut_from text (length text) (start text) (omega arith) none (omega arith) text refl
