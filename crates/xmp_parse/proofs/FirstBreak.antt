-- The answer on a whole text.
use Rattle.std.proofs.Common.{◌≡◌, ◌≤◌, ◌+◌, ℕ, suc, Bool, true, false, List, [], ◌∷◌, ◌++◌, length, All, refl, sym, ap, ◌∙◌, subst, append_assoc, inl, inr, ⊎_elim, arith}
use Rattle.std.specs.Prelude.{◌||◌, ◌==◌, Result, Ok, Err, IfErr}
use Rattle.std.proofs.lemmas.List.Elements.{All-nil}
use Rattle.std.proofs.lemmas.List.{length-append}
use Rattle.xmp_base.specs.declared.place.Place.{Place}
use Rattle.xmp_base.specs.declared.refusal.Fault.{Fault}
use Rattle.xmp_base.specs.declared.refusal.Fault.TheVariants as fault
use Rattle.xmp_base.specs.declared.refusal.Phase.TheVariants as phase
use Rattle.xmp_lex.specs.declared.token.Token.{Token}
use Rattle.xmp_lex.specs.declared.token.TokenKind.{TokenKind}
use Rattle.xmp_lex.specs.declared.token.TokenKind.TheVariants as t
use Rattle.xmp_lex.specs.Lines.{IsFinished}
use Rattle.xmp_syntax.specs.declared.program.Tree.{Tree}
use Rattle.xmp_syntax.specs.Reading.{Rule, Depths, depths, State, reading, Reads, here, onward}
use Rattle.xmp_syntax.specs.Grammar.{rule, is_finish}
use Rattle.xmp_syntax.specs.Refused.{Stuck, TooDeep, IsProgram, start, program_rules}
use Rattle.xmp_syntax.specs.Spell.{◌at◌, each, top_item}
use Rattle.xmp_syntax.specs.Fits.{FitsTree}
use Rattle.xmp_syntax.specs.Steps.{Local, no_token, one_token, two_tokens, local, regroup, StuckAt}
use Rattle.xmp_reader.specs.declared.depth.Depth.{Depth}
use Rattle.xmp_reader.specs.Going.{has_finish, left_at, Comes}
use Rattle.xmp_parse.specs.Faults.{StandsAt, Breaks, IsFault}
use Rattle.xmp_syntax.proofs.DeepTokens.{stuck_front, front_stuck}
use Rattle.xmp_reader.proofs.Taking.{same_depths}
use Rattle.xmp_reader.proofs.Whole.{shallow_whole, behind_end}

-- the end of the text stands there
or_true : (a b : Bool) → b ≡ true → a || b ≡ true
or_true true b h = refl
or_true false b h = h

pub finish_there : (ts : List Token) → IsFinished ts → has_finish ts ≡ true
finish_there [] f = absurd f
finish_there (x ∷ []) f = ap (λ (k : TokenKind). is_finish k || false) f
finish_there (x ∷ y ∷ ts) f = or_true (is_finish x.kind) (has_finish (y ∷ ts)) (finish_there (y ∷ ts) f)

-- A reading begins at the first token.
pub begun : (d : Depth) (ts : List Token) → d.now ≡ 0 → d.base ≡ 0 → has_finish ts ≡ true → Comes (reading start program_rules ts) (reading (depths d.now d.base []) program_rules ts)
begun d ts a b f =
    same_depths d.now d.base 0 0 [] program_rules ts (reading start program_rules ts) a b (record { depths = []; reads = here; shallow = All-nil (λ d. d ≤ 128); finish = f })

pub empty_list : (ts : List Token) (b : Bool) → b ≡ (length ts == 0) → b ≡ true → ts ≡ []
empty_list [] b e f = refl
empty_list (x ∷ ts) b e f = absurd (grind arith)

pub not_empty : (ts : List Token) (b : Bool) → b ≡ (length ts == 0) → b ≡ false → ts ≡ [] → ⊥
not_empty ts b e f q = let z : length ts ≡ 0 = ap length q in grind arith

-- The tokens that were read to their end are the program.
pub whole_program : (ts us : List Token) (x : Tree) (D : Depths) → ts ≡ each top_item x.parts ((t.Finish at x.finish) ∷ us) → us ≡ [] → FitsTree x
    → ((ds : List ℕ) × Reads rule (reading start program_rules ts) ds (reading D [] us) × All (λ d. d ≤ 128) ds) → IsProgram ts x
whole_program ts us x D q e f w = record {
  whole = q ∙ ap (λ (l : List Token). each top_item x.parts ((t.Finish at x.finish) ∷ l)) e;
  fits = f;
  shallow = shallow_whole ts w.0 (reading D [] []) (subst (λ (l : List Token). Reads rule (reading start program_rules ts) w.0 (reading D [] l)) e w.1) refl w.2;
}

-- a token stands behind the end of the text
pub not_whole : (s : State) (D : Depths) (ts : List Token) → (ts ≡ [] → ⊥) → ((ds : List ℕ) × Reads rule s ds (reading D [] ts) × All (λ d. d ≤ 128) ds) → StuckAt s (length ts)
not_whole s D [] h w = absurd (h refl)
not_whole s D (k ∷ ts) h w = behind_end s D w.0 k ts w.1 w.2

-- The tokens that a step reads, and those of a reading: as many as there are depths.
tokens_of_step : (D : Depths) (K : List Rule) (ts : List Token) (ds : List ℕ) (E : Depths) (M : List Rule) (us : List Token) → Local D K ts ds E M us
    → (xs : List Token) × (ts ≡ xs ++ us) × (length xs ≡ length ds)
tokens_of_step D K ts ds E M us (no_token k vs q v n h) = ([], q ∙ sym v, ap length (sym n))
tokens_of_step D K ts ds E M us (one_token k d q n h) = (k ∷ [], q, ap length (sym n))
tokens_of_step D K ts ds E M us (two_tokens k j d e q n h) = (k ∷ j ∷ [], q, ap length (sym n))

tokens_of_reading : (s u : State) (ds : List ℕ) → Reads rule s ds u → (xs : List Token) × (left_at s ≡ xs ++ left_at u) × (length xs ≡ length ds)
tokens_of_reading s u ds here = ([], refl, refl)
tokens_of_reading (reading D K ts) u ds (onward {t = reading E M us} {ds = as'} {es = bs} e r) =
    let a = tokens_of_step D K ts as' E M us (local D K ts as' E M us e) in
    let b = tokens_of_reading (reading E M us) u bs r in (
      a.0 ++ b.0,
      a.1 ∙ (ap (λ (l : List Token). a.0 ++ l) b.1 ∙ sym (append_assoc a.0 b.0 (left_at u))),
      length-append a.0 b.0 ∙ (ap (λ (n : ℕ). n + length b.0) a.2 ∙ (ap (λ (n : ℕ). length as' + n) b.2 ∙ sym (length-append as' bs))),
    )

last_token : (x : Token) (xs : List Token) → (front : List Token) × (bad : Token) × (x ∷ xs ≡ front ++ bad ∷ [])
last_token x [] = ([], x, refl)
last_token x (y ∷ xs) = let w = last_token y xs in (x ∷ w.0, w.1, ap (λ (l : List Token). x ∷ l) w.2)

last_of : (xs : List Token) (ds : List ℕ) (d : ℕ) → length xs ≡ length (ds ++ d ∷ []) → (front : List Token) × (bad : Token) × (xs ≡ front ++ bad ∷ [])
last_of [] [] d e = cc
last_of [] (b ∷ ds) d e = cc
last_of (x ∷ xs) ds d e = last_token x xs

-- Where the token stands that is too deep.
pub deep_token : (D : Depths) (K : List Rule) (ts : List Token) (left : ℕ) → TooDeep D K ts left
    → (front : List Token) × (bad : Token) × (after : List Token) × (ts ≡ front ++ bad ∷ after) × (left ≡ length (bad ∷ after))
deep_token D K ts left x =
    let a = tokens_of_reading _ _ _ x.reads in
    let w = last_of a.0 x.front x.depth a.2 in
    (w.0, w.1, x.rest, a.1 ∙ (ap (λ (l : List Token). l ++ x.rest) w.2 ∙ sym (regroup w.0 w.1 x.rest)), x.count)

-- The refusals of a token.
pub stuck_fault : (ts : List Token) (left : ℕ) (e : Fault) → Stuck start program_rules ts left
    → ((front : List Token) (bad : Token) (after : List Token) → ts ≡ front ++ bad ∷ after → left ≡ length (bad ∷ after) → e ≡ fault.Refused (record { phase = phase.Syntax; rule = 1; at = bad.at }))
    → IsFault ts e
stuck_fault ts left e S h = subst (λ (x : Fault). IsFault ts x) (sym (h S.front S.bad S.after S.whole S.count)) (record {
  phase = refl;
  left = left;
  place = record { front = S.front; token = S.bad; after = S.after; whole = S.whole; count = S.count; place = refl };
  rule = inl (refl, stuck_front ts left S);
})

pub deep_fault : (ts : List Token) (left : ℕ) (e : Fault) → TooDeep start program_rules ts left
    → ((front : List Token) (bad : Token) (after : List Token) → ts ≡ front ++ bad ∷ after → left ≡ length (bad ∷ after) → e ≡ fault.Refused (record { phase = phase.Syntax; rule = 2; at = bad.at }))
    → IsFault ts e
deep_fault ts left e S h =
    let w = deep_token start program_rules ts left S in
    subst (λ (x : Fault). IsFault ts x) (sym (h w.0 w.1 w.2 w.3 w.4)) (record {
      phase = refl;
      left = left;
      place = record { front = w.0; token = w.1; after = w.2; whole = w.3; count = w.4; place = refl };
      rule = inr (refl, S);
    })

-- A program is refused for want of memory alone.
no_break : (ts : List Token) (e : Fault) → ((left : ℕ) → Stuck start program_rules ts left → ⊥) → ((left : ℕ) → TooDeep start program_rules ts left → ⊥) → IsFault ts e → e ≡ fault.NoMemory
no_break ts fault.NoMemory h g f = refl
no_break ts (fault.Refused y) h g f = ⊎_elim (λ p. absurd (h f.left (front_stuck ts f.left p.1))) (λ p. absurd (g f.left p.1)) f.rule

pub only_memory : (ts : List Token) (r : Result Tree Fault) → ((left : ℕ) → Stuck start program_rules ts left → ⊥) → ((left : ℕ) → TooDeep start program_rules ts left → ⊥) → IfErr r (λ e. IsFault ts e) → IfErr r (λ e. e ≡ fault.NoMemory)
only_memory ts (Ok x) h g f = tt
only_memory ts (Err e) h g f = no_break ts e h g f
