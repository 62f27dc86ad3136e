-- Tokens break the syntax by one rule at one place, and not where they are a program.
use Rattle.std.proofs.Common.{◌≡◌, ◌+◌, ◌⊎◌, inl, inr, ℕ, suc, List, [], ◌∷◌, ◌++◌, length, refl, sym, ap, ◌∙◌, arith}
use Rattle.std.proofs.lemmas.List.{length-append}
use Rattle.xmp_base.specs.declared.place.Place.{Place}
use Rattle.xmp_base.specs.declared.refusal.Phase.{Phase}
use Rattle.xmp_base.specs.declared.refusal.Refusal.{Refusal}
use Rattle.xmp_lex.specs.declared.token.Token.{Token}
use Rattle.xmp_syntax.specs.declared.program.Tree.{Tree}
use Rattle.xmp_syntax.specs.Refused.{IsProgram, Stuck, TooDeep, start, program_rules}
use Rattle.xmp_syntax.specs.Fronts.{FirstBad}
use Rattle.xmp_syntax.proofs.DeepTokens.{front_stuck}
use Rattle.xmp_parse.specs.Faults.{StandsAt, Breaks}

abbrev pub OneStuck : Type 0
OneStuck = (ts : List Token) (left other : ℕ) → Stuck start program_rules ts left → Stuck start program_rules ts other → left ≡ other

abbrev pub OneDeep : Type 0
OneDeep = (ts : List Token) (left other : ℕ) → TooDeep start program_rules ts left → TooDeep start program_rules ts other → left ≡ other

abbrev pub NotBoth : Type 0
NotBoth = (ts : List Token) (left other : ℕ) → Stuck start program_rules ts left → TooDeep start program_rules ts other → ⊥

-- of two tokens of a list before as many others, both are one
one_token : (f g : List Token) (b c : Token) (as' bs : List Token) → f ++ b ∷ as' ≡ g ++ c ∷ bs → length as' ≡ length bs → b ≡ c
one_token [] [] b c as' bs e n = cc
one_token [] (y ∷ g) b c as' bs e n =
    let a : as' ≡ g ++ c ∷ bs = cc in
    let d : length as' ≡ length g + suc (length bs) = ap length a ∙ length-append g (c ∷ bs) in
    absurd (omega (arith, d, n))
one_token (x ∷ f) [] b c as' bs e n =
    let a : f ++ b ∷ as' ≡ bs = cc in
    let d : length bs ≡ length f + suc (length as') = sym (ap length a) ∙ length-append f (b ∷ as') in
    absurd (omega (arith, d, n))
one_token (x ∷ f) (y ∷ g) b c as' bs e n = one_token f g b c as' bs (cc) n

one_less : (m n : ℕ) → suc m ≡ suc n → m ≡ n
one_less m n e = omega (arith, e)

-- so many tokens before the end there is one place
pub one_place : (ts : List Token) (left other : ℕ) (at place : Place) → StandsAt ts left at → StandsAt ts other place → left ≡ other → at ≡ place
one_place ts left other at place x y e =
    let n : length x.after ≡ length y.after = one_less _ _ (sym x.count ∙ (e ∙ y.count)) in
    let q : x.token ≡ y.token = one_token x.front y.front x.token y.token x.after y.after (sym x.whole ∙ y.whole) n in
    sym x.place ∙ (ap (λ (t : Token). t.at) q ∙ y.place)

-- refusals are equal whose parts are
pub same_refusal : (r s : Refusal) → r.phase ≡ s.phase → r.rule ≡ s.rule → r.at ≡ s.at → r ≡ s
same_refusal r s p q e =
    ap (λ (x : Phase). record { phase = x; rule = r.rule; at = r.at }) p
    ∙ (ap (λ (x : ℕ). record { phase = s.phase; rule = x; at = r.at }) q
    ∙ ap (λ (x : Place). record { phase = s.phase; rule = s.rule; at = x }) e)

pub one_break : OneStuck → OneDeep → NotBoth → (ts : List Token) (r s : Refusal) → Breaks ts r → Breaks ts s → r ≡ s
one_break stuck deep both ts r s x y =
    let w = by_rule x.rule y.rule in
    same_refusal r s (x.phase ∙ sym y.phase) w.0 (one_place ts x.left y.left r.at s.at x.place y.place w.1)
  where
    by_rule : ((r.rule ≡ 1) × FirstBad ts x.left) ⊎ ((r.rule ≡ 2) × TooDeep start program_rules ts x.left)
        → ((s.rule ≡ 1) × FirstBad ts y.left) ⊎ ((s.rule ≡ 2) × TooDeep start program_rules ts y.left)
        → (r.rule ≡ s.rule) × (x.left ≡ y.left)
    by_rule (inl a) (inl b) = (a.0 ∙ sym b.0, stuck ts x.left y.left (front_stuck ts x.left a.1) (front_stuck ts y.left b.1))
    by_rule (inl a) (inr b) = absurd (both ts x.left y.left (front_stuck ts x.left a.1) b.1)
    by_rule (inr a) (inl b) = absurd (both ts y.left x.left (front_stuck ts y.left b.1) a.1)
    by_rule (inr a) (inr b) = (a.0 ∙ sym b.0, deep ts x.left y.left a.1 b.1)

abbrev pub NotStuck : Type 0
NotStuck = (ts : List Token) (x : Tree) (left : ℕ) → IsProgram ts x → Stuck start program_rules ts left → ⊥

abbrev pub NotDeep : Type 0
NotDeep = (ts : List Token) (x : Tree) (left : ℕ) → IsProgram ts x → TooDeep start program_rules ts left → ⊥

-- the tokens of a program break no rule of the syntax
pub no_break : NotStuck → NotDeep → (ts : List Token) (x : Tree) (r : Refusal) → IsProgram ts x → Breaks ts r → ⊥
no_break stuck deep ts x r p b = by_rule b.rule
  where
    by_rule : ((r.rule ≡ 1) × FirstBad ts b.left) ⊎ ((r.rule ≡ 2) × TooDeep start program_rules ts b.left) → ⊥
    by_rule (inl s) = stuck ts x b.left p (front_stuck ts b.left s.1)
    by_rule (inr d) = deep ts x b.left p d.1
