-- One step of a reading whose rules are sound: which tokens it reads, that it comes nearer to the next token, and the depths behind it.
use Rattle.std.proofs.Common.{◌≡◌, ◌≤◌, ◌<◌, ◌+◌, ℕ, max, Bool, true, false, not, ◌&&◌, ◌||◌, nat_le, cond, List, [], ◌∷◌, refl, inl, inr, sym, ap, ◌∙◌, subst, arith, leb-true}
use Rattle.std.specs.Prelude.{⊤, ◌⊎◌}
use Rattle.xmp_base.specs.Limits.{depth_limit}
use Rattle.xmp_lex.specs.declared.token.Token.{Token}
use Rattle.xmp_lex.specs.declared.token.TokenKind.{TokenKind}
use Rattle.xmp_lex.specs.declared.token.TokenKind.TheVariants as t
use Rattle.xmp_syntax.specs.Parts.{Part}
use Rattle.xmp_syntax.specs.Reading.{Test, Effect, plain, operator, separator, opening, closing, cast, enter, leave, Rule, nothing, tok, mark, part, by, ◌·◌, choice, many, pair, Depths, depths, now, behind, outside, reading, goes, halts, step, pair_step}
use Rattle.xmp_syntax.specs.Grammar.{rule}
use Rattle.xmp_syntax_laws.proofs.Sound.{may_be_empty, weight, is_program, small, part_steps, steps, takes, is_plain, bounds, opens, starts, Sound, sound_part}

-- ---- the rules to come

abbrev pub is_none : List Rule → Bool
is_none [] = true
is_none (r ∷ K) = false

-- each of the rules to come is sound
abbrev pub Stack : List Rule → Type 0
Stack [] = ⊤
Stack (r ∷ K) = Sound (is_none K) r × (starts r K ≡ true) × Stack K

-- the most steps to the next token
abbrev pub all_steps : List Rule → ℕ
all_steps [] = 0
all_steps (r ∷ K) = steps r (all_steps K)

starts_on : (r : Rule) (K : List Rule) → starts r [] ≡ true → starts r K ≡ true
starts_on (mark enter) K h = cc
starts_on (mark plain) K h = refl
starts_on (mark operator) K h = refl
starts_on (mark separator) K h = refl
starts_on (mark opening) K h = refl
starts_on (mark closing) K h = refl
starts_on (mark cast) K h = refl
starts_on (mark leave) K h = refl
starts_on nothing K h = refl
starts_on (tok e q) K h = refl
starts_on (part P) K h = refl
starts_on (by f) K h = refl
starts_on (r · s) K h = refl
starts_on (choice q r s) K h = refl
starts_on (many q r) K h = refl
starts_on (pair q v r) K h = refl

starts_before : (r s : Rule) (K : List Rule) → starts r (s ∷ []) ≡ true → starts r (s ∷ K) ≡ true
starts_before (mark enter) s K h = h
starts_before (mark plain) s K h = refl
starts_before (mark operator) s K h = refl
starts_before (mark separator) s K h = refl
starts_before (mark opening) s K h = refl
starts_before (mark closing) s K h = refl
starts_before (mark cast) s K h = refl
starts_before (mark leave) s K h = refl
starts_before nothing s K h = refl
starts_before (tok e q) s K h = refl
starts_before (part P) s K h = refl
starts_before (by f) s K h = refl
starts_before (r · u) s K h = refl
starts_before (choice q r u) s K h = refl
starts_before (many q r) s K h = refl
starts_before (pair q v r) s K h = refl

-- a rule that takes a token takes as many steps to it, whatever follows
both : (a b : Bool) → a && b ≡ true → (a ≡ true) × (b ≡ true)
both true b h = (refl, h)
both false b h = cc

not_empty : (b : Bool) (n k : ℕ) → not b ≡ true → cond b (n + k) n ≡ n
not_empty true n k h = cc
not_empty false n k h = refl

part_takes : (P : Part) (k : ℕ) → not (may_be_empty P) ≡ true → part_steps P k ≡ weight P
part_takes P k h = not_empty (may_be_empty P) (weight P) k h

of_either : (r s : Rule) (k : ℕ) (b : Bool) → takes r ≡ b → b || takes s ≡ true → (takes r ≡ true → steps (r · s) k ≡ steps (r · s) 0)
    → (takes s ≡ true → steps (r · s) k ≡ steps (r · s) 0)
    → steps (r · s) k ≡ steps (r · s) 0
of_either r s k true e h f g = f e
of_either r s k false e h f g = g h

as_many : (r : Rule) (k : ℕ) → takes r ≡ true → steps r k ≡ steps r 0
as_many nothing k h = cc
as_many (tok e q) k h = refl
as_many (mark e) k h = cc
as_many (part P) k h = ap suc_of (part_takes P k h ∙ sym (part_takes P 0 h)) where
  suc_of : ℕ → ℕ
  suc_of n = 1 + n
as_many (by f) k h = refl
as_many (r · s) k h =
    of_either r s k (takes r) refl h (λ e. ap (λ (n : ℕ). 1 + n) (as_many r (steps s k) e ∙ sym (as_many r (steps s 0) e))) (λ e. ap (λ (n : ℕ). 1 + steps r n) (as_many s k e))
as_many (choice q r s) k h =
    let a = both (takes r) (takes s) h in
    ap (λ (n : ℕ). 1 + max n (steps s k)) (as_many r k a.0) ∙ ap (λ (n : ℕ). 1 + max (steps r 0) n) (as_many s k a.1)
as_many (many q r) k h = cc
as_many (pair q v r) k h = cc

-- ---- the depths

abbrev pub Kept : List (ℕ × ℕ) → Type 0
Kept [] = ⊤
Kept (x ∷ L) = (x.1 ≤ x.0) × (x.0 ≤ depth_limit) × Kept L

-- no depth is above the limit
abbrev pub Shallow : Depths → Type 0
Shallow (depths d b L) = (b ≤ d) × (d ≤ depth_limit) × Kept L

-- none but maybe the one that the next token has
abbrev pub Raised : Depths → Type 0
Raised (depths d b L) = (b ≤ d) × Kept L

abbrev pub next_opens : List Rule → Bool
next_opens [] = false
next_opens (r ∷ K) = opens r

abbrev pub Low : Depths → List Rule → Type 0
Low D K = Shallow D ⊎ (Raised D × (next_opens K ≡ true))

pub settled : (D : Depths) (r : Rule) (K : List Rule) → opens r ≡ false → Low D (r ∷ K) → Shallow D
settled D r K h (inl s) = s
settled D r K h (inr x) = let z = x.1 in cc

shallow_outside : (L : List (ℕ × ℕ)) → Kept L → Shallow (outside L)
shallow_outside [] k = (omega arith, omega arith, tt)
shallow_outside (x ∷ L) k = k

deeper_outside : (L : List (ℕ × ℕ)) → Kept L → now (behind cast (depths 0 0 L)) ≤ depth_limit → Shallow (behind cast (depths 0 0 L))
deeper_outside [] k h = (omega arith, h, tt)
deeper_outside (x ∷ L) k h = ((let a = k.0 in omega arith), h, k.2)

shallow_behind : (e : Effect) (D : Depths) → Shallow D → now (behind e D) ≤ depth_limit → Shallow (behind e D)
shallow_behind plain (depths d b L) s h = s
shallow_behind operator (depths d b L) s h = ((let a = s.0 in omega arith), h, s.2)
shallow_behind separator (depths d b L) s h = (omega arith, h, s.2)
shallow_behind opening (depths d b L) s h = (omega arith, h, (s.0, s.1, s.2))
shallow_behind closing (depths d b L) s h = shallow_outside L s.2
shallow_behind cast (depths d b L) s h = deeper_outside L s.2 h
shallow_behind enter (depths d b L) s h = ((let a = s.0 in omega arith), h, (s.0, s.1, s.2))
shallow_behind leave (depths d b L) s h = shallow_outside L s.2

raised_plain : (e : Effect) (D : Depths) → is_plain e ≡ true → Raised D → now (behind e D) ≤ depth_limit → Shallow (behind e D)
raised_plain plain (depths d b L) i r h = (r.0, h, r.1)
raised_plain operator D i r h = cc
raised_plain separator D i r h = cc
raised_plain opening D i r h = cc
raised_plain closing D i r h = cc
raised_plain cast D i r h = cc
raised_plain enter D i r h = cc
raised_plain leave D i r h = cc

behind_token : (e : Effect) (q : Test) (D : Depths) (K : List Rule) → Low D (tok e q ∷ K) → now (behind e D) ≤ depth_limit → Shallow (behind e D)
behind_token e q D K (inl s) h = shallow_behind e D s h
behind_token e q D K (inr r) h = raised_plain e D r.1 r.0 h

raised_enter : (D : Depths) → Shallow D → Raised (behind enter D)
raised_enter (depths d b L) s = ((let a = s.0 in omega arith), (s.0, s.1, s.2))

shallow_leave : (D : Depths) → Shallow D → Shallow (behind leave D)
shallow_leave (depths d b L) s = shallow_outside L s.2

head_opens : (K : List Rule) → starts (mark enter) K ≡ true → next_opens K ≡ true
head_opens [] h = h
head_opens (s ∷ K) h = h

behind_mark : (e : Effect) (D : Depths) (K : List Rule) → bounds e ≡ true → starts (mark e) K ≡ true → Shallow D → Low (behind e D) K
behind_mark enter D K b h s = inr (raised_enter D s, head_opens K h)
behind_mark leave D K b h s = inl (shallow_leave D s)
behind_mark plain D K b h s = cc
behind_mark operator D K b h s = cc
behind_mark separator D K b h s = cc
behind_mark opening D K b h s = cc
behind_mark closing D K b h s = cc
behind_mark cast D K b h s = cc

-- ---- one step

-- what the next step is, of a reading with a token left
pub data StepOf (D : Depths) (K : List Rule) (x : Token) (ts : List Token) : Type 0 where
  stops : step rule (reading D K (x ∷ [])) ≡ halts → step rule (reading D K (x ∷ ts)) ≡ halts → StepOf D K x ts
  -- it reads no token, and comes nearer to one
  silent : (E : Depths) (M : List Rule) → step rule (reading D K (x ∷ ts)) ≡ goes [] (reading E M (x ∷ ts)) → all_steps M < all_steps K → Stack M
      → (Low D K → Low E M) → StepOf D K x ts
  -- it reads the token; behind the end of a text no rule is left
  takes_one : (E : Depths) (M : List Rule) → step rule (reading D K (x ∷ ts)) ≡ goes (now E ∷ []) (reading E M ts) → Stack M
      → (x.kind ≡ t.Finish → M ≡ [])
      → (Low D K → now E ≤ depth_limit → Shallow E) → StepOf D K x ts
  -- it reads two tokens, neither of them the end of a text
  takes_two : (y : Token) (us : List Token) (E : Depths) (M : List Rule) → ts ≡ y ∷ us
      → step rule (reading D K (x ∷ ts)) ≡ goes (now D ∷ now E ∷ []) (reading E M us)
      → Stack M → (x.kind ≡ t.Finish → ⊥) → (y.kind ≡ t.Finish → ⊥) → (Low D K → now D ≤ depth_limit) → (Low D K → now E ≤ depth_limit → Shallow E)
      → StepOf D K x ts

none_left : (K : List Rule) → is_none K ≡ true → K ≡ []
none_left [] h = refl
none_left (r ∷ K) h = cc

of_token : (e : Effect) (q : Test) (D : Depths) (K : List Rule) (x : Token) (ts : List Token) (b : Bool) → q x.kind ≡ b → Stack (tok e q ∷ K)
    → StepOf D (tok e q ∷ K) x ts
of_token e q D K x ts true h s =
    takes_one (behind e D) K (ap (λ b. cond b (goes (now (behind e D) ∷ []) (reading (behind e D) K ts)) halts) h) s.2 finish (behind_token e q D K)
  where
    last : (a b : Bool) → a || not b ≡ true → b ≡ true → a ≡ true
    last true b g f = refl
    last false b g f = let z : not true ≡ true = subst (λ (c : Bool). not c ≡ true) f g in cc

    finish : x.kind ≡ t.Finish → K ≡ []
    finish f = none_left K (last (is_none K) (q t.Finish) s.0 (ap q (sym f) ∙ h))
of_token e q D K x ts false h s =
    stops (ap (λ b. cond b (goes (now (behind e D) ∷ []) (reading (behind e D) K [])) halts) h) (ap (λ b. cond b (goes (now (behind e D) ∷ []) (reading (behind e D) K ts)) halts) h)

-- a part in the place of what names it
part_on : (P : Part) (b : Bool) (K : List Rule) → is_program P ≡ is_none K → Stack K → Stack (rule P ∷ K)
part_on P b K h s = let v = sound_part P in (subst (λ (b : Bool). Sound b (rule P)) h v.sound, starts_on (rule P) K v.starts, s)

of_choice : (q : Test) (r u : Rule) (D : Depths) (K : List Rule) (x : Token) (ts : List Token) (b : Bool) → q x.kind ≡ b → Stack (choice q r u ∷ K)
    → StepOf D (choice q r u ∷ K) x ts
of_choice q r u D K x ts true h s =
    silent D (r ∷ K) (ap (λ b. goes [] (reading D (cond b r u ∷ K) (x ∷ ts))) h) (omega arith) (s.0.0, starts_on r K s.0.2, s.2) (λ l. inl (settled D (choice q r u) K refl l))
of_choice q r u D K x ts false h s =
    silent D (u ∷ K) (ap (λ b. goes [] (reading D (cond b r u ∷ K) (x ∷ ts))) h) (omega arith) (s.0.1, starts_on u K s.0.3, s.2) (λ l. inl (settled D (choice q r u) K refl l))

of_many : (q : Test) (r : Rule) (D : Depths) (K : List Rule) (x : Token) (ts : List Token) (b : Bool) → q x.kind ≡ b → Stack (many q r ∷ K)
    → StepOf D (many q r ∷ K) x ts
of_many q r D K x ts true h s =
    silent D (r ∷ many q r ∷ K) (ap (λ b. goes [] (reading D (cond b (r ∷ many q r ∷ K) K) (x ∷ ts))) h)
    (omega (arith, as_many r (all_steps (many q r ∷ K)) s.0.2)) (s.0.1, starts_on r (many q r ∷ K) s.0.3, s) (λ l. inl (settled D (many q r) K refl l))
of_many q r D K x ts false h s =
    silent D K (ap (λ b. goes [] (reading D (cond b (r ∷ many q r ∷ K) K) (x ∷ ts))) h) (omega arith) s.2 (λ l. inl (settled D (many q r) K refl l))

now_low : (D : Depths) → Shallow D → now D ≤ depth_limit
now_low (depths d b L) s = s.1

of_pair : (q v : Test) (r : Rule) (D : Depths) (K : List Rule) (x y : Token) (ts : List Token) (b : Bool) → q x.kind && v y.kind ≡ b
    → Stack (pair q v r ∷ K) → StepOf D (pair q v r ∷ K) x (y ∷ ts)
of_pair q v r D K x y ts true h s =
    let g = both (q x.kind) (v y.kind) h in
    takes_two y ts (behind opening D) (r ∷ K) refl (ap (λ b. pair_step b D r K x y ts) h) (subst (λ (b : Bool). Sound b r) (sym s.0.0) s.0.3, starts_on r K s.0.4, s.2)
    (λ f. let z = sym (ap q f) ∙ g.0 in let w = s.0.1 in cc) (λ f. let z = sym (ap v f) ∙ g.1 in let w = s.0.2 in cc)
    (λ l. now_low D (settled D (pair q v r) K refl l)) (λ l k. shallow_behind opening D (settled D (pair q v r) K refl l) k)
of_pair q v r D K x y ts false h s = silent D K (ap (λ b. pair_step b D r K x y ts) h) (omega arith) s.2 (λ l. inl (settled D (pair q v r) K refl l))

small_parts : (P : Part) → small P ≡ true → (not (may_be_empty P) ≡ true) × (weight P ≤ 10) × (is_program P ≡ false)
small_parts P h =
    let a = both (not (may_be_empty P)) _ h in
    let b = both (nat_le (weight P) 10) _ a.1 in
    (a.0, leb-true (weight P) 10 b.0, is_false (is_program P) b.1)
  where
    is_false : (b : Bool) → not b ≡ true → b ≡ false
    is_false true h = cc
    is_false false h = refl

of_by : (f : TokenKind → Part) (D : Depths) (K : List Rule) (x : Token) (ts : List Token) → Stack (by f ∷ K) → StepOf D (by f ∷ K) x ts
of_by f D K x ts s =
    let P = f x.kind in
    let a = small_parts P (s.0.1 x.kind) in
    silent D (rule P ∷ K) refl (let b = (sound_part P).few (all_steps K) in let c = part_takes P (all_steps K) a.0 in let d = a.1 in omega arith)
    (part_on P (is_none K) K (a.2 ∙ sym s.0.0) s.2) (λ l. inl (settled D (by f) K refl l))

of_sequence : (r u : Rule) (D : Depths) (K : List Rule) (x : Token) (ts : List Token) → Stack ((r · u) ∷ K) → StepOf D ((r · u) ∷ K) x ts
of_sequence r u D K x ts s =
    silent D (r ∷ u ∷ K) refl (omega arith) (s.0.0, starts_before r u K s.0.2, (s.0.1, starts_on u K s.0.3, s.2)) low
  where
    low : Low D ((r · u) ∷ K) → Low D (r ∷ u ∷ K)
    low (inl l) = inl l
    low (inr l) = inr l

pub step_of : (D : Depths) (K : List Rule) (x : Token) (ts : List Token) → Stack K → StepOf D K x ts
step_of D [] x ts s = stops refl refl
step_of D (nothing ∷ K) x ts s = silent D K refl (omega arith) s.2 (λ l. inl (settled D nothing K refl l))
step_of D (tok e q ∷ K) x ts s = of_token e q D K x ts (q x.kind) refl s
step_of D (mark e ∷ K) x ts s = silent (behind e D) K refl (omega arith) s.2 (λ l. behind_mark e D K s.0.1 s.1 (settled D (mark e) K refl l))
step_of D (part P ∷ K) x ts s =
    silent D (rule P ∷ K) refl (let b = (sound_part P).few (all_steps K) in omega arith) (part_on P (is_none K) K s.0 s.2) (λ l. inl (settled D (part P) K refl l))
step_of D (by f ∷ K) x ts s = of_by f D K x ts s
step_of D ((r · u) ∷ K) x ts s = of_sequence r u D K x ts s
step_of D (choice q r u ∷ K) x ts s = of_choice q r u D K x ts (q x.kind) refl s
step_of D (many q r ∷ K) x ts s = of_many q r D K x ts (q x.kind) refl s
step_of D (pair q v r ∷ K) x [] s = silent D K refl (omega arith) s.2 (λ l. inl (settled D (pair q v r) K refl l))
step_of D (pair q v r ∷ K) x (y ∷ ts) s = of_pair q v r D K x y ts (q x.kind && v y.kind) refl s
