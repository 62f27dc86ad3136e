-- Tokens have one expansion, and break at most one rule first.
use Rattle.std.proofs.Common.{◌≡◌, ◌≢◌, ◌≤◌, ◌++◌, ℕ, List, [], ◌∷◌, length, refl, sym, ap, ◌∙◌, subst, arith, true, Some, None, All, length-append, true≢false, append_assoc}
use Rattle.std.proofs.lemmas.List.Elements.{All-nil, All-cons, All-append, All-head, All-tail}
use Rattle.std.proofs.Math.Seq.{get_or-append_seam}
use Rattle.xmp_base.specs.Limits.{token_limit}
use Rattle.xmp_base.specs.declared.place.Place.{Place}
use Rattle.xmp_base.specs.declared.refusal.Fault.{Fault}
use Rattle.xmp_base.specs.declared.refusal.Fault.TheVariants as fault
use Rattle.xmp_lex.specs.declared.token.Token.{Token}
use Rattle.xmp_lex.specs.declared.token.TokenKind.{TokenKind}
use Rattle.xmp_lex.specs.declared.token.TokenKind.TheVariants as t
use Rattle.xmp_lex.specs.Expand.{IsMacroRefusal, Definition, body_of, moved, Event, out, used, again, Replaces, done, keep, replace, IsDefine, IsBody, Expands, end, token, define, define_again, tokens_of, counts, place_of, IsFine, BreaksMacroRule, twice, too_many, Expanded, BreaksMacros}

some_is : {X : Type 0} {x y : X} → Some x ≡ Some y → x ≡ y
some_is e = cc

not_some : {X : Type 0} {x : X} → None ≡ Some x → ⊥
not_some e = cc

-- what is replaced comes to one list of events
pub one_replace : (known : List Definition) (hidden : List (List ℕ)) (ts : List Token) (a b : List Event) → Replaces known hidden ts a → Replaces known hidden ts b → a ≡ b
one_replace known hidden _ _ _ (done _) (done _) = refl
one_replace known hidden _ _ _ (keep _ x ts es e r) (keep _ _ _ fs f q) = ap (λ es. out x ∷ es) (one_replace known hidden ts es fs r q)
one_replace known hidden _ _ _ (keep _ x ts es e r) (replace _ _ d _ inner fs f i q) = absurd (not_some (sym e ∙ f))
one_replace known hidden _ _ _ (replace _ x d ts inner es e i r) (keep _ _ _ fs f q) = absurd (not_some (sym f ∙ e))
one_replace known hidden _ _ _ (replace _ x d ts inner es e i r) (replace _ _ c _ outer fs f j q) =
    let same : c ≡ d = some_is (sym f ∙ e) in
    let k : Replaces known (d.0 ∷ hidden) (moved x.at d.1) outer = subst (λ (z : Definition). Replaces known (z.0 ∷ hidden) (moved x.at z.1) outer) same j in
    ap (λ gs. used x.at ∷ gs ++ es) (one_replace known (d.0 ∷ hidden) (moved x.at d.1) inner outer i k) ∙ ap (λ gs. used x.at ∷ outer ++ gs) (one_replace known hidden ts es fs r q)

-- one line has one body
head_is : (x y : Token) (us vs : List Token) → x ∷ us ≡ y ∷ vs → x ≡ y
head_is x y us vs e = cc

tail_is : (x y : Token) (us vs : List Token) → x ∷ us ≡ y ∷ vs → us ≡ vs
tail_is x y us vs e = cc

pub one_line : (body other : List Token) (c d : Token) (us vs : List Token) → IsBody body → IsBody other → c.kind ≡ t.Close → d.kind ≡ t.Close → body ++ c ∷ us ≡ other ++ d ∷ vs → (body ≡ other) × (us ≡ vs)
one_line [] [] c d us vs b o e f h = (refl, tail_is c d us vs h)
one_line [] (y ∷ other) c d us vs b o e f h = absurd (All-head (λ (z : Token). z.kind ≢ t.Close) y other o (ap (λ (z : Token). z.kind) (sym (head_is c y us (other ++ d ∷ vs) h)) ∙ e))
one_line (x ∷ body) [] c d us vs b o e f h = absurd (All-head (λ (z : Token). z.kind ≢ t.Close) x body b (ap (λ (z : Token). z.kind) (head_is x d (body ++ c ∷ us) vs h) ∙ f))
one_line (x ∷ body) (y ∷ other) c d us vs b o e f h =
    let r = one_line body other c d us vs (All-tail (λ (z : Token). z.kind ≢ t.Close) x body b) (All-tail (λ (z : Token). z.kind ≢ t.Close) y other o) e f (tail_is x y _ _ h) in
    (ap (λ z. z ∷ body) (head_is x y _ _ h) ∙ ap (λ zs. y ∷ zs) r.0, r.1)

name_is : (n m : List ℕ) → t.Define n ≡ t.Define m → n ≡ m
name_is n m e = cc

is_define : (k : TokenKind) (n : List ℕ) → k ≡ t.Define n → IsDefine k
is_define k n e = subst IsDefine (sym e) tt

-- a text comes to one list of events
one_text : (known : List Definition) (us : List Token) (a : List Event) → Expands known us a → (vs : List Token) (b : List Event) → us ≡ vs → Expands known vs b → a ≡ b
one_text known _ _ (end _) _ _ h (end _) = refl
one_text known _ _ (end _) _ _ h (token _ y vs j fs m q g) = absurd (let z : [] ≡ y ∷ vs = h in cc)
one_text known _ _ (end _) _ _ h (define _ y d other o vs fs f w b c q) = absurd (let z : [] ≡ y ∷ (o ++ d ∷ vs) = h in cc)
one_text known _ _ (end _) _ _ h (define_again _ y d other old o vs fs f w b c q) = absurd (let z : [] ≡ y ∷ (o ++ d ∷ vs) = h in cc)
one_text known _ _ (token _ x us i es n r p) _ _ h (end _) = absurd (let z : x ∷ us ≡ [] = h in cc)
one_text known _ _ (token _ x us i es n r p) _ _ h (token _ y vs j fs m q g) =
    let k : Replaces known [] (x ∷ []) j = subst (λ z. Replaces known [] (z ∷ []) j) (sym (head_is x y us vs h)) q in
    ap (λ z. z ++ es) (one_replace known [] (x ∷ []) i j r k) ∙ ap (λ z. j ++ z) (one_text known us es p vs fs (tail_is x y us vs h) g)
one_text known _ _ (token _ x us i es n r p) _ _ h (define _ y d other o vs fs f w b c q) = absurd (n (is_define x.kind other (ap (λ (z : Token). z.kind) (head_is x y us _ h) ∙ f)))
one_text known _ _ (token _ x us i es n r p) _ _ h (define_again _ y d other old o vs fs f w b c q) = absurd (n (is_define x.kind other (ap (λ (z : Token). z.kind) (head_is x y us _ h) ∙ f)))
one_text known _ _ (define _ x d name o us es e w b c p) _ _ h (end _) = absurd (let z : x ∷ (o ++ d ∷ us) ≡ [] = h in cc)
one_text known _ _ (define _ x d name o us es e w b c p) _ _ h (token _ y vs j fs m q g) = absurd (m (is_define y.kind name (ap (λ (z : Token). z.kind) (sym (head_is x y _ vs h)) ∙ e)))
one_text known _ _ (define _ x d name o us es e w b c p) _ _ h (define _ y d2 name2 o2 vs fs e2 w2 b2 c2 p2) =
    let n : name ≡ name2 = name_is name name2 (sym e ∙ ap (λ (z : Token). z.kind) (head_is x y _ _ h) ∙ e2) in
    let l = one_line o o2 d d2 us vs b b2 c c2 (tail_is x y _ _ h) in
    one_text (known ++ (name, o) ∷ []) us es p vs fs l.1 (subst (λ m. Expands (known ++ (m, o) ∷ []) vs fs) (sym n) (subst (λ z. Expands (known ++ (name2, z) ∷ []) vs fs) (sym l.0) p2))
one_text known _ _ (define _ x d name o us es e w b c p) _ _ h (define_again _ y d2 name2 old o2 vs fs e2 w2 b2 c2 p2) =
    let n : name ≡ name2 = name_is name name2 (sym e ∙ ap (λ (z : Token). z.kind) (head_is x y _ _ h) ∙ e2) in
    absurd (not_some (sym w ∙ ap (body_of known) n ∙ w2))
one_text known _ _ (define_again _ x d name old o us es e w b c p) _ _ h (end _) = absurd (let z : x ∷ (o ++ d ∷ us) ≡ [] = h in cc)
one_text known _ _ (define_again _ x d name old o us es e w b c p) _ _ h (token _ y vs j fs m q g) = absurd (m (is_define y.kind name (ap (λ (z : Token). z.kind) (sym (head_is x y _ vs h)) ∙ e)))
one_text known _ _ (define_again _ x d name old o us es e w b c p) _ _ h (define _ y d2 name2 o2 vs fs e2 w2 b2 c2 p2) =
    let n : name ≡ name2 = name_is name name2 (sym e ∙ ap (λ (z : Token). z.kind) (head_is x y _ _ h) ∙ e2) in
    absurd (not_some (sym w2 ∙ ap (body_of known) (sym n) ∙ w))
one_text known _ _ (define_again _ x d name old o us es e w b c p) _ _ h (define_again _ y d2 name2 old2 o2 vs fs e2 w2 b2 c2 p2) =
    let l = one_line o o2 d d2 us vs b b2 c c2 (tail_is x y _ _ h) in
    ap (λ (z : Token). again z.at ∷ es) (head_is x y _ _ h) ∙ ap (λ z. again y.at ∷ z) (one_text known us es p vs fs l.1 p2)

pub one_expansion : (tokens : List Token) (a b : List Event) → Expands [] tokens a → Expands [] tokens b → a ≡ b
one_expansion tokens a b p q = one_text [] tokens a p tokens b refl q

-- which rule is broken first
Counts : Event → Type 0
Counts e = counts e ≡ true

event_head : (x y : Event) (us vs : List Event) → x ∷ us ≡ y ∷ vs → x ≡ y
event_head x y us vs e = cc

event_tail : (x y : Event) (us vs : List Event) → x ∷ us ≡ y ∷ vs → us ≡ vs
event_tail x y us vs e = cc

-- a front whose events count ends before an event that doesn't
front_within : (before front : List Event) (a : Place) (us vs : List Event) → All (λ e. counts e ≡ true) front → before ++ again a ∷ us ≡ front ++ vs → length front ≤ length before
front_within before [] a us vs f h = omega arith
front_within [] (y ∷ front) a us vs f h = absurd (true≢false (sym (All-head (λ e. counts e ≡ true) y front f) ∙ ap counts (sym (event_head (again a) y us (front ++ vs) h))))
front_within (x ∷ before) (y ∷ front) a us vs f h = let r = front_within before front a us vs (All-tail (λ e. counts e ≡ true) y front f) (event_tail x y _ _ h) in omega arith

-- fronts of equal length are equal
one_front : (before other : List Event) (us vs : List Event) → length before ≡ length other → before ++ us ≡ other ++ vs → us ≡ vs
one_front [] [] us vs l h = h
one_front [] (y ∷ other) us vs l h = absurd (omega arith)
one_front (x ∷ before) [] us vs l h = absurd (omega arith)
one_front (x ∷ before) (y ∷ other) us vs l h = one_front before other us vs (omega arith) (event_tail x y _ _ h)

again_is : (a b : Place) → again a ≡ again b → a ≡ b
again_is a b e = ap place_of e

counted_last : (before : List Event) (e : Event) → All (λ e. counts e ≡ true) before → counts e ≡ true → All (λ e. counts e ≡ true) (before ++ e ∷ [])
counted_last before e a c = All-append (λ e. counts e ≡ true) before (e ∷ []) a (All-cons (λ e. counts e ≡ true) e [] c (All-nil (λ e. counts e ≡ true)))

too_long : (before other us vs : List Event) (a : Place) (e : Event) → All (λ e. counts e ≡ true) other → counts e ≡ true → length before ≤ token_limit → length other ≡ token_limit → before ++ again a ∷ us ≡ other ++ e ∷ vs → ⊥
too_long before other us vs a e o c f l h = let r = front_within before (other ++ e ∷ []) a us vs (counted_last other e o c) (h ∙ sym (append_assoc other (e ∷ []) vs)) in omega (arith, length-append other (e ∷ []))

pub one_rule : (es : List Event) (r s : ℕ) (a b : Place) → BreaksMacroRule es r a → BreaksMacroRule es s b → (r ≡ s) × (a ≡ b)
one_rule es _ _ _ _ (twice before us a h f) (twice other vs b g k) =
    let l = front_within before other a us (again b ∷ vs) k.once (sym h ∙ g) in
    let m = front_within other before b vs (again a ∷ us) f.once (sym g ∙ h) in
    (refl, again_is a b (event_head (again a) (again b) us vs (one_front before other (again a ∷ us) (again b ∷ vs) (omega arith) (sym h ∙ g))))
one_rule es _ _ _ _ (twice before us a h f) (too_many other vs e g c k l) = absurd (too_long before other us vs a e k.once c f.few l (sym h ∙ g))
one_rule es _ _ _ _ (too_many before us e h c f l) (twice other vs b g k) = absurd (too_long other before vs us b e f.once c k.few l (sym g ∙ h))
one_rule es _ _ _ _ (too_many before us e h c f l) (too_many other vs d g i k m) = (refl, ap place_of (event_head e d us vs (one_front before other (e ∷ us) (d ∷ vs) (l ∙ sym m) (sym h ∙ g))))

fine_breaks : (es : List Event) (r : ℕ) (a : Place) → IsFine es → BreaksMacroRule es r a → ⊥
fine_breaks es _ _ k (twice before us a h f) =
    let c : All (λ e. counts e ≡ true) (before ++ again a ∷ us) = subst (All (λ e. counts e ≡ true)) h k.once in
    true≢false (sym (c (length before) (again a) (omega (arith, length-append before (again a ∷ us)))) ∙ ap counts (get_or-append_seam before (again a) us (again a)))
fine_breaks es _ _ k (too_many before us e h c f l) = let z = ap length h in let m = k.few in omega (arith, length-append before (e ∷ us))

pub never_both : (tokens result : List Token) (rule : ℕ) (at : Place) → Expanded tokens result → BreaksMacros tokens rule at → ⊥
never_both tokens result rule at e b = fine_breaks b.events rule at (subst IsFine (one_expansion tokens e.events b.events e.expands b.expands) e.fine) b.breaks

-- where tokens are expanded, no refusal is answered
pub only_memory : (tokens result : List Token) (e : Fault) → Expanded tokens result → IsMacroRefusal tokens e → e ≡ fault.NoMemory
only_memory tokens result fault.NoMemory x b = refl
only_memory tokens result (fault.Refused r) x b = absurd (never_both tokens result r.rule r.at x b.1)

pub one_result : (tokens a b : List Token) → Expanded tokens a → Expanded tokens b → a ≡ b
one_result tokens a b e f = e.result_is ∙ ap tokens_of (one_expansion tokens e.events f.events e.expands f.expands) ∙ sym f.result_is

pub one_refusal : (tokens : List Token) (r s : ℕ) (a b : Place) → BreaksMacros tokens r a → BreaksMacros tokens s b → (r ≡ s) × (a ≡ b)
one_refusal tokens r s a b e f = one_rule f.events r s a b (subst (λ es. BreaksMacroRule es r a) (one_expansion tokens e.events f.events e.expands f.expands) e.breaks) f.breaks
