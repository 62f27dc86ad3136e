-- Replacing names: that tokens come to something, and the steps of the stack of uses.
use Rattle.std.proofs.Common.{◌≡◌, ◌<◌, ◌≤◌, ◌+◌, ◌++◌, ◌||◌, ℕ, zero, suc, List, [], ◌∷◌, length, refl, sym, ap, ◌∙◌, subst, arith, true, false, Bool, Option, Some, None, option_map, cond, All, length-append}
use Rattle.std.proofs.lemmas.List.Elements.{All-nil, All-cons, All-head, All-tail, All-append, All-map}
use Rattle.std.specs.List.{list_any}
use Rattle.xmp_base.specs.declared.place.Place.{Place}
use Rattle.xmp_lex.specs.declared.token.Token.{Token}
use Rattle.xmp_lex.specs.declared.token.TokenKind.{TokenKind}
use Rattle.xmp_lex.specs.declared.token.TokenKind.TheVariants as t
use Rattle.xmp_lex.specs.Expand.{Definition, same, body_of, definition_of, moved, Event, out, used, Replaces, done, keep, replace, counts, place_of}
use Rattle.xmp_lex.specs.Output.{Pending, none, within, names_of}
use Rattle.xmp_lex.proofs.DefinitionLemmas.{same_is, is_same}

-- how many of the definitions aren't hidden
abbrev one_if : Bool → ℕ
one_if true = 0
one_if false = 1

unfoldable shown : List (List ℕ) → List Definition → ℕ
shown hidden [] = 0
shown hidden (d ∷ ds) = one_if (list_any (same d.0) hidden) + shown hidden ds

one_less : (a b : Bool) → one_if (a || b) ≤ one_if b
one_less true b = omega arith
one_less false b = omega arith

shown_less : (n : List ℕ) (hidden : List (List ℕ)) (ds : List Definition) → shown (n ∷ hidden) ds ≤ shown hidden ds
unfolding shown
shown_less n hidden [] = omega arith
shown_less n hidden (d ∷ ds) = let a = one_less (same d.0 n) (list_any (same d.0) hidden) in let b = shown_less n hidden ds in omega arith

shown_fewer : (n : List ℕ) (hidden : List (List ℕ)) → list_any (same n) hidden ≡ false → (ds : List Definition) (body : List Token) → body_of ds n ≡ Some body → shown (n ∷ hidden) ds < shown hidden ds
unfolding shown
shown_fewer n hidden h [] body e = absurd (let e2 : None ≡ Some body = e in cc)
shown_fewer n hidden h (d ∷ ds) body e = by (same n d.0) refl e (shown_fewer n hidden h ds body) where
  by : (b : Bool) → same n d.0 ≡ b → cond b (Some d.1) (body_of ds n) ≡ Some body → (body_of ds n ≡ Some body → shown (n ∷ hidden) ds < shown hidden ds)
      → one_if (same d.0 n || list_any (same d.0) hidden) + shown (n ∷ hidden) ds < one_if (list_any (same d.0) hidden) + shown hidden ds
  by true s f rest =
      let q : n ≡ d.0 = same_is n d.0 s in
      let z : list_any (same d.0) hidden ≡ false = ap (λ m. list_any (same m) hidden) (sym q) ∙ h in
      let y : same d.0 n ≡ true = ap (λ m. same m n) (sym q) ∙ is_same n in
      let w = shown_less n hidden ds in
      rw (y, z) (omega arith)
  by false s f rest = let a = one_less (same d.0 n) (list_any (same d.0) hidden) in let b = rest f in omega arith

-- what a definition's token is
pub record IsUsed (known : List Definition) (hidden : List (List ℕ)) (kind : TokenKind) (d : Definition) : Type 0 where
  pub is : kind ≡ t.Name d.0
  pub hidden_not : list_any (same d.0) hidden ≡ false
  pub known_as : body_of known d.0 ≡ Some d.1

pub used_is : (known : List Definition) (hidden : List (List ℕ)) (kind : TokenKind) (d : Definition) → definition_of known hidden kind ≡ Some d → IsUsed known hidden kind d
used_is known hidden (t.Name n) d e = by (list_any (same n) hidden) refl (body_of known n) refl e where
  by : (b : Bool) → list_any (same n) hidden ≡ b → (o : Option (List Token)) → body_of known n ≡ o → cond b None (option_map (λ body. (n, body)) o) ≡ Some d → IsUsed known hidden (t.Name n) d
  by true h o f z = absurd (let z2 : None ≡ Some d = z in cc)
  by false h None f z = absurd (let z2 : None ≡ Some d = z in cc)
  by false h (Some body) f z =
      let p : Definition = (n, body) in
      let q : p ≡ d = some_same p d z in
      subst (λ x. IsUsed known hidden (t.Name n) x) q (let r : IsUsed known hidden (t.Name n) p = record { is = refl; hidden_not = h; known_as = f } in r)
    where
      some_same : (x y : Definition) → Some x ≡ Some y → x ≡ y
      some_same x y s = cc
used_is known hidden (t.Word w) d e = absurd (let e2 : None ≡ Some d = e in cc)
used_is known hidden (t.Number v ty) d e = absurd (let e2 : None ≡ Some d = e in cc)
used_is known hidden (t.Text bytes) d e = absurd (let e2 : None ≡ Some d = e in cc)
used_is known hidden (t.Mark m) d e = absurd (let e2 : None ≡ Some d = e in cc)
used_is known hidden (t.Define n) d e = absurd (let e2 : None ≡ Some d = e in cc)
used_is known hidden t.Pragma d e = absurd (let e2 : None ≡ Some d = e in cc)
used_is known hidden t.Close d e = absurd (let e2 : None ≡ Some d = e in cc)
used_is known hidden t.Finish d e = absurd (let e2 : None ≡ Some d = e in cc)

fewer : (known : List Definition) (hidden : List (List ℕ)) (kind : TokenKind) (d : Definition) → definition_of known hidden kind ≡ Some d → shown (d.0 ∷ hidden) known < shown hidden known
fewer known hidden kind d e = let u = used_is known hidden kind d e in shown_fewer d.0 hidden u.hidden_not known d.1 u.known_as

-- tokens come to something: the names that can still be hidden are fewer in each use
abbrev pub Result : List Definition → List (List ℕ) → List Token → Type 0
Result known hidden ts = (es : List Event) × Replaces known hidden ts es

each : (known : List Definition) (hidden : List (List ℕ)) → ((kind : TokenKind) (d : Definition) → definition_of known hidden kind ≡ Some d → (ts : List Token) → Result known (d.0 ∷ hidden) ts) → (ts : List Token) → Result known hidden ts
each known hidden inner [] = ([], done hidden)
each known hidden inner (x ∷ ts) = by (definition_of known hidden x.kind) refl (each known hidden inner ts) where
  by : (o : Option Definition) → definition_of known hidden x.kind ≡ o → Result known hidden ts → Result known hidden (x ∷ ts)
  by None e r = (out x ∷ r.0, keep hidden x ts r.0 e r.1)
  by (Some d) e r = let i = inner x.kind d e (moved x.at d.1) in (used x.at ∷ i.0 ++ r.0, replace hidden x d ts i.0 r.0 e i.1 r.1)

some_result : (n : ℕ) (known : List Definition) (hidden : List (List ℕ)) → shown hidden known ≤ n → (ts : List Token) → Result known hidden ts
some_result zero known hidden h = each known hidden (λ kind d e ts. absurd (let f = fewer known hidden kind d e in omega arith))
some_result (suc n) known hidden h = each known hidden (λ kind d e ts. some_result n known (d.0 ∷ hidden) (let f = fewer known hidden kind d e in omega arith) ts)

pub result_of : (known : List Definition) (hidden : List (List ℕ)) (ts : List Token) → Result known hidden ts
result_of known hidden ts = some_result (shown hidden known) known hidden (omega arith) ts

pub some_event : (known : List Definition) (hidden : List (List ℕ)) (x : Token) (ts : List Token) (es : List Event) → Replaces known hidden (x ∷ ts) es → 0 < length es
some_event known hidden x ts _ (keep _ _ _ es e r) = omega arith
some_event known hidden x ts _ (replace _ _ d _ inner es e i r) = omega arith

-- the names that are hidden in the innermost use
abbrev pub deep : List (List ℕ) → List Definition → List (List ℕ)
deep hidden [] = hidden
deep hidden (u ∷ uses) = deep (u.0 ∷ hidden) uses

or_turn : (a b c : Bool) → (a || (b || c)) ≡ ((b || a) || c)
or_turn true true c = refl
or_turn true false c = refl
or_turn false true c = refl
or_turn false false c = refl

deep_any : (n : List ℕ) (hidden : List (List ℕ)) (uses : List Definition) → list_any (same n) (deep hidden uses) ≡ (list_any (same n) (names_of uses) || list_any (same n) hidden)
deep_any n hidden [] = refl
deep_any n hidden (u ∷ uses) = deep_any n (u.0 ∷ hidden) uses ∙ or_turn (list_any (same n) (names_of uses)) (same n u.0) (list_any (same n) hidden)

or_false : (a : Bool) → (a || false) ≡ a
or_false true = refl
or_false false = refl

pub definition_deep : (known : List Definition) (uses : List Definition) (kind : TokenKind) → definition_of known (deep [] uses) kind ≡ definition_of known (names_of uses) kind
definition_deep known uses (t.Name n) = ap (λ b. cond b None (option_map (λ body. (n, body)) (body_of known n))) (deep_any n [] uses ∙ or_false _)
definition_deep known uses (t.Word w) = refl
definition_deep known uses (t.Number v ty) = refl
definition_deep known uses (t.Text bytes) = refl
definition_deep known uses (t.Mark m) = refl
definition_deep known uses (t.Define n) = refl
definition_deep known uses t.Pragma = refl
definition_deep known uses t.Close = refl
definition_deep known uses t.Finish = refl

-- the innermost use is done
pub pending_done : (known : List Definition) (at : Place) (n : List ℕ) (uses : List Definition) (hidden : List (List ℕ)) (es : List Event) → Pending known at hidden uses es → Pending known at hidden (uses ++ (n, []) ∷ []) es
pending_done known at n [] hidden _ (none _) = within hidden (n, []) [] [] [] (none (n ∷ hidden)) (done (n ∷ hidden))
pending_done known at n (u ∷ uses) hidden _ (within _ _ _ inner es p r) = within hidden u (uses ++ (n, []) ∷ []) inner es (pending_done known at n uses (u.0 ∷ hidden) inner p) r

-- a token of the innermost use stays
pub pending_keep : (known : List Definition) (at : Place) (n : List ℕ) (x : Token) (left : List Token) (uses : List Definition) (hidden : List (List ℕ)) (es : List Event)
    → definition_of known (deep hidden (uses ++ (n, x ∷ left) ∷ [])) x.kind ≡ None → Pending known at hidden (uses ++ (n, left) ∷ []) es
    → Pending known at hidden (uses ++ (n, x ∷ left) ∷ []) (out (record { kind = x.kind; at = at }) ∷ es)
pending_keep known at n x left [] hidden _ d (within _ _ _ _ es (none _) r) = within hidden (n, x ∷ left) [] [] (out (record { kind = x.kind; at = at }) ∷ es) (none (n ∷ hidden)) (keep (n ∷ hidden) (record { kind = x.kind; at = at }) (moved at left) es d r)
pending_keep known at n x left (u ∷ uses) hidden _ d (within _ _ _ inner es p r) =
    within hidden u (uses ++ (n, x ∷ left) ∷ []) (out (record { kind = x.kind; at = at }) ∷ inner) es (pending_keep known at n x left uses (u.0 ∷ hidden) inner d p) r

-- a name of the innermost use is replaced
pub pending_use : (known : List Definition) (at : Place) (n : List ℕ) (x : Token) (left : List Token) (d : Definition) (uses : List Definition) (hidden : List (List ℕ)) (es : List Event)
    → definition_of known (deep hidden (uses ++ (n, x ∷ left) ∷ [])) x.kind ≡ Some d → Pending known at hidden (uses ++ (n, left) ∷ [] ++ d ∷ []) es
    → Pending known at hidden (uses ++ (n, x ∷ left) ∷ []) (used at ∷ es)
pending_use known at n x left d [] hidden _ e (within _ _ _ _ es (within _ _ _ _ fs (none _) q) r) =
    within hidden (n, x ∷ left) [] [] (used at ∷ fs ++ es) (none (n ∷ hidden)) (replace (n ∷ hidden) (record { kind = x.kind; at = at }) d (moved at left) fs es e q r)
pending_use known at n x left d (u ∷ uses) hidden _ e (within _ _ _ inner es p r) =
    within hidden u (uses ++ (n, x ∷ left) ∷ []) (used at ∷ inner) es (pending_use known at n x left d uses (u.0 ∷ hidden) inner e p) r

pub pending_of : (known : List Definition) (at : Place) (hidden : List (List ℕ)) (uses : List Definition) → (es : List Event) × Pending known at hidden uses es
pending_of known at hidden [] = ([], none hidden)
pending_of known at hidden (u ∷ uses) =
    let p = pending_of known at (u.0 ∷ hidden) uses in let r = result_of known (u.0 ∷ hidden) (moved at u.1) in
    (p.0 ++ r.0, within hidden u uses p.0 r.0 p.1 r.1)

pub pending_some : (known : List Definition) (at : Place) (u : Definition) (uses : List Definition) (hidden : List (List ℕ)) (es : List Event) → 0 < length u.1 → Pending known at hidden (uses ++ u ∷ []) es → 0 < length es
pending_some known at u [] hidden _ h (within _ _ _ _ es (none _) r) = first u.1 h r where
  first : (ts : List Token) → 0 < length ts → Replaces known (u.0 ∷ hidden) (moved at ts) es → 0 < length es
  first [] h r = absurd (omega arith)
  first (x ∷ ts) h r = some_event known (u.0 ∷ hidden) _ _ es r
pending_some known at u (w ∷ uses) hidden _ h (within _ _ _ inner es p r) = let i = pending_some known at u uses (w.0 ∷ hidden) inner h p in omega (arith, length-append inner es)

-- all events of tokens at one place count, and are at that place
abbrev pub IsAt : Place → Event → Type 0
IsAt at e = (counts e ≡ true) × (place_of e ≡ at)

pub all_at : (known : List Definition) (at : Place) (hidden : List (List ℕ)) (ts : List Token) (es : List Event) → All (λ x. x.at ≡ at) ts → Replaces known hidden ts es → All (IsAt at) es
all_at known at hidden _ _ a (done _) = All-nil (IsAt at)
all_at known at hidden _ _ a (keep _ x ts es e r) = All-cons (IsAt at) (out x) es (refl, All-head (λ y. y.at ≡ at) x ts a) (all_at known at hidden ts es (All-tail (λ y. y.at ≡ at) x ts a) r)
all_at known at hidden _ _ a (replace _ x d ts inner es e i r) =
    let h : x.at ≡ at = All-head (λ y. y.at ≡ at) x ts a in
    All-cons (IsAt at) (used x.at) (inner ++ es) (refl, h) (All-append (IsAt at) inner es
    (all_at known at (d.0 ∷ hidden) (moved x.at d.1) inner (All-map (λ (y : Token). y.at ≡ at) (λ (y : Token). (let z : Token = record { kind = y.kind; at = x.at } in z)) d.1 (λ k y l. h)) i)
    (all_at known at hidden ts es (All-tail (λ y. y.at ≡ at) x ts a) r))
