-- Expansion of a text: that it comes to something, and the loop over its tokens.
use Rattle.std.proofs.Common.{◌≡◌, ◌<◌, ◌≤◌, ◌-◌, ◌++◌, ◌⊎◌, inl, inr, ℕ, zero, suc, List, [], ◌∷◌, length, refl, sym, ap, ◌∙◌, subst, arith, true, Option, Some, None, append_assoc, append-nil, All, length-append}
use Rattle.std.proofs.lemmas.List.Elements.{All-nil, All-cons, All-head, All-tail, All-append}
use Rattle.std.proofs.Math.Seq.{get_or-append_seam}
use Rattle.xmp_base.specs.Limits.{token_limit}
use Rattle.xmp_base.specs.declared.place.Place.{Place}
use Rattle.xmp_base.specs.declared.refusal.Refusal.{Refusal}
use Rattle.xmp_base.specs.declared.refusal.Fault.{Fault}
use Rattle.xmp_base.specs.declared.refusal.Fault.TheVariants as fault
use Rattle.xmp_base.specs.declared.refusal.Phase.TheVariants as phase
use Rattle.xmp_lex.specs.declared.token.Token.{Token}
use Rattle.xmp_lex.specs.declared.token.TokenKind.{TokenKind}
use Rattle.xmp_lex.specs.declared.token.TokenKind.TheVariants as t
use Rattle.xmp_lex.specs.declared.output.Output.{Output}
use Rattle.xmp_lex.specs.Expand.{Definition, definition_of, body_of, Event, again, Replaces, done, keep, replace, IsDefine, Expands, end, token, define, define_again, tokens_of, counts, BreaksMacroRule, twice, too_many, Expanded, BreaksMacros, IsMacroRefusal}
use Rattle.xmp_lex.specs.Lines.{IsClosed, IsClosedBehind, IsFinished}
use Rattle.xmp_lex.specs.Output.{Puts, Overflows, breaks_macro, IsSecond, Steps, BreaksAt}
use Rattle.xmp_lex.proofs.ReplaceLemmas.{result_of, all_at, IsAt}
use Rattle.xmp_lex.proofs.UseLemmas.{tokens_append}
use Rattle.xmp_lex.proofs.CloseLemmas.{Line, line_of, fin_append}

pub closed_behind : (body : List Token) (close : Token) (rest : List Token) → IsClosed (body ++ close ∷ rest) → IsClosed rest
closed_behind [] close rest h = h.1
closed_behind (x ∷ body) close rest h = closed_behind body close rest h.1

not_define : (x : Token) (k : TokenKind) → x.kind ≡ k → (IsDefine k → ⊥) → IsDefine x.kind → ⊥
not_define x k e n i = n (subst IsDefine e i)

-- a text whose lines are closed comes to something
abbrev pub Text : List Definition → List Token → Type 0
Text known ts = (es : List Event) × Expands known ts es

pub text_of : (n : ℕ) (ts : List Token) → length ts ≤ n → IsClosed ts → (known : List Definition) → Text known ts
text_of n [] h c known = ([], end known)
text_of zero (x ∷ ts) h c known = absurd (omega arith)
text_of (suc n) (x ∷ ts) h c known = by x.kind refl c.0 (λ us l g. text_of n us l g) where
  plain : (IsDefine x.kind → ⊥) → ((us : List Token) → length us ≤ n → IsClosed us → (ds : List Definition) → Text ds us) → Text known (x ∷ ts)
  plain i next = let r = result_of known [] (x ∷ []) in let s = next ts (omega arith) c.1 known in (r.0 ++ s.0, token known x ts r.0 s.0 i r.1 s.1)

  line : (name : List ℕ) → x.kind ≡ t.Define name → Line ts → ((us : List Token) → length us ≤ n → IsClosed us → (ds : List Definition) → Text ds us) → Text known (x ∷ ts)
  line name e l next = subst (λ us. Text known (x ∷ us)) (sym l.line) (choose (body_of known name) refl) where
    short : length l.rest ≤ n
    short = let z = ap length l.line in omega (arith, length-append l.body (l.close ∷ l.rest))

    closed : IsClosed l.rest
    closed = closed_behind l.body l.close l.rest (subst IsClosed l.line c.1)

    choose : (o : Option (List Token)) → body_of known name ≡ o → Text known (x ∷ (l.body ++ l.close ∷ l.rest))
    choose None f = let s = next l.rest short closed (known ++ (name, l.body) ∷ []) in (s.0, define known x l.close name l.body l.rest s.0 e f l.is_body l.closes s.1)
    choose (Some old) f = let s = next l.rest short closed known in (again x.at ∷ s.0, define_again known x l.close name old l.body l.rest s.0 e f l.is_body l.closes s.1)

  by : (k : TokenKind) → x.kind ≡ k → IsClosedBehind k ts → ((us : List Token) → length us ≤ n → IsClosed us → (ds : List Definition) → Text ds us) → Text known (x ∷ ts)
  by (t.Name m) e g next = plain (not_define x _ e (λ i. i)) next
  by (t.Word w) e g next = plain (not_define x _ e (λ i. i)) next
  by (t.Number v ty) e g next = plain (not_define x _ e (λ i. i)) next
  by (t.Text bytes) e g next = plain (not_define x _ e (λ i. i)) next
  by (t.Mark m) e g next = plain (not_define x _ e (λ i. i)) next
  by (t.Define name) e g next = line name e (line_of ts g) next
  by t.Pragma e g next = plain (not_define x _ e (λ i. i)) next
  by t.Close e g next = plain (not_define x _ e (λ i. i)) next
  by t.Finish e g next = plain (not_define x _ e (λ i. i)) next

pub some_text : (tokens : List Token) → IsClosed tokens → (es : List Event) × Expands [] tokens es
some_text tokens c = text_of (length tokens) tokens (omega arith) c []

-- where the loop over a text's tokens stands
pub record InText (tokens : List Token) (known : List Definition) (rest : List Token) (output : Output) : Type 0 where
  pub sofar : List Event
  pub to_come : (later : List Event) → Expands known rest later → Expands [] tokens (sofar ++ later)
  pub once : All (λ e. counts e ≡ true) sofar
  pub out_is : output.tokens.items ≡ tokens_of sofar
  pub count_is : output.count ≡ length sofar
  pub few : output.count ≤ token_limit
  pub closed : IsClosed rest

pub text_start : (tokens : List Token) (o : Output) → IsClosed tokens → o.tokens.items ≡ [] → o.count ≡ 0 → InText tokens [] tokens o
text_start tokens o c e z = record { sofar = []; to_come = λ later p. p; once = All-nil (λ e. counts e ≡ true); out_is = e; count_is = z; few = omega arith; closed = c }

all_count : (at : Place) (es : List Event) → All (IsAt at) es → All (λ e. counts e ≡ true) es
all_count at es a k d l = (a k d l).0

text_put : (tokens : List Token) (known new : List Definition) (x : Token) (behind rest : List Token) (old output : Output) → InText tokens known (x ∷ behind) old → (IsDefine x.kind → ⊥)
    → (new ≡ known) × (rest ≡ behind) × Puts (Replaces known [] (x ∷ [])) old output → InText tokens new rest output
text_put tokens known new x behind rest old output i n s =
    let es : List Event = s.2.events in
    record {
      sofar = i.sofar ++ es;
      to_come = λ later p. subst (Expands [] tokens) (sym (append_assoc i.sofar es later)) (i.to_come (es ++ later) (token known x behind es later n s.2.are (subst (λ us. Expands known us later) s.1 (subst (λ ds. Expands ds rest later) s.0 p))));
      once = All-append (λ e. counts e ≡ true) i.sofar es i.once (all_count x.at es (all_at known x.at [] (x ∷ []) es (All-cons (λ (y : Token). y.at ≡ x.at) x [] refl (All-nil (λ (y : Token). y.at ≡ x.at))) s.2.are));
      out_is = s.2.put.tokens ∙ ap (λ ts. ts ++ tokens_of es) i.out_is ∙ sym (tokens_append i.sofar es);
      count_is = (let a = s.2.put.count in let b = i.count_is in omega (arith, length-append i.sofar es));
      few = s.2.put.few;
      closed = subst IsClosed (sym s.1) i.closed.1;
    }

pub text_next : (tokens : List Token) (known new : List Definition) (x : Token) (behind rest : List Token) (old output : Output) → InText tokens known (x ∷ behind) old → (k : TokenKind) → x.kind ≡ k → Steps k known new x behind rest old output → InText tokens new rest output
text_next tokens known new x behind rest old output i (t.Name m) e s = text_put tokens known new x behind rest old output i (not_define x _ e (λ z. z)) s
text_next tokens known new x behind rest old output i (t.Word w) e s = text_put tokens known new x behind rest old output i (not_define x _ e (λ z. z)) s
text_next tokens known new x behind rest old output i (t.Number v ty) e s = text_put tokens known new x behind rest old output i (not_define x _ e (λ z. z)) s
text_next tokens known new x behind rest old output i (t.Text bytes) e s = text_put tokens known new x behind rest old output i (not_define x _ e (λ z. z)) s
text_next tokens known new x behind rest old output i (t.Mark m) e s = text_put tokens known new x behind rest old output i (not_define x _ e (λ z. z)) s
text_next tokens known new x behind rest old output i (t.Define name) e s =
    let d = s.0 in record {
      sofar = i.sofar;
      to_come = λ later p. i.to_come later (subst (λ us. Expands known (x ∷ us) later) (sym d.is_line.line) (define known x d.is_line.close name d.body rest later e d.is_new d.is_line.is_body d.is_line.closes (subst (λ ds. Expands ds rest later) d.added p)));
      once = i.once;
      out_is = ap (λ (o : Output). o.tokens.items) s.1 ∙ i.out_is;
      count_is = ap (λ (o : Output). o.count) s.1 ∙ i.count_is;
      few = subst (λ (o : Output). o.count ≤ token_limit) (sym s.1) i.few;
      closed = closed_behind d.body d.is_line.close rest (subst IsClosed d.is_line.line i.closed.1);
    }
text_next tokens known new x behind rest old output i t.Pragma e s = text_put tokens known new x behind rest old output i (not_define x _ e (λ z. z)) s
text_next tokens known new x behind rest old output i t.Close e s = text_put tokens known new x behind rest old output i (not_define x _ e (λ z. z)) s
text_next tokens known new x behind rest old output i t.Finish e s = text_put tokens known new x behind rest old output i (not_define x _ e (λ z. z)) s

pub text_end : (tokens : List Token) (known : List Definition) (output : Output) → InText tokens known [] output → Expanded tokens output.tokens.items
text_end tokens known output i = record {
  events = i.sofar;
  expands = subst (Expands [] tokens) (append-nil i.sofar) (i.to_come [] (end known));
  fine = record { once = i.once; few = (let a = i.count_is in let b = i.few in omega arith) };
  result_is = i.out_is;
}

pub all_front : {X : Type 0} (P : X → Type 0) (xs ys : List X) → All P (xs ++ ys) → All P xs
all_front P [] ys a = All-nil P
all_front P (x ∷ xs) ys a = All-cons P x xs (All-head P x (xs ++ ys) a) (all_front P xs ys (All-tail P x (xs ++ ys) a))

-- the event behind k others
split : (k : ℕ) (es : List Event) → k < length es → (before : List Event) × (e : Event) × (behind : List Event) × (es ≡ before ++ e ∷ behind) × (length before ≡ k)
split k [] l = absurd (omega arith)
split zero (e ∷ es) l = ([], e, es, refl, refl)
split (suc k) (e ∷ es) l = let s = split k es (omega arith) in (e ∷ s.0, s.1, s.2, ap (λ fs. e ∷ fs) s.3, ap suc s.4)

refusal_is : (r : Refusal) (rule : ℕ) (at : Place) → fault.Refused r ≡ breaks_macro rule at → r ≡ record { phase = phase.Macro; rule = rule; at = at }
refusal_is r rule at e = cc

text_over : (tokens : List Token) (known : List Definition) (x : Token) (behind : List Token) (old : Output) (f : Fault) → InText tokens known (x ∷ behind) old → (IsDefine x.kind → ⊥) → Overflows (Replaces known [] (x ∷ [])) old x.at f → IsMacroRefusal tokens f
text_over tokens known x behind old fault.NoMemory i n o = tt
text_over tokens known x behind old (fault.Refused r) i n o = refuse (refusal_is r 2 x.at o.0) where
  es : List Event
  es = o.1.0

  at_x : All (IsAt x.at) es
  at_x = all_at known x.at [] (x ∷ []) es (All-cons (λ (y : Token). y.at ≡ x.at) x [] refl (All-nil (λ (y : Token). y.at ≡ x.at))) o.1.1

  n_is : token_limit - length i.sofar < length es
  n_is = let a = o.1.2 in let b = i.count_is in let c = i.few in omega arith

  s : (before : List Event) × (e : Event) × (rest : List Event) × (es ≡ before ++ e ∷ rest) × (length before ≡ token_limit - length i.sofar)
  s = split (token_limit - length i.sofar) es n_is

  front_at : All (IsAt x.at) (s.0 ++ s.1 ∷ s.2)
  front_at = subst (All (IsAt x.at)) s.3 at_x

  e_at : IsAt x.at s.1
  e_at = subst (IsAt x.at) (get_or-append_seam s.0 s.1 s.2 s.1) (front_at (length s.0) s.1 (omega (arith, length-append s.0 (s.1 ∷ s.2))))

  later : Text known behind
  later = text_of (length behind) behind (omega arith) i.closed.1 known

  events_are : i.sofar ++ (es ++ later.0) ≡ (i.sofar ++ s.0) ++ s.1 ∷ (s.2 ++ later.0)
  events_are = ap (λ fs. i.sofar ++ (fs ++ later.0)) s.3 ∙ ap (λ fs. i.sofar ++ fs) (append_assoc s.0 (s.1 ∷ s.2) later.0) ∙ sym (append_assoc i.sofar s.0 (s.1 ∷ (s.2 ++ later.0)))

  long : length (i.sofar ++ s.0) ≡ token_limit
  long = let a = s.4 in let b = i.count_is in let c = i.few in omega (arith, length-append i.sofar s.0)

  breaks : BreaksMacros tokens 2 x.at
  breaks = record {
    events = i.sofar ++ (es ++ later.0);
    expands = i.to_come (es ++ later.0) (token known x behind es later.0 n o.1.1 later.1);
    breaks = subst (BreaksMacroRule (i.sofar ++ (es ++ later.0)) 2) e_at.1 (too_many (i.sofar ++ s.0) (s.2 ++ later.0) s.1 events_are e_at.0
        (record { once = All-append (λ e. counts e ≡ true) i.sofar s.0 i.once (all_count x.at s.0 (all_front (IsAt x.at) s.0 (s.1 ∷ s.2) front_at)); few = (let l = long in omega arith) }) long);
  }

  refuse : r ≡ record { phase = phase.Macro; rule = 2; at = x.at } → IsMacroRefusal tokens (fault.Refused r)
  refuse e = subst (λ (q : Refusal). (q.phase ≡ phase.Macro) × BreaksMacros tokens q.rule q.at) (sym e) (refl, breaks)

text_twice : (tokens : List Token) (known : List Definition) (x : Token) (behind : List Token) (old : Output) (name : List ℕ) (f : Fault) → InText tokens known (x ∷ behind) old → x.kind ≡ t.Define name → IsSecond known name x.at f → IsMacroRefusal tokens f
text_twice tokens known x behind old name fault.NoMemory i e s = tt
text_twice tokens known x behind old name (fault.Refused r) i e s = refuse (refusal_is r 1 x.at s.0) where
  l : Line behind
  l = line_of behind (subst (λ k. IsClosedBehind k behind) e i.closed.0)

  later : Text known l.rest
  later = text_of (length l.rest) l.rest (omega arith) (closed_behind l.body l.close l.rest (subst IsClosed l.line i.closed.1)) known

  breaks : BreaksMacros tokens 1 x.at
  breaks = record {
    events = i.sofar ++ again x.at ∷ later.0;
    expands = i.to_come (again x.at ∷ later.0) (subst (λ us. Expands known (x ∷ us) (again x.at ∷ later.0)) (sym l.line) (define_again known x l.close name s.1.0 l.body l.rest later.0 e s.1.1 l.is_body l.closes later.1));
    breaks = twice i.sofar later.0 x.at refl (record { once = i.once; few = (let a = i.count_is in let b = i.few in omega arith) });
  }

  refuse : r ≡ record { phase = phase.Macro; rule = 1; at = x.at } → IsMacroRefusal tokens (fault.Refused r)
  refuse q = subst (λ (z : Refusal). (z.phase ≡ phase.Macro) × BreaksMacros tokens z.rule z.at) (sym q) (refl, breaks)

pub text_breaks : (tokens : List Token) (known : List Definition) (x : Token) (behind : List Token) (old : Output) (f : Fault) → InText tokens known (x ∷ behind) old → (k : TokenKind) → x.kind ≡ k → BreaksAt k known x old f → IsMacroRefusal tokens f
text_breaks tokens known x behind old f i (t.Name m) e s = text_over tokens known x behind old f i (not_define x _ e (λ z. z)) s
text_breaks tokens known x behind old f i (t.Word w) e s = text_over tokens known x behind old f i (not_define x _ e (λ z. z)) s
text_breaks tokens known x behind old f i (t.Number v ty) e s = text_over tokens known x behind old f i (not_define x _ e (λ z. z)) s
text_breaks tokens known x behind old f i (t.Text bytes) e s = text_over tokens known x behind old f i (not_define x _ e (λ z. z)) s
text_breaks tokens known x behind old f i (t.Mark m) e s = text_over tokens known x behind old f i (not_define x _ e (λ z. z)) s
text_breaks tokens known x behind old f i (t.Define name) e s = text_twice tokens known x behind old name f i e s
text_breaks tokens known x behind old f i t.Pragma e s = text_over tokens known x behind old f i (not_define x _ e (λ z. z)) s
text_breaks tokens known x behind old f i t.Close e s = text_over tokens known x behind old f i (not_define x _ e (λ z. z)) s
text_breaks tokens known x behind old f i t.Finish e s = text_over tokens known x behind old f i (not_define x _ e (λ z. z)) s

-- a text that ends in a Finish comes to one that does
fin_tail : (x : Token) (ts : List Token) → IsFinished (x ∷ ts) → ((ts ≡ []) × (x.kind ≡ t.Finish)) ⊎ IsFinished ts
fin_tail x [] h = inl (refl, h)
fin_tail x (y ∷ ts) h = inr h

fin_behind : (body : List Token) (close : Token) (ts : List Token) → close.kind ≡ t.Close → IsFinished (body ++ close ∷ ts) → IsFinished ts
fin_behind [] close ts e h = elim (fin_tail close ts h) [ inl z ↦ absurd (clash (sym z.1 ∙ e)) | inr g ↦ g ] where
  clash : t.Finish ≡ t.Close → ⊥
  clash q = cc
fin_behind (x ∷ []) close ts e h = fin_behind [] close ts e h
fin_behind (x ∷ y ∷ body) close ts e h = fin_behind (y ∷ body) close ts e h

stays : (known : List Definition) (x : Token) (es : List Event) → x.kind ≡ t.Finish → Replaces known [] (x ∷ []) es → IsFinished (tokens_of es)
stays known x _ f (keep _ _ _ _ e (done _)) = f
stays known x _ f (replace _ _ d _ inner es e i r) = absurd (let z : None ≡ Some d = sym (ap (definition_of known []) f) ∙ e in cc)

pub finished : (known : List Definition) (ts : List Token) (es : List Event) → Expands known ts es → IsFinished ts → IsFinished (tokens_of es)
finished known _ _ (end _) h = absurd h
finished known _ _ (token _ x ts inner es n r p) h = elim (fin_tail x ts h) [
  | inl z ↦ subst IsFinished (sym (tokens_append inner es ∙ ap (λ us. tokens_of inner ++ us) (nothing ts es z.0 p) ∙ append-nil (tokens_of inner))) (stays known x inner z.1 r)
  | inr g ↦ subst IsFinished (sym (tokens_append inner es)) (fin_append (tokens_of inner) (tokens_of es) (finished known ts es p g))
]
  where
    nothing : (us : List Token) (fs : List Event) → us ≡ [] → Expands known us fs → tokens_of fs ≡ []
    nothing [] _ z (end _) = refl
    nothing (y ∷ us) fs z q = absurd (let z2 : y ∷ us ≡ [] = z in cc)
finished known _ _ (define _ x close name body ts es e o b c p) h = finished (known ++ (name, body) ∷ []) ts es p (fin_behind (x ∷ body) close ts c h)
finished known _ _ (define_again _ x close name old body ts es e o b c p) h = finished known ts es p (fin_behind (x ∷ body) close ts c h)

pub expanded_finished : (tokens result : List Token) → IsFinished tokens → Expanded tokens result → IsFinished result
expanded_finished tokens result h e = subst IsFinished (sym e.result_is) (finished [] tokens e.events e.expands h)
