-- The stack of uses, in the forms that the code's goals have.
use Rattle.std.proofs.Common.{◌≡◌, ◌≤◌, ◌+◌, ◌++◌, ℕ, List, [], ◌∷◌, length, refl, sym, ap, ◌∙◌, subst, arith, Some, None, append_assoc, append-nil, length-append, Result, Ok, Err, OnOk, IfErr}
use Rattle.xmp_base.specs.Limits.{token_limit}
use Rattle.xmp_base.specs.declared.place.Place.{Place}
use Rattle.xmp_base.specs.declared.refusal.Fault.{Fault}
use Rattle.xmp_base.specs.declared.refusal.Fault.TheVariants as fault
use Rattle.xmp_lex.specs.declared.token.Token.{Token}
use Rattle.xmp_lex.specs.declared.definitions.Use.{Use}
use Rattle.xmp_lex.specs.declared.output.Output.{Output}
use Rattle.xmp_lex.specs.Expand.{Definition, definition_of, moved, Event, out, used, Replaces, done, keep, replace, tokens_of}
use Rattle.xmp_lex.specs.Output.{Pending, none, within, names_of, frame, frames, PutsOut, Puts, Overflows, IsFull, IsStopped, Advances}
use Rattle.xmp_lex.proofs.ReplaceLemmas.{deep, definition_deep, pending_done, pending_keep, pending_use, pending_of, pending_some, result_of, some_event}

pub on_both : {T E P Q R : Type 0} (r : Result T E) → OnOk r P → OnOk r Q → (P → Q → R) → OnOk r R
on_both (Ok x) p q f = f p q
on_both (Err e) p q f = tt

pub on_three : {T E P Q R S : Type 0} (r : Result T E) → OnOk r P → OnOk r Q → OnOk r R → (P → Q → R → S) → OnOk r S
on_three (Ok x) p q r f = f p q r
on_three (Err e) p q r f = tt

pub if_err : {T E : Type 0} {P Q : E → Type 0} (r : Result T E) → ((e : E) → P e → Q e) → IfErr r P → IfErr r Q
if_err (Ok x) f p = tt
if_err (Err e) f p = f e p

pub no_frames : (uses : List Use) → length uses ≡ 0 → frames uses ≡ []
no_frames [] e = refl
no_frames (u ∷ uses) e = absurd (omega arith)

pub frames_last : (uses : List Use) (u : Use) → frames (uses ++ u ∷ []) ≡ frames uses ++ frame u ∷ []
frames_last [] u = refl
frames_last (w ∷ uses) u = ap (λ fs. frame w ∷ fs) (frames_last uses u)

pub names_last : (uses : List Definition) (u : Definition) → names_of (uses ++ u ∷ []) ≡ names_of uses ++ u.0 ∷ []
names_last [] u = refl
names_last (w ∷ uses) u = ap (λ ns. w.0 ∷ ns) (names_last uses u)

length_last : (uses : List Definition) (u : Definition) → length (uses ++ u ∷ []) ≡ length uses + 1
length_last uses u = length-append uses (u ∷ [])

pub puts_nothing : (o : Output) → o.count ≤ token_limit → PutsOut [] o o
puts_nothing o h = record { tokens = sym (append-nil o.tokens.items); count = omega arith; few = h }

pub tokens_append : (ds bs : List Event) → tokens_of (ds ++ bs) ≡ tokens_of ds ++ tokens_of bs
tokens_append [] bs = refl
tokens_append (out x ∷ ds) bs = ap (λ ts. x ∷ ts) (tokens_append ds bs)
tokens_append (used at ∷ ds) bs = tokens_append ds bs
tokens_append (Event.again at ∷ ds) bs = tokens_append ds bs

pub puts_both : (ds bs : List Event) (o p q : Output) → PutsOut ds o p → PutsOut bs p q → PutsOut (ds ++ bs) o q
puts_both ds bs o p q h k = record {
  tokens = k.tokens ∙ ap (λ ts. ts ++ tokens_of bs) h.tokens ∙ append_assoc o.tokens.items (tokens_of ds) (tokens_of bs) ∙ ap (λ ts. o.tokens.items ++ ts) (sym (tokens_append ds bs));
  count = (let a = h.count in let b = k.count in omega (arith, length-append ds bs));
  few = k.few;
}

pub advance_done : (known : List Definition) (at : Place) (uses : List Definition) (u : Definition) (hidden : List (List ℕ)) (o : Output) → u.1 ≡ [] → hidden ≡ names_of uses → o.count ≤ token_limit → Advances known at (uses ++ u ∷ []) uses hidden o o
advance_done known at uses u hidden o e h few = record {
  events = [];
  to_come = λ later p. subst (λ left. Pending known at [] (uses ++ (u.0, left) ∷ []) later) (sym e) (pending_done known at u.0 uses [] later p);
  names = h;
  put = puts_nothing o few;
  smaller = (let l = length_last uses u in omega arith);
}

pub advance_keep : (known : List Definition) (at : Place) (uses : List Definition) (u : Definition) (x : Token) (left : List Token) (hidden : List (List ℕ)) (old new : Output) → u.1 ≡ x ∷ left → hidden ≡ names_of (uses ++ u ∷ [])
    → None ≡ definition_of known hidden x.kind → PutsOut (out (record { kind = x.kind; at = at }) ∷ []) old new → Advances known at (uses ++ u ∷ []) (uses ++ (u.0, left) ∷ []) hidden old new
advance_keep known at uses u x left hidden old new e h d p = record {
  events = out (record { kind = x.kind; at = at }) ∷ [];
  to_come = λ later q. subst (λ ts. Pending known at [] (uses ++ (u.0, ts) ∷ []) (out (record { kind = x.kind; at = at }) ∷ later)) (sym e) (pending_keep known at u.0 x left uses [] later is q);
  names = h ∙ names_last uses u ∙ sym (names_last uses (u.0, left));
  put = p;
  smaller = (let l = length_last uses u in let m = length_last uses (u.0, left) in omega arith);
}
  where
    is : definition_of known (deep [] (uses ++ (u.0, x ∷ left) ∷ [])) x.kind ≡ None
    is = definition_deep known (uses ++ (u.0, x ∷ left) ∷ []) x.kind ∙ ap (λ ns. definition_of known ns x.kind) (names_last uses (u.0, x ∷ left) ∙ sym (names_last uses u) ∙ sym h) ∙ sym d

pub advance_use : (known : List Definition) (at : Place) (uses : List Definition) (u d : Definition) (x : Token) (left : List Token) (hidden : List (List ℕ)) (old new : Output) → u.1 ≡ x ∷ left → hidden ≡ names_of (uses ++ u ∷ [])
    → Some d ≡ definition_of known hidden x.kind → PutsOut (used at ∷ []) old new → Advances known at (uses ++ u ∷ []) (uses ++ (u.0, left) ∷ [] ++ d ∷ []) (hidden ++ d.0 ∷ []) old new
advance_use known at uses u d x left hidden old new e h s p = record {
  events = used at ∷ [];
  to_come = λ later q. subst (λ ts. Pending known at [] (uses ++ (u.0, ts) ∷ []) (used at ∷ later)) (sym e) (pending_use known at u.0 x left d uses [] later is q);
  names = ap (λ ns. ns ++ d.0 ∷ []) (h ∙ names_last uses u ∙ sym (names_last uses (u.0, left))) ∙ sym (names_last (uses ++ (u.0, left) ∷ []) d);
  put = p;
  smaller = (let l = length_last uses u in let m = length_last uses (u.0, left) in let n = length_last (uses ++ (u.0, left) ∷ []) d in omega arith);
}
  where
    is : definition_of known (deep [] (uses ++ (u.0, x ∷ left) ∷ [])) x.kind ≡ Some d
    is = definition_deep known (uses ++ (u.0, x ∷ left) ∷ []) x.kind ∙ ap (λ ns. definition_of known ns x.kind) (names_last uses (u.0, x ∷ left) ∙ sym (names_last uses u) ∙ sym h) ∙ sym s

-- where the loop over the uses stands
pub record InUse (known : List Definition) (at : Place) (first : Definition) (uses : List Definition) (hidden : List (List ℕ)) (old new : Output) : Type 0 where
  pub sofar : List Event
  pub to_come : (later : List Event) → Pending known at [] uses later → Replaces known (first.0 ∷ []) (moved at first.1) (sofar ++ later)
  pub names : hidden ≡ names_of uses
  pub put : PutsOut sofar old new

pub use_start : (known : List Definition) (at : Place) (first : Definition) (hidden : List (List ℕ)) (o : Output) → hidden ≡ first.0 ∷ [] → o.count ≤ token_limit → InUse known at first (first ∷ []) hidden o o
use_start known at first hidden o h few = record { sofar = []; to_come = λ later p. come later p; names = h; put = puts_nothing o few } where
  come : (later : List Event) → Pending known at [] (first ∷ []) later → Replaces known (first.0 ∷ []) (moved at first.1) later
  come _ (within _ _ _ _ es (none _) r) = r

pub use_next : (known : List Definition) (at : Place) (first : Definition) (before after : List Definition) (hidden names : List (List ℕ)) (old mid new : Output) → InUse known at first before hidden old mid → Advances known at before after names mid new → InUse known at first after names old new
use_next known at first before after hidden names old mid new i a = record {
  sofar = i.sofar ++ a.events;
  to_come = λ later p. subst (Replaces known (first.0 ∷ []) (moved at first.1)) (sym (append_assoc i.sofar a.events later)) (i.to_come (a.events ++ later) (a.to_come later p));
  names = a.names;
  put = puts_both i.sofar a.events old mid new i.put a.put;
}

pub use_end : (known : List Definition) (at : Place) (first : Definition) (hidden : List (List ℕ)) (old new : Output) → InUse known at first [] hidden old new → Puts (Replaces known (first.0 ∷ []) (moved at first.1)) old new
use_end known at first hidden old new i = record { events = i.sofar; are = subst (Replaces known (first.0 ∷ []) (moved at first.1)) (append-nil i.sofar) (i.to_come [] (none [])); put = i.put }

pub use_stops : (known : List Definition) (at : Place) (first u : Definition) (uses : List Definition) (hidden : List (List ℕ)) (old new : Output) (f : Fault) → InUse known at first (uses ++ u ∷ []) hidden old new → IsStopped new.count u.1 at f
    → Overflows (Replaces known (first.0 ∷ []) (moved at first.1)) old at f
use_stops known at first u uses hidden old new fault.NoMemory i s = tt
use_stops known at first u uses hidden old new (fault.Refused r) i s =
    let p = pending_of known at [] (uses ++ u ∷ []) in
    let some = pending_some known at u uses [] p.0 s.2 p.1 in
    (s.0, (i.sofar ++ p.0, i.to_come p.0 p.1, (let c = i.put.count in let m = s.1 in omega (arith, length-append i.sofar p.0))))

-- a token of the text
pub token_stays : (known : List Definition) (x : Token) (old new : Output) → None ≡ definition_of known [] x.kind → PutsOut (out x ∷ []) old new → Puts (Replaces known [] (x ∷ [])) old new
token_stays known x old new e p = record { events = out x ∷ []; are = keep [] x [] [] (sym e) (done []); put = p }

pub token_full : (known : List Definition) (x : Token) (o : Output) (f : Fault) → IsFull o.count x.at f → Overflows (Replaces known [] (x ∷ [])) o x.at f
token_full known x o fault.NoMemory h = tt
token_full known x o (fault.Refused r) h = let e = result_of known [] (x ∷ []) in (h.0, (e.0, e.1, (let s = some_event known [] x [] e.0 e.1 in let m = h.1 in omega arith)))

use_once : (known : List Definition) (x : Token) (d : Definition) (inner : List Event) → Some d ≡ definition_of known [] x.kind → Replaces known (d.0 ∷ []) (moved x.at d.1) inner → Replaces known [] (x ∷ []) (used x.at ∷ inner)
use_once known x d inner e r = subst (λ es. Replaces known [] (x ∷ []) (used x.at ∷ es)) (append-nil inner) (replace [] x d [] inner [] (sym e) r (done []))

pub token_used : (known : List Definition) (x : Token) (d : Definition) (old mid new : Output) → Some d ≡ definition_of known [] x.kind → PutsOut (used x.at ∷ []) old mid → Puts (Replaces known (d.0 ∷ []) (moved x.at d.1)) mid new → Puts (Replaces known [] (x ∷ [])) old new
token_used known x d old mid new e p q = record { events = used x.at ∷ q.events; are = use_once known x d q.events e q.are; put = puts_both (used x.at ∷ []) q.events old mid new p q.put }

pub token_over : (known : List Definition) (x : Token) (d : Definition) (old mid : Output) (f : Fault) → Some d ≡ definition_of known [] x.kind → PutsOut (used x.at ∷ []) old mid → Overflows (Replaces known (d.0 ∷ []) (moved x.at d.1)) mid x.at f
    → Overflows (Replaces known [] (x ∷ [])) old x.at f
token_over known x d old mid fault.NoMemory e p q = tt
token_over known x d old mid (fault.Refused r) e p q = (q.0, (used x.at ∷ q.1.0, use_once known x d q.1.0 e q.1.1, (let c = p.count in let m = q.1.2 in omega arith)))
