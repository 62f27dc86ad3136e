use Rattle.std.proofs.Common.{◌≡◌, ◌∙◌, ◌<◌, ◌-◌, ◌+◌, ◌++◌, ℕ, suc, List, [], ◌∷◌, map, take, drop, get_or, length, sym, ap, subst, arith, string_bytes, IfNone, Option, Some, None, drop-cons}
use Rattle.std.proofs.lemmas.List.{map-append, take-append-drop}
use Rattle.xmp_top.specs.Settings.{Settings, Sets, Says}
use Rattle.xmp_top.proofs.Unique.{sets_one}
use Rattle.xmp_top.proofs.settings.options_of.Goals as goal

if_none : {X : Type 0} (o : Option X) (Q : Type 0) → Q → IfNone o Q
if_none None Q q = q
if_none (Some x) Q q = tt

-- what sets something sets something by each end of it
sets_end : (xs ys : List (List ℕ)) (s : Settings) → Sets (xs ++ ys) s → (t : Settings) × Sets ys t
sets_end [] ys s h = (s, h)
sets_end (x ∷ xs) ys s h = sets_end xs ys h.0 h.1

-- where one word can't be said behind what the words after it set, nothing is set by them all
none_set : {A : Type 0} (f : A → List ℕ) (words : List A) (k n : ℕ) (word : A) (set : Settings) → n ≡ suc k → k < length words → word ≡ get_or words k word
    → Sets (map f (drop n words)) set → ((s : Settings) → Says (f word) set s → ⊥) → (s : Settings) → Sets (map f words) s → ⊥
none_set f words k n word set e within is behind never s sets =
    let at : drop k words ≡ word ∷ drop n words = drop-cons words k word within ∙ (ap (λ x. x ∷ drop (suc k) words) (sym is) ∙ ap (λ i. word ∷ drop i words) (sym e)) in
    let whole : map f words ≡ map f (take k words) ++ (f word ∷ map f (drop n words)) = ap (map f) (sym (take-append-drop k words)) ∙ (map-append f (take k words) (drop k words) ∙ ap (λ xs. map f (take k words) ++ map f xs) at) in
    let P : List (List ℕ) → Type 0 = λ xs. Sets xs s in
    let rest = sets_end (map f (take k words)) (f word ∷ map f (drop n words)) s (subst P whole sets) in
    let same = sets_one (map f (drop n words)) rest.1.0 set rest.1.1 behind in
    let Q : Settings → Type 0 = λ x. Says (f word) x rest.0 in
    never rest.0 (subst Q same rest.1.2)

pub returns-in_err-set-clause-none : goal.returns-in_err-set-clause-none
returns-in_err-set-clause-none c = if_none c.from_residual.result _
    (none_set (λ w. string_bytes w) c.args.words.now (c.loop-left.left - 1) c.loop-left.left c.index-words-left.result _ (omega arith) (omega arith) c.index-words-left.is c.loop-left.invariant.sets
    (λ s says. c.in_err-set.ensures.none s (rw c.as_str.ensures.value says)))
