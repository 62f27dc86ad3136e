-- Places of names in the table, and the log read by them.
use Rattle.std.proofs.Common.{◌≡◌, ◌++◌, ◌<◌, ◌∙◌, ℕ, zero, suc, Bool, true, false, cond, List, [], ◌∷◌, length, Option, None, refl, sym, ap, subst, arith}
use Rattle.xmp_scopes.specs.declared.current.Held.{Held}
use Rattle.xmp_scopes.specs.declared.scopes.Entry.{Entry}
use Rattle.xmp_scopes.specs.declared.scopes.Entry.TheVariants as entry
use Rattle.xmp_scopes.specs.Names.{Name, is_same}
use Rattle.xmp_scopes.specs.Table.{Row, visible, name_at, IsPlace, put, silent, Grows}
use Rattle.xmp_scopes.specs.Log.{step_of, steps_of, HasPlace, HavePlaces}
use Rattle.xmp_scopes.proofs.Entries.{equal_of_same, same_of_equal}

module _ {M : Type 0} where
  pub place_within : (n : Name) (t : List (Row M)) (at : ℕ) → IsPlace n t at → at < length t
  place_within n [] at i = absurd i
  place_within n (e ∷ es) zero i = omega arith
  place_within n (e ∷ es) (suc at) i = let h = place_within n es at i.1 in omega arith

  pub place_name : (n : Name) (t : List (Row M)) (at : ℕ) → IsPlace n t at → name_at t at ≡ n
  place_name n [] at i = absurd i
  place_name n (e ∷ es) zero i = i
  place_name n (e ∷ es) (suc at) i = place_name n es at i.1

  -- ---- a write at a place

  pub put_name : (t : List (Row M)) (at k : ℕ) (v : Option (Held M)) → name_at (put t at v) k ≡ name_at t k
  put_name [] at k v = refl
  put_name (e ∷ es) zero zero v = refl
  put_name (e ∷ es) zero (suc k) v = refl
  put_name (e ∷ es) (suc at) zero v = refl
  put_name (e ∷ es) (suc at) (suc k) v = put_name es at k v

  pub put_place : (n : Name) (t : List (Row M)) (at k : ℕ) (v : Option (Held M)) → IsPlace n t k → IsPlace n (put t at v) k
  put_place n [] at k v i = absurd i
  put_place n (e ∷ es) zero zero v i = i
  put_place n (e ∷ es) zero (suc k) v i = i
  put_place n (e ∷ es) (suc at) zero v i = i
  put_place n (e ∷ es) (suc at) (suc k) v i = (i.0, put_place n es at k v i.1)

  over : (b : Bool) (v u w : Option (Held M)) → cond b v w ≡ cond b v (cond b u w)
  over true v u w = refl
  over false v u w = refl

  both_orders : (s t : Bool) (u v w : Option (Held M)) → (s ≡ true → t ≡ true → u ≡ v) → cond s u (cond t v w) ≡ cond t v (cond s u w)
  both_orders true true u v w h = h refl refl
  both_orders true false u v w h = refl
  both_orders false true u v w h = refl
  both_orders false false u v w h = refl

  pub put_visible : (n name : Name) (t : List (Row M)) (at : ℕ) (v : Option (Held M)) → IsPlace name t at → visible n (put t at v) ≡ cond (is_same n name) v (visible n t)
  put_visible n name [] at v i = absurd i
  put_visible n name (e ∷ es) zero v i = rw (← i) (over (is_same n e.0) v e.1 (visible n es))
  put_visible n name (e ∷ es) (suc at) v i = ap (λ o. cond (is_same n e.0) e.1 o) (put_visible n name es at v i.1)
      ∙ both_orders (is_same n e.0) (is_same n name) e.1 v (visible n es)
      (λ p q. let same : name ≡ e.0 = sym (equal_of_same n name q) ∙ equal_of_same n e.0 p in
      let yes : is_same name e.0 ≡ true = same_of_equal name e.0 same in let no = i.0 in absurd (cc))

  -- ---- names of which nothing is said

  silent_visible : (n : Name) (names : List Name) → visible {M = M} n (silent {M = M} names) ≡ None
  silent_visible n [] = refl
  silent_visible n (k ∷ names) = elim (is_same n k) as (λ b. cond b None (visible {M = M} n (silent {M = M} names)) ≡ None) [ true ↦ refl | false ↦ silent_visible n names ]

  more_visible : (n : Name) (t : List (Row M)) (names : List Name) → visible n (t ++ silent names) ≡ visible n t
  more_visible n [] names = silent_visible n names
  more_visible n (e ∷ es) names = ap (λ o. cond (is_same n e.0) e.1 o) (more_visible n es names)

  pub grown_visible : (n : Name) (old new : List (Row M)) → Grows old new → visible n new ≡ visible n old
  grown_visible n old new g = ap (visible n) g.is ∙ more_visible n old g.names

  more_name : (t more : List (Row M)) (k : ℕ) → k < length t → name_at (t ++ more) k ≡ name_at t k
  more_name [] more k h = absurd (omega arith)
  more_name (e ∷ es) more zero h = refl
  more_name (e ∷ es) more (suc k) h = more_name es more k (omega arith)

  more_place : (n : Name) (t more : List (Row M)) (k : ℕ) → IsPlace n t k → IsPlace n (t ++ more) k
  more_place n [] more k i = absurd i
  more_place n (e ∷ es) more zero i = i
  more_place n (e ∷ es) more (suc k) i = (i.0, more_place n es more k i.1)

  -- ---- the log

  put_step : (t : List (Row M)) (at : ℕ) (v : Option (Held M)) (e : Entry M) → step_of (put t at v) e ≡ step_of t e
  put_step t at v entry.Opened = refl
  put_step t at v (entry.Declared k m hidden) = rw (put_name t at k v) refl

  pub put_steps : (t : List (Row M)) (at : ℕ) (v : Option (Held M)) (es : List (Entry M)) → steps_of (put t at v) es ≡ steps_of t es
  put_steps t at v [] = refl
  put_steps t at v (e ∷ es) = ap (λ s. s ∷ steps_of (put t at v) es) (put_step t at v e) ∙ ap (λ ss. step_of t e ∷ ss) (put_steps t at v es)

  put_has : (t : List (Row M)) (at : ℕ) (v : Option (Held M)) (e : Entry M) → HasPlace t e → HasPlace (put t at v) e
  put_has t at v entry.Opened h = tt
  put_has t at v (entry.Declared k m hidden) h = rw (put_name t at k v) (put_place (name_at t k) t at k v h)

  pub put_places : (t : List (Row M)) (at : ℕ) (v : Option (Held M)) (es : List (Entry M)) → HavePlaces t es → HavePlaces (put t at v) es
  put_places t at v [] h = tt
  put_places t at v (e ∷ es) h = (put_has t at v e h.0, put_places t at v es h.1)

  more_step : (t more : List (Row M)) (e : Entry M) → HasPlace t e → step_of (t ++ more) e ≡ step_of t e
  more_step t more entry.Opened h = refl
  more_step t more (entry.Declared k m hidden) h = rw (more_name t more k (place_within (name_at t k) t k h)) refl

  more_steps : (t more : List (Row M)) (es : List (Entry M)) → HavePlaces t es → steps_of (t ++ more) es ≡ steps_of t es
  more_steps t more [] h = refl
  more_steps t more (e ∷ es) h = ap (λ s. s ∷ steps_of (t ++ more) es) (more_step t more e h.0) ∙ ap (λ ss. step_of t e ∷ ss) (more_steps t more es h.1)

  pub grown_steps : (old new : List (Row M)) (es : List (Entry M)) → Grows old new → HavePlaces old es → steps_of new es ≡ steps_of old es
  grown_steps old new es g h = ap (λ t. steps_of t es) g.is ∙ more_steps old (silent g.names) es h

  more_has : (t more : List (Row M)) (e : Entry M) → HasPlace t e → HasPlace (t ++ more) e
  more_has t more entry.Opened h = tt
  more_has t more (entry.Declared k m hidden) h = rw (more_name t more k (place_within (name_at t k) t k h)) (more_place (name_at t k) t more k h)

  more_places : (t more : List (Row M)) (es : List (Entry M)) → HavePlaces t es → HavePlaces (t ++ more) es
  more_places t more [] h = tt
  more_places t more (e ∷ es) h = (more_has t more e h.0, more_places t more es h.1)

  pub grown_places : (old new : List (Row M)) (es : List (Entry M)) → Grows old new → HavePlaces old es → HavePlaces new es
  grown_places old new es g h = subst (λ t. HavePlaces t es) (sym g.is) (more_places old (silent g.names) es h)

  pub length-steps_of : (t : List (Row M)) (es : List (Entry M)) → length (steps_of t es) ≡ length es
  length-steps_of t [] = refl
  length-steps_of t (e ∷ es) = ap suc (length-steps_of t es)
