-- The table and the log agree: when names are added, when one is declared, and when a declaration is undone.
use Rattle.std.proofs.Common.{◌≡◌, ◌∙◌, ℕ, List, ◌∷◌, length, max, Option, Some, sym, ap, subst}
use Rattle.xmp_scopes.specs.declared.current.Held.{Held}
use Rattle.xmp_scopes.specs.declared.scopes.Entry.{Entry}
use Rattle.xmp_scopes.specs.declared.scopes.Entry.TheVariants as entry
use Rattle.xmp_scopes.specs.Names.{Name, declare}
use Rattle.xmp_scopes.specs.Table.{Row, visible, name_at, IsPlace, put, Grows}
use Rattle.xmp_scopes.specs.Log.{Step, Declared, steps_of, scopes_of, held, Hides, HavePlaces, Agrees}
use Rattle.xmp_scopes.proofs.Places.{place_name, put_name, put_place, put_visible, put_steps, put_places, grown_visible, grown_steps, grown_places}
use Rattle.xmp_scopes.proofs.Undo.{length-declare, declared, restored}

module _ {M : Type 0} where
  pub agrees_grown : (old new : List (Row M)) (depth : ℕ) (es : List (Entry M)) → Grows old new → Agrees old depth es → Agrees new depth es
  agrees_grown old new depth es g a =
      let same : steps_of new es ≡ steps_of old es = grown_steps old new es g a.places in
      record {
        names = λ n. grown_visible n old new g ∙ (a.names n ∙ ap (held n) (sym same));
        depths = a.depths ∙ ap (λ s. length (scopes_of s)) (sym same);
        hides = subst Hides (sym same) a.hides;
        places = grown_places old new es g a.places;
      }

  pub scopes_grown : (old new : List (Row M)) (es : List (Entry M)) → Grows old new → HavePlaces old es → scopes_of (steps_of new es) ≡ scopes_of (steps_of old es)
  scopes_grown old new es g h = ap scopes_of (grown_steps old new es g h)

  -- what the log says with one declaration more
  pub steps_declared : (old mid : List (Row M)) (name : Name) (m : M) (hidden : Option (Held M)) (at : ℕ) (v : Option (Held M)) (es : List (Entry M))
      → Grows old mid → HavePlaces old es → IsPlace name mid at → steps_of (put mid at v) (entry.Declared at m hidden ∷ es) ≡ Declared name m hidden ∷ steps_of old es
  steps_declared old mid name m hidden at v es g h i =
      ap (λ n. Declared n m hidden ∷ steps_of (put mid at v) es) (put_name mid at at v ∙ place_name name mid at i)
      ∙ ap (λ ss. Declared name m hidden ∷ ss) (put_steps mid at v es ∙ grown_steps old mid es g h)

  pub agrees_declared : (old mid : List (Row M)) (name : Name) (m : M) (hidden : Option (Held M)) (at before depth : ℕ) (es : List (Entry M))
      → Grows old mid → Agrees old before es → hidden ≡ visible name old → IsPlace name mid at → depth ≡ max before 1
      → Agrees (put mid at (Some (record { depth = depth; meaning = m }))) depth (entry.Declared at m hidden ∷ es)
  agrees_declared old mid name m hidden at before depth es g a h i d =
      let v : Option (Held M) = Some (record { depth = depth; meaning = m }) in
      let rest : List (Step M) = steps_of old es in
      let steps = steps_declared old mid name m hidden at v es g a.places i in
      let deep : depth ≡ length (declare name m (scopes_of rest)) = d ∙ (ap (λ k. max k 1) a.depths ∙ sym (length-declare name m (scopes_of rest))) in
      record {
        names = λ n. declared mid (put mid at v) name m hidden depth rest (λ k. grown_visible k old mid g ∙ a.names k) deep (λ k. put_visible k name mid at v i) n ∙ ap (held n) (sym steps);
        depths = deep ∙ ap (λ s. length (scopes_of s)) (sym steps);
        hides = subst Hides (sym steps) (h ∙ a.names name, a.hides);
        places = (
          rw (put_name mid at at v, place_name name mid at i) (put_place name mid at at v i),
          put_places mid at v es (grown_places old mid es g a.places),
        );
      }

  pub scopes_declared : (old mid : List (Row M)) (name : Name) (m : M) (hidden : Option (Held M)) (at : ℕ) (v : Option (Held M)) (es : List (Entry M))
      → Grows old mid → HavePlaces old es → IsPlace name mid at → scopes_of (steps_of (put mid at v) (entry.Declared at m hidden ∷ es)) ≡ declare name m (scopes_of (steps_of old es))
  scopes_declared old mid name m hidden at v es g h i = ap scopes_of (steps_declared old mid name m hidden at v es g h i)

  -- a declaration is undone
  pub names_undone : (t : List (Row M)) (at : ℕ) (m : M) (hidden : Option (Held M)) (es : List (Entry M))
      → ((n : Name) → visible n t ≡ held n (steps_of t (entry.Declared at m hidden ∷ es))) → Hides (steps_of t (entry.Declared at m hidden ∷ es)) → HavePlaces t (entry.Declared at m hidden ∷ es)
      → (n : Name) → visible n (put t at hidden) ≡ held n (steps_of (put t at hidden) es)
  names_undone t at m hidden es names hides places n =
      restored t (put t at hidden) (name_at t at) m hidden (steps_of t es) names hides.0 (λ k. put_visible k (name_at t at) t at hidden places.0) n
      ∙ ap (held n) (sym (put_steps t at hidden es))

  pub hides_undone : (t : List (Row M)) (at : ℕ) (m : M) (hidden : Option (Held M)) (es : List (Entry M))
      → Hides (steps_of t (entry.Declared at m hidden ∷ es)) → Hides (steps_of (put t at hidden) es)
  hides_undone t at m hidden es hides = subst Hides (sym (put_steps t at hidden es)) hides.1
