use Rattle.std.proofs.Common.{◌≡◌, ◌∙◌, sym, ap, subst, reverse, drop, List, [], ◌∷◌, ◌-◌}
use Rattle.xmp_scopes.specs.declared.scopes.Entry.{Entry}
use Rattle.xmp_scopes.specs.declared.scopes.Entry.TheVariants.{Opened, Declared}
use Rattle.xmp_scopes.specs.Names.{Name}
use Rattle.xmp_scopes.specs.Table.{visible, name_at}
use Rattle.xmp_scopes.specs.Log.{steps_of, scopes_of, held, Hides, HavePlaces}
use Rattle.xmp_scopes.proofs.Undo.{last_first, none_left, drop-declare, closed_depth}
use Rattle.xmp_scopes.proofs.Places.{place_within, put_steps, put_places}
use Rattle.xmp_scopes.proofs.Agreement.{names_undone, hides_undone}
use Rattle.xmp_scopes.proofs.scopes.Scopes.close.Goals as goal
use Rattle.xmp_scopes.proofs.scopes.Scopes.close.Goals.{in-Some+in-Opened, in_default}

pub put-requires : goal.put-requires
put-requires g c =
    let es : List (Entry g.row.M.Denot) = reverse c.pop.new.self.items in
    let now : reverse c.steps.self-inside.steps.items ≡ Declared c.in-Declared.at c.in-Declared.meaning c.in-Declared.hidden ∷ es =
    ap reverse c.in-Some.ensures.items ∙ (last_first c.pop.new.self.items c.in-Some.step ∙ ap (λ s. s ∷ es) c.in-Declared.is) in
    let places = subst (HavePlaces c.steps.self-inside.current) now c.steps.invariant.places in
    place_within (name_at c.steps.self-inside.current c.in-Declared.at) c.steps.self-inside.current c.in-Declared.at places.0

pub steps-preserved : goal.steps-preserved
steps-preserved g c =
    let t = c.steps.self-inside.current in
    let es : List (Entry g.row.M.Denot) = reverse c.pop.new.self.items in
    let step : Entry g.row.M.Denot = Declared c.in-Declared.at c.in-Declared.meaning c.in-Declared.hidden in
    let now : reverse c.steps.self-inside.steps.items ≡ step ∷ es = ap reverse c.in-Some.ensures.items ∙ (last_first c.pop.new.self.items c.in-Some.step ∙ ap (λ s. s ∷ es) c.in-Declared.is) in
    let names : (n : Name) → visible n t ≡ held n (steps_of t (step ∷ es)) = subst (λ s. (n : Name) → visible n t ≡ held n (steps_of t s)) now c.steps.invariant.names in
    let hides : Hides (steps_of t (step ∷ es)) = subst (λ s. Hides (steps_of t s)) now c.steps.invariant.hides in
    let places : HavePlaces t (step ∷ es) = subst (HavePlaces t) now c.steps.invariant.places in
    let undone = sym c.put.ensures in
    record {
      names = subst (λ u. (n : Name) → visible n u ≡ held n (steps_of u es)) undone (names_undone t c.in-Declared.at c.in-Declared.meaning c.in-Declared.hidden es names hides places);
      hides = subst (λ u. Hides (steps_of u es)) undone (hides_undone t c.in-Declared.at c.in-Declared.meaning c.in-Declared.hidden es hides);
      places = subst (λ u. HavePlaces u es) undone (put_places t c.in-Declared.at c.in-Declared.hidden es places.1);
      depth = c.steps.invariant.depth;
      scope = ap (λ u. drop 1 (scopes_of (steps_of u es))) c.put.ensures
          ∙ (ap (λ s. drop 1 (scopes_of s)) (put_steps t c.in-Declared.at c.in-Declared.hidden es)
          ∙ (sym (drop-declare (name_at t c.in-Declared.at) c.in-Declared.meaning (scopes_of (steps_of t es)))
          ∙ (ap (λ s. drop 1 (scopes_of (steps_of t s))) (sym now) ∙ c.steps.invariant.scope)));
    }

pub invariant_of-self : goal.invariant_of-self
invariant_of-self g c = elim c.match-pop.branch [
  | in-Some+in-Opened w ↦
      let t = c.steps.self-inside.current in
      let es : List (Entry g.row.M.Denot) = reverse c.pop.new.self.items in
      let now : reverse c.steps.self-inside.steps.items ≡ Opened ∷ es = ap reverse w.in-Some.ensures.items ∙ (last_first c.pop.new.self.items w.in-Some.step ∙ ap (λ s. s ∷ es) w.in-Opened.is) in
      record {
        names = subst (λ s. (n : Name) → visible n t ≡ held n (steps_of t s)) now c.steps.invariant.names;
        depths = c.saturating_sub-self-inside.ensures ∙ (ap (λ k. k - 1) c.steps.invariant.depth
            ∙ closed_depth (scopes_of (steps_of t es)) (scopes_of (steps_of c.self.inside.current (reverse c.self.inside.steps.items))) c.self.inside.depth
            (ap (λ s. drop 1 (scopes_of (steps_of t s))) (sym now) ∙ c.steps.invariant.scope) c.self.invariant.depths);
        hides = subst (λ s. Hides (steps_of t s)) now c.steps.invariant.hides;
        places = let p = subst (HavePlaces t) now c.steps.invariant.places in p.1;
      }
  | in_default w ↦
      let t = c.steps.self-inside.current in
      let old : c.steps.self-inside.steps.items ≡ [] = none_left c.steps.self-inside.steps.items (sym c.steps.self-inside.steps.ok.0 ∙ w.in_default.ensures.cases.0) in
      let new : c.pop.new.self.items ≡ [] = none_left c.pop.new.self.items (sym c.pop.new.self.ok.0 ∙ w.in_default.ensures.cases.1) in
      let now : reverse c.steps.self-inside.steps.items ≡ reverse c.pop.new.self.items = ap reverse (old ∙ sym new) in
      record {
        names = subst (λ s. (n : Name) → visible n t ≡ held n (steps_of t s)) now c.steps.invariant.names;
        depths = c.saturating_sub-self-inside.ensures ∙ (ap (λ k. k - 1) c.steps.invariant.depth
            ∙ closed_depth (scopes_of (steps_of t (reverse c.pop.new.self.items))) (scopes_of (steps_of c.self.inside.current (reverse c.self.inside.steps.items))) c.self.inside.depth
            (ap (λ s. scopes_of (steps_of t (reverse s))) new ∙ (ap (λ s. drop 1 (scopes_of (steps_of t (reverse s)))) (sym old) ∙ c.steps.invariant.scope)) c.self.invariant.depths);
        hides = subst (λ s. Hides (steps_of t s)) now c.steps.invariant.hides;
        places = subst (HavePlaces t) now c.steps.invariant.places;
      }
]
