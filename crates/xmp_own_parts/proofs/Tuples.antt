-- A node's own tuples, as its nest has them.
use Rattle.std.proofs.Common.{◌≡◌, ◌++◌, ℕ, ℤ, pos, Bool, false, List, [], ◌∷◌, length, map, drop, Some, None, refl, sym, subst, ap, ◌∙◌}
use Rattle.std.specs.Prelude.{slice_get, unwrap_or, IfOk, Result}
use Rattle.xmp_base.specs.declared.NoMemory.{NoMemory}
use Rattle.std.specs.List.{filter}
use Rattle.std.proofs.Math.Path.{fun_ext}
use Rattle.xmp_map.specs.declared.template.Template.{Template}
use Rattle.xmp_map.specs.RowMajor.{unravel}
use Rattle.xmp_map.specs.Spread.{owns_point}
use Rattle.xmp_prog.specs.declared.parts.ProgParts.{ProgParts}
use Rattle.xmp_prog.specs.declared.statements.LoopDirective.{LoopDirective}
use Rattle.xmp_prog.specs.declared.statements.LoopHead.{LoopHead}
use Rattle.xmp_prog.specs.Statements.{indices_of}
use Rattle.xmp_meaning.specs.Parts.{owns_positions}
use Rattle.xmp_meaning.specs.declared.ends.Flow.{Flow}
use Rattle.xmp_meaning.specs.declared.ends.Halt.{Halt}
use Rattle.xmp_meaning.specs.Runs.{State, Run, Does}
use Rattle.xmp_meaning_laws.specs.Laws.{scalar_in}
use Rattle.xmp_meaning_laws.specs.Tuples.{tuples, position_in, owns_tuple, for_each}
use Rattle.xmp_nodes.specs.Nodes.{bounded}
use Rattle.xmp_nodes.specs.Parts.{own_tuples}
use Rattle.xmp_own_parts.specs.declared.nest.Nest.{Nest}
use Rattle.xmp_own_parts.specs.Nests.{chosen_or, reading, owns_in, own_from}
use Rattle.xmp_own_parts.specs.Walks.{IsNestAt}

none_chosen : (slots : List ℕ) (old : ℤ) (slot : ℕ) → chosen_or slots [] old slot ≡ old
none_chosen [] old slot = refl
none_chosen (i ∷ slots) old slot = refl

map_same : (ts : List (List ℤ)) → map (λ rest. [] ++ rest) ts ≡ ts
map_same [] = refl
map_same (t ∷ ts) = ap (λ xs. t ∷ xs) (map_same ts)

-- nothing is chosen at first
pub tuples_of_nest : (p : ProgParts) (t : Template) (directive : LoopDirective) (node : ℕ) (s : State (Unit {0})) (nest : Nest) → slice_get p.templates directive.template ≡ Some t
    → IsNestAt p t directive node s.scalars nest → own_from nest [] (drop 0 nest.heads.now) ≡ own_tuples p directive node s
unfolding own_from
tuples_of_nest p t directive node s nest there is =
    ap (filter (owns_in nest)) (map_same (tuples (reading nest []) nest.heads.now))
    ∙ ap (λ (hs : List LoopHead). filter (owns_in nest) (tuples (reading nest []) hs)) is.heads
    ∙ ap (λ (r : ℕ → ℤ). filter (owns_in nest) (tuples r directive.nest)) (fun_ext reads)
    ∙ ap (λ (f : List ℤ → Bool). filter f (tuples (scalar_in s) directive.nest)) (fun_ext owns)
  where
    reads : (slot : ℕ) → reading nest [] slot ≡ scalar_in s slot
    reads slot = none_chosen (indices_of nest.heads.now) (unwrap_or (slice_get nest.scalars.now slot) (pos 0)) slot ∙ ap (λ xs. unwrap_or (slice_get xs slot) (pos 0)) is.scalars

    owns : (vs : List ℤ) → owns_in nest vs ≡ owns_tuple p directive node vs
    owns vs =
        ap (λ at. owns_point at nest.template.now.spread (map (position_in (indices_of nest.heads.now) vs) nest.points.now)) is.at
        ∙ ap (λ (x : Template). owns_point (unravel p.grid.sizes node) x.spread (map (position_in (indices_of nest.heads.now) vs) nest.points.now)) is.template
        ∙ ap (λ (hs : List LoopHead). owns_point (unravel p.grid.sizes node) t.spread (map (position_in (indices_of hs) vs) nest.points.now)) is.heads
        ∙ ap (λ qs. owns_point (unravel p.grid.sizes node) t.spread (map (position_in (indices_of directive.nest) vs) qs)) is.points
        ∙ ap (λ o. owns_positions p node o (map (position_in (indices_of directive.nest) vs) directive.points)) (sym there)

none_pass : (ts : List (List ℤ)) → filter (λ x. false) ts ≡ []
none_pass [] = refl
none_pass (t ∷ ts) = none_pass ts

-- without a template no node owns a tuple
pub no_template : (p : ProgParts) (directive : LoopDirective) (node : ℕ) (s : State (Unit {0})) → slice_get p.templates directive.template ≡ None → own_tuples p directive node s ≡ []
no_template p directive node s none =
    ap (λ o. filter (λ vs. owns_positions p node o (map (position_in (indices_of directive.nest) vs) directive.points)) (tuples (scalar_in s) directive.nest)) none
    ∙ none_pass (tuples (scalar_in s) directive.nest)

-- the count from nothing chosen is the count of all
pub counted_all : (nest : Nest) (chosen : List ℤ) (all : List (List ℤ)) (r : Result ℕ NoMemory) → chosen ≡ [] → own_from nest [] (drop 0 nest.heads.now) ≡ all
    → IfOk r (λ n. n ≡ bounded (length (own_from nest chosen (drop (length chosen) nest.heads.now)))) → IfOk r (λ n. n ≡ bounded (length all))
counted_all nest chosen all r none e h =
    let P : List ℤ → Type 0 = λ vs. IfOk r (λ n. n ≡ bounded (length (own_from nest vs (drop (length vs) nest.heads.now)))) in
    let Q : List (List ℤ) → Type 0 = λ ts. IfOk r (λ n. n ≡ bounded (length ts)) in
    subst Q e (subst P none h)

-- the same of what is done for each
pub done_all : (nest : Nest) (chosen : List ℤ) (all : List (List ℤ)) (slots : List ℕ) (body : Run (Unit {0}) Flow) (old new : State (Unit {0})) (r : Result Flow Halt) → chosen ≡ []
    → own_from nest [] (drop 0 nest.heads.now) ≡ all → indices_of nest.heads.now ≡ slots
    → Does (for_each (indices_of nest.heads.now) (own_from nest chosen (drop (length chosen) nest.heads.now)) body old) r new → Does (for_each slots all body old) r new
done_all nest chosen all slots body old new r none e i h =
    let P : List ℤ → Type 0 = λ vs. Does (for_each (indices_of nest.heads.now) (own_from nest vs (drop (length vs) nest.heads.now)) body old) r new in
    let Q : List (List ℤ) → Type 0 = λ ts. Does (for_each (indices_of nest.heads.now) ts body old) r new in
    let R : List ℕ → Type 0 = λ is. Does (for_each is all body old) r new in
    subst R i (subst Q e (subst P none h))
