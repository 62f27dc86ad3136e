-- The parts of a loop directive's events by the lists and tables of the code are those by the directive and its body.
use Rattle.std.proofs.Common.{◌≡◌, sym, IfOk, Result, eqb, false, ◌∙◌, refl, ap, ℕ, Bool, true, ◌++◌, ◌∷◌, [], List, Some}
use Rattle.std.proofs.Math.Path.{fun_ext}
use Rattle.std.proofs.lemmas.Result.{IfOk-weaker}
use Rattle.std.specs.Prelude.{◌||◌}
use Rattle.std.specs.List.{filter}
use Rattle.xmp_prog.specs.Numbers.{is_in}
use Rattle.xmp_flow.specs.Statements.{events_of}
use Rattle.xmp_paths.specs.Plans.{Plan, loop, in_order}
use Rattle.xmp_paths.specs.declared.event.Event.{Event}
use Rattle.xmp_prog.specs.Statements.{indices_of}
use Rattle.xmp_prog.specs.declared.statements.LoopDirective.{LoopDirective}
use Rattle.xmp_prog.specs.declared.statements.Stmt.{Stmt}
use Rattle.xmp_meaning.specs.Writes.{scalars_written}
use Rattle.xmp_paths.specs.Flows.{plan_of}
use Rattle.xmp_paths.specs.declared.event.Flow.{Flow}
use Rattle.xmp_loops.specs.Objects.{all_nodes}
use Rattle.xmp_flow.specs.Setting.{Setting, wrong_where}
use Rattle.xmp_flow.specs.LoopEvents.{at_bounds, loop_events, nest_events, reduction_events, within}
use Rattle.xmp_loops.specs.Roles.{before_iterations, is_own, own_scalars, role_in, scalars_of}
use Rattle.xmp_flow.specs.Ready.{IsReady, before_turns, ends_with, turn_of}
use Rattle.xmp_loops.specs.Tables.{role_at}
use Rattle.xmp_flow.specs.declared.ready.Ready.{Ready}
use Rattle.xmp_loops.specs.declared.role.Role.{Role}

-- a setting inside a directive, with these roles and written arrays
abbrev pub inside_of : Setting → LoopDirective → (ℕ → Role) → (ℕ → Bool) → Setting
inside_of s d f g = record s { nodes = all_nodes s.program; inside = true; over = Some d; roles = f; written = g }

-- a set that nothing was in before
pub in_either : (a : List ℕ) (m : ℕ) → (is_in a m || is_in [] m) ≡ is_in a m
in_either [] m = refl
in_either (k ∷ ks) m = or_nothing (eqb k m || is_in ks m)
  where
    or_nothing : (b : Bool) → (b || false) ≡ b
    or_nothing true = refl
    or_nothing false = refl

module _ (r : Ready) (d : LoopDirective) (body : Stmt) (q : IsReady r d body) where
  pub own_ready : filter (λ slot. is_own (role_at r.roles slot)) r.scalars ≡ own_scalars d body
  own_ready =
      ap (λ (l : List ℕ). filter (λ slot. is_own (role_at r.roles slot)) l) q.scalars
      ∙ ap (λ (f : ℕ → Role). filter (λ slot. is_own (f slot)) (scalars_written body)) (fun_ext q.roles)

  pub within_ready : (s : Setting) → inside_of s d (role_at r.roles) (is_in r.written) ≡ within d body s
  within_ready s =
      ap (λ (f : ℕ → Role). inside_of s d f (is_in r.written)) (fun_ext q.roles)
      ∙ ap (λ (g : ℕ → Bool). inside_of s d (role_in d body) g) (fun_ext q.written)

  pub bounds_ready : (s : Setting) → inside_of s d (role_at r.before) (is_in r.written) ≡ at_bounds d body s
  bounds_ready s =
      ap (λ (f : ℕ → Role). inside_of s d f (is_in r.written)) (fun_ext q.before)
      ∙ ap (λ (g : ℕ → Bool). inside_of s d (λ slot. before_iterations (role_in d body slot)) g) (fun_ext q.written)

  pub around_ready : (s : Setting) (own : List ℕ) (parts : List (Plan Event)) (turn last events : Plan Event) →
      own ≡ filter (λ slot. is_own (role_at r.roles slot)) r.scalars → parts ≡ before_turns s d body →
      turn ≡ turn_of s own events → last ≡ in_order (ends_with s d own r.arrays) →
      in_order (parts ++ loop turn ∷ last ∷ []) ≡ loop_events d body (λ x. events) s
  around_ready s own parts turn last events o p t e =
      ap (λ l. in_order (l ++ loop turn ∷ last ∷ [])) p
      ∙ (ap (λ x. in_order (before_turns s d body ++ loop x ∷ last ∷ [])) (t ∙ ap (λ l. turn_of s l events) (o ∙ own_ready))
      ∙ ap (λ x. in_order (before_turns s d body ++ loop (turn_of s (own_scalars d body) events) ∷ x ∷ []))
      (e ∙ (ap (λ l. in_order (ends_with s d l r.arrays)) (o ∙ own_ready) ∙ ap (λ l. in_order (ends_with s d (own_scalars d body) l)) q.arrays)))

  pub head_ready : (s b : Setting) (written : List ℕ) (wrong nest reductions : Plan Event) →
      written ≡ indices_of d.nest ++ r.scalars → b ≡ at_bounds d body s → wrong ≡ wrong_where s.inside 10 d.at →
      nest ≡ in_order (nest_events b [] written d.nest) → reductions ≡ in_order (reduction_events s [] d.reductions) →
      wrong ∷ nest ∷ reductions ∷ [] ≡ before_turns s d body
  head_ready s b written wrong nest reductions e k x n y =
      ap (λ p. p ∷ nest ∷ reductions ∷ []) x
      ∙ (ap (λ p. wrong_where s.inside 10 d.at ∷ p ∷ reductions ∷ [])
      (n ∙ (ap (λ z. in_order (nest_events z [] written d.nest)) k
      ∙ ap (λ l. in_order (nest_events (at_bounds d body s) [] l d.nest)) (e ∙ ap (λ l. indices_of d.nest ++ l) q.scalars)))
      ∙ ap (λ p. wrong_where s.inside 10 d.at ∷ in_order (nest_events (at_bounds d body s) [] (scalars_of d body) d.nest) ∷ p ∷ []) y)

  -- the events of a body where the code stands in it
  pub turn_ready : (s inner : Setting) (turn : Plan Event) → inner ≡ within d body s → turn ≡ events_of body inner →
      loop_events d body (λ x. turn) s ≡ loop_events d body (events_of body) s
  turn_ready s inner turn i e = ap (λ (t : Plan Event). loop_events d body (λ x. t) s) (e ∙ ap (λ x. events_of body x) i)

  -- the events of the directive, by what each call gave
  pub around_by : (s : Setting) (own arrays : List ℕ) (parts : List (Plan Event)) (turns events flow : Plan Event) →
      own ≡ own_scalars d body → parts ≡ before_turns s d body → turns ≡ loop (turn_of s own events) → arrays ≡ r.arrays →
      flow ≡ in_order (parts ++ turns ∷ in_order (ends_with s d own arrays) ∷ []) → flow ≡ loop_events d body (λ x. events) s
  around_by s own arrays parts turns events flow o p t a f =
      f ∙ (ap (λ x. in_order (parts ++ x ∷ in_order (ends_with s d own arrays) ∷ [])) t
      ∙ (ap (λ l. in_order (parts ++ loop (turn_of s own events) ∷ in_order (ends_with s d own l) ∷ [])) a
      ∙ around_ready s own parts (turn_of s own events) (in_order (ends_with s d own r.arrays)) events (o ∙ sym own_ready) p refl refl))

  -- the events of a directive, from those of its body where the code stands in it
  pub directive_by : {E : Type 0} (s bounds inner : Setting) (turn : Plan Event) (result : Result Flow E) →
      bounds ≡ inside_of s d (role_at r.before) (is_in r.written) → inner ≡ inside_of s d (role_at r.roles) (is_in r.written) →
      turn ≡ events_of body inner →
      IfOk result (λ flow. (x : Stmt) → IsReady r d x → bounds ≡ at_bounds d x s → plan_of flow ≡ loop_events d x (λ y. turn) s) →
      IfOk result (λ flow. plan_of flow ≡ loop_events d body (events_of body) s)
  directive_by s bounds inner turn result b i t =
      IfOk-weaker result _ _ (λ flow f. f body q (b ∙ bounds_ready s) ∙ turn_ready s inner turn (i ∙ within_ready s) t)
