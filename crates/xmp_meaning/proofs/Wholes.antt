-- The part of a node that owns every iteration is the whole loop.
use Rattle.std.proofs.Common.{◌≡◌, Bool, true, List, [], ◌∷◌, refl, ap, ◌∙◌}
use Rattle.xmp_prog.specs.declared.parts.ProgParts.{ProgParts}
use Rattle.xmp_prog.specs.declared.statements.LoopHead.{LoopHead}
use Rattle.xmp_prog.specs.declared.statements.LoopDirective.{LoopDirective}
use Rattle.xmp_prog.specs.declared.statements.Reduction.{Reduction}
use Rattle.xmp_meaning.specs.declared.ends.Flow.{Flow}
use Rattle.xmp_meaning.specs.declared.ends.Flow.TheVariants.{Next}
use Rattle.xmp_meaning.specs.Runs.{State, Step, Gave, Ended, Run, and_then, ◌>>=◌, pure}
use Rattle.xmp_meaning.specs.Blocks.{then_run, choose, turns}
use Rattle.xmp_meaning.specs.Context.{Context}
use Rattle.xmp_meaning.specs.Handlers.{Handlers}
use Rattle.xmp_meaning.specs.Loops.{entering, inside, step_up, nest}
use Rattle.xmp_meaning.specs.Parts.{begin, only, owns_iteration}
use Rattle.xmp_meaning.specs.Laws.{PartIsWhole}
use Rattle.xmp_meaning.proofs.Keeps.{Joins, then_kept, turns_kept}

module _ {X : Type 0} where
  -- two runs that do the same from every state
  abbrev pub Same : (A : Type 0) → Run X A → Run X A → Type 0
  Same A f g = (s : State X) → f s ≡ g s

  same_on : {A B : Type 0} (p q : Run X A) (f g : A → Run X B) → Same A p q → ((a : A) → Same B (f a) (g a)) → Same B (p >>= f) (q >>= g)
  same_on {A} {B} p q f g h i s = ap (λ r. and_then r f) (h s) ∙ at_step (q s)
    where
      at_step : (r : Step X A) → and_then r f ≡ and_then r g
      at_step (Gave a t) = i a t
      at_step (Ended e t) = refl

  same_joins : Joins (State X) (State X) Same
  same_joins = record { gives = λ a s. refl; goes_on = λ {A} {B} {p} {q} {f} {g} h i. same_on p q f g h i }

  only_all : (test : State X → Bool) (body : Run X Flow) → ((s : State X) → test s ≡ true) → Same Flow (only test body) body
  only_all test body all s = ap (λ b. choose b body (pure Next) s) (all s)

  begins_as_it_is : (p : ProgParts) (rs : List Reduction) (s : State X) → begin p 0 rs s ≡ Gave tt s
  begins_as_it_is p [] s = refl
  begins_as_it_is p (r ∷ rs) s = begins_as_it_is p rs s

  -- a nest round bodies that do the same
  nest_same : (h : Handlers X) (cx : Context) (heads : List LoopHead) (body body' : Run X Flow)
      → Same Flow body body' → Same Flow (nest h cx heads body) (nest h cx heads body')
  nest_same h cx [] body body' r = r
  nest_same h cx (head ∷ heads) body body' r = same_on (entering h cx head) (entering h cx head)
      (λ n. turns n (inside h cx head) (then_run (nest h cx heads body) (step_up head)))
      (λ n. turns n (inside h cx head) (then_run (nest h cx heads body') (step_up head))) (λ s. refl)
      (λ n. turns_kept same_joins n (λ s. refl) (then_kept same_joins (nest_same h cx heads body body' r) (λ s. refl)))

  pub part_is_whole : (p : ProgParts) (h : Handlers X) (cx : Context) (directive : LoopDirective) (body : Run X Flow) → PartIsWhole X p h cx directive body
  part_is_whole p h cx directive body all s =
      ap (λ r. and_then r (λ u. nest h cx directive.nest (only (owns_iteration p directive 0) body))) (begins_as_it_is p directive.reductions s)
      ∙ nest_same h cx directive.nest (only (owns_iteration p directive 0) body) body (only_all (owns_iteration p directive 0) body all) s
