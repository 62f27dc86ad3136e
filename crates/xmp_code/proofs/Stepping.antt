-- A step of a run that comes to a stop.
use Rattle.std.proofs.Common.{◌≡◌, ◌≢◌, ◌<◌, ℕ, Option, Some, None, IsSome, true≢false, refl, sym, ap, subst, ◌∙◌}
use Rattle.xmp_steps.specs.Machine.{Next, Goes, Stops, Stuck, Comes, Now, On, Is, left, within}
use Rattle.xmp_steps.specs.Stops.{at_stops, at_stuck, step_on}

pub unstuck : {S P : Type 0} (next : S → Next S P) (n : ℕ) (s : S) (o : Option (P × S)) → within next n s ≡ o → IsSome o → next s ≢ Stuck
unstuck next n s o e some stuck = true≢false (sym (subst IsSome (sym e ∙ at_stuck next n s stuck) some))

pub comes_then : {S P : Type 0} (next : S → Next S P) (t u s : S) → Comes next (Is t) s → next t ≡ Goes u → Comes next (Is u) s
comes_then next t u s (Now e) g = On (ap next e ∙ g) (Now refl)
comes_then next t u s (On e h) g = On e (comes_then next t u _ h g)

pub stands : {S P : Type 0} (next : S → Next S P) (n : ℕ) (s t : S) (p : P) (o : Option (P × S)) → within next n s ≡ o → next s ≡ Stops p → t ≡ s → o ≡ Some (p, t)
stands next n s t p o e h same = sym e ∙ at_stops next n s p h ∙ ap (λ x. Some (p, x)) (sym same)
