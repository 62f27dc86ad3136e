use Rattle.std.proofs.Common.{◌≡◌, ◌≤◌, ◌∙◌, ◌+◌, ap, reverse, length, arith, length-append, ◌∷◌, []}
use Rattle.std.proofs.lemmas.List.{length-reverse}
use Rattle.xmp_scopes.specs.declared.scopes.Entry.TheVariants.{Opened}
use Rattle.xmp_scopes.specs.Log.{steps_of, scopes_of}
use Rattle.xmp_scopes.proofs.Undo.{depth_length}
use Rattle.xmp_scopes.proofs.Places.{length-steps_of}
use Rattle.xmp_scopes.proofs.scopes.Scopes.open.Goals as goal

pub overflow_add-self : goal.overflow_add-self
overflow_add-self g c =
    let steps = steps_of c.self.inside.current (reverse c.self.inside.steps.items) in
    let within : length (scopes_of steps) ≤ length steps = depth_length steps in
    let back : length steps ≡ length c.self.inside.steps.items = length-steps_of c.self.inside.current (reverse c.self.inside.steps.items) ∙ length-reverse c.self.inside.steps.items in
    let longer : length c.push.new.self.items ≡ length c.self.inside.steps.items + 1 = ap length c.in-Ok.ensures.items ∙ length-append c.self.inside.steps.items (Opened ∷ []) in
    omega (arith, c.self.invariant.depths)
