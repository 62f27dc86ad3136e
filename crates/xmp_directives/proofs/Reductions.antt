-- One more reduction of a loop directive.
use Rattle.std.proofs.Common.{◌≡◌, ◌∙◌, ◌<◌, ◌+◌, ◌++◌, sym, ap, ℕ, List, length, drop, get_or}
use Rattle.xmp_num.specs.declared.types.RedOp.{RedOp}
use Rattle.xmp_prog.specs.declared.statements.Reduction as made
use Rattle.xmp_syntax.specs.declared.directive.Reduction.{Reduction}
use Rattle.xmp_names.specs.declared.world.World.{World}
use Rattle.xmp_names.specs.Lists.{listed}
use Rattle.xmp_names.specs.Walk.{Gave, and_then, each}
use Rattle.xmp_directives.specs.Directives.{operation_of, reduction_name, reductions_of}
use Rattle.xmp_names.proofs.Steps.{unrolled}

pub reductions_step : (done next : List made.Reduction) (rs : List Reduction) (i : ℕ) (r : Reduction) (op : RedOp) (more : List made.Reduction) (w after : World) →
    i < length rs → r ≡ get_or rs i r → op ≡ operation_of r.list.item.0 → each (reduction_name op) (listed r.list.item.2) w ≡ Gave more after → next ≡ done ++ more →
    reductions_of done (drop i rs) w ≡ reductions_of next (drop (i + 1) rs) after
reductions_step done next rs i r op more w after h is o e n =
    ap (λ l. reductions_of done l w) (unrolled rs i r h is)
    ∙ (ap (λ p. and_then (each (reduction_name p) (listed r.list.item.2) w) (λ m. reductions_of (done ++ m) (drop (i + 1) rs))) (sym o)
    ∙ (ap (λ s. and_then s (λ m. reductions_of (done ++ m) (drop (i + 1) rs))) e ∙ ap (λ d. reductions_of d (drop (i + 1) rs) after) (sym n)))
