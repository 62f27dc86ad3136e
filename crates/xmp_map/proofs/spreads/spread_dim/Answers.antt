use Rattle.std.proofs.Common.{◌≡◌, ℕ, length, rules, refl, subst, Some}
use Rattle.std.specs.Prelude.{slice_index}
use Rattle.xmp_dist.specs.declared.form.Dist.{Dist}
use Rattle.xmp_dist.specs.Valid.{dim_fault}
use Rattle.xmp_map.proofs.SpreadLaws.{fault_chunk, fault_whole, grid_at, whole_unless}
use Rattle.xmp_map.proofs.spreads.spread_dim.Goals as goal
use Rattle.xmp_map.proofs.spreads.spread_dim.Goals.{in-Whole, in_default}

pub returns-in-Err-clause-fault : goal.returns-in-Err-clause-fault
returns-in-Err-clause-fault c =
    let l : length c.args.grid.now.sizes ≡ 3 = search rules in
    let g = grid_at c.args.grid.now c.args.axis l c.requires.axis in
    let f : dim_fault c.args.size c.match-dist.nodes c.args.dist ≡ Some c.in-Err.field-0 = c.in-Err.ensures.cause in
    elim c.match-dist.branch [
      | in-Whole w ↦
          let P : ℕ → Type 0 = λ n. dim_fault c.args.size n c.args.dist ≡ Some c.in-Err.field-0 in
          let Q : Dist → Type 0 = λ d. dim_fault c.args.size 1 d ≡ Some c.in-Err.field-0 in
          absurd (fault_whole c.args.size c.in-Err.field-0 c.requires.size (subst Q w.in-Whole.is (subst P w.nodes-is f)))
      | in_default w ↦
          let P : ℕ → Type 0 = λ n. dim_fault c.args.size n c.args.dist ≡ Some c.in-Err.field-0 in
          (fault_chunk c.args.size (slice_index c.args.grid.now.sizes c.args.axis) c.args.dist c.in-Err.field-0 c.requires.size g.0 g.1 (whole_unless c.args.dist w.in_default.not-Whole) (subst P w.nodes-is f), refl)
    ]
