use Rattle.std.proofs.Common.{◌≡◌, ◌++◌, drop}
use Rattle.std.specs.List.{flat_map}
use Rattle.xmp_spmd.proofs.words.push_arrays.Given as goal

-- what is added and what is left are the words of all
abbrev pub invariant-arrays : goal.invariant-arrays
invariant-arrays l = l.all.items ++ flat_map (λ row. row) (drop l.array l.state.arrays) ≡ l.fn.all.items ++ flat_map (λ row. row) l.fn.state.arrays
