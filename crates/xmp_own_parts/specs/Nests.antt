-- The index tuples that a node owns, the outer indices chosen first (this project).
use Rattle.std.specs.Prelude.{◌≢◌, ℕ, ◌-◌, ◌==◌, ◌++◌, if◌then◌else◌, Bool, List, [], ◌∷◌, map, ℤ, pos, Option, Some, None, unwrap_or, slice_get}
use Rattle.std.specs.List.{filter, flat_map, range_with_len}
use Rattle.xmp_dist.specs.Owner.{owner}
use Rattle.xmp_map.specs.Spread.{owns_point}
use Rattle.xmp_prog.specs.declared.statements.LoopHead.{LoopHead}
use Rattle.xmp_prog.specs.Statements.{indices_of}
use Rattle.xmp_meaning_laws.specs.Tuples.{tuples, position_in}
use Rattle.xmp_own_parts.specs.declared.axis.Axis.{Axis}
use Rattle.xmp_own_parts.specs.declared.nest.Nest.{Nest}
use Rattle.xmp_own_parts.specs.declared.turns.Turns.{Turns}
use Rattle.xmp_own_parts.specs.Turns.{value_in_turn, position_in_turn}

-- a value, or what is chosen for a scalar where it is one of these indices: of several the innermost counts
abbrev pub chosen_or : List ℕ → List ℤ → ℤ → ℕ → ℤ
chosen_or (i ∷ is) (v ∷ vs) old slot = chosen_or is vs (if slot == i then v else old) slot
chosen_or [] vs old slot = old
chosen_or (i ∷ is) [] old slot = old

-- the values of the scalars, where the outer indices of a nest are chosen
abbrev pub reading : Nest → (chosen : List ℤ) → ℕ → ℤ
reading nest chosen slot = chosen_or (indices_of nest.heads.now) chosen (unwrap_or (slice_get nest.scalars.now slot) (pos 0)) slot

-- whether the node owns the point of a tuple
abbrev pub owns_in : Nest → List ℤ → Bool
owns_in nest tuple = owns_point nest.at nest.template.now.spread (map (position_in (indices_of nest.heads.now) tuple) nest.points.now)

-- the node's tuples that begin with the chosen values, from the loops in them
unfoldable pub own_from : Nest → (chosen : List ℤ) → List LoopHead → List (List ℤ)
own_from nest chosen heads = filter (owns_in nest) (map (λ rest. chosen ++ rest) (tuples (reading nest chosen) heads))

-- ---- turn by turn

-- the node's tuples from turn `k` of a loop on, with the loops in it
unfoldable pub own_turns : Nest → (chosen : List ℤ) → Turns → List LoopHead → (k : ℕ) → List (List ℤ)
own_turns nest chosen turns heads k =
    flat_map (λ j. own_from nest (chosen ++ value_in_turn turns j ∷ []) heads) (range_with_len k (turns.count - k))

-- in turn `k` another node owns the position along a dimension
abbrev pub IsPassed : Option Axis → Turns → (k : ℕ) → Type 0
IsPassed None turns k = ⊥
IsPassed (Some axis) turns k = owner axis.dim.now (position_in_turn turns axis.offset k) ≢ axis.node
