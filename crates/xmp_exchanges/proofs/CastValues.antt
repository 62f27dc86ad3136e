-- A bcast by the members of its set and its source's values is the definition's.
use Rattle.std.proofs.Common.{◌≡◌, ◌<◌, ◌==◌, ◌∙◌, if◌then◌else◌, ℕ, ℤ, Bool, false, List, [], map, Some, sym, ap}
use Rattle.std.specs.Prelude.{slice_get, unwrap_or}
use Rattle.std.specs.List.{range_with_len}
use Rattle.xmp_map.specs.declared.grid.NodeSet.{NodeSet}
use Rattle.xmp_prog.specs.declared.parts.ProgParts.{ProgParts}
use Rattle.xmp_prog.specs.declared.statements.Name.{Name}
use Rattle.xmp_prog.specs.Fits.{node_count}
use Rattle.xmp_prog.specs.NodeSets.{has_node}
use Rattle.xmp_prog.specs.Statements.{slots_of_names}
use Rattle.xmp_meaning.specs.declared.ends.Flow.TheVariants.{Next}
use Rattle.xmp_meaning.specs.Exchanges.{Broadcast, values_of}
use Rattle.xmp_meaning.specs.LoopEnds.{set_all}
use Rattle.xmp_meaning.specs.TaskEnds.{leader}
use Rattle.xmp_meaning.specs.Messages.{words_sent, words_alone, message, said}
use Rattle.xmp_meaning.specs.Traffic.{node_beginning}
use Rattle.xmp_nodes.specs.Nodes.{Nodes, all_do, saying}
use Rattle.xmp_nodes.specs.Casting.{cast_values, cast_all}
use Rattle.xmp_nodes.proofs.Each.{Alone, ranged_at, store_is}
use Rattle.xmp_exchanges.specs.Casts.{cast_said}
use Rattle.xmp_exchanges.specs.Told.{AreMany}
use Rattle.xmp_exchanges.proofs.SaidWords.{said_same}

pub values_there : (p : ProgParts) (variables : List Name) (set : NodeSet) (w : Nodes) (s : Alone) → slice_get w.stores (leader p set) ≡ Some s
    → values_of s (slots_of_names variables) ≡ cast_values p variables set w
values_there p variables set w s there =
    ap (λ (n : Alone). values_of n (slots_of_names variables)) (sym (store_is (node_beginning p 0 0) w (leader p set) s there))

module _ (p : ProgParts) (variables : List Name) (set : NodeSet) (w : Nodes) (members : List Bool) (values : List ℤ)
    (many : AreMany w (node_count p)) (are : members ≡ map (has_node p.grid set) (range_with_len 0 (node_count p)))
    (values_is : values ≡ cast_values p variables set w) where
  member_is : (from : ℕ) → from < node_count p → unwrap_or (slice_get members from) false ≡ has_node p.grid set from
  member_is from l = ap (λ ms. unwrap_or (slice_get ms from) false) are ∙ ap (λ o. unwrap_or o false) (ranged_at (has_node p.grid set) (node_count p) from l)

  said_is : (from to : ℕ) → from < node_count p → to < node_count p → (from == to) ≡ false
      → words_sent (cast_said members values from to) ≡ words_sent (message p (Broadcast variables set (cast_values p variables set w)) from to)
  said_is from to lf lt apart =
      (λ i. words_sent (words_alone (if member_is from lf i then values_is i else [])))
      ∙ sym (ap (λ b. words_sent (if b then words_alone [] else said p (Broadcast variables set (cast_values p variables set w)) from to)) apart)

  pub cast_is : all_do Next (λ node. set_all variables values) (saying (cast_said members values) w) ≡ cast_all p variables set w
  cast_is = λ i. all_do Next (λ node. set_all variables (values_is i))
      (said_same w (node_count p) (cast_said members values) (λ from to. message p (Broadcast variables set (cast_values p variables set w)) from to) many said_is i)
