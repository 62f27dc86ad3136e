-- A set of nodes, step by step.
use Rattle.std.proofs.Common.{◌≡◌, ◌∙◌, sym, ap, ℕ, ℤ, List, Bool, length}
use Rattle.std.specs.Prelude.{⊤, ◌&&◌, ◌||◌, not, Option}
use Rattle.xmp_base.specs.declared.place.Place.{Place}
use Rattle.xmp_map.specs.declared.grid.NodeSet.{NodeSet}
use Rattle.xmp_syntax.specs.declared.directive.NodesSet.{NodesSet}
use Rattle.xmp_names.specs.declared.rules.Rule.TheVariants.{M8}
use Rattle.xmp_names.specs.declared.world.World.{World}
use Rattle.xmp_names.specs.Lists.{notation, parts}
use Rattle.xmp_names.specs.Walk.{Gave, and_then, ◌>>=◌, pure, each, judge, name_of, a_nodes}
use Rattle.xmp_directives.specs.Directives.{box_of, is_one, judged_set, match_nodes, nodes_sizes, piece_of, ranges, ranges_right, set_of}

-- Whether the ranges are right.
abbrev pub judged : Bool → List ℤ → List (ℤ × ℤ) → Bool
judged one sizes rs = ranges_right sizes rs && (not one || is_one rs)

-- What is left behind the pieces of a set.
pub judged_walk : (one : Bool) (word : Place) (number : Option ℕ) (sizes : List ℤ) (pieces : List (Option (ℤ × ℤ))) (rs : List (ℤ × ℤ)) (right : Bool) (made : NodeSet) (v : ⊤) (w w2 : World) →
    nodes_sizes number w ≡ Gave sizes w → rs ≡ ranges sizes pieces → right ≡ judged one sizes rs → judge right M8 word w ≡ Gave v w2 → made ≡ box_of sizes rs →
    judged_set one word number pieces w ≡ Gave made w2
judged_walk one word number sizes pieces rs right made v w w2 e r j k m =
    ap (λ s. and_then s (λ ss. judge (judged one ss (ranges ss pieces)) M8 word >>= (λ v. pure (box_of ss (ranges ss pieces))))) e
    ∙ (ap (λ b. and_then (judge b M8 word w) (λ v. pure (box_of sizes (ranges sizes pieces)))) (sym (j ∙ ap (judged one sizes) r))
    ∙ (ap (λ s. and_then s (λ v. pure (box_of sizes (ranges sizes pieces)))) k ∙ ap (λ n. Gave n w2) (sym (m ∙ ap (box_of sizes) r))))

pub set_walk : (one : Bool) (word : Place) (x : NodesSet) (number : Option ℕ) (pieces : List (Option (ℤ × ℤ))) (u : ⊤) (w w1 w2 w3 : World) →
    name_of a_nodes x.name w ≡ Gave number w1 → each (piece_of (notation x.pieces)) (parts x.pieces) w1 ≡ Gave pieces w2 →
    match_nodes number (notation x.pieces) (length pieces) x.name.at w2 ≡ Gave u w3 → set_of one word x w ≡ judged_set one word number pieces w3
set_walk one word x number pieces u w w1 w2 w3 e f g =
    ap (λ s. and_then s (λ n. each (piece_of (notation x.pieces)) (parts x.pieces) >>= (λ ps. match_nodes n (notation x.pieces) (length ps) x.name.at >>= (λ u. judged_set one word n ps)))) e
    ∙ (ap (λ s. and_then s (λ ps. match_nodes number (notation x.pieces) (length ps) x.name.at >>= (λ u. judged_set one word number ps))) f
    ∙ ap (λ s. and_then s (λ u. judged_set one word number pieces)) g)
