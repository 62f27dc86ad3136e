-- The transfers of reflects and gmoves lie as their definitions say.
use Rattle.std.proofs.Common.{◌≡◌, ℕ, ℤ, List, [], ◌∷◌, refl, ap, zero-add}
use Rattle.std.specs.List.{range_with_len}
use Rattle.xmp_num.specs.Arithmetic.{wrap}
use Rattle.xmp_prog.specs.declared.parts.ProgParts.{ProgParts}
use Rattle.xmp_prog.specs.declared.statements.MoveSide.{MoveSide}
use Rattle.xmp_prog.specs.declared.statements.MoveSide.TheVariants as side
use Rattle.xmp_prog.specs.Fits.{node_count}
use Rattle.xmp_meaning.specs.declared.ends.Flow.TheVariants.{Next}
use Rattle.xmp_meaning.specs.Runs.{Gave}
use Rattle.xmp_meaning.specs.Blocks.{then_run}
use Rattle.xmp_meaning.specs.Declarations.{extents, home_of}
use Rattle.xmp_meaning.specs.Handlers.{Aim}
use Rattle.xmp_meaning.specs.Messages.{words_alone}
use Rattle.xmp_meaning.specs.Traffic.{node_beginning}
use Rattle.xmp_move.specs.Ways.{sends}
use Rattle.xmp_move.specs.Whole.{reflecting}
use Rattle.xmp_move.specs.Sides.{owns_cell, gives_cell, holds_cell, position, slot_in}
use Rattle.xmp_move.specs.Stores.{packed, unpacked_of}
use Rattle.xmp_move.specs.Kinds.{ways_of, pairs_of}
use Rattle.xmp_move.specs.Meant.{extents_in}
use Rattle.xmp_nodes.specs.Nodes.{store_at, all_do, say}
use Rattle.xmp_nodes.specs.Rows.{home_of_side, extents_of_side, type_of_side, row_of, with_row}
use Rattle.xmp_nodes.specs.Reflecting.{reflect_pairs, reflect_one}
use Rattle.xmp_nodes.specs.Moving.{move_ways, pairs_of_aim, move_all}
use Rattle.xmp_nodes.proofs.Each.{Alone}
use Rattle.xmp_exchanges.specs.declared.words.Place.TheVariants.{Row}
use Rattle.xmp_exchanges.specs.Places.{words_at, with_words}
use Rattle.xmp_exchanges.specs.Transfers.{exchanged_by, exchanged}
use Rattle.xmp_exchanges.specs.Aims.{side_in, place_of, kind_of, move_of, reflect_of}

-- ---- a reflect

pub reflect_is : (p : ProgParts) (array : ℕ) → exchanged p (reflect_of p array) [] ≡ reflect_one p array
reflect_is p array =
    ap (λ ways. exchanged_by p ways (reflect_pairs p array) (λ v. v) (Row array) (Row array))
    (λ i. reflecting (holds_cell (home_of p array)) (owns_cell (home_of p array)) (λ node cell. zero-add (position (home_of p array) (extents p array) node cell) i))

-- ---- a gmove

module _ (p : ProgParts) where
  pub home_is : (m : MoveSide) → (side_in p m).home ≡ home_of_side p m
  home_is (side.Scalar name) = refl
  home_is (side.Array name parts) = refl

  pub extents_is : (m : MoveSide) → (side_in p m).extents ≡ extents_of_side p m
  extents_is (side.Scalar name) = refl
  extents_is (side.Array name parts) = refl

  pub extents_meant : (m : MoveSide) → (side_in p m).extents ≡ extents_in p m
  extents_meant (side.Scalar name) = refl
  extents_meant (side.Array name parts) = refl

  slot_is : (m : MoveSide) → slot_in (side_in p m) ≡ position (home_of_side p m) (extents_of_side p m)
  slot_is (side.Scalar name) = λ i node cell. zero-add (position (home_of_side p (side.Scalar name)) [] node cell) i
  slot_is (side.Array name parts) = λ i node cell. zero-add (position (home_of p name.number) (extents p name.number) node cell) i

  row_is : (m : MoveSide) (s : Alone) → words_at (place_of m) s ≡ row_of m s
  row_is (side.Scalar name) s = refl
  row_is (side.Array name parts) s = refl

  put_is : (m : MoveSide) (row : List ℤ) (s : Alone) → with_words (place_of m) row s ≡ with_row m row s
  put_is (side.Scalar name) [] s = refl
  put_is (side.Scalar name) (v ∷ vs) s = refl
  put_is (side.Array name parts) row s = refl

  module _ (target source : MoveSide) where
    ways_is : ways_of (kind_of p target source) ≡ move_ways p target source
    ways_is = λ i. record {
      needs = owns_cell (home_is target i);
      gives = gives_cell (home_is source i);
      into = slot_is target i;
      out_of = slot_is source i;
    }

    pub move_is : (args : List ℤ) (a : Aim) → pairs_of (kind_of p target source) args ≡ pairs_of_aim p target source a
        → exchanged p (move_of p target source) args ≡ move_all p target source a
    move_is args a same = λ i w.
        then_run (say (λ x from to. words_alone (packed (row_is source (store_at (node_beginning p 0 0) w from) i) (sends (ways_is i) (same i) from to))))
        (all_do Next (λ node s. Gave Next (put_is target (unpacked_of (wrap (type_of_side p target)) (ways_is i) (same i)
        (λ k. row_is source (store_at (node_beginning p 0 0) w k) i) (row_is target (store_at (node_beginning p 0 0) w node) i) node (range_with_len 0 (node_count p))) s i))) w
