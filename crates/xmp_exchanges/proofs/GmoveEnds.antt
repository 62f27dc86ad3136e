-- A gmove whose numbers every node finds is the definition's.
use Rattle.std.proofs.Common.{◌≡◌, ◌<◌, ◌∙◌, ℕ, ℤ, List, [], map, length, None, Err, refl, sym, ap, subst}
use Rattle.std.specs.List.{zip}
use Rattle.xmp_map.specs.RowMajor.{unravel}
use Rattle.xmp_prog.specs.declared.parts.ProgParts.{ProgParts}
use Rattle.xmp_prog.specs.declared.statements.MoveSide.{MoveSide}
use Rattle.xmp_meaning.specs.declared.ends.End.{End}
use Rattle.xmp_meaning.specs.declared.ends.Halt.{Halt}
use Rattle.xmp_meaning.specs.declared.ends.Halt.TheVariants as halt
use Rattle.xmp_meaning.specs.Runs.{Gave, Ended, and_then, Does}
use Rattle.xmp_meaning.specs.Handlers.{Aim, erased}
use Rattle.xmp_meaning.specs.Sections.{aim}
use Rattle.xmp_meaning.specs.Traffic.{node_context}
use Rattle.xmp_move.specs.Faults.{move_fault}
use Rattle.xmp_move.specs.Kinds.{numbers_of, pairs_of}
use Rattle.xmp_move.specs.Laid.{IsLaidOut}
use Rattle.xmp_move.specs.Numbers.{target_chosen, source_chosen}
use Rattle.xmp_move.proofs.Assigning.{aims_are_pairs, plans_are_good}
use Rattle.xmp_nodes.specs.Nodes.{Nodes, all_do}
use Rattle.xmp_nodes.specs.Rows.{type_of_side}
use Rattle.xmp_nodes.specs.Moving.{pairs_of_aim, move_all, gmove_all}
use Rattle.xmp_exchanges.specs.declared.transfer.Transfer.{Transfer}
use Rattle.xmp_exchanges.specs.Aims.{side_in, kind_of, move_of, aimed}
use Rattle.xmp_exchanges.specs.Transfers.{exchanged}
use Rattle.xmp_exchanges.proofs.AllNodes.{all_made}
use Rattle.xmp_exchanges.proofs.SidesMade.{extents_is, move_is}
use Rattle.xmp_exchanges.proofs.AimsFound.{found, aim_found}

module _ (p : ProgParts) (input : List ℕ) (target source : MoveSide) (laid : IsLaidOut (kind_of p target source) 0) (none : List ℤ) where
  abbrev aims : List ℤ → Aim
  aims args = found p target source laid.parts laid.sections (node_context p 0 input) refl args

  -- every node's aim is made of its numbers
  all_aims : (w : Nodes) → 0 < length w.stores
      → all_do (record { targets = []; sources = [] }) (λ node. aim erased (node_context p node input) target source) w
      ≡ and_then (all_do none (λ node. aimed (kind_of p target source) (node_context p node input) target source) w) (λ args v. Gave (aims args) v)
  all_aims w some =
      all_made aims (λ node. aimed (kind_of p target source) (node_context p node input) target source) (λ node. aim erased (node_context p node input) target source)
      (λ k s. aim_found p target source laid.parts laid.sections (node_context p k input) refl s) none (record { targets = []; sources = [] }) w some

  pairs_are : (args : List ℤ) → length args ≡ numbers_of (kind_of p target source) → move_fault (kind_of p target source) args ≡ None
      → pairs_of (kind_of p target source) args ≡ pairs_of_aim p target source (aims args)
  pairs_are args many good =
      let fine = plans_are_good (side_in p target) (side_in p source) (type_of_side p target) args 0 laid many good in
      sym (aims_are_pairs (side_in p target).extents (side_in p source).extents (target_chosen (side_in p target) args) (source_chosen (side_in p target) (side_in p source) args) fine)
      ∙ (λ i. zip (map (unravel (extents_is p target i)) (aims args).targets) (map (unravel (extents_is p source i)) (aims args).sources))

  -- where the numbers are found and good, the transfer is what is left of the gmove
  pub gmove_goes_on : (w v : Nodes) (args : List ℤ) → 0 < length w.stores
      → all_do none (λ node. aimed (kind_of p target source) (node_context p node input) target source) w ≡ Gave args v
      → length args ≡ numbers_of (kind_of p target source) → move_fault (kind_of p target source) args ≡ None
      → gmove_all p input target source w ≡ exchanged p (move_of p target source) args v
  gmove_goes_on w v args some gave many good =
      ap (λ r. and_then r (move_all p target source)) (all_aims w some ∙ ap (λ r. and_then r (λ args v. Gave (aims args) v)) gave)
      ∙ ap (λ run. run v) (sym (move_is p target source args (aims args) (pairs_are args many good)))

  -- and where node 0 traps, the gmove does
  pub gmove_ends : (w v : Nodes) (e : End) → 0 < length w.stores
      → all_do none (λ node. aimed (kind_of p target source) (node_context p node input) target source) w ≡ Ended e v
      → gmove_all p input target source w ≡ Ended e v
  gmove_ends w v e some ended =
      ap (λ r. and_then r (move_all p target source)) (all_aims w some ∙ ap (λ r. and_then r (λ args v. Gave (aims args) v)) ended)

  gmove_halts : (w v : Nodes) (h : Halt) → 0 < length w.stores
      → Does (all_do none (λ node. aimed (kind_of p target source) (node_context p node input) target source) w) (Err h) v
      → Does (gmove_all p input target source w) (Err h) v
  gmove_halts w v (halt.End e) some d = gmove_ends w v e some d
  gmove_halts w v halt.NoMemory some d = tt

-- the same of the transfer that the code has
module _ (p : ProgParts) (input : List ℕ) (target source : MoveSide) (t : Transfer) (is : t ≡ move_of p target source) (laid : IsLaidOut t.kind 0) (none : List ℤ) where
  kind_is : t.kind ≡ kind_of p target source
  kind_is = ap (λ (t : Transfer). t.kind) is

  laid_out : IsLaidOut (kind_of p target source) 0
  laid_out = subst (λ k. IsLaidOut k 0) kind_is laid

  found_by : (w : Nodes) → all_do none (λ node. aimed t.kind (node_context p node input) target source) w
      ≡ all_do none (λ node. aimed (kind_of p target source) (node_context p node input) target source) w
  found_by w = ap (λ k. all_do none (λ node. aimed k (node_context p node input) target source) w) kind_is

  pub gmove_done : (w v : Nodes) (args l : List ℤ) → 0 < length w.stores → l ≡ args
      → all_do none (λ node. aimed t.kind (node_context p node input) target source) w ≡ Gave args v
      → (length l ≡ numbers_of t.kind) × (move_fault t.kind l ≡ None)
      → exchanged p t l v ≡ gmove_all p input target source w
  gmove_done w v args l some same gave good =
      (λ i. exchanged p (is i) (same i) v)
      ∙ sym (gmove_goes_on p input target source laid_out none w v args some (sym (found_by w) ∙ gave)
      (subst (λ k. length args ≡ numbers_of k) kind_is (subst (λ l. length l ≡ numbers_of t.kind) same good.0))
      (subst (λ k. move_fault k args ≡ None) kind_is (subst (λ l. move_fault t.kind l ≡ None) same good.1)))

  pub gmove_halted : (w v : Nodes) (h : Halt) → 0 < length w.stores
      → Does (all_do none (λ node. aimed t.kind (node_context p node input) target source) w) (Err h) v
      → Does (gmove_all p input target source w) (Err h) v
  gmove_halted w v h some d = gmove_halts p input target source laid_out none w v h some (subst (λ r. Does r (Err h) v) (found_by w) d)
