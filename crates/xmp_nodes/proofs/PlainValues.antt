-- The values of plain statements at a node: arguments, and the new value of an assignment.
use Rattle.std.proofs.Common.{◌≡◌, ◌++◌, ℕ, ℤ, Bool, true, List, [], ◌∷◌, map, Option, Some, None, refl, sym, ap, ◌∙◌}
use Rattle.std.specs.List.{AllByRecursion, list_all}
use Rattle.std.proofs.lemmas.List.Folds.{list_all-append}
use Rattle.xmp_num.specs.Arithmetic.{binary_of}
use Rattle.xmp_paths.specs.NodeSets.{has}
use Rattle.xmp_prog.specs.declared.expressions.Expr.{Expr}
use Rattle.xmp_prog.specs.declared.expressions.Access.{Access}
use Rattle.xmp_prog.specs.declared.statements.Compound.{Compound}
use Rattle.xmp_prog.specs.Terms.{terms_of, terms_of_list, terms_of_access}
use Rattle.xmp_flow.specs.Reads.{reads_of, reads_of_all, subscript_reads}
use Rattle.xmp_meaning.specs.declared.location.Location.TheVariants as location
use Rattle.xmp_meaning.specs.Cells.{read_in}
use Rattle.xmp_meaning.specs.Runs.{State, ◌>>=◌, scalar, or_trap}
use Rattle.xmp_meaning.specs.Context.{Context}
use Rattle.xmp_meaning.specs.Handlers.{erased}
use Rattle.xmp_meaning.specs.Blocks.{each}
use Rattle.xmp_meaning.specs.Expressions.{expr_of, cell_of}
use Rattle.xmp_meaning.specs.Assignments.{new_value}
use Rattle.xmp_meaning.specs.Exchanges.{Notes}
use Rattle.xmp_meaning.specs.Traffic.{node_context}
use Rattle.xmp_meaning_laws.specs.Laws.{calls_pass}
use Rattle.xmp_meaning_laws.specs.Agreement.{Spot, seen, seen_access, SpotIn, StepsMeet, IsKnown}
use Rattle.xmp_meaning_laws.proofs.Conditions.{all_apart}
use Rattle.xmp_meaning_laws.proofs.CountedLoops.{both_true}
use Rattle.xmp_meaning_laws.proofs.Twins.{meet_weaker}
use Rattle.xmp_nodes.proofs.Agrees.{Stand, Agrees}
use Rattle.xmp_nodes.proofs.Standing.{TermStands, IsSetting}
use Rattle.xmp_nodes.proofs.Leaves.{serial_cx}
use Rattle.xmp_nodes.proofs.MetEvents.{EachEvent, EachOf, IsFine}
use Rattle.xmp_nodes.proofs.Readers.{AreReaders, Same, Twin, Any, same_on, gives, or_trap_twin, scalar_twin, expr_twin, cell_twin, OfOneCell}
use Rattle.xmp_nodes.proofs.ElementCells.{known_in}
use Rattle.xmp_nodes.proofs.NodeExpressions.{couple, agreed, MayGet, Beside, readers, begins}
use Rattle.xmp_nodes.proofs.NodeReads.{seen_good, access_good, calls}

module _ (a : Stand) (is : IsSetting a) (there : has a.set.nodes a.node ≡ true) (input : List ℕ) (stale : ℕ → Bool) (s : State Notes) (n : State (Unit {0})) (g : Agrees a stale s n) where
  abbrev pub reading : AreReaders Notes (Unit {0}) (couple a is there input) erased erased (known_in a s) (MayGet a is there input stale) (Beside a is there input stale s n g)
  reading = readers a is there input stale s n g

  abbrev pub both : ℕ → Bool
  both = agreed a stale

  abbrev pub serial : Context
  serial = serial_cx a.program input

  abbrev pub alone : Context
  alone = node_context a.program a.node input

  -- expressions whose reads are fine
  pub value_twin : (e : Expr) → AllByRecursion (TermStands a.program) (terms_of a.program e) → EachEvent (IsFine a.node stale) (reads_of e a.set)
      → Twin reading both (IsKnown (seen (known_in a s) e).value) (expr_of erased serial e) (expr_of erased alone e)
  value_twin e terms h = let v : _ = seen_good a is there input stale s n g e terms h in expr_twin reading both e v.0 v.1

  -- the same with nothing said of the value
  any_twin : (e : Expr) → AllByRecursion (TermStands a.program) (terms_of a.program e) → EachEvent (IsFine a.node stale) (reads_of e a.set)
      → Twin reading both (Any reading) (expr_of erased serial e) (expr_of erased alone e)
  any_twin e terms h u w k =
      meet_weaker (Beside a is there input stale s n g both) (Beside a is there input stale s n g both) (Same reading both (IsKnown (seen (known_in a s) e).value)) (Same reading both (Any reading))
      (expr_of erased serial e u) (expr_of erased alone e w) (λ x y z. z) (λ v y x z b. (b.0, b.1, tt)) (value_twin e terms h u w k)

  pub value_calls : (e : Expr) → AllByRecursion (TermStands a.program) (terms_of a.program e) → EachEvent (IsFine a.node stale) (reads_of e a.set)
      → list_all (calls_pass (calls a is there input stale s n g)) (terms_of a.program e) ≡ true
  value_calls e terms h = (seen_good a is there input stale s n g e terms h).2

  pub each_twin : (es : List Expr) (vs : List ℤ) → AllByRecursion (TermStands a.program) (terms_of_list a.program es) → EachOf (IsFine a.node stale) (reads_of_all es a.set)
      → Twin reading both (Any reading) (each (map (expr_of erased serial) es) vs) (each (map (expr_of erased alone) es) vs)
  each_twin [] vs terms h = gives reading both (Any reading) vs tt
  each_twin (e ∷ es) vs terms h =
      let parts : _ = all_apart (TermStands a.program) (terms_of a.program e) (terms_of_list a.program es) terms in
      same_on reading both (IsKnown (seen (known_in a s) e).value) (Any reading) (expr_of erased serial e) (expr_of erased alone e)
      (λ v. each (map (expr_of erased serial) es) (vs ++ v ∷ [])) (λ v. each (map (expr_of erased alone) es) (vs ++ v ∷ []))
      (value_twin e parts.0 h.0) (λ v k. each_twin es (vs ++ v ∷ []) parts.1 h.1)

  pub each_calls : (es : List Expr) → AllByRecursion (TermStands a.program) (terms_of_list a.program es) → EachOf (IsFine a.node stale) (reads_of_all es a.set)
      → list_all (calls_pass (calls a is there input stale s n g)) (terms_of_list a.program es) ≡ true
  each_calls [] terms h = refl
  each_calls (e ∷ es) terms h =
      let parts : _ = all_apart (TermStands a.program) (terms_of a.program e) (terms_of_list a.program es) terms in
      list_all-append (calls_pass (calls a is there input stale s n g)) (terms_of a.program e) (terms_of_list a.program es)
      ∙ both_true (list_all (calls_pass (calls a is there input stale s n g)) (terms_of a.program e)) (list_all (calls_pass (calls a is there input stale s n g)) (terms_of_list a.program es))
      (value_calls e parts.0 h.0) (each_calls es parts.1 h.1)

  -- the new value of a scalar
  pub new_scalar : (slot : ℕ) (c : Option Compound) (e : Expr) → ((d : Compound) → c ≡ Some d → both slot ≡ true) → AllByRecursion (TermStands a.program) (terms_of a.program e)
      → EachEvent (IsFine a.node stale) (reads_of e a.set)
      → Twin reading both (Any reading) (new_value erased serial (location.Scalar slot) c e) (new_value erased alone (location.Scalar slot) c e)
  new_scalar slot None e old terms h = any_twin e terms h
  new_scalar slot (Some d) e old terms h =
      same_on reading both (IsKnown (known_in a s slot)) (Any reading) (scalar slot) (scalar slot)
      (λ old. expr_of erased serial e >>= (λ v. or_trap (binary_of d.op d.ty old v) d.at)) (λ old. expr_of erased alone e >>= (λ v. or_trap (binary_of d.op d.ty old v) d.at))
      (scalar_twin reading both slot (old d refl)) (λ x kx.
      same_on reading both (IsKnown (seen (known_in a s) e).value) (Any reading) (expr_of erased serial e) (expr_of erased alone e) (λ v. or_trap (binary_of d.op d.ty x v) d.at) (λ v. or_trap (binary_of d.op d.ty x v) d.at)
      (value_twin e terms h) (λ v kv. or_trap_twin reading both (Any reading) (binary_of d.op d.ty x v) d.at (λ z e. tt)))

  -- and of a cell, by its two numbers
  old_cell : (spot : Spot) (x y : ℤ) (t : State Notes) (m : State (Unit {0})) → OfOneCell reading both spot x y t m → SpotIn a.program 0 (MayGet a is there input stale) spot
      → Twin reading both (Any reading) (erased.get spot.array x) (erased.get spot.array y)
  old_cell spot x y t m o may u w k = (
    ap (read_in u.arrays spot.array) o.number ∙ ((reading.gets both u w spot.array o.xs o.image (may o.xs o.image o.may o.own) k).0 ∙ sym (ap (read_in w.arrays spot.array) o.other)),
    k,
    tt,
  )

  pub new_cell : (spot : Spot) (x y : ℤ) (t : State Notes) (m : State (Unit {0})) (c : Option Compound) (e : Expr) → OfOneCell reading both spot x y t m
      → ((d : Compound) → c ≡ Some d → SpotIn a.program 0 (MayGet a is there input stale) spot) → AllByRecursion (TermStands a.program) (terms_of a.program e) → EachEvent (IsFine a.node stale) (reads_of e a.set)
      → Twin reading both (Any reading) (new_value erased serial (location.Cell spot.array x) c e) (new_value erased alone (location.Cell spot.array y) c e)
  new_cell spot x y t m None e o old terms h = any_twin e terms h
  new_cell spot x y t m (Some d) e o old terms h =
      same_on reading both (Any reading) (Any reading) (erased.get spot.array x) (erased.get spot.array y)
      (λ old. expr_of erased serial e >>= (λ v. or_trap (binary_of d.op d.ty old v) d.at)) (λ old. expr_of erased alone e >>= (λ v. or_trap (binary_of d.op d.ty old v) d.at))
      (old_cell spot x y t m o (old d refl)) (λ z kz.
      same_on reading both (IsKnown (seen (known_in a s) e).value) (Any reading) (expr_of erased serial e) (expr_of erased alone e) (λ v. or_trap (binary_of d.op d.ty z v) d.at) (λ v. or_trap (binary_of d.op d.ty z v) d.at)
      (value_twin e terms h) (λ v kv. or_trap_twin reading both (Any reading) (binary_of d.op d.ty z v) d.at (λ z e. tt)))

  -- the cell of an element
  pub cell_meets : (e : Access) → AllByRecursion (TermStands a.program) (terms_of_access a.program e) → EachOf (IsFine a.node stale) (subscript_reads e a.set)
      → StepsMeet (Beside a is there input stale s n g both) (OfOneCell reading both (seen_access (known_in a s) e).spot) (cell_of erased serial e s) (cell_of erased alone e n)
  cell_meets e terms h = let v : _ = access_good a is there input stale s n g e terms h in cell_twin reading both e v.0 v.1 s n (begins a is there input stale s n g)
