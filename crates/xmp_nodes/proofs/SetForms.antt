-- Assignments to a reduction variable in its forms follow.
use Rattle.std.proofs.Common.{◌≡◌, ◌<◌, ◌&&◌, ◌⊎◌, inl, inr, ℕ, ℤ, Bool, true, false, List, [], ◌∷◌, length, Option, Some, None, refl, sym, subst, ap, ◌∙◌, if◌then◌else◌}
use Rattle.std.specs.Prelude.{slice_set}
use Rattle.std.specs.List.{AllByRecursion}
use Rattle.std.proofs.lemmas.Int.{int_wrap_fits}
use Rattle.xmp_base.specs.declared.place.Place.{Place}
use Rattle.xmp_num.specs.declared.types.RedOp.{RedOp}
use Rattle.xmp_num.specs.declared.types.BinOp.{BinOp}
use Rattle.xmp_num.specs.declared.types.Ty.{Ty}
use Rattle.xmp_num.specs.Arithmetic.{FitsType, width_of, wrap, binary_of, truth}
use Rattle.xmp_num.specs.Reduction.{combine_of}
use Rattle.xmp_map.proofs.Counted.{and_left, and_right}
use Rattle.xmp_paths.specs.NodeSets.{has}
use Rattle.xmp_paths.specs.Plans.{Plan, in_order}
use Rattle.xmp_paths.specs.Safe.{Safe, NothingWrong}
use Rattle.xmp_paths.specs.declared.event.Event.{Event}
use Rattle.xmp_prog.specs.declared.expressions.Expr.{Expr, out-Expr}
use Rattle.xmp_prog.specs.declared.expressions.Access.{Access}
use Rattle.xmp_prog.specs.declared.expressions.Expr.TheVariants as expr
use Rattle.xmp_prog.specs.declared.expressions.Expr.TheOpen.{Expr-F}
use Rattle.xmp_prog.specs.declared.expressions.Expr.TheViews.{roll-Expr, roll-out-Expr}
use Rattle.xmp_prog.specs.declared.statements.Compound.{Compound}
use Rattle.xmp_prog.specs.declared.statements.Target.TheVariants as target
use Rattle.xmp_prog.specs.declared.statements.Plain.TheVariants as plain
use Rattle.xmp_prog.specs.declared.statements.Stmt.TheOpen.{Stmt-F}
use Rattle.xmp_prog.specs.Terms.{terms_of, type_of}
use Rattle.xmp_prog.proofs.Rolls.{at_binary, at_choose}
use Rattle.xmp_loops.specs.Same.{same}
use Rattle.xmp_loops.specs.Forms.{in_type, variable, fits_in, is_operator, compared, chosen_form, value_form, assignment_form}
use Rattle.xmp_loops.specs.declared.role.Role.TheVariants.{Reduced}
use Rattle.xmp_flow.specs.Reads.{reads_of_all}
use Rattle.xmp_meaning.specs.declared.location.Location.TheVariants as location
use Rattle.xmp_meaning.specs.declared.ends.End.{End}
use Rattle.xmp_meaning.specs.declared.ends.Flow.{Flow}
use Rattle.xmp_meaning.specs.declared.ends.Flow.TheVariants.{Next}
use Rattle.xmp_meaning.specs.Runs.{State, Step, Gave, Ended, Run, and_then, ◌>>=◌, pure, or_trap}
use Rattle.xmp_meaning.specs.Declarations.{scalar_type}
use Rattle.xmp_meaning.specs.Context.{Context}
use Rattle.xmp_meaning.specs.Handlers.{erased}
use Rattle.xmp_meaning.specs.Expressions.{Element, expr_of, expr_step, is_zero}
use Rattle.xmp_meaning.specs.Expressions as meaning
use Rattle.xmp_meaning.specs.Assignments.{store}
use Rattle.xmp_meaning.specs.Statements.{plain_of}
use Rattle.xmp_meaning.specs.Exchanges.{Notes}
use Rattle.xmp_meaning.specs.Traffic.{node_context}
use Rattle.xmp_meaning_laws.specs.Laws.{scalar_in}
use Rattle.xmp_meaning_laws.proofs.Values.{wrap_fits}
use Rattle.xmp_nodes.proofs.Agrees.{Stand, Agrees, Along, Carried, IsNext}
use Rattle.xmp_nodes.proofs.Standing.{TermStands, IsSetting}
use Rattle.xmp_nodes.proofs.Leaves.{serial_cx, StepFits, SetFormsCarry, PlainsCarry}
use Rattle.xmp_nodes.proofs.MetEvents.{EachOf, NoMark, IsFine, each_ordered, ordered_each, each_is_fine}
use Rattle.xmp_nodes.proofs.PartSplits.{plain_fits}
use Rattle.xmp_nodes.proofs.SameRuns.{noted_plain}
use Rattle.xmp_nodes.proofs.PlainsCarried.{all_unmarked}
use Rattle.xmp_nodes.proofs.AllPlains.{plains_carry}
use Rattle.xmp_nodes.proofs.WideBits.{Wide, StepIs, step_is}
use Rattle.xmp_nodes.proofs.SameGives.{same_gives, gave_first, gave_second}
use Rattle.xmp_nodes.proofs.ReductionValues.{Value, Stop, value_or_stop, sum_along, in_loop}
use Rattle.xmp_nodes.proofs.ReductionForms.{if_apart_is, wide_of, same_variable, in_type_gives, BinaryParts, binary_parts, ChooseParts, choose_parts, Compares, compares}

-- what an assignment does with the value of its right side
abbrev stores : {X : Type 0} → Context → ℕ → ℤ → Run X Flow
stores cx slot z = store erased cx (location.Scalar slot) z >>= (λ u. pure Next)

-- an operator joins an old value and one that is given
abbrev joins : {X : Type 0} → Context → ℕ → BinOp → Ty → Place → ℤ → Step X ℤ → Step X Flow
joins cx slot o ty at old r = and_then (and_then r (λ v. or_trap (binary_of o ty old v) at)) (stores cx slot)

module _ (a : Stand) (is : IsSetting a) (there : has a.set.nodes a.node ≡ true) (input : List ℕ) (stale : ℕ → Bool) (s : State Notes) (n : State (Unit {0})) (g : Agrees a stale s n)
    (slot : ℕ) (r : RedOp) (role : a.set.roles slot ≡ Reduced r) (lies : slot < length a.program.scalars) (ps : List (Plan Event)) (clear : EachOf NoMark ps) where
  abbrev S : Context
  S = serial_cx a.program input

  abbrev N : Context
  N = node_context a.program a.node input

  abbrev ty : Ty
  ty = scalar_type a.program slot

  abbrev Ends : Step Notes Flow → Step (Unit {0}) Flow → Type 0
  Ends p q = Along a IsNext (in_order ps) stale s n p q

  -- `v o x`, in an operation's type
  joins_along : (o : BinOp) (operation other : Ty) (at : Place) → is_operator r o ≡ true → Wide ty operation → (p : Step Notes ℤ) (q : Step (Unit {0}) ℤ)
      → Value a is there input stale s n g other p q ⊎ Stop a is there input stale s n g p q → Ends (joins S slot o operation at (scalar_in s slot) p) (joins N slot o operation at (scalar_in n slot) q)
  joins_along o operation other at e w p q (inl k) =
      let serial : StepIs r o ty operation (scalar_in s slot) k.0 = step_is r o ty operation other (scalar_in s slot) k.0 w (g.whole.values.scalars slot) k.1 e in
      let own : StepIs r o ty operation (scalar_in n slot) k.0 = step_is r o ty operation other (scalar_in n slot) k.0 w (g.typed slot) k.1 e in
      subst (λ z. Ends (joins S slot o operation at (scalar_in s slot) z) (joins N slot o operation at (scalar_in n slot) q)) (sym k.2)
      (subst (λ z. Ends (joins S slot o operation at (scalar_in s slot) (Gave k.0 s)) (joins N slot o operation at (scalar_in n slot) z)) (sym k.3)
      (subst (λ z. Ends (and_then (or_trap z at s) (stores S slot)) (joins N slot o operation at (scalar_in n slot) (Gave k.0 n))) (sym serial.given)
      (subst (λ z. Ends (Gave Next (record s { scalars = slice_set s.scalars slot (wrap ty serial.value) })) (and_then (or_trap z at n) (stores N slot))) (sym own.given)
      (sum_along a is there input stale s n g IsNext refl ps clear slot r role lies (wrap ty k.0) (wrap_fits ty k.0) (wrap ty serial.value) (wrap ty own.value) serial.cut own.cut))))
  joins_along o operation other at e w p q (inr k) =
      subst (λ z. Ends (joins S slot o operation at (scalar_in s slot) z) (joins N slot o operation at (scalar_in n slot) q)) (sym k.3)
      (subst (λ z. Ends (joins S slot o operation at (scalar_in s slot) (Ended k.0 k.1)) (joins N slot o operation at (scalar_in n slot) z)) (sym k.4) k.5)

  -- `v = a o x`, where a is the variable
  binary_is : (X : Type 0) (cx : Context) (t : State X) (o : BinOp) (operation : Ty) (x y : Expr) (at : Place) (old : ℤ) → expr_of erased cx x t ≡ Gave old t
      → and_then (expr_of erased cx (expr.Binary o operation x y at) t) (stores cx slot) ≡ joins cx slot o operation at old (expr_of erased cx y t)
  binary_is X cx t o operation x y at old e =
      ap (λ (run : Run X ℤ). and_then (run t) (stores cx slot)) (at_binary (Run X ℤ) (Element X) (expr_step erased cx) (meaning.access_step cx) o operation x y at)
      ∙ ap (λ z. and_then (and_then z (λ v. expr_of erased cx y >>= (λ w. or_trap (binary_of o operation v w) at))) (stores cx slot)) e

  -- `v = q ? x : v`, where q tests whether y goes before, and x is y
  chosen_is : (X : Type 0) (cx : Context) (t : State X) (q y x w : Expr) (here : Place) (v : ℤ) → Compares a.program r slot q y → same y x ≡ true → same w (variable slot here) ≡ true
      → FitsType ty v → FitsType ty (scalar_in t slot) → cx.program ≡ a.program → expr_of erased cx y t ≡ Gave v t
      → (z : ℤ) × (and_then (expr_of erased cx (expr.Choose q x w) t) (stores cx slot) ≡ Gave Next (record t { scalars = slice_set t.scalars slot z })) × (z ≡ combine_of r ty (scalar_in t slot) v)
  chosen_is X cx t q y x w here v c e f fits old_fits program gave =
      let k : _ = c.gives X cx t v gave in
      of_test k.0 k.1 k.2
    where
      whole : (test : Bool) → expr_of erased cx q t ≡ Gave (truth test) t → expr_of erased cx (expr.Choose q x w) t ≡ (if is_zero (truth test) then expr_of erased cx w else expr_of erased cx x) t
      whole test k =
          ap (λ (run : Run X ℤ). run t) (at_choose (Run X ℤ) (Element X) (expr_step erased cx) (meaning.access_step cx) q x w)
          ∙ ap (λ z. and_then z (λ b. if is_zero b then expr_of erased cx w else expr_of erased cx x)) k

      stored : (z : ℤ) → FitsType ty z → stores cx slot z t ≡ Gave Next (record t { scalars = slice_set t.scalars slot z })
      stored z h = ap (λ y. Gave Next (record t { scalars = slice_set t.scalars slot y })) (ap (λ p. wrap (scalar_type p slot) z) program ∙ int_wrap_fits (width_of ty) z h)

      of_test : (test : Bool) → expr_of erased cx q t ≡ Gave (truth test) t → (if test then v else scalar_in t slot) ≡ combine_of r ty (scalar_in t slot) v
          → (z : ℤ) × (and_then (expr_of erased cx (expr.Choose q x w) t) (stores cx slot) ≡ Gave Next (record t { scalars = slice_set t.scalars slot z })) × (z ≡ combine_of r ty (scalar_in t slot) v)
      of_test true k picked = (
        v,
        ap (λ z. and_then z (stores cx slot)) (whole true k ∙ gave_second X cx (expr_of erased cx y t) (expr_of erased cx x t) v t (same_gives X cx y x e t) gave) ∙ stored v fits,
        picked,
      )
      of_test false k picked = (
        scalar_in t slot,
        ap (λ z. and_then z (stores cx slot)) (whole false k ∙ same_variable a.program X cx t slot w here f) ∙ stored (scalar_in t slot) old_fits,
        picked,
      )

  chosen_stops : (X : Type 0) (cx : Context) (t : State X) (q y x w : Expr) (f : End) (u : State X) → Compares a.program r slot q y → expr_of erased cx y t ≡ Ended f u
      → and_then (expr_of erased cx (expr.Choose q x w) t) (stores cx slot) ≡ Ended f u
  chosen_stops X cx t q y x w f u c e =
      ap (λ (run : Run X ℤ). and_then (run t) (stores cx slot)) (at_choose (Run X ℤ) (Element X) (expr_step erased cx) (meaning.access_step cx) q x w)
      ∙ ap (λ z. and_then (and_then z (λ b. if is_zero b then expr_of erased cx w else expr_of erased cx x)) (stores cx slot)) (c.stops X cx t f u e)

  chosen_along : (q y x w : Expr) (here : Place) → Compares a.program r slot q y → same y x ≡ true → same w (variable slot here) ≡ true
      → Value a is there input stale s n g (type_of a.program y) (expr_of erased S y s) (expr_of erased N y n) ⊎ Stop a is there input stale s n g (expr_of erased S y s) (expr_of erased N y n)
      → Ends (and_then (expr_of erased S (expr.Choose q x w) s) (stores S slot)) (and_then (expr_of erased N (expr.Choose q x w) n) (stores N slot))
  chosen_along q y x w here c e f (inl k) =
      let fits : FitsType ty k.0 = subst (λ z. FitsType z k.0) c.types k.1 in
      let serial : _ = chosen_is Notes S s q y x w here k.0 c e f fits (g.whole.values.scalars slot) refl k.2 in
      let own : _ = chosen_is (Unit {0}) N n q y x w here k.0 c e f fits (g.typed slot) refl k.3 in
      subst (λ z. Ends z (and_then (expr_of erased N (expr.Choose q x w) n) (stores N slot))) (sym serial.1)
      (subst (λ z. Ends (Gave Next (record s { scalars = slice_set s.scalars slot serial.0 })) z) (sym own.1)
      (sum_along a is there input stale s n g IsNext refl ps clear slot r role lies k.0 fits serial.0 own.0 serial.2 own.2))
  chosen_along q y x w here c e f (inr k) =
      subst (λ z. Ends z (and_then (expr_of erased N (expr.Choose q x w) n) (stores N slot))) (sym (chosen_stops Notes S s q y x w k.0 k.1 c k.3))
      (subst (λ z. Ends (Ended k.0 k.1) z) (sym (chosen_stops (Unit {0}) N n q y x w k.0 k.2 c k.4)) k.5)

module _ (a : Stand) (is : IsSetting a) (there : has a.set.nodes a.node ≡ true) (input : List ℕ) (slot : ℕ) (here : Place) (r : RedOp) (role : a.set.roles slot ≡ Reduced r) (lies : slot < length a.program.scalars) where
  abbrev Follows : Option Compound → Expr → List Expr → Type 0
  Follows c e es = Carried a IsNext (in_order (reads_of_all es a.set)) (plain_of erased (serial_cx a.program input) (plain.Set (target.Scalar slot here) c e))
      (plain_of erased (node_context a.program a.node input) (plain.Set (target.Scalar slot here) c e))

  fine_of : (es : List Expr) (stale : ℕ → Bool) → Safe a.node (in_order (reads_of_all es a.set)) stale → NothingWrong (in_order (reads_of_all es a.set)) → EachOf (IsFine a.node stale) (reads_of_all es a.set)
  fine_of es stale safe none = each_ordered (IsFine a.node stale) (reads_of_all es a.set)
      (each_is_fine a.node (in_order (reads_of_all es a.set)) stale safe none (ordered_each NoMark (reads_of_all es a.set) (all_unmarked a.set es)))

  -- `v o= x`
  compound_form : (d : Compound) (x : Expr) (es : List Expr) → assignment_form a.program slot r here (Some d) x ≡ Some es → AllByRecursion (TermStands a.program) (terms_of a.program x)
      → NothingWrong (in_order (reads_of_all es a.set)) → Follows (Some d) x es
  compound_form d x es form terms none =
      let k : _ = if_apart_is slot (is_operator r d.op && fits_in a.program slot d.ty) (x ∷ []) x es form in
      subst (Follows (Some d) x) k.1 (λ stale s n safe g.
      let fine : _ = fine_of (x ∷ []) stale safe (subst (λ l. NothingWrong (in_order (reads_of_all l a.set))) (sym k.1) none) in
      joins_along a is there input stale s n g slot r role lies (reads_of_all (x ∷ []) a.set) (all_unmarked a.set (x ∷ [])) d.op d.ty (type_of a.program x) d.at (and_left (is_operator r d.op) (fits_in a.program slot d.ty) k.0) (wide_of a.program slot d.ty (and_right (is_operator r d.op) (fits_in a.program slot d.ty) k.0))
      (expr_of erased (serial_cx a.program input) x s) (expr_of erased (node_context a.program a.node input) x n) (value_or_stop a is there input stale s n g x (in_loop a is slot r role) terms fine.0))

  -- `v = v o x`
  operator_form : (o : BinOp) (operation : Ty) (y x : Expr) (at : Place) (es : List Expr) → (is_operator r o && (fits_in a.program slot operation && same y (in_type a.program operation (variable slot at)))) ≡ true → x ∷ [] ≡ es
      → AllByRecursion (TermStands a.program) (terms_of a.program (expr.Binary o operation y x at)) → NothingWrong (in_order (reads_of_all es a.set)) → Follows None (expr.Binary o operation y x at) es
  operator_form o operation y x at es test same_list terms none =
      let rest : _ = and_right (is_operator r o) (fits_in a.program slot operation && same y (in_type a.program operation (variable slot at))) test in
      let wide : fits_in a.program slot operation ≡ true = and_left (fits_in a.program slot operation) (same y (in_type a.program operation (variable slot at))) rest in
      let alike : same y (in_type a.program operation (variable slot at)) ≡ true = and_right (fits_in a.program slot operation) (same y (in_type a.program operation (variable slot at))) rest in
      let parts : BinaryParts a.program o operation y x = binary_parts a.program o operation y x at terms in
      subst (Follows None (expr.Binary o operation y x at)) same_list (λ stale s n safe g.
      let fine : _ = fine_of (x ∷ []) stale safe (subst (λ l. NothingWrong (in_order (reads_of_all l a.set))) (sym same_list) none) in
      subst (λ z. Along a IsNext (in_order (reads_of_all (x ∷ []) a.set)) stale s n z (plain_of erased (node_context a.program a.node input) (plain.Set (target.Scalar slot here) None (expr.Binary o operation y x at)) n))
      (sym (binary_is a is there input stale s n g slot r role lies (reads_of_all (x ∷ []) a.set) (all_unmarked a.set (x ∷ [])) Notes (serial_cx a.program input) s o operation y x at (scalar_in s slot)
      (gave_first Notes (serial_cx a.program input) (expr_of erased (serial_cx a.program input) y s) (expr_of erased (serial_cx a.program input) (in_type a.program operation (variable slot at)) s) (scalar_in s slot) s
      (same_gives Notes (serial_cx a.program input) y (in_type a.program operation (variable slot at)) alike s)
      (in_type_gives a.program Notes (serial_cx a.program input) s slot operation at (g.whole.values.scalars slot) wide))))
      (subst (λ z. Along a IsNext (in_order (reads_of_all (x ∷ []) a.set)) stale s n (joins (serial_cx a.program input) slot o operation at (scalar_in s slot) (expr_of erased (serial_cx a.program input) x s)) z)
      (sym (binary_is a is there input stale s n g slot r role lies (reads_of_all (x ∷ []) a.set) (all_unmarked a.set (x ∷ [])) (Unit {0}) (node_context a.program a.node input) n o operation y x at (scalar_in n slot)
      (gave_first (Unit {0}) (node_context a.program a.node input) (expr_of erased (node_context a.program a.node input) y n) (expr_of erased (node_context a.program a.node input) (in_type a.program operation (variable slot at)) n) (scalar_in n slot) n
      (same_gives (Unit {0}) (node_context a.program a.node input) y (in_type a.program operation (variable slot at)) alike n)
      (in_type_gives a.program (Unit {0}) (node_context a.program a.node input) n slot operation at (g.typed slot) wide))))
      (joins_along a is there input stale s n g slot r role lies (reads_of_all (x ∷ []) a.set) (all_unmarked a.set (x ∷ [])) o operation (type_of a.program x) at (and_left (is_operator r o) _ test) (wide_of a.program slot operation wide)
      (expr_of erased (serial_cx a.program input) x s) (expr_of erased (node_context a.program a.node input) x n) (value_or_stop a is there input stale s n g x (in_loop a is slot r role) parts.second fine.0))))

  -- `v = q ? x : v`
  choice_form : (q y x w : Expr) (es : List Expr) → compared a.program slot r (out-Expr q) ≡ Some y → (same y x && same w (variable slot here)) ≡ true → y ∷ x ∷ [] ≡ es
      → AllByRecursion (TermStands a.program) (terms_of a.program (expr.Choose q x w)) → NothingWrong (in_order (reads_of_all es a.set)) → Follows None (expr.Choose q x w) es
  choice_form q y x w es e test same_list terms none =
      let parts : ChooseParts a.program q x w = choose_parts a.program q x w terms in
      subst (Follows None (expr.Choose q x w)) same_list (λ stale s n safe g.
      let fine : _ = fine_of (y ∷ x ∷ []) stale safe (subst (λ l. NothingWrong (in_order (reads_of_all l a.set))) (sym same_list) none) in
      chosen_along a is there input stale s n g slot r role lies (reads_of_all (y ∷ x ∷ []) a.set) (all_unmarked a.set (y ∷ x ∷ [])) q y x w here (compares a.program r slot q y e parts.test)
      (and_left (same y x) (same w (variable slot here)) test) (and_right (same y x) (same w (variable slot here)) test)
      (value_or_stop a is there input stale s n g y (in_loop a is slot r role) (compares a.program r slot q y e parts.test).terms fine.0))

  -- one of the two
  value_forms : (e : Expr) (es : List Expr) → value_form a.program slot r here (out-Expr e) ≡ Some es → AllByRecursion (TermStands a.program) (terms_of a.program e) → NothingWrong (in_order (reads_of_all es a.set)) → Follows None e es
  value_forms e es form terms none = of_form (out-Expr e) (sym (roll-out-Expr e)) form
    where
      of_compared : (q x w : Expr) → e ≡ expr.Choose q x w → (o : Option Expr) → compared a.program slot r (out-Expr q) ≡ o → chosen_form slot here x w o ≡ Some es → Follows None e es
      of_compared q x w i None j k = cc
      of_compared q x w i (Some y) j k =
          let t : _ = if_apart_is slot (same y x && same w (variable slot here)) (y ∷ x ∷ []) x es k in
          subst (λ z. Follows None z es) (sym i) (choice_form q y x w es j t.0 t.1 (subst (λ z. AllByRecursion (TermStands a.program) (terms_of a.program z)) i terms) none)

      of_form : (z : Expr-F Expr Access) → e ≡ roll-Expr z → value_form a.program slot r here z ≡ Some es → Follows None e es
      of_form (Expr-F.Binary o operation y x at) i k =
          let j : e ≡ expr.Binary o operation y x at = i ∙ expr.rolls-Binary o operation y x at in
          let t : _ = if_apart_is slot (is_operator r o && (fits_in a.program slot operation && same y (in_type a.program operation (variable slot at)))) (x ∷ []) x es k in
          subst (λ z. Follows None z es) (sym j) (operator_form o operation y x at es t.0 t.1 (subst (λ z. AllByRecursion (TermStands a.program) (terms_of a.program z)) j terms) none)
      of_form (Expr-F.Choose q x w) i k = of_compared q x w (i ∙ expr.rolls-Choose q x w) (compared a.program slot r (out-Expr q)) refl k
      of_form (Expr-F.Const v c) i k = cc
      of_form (Expr-F.Scalar v at) i k = cc
      of_form (Expr-F.Cell b) i k = cc
      of_form (Expr-F.Both b c) i k = cc
      of_form (Expr-F.Either b c) i k = cc
      of_form (Expr-F.Convert c b) i k = cc
      of_form (Expr-F.Call function arguments at) i k = cc
      of_form Expr-F.Node i k = cc
      of_form Expr-F.Nodes i k = cc

  pub set_form : (c : Option Compound) (e : Expr) (es : List Expr) → assignment_form a.program slot r here c e ≡ Some es → StepFits a.program (Stmt-F.Plain (plain.Set (target.Scalar slot here) c e)) → NothingWrong (in_order (reads_of_all es a.set)) → Follows c e es
  set_form None e es form fits none = value_forms e es form fits.terms none
  set_form (Some d) e es form fits none = compound_form d e es form fits.terms none

pub set_forms_carry : SetFormsCarry
set_forms_carry a is there input slot at c e op es role form fits writes none =
    subst (λ (f : Run Notes Flow). Carried a IsNext (in_order (reads_of_all es a.set)) f (plain_of erased (node_context a.program a.node input) (plain.Set (target.Scalar slot at) c e)))
    (sym (noted_plain a.program (serial_cx a.program input) (plain.Set (target.Scalar slot at) c e) refl))
    (set_form a is there input slot at op role (plain_fits a.program (plain.Set (target.Scalar slot at) c e) fits).slots.0 c e es form (plain_fits a.program (plain.Set (target.Scalar slot at) c e) fits) none)

pub all_plains_carry : PlainsCarry
all_plains_carry = plains_carry set_forms_carry
