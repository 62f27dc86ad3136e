-- The numbers of a gmove: every node finds those of the serial run.
use Rattle.std.proofs.Common.{◌≡◌, ◌++◌, ◌&&◌, inl, inr, ℕ, ℤ, Bool, true, false, not, List, [], ◌∷◌, map, refl, sym, ap, subst, ◌∙◌}
use Rattle.xmp_base.specs.declared.place.Place.{Place}
use Rattle.xmp_num.specs.declared.types.Ty.{Ty}
use Rattle.xmp_num.specs.declared.types.BinOp.{BinOp}
use Rattle.xmp_num.specs.Arithmetic.{binary_of, wrap}
use Rattle.xmp_prog.specs.declared.parts.ProgParts.{ProgParts}
use Rattle.xmp_prog.specs.declared.expressions.Expr.{Expr, map-Expr}
use Rattle.xmp_prog.specs.declared.expressions.Expr.TheVariants as expr
use Rattle.xmp_prog.specs.declared.expressions.Expr.TheOpen.{Expr-F}
use Rattle.xmp_prog.specs.declared.expressions.Expr.TheFolds.{ind-Expr}
use Rattle.xmp_prog.specs.declared.expressions.Expr.TheViews.{roll-Expr}
use Rattle.xmp_prog.specs.declared.expressions.Access.{Access}
use Rattle.xmp_prog.specs.declared.statements.Number.{Number}
use Rattle.xmp_prog.specs.declared.statements.Part.{Part}
use Rattle.xmp_prog.specs.declared.statements.Part.TheVariants as part
use Rattle.xmp_prog.specs.declared.statements.MoveSide.{MoveSide}
use Rattle.xmp_prog.specs.declared.statements.MoveSide.TheVariants as side
use Rattle.xmp_prog.specs.Counted.{is_bound_operator}
use Rattle.xmp_prog.proofs.Rolls as rolls
use Rattle.xmp_paths.specs.NodeSets.{has}
use Rattle.xmp_paths.specs.declared.event.Event.{Event}
use Rattle.xmp_paths.specs.declared.event.Event.TheVariants.{Read, Wrong}
use Rattle.xmp_paths.specs.Plans.{Plan, skip, emit, sequence, in_order, Stands}
use Rattle.xmp_paths.specs.Safe.{Safe, NothingWrong}
use Rattle.xmp_paths.proofs.SafeLaws.{safe_front, safe_read}
use Rattle.xmp_loops.specs.Objects.{scalar_object, all_nodes}
use Rattle.xmp_loops.specs.Bounds.{is_number, built_step}
use Rattle.xmp_flow.specs.Setting.{Setting, in_move, wrong_where}
use Rattle.xmp_flow.specs.Reads.{reads_of}
use Rattle.xmp_flow.specs.PlainEvents.{number_events, part_events, side_events}
use Rattle.xmp_flow.specs.Program.{outermost}
use Rattle.xmp_flow.proofs.ReadLaws.{reads-const, reads-scalar, reads-binary, reads-convert}
use Rattle.xmp_meaning.specs.Runs.{State, Run, Gave, ◌>>=◌, pure, or_trap, scalar}
use Rattle.xmp_meaning.specs.Blocks.{each}
use Rattle.xmp_meaning.specs.Handlers.{erased}
use Rattle.xmp_meaning.specs.Expressions.{expr_of}
use Rattle.xmp_meaning.specs.Sections.{Chosen, One, Many, chosen, numbers}
use Rattle.xmp_meaning.specs.Exchanges.{Notes, traced}
use Rattle.xmp_meaning.specs.Traffic.{node_context}
use Rattle.xmp_meaning.proofs.Forms.{expr_const, expr_scalar, expr_binary, expr_convert}
use Rattle.xmp_meaning_laws.specs.Laws.{scalar_in}
use Rattle.xmp_nodes.proofs.Leaves.{serial_cx}
use Rattle.xmp_nodes.proofs.Each.{Alone}
use Rattle.xmp_nodes.proofs.Stillness.{Still, still_pure, still_trap, still_on, Quiet, quiet_skip, quiet_read, quiet_then, safe_behind}

abbrev any_slot : ℕ → Bool
any_slot slot = true

and_both : (a b : Bool) → (a && b) ≡ true → (a ≡ true) × (b ≡ true)
and_both true b e = (refl, e)
and_both false b e = cc

not_true : (b : Bool) → (b ≡ true → ⊥) → b ≡ false
not_true true h = absurd (h refl)
not_true false h = refl

module _ (p : ProgParts) (input : List ℕ) (k : ℕ) (member : has (all_nodes p) k ≡ true) where
  abbrev set : Setting
  set = in_move (outermost p)

  abbrev serial_of : Expr → Run Notes ℤ
  serial_of = expr_of (traced p) (serial_cx p input)

  abbrev node_of : Expr → Run (Unit {0}) ℤ
  node_of = expr_of erased (node_context p k input)

  -- the node has the serial value of each scalar that isn't out of date
  abbrev pub SameScalars : (ℕ → Bool) → State Notes → Alone → Type 0
  SameScalars stale s n = (slot : ℕ) → stale (scalar_object slot) ≡ false → scalar_in n slot ≡ scalar_in s slot

  -- a part of a plan that reads alone, and runs that come to the same where it is safe
  pub record Alike {A : Type 0} (plan : Plan Event) (f : Run Notes A) (g : Run (Unit {0}) A) : Type 0 where
    pub quiet : Quiet k plan
    pub still : (stale : ℕ → Bool) → Safe k plan stale → (s : State Notes) (n : Alone) → SameScalars stale s n → Still f s g n

  abbrev IsAlike : Expr → Type 0
  IsAlike e = is_number e ≡ true → Alike (reads_of e set) (serial_of e) (node_of e)

  alike_runs : {A : Type 0} (plan plan' : Plan Event) (f f' : Run Notes A) (g g' : Run (Unit {0}) A) → plan ≡ plan' → f ≡ f' → g ≡ g' → Alike plan' f' g' → Alike plan f g
  alike_runs plan plan' f f' g g' a b c h =
      subst (λ x. Alike x f g) (sym a) (subst (λ y. Alike plan' y g) (sym b) (subst (λ z. Alike plan' f' z) (sym c) h))

  alike_pure : {A : Type 0} (a : A) → Alike skip (pure a) (pure a)
  alike_pure a = record { quiet = quiet_skip k; still = λ stale safe s n h. still_pure a s n }

  alike_on : {A B : Type 0} (a b : Plan Event) (f : Run Notes A) (g : Run (Unit {0}) A) (f' : A → Run Notes B) (g' : A → Run (Unit {0}) B)
      → Alike a f g → ((v : A) → Alike b (f' v) (g' v)) → Quiet k b → Alike (sequence a b) (f >>= f') (g >>= g')
  alike_on a b f g f' g' x y q = record {
    quiet = quiet_then k a b x.quiet q;
    still = λ stale safe s n h. still_on f g f' g' s n
        (x.still stale (safe_front k a b stale safe) s n h)
        (λ v. (y v).still stale (safe_behind k a b stale x.quiet safe) s n h);
  }

  alike_const : (v : ℤ) (ty : Ty) → IsAlike (expr.Const v ty)
  alike_const v ty e = alike_runs _ skip _ (pure v) _ (pure v) (reads-const v ty set) (expr_const (traced p) (serial_cx p input) v ty) (expr_const erased (node_context p k input) v ty) (alike_pure v)

  alike_scalar : (slot : ℕ) (at : Place) → IsAlike (expr.Scalar slot at)
  alike_scalar slot at e =
      alike_runs _ (emit (Read (scalar_object slot) (all_nodes p) 1 at)) _ (scalar slot) _ (scalar slot)
      (reads-scalar slot at set) (expr_scalar (traced p) (serial_cx p input) slot at) (expr_scalar erased (node_context p k input) slot at)
      (record {
        quiet = quiet_read k (scalar_object slot) (all_nodes p) 1 at;
        still = λ stale safe s n h. record {
          first = refl;
          second = ap (λ v. Gave v n) (h slot (not_true (stale (scalar_object slot)) (safe_read k (scalar_object slot) (all_nodes p) 1 at stale safe member)));
        };
      })

  alike_binary : (o : BinOp) (ty : Ty) (a b : Expr) (at : Place) → IsAlike a → IsAlike b → IsAlike (expr.Binary o ty a b at)
  alike_binary o ty a b at ha hb e =
      let built : (is_bound_operator o && (is_number a && is_number b)) ≡ true = sym (rolls.at_binary Bool Bool (built_step any_slot) (λ x. false) o ty a b at) ∙ e in
      let parts : _ = and_both (is_number a) (is_number b) (and_both (is_bound_operator o) (is_number a && is_number b) built).1 in
      alike_runs _ (in_order (reads_of a set ∷ reads_of b set ∷ [])) _
      (serial_of a >>= (λ x. serial_of b >>= (λ y. or_trap (binary_of o ty x y) at))) _
      (node_of a >>= (λ x. node_of b >>= (λ y. or_trap (binary_of o ty x y) at)))
      (reads-binary o ty a b at set) (expr_binary (traced p) (serial_cx p input) o ty a b at) (expr_binary erased (node_context p k input) o ty a b at)
      (alike_on (reads_of a set) (in_order (reads_of b set ∷ [])) (serial_of a) (node_of a) _ _ (ha parts.0)
      (λ x. alike_on (reads_of b set) skip (serial_of b) (node_of b) _ _ (hb parts.1)
      (λ y. record { quiet = quiet_skip k; still = λ stale safe s n h. still_trap (binary_of o ty x y) at s n }) (quiet_skip k))
      (quiet_then k (reads_of b set) skip (hb parts.1).quiet (quiet_skip k)))

  alike_convert : (ty : Ty) (a : Expr) → IsAlike a → IsAlike (expr.Convert ty a)
  alike_convert ty a ha e =
      let built : is_number a ≡ true = sym (rolls.at_convert Bool Bool (built_step any_slot) (λ x. false) ty a) ∙ e in
      alike_runs _ (reads_of a set) _ (serial_of a >>= (λ x. pure (wrap ty x))) _ (node_of a >>= (λ x. pure (wrap ty x)))
      (reads-convert ty a set) (expr_convert (traced p) (serial_cx p input) ty a) (expr_convert erased (node_context p k input) ty a)
      (record {
        quiet = (ha built).quiet;
        still = λ stale safe s n h. still_on (serial_of a) (node_of a) (λ x. pure (wrap ty x)) (λ x. pure (wrap ty x)) s n ((ha built).still stale safe s n h) (λ x. still_pure (wrap ty x) s n);
      })

  no_number : (e : Expr) → is_number e ≡ false → IsAlike e
  no_number e f g = absurd (no (is_number e) f g)
    where
      no : (b : Bool) → b ≡ false → b ≡ true → ⊥
      no true f g = cc
      no false f g = cc

  module _ {C D : Type 0} (at_expr : C → Expr) (at_access : D → Access) (h : (c : C) → IsAlike (at_expr c)) where
    alike_form : (y : Expr-F C D) → IsAlike (roll-Expr (map-Expr C D Expr Access at_expr at_access y))
    alike_form (Expr-F.Const v ty) = subst IsAlike (sym (expr.rolls-Const v ty)) (alike_const v ty)
    alike_form (Expr-F.Scalar slot at) = subst IsAlike (sym (expr.rolls-Scalar slot at)) (alike_scalar slot at)
    alike_form (Expr-F.Cell a) = subst IsAlike (sym (expr.rolls-Cell (at_access a))) (no_number _ (rolls.at_cell Bool Bool (built_step any_slot) (λ x. false) (at_access a)))
    alike_form (Expr-F.Binary o ty a b at) = subst IsAlike (sym (expr.rolls-Binary o ty (at_expr a) (at_expr b) at)) (alike_binary o ty (at_expr a) (at_expr b) at (h a) (h b))
    alike_form (Expr-F.Both a b) = subst IsAlike (sym (expr.rolls-Both (at_expr a) (at_expr b))) (no_number _ (rolls.at_both Bool Bool (built_step any_slot) (λ x. false) (at_expr a) (at_expr b)))
    alike_form (Expr-F.Either a b) = subst IsAlike (sym (expr.rolls-Either (at_expr a) (at_expr b))) (no_number _ (rolls.at_either Bool Bool (built_step any_slot) (λ x. false) (at_expr a) (at_expr b)))
    alike_form (Expr-F.Choose a b c) = subst IsAlike (sym (expr.rolls-Choose (at_expr a) (at_expr b) (at_expr c))) (no_number _ (rolls.at_choose Bool Bool (built_step any_slot) (λ x. false) (at_expr a) (at_expr b) (at_expr c)))
    alike_form (Expr-F.Convert ty a) = subst IsAlike (sym (expr.rolls-Convert ty (at_expr a))) (alike_convert ty (at_expr a) (h a))
    alike_form (Expr-F.Call function arguments at) = subst IsAlike (sym (expr.rolls-Call function (map at_expr arguments) at)) (no_number _ (rolls.at_call Bool Bool (built_step any_slot) (λ x. false) function (map at_expr arguments) at))
    alike_form Expr-F.Node = subst IsAlike (sym expr.rolls-Node) (no_number _ (rolls.at_node Bool Bool (built_step any_slot) (λ x. false)))
    alike_form Expr-F.Nodes = subst IsAlike (sym expr.rolls-Nodes) (no_number _ (rolls.at_nodes Bool Bool (built_step any_slot) (λ x. false)))

  pub number_alike : (e : Expr) → IsAlike e
  number_alike = ind-Expr IsAlike (λ a. Unit {0})
      (λ x y e. subst (λ z. IsAlike (roll-Expr z)) e (alike_form (λ c. c.0) (λ d. d.0) (λ c. c.1) y))
      (λ x y e. tt)

  -- ---- the numbers of a side

  alike_number : (n : Number) → NothingWrong (number_events (outermost p) n) → Alike (number_events (outermost p) n) (serial_of n.value) (node_of n.value)
  alike_number n right = record {
    quiet = quiet_then k (reads_of n.value set) (in_order (wrong_where (not (is_number n.value)) 12 n.at ∷ [])) x.quiet
        (quiet_then k (wrong_where (not (is_number n.value)) 12 n.at) skip (subst (λ b. Quiet k (wrong_where (not b) 12 n.at)) (sym built) (quiet_skip k)) (quiet_skip k));
    still = λ stale safe s m h. x.still stale (safe_front k (reads_of n.value set) (in_order (wrong_where (not (is_number n.value)) 12 n.at ∷ [])) stale safe) s m h;
  }
    where
      of_test : (b : Bool) → (Stands (wrong_where (not b) 12 n.at) (Wrong 12 n.at) → ⊥) → b ≡ true
      of_test true h = refl
      of_test false h = absurd (h refl)

      built : is_number n.value ≡ true
      built = of_test (is_number n.value) (λ st. right 12 n.at (inr (inl st)))

      x : Alike (reads_of n.value set) (serial_of n.value) (node_of n.value)
      x = number_alike n.value built

  alike_then_pure : {A B : Type 0} (plan : Plan Event) (f : Run Notes A) (g : Run (Unit {0}) A) (h : A → B) → Alike plan f g → Alike plan (f >>= (λ v. pure (h v))) (g >>= (λ v. pure (h v)))
  alike_then_pure plan f g h x = record {
    quiet = x.quiet;
    still = λ stale safe s n same. still_on f g (λ v. pure (h v)) (λ v. pure (h v)) s n (x.still stale safe s n same) (λ v. still_pure (h v) s n);
  }

  alike_part : (q : Part) → NothingWrong (part_events (outermost p) q) → Alike (part_events (outermost p) q) (chosen (traced p) (serial_cx p input) q) (chosen erased (node_context p k input) q)
  alike_part (part.One n) right = alike_then_pure (number_events (outermost p) n) (serial_of n.value) (node_of n.value) One (alike_number n right)
  alike_part (part.Many b l t) right =
      let xb = alike_number b (λ rule at st. right rule at (inl st)) in
      let xl = alike_number l (λ rule at st. right rule at (inr (inl st))) in
      let xt = alike_number t (λ rule at st. right rule at (inr (inr (inl st)))) in
      let last : Quiet k (in_order (number_events (outermost p) t ∷ [])) = quiet_then k (number_events (outermost p) t) skip xt.quiet (quiet_skip k) in
      alike_on (number_events (outermost p) b) (in_order (number_events (outermost p) l ∷ number_events (outermost p) t ∷ [])) (serial_of b.value) (node_of b.value) _ _ xb
      (λ base. alike_on (number_events (outermost p) l) (in_order (number_events (outermost p) t ∷ [])) (serial_of l.value) (node_of l.value) _ _ xl
      (λ length. alike_on (number_events (outermost p) t) skip (serial_of t.value) (node_of t.value) _ _ xt (λ step. alike_pure (Many base length step)) (quiet_skip k)) last)
      (quiet_then k (number_events (outermost p) l) (in_order (number_events (outermost p) t ∷ [])) xl.quiet last)

  alike_parts : (parts : List Part) (vs : List Chosen) → NothingWrong (in_order (map (part_events (outermost p)) parts))
      → Alike (in_order (map (part_events (outermost p)) parts)) (each (map (chosen (traced p) (serial_cx p input)) parts) vs) (each (map (chosen erased (node_context p k input)) parts) vs)
  alike_parts [] vs right = alike_pure vs
  alike_parts (q ∷ parts) vs right =
      let rest : NothingWrong (in_order (map (part_events (outermost p)) parts)) = λ rule at st. right rule at (inr st) in
      alike_on (part_events (outermost p) q) (in_order (map (part_events (outermost p)) parts)) (chosen (traced p) (serial_cx p input) q) (chosen erased (node_context p k input) q) _ _
      (alike_part q (λ rule at st. right rule at (inl st)))
      (λ v. alike_parts parts (vs ++ v ∷ []) rest)
      (alike_parts parts vs rest).quiet

  pub alike_side : (m : MoveSide) → NothingWrong (side_events (outermost p) m)
      → Alike (side_events (outermost p) m) (numbers (traced p) (serial_cx p input) m) (numbers erased (node_context p k input) m)
  alike_side (side.Scalar name) right = alike_pure []
  alike_side (side.Array name parts) right = alike_parts parts [] right
