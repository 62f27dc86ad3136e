-- Two runs of an expression side by side, in two layouts, from states that agree on what it reads: an expression sets nothing,
-- so that the states agree on nothing else is asked.
use Rattle.std.proofs.Common.{◌≡◌, ◌<◌, ◌++◌, ℕ, suc, ℤ, pos, negsuc, Bool, true, false, true≢false, List, [], ◌∷◌, map, Option, Some, None, Result, Ok, Err, refl, sym, subst, ap, ◌∙◌, if◌then◌else◌}
use Rattle.std.specs.Prelude.{nat_lt}
use Rattle.std.specs.List.{AllByRecursion, list_all, flat_map}
use Rattle.std.specs.Option.{option_map}
use Rattle.std.proofs.lemmas.Bool.{leb-true}
use Rattle.xmp_base.specs.declared.place.Place.{Place}
use Rattle.xmp_map.proofs.Counted.{and_left}
use Rattle.xmp_num.specs.declared.types.Ty.{Ty}
use Rattle.xmp_num.specs.declared.types.BinOp.{BinOp}
use Rattle.xmp_num.specs.declared.types.TrapKind.{TrapKind}
use Rattle.xmp_num.specs.Arithmetic.{binary_of, wrap}
use Rattle.xmp_prog.specs.declared.expressions.Expr.{Expr, map-Expr}
use Rattle.xmp_prog.specs.declared.expressions.Access.{Access, map-Access}
use Rattle.xmp_prog.specs.declared.expressions.Expr.TheOpen.{Expr-F, Access-F}
use Rattle.xmp_prog.specs.declared.expressions.Expr.TheFolds.{ind-Expr, ind-Access, fold-roll-Expr, fold-roll-Access}
use Rattle.xmp_prog.specs.declared.expressions.Expr.TheViews.{roll-Expr, roll-Access}
use Rattle.xmp_meaning.specs.Runs.{State, Step, Gave, Ended, Run, ◌>>=◌, pure, or_trap, scalar}
use Rattle.xmp_meaning.specs.Declarations.{extents}
use Rattle.xmp_meaning.specs.Layouts.{number_of}
use Rattle.xmp_meaning.specs.Context.{Context}
use Rattle.xmp_meaning.specs.Handlers.{Handlers}
use Rattle.xmp_meaning.specs.Blocks.{each}
use Rattle.xmp_meaning.specs.Expressions.{Element, expr_of, element_of, expr_step, access_step, natural, within, or_subscript, checked, cell_number, cell_of, is_zero, as_truth, after_call, call}
use Rattle.xmp_meaning_laws.specs.Laws.{scalar_in}
use Rattle.xmp_meaning_laws.specs.Agreement.{result_value, Spot, Seen, SeenElement, joined_value, seen_step, seen_element, seen, seen_access, IsKnown, MayBe, own_image, SpotIn, StepsMeet}
use Rattle.xmp_meaning_laws.proofs.Conditions.{all_apart}
use Rattle.xmp_meaning_laws.proofs.Twins.{Couple, left, right, meet_on, meet_weaker, all_first, all_last}

-- The relation `K agreed` between states gives the same scalars, and the same cells where they may be read; a call is
-- done by the steps that are left.
pub record AreReaders (X Y : Type 0) (c : Couple) (h : Handlers X) (h' : Handlers Y) (known : ℕ → Option ℤ)
    (MayGet : ℕ → List ℕ → ℕ → Type 0) (K : (ℕ → Bool) → State X → State Y → Type 0) : Type 1 where
  pub scalars : (g : ℕ → Bool) (s : State X) (u : State Y) (slot : ℕ) → g slot ≡ true → K g s u → scalar_in s slot ≡ scalar_in u slot
  pub knows : (g : ℕ → Bool) (s : State X) (u : State Y) (slot : ℕ) (v : ℤ) → known slot ≡ Some v → K g s u → scalar_in s slot ≡ v
  pub gets : (g : ℕ → Bool) (s : State X) (u : State Y) (array : ℕ) (xs : List ℕ) (image : ℕ) → MayGet array xs image → K g s u
      → StepsMeet (K g) (λ v w t z. (v ≡ w) × K g t z) (h.get array (number_of c.layout c.program array image xs) s) (h'.get array (number_of c.other c.program array image xs) u)
  pub left_steps : (g : ℕ → Bool) (s : State X) (u : State Y) → K g s u → s.steps ≡ u.steps
  pub steps : (g : ℕ → Bool) (s : State X) (u : State Y) (n : ℕ) → K g s u → K g (record s { steps = n }) (record u { steps = n })

-- ---- expressions

join_known : (op : BinOp) (ty : Ty) (x y z : ℤ) (o p : Option ℤ) → IsKnown o x → IsKnown p y → binary_of op ty x y ≡ Ok z → IsKnown (joined_value op ty o p) z
join_known op ty x y z None p h i e = tt
join_known op ty x y z (Some a) None h i e = tt
join_known op ty x y z (Some a) (Some b) h i e =
    subst (λ r. IsKnown (result_value r) z) (sym (sym (ap (λ w. binary_of op ty w y) h ∙ ap (binary_of op ty a) i) ∙ e)) refl

wrap_known : (ty : Ty) (o : Option ℤ) (x : ℤ) → IsKnown o x → IsKnown (option_map (wrap ty) o) (wrap ty x)
wrap_known ty None x h = tt
wrap_known ty (Some w) x h = ap (wrap ty) h

module _ {X Y : Type 0} {c : Couple} {h : Handlers X} {h' : Handlers Y} {known : ℕ → Option ℤ} {MayGet : ℕ → List ℕ → ℕ → Type 0}
    {K : (ℕ → Bool) → State X → State Y → Type 0} (i : AreReaders X Y c h h' known MayGet K) where
  -- both give the same value, of which something is said
  abbrev pub Same : (g : ℕ → Bool) {A : Type 0} → (A → Type 0) → A → A → State X → State Y → Type 0
  Same g V a b s u = (a ≡ b) × K g s u × V a

  abbrev pub Twin : (g : ℕ → Bool) {A : Type 0} → (A → Type 0) → Run X A → Run Y A → Type 0
  Twin g V p q = (s : State X) (u : State Y) → K g s u → StepsMeet (K g) (Same g V) (p s) (q u)

  abbrev pub Any : {A : Type 0} → A → Type 0
  Any a = Unit {0}

  -- what follows the same value
  pub same_on : (g : ℕ → Bool) {A B : Type 0} (V : A → Type 0) (W : B → Type 0) (p : Run X A) (q : Run Y A) (f : A → Run X B) (f' : A → Run Y B)
      → Twin g V p q → ((a : A) → V a → Twin g W (f a) (f' a)) → Twin g W (p >>= f) (q >>= f')
  same_on g V W p q f f' r rest s u k = meet_on (K g) (Same g V) (Same g W) f f' (p s) (q u) (r s u k) (λ a b t z m. subst (λ y. StepsMeet (K g) (Same g W) (f a t) (f' y z)) m.0 (rest a m.2 t z m.1))

  pub gives : (g : ℕ → Bool) {A : Type 0} (V : A → Type 0) (a : A) → V a → Twin g V (pure a) (pure a)
  gives g V a v s u k = (refl, k, v)

  pub or_trap_twin : (g : ℕ → Bool) (V : ℤ → Type 0) (r : Result ℤ TrapKind) (at : Place) → ((z : ℤ) → r ≡ Ok z → V z) → Twin g V (or_trap r at) (or_trap r at)
  or_trap_twin g V (Ok z) at v s u k = (refl, k, v z refl)
  or_trap_twin g V (Err kind) at v s u k = (refl, k)

  if_twin : (g : ℕ → Bool) {A : Type 0} (V : A → Type 0) (b : Bool) (p p' : Run X A) (q q' : Run Y A) → Twin g V p q → Twin g V p' q'
      → Twin g V (if b then p else p') (if b then q else q')
  if_twin g V true p p' q q' r r' = r
  if_twin g V false p p' q q' r r' = r'

  pub scalar_twin : (g : ℕ → Bool) (slot : ℕ) → g slot ≡ true → Twin g (IsKnown (known slot)) (scalar slot) (scalar slot)
  scalar_twin g slot e s u k = (i.scalars g s u slot e k, k, of_known (known slot) refl)
    where
      of_known : (o : Option ℤ) → known slot ≡ o → IsKnown o (scalar_in s slot)
      of_known None f = tt
      of_known (Some v) f = i.knows g s u slot v f k

  -- ---- calls
  called : (g : ℕ → Bool) (s : State X) (u : State Y) (r q : Step (Unit {0}) ℤ) → r ≡ q → K g s u → StepsMeet (K g) (Same g Any) (after_call s r) (after_call u q)
  called g s u r q e k = subst (λ z. StepsMeet (K g) (Same g Any) (after_call s r) (after_call u z)) e (of_call r)
    where
      of_call : (r : Step (Unit {0}) ℤ) → StepsMeet (K g) (Same g Any) (after_call s r) (after_call u r)
      of_call (Gave v w) = (refl, i.steps g s u w.steps k, tt)
      of_call (Ended e w) = (refl, i.steps g s u w.steps k)

  pub call_twin : (g : ℕ → Bool) (function : ℕ) (vs : List ℤ) → Twin g Any (call (left c) function vs) (call (right c) function vs)
  call_twin g function vs s u k = called g s u (c.call function vs s.steps) (c.call function vs u.steps) (ap (c.call function vs) (i.left_steps g s u k)) k

  -- ---- elements

  abbrev pub SpotGet : Spot → Type 0
  SpotGet = SpotIn c.program c.node MayGet

  abbrev IsOwn : Bool → (array image : ℕ) → Type 0
  IsOwn own array image = own ≡ true → image ≡ own_image c.program c.node array

  pub record ElementTwin (g : ℕ → Bool) (spot : Spot) (e : Element X) (f : Element Y) : Type 0 where
    pub array : e.array ≡ spot.array
    pub other_array : f.array ≡ spot.array
    pub subscripts : Twin g (MayBe spot.subscripts (extents c.program spot.array)) e.subscripts f.subscripts
    pub image : Twin g (IsOwn spot.own spot.array) e.image f.image

  -- the two numbers of one cell
  pub record OfOneCell (g : ℕ → Bool) (spot : Spot) (n m : ℤ) (s : State X) (u : State Y) : Type 0 where
    pub agree : K g s u
    pub xs : List ℕ
    pub image : ℕ
    pub may : MayBe spot.subscripts (extents c.program spot.array) xs
    pub own : IsOwn spot.own spot.array image
    pub number : n ≡ number_of c.layout c.program spot.array image xs
    pub other : m ≡ number_of c.other c.program spot.array image xs

  pub number_twin : (g : ℕ → Bool) (spot : Spot) (e : Element X) (f : Element Y) → ElementTwin g spot e f
      → (s : State X) (u : State Y) → K g s u → StepsMeet (K g) (OfOneCell g spot) (cell_number (left c) e s) (cell_number (right c) f u)
  number_twin g spot e f r s u k =
      meet_on (K g) (Same g (MayBe spot.subscripts (extents c.program spot.array))) (OfOneCell g spot) (λ xs. e.image >>= (λ image. pure (number_of c.layout c.program e.array image xs))) (λ xs. f.image >>= (λ image. pure (number_of c.other c.program f.array image xs)))
      (e.subscripts s) (f.subscripts u) (r.subscripts s u k) (λ xs ys t z m.
      meet_on (K g) (Same g (IsOwn spot.own spot.array)) (OfOneCell g spot) (λ image. pure (number_of c.layout c.program e.array image xs)) (λ image. pure (number_of c.other c.program f.array image ys)) (e.image t) (f.image z) (r.image t z m.1) (λ image other v w n.
      record {
        agree = n.1;
        xs = xs;
        image = image;
        may = m.2;
        own = n.2;
        number = ap (λ a. number_of c.layout c.program a image xs) r.array;
        other = ap (λ a. number_of c.other c.program a other ys) r.other_array
            ∙ (λ j. number_of c.other c.program spot.array (sym n.0 j) (sym m.0 j));
      }))

  get_twin : (g : ℕ → Bool) (spot : Spot) (e : Element X) (f : Element Y) → ElementTwin g spot e f → SpotGet spot
      → Twin g Any (cell_number (left c) e >>= (λ n. h.get e.array n)) (cell_number (right c) f >>= (λ n. h'.get f.array n))
  get_twin g spot e f r may s u k =
      meet_on (K g) (OfOneCell g spot) (Same g Any) (λ n. h.get e.array n) (λ n. h'.get f.array n) (cell_number (left c) e s) (cell_number (right c) f u) (number_twin g spot e f r s u k) (λ n m t z o.
      subst (λ p. StepsMeet (K g) (Same g Any) (h.get e.array n t) p) (λ j. h'.get (sym r.other_array j) (sym o.other j) z)
      (subst (λ p. StepsMeet (K g) (Same g Any) p (h'.get spot.array (number_of c.other c.program spot.array o.image o.xs) z)) (λ j. h.get (sym r.array j) (sym o.number j) t)
      (meet_weaker (K g) (K g) (λ v w t z. (v ≡ w) × K g t z) (Same g Any) (h.get spot.array (number_of c.layout c.program spot.array o.image o.xs) t) (h'.get spot.array (number_of c.other c.program spot.array o.image o.xs) z)
      (λ s u k. k) (λ a b s u q. (q.0, q.1, tt)) (i.gets g t z spot.array o.xs o.image (may o.xs o.image o.may o.own) o.agree))))

  module _ (g : ℕ → Bool) where
    abbrev pub ExprTwin : Expr → Type 0
    ExprTwin e = list_all g (seen known e).slots ≡ true → AllByRecursion SpotGet (seen known e).spots
        → Twin g (IsKnown (seen known e).value) (expr_of h (left c) e) (expr_of h' (right c) e)

    abbrev pub AccessTwin : Access → Type 0
    AccessTwin a = list_all g (seen_access known a).slots ≡ true → AllByRecursion SpotGet (seen_access known a).spots
        → ElementTwin g (seen_access known a).spot (element_of h (left c) a) (element_of h' (right c) a)

    module _ {C D : Type 0} (p : C → Expr) (q : D → Access) (j : (x : C) → ExprTwin (p x)) (l : (x : D) → AccessTwin (q x)) where
      abbrev all_seen : List C → List Seen
      all_seen cs = map (seen known) (map p cs)

      abbrev value_of : C → Option ℤ
      value_of x = (seen known (p x)).value

      abbrev run_left : C → Run X ℤ
      run_left x = expr_of h (left c) (p x)

      abbrev run_right : C → Run Y ℤ
      run_right x = expr_of h' (right c) (p x)

      items_twin : (cs : List C) (vs : List ℤ) → list_all g (flat_map (λ e. e.slots) (all_seen cs)) ≡ true → AllByRecursion SpotGet (flat_map (λ e. e.spots) (all_seen cs))
          → Twin g Any (each (map (expr_of h (left c)) (map p cs)) vs) (each (map (expr_of h' (right c)) (map p cs)) vs)
      items_twin [] vs a m = gives g Any vs tt
      items_twin (x ∷ cs) vs a m =
          let spots : _ = all_apart SpotGet (seen known (p x)).spots (flat_map (λ e. e.spots) (all_seen cs)) m in
          same_on g (IsKnown (value_of x)) Any (run_left x) (run_right x) _ _
          (j x (all_first g (seen known (p x)).slots (flat_map (λ e. e.slots) (all_seen cs)) a) spots.0)
          (λ v known_v. items_twin cs (vs ++ v ∷ []) (all_last g (seen known (p x)).slots (flat_map (λ e. e.slots) (all_seen cs)) a) spots.1)

      subscript_twin : (o : Option ℤ) (n : ℕ) (at : Place) (v : ℤ) → IsKnown o v → Twin g (λ x. (x < n) × IsKnown o (pos x)) (or_subscript (within v n) at) (or_subscript (within v n) at)
      subscript_twin o n at (pos x) known_v s u k = at_test (nat_lt x n) refl s u k
        where
          at_test : (b : Bool) → nat_lt x n ≡ b → Twin g (λ x. (x < n) × IsKnown o (pos x)) (or_subscript (if b then Some x else None) at) (or_subscript (if b then Some x else None) at)
          at_test true e s u k = (refl, k, (leb-true (suc x) n e, known_v))
          at_test false e s u k = (refl, k)
      subscript_twin o n at (negsuc x) known_v s u k = (refl, k)

      checked_twin : (cs : List C) (ns : List ℕ) (at : Place) → list_all g (flat_map (λ e. e.slots) (all_seen cs)) ≡ true → AllByRecursion SpotGet (flat_map (λ e. e.spots) (all_seen cs))
          → Twin g (MayBe (map (λ e. e.value) (all_seen cs)) ns) (checked (map (expr_of h (left c)) (map p cs)) ns at) (checked (map (expr_of h' (right c)) (map p cs)) ns at)
      checked_twin [] ns at a m s u k = (refl, k, refl)
      checked_twin (x ∷ cs) [] at a m s u k = (refl, k, refl)
      checked_twin (x ∷ cs) (n ∷ ns) at a m s u k =
          let spots : _ = all_apart SpotGet (seen known (p x)).spots (flat_map (λ e. e.spots) (all_seen cs)) m in
          same_on g (IsKnown (value_of x)) (MayBe (value_of x ∷ map (λ e. e.value) (all_seen cs)) (n ∷ ns)) (run_left x) (run_right x) _ _
          (j x (all_first g (seen known (p x)).slots (flat_map (λ e. e.slots) (all_seen cs)) a) spots.0)
          (λ v known_v. same_on g (λ y. (y < n) × IsKnown (value_of x) (pos y)) (MayBe (value_of x ∷ map (λ e. e.value) (all_seen cs)) (n ∷ ns)) (or_subscript (within v n) at) (or_subscript (within v n) at) _ _
          (subscript_twin (value_of x) n at v known_v)
          (λ y inside. same_on g (MayBe (map (λ e. e.value) (all_seen cs)) ns) (MayBe (value_of x ∷ map (λ e. e.value) (all_seen cs)) (n ∷ ns))
          (checked (map (expr_of h (left c)) (map p cs)) ns at) (checked (map (expr_of h' (right c)) (map p cs)) ns at) _ _
          (checked_twin cs ns at (all_last g (seen known (p x)).slots (flat_map (λ e. e.slots) (all_seen cs)) a) spots.1)
          (λ ys rest. gives g (MayBe (value_of x ∷ map (λ e. e.value) (all_seen cs)) (n ∷ ns)) (y ∷ ys) (inside.0, inside.1, rest)))) s u k

      abbrev of_expr : {Z : Type 0} → Handlers Z → Context → Expr-F C D → Run Z ℤ
      of_expr {Z} f cx y = expr_step f cx (map-Expr Expr Access (Run Z ℤ) (Element Z) (expr_of f cx) (element_of f cx) (map-Expr C D Expr Access p q y))

      abbrev of_seen : Expr-F C D → Seen
      of_seen y = seen_step known (map-Expr Expr Access Seen SeenElement (seen known) (seen_access known) (map-Expr C D Expr Access p q y))

      abbrev slots : C → List ℕ
      slots x = (seen known (p x)).slots

      abbrev spots_in : C → List Spot
      spots_in x = (seen known (p x)).spots

      expr_twin_step : (y : Expr-F C D) → list_all g (of_seen y).slots ≡ true → AllByRecursion SpotGet (of_seen y).spots
          → Twin g (IsKnown (of_seen y).value) (of_expr h (left c) y) (of_expr h' (right c) y)
      expr_twin_step (Expr-F.Const v ty) a m = gives g (IsKnown (Some v)) v refl
      expr_twin_step (Expr-F.Scalar slot at) a m = scalar_twin g slot (and_left (g slot) true a)
      expr_twin_step (Expr-F.Cell e) a m = get_twin g (seen_access known (q e)).spot (element_of h (left c) (q e)) (element_of h' (right c) (q e)) (l e a m.1) m.0
      expr_twin_step (Expr-F.Binary op ty e f at) a m =
          let both : _ = all_apart SpotGet (spots_in e) (spots_in f) m in
          same_on g (IsKnown (value_of e)) (IsKnown (joined_value op ty (value_of e) (value_of f))) (run_left e) (run_right e) _ _ (j e (all_first g (slots e) (slots f) a) both.0) (λ x kx.
          same_on g (IsKnown (value_of f)) (IsKnown (joined_value op ty (value_of e) (value_of f))) (run_left f) (run_right f) _ _ (j f (all_last g (slots e) (slots f) a) both.1) (λ y ky.
          or_trap_twin g (IsKnown (joined_value op ty (value_of e) (value_of f))) (binary_of op ty x y) at (λ z is. join_known op ty x y z (value_of e) (value_of f) kx ky is)))
      expr_twin_step (Expr-F.Both e f) a m =
          let both : _ = all_apart SpotGet (spots_in e) (spots_in f) m in
          same_on g (IsKnown (value_of e)) Any (run_left e) (run_right e) _ _ (j e (all_first g (slots e) (slots f) a) both.0) (λ x kx.
          if_twin g Any (is_zero x) _ _ _ _ (gives g Any (pos 0) tt)
          (same_on g (IsKnown (value_of f)) Any (run_left f) (run_right f) _ _ (j f (all_last g (slots e) (slots f) a) both.1) (λ y ky. gives g Any (as_truth y) tt)))
      expr_twin_step (Expr-F.Either e f) a m =
          let both : _ = all_apart SpotGet (spots_in e) (spots_in f) m in
          same_on g (IsKnown (value_of e)) Any (run_left e) (run_right e) _ _ (j e (all_first g (slots e) (slots f) a) both.0) (λ x kx.
          if_twin g Any (is_zero x) _ _ _ _
          (same_on g (IsKnown (value_of f)) Any (run_left f) (run_right f) _ _ (j f (all_last g (slots e) (slots f) a) both.1) (λ y ky. gives g Any (as_truth y) tt))
          (gives g Any (pos 1) tt))
      expr_twin_step (Expr-F.Choose e f d) a m =
          let first : _ = all_apart SpotGet (spots_in e) (spots_in f ++ spots_in d) m in
          let both : _ = all_apart SpotGet (spots_in f) (spots_in d) first.1 in
          let rest : _ = all_last g (slots e) (slots f ++ slots d) a in
          same_on g (IsKnown (value_of e)) Any (run_left e) (run_right e) _ _ (j e (all_first g (slots e) (slots f ++ slots d) a) first.0) (λ x kx.
          if_twin g Any (is_zero x) _ _ _ _ (unsaid (value_of d) (run_left d) (run_right d) (j d (all_last g (slots f) (slots d) rest) both.1))
          (unsaid (value_of f) (run_left f) (run_right f) (j f (all_first g (slots f) (slots d) rest) both.0)))
        where
          unsaid : (o : Option ℤ) (r : Run X ℤ) (r' : Run Y ℤ) → Twin g (IsKnown o) r r' → Twin g Any r r'
          unsaid o r r' t s u k = meet_weaker (K g) (K g) (Same g (IsKnown o)) (Same g Any) (r s) (r' u) (λ s u k. k) (λ a b s u z. (z.0, z.1, tt)) (t s u k)
      expr_twin_step (Expr-F.Convert ty e) a m =
          same_on g (IsKnown (value_of e)) (IsKnown (option_map (wrap ty) (value_of e))) (run_left e) (run_right e) _ _ (j e a m)
          (λ x kx. gives g (IsKnown (option_map (wrap ty) (value_of e))) (wrap ty x) (wrap_known ty (value_of e) x kx))
      expr_twin_step (Expr-F.Call function arguments at) a m =
          same_on g Any Any (each (map (expr_of h (left c)) (map p arguments)) []) (each (map (expr_of h' (right c)) (map p arguments)) []) _ _ (items_twin arguments [] a m) (λ vs v. call_twin g function vs)
      expr_twin_step Expr-F.Node a m = gives g Any (pos c.node) tt
      expr_twin_step Expr-F.Nodes a m = gives g Any _ tt

      abbrev of_access : {Z : Type 0} → Handlers Z → Context → Access-F C D → Element Z
      of_access {Z} f cx y = access_step cx (map-Access Expr Access (Run Z ℤ) (Element Z) (expr_of f cx) (element_of f cx) (map-Access C D Expr Access p q y))

      abbrev seen_in : Access-F C D → SeenElement
      seen_in y = seen_element (map-Access Expr Access Seen SeenElement (seen known) (seen_access known) (map-Access C D Expr Access p q y))

      access_parts : (array : ℕ) (cs : List C) (image : Option C) (at : Place)
          → list_all g (seen_in (record { array = array; subscripts = cs; image = image; at = at })).slots ≡ true
          → AllByRecursion SpotGet (seen_in (record { array = array; subscripts = cs; image = image; at = at })).spots
          → ElementTwin g (seen_in (record { array = array; subscripts = cs; image = image; at = at })).spot
          (of_access h (left c) (record { array = array; subscripts = cs; image = image; at = at }))
          (of_access h' (right c) (record { array = array; subscripts = cs; image = image; at = at }))
      access_parts array cs None at a m =
          let both : _ = all_apart SpotGet (flat_map (λ e. e.spots) (all_seen cs)) [] m in
          record {
            array = refl;
            other_array = refl;
            subscripts = checked_twin cs (extents c.program array) at (all_first g (flat_map (λ e. e.slots) (all_seen cs)) [] a) both.0;
            image = λ s u k. (refl, k, λ e. refl);
          }
      access_parts array cs (Some x) at a m =
          let both : _ = all_apart SpotGet (flat_map (λ e. e.spots) (all_seen cs)) (spots_in x) m in
          record {
            array = refl;
            other_array = refl;
            subscripts = checked_twin cs (extents c.program array) at (all_first g (flat_map (λ e. e.slots) (all_seen cs)) (slots x) a) both.0;
            image = same_on g (IsKnown (value_of x)) (IsOwn false array) (run_left x) (run_right x) _ _ (j x (all_last g (flat_map (λ e. e.slots) (all_seen cs)) (slots x) a) both.1)
                (λ v kv. gives g (IsOwn false array) (natural v) (λ e. absurd (true≢false (sym e))));
          }

      access_twin_step : (y : Access-F C D) → list_all g (seen_in y).slots ≡ true → AllByRecursion SpotGet (seen_in y).spots
          → ElementTwin g (seen_in y).spot (of_access h (left c) y) (of_access h' (right c) y)
      access_twin_step y a m = access_parts y.array y.subscripts y.image y.at a m

    expr_rolls : {u u' : Run X ℤ} {v v' : Run Y ℤ} {w w' : Seen} → u ≡ u' → v ≡ v' → w ≡ w'
        → (list_all g w'.slots ≡ true → AllByRecursion SpotGet w'.spots → Twin g (IsKnown w'.value) u' v') → list_all g w.slots ≡ true → AllByRecursion SpotGet w.spots → Twin g (IsKnown w.value) u v
    expr_rolls {u} {u'} {v} {v'} {w} {w'} a b e r =
        subst (λ z. list_all g z.slots ≡ true → AllByRecursion SpotGet z.spots → Twin g (IsKnown z.value) u v) (sym e)
        (λ m n. subst (λ z. Twin g (IsKnown w'.value) z v) (sym a) (subst (λ z. Twin g (IsKnown w'.value) u' z) (sym b) (r m n)))

    access_rolls : {u u' : Element X} {v v' : Element Y} {w w' : SeenElement} → u ≡ u' → v ≡ v' → w ≡ w'
        → (list_all g w'.slots ≡ true → AllByRecursion SpotGet w'.spots → ElementTwin g w'.spot u' v') → list_all g w.slots ≡ true → AllByRecursion SpotGet w.spots → ElementTwin g w.spot u v
    access_rolls {u} {u'} {v} {v'} {w} {w'} a b e r =
        subst (λ z. list_all g z.slots ≡ true → AllByRecursion SpotGet z.spots → ElementTwin g z.spot u v) (sym e)
        (λ m n. subst (λ z. ElementTwin g w'.spot z v) (sym a) (subst (λ z. ElementTwin g w'.spot u' z) (sym b) (r m n)))

    pub expr_twin : (e : Expr) → ExprTwin e
    expr_twin = ind-Expr ExprTwin AccessTwin
        (λ x y e. subst (λ z. ExprTwin (roll-Expr z)) e (expr_rolls (fold-roll-Expr (Run X ℤ) (Element X) (expr_step h (left c)) (access_step (left c)) _)
        (fold-roll-Expr (Run Y ℤ) (Element Y) (expr_step h' (right c)) (access_step (right c)) _) (fold-roll-Expr Seen SeenElement (seen_step known) seen_element _)
        (expr_twin_step (λ c. c.0) (λ d. d.0) (λ c. c.1) (λ d. d.1) y)))
        (λ x y e. subst (λ z. AccessTwin (roll-Access z)) e (access_rolls (fold-roll-Access (Run X ℤ) (Element X) (expr_step h (left c)) (access_step (left c)) _)
        (fold-roll-Access (Run Y ℤ) (Element Y) (expr_step h' (right c)) (access_step (right c)) _) (fold-roll-Access Seen SeenElement (seen_step known) seen_element _)
        (access_twin_step (λ c. c.0) (λ d. d.0) (λ c. c.1) (λ d. d.1) y)))

    pub access_twin : (a : Access) → AccessTwin a
    access_twin = ind-Access ExprTwin AccessTwin
        (λ x y e. subst (λ z. ExprTwin (roll-Expr z)) e (expr_rolls (fold-roll-Expr (Run X ℤ) (Element X) (expr_step h (left c)) (access_step (left c)) _)
        (fold-roll-Expr (Run Y ℤ) (Element Y) (expr_step h' (right c)) (access_step (right c)) _) (fold-roll-Expr Seen SeenElement (seen_step known) seen_element _)
        (expr_twin_step (λ c. c.0) (λ d. d.0) (λ c. c.1) (λ d. d.1) y)))
        (λ x y e. subst (λ z. AccessTwin (roll-Access z)) e (access_rolls (fold-roll-Access (Run X ℤ) (Element X) (expr_step h (left c)) (access_step (left c)) _)
        (fold-roll-Access (Run Y ℤ) (Element Y) (expr_step h' (right c)) (access_step (right c)) _) (fold-roll-Access Seen SeenElement (seen_step known) seen_element _)
        (access_twin_step (λ c. c.0) (λ d. d.0) (λ c. c.1) (λ d. d.1) y)))

    pub cell_twin : (a : Access) → list_all g (seen_access known a).slots ≡ true → AllByRecursion SpotGet (seen_access known a).spots
        → (s : State X) (u : State Y) → K g s u → StepsMeet (K g) (OfOneCell g (seen_access known a).spot) (cell_of h (left c) a s) (cell_of h' (right c) a u)
    cell_twin a m n = number_twin g (seen_access known a).spot (element_of h (left c) a) (element_of h' (right c) a) (access_twin a m n)
