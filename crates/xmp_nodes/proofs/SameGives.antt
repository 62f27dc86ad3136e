-- Expressions that are the same, places apart: where one gives a value, the other gives it too.
use Rattle.std.proofs.Common.{◌≡◌, ◌&&◌, ◌==◌, ℕ, ℤ, pos, Bool, true, false, true≢false, List, [], ◌∷◌, ◌++◌, map, Option, Some, None, Result, Ok, Err, refl, sym, subst, ap, ◌∙◌, if◌then◌else◌, eqb-true}
use Rattle.std.specs.Ordering.{int_eq}
use Rattle.std.proofs.lemmas.Bool.Decides.{Decides-int_eq}
use Rattle.xmp_base.specs.declared.place.Place.{Place}
use Rattle.xmp_num.specs.declared.types.TrapKind.{TrapKind}
use Rattle.xmp_num.specs.Arithmetic.{binary_of, wrap}
use Rattle.xmp_map.proofs.Counted.{and_left, and_right}
use Rattle.xmp_prog.specs.declared.expressions.Expr.{Expr, map-Expr, out-Expr}
use Rattle.xmp_prog.specs.declared.expressions.Access.{Access, map-Access}
use Rattle.xmp_prog.specs.declared.expressions.Expr.TheOpen.{Expr-F, Access-F}
use Rattle.xmp_prog.specs.declared.expressions.Expr.TheFolds.{ind-Expr, fold-roll-Expr, fold-roll-Access}
use Rattle.xmp_prog.specs.declared.expressions.Expr.TheViews.{roll-Expr, roll-Access, roll-out-Expr}
use Rattle.xmp_prog.specs.Fits.{node_count}
use Rattle.xmp_prog.specs.Numbers.{same_type}
use Rattle.xmp_loops.specs.Same.{same_operator, all_pass, same_form, same_element, same_step, same, same_access}
use Rattle.xmp_meaning.specs.Runs.{State, Step, Gave, Ended, Run, and_then, ◌>>=◌, pure, or_trap, scalar}
use Rattle.xmp_meaning.specs.Declarations.{extents}
use Rattle.xmp_meaning.specs.Layouts.{number_of}
use Rattle.xmp_meaning.specs.Context.{Context}
use Rattle.xmp_meaning.specs.Handlers.{erased}
use Rattle.xmp_meaning.specs.Blocks.{each}
use Rattle.xmp_meaning.specs.Expressions.{Element, expr_of, element_of, expr_step, access_step, cell_number, checked, within, or_subscript, image_of, is_zero, as_truth, natural, call}
use Rattle.xmp_meaning_laws.proofs.Values.{same_types}
use Rattle.xmp_nodes.proofs.WideBits.{same_operators}

module _ (X : Type 0) (cx : Context) where
  -- two steps that give the same value and come to the same state, or both end
  abbrev pub Alike : {A : Type 0} → Step X A → Step X A → Type 0
  Alike (Gave v t) (Gave w u) = (v ≡ w) × (t ≡ u)
  Alike (Gave v t) (Ended e u) = ⊥
  Alike (Ended e t) (Gave w u) = ⊥
  Alike (Ended e t) (Ended f u) = Unit {0}

  -- two runs that do so from each state
  abbrev pub Gives : {A : Type 0} → Run X A → Run X A → Type 0
  Gives p q = (s : State X) → Alike (p s) (q s)

  alike_same : {A : Type 0} (r : Step X A) → Alike r r
  alike_same (Gave v t) = (refl, refl)
  alike_same (Ended e t) = tt

  gives_same : {A : Type 0} (p : Run X A) → Gives p p
  gives_same p s = alike_same (p s)

  -- what one gives the other gives
  pub gave_first : {A : Type 0} (r q : Step X A) (v : A) (t : State X) → Alike r q → q ≡ Gave v t → r ≡ Gave v t
  gave_first (Gave w u) (Gave x y) v t h e = (λ j. Gave (h.0 j) (h.1 j)) ∙ e
  gave_first (Gave w u) (Ended d y) v t h e = absurd h
  gave_first (Ended d u) (Gave x y) v t h e = absurd h
  gave_first (Ended d u) (Ended f y) v t h e = cc

  pub gave_second : {A : Type 0} (r q : Step X A) (v : A) (t : State X) → Alike r q → r ≡ Gave v t → q ≡ Gave v t
  gave_second (Gave w u) (Gave x y) v t h e = (λ j. Gave (sym h.0 j) (sym h.1 j)) ∙ e
  gave_second (Gave w u) (Ended d y) v t h e = absurd h
  gave_second (Ended d u) (Gave x y) v t h e = absurd h
  gave_second (Ended d u) (Ended f y) v t h e = cc

  gives_step : {A B : Type 0} (r q : Step X A) (f g : A → Run X B) → Alike r q → ((v : A) → Gives (f v) (g v)) → Alike (and_then r f) (and_then q g)
  gives_step (Gave v t) (Gave w u) f g h k = subst (λ z. Alike (f v t) (g w z)) h.1 (subst (λ z. Alike (f v t) (g z t)) h.0 (k v t))
  gives_step (Gave v t) (Ended d u) f g h k = absurd h
  gives_step (Ended d t) (Gave w u) f g h k = absurd h
  gives_step (Ended d t) (Ended e u) f g h k = tt

  gives_on : {A B : Type 0} (p q : Run X A) (f g : A → Run X B) → Gives p q → ((v : A) → Gives (f v) (g v)) → Gives (p >>= f) (q >>= g)
  gives_on p q f g h k s = gives_step (p s) (q s) f g (h s) k

  gives_trap : {A : Type 0} (r : Result A TrapKind) (at there : Place) → Gives (or_trap r at) (or_trap r there)
  gives_trap (Ok v) at there s = (refl, refl)
  gives_trap (Err kind) at there s = tt

  gives_subscript : (o : Option ℕ) (at there : Place) → Gives (or_subscript o at) (or_subscript o there)
  gives_subscript (Some x) at there s = (refl, refl)
  gives_subscript None at there s = tt

  gives_if : {A : Type 0} (b : Bool) (p q p' q' : Run X A) → Gives p q → Gives p' q' → Gives (if b then p else p') (if b then q else q')
  gives_if true p q p' q' h i = h
  gives_if false p q p' q' h i = i

  abbrev run_of : Expr → Run X ℤ
  run_of e = expr_of erased cx e

  abbrev element_at : Access → Element X
  element_at a = element_of erased cx a

  -- an element of the same array, with such subscripts and such an image
  pub record ElementGives (e f : Element X) : Type 0 where
    pub array : e.array ≡ f.array
    pub subscripts : Gives e.subscripts f.subscripts
    pub image : Gives e.image f.image

  gives_number : (e f : Element X) → ElementGives e f → Gives (cell_number cx e) (cell_number cx f)
  gives_number e f h =
      gives_on e.subscripts f.subscripts (λ xs. e.image >>= (λ k. pure (number_of cx.layout cx.program e.array k xs))) (λ xs. f.image >>= (λ k. pure (number_of cx.layout cx.program f.array k xs))) h.subscripts
      (λ xs. gives_on e.image f.image (λ k. pure (number_of cx.layout cx.program e.array k xs)) (λ k. pure (number_of cx.layout cx.program f.array k xs)) h.image
      (λ k. subst (λ z. Gives (pure (number_of cx.layout cx.program e.array k xs)) (pure (number_of cx.layout cx.program z k xs))) h.array (gives_same (pure (number_of cx.layout cx.program e.array k xs)))))

  abbrev Same : Expr → Type 0
  Same e = (x : Expr) → same e x ≡ true → Gives (run_of e) (run_of x)

  abbrev SameElement : Access → Type 0
  SameElement a = (x : Access) → same_access a x ≡ true → ElementGives (element_at a) (element_at x)

  run_out : (x : Expr) → run_of x ≡ expr_step erased cx (map-Expr Expr Access (Run X ℤ) (Element X) run_of element_at (out-Expr x))
  run_out x = ap run_of (sym (roll-out-Expr x)) ∙ fold-roll-Expr (Run X ℤ) (Element X) (expr_step erased cx) (access_step cx) (out-Expr x)

  module _ {C D : Type 0} (p : C → Expr) (q : D → Access) (h : (c : C) → Same (p c)) (i : (d : D) → SameElement (q d)) where
    all_same : (cs : List C) (xs : List Expr) (vs : List ℤ) → all_pass (map same (map p cs)) xs ≡ true → Gives (each (map run_of (map p cs)) vs) (each (map run_of xs) vs)
    all_same [] [] vs e = gives_same (pure vs)
    all_same [] (x ∷ xs) vs e = absurd (true≢false (sym e))
    all_same (c ∷ cs) [] vs e = absurd (true≢false (sym e))
    all_same (c ∷ cs) (x ∷ xs) vs e =
        gives_on (run_of (p c)) (run_of x) (λ v. each (map run_of (map p cs)) (vs ++ v ∷ [])) (λ v. each (map run_of xs) (vs ++ v ∷ []))
        (h c x (and_left (same (p c) x) (all_pass (map same (map p cs)) xs) e)) (λ v. all_same cs xs (vs ++ v ∷ []) (and_right (same (p c) x) (all_pass (map same (map p cs)) xs) e))

    all_checked : (cs : List C) (xs : List Expr) (ns : List ℕ) (at there : Place) → all_pass (map same (map p cs)) xs ≡ true → Gives (checked (map run_of (map p cs)) ns at) (checked (map run_of xs) ns there)
    all_checked [] [] ns at there e = gives_same (pure [])
    all_checked [] (x ∷ xs) ns at there e = absurd (true≢false (sym e))
    all_checked (c ∷ cs) [] ns at there e = absurd (true≢false (sym e))
    all_checked (c ∷ cs) (x ∷ xs) [] at there e = gives_same (pure [])
    all_checked (c ∷ cs) (x ∷ xs) (n ∷ ns) at there e =
        gives_on (run_of (p c)) (run_of x) _ _ (h c x (and_left (same (p c) x) (all_pass (map same (map p cs)) xs) e)) (λ v.
        gives_on (or_subscript (within v n) at) (or_subscript (within v n) there) _ _ (gives_subscript (within v n) at there) (λ y.
        gives_on (checked (map run_of (map p cs)) ns at) (checked (map run_of xs) ns there) (λ ys. pure (y ∷ ys)) (λ ys. pure (y ∷ ys)) (all_checked cs xs ns at there (and_right (same (p c) x) (all_pass (map same (map p cs)) xs) e))
        (λ ys. gives_same (pure (y ∷ ys)))))

    abbrev of_run : Expr-F C D → Run X ℤ
    of_run y = expr_step erased cx (map-Expr Expr Access (Run X ℤ) (Element X) run_of element_at (map-Expr C D Expr Access p q y))

    abbrev out_run : Expr-F Expr Access → Run X ℤ
    out_run z = expr_step erased cx (map-Expr Expr Access (Run X ℤ) (Element X) run_of element_at z)

    abbrev of_test : Expr-F C D → Expr-F Expr Access → Bool
    of_test y z = same_form (map-Expr Expr Access (Expr → Bool) (Access → Bool) same same_access (map-Expr C D Expr Access p q y)) z

    same_out : (y : Expr-F C D) (z : Expr-F Expr Access) → of_test y z ≡ true → Gives (of_run y) (out_run z)
    same_out (Expr-F.Const v ty) (Expr-F.Const w uy) e = let k : v ≡ w = (Decides-int_eq v w).0 (and_left (int_eq v w) (same_type ty uy) e) in subst (λ z. Gives (pure v) (pure z)) k (gives_same (pure v))
    same_out (Expr-F.Const v ty) (Expr-F.Scalar other there) e = absurd (true≢false (sym e))
    same_out (Expr-F.Const v ty) (Expr-F.Cell x) e = absurd (true≢false (sym e))
    same_out (Expr-F.Const v ty) (Expr-F.Binary q uy x y there) e = absurd (true≢false (sym e))
    same_out (Expr-F.Const v ty) (Expr-F.Both x y) e = absurd (true≢false (sym e))
    same_out (Expr-F.Const v ty) (Expr-F.Either x y) e = absurd (true≢false (sym e))
    same_out (Expr-F.Const v ty) (Expr-F.Choose x y z) e = absurd (true≢false (sym e))
    same_out (Expr-F.Const v ty) (Expr-F.Convert uy x) e = absurd (true≢false (sym e))
    same_out (Expr-F.Const v ty) (Expr-F.Call other values there) e = absurd (true≢false (sym e))
    same_out (Expr-F.Const v ty) Expr-F.Node e = absurd (true≢false (sym e))
    same_out (Expr-F.Const v ty) Expr-F.Nodes e = absurd (true≢false (sym e))
    same_out (Expr-F.Scalar slot at) (Expr-F.Const w uy) e = absurd (true≢false (sym e))
    same_out (Expr-F.Scalar slot at) (Expr-F.Scalar other there) e = subst (λ z. Gives (scalar slot) (scalar z)) (eqb-true slot other e) (gives_same (scalar slot))
    same_out (Expr-F.Scalar slot at) (Expr-F.Cell x) e = absurd (true≢false (sym e))
    same_out (Expr-F.Scalar slot at) (Expr-F.Binary q uy x y there) e = absurd (true≢false (sym e))
    same_out (Expr-F.Scalar slot at) (Expr-F.Both x y) e = absurd (true≢false (sym e))
    same_out (Expr-F.Scalar slot at) (Expr-F.Either x y) e = absurd (true≢false (sym e))
    same_out (Expr-F.Scalar slot at) (Expr-F.Choose x y z) e = absurd (true≢false (sym e))
    same_out (Expr-F.Scalar slot at) (Expr-F.Convert uy x) e = absurd (true≢false (sym e))
    same_out (Expr-F.Scalar slot at) (Expr-F.Call other values there) e = absurd (true≢false (sym e))
    same_out (Expr-F.Scalar slot at) Expr-F.Node e = absurd (true≢false (sym e))
    same_out (Expr-F.Scalar slot at) Expr-F.Nodes e = absurd (true≢false (sym e))
    same_out (Expr-F.Cell a) (Expr-F.Const w uy) e = absurd (true≢false (sym e))
    same_out (Expr-F.Cell a) (Expr-F.Scalar other there) e = absurd (true≢false (sym e))
    same_out (Expr-F.Cell a) (Expr-F.Cell x) e =
        let k : _ = i a x e in
        gives_on (cell_number cx (element_at (q a))) (cell_number cx (element_at x)) (λ n. erased.get (element_at (q a)).array n) (λ n. erased.get (element_at x).array n) (gives_number (element_at (q a)) (element_at x) k)
        (λ n. subst (λ z. Gives (erased.get (element_at (q a)).array n) (erased.get z n)) k.array (gives_same (erased.get (element_at (q a)).array n)))
    same_out (Expr-F.Cell a) (Expr-F.Binary q uy x y there) e = absurd (true≢false (sym e))
    same_out (Expr-F.Cell a) (Expr-F.Both x y) e = absurd (true≢false (sym e))
    same_out (Expr-F.Cell a) (Expr-F.Either x y) e = absurd (true≢false (sym e))
    same_out (Expr-F.Cell a) (Expr-F.Choose x y z) e = absurd (true≢false (sym e))
    same_out (Expr-F.Cell a) (Expr-F.Convert uy x) e = absurd (true≢false (sym e))
    same_out (Expr-F.Cell a) (Expr-F.Call other values there) e = absurd (true≢false (sym e))
    same_out (Expr-F.Cell a) Expr-F.Node e = absurd (true≢false (sym e))
    same_out (Expr-F.Cell a) Expr-F.Nodes e = absurd (true≢false (sym e))
    same_out (Expr-F.Binary o ty a b at) (Expr-F.Const w uy) e = absurd (true≢false (sym e))
    same_out (Expr-F.Binary o ty a b at) (Expr-F.Scalar other there) e = absurd (true≢false (sym e))
    same_out (Expr-F.Binary o ty a b at) (Expr-F.Cell x) e = absurd (true≢false (sym e))
    same_out (Expr-F.Binary o ty a b at) (Expr-F.Binary q' uy x y there) e =
        let first : _ = and_left (same_operator o q') (same_type ty uy && (same (p a) x && same (p b) y)) e in
        let rest : _ = and_right (same_operator o q') (same_type ty uy && (same (p a) x && same (p b) y)) e in
        let both : _ = and_right (same_type ty uy) (same (p a) x && same (p b) y) rest in
        gives_on (run_of (p a)) (run_of x) (λ v. run_of (p b) >>= (λ w. or_trap (binary_of o ty v w) at)) (λ v. run_of y >>= (λ w. or_trap (binary_of q' uy v w) there)) (h a x (and_left (same (p a) x) (same (p b) y) both)) (λ v.
        gives_on (run_of (p b)) (run_of y) (λ w. or_trap (binary_of o ty v w) at) (λ w. or_trap (binary_of q' uy v w) there) (h b y (and_right (same (p a) x) (same (p b) y) both)) (λ w.
        subst (λ r. Gives (or_trap (binary_of o ty v w) at) (or_trap r there)) (λ j. binary_of (same_operators o q' first j) (same_types ty uy (and_left (same_type ty uy) (same (p a) x && same (p b) y) rest) j) v w) (gives_trap (binary_of o ty v w) at there)))
    same_out (Expr-F.Binary o ty a b at) (Expr-F.Both x y) e = absurd (true≢false (sym e))
    same_out (Expr-F.Binary o ty a b at) (Expr-F.Either x y) e = absurd (true≢false (sym e))
    same_out (Expr-F.Binary o ty a b at) (Expr-F.Choose x y z) e = absurd (true≢false (sym e))
    same_out (Expr-F.Binary o ty a b at) (Expr-F.Convert uy x) e = absurd (true≢false (sym e))
    same_out (Expr-F.Binary o ty a b at) (Expr-F.Call other values there) e = absurd (true≢false (sym e))
    same_out (Expr-F.Binary o ty a b at) Expr-F.Node e = absurd (true≢false (sym e))
    same_out (Expr-F.Binary o ty a b at) Expr-F.Nodes e = absurd (true≢false (sym e))
    same_out (Expr-F.Both a b) (Expr-F.Const w uy) e = absurd (true≢false (sym e))
    same_out (Expr-F.Both a b) (Expr-F.Scalar other there) e = absurd (true≢false (sym e))
    same_out (Expr-F.Both a b) (Expr-F.Cell x) e = absurd (true≢false (sym e))
    same_out (Expr-F.Both a b) (Expr-F.Binary q uy x y there) e = absurd (true≢false (sym e))
    same_out (Expr-F.Both a b) (Expr-F.Both x y) e =
        gives_on (run_of (p a)) (run_of x) _ _ (h a x (and_left (same (p a) x) (same (p b) y) e)) (λ v. gives_if (is_zero v) (pure (pos 0)) (pure (pos 0)) _ _ (gives_same (pure (pos 0)))
        (gives_on (run_of (p b)) (run_of y) (λ w. pure (as_truth w)) (λ w. pure (as_truth w)) (h b y (and_right (same (p a) x) (same (p b) y) e)) (λ w. gives_same (pure (as_truth w)))))
    same_out (Expr-F.Both a b) (Expr-F.Either x y) e = absurd (true≢false (sym e))
    same_out (Expr-F.Both a b) (Expr-F.Choose x y z) e = absurd (true≢false (sym e))
    same_out (Expr-F.Both a b) (Expr-F.Convert uy x) e = absurd (true≢false (sym e))
    same_out (Expr-F.Both a b) (Expr-F.Call other values there) e = absurd (true≢false (sym e))
    same_out (Expr-F.Both a b) Expr-F.Node e = absurd (true≢false (sym e))
    same_out (Expr-F.Both a b) Expr-F.Nodes e = absurd (true≢false (sym e))
    same_out (Expr-F.Either a b) (Expr-F.Const w uy) e = absurd (true≢false (sym e))
    same_out (Expr-F.Either a b) (Expr-F.Scalar other there) e = absurd (true≢false (sym e))
    same_out (Expr-F.Either a b) (Expr-F.Cell x) e = absurd (true≢false (sym e))
    same_out (Expr-F.Either a b) (Expr-F.Binary q uy x y there) e = absurd (true≢false (sym e))
    same_out (Expr-F.Either a b) (Expr-F.Both x y) e = absurd (true≢false (sym e))
    same_out (Expr-F.Either a b) (Expr-F.Either x y) e =
        gives_on (run_of (p a)) (run_of x) _ _ (h a x (and_left (same (p a) x) (same (p b) y) e)) (λ v. gives_if (is_zero v) _ _ (pure (pos 1)) (pure (pos 1))
        (gives_on (run_of (p b)) (run_of y) (λ w. pure (as_truth w)) (λ w. pure (as_truth w)) (h b y (and_right (same (p a) x) (same (p b) y) e)) (λ w. gives_same (pure (as_truth w)))) (gives_same (pure (pos 1))))
    same_out (Expr-F.Either a b) (Expr-F.Choose x y z) e = absurd (true≢false (sym e))
    same_out (Expr-F.Either a b) (Expr-F.Convert uy x) e = absurd (true≢false (sym e))
    same_out (Expr-F.Either a b) (Expr-F.Call other values there) e = absurd (true≢false (sym e))
    same_out (Expr-F.Either a b) Expr-F.Node e = absurd (true≢false (sym e))
    same_out (Expr-F.Either a b) Expr-F.Nodes e = absurd (true≢false (sym e))
    same_out (Expr-F.Choose a b c) (Expr-F.Const w uy) e = absurd (true≢false (sym e))
    same_out (Expr-F.Choose a b c) (Expr-F.Scalar other there) e = absurd (true≢false (sym e))
    same_out (Expr-F.Choose a b c) (Expr-F.Cell x) e = absurd (true≢false (sym e))
    same_out (Expr-F.Choose a b c) (Expr-F.Binary q uy x y there) e = absurd (true≢false (sym e))
    same_out (Expr-F.Choose a b c) (Expr-F.Both x y) e = absurd (true≢false (sym e))
    same_out (Expr-F.Choose a b c) (Expr-F.Either x y) e = absurd (true≢false (sym e))
    same_out (Expr-F.Choose a b c) (Expr-F.Choose x y z) e =
        let rest : _ = and_right (same (p a) x) (same (p b) y && same (p c) z) e in
        gives_on (run_of (p a)) (run_of x) _ _ (h a x (and_left (same (p a) x) (same (p b) y && same (p c) z) e)) (λ v. gives_if (is_zero v) (run_of (p c)) (run_of z) (run_of (p b)) (run_of y)
        (h c z (and_right (same (p b) y) (same (p c) z) rest)) (h b y (and_left (same (p b) y) (same (p c) z) rest)))
    same_out (Expr-F.Choose a b c) (Expr-F.Convert uy x) e = absurd (true≢false (sym e))
    same_out (Expr-F.Choose a b c) (Expr-F.Call other values there) e = absurd (true≢false (sym e))
    same_out (Expr-F.Choose a b c) Expr-F.Node e = absurd (true≢false (sym e))
    same_out (Expr-F.Choose a b c) Expr-F.Nodes e = absurd (true≢false (sym e))
    same_out (Expr-F.Convert ty a) (Expr-F.Const w uy) e = absurd (true≢false (sym e))
    same_out (Expr-F.Convert ty a) (Expr-F.Scalar other there) e = absurd (true≢false (sym e))
    same_out (Expr-F.Convert ty a) (Expr-F.Cell x) e = absurd (true≢false (sym e))
    same_out (Expr-F.Convert ty a) (Expr-F.Binary q uy x y there) e = absurd (true≢false (sym e))
    same_out (Expr-F.Convert ty a) (Expr-F.Both x y) e = absurd (true≢false (sym e))
    same_out (Expr-F.Convert ty a) (Expr-F.Either x y) e = absurd (true≢false (sym e))
    same_out (Expr-F.Convert ty a) (Expr-F.Choose x y z) e = absurd (true≢false (sym e))
    same_out (Expr-F.Convert ty a) (Expr-F.Convert uy x) e =
        gives_on (run_of (p a)) (run_of x) (λ v. pure (wrap ty v)) (λ v. pure (wrap uy v)) (h a x (and_right (same_type ty uy) (same (p a) x) e)) (λ v.
        subst (λ z. Gives (pure (wrap ty v)) (pure (wrap z v))) (same_types ty uy (and_left (same_type ty uy) (same (p a) x) e)) (gives_same (pure (wrap ty v))))
    same_out (Expr-F.Convert ty a) (Expr-F.Call other values there) e = absurd (true≢false (sym e))
    same_out (Expr-F.Convert ty a) Expr-F.Node e = absurd (true≢false (sym e))
    same_out (Expr-F.Convert ty a) Expr-F.Nodes e = absurd (true≢false (sym e))
    same_out (Expr-F.Call function arguments at) (Expr-F.Const w uy) e = absurd (true≢false (sym e))
    same_out (Expr-F.Call function arguments at) (Expr-F.Scalar other there) e = absurd (true≢false (sym e))
    same_out (Expr-F.Call function arguments at) (Expr-F.Cell x) e = absurd (true≢false (sym e))
    same_out (Expr-F.Call function arguments at) (Expr-F.Binary q uy x y there) e = absurd (true≢false (sym e))
    same_out (Expr-F.Call function arguments at) (Expr-F.Both x y) e = absurd (true≢false (sym e))
    same_out (Expr-F.Call function arguments at) (Expr-F.Either x y) e = absurd (true≢false (sym e))
    same_out (Expr-F.Call function arguments at) (Expr-F.Choose x y z) e = absurd (true≢false (sym e))
    same_out (Expr-F.Call function arguments at) (Expr-F.Convert uy x) e = absurd (true≢false (sym e))
    same_out (Expr-F.Call function arguments at) (Expr-F.Call other values there) e =
        gives_on (each (map run_of (map p arguments)) []) (each (map run_of values) []) (λ vs. call cx function vs) (λ vs. call cx other vs) (all_same arguments values [] (and_right (function == other) (all_pass (map same (map p arguments)) values) e)) (λ vs.
        subst (λ z. Gives (call cx function vs) (call cx z vs)) (eqb-true function other (and_left (function == other) (all_pass (map same (map p arguments)) values) e)) (gives_same (call cx function vs)))
    same_out (Expr-F.Call function arguments at) Expr-F.Node e = absurd (true≢false (sym e))
    same_out (Expr-F.Call function arguments at) Expr-F.Nodes e = absurd (true≢false (sym e))
    same_out Expr-F.Node (Expr-F.Const w uy) e = absurd (true≢false (sym e))
    same_out Expr-F.Node (Expr-F.Scalar other there) e = absurd (true≢false (sym e))
    same_out Expr-F.Node (Expr-F.Cell x) e = absurd (true≢false (sym e))
    same_out Expr-F.Node (Expr-F.Binary q uy x y there) e = absurd (true≢false (sym e))
    same_out Expr-F.Node (Expr-F.Both x y) e = absurd (true≢false (sym e))
    same_out Expr-F.Node (Expr-F.Either x y) e = absurd (true≢false (sym e))
    same_out Expr-F.Node (Expr-F.Choose x y z) e = absurd (true≢false (sym e))
    same_out Expr-F.Node (Expr-F.Convert uy x) e = absurd (true≢false (sym e))
    same_out Expr-F.Node (Expr-F.Call other values there) e = absurd (true≢false (sym e))
    same_out Expr-F.Node Expr-F.Node e = gives_same (pure (pos cx.node))
    same_out Expr-F.Node Expr-F.Nodes e = absurd (true≢false (sym e))
    same_out Expr-F.Nodes (Expr-F.Const w uy) e = absurd (true≢false (sym e))
    same_out Expr-F.Nodes (Expr-F.Scalar other there) e = absurd (true≢false (sym e))
    same_out Expr-F.Nodes (Expr-F.Cell x) e = absurd (true≢false (sym e))
    same_out Expr-F.Nodes (Expr-F.Binary q uy x y there) e = absurd (true≢false (sym e))
    same_out Expr-F.Nodes (Expr-F.Both x y) e = absurd (true≢false (sym e))
    same_out Expr-F.Nodes (Expr-F.Either x y) e = absurd (true≢false (sym e))
    same_out Expr-F.Nodes (Expr-F.Choose x y z) e = absurd (true≢false (sym e))
    same_out Expr-F.Nodes (Expr-F.Convert uy x) e = absurd (true≢false (sym e))
    same_out Expr-F.Nodes (Expr-F.Call other values there) e = absurd (true≢false (sym e))
    same_out Expr-F.Nodes Expr-F.Node e = absurd (true≢false (sym e))
    same_out Expr-F.Nodes Expr-F.Nodes e = gives_same (pure (pos (node_count cx.program)))

    abbrev of_element : Access-F C D → Element X
    of_element y = access_step cx (map-Access Expr Access (Run X ℤ) (Element X) run_of element_at (map-Access C D Expr Access p q y))

    abbrev out_element : Access-F Expr Access → Element X
    out_element z = access_step cx (map-Access Expr Access (Run X ℤ) (Element X) run_of element_at z)

    abbrev element_test : Access-F C D → Access → Bool
    element_test y x = same_element (map-Access Expr Access (Expr → Bool) (Access → Bool) same same_access (map-Access C D Expr Access p q y)) x

    -- the array and the subscripts, where the images are alike
    parts_same : (array other : ℕ) (cs : List C) (xs : List Expr) (at there : Place) (image image' : Run X ℕ) → array ≡ other → all_pass (map same (map p cs)) xs ≡ true → Gives image image'
        → ElementGives (record { array = array; subscripts = checked (map run_of (map p cs)) (extents cx.program array) at; image = image })
        (record { array = other; subscripts = checked (map run_of xs) (extents cx.program other) there; image = image' })
    parts_same array other cs xs at there image image' e f k = record {
      array = e;
      subscripts = subst (λ z. Gives (checked (map run_of (map p cs)) (extents cx.program array) at) (checked (map run_of xs) (extents cx.program z) there)) e (all_checked cs xs (extents cx.program array) at there f);
      image = k;
    }

    image_same : (array other : ℕ) → array ≡ other → Gives (image_of cx array None) (image_of cx other None)
    image_same array other e = subst (λ z. Gives (image_of cx array None) (image_of cx z None)) e (gives_same (image_of cx array None))

    access_same : (array other : ℕ) (cs : List C) (xs : List Expr) (o : Option C) (r : Option Expr) (at there : Place)
        → element_test (record { array = array; subscripts = cs; image = o; at = at }) (record { array = other; subscripts = xs; image = r; at = there }) ≡ true
        → ElementGives (of_element (record { array = array; subscripts = cs; image = o; at = at })) (out_element (record { array = other; subscripts = xs; image = r; at = there }))
    access_same array other cs xs None None at there e =
        let same_array : array ≡ other = eqb-true array other (and_left (array == other) (all_pass (map same (map p cs)) xs && true) e) in
        parts_same array other cs xs at there (image_of cx array None) (image_of cx other None) same_array (and_left (all_pass (map same (map p cs)) xs) true (and_right (array == other) (all_pass (map same (map p cs)) xs && true) e))
        (image_same array other same_array)
    access_same array other cs xs None (Some x) at there e =
        absurd (true≢false (sym (and_right (all_pass (map same (map p cs)) xs) false (and_right (array == other) (all_pass (map same (map p cs)) xs && false) e))))
    access_same array other cs xs (Some c) None at there e =
        absurd (true≢false (sym (and_right (all_pass (map same (map p cs)) xs) false (and_right (array == other) (all_pass (map same (map p cs)) xs && false) e))))
    access_same array other cs xs (Some c) (Some x) at there e =
        let rest : _ = and_right (array == other) (all_pass (map same (map p cs)) xs && same (p c) x) e in
        parts_same array other cs xs at there (run_of (p c) >>= (λ k. pure (natural k))) (run_of x >>= (λ k. pure (natural k))) (eqb-true array other (and_left (array == other) (all_pass (map same (map p cs)) xs && same (p c) x) e))
        (and_left (all_pass (map same (map p cs)) xs) (same (p c) x) rest)
        (gives_on (run_of (p c)) (run_of x) (λ k. pure (natural k)) (λ k. pure (natural k)) (h c x (and_right (all_pass (map same (map p cs)) xs) (same (p c) x) rest)) (λ k. gives_same (pure (natural k))))

    expr_same : (y : Expr-F C D) → Same (roll-Expr (map-Expr C D Expr Access p q y))
    expr_same y x e =
        subst (λ r. Gives r (run_of x)) (sym (fold-roll-Expr (Run X ℤ) (Element X) (expr_step erased cx) (access_step cx) (map-Expr C D Expr Access p q y)))
        (subst (Gives (of_run y)) (sym (run_out x))
        (same_out y (out-Expr x) (subst (λ t. t x ≡ true) (fold-roll-Expr (Expr → Bool) (Access → Bool) same_step same_element (map-Expr C D Expr Access p q y)) e)))

    element_same : (y : Access-F C D) → SameElement (roll-Access (map-Access C D Expr Access p q y))
    element_same y x e =
        subst (λ r. ElementGives r (element_at x)) (sym (fold-roll-Access (Run X ℤ) (Element X) (expr_step erased cx) (access_step cx) (map-Access C D Expr Access p q y)))
        (subst (ElementGives (of_element y)) (sym (fold-roll-Access (Run X ℤ) (Element X) (expr_step erased cx) (access_step cx) (record { array = x.array; subscripts = x.subscripts; image = x.image; at = x.at })))
        (access_same y.array x.array y.subscripts x.subscripts y.image x.image y.at x.at
        (subst (λ t. t x ≡ true) (fold-roll-Access (Expr → Bool) (Access → Bool) same_step same_element (map-Access C D Expr Access p q y)) e)))

  -- expressions that are the same, places apart
  pub same_gives : (e : Expr) → Same e
  same_gives = ind-Expr Same SameElement
      (λ x y e. subst (λ z. Same (roll-Expr z)) e (expr_same (λ c. c.0) (λ d. d.0) (λ c. c.1) (λ d. d.1) y))
      (λ x y e. subst (λ z. SameElement (roll-Access z)) e (element_same (λ c. c.0) (λ d. d.0) (λ c. c.1) (λ d. d.1) y))
