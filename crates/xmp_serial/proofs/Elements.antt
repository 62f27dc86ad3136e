use Rattle.std.proofs.Common.{◌≡◌, ◌<◌, ◌*◌, ◌+ℤ◌, ◌*ℤ◌, ℕ, ℤ, zero, suc, pos, negsuc, List, [], ◌∷◌, Bool, true, false, Option, Some, None, refl, ap, ◌∙◌, sym, subst, map, nat_lt, if◌then◌else◌, Result, Ok, Err}
use Rattle.std.proofs.lemmas.Bool.{ltb-true}
use Rattle.xmp_base.specs.declared.place.Place.{Place}
use Rattle.xmp_meaning.specs.declared.ends.End.{End}
use Rattle.xmp_meaning.specs.Runs.{State, Step, Gave, Ended, Run, Does, and_then, pure}
use Rattle.xmp_meaning.specs.Layouts as layouts
use Rattle.xmp_meaning.specs.Layouts.{axes, number_from}
use Rattle.xmp_meaning.specs.Expressions.{Element, access_step, cell_number, cell_of, checked, expr_of, expr_step, image_of, natural, within, or_subscript}
use Rattle.xmp_meaning.specs.Handlers.{erased}
use Rattle.xmp_meaning.specs.Context.{Context}
use Rattle.xmp_meaning.specs.Declarations.{extents, is_coarray}
use Rattle.xmp_map.specs.RowMajor.{product}
use Rattle.xmp_prog.specs.declared.expressions.Expr.{Expr}
use Rattle.xmp_prog.specs.declared.expressions.Access.{Access, out-Access}
use Rattle.xmp_prog.specs.declared.expressions.Expr.TheFolds.{fold-Expr, fold-Access, map-Access, fold_out-Access}
use Rattle.xmp_meaning.specs.declared.ends.Halt.{Halt}
use Rattle.xmp_meaning.specs.declared.ends.Halt.TheVariants as halt
use Rattle.xmp_serial.specs.Ends.{OrNoMemory}
use Rattle.xmp_serial.proofs.Steps.{done}
use Rattle.xmp_serial.specs.declared.lines.Axis.{Axis}
use Rattle.xmp_serial.specs.Lines.{AreAxes, IsAxis, number_along, position_of}

-- ---- subscripts

within_some : (b : Bool) (k x : ℕ) → ◌≡◌ {A = Option ℕ} (if b then Some k else None) (Some x) → (b ≡ true) × (k ≡ x)
within_some true k x e = (refl, cc)
within_some false k x e = absurd (cc)

-- a subscript that is inside lies below the extent
pub within_below : (v : ℤ) (n x : ℕ) → within v n ≡ Some x → x < n
within_below (pos k) n x e =
    let h : (nat_lt k n ≡ true) × (k ≡ x) = within_some (nat_lt k n) k x e in
    let P : ℕ → Type 0 = λ y. y < n in
    subst P h.1 (ltb-true k n h.0)
within_below (negsuc k) n x e = absurd (cc)

module _ {A : Type 0} (k : List ℕ → Run (Unit {0}) A) where
  -- what follows one subscript more
  pushed_then : (x : ℕ) (m : Step (Unit {0}) (List ℕ)) → and_then (and_then m (λ xs. pure (x ∷ xs))) k ≡ and_then m (λ xs. k (x ∷ xs))
  pushed_then x (Gave xs t) = refl
  pushed_then x (Ended e t) = refl

  -- a subscript that is evaluated and inside
  pub one_checked : (e : Run (Unit {0}) ℤ) (es : List (Run (Unit {0}) ℤ)) (n : ℕ) (ns : List ℕ) (at : Place) (s t : State (Unit {0})) (v : ℤ) (x : ℕ)
      → e s ≡ Gave v t → within v n ≡ Some x → and_then (checked (e ∷ es) (n ∷ ns) at s) k ≡ and_then (checked es ns at t) (λ xs. k (x ∷ xs))
  one_checked e es n ns at s t v x a b = rw (a, b) (pushed_then x (checked es ns at t))

-- ---- numbers by the axes

-- what is done with the number of the checked subscripts is done with the value of the run that gives it
pub number_then : {A : Type 0} (m : Step (Unit {0}) (List ℕ)) (f : List ℕ → ℤ) (z : ℤ) (t : State (Unit {0})) (k : ℤ → Run (Unit {0}) A)
    → and_then m (λ xs. pure (f xs)) ≡ Gave z t → and_then m (λ xs. k (f xs)) ≡ k z t
number_then (Gave xs u) f z t k e = cc
number_then (Ended e u) f z t k h = absurd (cc)

pub number_ended : {A : Type 0} (m : Step (Unit {0}) (List ℕ)) (f : List ℕ → ℤ) (e : End) (t : State (Unit {0})) (k : ℤ → Run (Unit {0}) A)
    → and_then m (λ xs. pure (f xs)) ≡ Ended e t → and_then m (λ xs. k (f xs)) ≡ Ended e t
number_ended (Gave xs u) f e t k h = absurd (cc)
number_ended (Ended d u) f e t k h = cc

-- ---- by the axes of the interpreter and by those of the meaning

none_from : (ms : List layouts.Axis) (z : ℤ) (s : State (Unit {0})) → ◌≡◌ {A = Step (Unit {0}) ℤ} (Gave z s) (Gave (number_from ms z []) s)
none_from [] z s = refl
none_from (m ∷ ms) z s = refl

module _ (es : List (Run (Unit {0}) ℤ)) (bs : List Axis) (ns : List ℕ) (ms : List layouts.Axis) (at : Place) (z : ℤ) (b : Axis) (n : ℕ) (m : layouts.Axis) (h : IsAxis b n m)
    (same : (y : ℤ) (t : State (Unit {0})) → and_then (checked es (map (λ a. a.extent) bs) at t) (λ xs. pure (number_along bs y xs))
    ≡ and_then (checked es ns at t) (λ xs. pure (number_from ms y xs))) where
  along_inside : (x : ℕ) (t : State (Unit {0})) → x < n
      → and_then (and_then (checked es (map (λ a. a.extent) bs) at t) (λ xs. pure (x ∷ xs))) (λ xs. pure (number_along (b ∷ bs) z xs))
      ≡ and_then (and_then (checked es ns at t) (λ xs. pure (x ∷ xs))) (λ xs. pure (number_from (m ∷ ms) z xs))
  along_inside x t lt =
      pushed_then (λ xs. pure (number_along (b ∷ bs) z xs)) x (checked es (map (λ a. a.extent) bs) at t)
      ∙ same ((z *ℤ pos b.held) +ℤ position_of b.reach x) t
      ∙ ap (λ (y : ℤ). and_then (checked es ns at t) (λ xs. pure (number_from ms y xs)))
      (ap (λ (c : ℕ). (z *ℤ pos c) +ℤ position_of b.reach x) h.count ∙ ap (λ (q : ℤ). (z *ℤ pos m.count) +ℤ q) (h.position x lt))
      ∙ sym (pushed_then (λ xs. pure (number_from (m ∷ ms) z xs)) x (checked es ns at t))

  along_one : (v : ℤ) (t : State (Unit {0})) (o : Option ℕ) → within v n ≡ o
      → and_then (and_then (or_subscript o at t) (λ x u. and_then (checked es (map (λ a. a.extent) bs) at u) (λ xs. pure (x ∷ xs)))) (λ xs. pure (number_along (b ∷ bs) z xs))
      ≡ and_then (and_then (or_subscript o at t) (λ x u. and_then (checked es ns at u) (λ xs. pure (x ∷ xs)))) (λ xs. pure (number_from (m ∷ ms) z xs))
  along_one v t None e = refl
  along_one v t (Some x) e = along_inside x t (within_below v n x e)

  along_step : (r : Step (Unit {0}) ℤ)
      → and_then (and_then r (λ v u. and_then (or_subscript (within v n) at u) (λ x w. and_then (checked es (map (λ a. a.extent) bs) at w) (λ xs. pure (x ∷ xs))))) (λ xs. pure (number_along (b ∷ bs) z xs))
      ≡ and_then (and_then r (λ v u. and_then (or_subscript (within v n) at u) (λ x w. and_then (checked es ns at w) (λ xs. pure (x ∷ xs))))) (λ xs. pure (number_from (m ∷ ms) z xs))
  along_step (Gave v t) = along_one v t (within v n) refl
  along_step (Ended e t) = refl

-- checked subscripts have one number
pub along : (es : List (Run (Unit {0}) ℤ)) (bs : List Axis) (ns : List ℕ) (ms : List layouts.Axis) (at : Place) (z : ℤ) (s : State (Unit {0})) → AreAxes bs ns ms
    → and_then (checked es (map (λ a. a.extent) bs) at s) (λ xs. pure (number_along bs z xs)) ≡ and_then (checked es ns at s) (λ xs. pure (number_from ms z xs))
along [] bs ns ms at z s h = none_from ms z s
along (e ∷ es) [] [] [] at z s h = refl
along (e ∷ es) [] [] (m ∷ ms) at z s h = absurd h
along (e ∷ es) [] (n ∷ ns) ms at z s h = absurd h
along (e ∷ es) (b ∷ bs) [] ms at z s h = absurd h
along (e ∷ es) (b ∷ bs) (n ∷ ns) [] at z s h = absurd h
along (e ∷ es) (b ∷ bs) (n ∷ ns) (m ∷ ms) at z s h =
    ap (λ (k : ℕ). and_then (and_then (e s) (λ v u. and_then (or_subscript (within v k) at u) (λ x w. and_then (checked es (map (λ a. a.extent) bs) at w) (λ xs. pure (x ∷ xs))))) (λ xs. pure (number_along (b ∷ bs) z xs))) h.0.extent_is
    ∙ along_step es bs ns ms at z b n m h.0 (λ y t. along es bs ns ms at y t h.1) (e s)

-- ---- which cell an element is

-- a value that is had, or want of memory
or_does : (a : ℤ) (r : Result ℤ Halt) (t : State (Unit {0})) → OrNoMemory a r → Does {S = State (Unit {0})} (Gave a t) r t
or_does a (Ok b) t h = ap (λ (x : ℤ). Gave x t) (sym h)
or_does a (Err (halt.End e)) t h = absurd h
or_does a (Err halt.NoMemory) t h = tt

-- an element, one layer opened
abbrev opened : Context → Access → Element (Unit {0})
opened cx a = access_step cx (map-Access Expr Access (Run (Unit {0}) ℤ) (Element (Unit {0}))
    (fold-Expr (Run (Unit {0}) ℤ) (Element (Unit {0})) (expr_step erased cx) (access_step cx))
    (fold-Access (Run (Unit {0}) ℤ) (Element (Unit {0})) (expr_step erased cx) (access_step cx)) (out-Access a))

cell_opened : (cx : Context) (a : Access) (s : State (Unit {0})) → cell_of {X = Unit {0}} erased cx a s ≡ cell_number cx (opened cx a) s
cell_opened cx a s = ap (λ (x : Element (Unit {0})). cell_number cx x s) (fold_out-Access (Run (Unit {0}) ℤ) (Element (Unit {0})) (expr_step erased cx) (access_step cx) a)

module _ (cx : Context) (a : Access) (bs : List Axis) (h : AreAxes bs (extents cx.program a.array) (axes cx.layout cx.program a.array))
    (subs : List Expr) (is : subs ≡ a.subscripts) (s t : State (Unit {0})) where
  by_meaning : Step (Unit {0}) ℤ
  by_meaning = and_then (checked (map (expr_of {X = Unit {0}} erased cx) a.subscripts) (extents cx.program a.array) a.at s) (λ xs. pure (number_from (axes cx.layout cx.program a.array) (pos 0) xs))

  meant : by_meaning ≡ and_then (checked (map (expr_of {X = Unit {0}} erased cx) subs) (map (λ b. b.extent) bs) a.at s) (λ xs. pure (number_along bs (pos 0) xs))
  unfolding by_meaning
  meant =
      sym (along (map (expr_of {X = Unit {0}} erased cx) a.subscripts) bs (extents cx.program a.array) (axes cx.layout cx.program a.array) a.at (pos 0) s h)
      ∙ ap (λ (es : List Expr). and_then (checked (map (expr_of {X = Unit {0}} erased cx) es) (map (λ b. b.extent) bs) a.at s) (λ xs. pure (number_along bs (pos 0) xs))) (sym is)

  -- how the subscripts end, so does the element
  pub cell_halts : (w : Halt) → Does (and_then (checked (map (expr_of {X = Unit {0}} erased cx) subs) (map (λ b. b.extent) bs) a.at s) (λ xs. pure (number_along bs (pos 0) xs))) (Err w) t
      → Does (cell_of erased cx a s) (Err w) t
  unfolding by_meaning
  cell_halts (halt.End e) d =
      cell_opened cx a s ∙ number_ended (checked (map (expr_of {X = Unit {0}} erased cx) a.subscripts) (extents cx.program a.array) a.at s) (number_from (axes cx.layout cx.program a.array) (pos 0)) e t
      (λ z u. and_then ((opened cx a).image u) (λ image. pure (pos (image * product (extents cx.program a.array)) +ℤ z)))
      (meant ∙ d)
  cell_halts halt.NoMemory d = tt

  module _ (z : ℤ) (found : and_then (checked (map (expr_of {X = Unit {0}} erased cx) subs) (map (λ b. b.extent) bs) a.at s) (λ xs. pure (number_along bs (pos 0) xs)) ≡ Gave z t) where
    then_number : (k : ℤ → Run (Unit {0}) ℤ)
        → and_then (checked (map (expr_of {X = Unit {0}} erased cx) a.subscripts) (extents cx.program a.array) a.at s) (λ xs. k (number_from (axes cx.layout cx.program a.array) (pos 0) xs)) ≡ k z t
    unfolding by_meaning
    then_number k = number_then (checked (map (expr_of {X = Unit {0}} erased cx) a.subscripts) (extents cx.program a.array) a.at s) (number_from (axes cx.layout cx.program a.array) (pos 0)) z t k (meant ∙ found)

    -- a cell of one's own image, or of an array that is no coarray
    pub cell_own : (own : ℕ) (r : Result ℤ Halt) → a.image ≡ None → own ≡ (if is_coarray cx.program a.array then cx.node else 0)
        → OrNoMemory (pos (own * product (extents cx.program a.array)) +ℤ z) r → Does (cell_of erased cx a s) r t
    cell_own own r none e o =
        let P : Option Expr → Type 0 = λ x. Does (cell_of erased cx (record a { image = x }) s) r t in
        subst P (sym none)
        (done (cell_of erased cx (record a { image = None }) s) (Gave (pos (own * product (extents cx.program a.array)) +ℤ z) t) r t
        (cell_opened cx (record a { image = None }) s ∙ then_number (λ y u. and_then (image_of {X = Unit {0}} cx a.array None u) (λ image. pure (pos (image * product (extents cx.program a.array)) +ℤ y)))
        ∙ ap (λ (k : ℕ). Gave (pos (k * product (extents cx.program a.array)) +ℤ z) t) (sym e))
        (or_does (pos (own * product (extents cx.program a.array)) +ℤ z) r t o))

    module _ (e given : Expr) (some : a.image ≡ Some e) (given_is : given ≡ e) (u : State (Unit {0})) where
      -- a cell of the image that is written
      pub cell_there : (v : ℤ) (image : ℕ) (r : Result ℤ Halt) → expr_of {X = Unit {0}} erased cx given t ≡ Gave v u → image ≡ natural v
          → OrNoMemory (pos (image * product (extents cx.program a.array)) +ℤ z) r → Does (cell_of erased cx a s) r u
      cell_there v image r d n o =
          let P : Option Expr → Type 0 = λ x. Does (cell_of erased cx (record a { image = x }) s) r u in
          let Q : Expr → Type 0 = λ x. expr_of {X = Unit {0}} erased cx x t ≡ Gave v u in
          let value : expr_of {X = Unit {0}} erased cx e t ≡ Gave v u = subst Q given_is d in
          subst P (sym some)
          (done (cell_of erased cx (record a { image = Some e }) s) (Gave (pos (image * product (extents cx.program a.array)) +ℤ z) u) r u
          (cell_opened cx (record a { image = Some e }) s ∙ then_number (λ y w. and_then (image_of {X = Unit {0}} cx a.array (Some (expr_of erased cx e)) w) (λ k. pure (pos (k * product (extents cx.program a.array)) +ℤ y)))
          ∙ rw value (ap (λ (k : ℕ). Gave (pos (k * product (extents cx.program a.array)) +ℤ z) u) (sym n)))
          (or_does (pos (image * product (extents cx.program a.array)) +ℤ z) r u o))

      -- how the image ends, so does the element
      pub image_halts : (w : Halt) → Does (expr_of {X = Unit {0}} erased cx given t) (Err w) u → Does (cell_of erased cx a s) (Err w) u
      image_halts (halt.End x) d =
          let P : Option Expr → Type 0 = λ o. Does (cell_of erased cx (record a { image = o }) s) (Err (halt.End x)) u in
          let Q : Expr → Type 0 = λ y. expr_of {X = Unit {0}} erased cx y t ≡ Ended x u in
          let value : expr_of {X = Unit {0}} erased cx e t ≡ Ended x u = subst Q given_is d in
          subst P (sym some)
          (cell_opened cx (record a { image = Some e }) s ∙ then_number (λ y w. and_then (image_of {X = Unit {0}} cx a.array (Some (expr_of erased cx e)) w) (λ k. pure (pos (k * product (extents cx.program a.array)) +ℤ y)))
          ∙ rw value refl)
      image_halts halt.NoMemory d = tt
