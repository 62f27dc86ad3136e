-- What the meaning of a gmove checks, once its numbers are known.
use Rattle.std.proofs.Common.{◌≡◌, ℕ, pos, negsuc, Bool, true, false, Option, Some, None, List, [], ◌∷◌, refl, sym, ◌∙◌, ap, length, if◌then◌else◌}
use Rattle.std.specs.Prelude.{nat_lt, is_some}
use Rattle.xmp_base.specs.declared.place.Place.{Place}
use Rattle.xmp_num.specs.declared.types.TrapKind.TheVariants.{Subscript, Section}
use Rattle.xmp_prog.specs.declared.statements.MoveSide.{MoveSide}
use Rattle.xmp_prog.specs.declared.statements.MoveSide.TheVariants as side
use Rattle.xmp_meaning.specs.declared.ends.End.TheVariants.{Trapped}
use Rattle.xmp_meaning.specs.Runs.{State, Gave, Ended, RunIn, Run, and_then, ◌>>=◌, pure, trap}
use Rattle.xmp_meaning.specs.Context.{Context}
use Rattle.xmp_meaning.specs.Declarations.{extents}
use Rattle.xmp_meaning.specs.Handlers.{Handlers, Aim}
use Rattle.xmp_meaning.specs.Expressions.{natural, within, or_subscript}
use Rattle.xmp_meaning.specs.Sections.{Chosen, One, Many, numbers, in_range, progression, section, subscripts, all_subscripts, cells_from, cells, lengths, fit, lengths_fit, name_of, spread, aim}
use Rattle.xmp_move.specs.declared.kind.Fault.{Fault}
use Rattle.xmp_move.specs.Faults.{part_fault, first_of, side_fault, lengths_fault, first_fault}
use Rattle.xmp_move.specs.Meant.{extents_in, place_of, TrapsAsMeant}

-- the subscripts that a part means
abbrev pub picked : Chosen → List ℕ
picked (One v) = natural v ∷ []
picked (Many base length step) = progression (natural base) (natural step) (natural length)

abbrev pub all_picked : List ℕ → List Chosen → List (List ℕ)
all_picked (n ∷ ns) (c ∷ cs) = picked c ∷ all_picked ns cs
all_picked [] cs = []
all_picked (n ∷ ns) [] = []

-- a trap where there is a fault, else a value
abbrev pub unless : {S A : Type 0} → Option Fault → (Fault → Place) → A → RunIn S A
unless None at a = pure a
unless (Some f) at a = trap f.kind (at f)

module _ {S : Type 0} (source : Bool) (at : Place) (s : S) where
  part_is : (n : ℕ) (c : Chosen) → subscripts at n c s ≡ unless (part_fault source n c) (λ _. at) (picked c) s
  part_is n (One (pos x)) = at_test (nat_lt x n)
    where
      at_test : (b : Bool) → and_then (or_subscript {S = S} (if b then Some x else None) at s) (λ y. pure (y ∷ []))
          ≡ unless (if is_some (if b then Some x else None) then None else Some (record { kind = Subscript; source = source })) (λ _. at) (x ∷ []) s
      at_test true = refl
      at_test false = refl
  part_is n (One (negsuc x)) = refl
  part_is n (Many base length step) = at_test (in_range n base length step)
    where
      at_test : (b : Bool) → section {S = S} b at (progression (natural base) (natural step) (natural length)) s
          ≡ unless (if b then None else Some (record { kind = Section; source = source })) (λ _. at) (progression (natural base) (natural step) (natural length)) s
      at_test true = refl
      at_test false = refl

  then_more : {A B : Type 0} (g : Option Fault) (a : A) (k : A → B) → and_then (unless {S = S} g (λ _. at) a s) (λ a. pure (k a)) ≡ unless g (λ _. at) (k a) s
  then_more None a k = refl
  then_more (Some f) a k = refl

  parts_are : (ns : List ℕ) (cs : List Chosen) → all_subscripts at ns cs s ≡ unless (side_fault source ns cs) (λ _. at) (all_picked ns cs) s
  parts_are [] cs = refl
  parts_are (n ∷ ns) [] = refl
  parts_are (n ∷ ns) (c ∷ cs) =
      ap (λ r. and_then r (λ xs. all_subscripts at ns cs >>= (λ rest. pure (xs ∷ rest)))) (part_is n c)
      ∙ at_fault (parts_are ns cs) (part_fault source n c)
    where
      at_fault : all_subscripts at ns cs s ≡ unless (side_fault source ns cs) (λ _. at) (all_picked ns cs) s → (g : Option Fault)
          → and_then (unless {S = S} g (λ _. at) (picked c) s) (λ xs. all_subscripts at ns cs >>= (λ rest. pure (xs ∷ rest)))
          ≡ unless (first_of g (side_fault source ns cs)) (λ _. at) (picked c ∷ all_picked ns cs) s
      at_fault rest (Some f) = refl
      at_fault rest None =
          ap (λ r. and_then r (λ rest. pure (picked c ∷ rest))) rest
          ∙ then_more (side_fault source ns cs) (all_picked ns cs) (λ rest. picked c ∷ rest)

  pub cells_are : (cx : Context) (side : MoveSide) (cs : List Chosen) → at ≡ (name_of side).at
      → cells cx side cs s ≡ unless (side_fault source (extents_in cx.program side) cs) (λ _. at)
      (cells_from 0 (extents_in cx.program side) (all_picked (extents_in cx.program side) cs)) s
  cells_are cx (side.Scalar name) cs e = refl
  cells_are cx (side.Array name parts) cs e =
      ap (λ p. and_then (all_subscripts p (extents cx.program name.number) cs s) (λ xs. pure (cells_from 0 (extents cx.program name.number) xs))) (sym e)
      ∙ ap (λ r. and_then r (λ xs. pure (cells_from 0 (extents cx.program name.number) xs))) (parts_are (extents cx.program name.number) cs)
      ∙ then_more (side_fault source (extents cx.program name.number) cs) (all_picked (extents cx.program name.number) cs) (λ xs. cells_from 0 (extents cx.program name.number) xs)

module _ {X : Type 0} (h : Handlers X) (cx : Context) (target source : MoveSide) (to from : List Chosen) (s t u : State X) where
  abbrev te : List ℕ
  te = extents_in cx.program target

  abbrev se : List ℕ
  se = extents_in cx.program source

  abbrev targets : List ℕ
  targets = cells_from 0 te (all_picked te to)

  abbrev sources : List ℕ
  sources = cells_from 0 se (all_picked se from)

  abbrev made : List ℕ → List ℕ → Aim
  made ts ss = record { targets = ts; sources = spread (lengths from) (length ts) ss }

  abbrev checks_lengths : List ℕ → List ℕ → Run X Aim
  checks_lengths ts ss = lengths_fit (fit (lengths to) (lengths from)) (name_of target).at >>= (λ _. pure (made ts ss))

  abbrev checks_source : List ℕ → Run X Aim
  checks_source ts = cells cx source from >>= checks_lengths ts

  aim_is : numbers h cx target s ≡ Gave to t → numbers h cx source t ≡ Gave from u → aim h cx target source s ≡ and_then (cells cx target to u) checks_source
  aim_is a b =
      ap (λ r. and_then r (λ to. numbers h cx source >>= (λ from. cells cx target to >>= (λ targets. cells cx source from >>= (λ sources.
      lengths_fit (fit (lengths to) (lengths from)) (name_of target).at >>= (λ _. pure (record { targets = targets; sources = spread (lengths from) (length targets) sources }))))))) a
      ∙ ap (λ r. and_then r (λ from. cells cx target to >>= (λ targets. cells cx source from >>= (λ sources.
      lengths_fit (fit (lengths to) (lengths from)) (name_of target).at >>= (λ _. pure (record { targets = targets; sources = spread (lengths from) (length targets) sources })))))) b

  lengths_are : (ts ss : List ℕ) → checks_lengths ts ss u ≡ unless (lengths_fault to from) (place_of target source) (made ts ss) u
  lengths_are ts ss = at_test (fit (lengths to) (lengths from))
    where
      at_test : (b : Bool) → and_then (lengths_fit b (name_of target).at u) (λ _. pure (made ts ss))
          ≡ unless (if b then None else Some (record { kind = Section; source = false })) (place_of target source) (made ts ss) u
      at_test true = refl
      at_test false = refl

  sided : Bool → Fault → Type 0
  sided b f = f.source ≡ b

  -- a fault of a side says whose it is
  part_sided : (b : Bool) (n : ℕ) (c : Chosen) (f : Fault) → part_fault b n c ≡ Some f → f.source ≡ b
  part_sided b n (One v) f e = at_test (is_some (within v n)) e
    where
      at_test : (q : Bool) → (if q then None else Some (record { kind = Subscript; source = b })) ≡ Some f → f.source ≡ b
      at_test true e = cc
      at_test false e = cc
  part_sided b n (Many base length step) f e = at_test (in_range n base length step) e
    where
      at_test : (q : Bool) → (if q then None else Some (record { kind = Section; source = b })) ≡ Some f → f.source ≡ b
      at_test true e = cc
      at_test false e = cc

  side_sided : (b : Bool) (ns : List ℕ) (cs : List Chosen) (f : Fault) → side_fault b ns cs ≡ Some f → f.source ≡ b
  side_sided b [] cs f e = cc
  side_sided b (n ∷ ns) [] f e = cc
  side_sided b (n ∷ ns) (c ∷ cs) f e = at_fault (side_sided b ns cs f) (part_fault b n c) refl e
    where
      at_fault : (side_fault b ns cs ≡ Some f → f.source ≡ b) → (g : Option Fault) → part_fault b n c ≡ g → first_of g (side_fault b ns cs) ≡ Some f → f.source ≡ b
      at_fault rest (Some g) p e = part_sided b n c f (p ∙ e)
      at_fault rest None p e = rest e

  -- the place of a side's fault
  placed : (b : Bool) (g : Option Fault) (at : Place) → ((f : Fault) → g ≡ Some f → place_of target source f ≡ at) → {A : Type 0} → (a : A)
      → unless {S = State X} g (λ _. at) a u ≡ unless g (place_of target source) a u
  placed b None at h a = refl
  placed b (Some f) at h a = ap (λ p. Ended (Trapped f.kind p) u) (sym (h f refl))

  from_target : (f : Fault) → side_fault false te to ≡ Some f → place_of target source f ≡ (name_of target).at
  from_target f e = let b = side_sided false te to f e in ap (λ (q : Bool). if q then (name_of source).at else (name_of target).at) b

  from_source : (f : Fault) → side_fault true se from ≡ Some f → place_of target source f ≡ (name_of source).at
  from_source f e = let b = side_sided true se from f e in ap (λ (q : Bool). if q then (name_of source).at else (name_of target).at) b

  -- one after the other: the first fault
  joined : {A B : Type 0} (g more : Option Fault) (a : A) (b : B) (k : A → Run X B) → k a u ≡ unless more (place_of target source) b u
      → and_then (unless {S = State X} g (place_of target source) a u) k ≡ unless (first_of g more) (place_of target source) b u
  joined None more a b k e = e
  joined (Some f) more a b k e = refl

  pub meant : numbers h cx target s ≡ Gave to t → numbers h cx source t ≡ Gave from u
      → aim h cx target source s ≡ unless (first_fault te to se from) (place_of target source) (made targets sources) u
  meant a b =
      aim_is a b
      ∙ ap (λ r. and_then r checks_source) (cells_are false (name_of target).at u cx target to refl ∙ placed false (side_fault false te to) (name_of target).at from_target targets)
      ∙ joined (side_fault false te to) (first_of (side_fault true se from) (lengths_fault to from)) targets (made targets sources) checks_source
      (ap (λ r. and_then r (checks_lengths targets)) (cells_are true (name_of source).at u cx source from refl ∙ placed true (side_fault true se from) (name_of source).at from_source sources)
      ∙ joined (side_fault true se from) (lengths_fault to from) sources (made targets sources) (checks_lengths targets) (lengths_are targets sources))

pub traps_as_meant : {X : Type 0} → TrapsAsMeant X
traps_as_meant h cx target source to from s t u f a b e =
    meant h cx target source to from s t u a b
    ∙ ap (λ g. unless g (place_of target source) (made h cx target source to from s t u (targets h cx target source to from s t u) (sources h cx target source to from s t u)) u) e
