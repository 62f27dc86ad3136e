-- Two runs that go alike, from states that are alike in some way: one relation that keeps it.
use Rattle.std.proofs.Common.{◌≡◌, ◌++◌, ℕ, zero, suc, ℤ, pos, Bool, true, false, List, None, refl, subst}
use Rattle.std.specs.Prelude.{slice_get, slice_set, unwrap_or}
use Rattle.xmp_base.specs.declared.place.Place.{Place}
use Rattle.xmp_num.specs.declared.types.Ty.{Ty}
use Rattle.xmp_prog.specs.declared.expressions.Expr.TheOpen.{Expr-F}
use Rattle.xmp_prog.specs.Terms.{Of, Element, call_type}
use Rattle.xmp_meaning.specs.declared.ends.Flow.{Flow}
use Rattle.xmp_meaning.specs.declared.ends.Flow.TheVariants.{Next, Returned}
use Rattle.xmp_meaning.specs.Runs.{State, Step, Gave, Ended, Run, and_then, pure, step_of, take_step}
use Rattle.xmp_meaning.specs.Cells.{read_in, write_in}
use Rattle.xmp_meaning.specs.Blocks.{after, then_run, choose, turns}
use Rattle.xmp_meaning.specs.Expressions.{call, image_of, after_call}
use Rattle.xmp_meaning.specs.Loops.{turn}
use Rattle.xmp_meaning_laws.specs.Laws.{Alike}
use Rattle.xmp_meaning_laws.proofs.Conditions.{Conditions, Two, one, another, Anything, KeepsWhere}
use Rattle.xmp_meaning_laws.proofs.Watched.{No_type}

-- the steps are alike, and the value is as said
abbrev pub Sided : {X Y A : Type 0} → (State X → State Y → Type 0) → (A → Type 0) → Step X A → Step Y A → Type 0
Sided K V (Gave a s) (Gave b t) = (a ≡ b) × K s t × V a
Sided K V (Gave a s) (Ended e t) = ⊥
Sided K V (Ended e s) (Gave a t) = ⊥
Sided K V (Ended e s) (Ended f t) = (e ≡ f) × K s t

pub alike_of : {X Y A : Type 0} (K : State X → State Y → Type 0) (V : A → Type 0) (r : Step X A) (q : Step Y A) → Sided K V r q → Alike K r q
alike_of K V (Gave a s) (Gave b t) h = (h.0, h.1)
alike_of K V (Gave a s) (Ended e t) h = h
alike_of K V (Ended e s) (Gave a t) h = h
alike_of K V (Ended e s) (Ended f t) h = h

-- What has to be shown of the relation between states: that it has each primitive do the same, and is kept by it.
pub record IsSimulation (X Y : Type 0) (t : Two) (c : Conditions) (K : State X → State Y → Type 0) : Type 1 where
  pub scalars : (s : State X) (u : State Y) (slot : ℕ) → c.reads slot → K s u
      → unwrap_or (slice_get s.scalars slot) (pos 0) ≡ unwrap_or (slice_get u.scalars slot) (pos 0)
  pub sets_scalar : (s : State X) (u : State Y) (slot : ℕ) (v : ℤ) → c.sets slot → K s u
      → K (record s { scalars = slice_set s.scalars slot v }) (record u { scalars = slice_set u.scalars slot v })
  pub cells : (s : State X) (u : State Y) (row : ℕ) (at : ℤ) → c.gets row → K s u → read_in s.arrays row at ≡ read_in u.arrays row at
  pub sets_cell : (s : State X) (u : State Y) (row : ℕ) (at v : ℤ) → c.puts row → K s u
      → K (record s { arrays = write_in s.arrays row at v }) (record u { arrays = write_in u.arrays row at v })
  pub writes : (s : State X) (u : State Y) (text : List ℕ) → K s u → K (record s { out = s.out ++ text }) (record u { out = u.out ++ text })
  pub inputs : (s : State X) (u : State Y) → K s u → s.taken ≡ u.taken
  pub sets_taken : (s : State X) (u : State Y) (n : ℕ) → K s u → K (record s { taken = n }) (record u { taken = n })
  pub left : (s : State X) (u : State Y) → K s u → s.steps ≡ u.steps
  pub steps : (s : State X) (u : State Y) (n : ℕ) → K s u → K (record s { steps = n }) (record u { steps = n })
  pub calls : (function : ℕ) (types : List Ty) (at : Place) → c.term (Of (Expr-F.Call function types at)) → (vs : List ℤ) (n : ℕ)
      → t.call function vs n ≡ t.other_call function vs n
  pub own_number : c.term (Of Expr-F.Node) → t.node ≡ t.other
  pub own_image : (array : ℕ) (types : List Ty) (at : Place)
      → c.term (Element (record { array = array; subscripts = types; image = None; at = at }))
      → (s : State X) (u : State Y) → K s u → Sided K (Anything ℕ) (image_of (one t) array None s) (image_of (another t) array None u)

module _ {X Y : Type 0} {t : Two} {c : Conditions} {K : State X → State Y → Type 0} (i : IsSimulation X Y t c K) where
  -- from any two states that are alike
  abbrev pub Simulates : (A : Type 0) → (A → Type 0) → Run X A → Run Y A → Type 0
  Simulates A V f g = (s : State X) (u : State Y) → K s u → Sided K V (f s) (g u)

  sided_on : {A B : Type 0} (V : A → Type 0) (W : B → Type 0) (f : A → Run X B) (g : A → Run Y B) (r : Step X A) (q : Step Y A) → Sided K V r q
      → ((a : A) → V a → (s : State X) (u : State Y) → K s u → Sided K W (f a s) (g a u)) → Sided K W (and_then r f) (and_then q g)
  sided_on V W f g (Gave a s) (Gave b u) h rest = subst (λ z. Sided K W (f a s) (g z u)) h.0 (rest a h.2 s u h.1)
  sided_on V W f g (Gave a s) (Ended e u) h rest = absurd h
  sided_on V W f g (Ended e s) (Gave b u) h rest = absurd h
  sided_on V W f g (Ended e s) (Ended d u) h rest = h

  sided_weakened : {A : Type 0} (V W : A → Type 0) (r : Step X A) (q : Step Y A) → ((a : A) → V a → W a) → Sided K V r q → Sided K W r q
  sided_weakened V W (Gave a s) (Gave b u) f h = (h.0, h.1, f a h.2)
  sided_weakened V W (Gave a s) (Ended e u) f h = h
  sided_weakened V W (Ended e s) (Gave b u) f h = h
  sided_weakened V W (Ended e s) (Ended d u) f h = h

  abbrev Side_flows : Run X Flow → Run Y Flow → Type 0
  Side_flows p q = (s : State X) (u : State Y) → K s u → Sided K (Anything Flow) (p s) (q u)

  sided_after : (flow : Flow) (p : Run X Flow) (q : Run Y Flow) → Side_flows p q → Side_flows (after flow p) (after flow q)
  sided_after Next p q h = h
  sided_after (Returned v) p q h = λ s u k. (refl, k, tt)

  sided_choose : (b : Bool) (p p' : Run X Flow) (q q' : Run Y Flow) → Side_flows p q → Side_flows p' q' → Side_flows (choose b p p') (choose b q q')
  sided_choose true p p' q q' h l = h
  sided_choose false p p' q q' h l = l

  sided_turns : (n : ℕ) (test : Run X Bool) (test' : Run Y Bool) (body : Run X Flow) (body' : Run Y Flow)
      → ((s : State X) (u : State Y) → K s u → Sided K (Anything Bool) (test s) (test' u)) → Side_flows body body'
      → Side_flows (turns n test body) (turns n test' body')
  sided_turns zero test test' body body' h l = λ s u k. (refl, k, tt)
  sided_turns (suc n) test test' body body' h l = λ s u k.
      sided_on (Anything Bool) (Anything Flow)
      (λ more. choose more (then_run body (turns n test body)) (pure Next)) (λ more. choose more (then_run body' (turns n test' body')) (pure Next))
      (test s) (test' u) (h s u k)
      (λ more v. sided_choose more (then_run body (turns n test body)) (pure Next) (then_run body' (turns n test' body')) (pure Next)
      (λ s u k. sided_on (Anything Flow) (Anything Flow) (λ flow. after flow (turns n test body)) (λ flow. after flow (turns n test' body')) (body s) (body' u) (l s u k)
      (λ flow v. sided_after flow (turns n test body) (turns n test' body') (sided_turns n test test' body body' h l)))
      (λ s u k. (refl, k, tt)))

  sided_step : (n : ℕ) (s : State X) (u : State Y) → K s u → Sided K (Anything (Unit {0})) (step_of n s) (step_of n u)
  sided_step zero s u k = (refl, k)
  sided_step (suc n) s u k = (refl, i.steps s u n k, tt)

  sided_take : (s : State X) (u : State Y) → K s u → Sided K (Anything (Unit {0})) (take_step s) (take_step u)
  sided_take s u k = subst (λ n. Sided K (Anything (Unit {0})) (step_of s.steps s) (step_of n u)) (i.left s u k) (sided_step s.steps s u k)

  sided_call : (V : ℤ → Type 0) → ((v : ℤ) → V v) → (s : State X) (u : State Y) (r q : Step (Unit {0}) ℤ) → r ≡ q → K s u
      → Sided K V (after_call s r) (after_call u q)
  sided_call V all s u r q e k = subst (λ z. Sided K V (after_call s r) (after_call u z)) e (of_call r)
    where
      of_call : (r : Step (Unit {0}) ℤ) → Sided K V (after_call s r) (after_call u r)
      of_call (Gave v w) = (refl, i.steps s u w.steps k, all v)
      of_call (Ended e w) = (refl, i.steps s u w.steps k)

  pub simulates : KeepsWhere X Y t c No_type Simulates
  simulates = record {
    gives = λ a v s u k. (refl, k, v);
    traps = λ kind at s u k. (refl, k);
    goes_on = λ {A} {B} {V} {W} {p} {q} {f} {g} h rest s u k. sided_on V W f g (p s) (q u) (h s u k) rest;
    weakens = λ {A} {V} {W} {p} {q} h f s u k. sided_weakened V W (p s) (q u) f (h s u k);
    scalars = λ slot may s u k. (i.scalars s u slot may k, k, tt);
    sets_scalar = λ slot may v lies s u k. (refl, i.sets_scalar s u slot v may k, tt);
    writes = λ format arguments at is text s u k. (refl, i.writes s u text k, tt);
    inputs = λ to at is s u k. (i.inputs s u k, k, tt);
    sets_taken = λ to at is n s u k. (refl, i.sets_taken s u n k, tt);
    calls = λ function types at is vs s u k.
        subst (λ n. Sided K (No_type (call_type (slice_get t.program.functions function))) (call (one t) function vs s) (after_call u (t.other_call function vs n))) (i.left s u k)
        (sided_call (No_type (call_type (slice_get t.program.functions function))) (λ v. tt) s u (t.call function vs s.steps) (t.other_call function vs s.steps)
        (i.calls function types at is vs s.steps) k);
    own_number = λ is s u k. (subst (λ n. pos t.node ≡ pos n) (i.own_number is) refl, k, tt);
    own_image = λ array types at is s u k. i.own_image array types at is s u k;
    loops = λ {test} {test'} {body} {body'} e writes at is h l s u k.
        subst (λ n. Sided K (Anything Flow) (turns (suc s.steps) test (turn body) s) (turns (suc n) test' (turn body') u)) (i.left s u k)
        (sided_turns (suc s.steps) test test' (turn body) (turn body') h
        (λ s u k. sided_on (Anything (Unit {0})) (Anything Flow) (λ v. body) (λ v. body') (take_step s) (take_step u) (sided_take s u k) (λ v w. l)) s u k);
    constants = λ v ty is. tt;
    operators = λ op ty a b at is x y z lx ly e. tt;
    truths = (tt, tt);
    choices = λ a b d is v lies. tt;
    zeros = λ ty. tt;
    converts = λ ty v. tt;
    node_counts = λ is. tt;
    indices = λ slot is v. tt;
  }
