-- A state that goes on by one action fits its code.
use Rattle.std.proofs.Common.{◌≡◌, ◌≤◌, ◌+◌, ◌*◌, ℕ, ℤ, List, length, vec_capacity, Option, Some, None, refl, sym, ap, subst, ◌∙◌, arith}
use Rattle.std.specs.Prelude.{Result, Ok, Err, IfOk, OnErr}
use Rattle.xmp_steps.specs.Machine.{Goes, Stops, Stuck}
use Rattle.xmp_instr.specs.declared.parts.CodeParts.{CodeParts}
use Rattle.xmp_instr.specs.declared.stop.Stop.{Stop}
use Rattle.xmp_instr.specs.Effects.{Comes, next}
use Rattle.xmp_instr.specs.Valid.{IsValid}
use Rattle.xmp_instr.specs.Fits.{Fits}
use Rattle.xmp_instr.proofs.Fitting.{steps_fit}
use Rattle.xmp_code.specs.declared.state.State.{State}
use Rattle.xmp_code.specs.declared.state.Mode.{Mode}
use Rattle.xmp_code.specs.declared.state.Moving.{Moving}
use Rattle.xmp_code.specs.declared.state.Mode.TheVariants as mode
use Rattle.xmp_code.specs.States.{node_of, stage_of}
use Rattle.xmp_code.specs.Acting.{Does, Keeps}
use Rattle.xmp_code.specs.Fitting.{MovingFits, SameBut, StateFits}
use Rattle.xmp_code.specs.Running.{Advances, MayLack, MayLackIn}
use Rattle.xmp_code.specs.Actions.{MayLackAt}

one_advance : (c : CodeParts) (input : List ℕ) (s t : State) (x : Comes) → next c input (node_of s) ≡ x → (o : Option Stop) → Does x s o t → Advances c input s o t
one_advance c input s t x e None h = e ∙ h.0
one_advance c input s t x e (Some p) h = (e ∙ h.0, h.1)

pub advances : {E : Type 0} (c : CodeParts) (input : List ℕ) (s t : State) (x : Comes) → next c input (node_of s) ≡ x
    → (r : Result (Option Stop) E) → IfOk r (λ o. Does x s o t) → IfOk r (λ o. Advances c input s o t)
advances c input s t x e (Ok o) h = one_advance c input s t x e o h
advances c input s t x e (Err f) h = h

kept : (c : CodeParts) (s t : State) → StateFits c s → Keeps s t → Fits c (node_of t) → MovingFits c t.talk.mode t.data.words.items t.talk.moving → StateFits c t
kept c s t f k fits m = record {
  node = fits;
  room = (let a = f.room in let b = k.stack in omega (arith, a, b));
  calls = (let a = f.calls in let b = k.calls in omega (arith, a, b));
  told = k.told ∙ f.told;
  heard = k.heard ∙ f.heard;
  moving = m;
}

-- a state with the same room that shows a node which fits
pub refits : (c : CodeParts) (s t : State) → StateFits c s → Fits c (node_of t) → t.stack.room ≡ s.stack.room → vec_capacity t.frame.calls ≡ vec_capacity s.frame.calls
    → length t.talk.told.items ≡ length s.talk.told.items → length t.talk.heard.items ≡ length s.talk.heard.items
    → MovingFits c t.talk.mode t.data.words.items t.talk.moving → StateFits c t
refits c s t f fits a b told heard m = record {
  node = fits;
  room = (let r = f.room in omega (arith, a, r));
  calls = (let r = f.calls in omega (arith, b, r));
  told = told ∙ f.told;
  heard = heard ∙ f.heard;
  moving = m;
}

moving_same : (c : CodeParts) (m n : Mode) (v w : List ℤ) (x y : Option Moving) → n ≡ m → w ≡ v → y ≡ x → MovingFits c m v x → MovingFits c n w y
moving_same c m n v w x y e f g h =
    subst (λ a. MovingFits c a w y) (sym e) (subst (λ b. MovingFits c m b y) (sym f) (subst (λ z. MovingFits c m v z) (sym g) h))

pub same_fits : (c : CodeParts) (s t : State) → StateFits c s → SameBut s t → Fits c (node_of t) → StateFits c t
same_fits c s t f k fits =
    refits c s t f fits (ap (λ x. x.room) k.stack) (ap (λ x. vec_capacity x.calls) k.frame) k.told k.heard
    (moving_same c s.talk.mode t.talk.mode s.data.words.items t.data.words.items s.talk.moving t.talk.moving k.mode (ap (λ v. v.items) k.words) k.moving f.moving)

one_fits : (c : CodeParts) (input : List ℕ) (s t : State) (x : Comes) → IsValid c → StateFits c s → next c input (node_of s) ≡ x → (o : Option Stop) → Does x s o t
    → MovingFits c t.talk.mode t.data.words.items t.talk.moving → StateFits c t
one_fits c input s t x v f e None h m = kept c s t f h.1 (steps_fit c input (node_of s) (node_of t) v f.node (e ∙ h.0)) m
one_fits c input s t x v f e (Some p) h m = subst (StateFits c) (sym h.1) f

pub fits_on : {E : Type 0} (c : CodeParts) (input : List ℕ) (s t : State) (x : Comes) → IsValid c → StateFits c s → next c input (node_of s) ≡ x
    → (r : Result (Option Stop) E) → IfOk r (λ o. Does x s o t) → OnErr r ((node_of t ≡ node_of s) × Keeps s t)
    → MovingFits c t.talk.mode t.data.words.items t.talk.moving → StateFits c t
fits_on c input s t x v f e (Ok o) h k m = one_fits c input s t x v f e o h m
fits_on c input s t x v f e (Err y) h k m = kept c s t f k.1 (subst (Fits c) (sym k.0) f.node) m

pub lacks_at : {E : Type 0} (c : CodeParts) (s : State) → s.talk.mode ≡ mode.Going → (r : Result (Option Stop) E) → OnErr r (MayLackIn c (stage_of mode.Going s.talk s.data.out.items) (node_of s)) → OnErr r (MayLack c (node_of s))
lacks_at c s going r h = subst (λ m. OnErr r (MayLackIn c (stage_of m s.talk s.data.out.items) (node_of s))) (sym going) h

pub on_err : {E : Type 0} {P Q : Type 0} → (r : Result (Option Stop) E) → (P → Q) → OnErr r P → OnErr r Q
on_err (Ok o) f h = h
on_err (Err y) f h = f h
