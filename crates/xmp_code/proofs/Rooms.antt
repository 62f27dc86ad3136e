-- The room that a node of a valid code needs.
use Rattle.std.proofs.Common.{◌≡◌, ◌≢◌, ◌<◌, ◌≤◌, ◌+◌, ◌*◌, ◌^◌, ℕ, zero, suc, List, [], ◌∷◌, length, Option, Some, slice_get, get_or, refl, sym, ap, subst, ◌∙◌, arith, vec_capacity}
use Rattle.std.specs.List.{AllByRecursion}
use Rattle.std.proofs.lemmas.List.{length-reverse}
use Rattle.std.proofs.Math.Nat.{mul-le-mul_left}
use Rattle.xmp_steps.specs.Machine.{Goes, Stuck}
use Rattle.xmp_instr.specs.declared.instr.Instr.{Instr}
use Rattle.xmp_instr.specs.declared.parts.CodeParts.{CodeParts}
use Rattle.xmp_instr.specs.Node.{Node}
use Rattle.xmp_instr.specs.Effects.{Comes, effect_at, next, next_at}
use Rattle.xmp_instr.specs.Valid.{IsValid}
use Rattle.xmp_instr.specs.Fits.{Fits, below_calls, depth_at}
use Rattle.xmp_instr.proofs.Fitting.{steps_fit}
use Rattle.xmp_code.specs.declared.action.Action.{Action}
use Rattle.xmp_code.specs.declared.state.State.{State}
use Rattle.xmp_code.specs.declared.state.Mode.TheVariants as mode
use Rattle.xmp_code.specs.States.{node_of, stage_of}
use Rattle.xmp_code.specs.Actions.{IsActionOf, acted}
use Rattle.xmp_code.specs.Acting.{HasRoom}
use Rattle.xmp_code.specs.Fitting.{StateFits}

all_most : (xs : List ℕ) (m : ℕ) → AllByRecursion (λ d. d ≤ m) xs → (k : ℕ) → get_or xs k 0 ≤ m
all_most [] m h k = omega arith
all_most (x ∷ xs) m h zero = h.0
all_most (x ∷ xs) m h (suc k) = all_most xs m h.1 k

below_most : (c : CodeParts) → IsValid c → (calls : List ℕ) → below_calls c calls ≤ length calls * c.depth
below_most c v [] = omega arith
below_most c v (p ∷ calls) =
    let a : depth_at c p ≤ c.depth = all_most c.depths c.depth v.steps.depths.most p in
    let b = below_most c v calls in
    omega (arith, a, b)

-- a node that fits has at most this many values
pub stack_most : (c : CodeParts) (t : Node) → IsValid c → Fits c t → length t.stack ≤ (c.calls + 1) * c.depth
stack_most c t v f =
    let a : depth_at c t.place ≤ c.depth = all_most c.depths c.depth v.steps.depths.most t.place in
    let b = below_most c v t.frame.calls in
    let l = f.stack in
    let m = mul-le-mul_left c.depth f.most in
    omega (arith, a, b, l, m)

-- a state has room for what it comes to
pub room_of : (c : CodeParts) (input : List ℕ) (s : State) (x : Comes) → IsValid c → StateFits c s → s.talk.mode ≡ mode.Going → length c.instrs < 2 ^ 64
    → next c input (node_of s) ≡ x → next c input (node_of s) ≢ Stuck → HasRoom s x
room_of c input s x v f going small e unstuck = record {
  going = going;
  unstuck = λ stuck. unstuck (e ∙ stuck);
  place = λ t g. (let h = (steps_fit c input (node_of s) t v f.node (e ∙ g)).place in omega (arith, h, small));
  stack = λ t g. (let h = stack_most c t v (steps_fit c input (node_of s) t v f.node (e ∙ g)) in let r = f.room in omega (arith, h, r));
  calls = λ t g. (let h = (steps_fit c input (node_of s) t v f.node (e ∙ g)).most in let r = f.calls in omega (arith, h, r));
}

-- what a state comes to next is what the action of its instruction comes to
pub acted_next : (c : CodeParts) (input : List ℕ) (s : State) (instr : Instr) (a : Action) → s.talk.mode ≡ mode.Going → slice_get c.instrs s.place ≡ Some instr
    → IsActionOf c instr (node_of s) a → next c input (node_of s) ≡ acted c input a (node_of s)
acted_next c input s instr a going here h =
    ap (λ m. next_at c input (stage_of m s.talk s.data.out.items) (node_of s)) going
    ∙ ap (λ o. effect_at c input o (node_of s)) here
    ∙ h.same input
