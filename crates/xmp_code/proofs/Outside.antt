-- A node that is served from outside.
use Rattle.std.proofs.Common.{◌≡◌, ◌≤◌, ◌+◌, ℕ, List, [], ◌∷◌, length, drop, ℤ, Option, Some, slice_get, refl, sym, ap, ◌∙◌, arith}
use Rattle.xmp_instr.specs.declared.instr.Instr.{Instr}
use Rattle.xmp_instr.specs.declared.parts.CodeParts.{CodeParts}
use Rattle.xmp_instr.specs.Node.{Going}
use Rattle.xmp_instr.specs.Serving.{answered, with_answer, without_put}
use Rattle.xmp_instr.specs.Depths.{needs}
use Rattle.xmp_instr.specs.Valid.{IsValid}
use Rattle.xmp_instr.proofs.Fitting.{At, at_instr}
use Rattle.xmp_code.specs.declared.state.State.{State}
use Rattle.xmp_code.specs.declared.state.Mode.TheVariants as mode
use Rattle.xmp_code.specs.Stacks.{Stacked}
use Rattle.xmp_code.specs.States.{node_of, stage_of}
use Rattle.xmp_code.specs.Fitting.{StateFits}

pub stage_is : (s : State) → s.talk.mode ≡ mode.Going → (node_of s).stage ≡ Going
stage_is s going = ap (λ m. stage_of m s.talk s.data.out.items) going

-- what an instruction takes is on the stack
pub enough : (c : CodeParts) (s : State) (instr : Instr) → IsValid c → StateFits c s → s.talk.mode ≡ mode.Going → slice_get c.instrs s.place ≡ Some instr
    → needs c instr ≤ length s.stack.values
enough c s instr v f going here =
    let a = at_instr c (node_of s) instr v f.node (stage_is s going) here in
    let few = a.fine.enough in
    let l = a.long in
    omega (arith, few, l)

pub answer_is : (xs : List ℤ) (v : ℤ) → 1 ≤ length xs → v ∷ drop 1 xs ≡ with_answer xs v
answer_is [] v h = absurd (omega (arith, h))
answer_is (x ∷ xs) v h = refl

pub put_is : (xs : List ℤ) → 2 ≤ length xs → drop 2 xs ≡ without_put xs
put_is [] h = absurd (omega (arith, h))
put_is (x ∷ []) h = absurd (omega (arith, h))
put_is (x ∷ y ∷ xs) h = refl

-- the state whose top value is another one is the node that was answered
pub answered_is : (s : State) (stack : Stacked) (v w : ℤ) → 1 ≤ length s.stack.values → w ≡ v → stack ≡ record s.stack { values = w ∷ drop 1 s.stack.values }
    → node_of (record s { place = s.place + 1; stack = stack }) ≡ answered (node_of s) v
answered_is s stack v w few same e =
    ap (λ st. node_of (record s { place = s.place + 1; stack = st })) e
    ∙ ap (λ x. record (node_of s) { place = s.place + 1; stack = x ∷ drop 1 s.stack.values }) same
    ∙ ap (λ xs. record (node_of s) { place = s.place + 1; stack = xs }) (answer_is s.stack.values v few)
