-- What is asked of a state before an action is carried out, and what it keeps (this project).
use Rattle.std.specs.Prelude.{◌≡◌, ◌≢◌, ◌≤◌, ◌<◌, ◌+◌, ◌^◌, ℕ, List, length, vec_capacity, Option, Some, None, MatchOption}
use Rattle.xmp_move.specs.declared.kind.Fault.{Fault}
use Rattle.xmp_move.specs.declared.plan.MoveError.{MoveError}
use Rattle.xmp_move.specs.declared.plan.MoveError.TheVariants as error
use Rattle.xmp_steps.specs.Machine.{Goes, Stops, Stuck}
use Rattle.xmp_instr.specs.declared.stop.Stop.{Stop}
use Rattle.xmp_instr.specs.Node.{Node}
use Rattle.xmp_instr.specs.Effects.{Comes}
use Rattle.xmp_code.specs.declared.state.State.{State}
use Rattle.xmp_code.specs.declared.state.Mode.TheVariants as mode
use Rattle.xmp_code.specs.States.{node_of}

-- a state goes through its instructions, and has room for what it comes to
pub record HasRoom (s : State) (x : Comes) : Type 0 where
  pub going : s.talk.mode ≡ mode.Going
  pub unstuck : x ≢ Stuck
  pub place : (t : Node) → x ≡ Goes t → t.place < 2 ^ 64
  pub stack : (t : Node) → x ≡ Goes t → length t.stack ≤ s.stack.room
  pub calls : (t : Node) → x ≡ Goes t → length t.frame.calls ≤ vec_capacity s.frame.calls

-- the room stays, the seats of the nodes, and whether text is dropped
pub record Keeps (s t : State) : Type 0 where
  pub stack : t.stack.room ≡ s.stack.room
  pub calls : vec_capacity t.frame.calls ≡ vec_capacity s.frame.calls
  pub told : length t.talk.told.items ≡ length s.talk.told.items
  pub heard : length t.talk.heard.items ≡ length s.talk.heard.items
  pub muted : t.data.muted ≡ s.data.muted

-- the state goes on as it should, or stops and stays
abbrev pub Does : Comes → State → Option Stop → State → Type 0
Does x s o t = MatchOption o ((x ≡ Goes (node_of t)) × Keeps s t) (λ p. (x ≡ Stops p) × (t ≡ s))

-- a trap of a transfer, where one is answered, is that of its fault
abbrev pub TrapsAs : Option Fault → MoveError → Type 0
TrapsAs fault (error.Trap kind source) = fault ≡ Some (record { kind = kind; source = source })
TrapsAs fault error.NoMemory = Unit {0}
