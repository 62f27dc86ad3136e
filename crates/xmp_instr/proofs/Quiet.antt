-- Nodes that differ in text alone take the same steps to the same stops.
use Rattle.std.proofs.Common.{◌≡◌, ◌+◌, ℕ, zero, suc, Bool, true, false, List, [], ◌∷◌, length, take, drop, reverse, ℤ, refl, sym, ap, ◌∙◌, Option, Some, None, slice_get, if◌then◌else◌}
use Rattle.std.specs.Prelude.{nat_lt, int_le, Result, Ok, Err}
use Rattle.xmp_base.specs.declared.place.Place.{Place}
use Rattle.xmp_num.specs.declared.types.Ty.{Ty}
use Rattle.xmp_num.specs.declared.types.TrapKind.{TrapKind}
use Rattle.xmp_num.specs.declared.types.TrapKind.TheVariants.{Subscript}
use Rattle.xmp_num.specs.Arithmetic.{binary_of, truth}
use Rattle.xmp_num.specs.Decimal.{scan_of}
use Rattle.xmp_map.specs.declared.array_map.ArrayMap.{ArrayMap}
use Rattle.xmp_map.specs.declared.template.Template.{Template}
use Rattle.xmp_meaning.specs.Expressions.{within}
use Rattle.xmp_meaning.specs.Formats.{printed}
use Rattle.xmp_steps.specs.Machine.{Next, Goes, Stops, Stuck}
use Rattle.xmp_steps.specs.Machine as machine
use Rattle.xmp_instr.specs.declared.instr.Instr.{Instr}
use Rattle.xmp_instr.specs.declared.instr.Instr.TheVariants as i
use Rattle.xmp_instr.specs.declared.stop.Stop.{Stop}
use Rattle.xmp_instr.specs.declared.meeting.Meeting.{Meeting}
use Rattle.xmp_instr.specs.declared.parts.Guard.{Guard}
use Rattle.xmp_instr.specs.declared.parts.CodeParts.{CodeParts}
use Rattle.xmp_instr.specs.Data.{indexed, step_taken, with_indexed, with_read, with_text}
use Rattle.xmp_instr.specs.Node.{Stage, Going, Meets, Over, Node}
use Rattle.xmp_instr.specs.Tables.{asked, extent_of, owns}
use Rattle.xmp_instr.specs.Effects as e
use Rattle.xmp_instr.specs.Effects.{numbers_for, meeting_fault, next}
use Rattle.xmp_instr.specs.Laws.{MutedIsAlike, StepsAlike, StopsAlike, quiet, quiet_found, quiet_next}

-- a node that goes through its instructions, and the same apart from text
abbrev now : Node → Node
now s = record s { stage = Going }

abbrev hush : Node → Node
hush s = record s { frame = record s.frame { text_from = None }; state = record s.state { out = []; muted = true } }

abbrev Alike : Next Node Stop → Next Node Stop → Type 0
Alike a b = quiet_next a ≡ quiet_next b

top_alike : (stack : List ℤ) (f g : ℤ → List ℤ → e.Comes) → ((x : ℤ) (rest : List ℤ) → Alike (f x rest) (g x rest)) → Alike (e.with_top stack f) (e.with_top stack g)
top_alike [] f g h = refl
top_alike (x ∷ rest) f g h = h x rest

two_alike : (stack : List ℤ) (f g : ℤ → ℤ → List ℤ → e.Comes) → ((x y : ℤ) (rest : List ℤ) → Alike (f x y rest) (g x y rest)) → Alike (e.with_two stack f) (e.with_two stack g)
two_alike [] f g h = refl
two_alike (y ∷ []) f g h = refl
two_alike (y ∷ x ∷ rest) f g h = h x y rest

chosen_alike : (t : Bool) (a b : e.Comes) → Alike a b → Alike (if t then a else Stuck) (if t then b else Stuck)
chosen_alike true a b h = h
chosen_alike false a b h = refl

stuck_alike : (t : Bool) (a b : e.Comes) → Alike a b → Alike (if t then Stuck else a) (if t then Stuck else b)
stuck_alike true a b h = refl
stuck_alike false a b h = h

many_alike : (n : ℕ) (stack : List ℤ) (f g : List ℤ → List ℤ → e.Comes) → ((xs rest : List ℤ) → Alike (f xs rest) (g xs rest)) → Alike (e.with_many n stack f) (e.with_many n stack g)
many_alike n stack f g h = stuck_alike (nat_lt (length stack) n) _ _ (h (reverse (take n stack)) (drop n stack))

noted_alike : (s : Node) (kind : TrapKind) (at : Place) (o : Option Guard) → Alike (e.noted_under o kind at (now s)) (e.noted_under o kind at (now (hush s)))
noted_alike s kind at None = refl
noted_alike s kind at (Some g) = refl

under_alike : (c : CodeParts) (s : Node) (kind : TrapKind) (at : Place) (g : Option ℕ) → Alike (e.trapped_under c g kind at (now s)) (e.trapped_under c g kind at (now (hush s)))
under_alike c s kind at None = refl
under_alike c s kind at (Some g) = noted_alike s kind at (slice_get c.guards g)

trap_alike : (c : CodeParts) (s : Node) (kind : TrapKind) (at : Place) → Alike (e.trapped c kind at (now s)) (e.trapped c kind at (now (hush s)))
trap_alike c s kind at = under_alike c s kind at s.frame.guard

indexed_alike : (s : Node) (rest : List ℤ) (b : ℕ) (o : Option ℕ) (v : ℤ)
    → Alike (e.on (now s) rest (with_indexed b o v s.state)) (e.on (now (hush s)) rest (with_indexed b o v (hush s).state))
indexed_alike s rest b (Some x) v = refl
indexed_alike s rest b None v = refl

value_alike : (s : Node) (rest : List ℤ) (v w : ℤ) → v ≡ w → Alike (e.on (now s) (v ∷ rest) s.state) (e.on (now (hush s)) (w ∷ rest) (hush s).state)
value_alike s rest v w h = ap (λ z. Goes (quiet (record (now s) { place = s.place + 1; stack = z ∷ rest }))) h

subscript_alike : (c : CodeParts) (s : Node) (at : Place) (o : Option ℕ) → Alike (e.or_subscript c o at (now s)) (e.or_subscript c o at (now (hush s)))
subscript_alike c s at (Some x) = refl
subscript_alike c s at None = trap_alike c s Subscript at

located_alike : (c : CodeParts) (s : Node) (m : ArrayMap) (d : ℕ) (rest : List ℤ) (o : Option ℕ) → Alike (e.located c m d o rest (now s)) (e.located c m d o rest (now (hush s)))
located_alike c s m d rest None = refl
located_alike c s m d rest (Some x) = refl

local_alike : (c : CodeParts) (s : Node) (d : ℕ) (o : Option ArrayMap) → Alike (e.localised c o d (now s)) (e.localised c o d (now (hush s)))
local_alike c s d None = refl
local_alike c s d (Some m) = top_alike s.stack _ _ (λ x rest. located_alike c s m d rest (within x (extent_of m d)))

result_alike : (c : CodeParts) (s : Node) (at : Place) (r : Result ℤ TrapKind) (rest : List ℤ) → Alike (e.or_trap c r at rest (now s)) (e.or_trap c r at rest (now (hush s)))
result_alike c s at (Ok v) rest = refl
result_alike c s at (Err kind) rest = trap_alike c s kind at

called_alike : (s : Node) (k : ℕ) (t : Bool) → Alike (e.called t k (now s)) (e.called t k (now (hush s)))
called_alike s k true = refl
called_alike s k false = refl

returned_alike : (s : Node) (calls : List ℕ) → Alike (e.returned calls (now s)) (e.returned calls (now (hush s)))
returned_alike s [] = refl
returned_alike s (p ∷ ps) = refl

step_alike : (s : Node) (n : ℕ) → Alike (e.stepped (step_taken n s.state) (now s)) (e.stepped (step_taken n (hush s).state) (now (hush s)))
step_alike s zero = refl
step_alike s (suc n) = refl

mine_alike : (c : CodeParts) (s : Node) (n : ℕ) (o : Option Template) → Alike (e.tested c o n (now s)) (e.tested c o n (now (hush s)))
mine_alike c s n None = refl
mine_alike c s n (Some t) = many_alike n s.stack (λ point rest. e.on (now s) (truth (owns t c.node point) ∷ rest) s.state) (λ point rest. e.on (now (hush s)) (truth (owns t c.node point) ∷ rest) (hush s).state) (λ xs rest. refl)

moved_alike : (c : CodeParts) (s : Node) (d : ℕ) (o : Option Template) → Alike (e.moved_on c o d (now s)) (e.moved_on c o d (now (hush s)))
moved_alike c s d None = refl
moved_alike c s d (Some t) = two_alike s.stack _ _ (λ g end rest. chosen_alike (int_le g end) _ _ refl)

print_alike : (s : Node) (o : Option (List ℕ)) → Alike (e.printed_by o (now s)) (e.printed_by o (now (hush s)))
print_alike s None = refl
print_alike s (Some format) = many_alike (asked format) s.stack (λ vs rest. e.on (now s) rest (with_text (printed format vs) s.state)) (λ vs rest. e.on (now (hush s)) rest (with_text (printed format vs) (hush s).state)) (λ xs rest. refl)

number_alike : (s : Node) (rest : List ℤ) (slot taken : ℕ) (o : Option ℤ)
    → Alike (e.on (now s) rest (with_read slot o (record s.state { taken = taken }))) (e.on (now (hush s)) rest (with_read slot o (record (hush s).state { taken = taken })))
number_alike s rest slot taken (Some v) = refl
number_alike s rest slot taken None = refl

read_alike : (input : List ℕ) (s : Node) (ty : Ty) (rest : List ℤ) (o : Option ℕ) → Alike (e.read_by ty input o rest (now s)) (e.read_by ty input o rest (now (hush s)))
read_alike input s ty rest None = refl
read_alike input s ty rest (Some slot) = number_alike s rest slot (scan_of ty input s.state.taken).1 (scan_of ty input s.state.taken).0

met_alike : (c : CodeParts) (s : Node) (o : Option (TrapKind × Place)) (t u : Node) → quiet t ≡ quiet u → Alike (e.met c o t (now s)) (e.met c o u (now (hush s)))
met_alike c s None t u h = ap Goes h
met_alike c s (Some fault) t u h = trap_alike c s fault.0 fault.1

exchange_alike : (c : CodeParts) (s : Node) (n : ℕ) (o : Option Meeting) → Alike (e.meets c n o (now s)) (e.meets c n o (now (hush s)))
exchange_alike c s n None = refl
exchange_alike c s n (Some x) = many_alike (numbers_for x) s.stack
    (λ numbers rest. e.met c (meeting_fault x numbers) (e.standing c n (e.cut_at x s.frame.text_from) numbers rest (now s)) (now s))
    (λ numbers rest. e.met c (meeting_fault x numbers) (e.standing c n (e.cut_at x None) numbers rest (now (hush s))) (now (hush s)))
    (λ numbers rest. met_alike c s (meeting_fault x numbers) (e.standing c n (e.cut_at x s.frame.text_from) numbers rest (now s)) (e.standing c n (e.cut_at x None) numbers rest (now (hush s))) refl)

lift_alike : (s : Node) (at : Place) (rest : List ℤ) (o : Option ℕ) → Alike (e.lifted o at rest (now s)) (e.lifted o at rest (now (hush s)))
lift_alike s at rest None = refl
lift_alike s at rest (Some zero) = refl
lift_alike s at rest (Some (suc n)) = refl

alike : (c : CodeParts) (input : List ℕ) (s : Node) (instr : Instr) → Alike (e.effect c input instr (now s)) (e.effect c input instr (now (hush s)))
alike c input s (i.Push v) = refl
alike c input s i.Drop = top_alike s.stack _ _ (λ x rest. refl)
alike c input s i.Dup = top_alike s.stack _ _ (λ x rest. refl)
alike c input s (i.Load slot) = refl
alike c input s (i.Save slot) = top_alike s.stack _ _ (λ x rest. refl)
alike c input s (i.LoadAt b n) = top_alike s.stack _ _ (λ x rest. loaded x rest (within x n))
  where
    loaded : (x : ℤ) (rest : List ℤ) (o : Option ℕ) → Alike (e.on (now s) (indexed b o s.state ∷ rest) s.state) (e.on (now (hush s)) (indexed b o (hush s).state ∷ rest) (hush s).state)
    loaded x rest (Some k) = refl
    loaded x rest None = refl
alike c input s (i.SaveAt b n) = two_alike s.stack _ _ (λ x v rest. indexed_alike s rest b (within x n) v)
alike c input s (i.Bound n at) = top_alike s.stack _ _ (λ x rest. subscript_alike c s at (within x n))
alike c input s (i.Fold n) = two_alike s.stack _ _ (λ a b rest. refl)
alike c input s (i.Local m d) = local_alike c s d (slice_get c.maps m)
alike c input s (i.Bin op ty at) = two_alike s.stack _ _ (λ a b rest. result_alike c s at (binary_of op ty a b) rest)
alike c input s (i.Conv ty) = top_alike s.stack _ _ (λ x rest. refl)
alike c input s (i.Jump k) = refl
alike c input s (i.JumpZero k) = top_alike s.stack _ _ (λ x rest. refl)
alike c input s (i.Call k) = called_alike s k (nat_lt (length s.frame.calls) c.calls)
alike c input s i.Return = returned_alike s s.frame.calls
alike c input s i.Turn = step_alike s s.state.steps
alike c input s (i.Mine t n) = mine_alike c s n (slice_get c.templates t)
alike c input s (i.NextMine t d) = moved_alike c s d (slice_get c.templates t)
alike c input s i.Count = refl
alike c input s (i.Guard g) = refl
alike c input s i.Unguard = refl
alike c input s i.Noted = refl
alike c input s (i.Print f) = print_alike s (slice_get c.formats f)
alike c input s (i.Scan ty) = top_alike s.stack _ _ (λ slot rest. read_alike input s ty rest (within slot c.words))
alike c input s (i.Exchange n) = exchange_alike c s n (slice_get c.meetings n)
alike c input s i.Get = top_alike s.stack _ _ (λ w rest. refl)
alike c input s i.Put = two_alike s.stack _ _ (λ w v rest. refl)
alike c input s i.Sync = refl
alike c input s (i.Lift at) = top_alike s.stack _ _ (λ notice rest. lift_alike s at rest (within notice 5))
alike c input s i.End = refl

at_alike : (c : CodeParts) (input : List ℕ) (s : Node) (o : Option Instr) → Alike (e.effect_at c input o (now s)) (e.effect_at c input o (now (hush s)))
at_alike c input s None = refl
at_alike c input s (Some instr) = alike c input s instr

-- a node and the same apart from its text
stage_alike : (c : CodeParts) (input : List ℕ) (s : Node) (stage : Stage) → Alike (next c input (record s { stage = stage })) (next c input (quiet (record s { stage = stage })))
stage_alike c input s Going = at_alike c input s (slice_get c.instrs s.place)
stage_alike c input s (Meets m) = refl
stage_alike c input s (Over kind at) = refl

pub steps_alike : StepsAlike
steps_alike c input s t h =
    stage_alike c input s s.stage ∙ ap (λ u. quiet_next (next c input u)) h ∙ sym (stage_alike c input t t.stage)

-- ---- up to the next stop

abbrev found : CodeParts → List ℕ → ℕ → Next Node Stop → Node → Option (Stop × Node)
found c input zero x s = elim (x) [ Goes t ↦ None | Stops p ↦ Some (p, s) | Stuck ↦ None ]
found c input (suc n) x s = elim (x) [ Goes t ↦ machine.within (next c input) n t | Stops p ↦ Some (p, s) | Stuck ↦ None ]

goes_alike : (a b : Node) → quiet_next (Goes a) ≡ quiet_next (Goes b) → quiet a ≡ quiet b
goes_alike a b h = cc

zero_alike : (c : CodeParts) (input : List ℕ) (s t : Node) → quiet s ≡ quiet t → (x y : Next Node Stop) → Alike x y → quiet_found (found c input zero x s) ≡ quiet_found (found c input zero y t)
zero_alike c input s t h (Goes a) (Goes b) k = refl
zero_alike c input s t h (Goes a) (Stops q) k = absurd (cc)
zero_alike c input s t h (Goes a) Stuck k = absurd (cc)
zero_alike c input s t h (Stops p) (Goes b) k = absurd (cc)
zero_alike c input s t h (Stops p) (Stops q) k = cc
zero_alike c input s t h (Stops p) Stuck k = absurd (cc)
zero_alike c input s t h Stuck (Goes b) k = absurd (cc)
zero_alike c input s t h Stuck (Stops q) k = absurd (cc)
zero_alike c input s t h Stuck Stuck k = refl

suc_alike : (c : CodeParts) (input : List ℕ) (n : ℕ) (s t : Node) → quiet s ≡ quiet t
    → ((a b : Node) → quiet a ≡ quiet b → quiet_found (machine.within (next c input) n a) ≡ quiet_found (machine.within (next c input) n b))
    → (x y : Next Node Stop) → Alike x y → quiet_found (found c input (suc n) x s) ≡ quiet_found (found c input (suc n) y t)
suc_alike c input n s t h rest (Goes a) (Goes b) k = rest a b (goes_alike a b k)
suc_alike c input n s t h rest (Goes a) (Stops q) k = absurd (cc)
suc_alike c input n s t h rest (Goes a) Stuck k = absurd (cc)
suc_alike c input n s t h rest (Stops p) (Goes b) k = absurd (cc)
suc_alike c input n s t h rest (Stops p) (Stops q) k = cc
suc_alike c input n s t h rest (Stops p) Stuck k = absurd (cc)
suc_alike c input n s t h rest Stuck (Goes b) k = absurd (cc)
suc_alike c input n s t h rest Stuck (Stops q) k = absurd (cc)
suc_alike c input n s t h rest Stuck Stuck k = refl

pub stops_alike : StopsAlike
stops_alike c input zero s t h = zero_alike c input s t h (next c input s) (next c input t) (steps_alike c input s t h)
stops_alike c input (suc n) s t h = suc_alike c input n s t h (stops_alike c input n) (next c input s) (next c input t) (steps_alike c input s t h)

pub muted_is_alike : MutedIsAlike
muted_is_alike s = refl
