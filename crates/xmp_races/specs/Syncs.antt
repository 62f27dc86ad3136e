-- Rule C1 (this project): where `xmp_sync_all` may stand, and how many phases there may be.
use Rattle.std.specs.Prelude.{ℕ, ◌≡◌, ◌+◌, ◌*◌, ◌⊎◌, ◌||◌, min, not, nat_le, Bool, true, false, if◌then◌else◌, List, [], ◌∷◌, ◌++◌, ℤ, pos, ◌-ℤ◌, ◌+ℤ◌, Option, Some, None}
use Rattle.std.specs.List.{list_all}
use Rattle.std.specs.Ordering.{int_eq}
use Rattle.xmp_base.specs.declared.refusal.Phase.TheVariants.{Coarray}
use Rattle.xmp_base.specs.declared.refusal.Refusal.{Refusal}
use Rattle.xmp_num.specs.declared.types.Ty.TheVariants.{Int}
use Rattle.xmp_num.specs.Arithmetic.{wrap}
use Rattle.xmp_prog.specs.declared.statements.LoopHead.{LoopHead}
use Rattle.xmp_prog.specs.declared.statements.Plain.{Plain}
use Rattle.xmp_prog.specs.declared.statements.Plain.TheVariants as plain
use Rattle.xmp_prog.specs.declared.statements.Stmt.{Stmt}
use Rattle.xmp_prog.specs.declared.statements.Stmt.TheOpen.{Stmt-F, Task-F}
use Rattle.xmp_prog.specs.declared.statements.Stmt.TheFolds.{fold-Stmt}
use Rattle.xmp_meaning.specs.Loops.{turn_count}
use Rattle.xmp_spots.specs.Images.{Values, image_values}
use Rattle.xmp_races.specs.declared.stops.Stop.{Stop}
use Rattle.xmp_races.specs.declared.stops.Rounds.{Rounds}

-- the most phases of a program; counts above it count as it
abbrev pub most : ℕ
most = 4294967296

-- ---- the turns of a counted loop, where they are the same on each image

-- the one value that all images have
abbrev pub one_value : Option (List ℤ) → Option ℤ
one_value None = None
one_value (Some []) = None
one_value (Some (v ∷ vs)) = if list_all (int_eq v) vs then Some v else None

-- how far a bound is above the first value
abbrev pub gap : ℤ → ℤ → Bool → ℤ
gap from to inclusive = (to -ℤ from) +ℤ pos (if inclusive then 1 else 0)

abbrev pub turns_between : LoopHead → Option ℤ → Option ℤ → Option ℕ
turns_between h (Some from) (Some to) = Some (turn_count (wrap Int from) (wrap Int to) h.inclusive h.step)
turns_between h (Some from) None = None
turns_between h None to = None

abbrev pub turns_of : (count : ℕ) → Values → LoopHead → Option ℕ
turns_of count values h = turns_between h (one_value (image_values count values h.from)) (one_value (image_values count values h.to))

-- ---- the syncs of a statement

-- Rounds: whether only blocks and counted loops with the same turns on each image stand round a statement, and how often
-- these loops come to it.
abbrev pub misplaced : Rounds → Rounds
misplaced r = record r { placed = false }

abbrev pub in_loop : Rounds → Option ℕ → Rounds
in_loop r None = misplaced r
in_loop r (Some n) = record r { turns = min (r.turns * n) most }

-- each sync in order, with its place and what is round it
abbrev pub Stops : Type 0
Stops = Rounds → List Stop

abbrev pub plain_stops : Plain → Rounds → List Stop
plain_stops (plain.Sync status at) r = record { at = at; rounds = r } ∷ []
plain_stops _ r = []

abbrev pub all_stops : List Stops → Rounds → List Stop
all_stops [] r = []
all_stops (x ∷ xs) r = x r ++ all_stops xs r

abbrev pub stops_step : (count : ℕ) → Values → Stmt-F Stops Stops → Stops
stops_step count values (Stmt-F.Plain p) r = plain_stops p r
stops_step count values (Stmt-F.Block all) r = all_stops all r
stops_step count values (Stmt-F.If test a b) r = a (misplaced r) ++ b (misplaced r)
stops_step count values (Stmt-F.While test body at) r = body (misplaced r)
stops_step count values (Stmt-F.Counted head body) r = body (in_loop r (turns_of count values head))
stops_step count values (Stmt-F.Loop directive body) r = body (misplaced r)
stops_step count values (Stmt-F.Tasks all at) r = all_stops all (misplaced r)

abbrev pub task_stops : Task-F Stops Stops → Stops
task_stops t r = t.body r

abbrev pub stops_of : (count : ℕ) → Values → Stmt → Stops
stops_of count values = fold-Stmt Stops Stops (stops_step count values) task_stops

-- ---- the rule

-- at a sync, where so many phases end before it: it is misplaced, or with it there are more than the most phases
abbrev pub breaks_at : (before : ℕ) → Stop → Bool
breaks_at before s = not s.rounds.placed || nat_le most (min (before + s.rounds.turns) most)

abbrev pub stopped_at : Stop → Refusal
stopped_at s = record { phase = Coarray; rule = 1; at = s.at }

-- the refusal is at one of these syncs
abbrev pub BreaksAtStop : (before : ℕ) → List Stop → Refusal → Type 0
BreaksAtStop before [] r = ⊥
BreaksAtStop before (s ∷ stops) r =
    ((breaks_at before s ≡ true) × (stopped_at s ≡ r)) ⊎ BreaksAtStop (min (before + s.rounds.turns) most) stops r

-- how many phases end up to the last of these syncs
abbrev pub phases_after : (before : ℕ) → List Stop → ℕ
phases_after before [] = before
phases_after before (s ∷ stops) = phases_after (min (before + s.rounds.turns) most) stops

abbrev pub outermost_rounds : Rounds
outermost_rounds = record { placed = true; turns = 1 }
