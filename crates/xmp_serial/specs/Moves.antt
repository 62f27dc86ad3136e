-- Assignments of sections, as the serial meaning has them.
use Rattle.std.specs.Prelude.{◌≡◌, ◌+◌, ◌-◌, ◌*◌, ◌&&◌, ◌||◌, ◌==◌, nat_lt, nat_le, ℕ, ℤ, pos, negsuc, Bool, false, List, [], ◌∷◌, length, map, Option, Some, None, Result, Ok, Err}
use Rattle.xmp_prog.specs.declared.statements.MoveSide.{MoveSide}
use Rattle.xmp_prog.specs.declared.statements.Name.{Name}
use Rattle.xmp_meaning.specs.Handlers.{Aim, erased}
use Rattle.xmp_meaning.specs.declared.ends.Flow.{Flow}
use Rattle.xmp_meaning.specs.declared.ends.Halt.{Halt}
use Rattle.xmp_meaning.specs.declared.ends.Halt.TheVariants as halt
use Rattle.xmp_meaning.specs.Runs.{State, Gave, Ended, Run, ◌>>=◌, pure}
use Rattle.xmp_meaning.specs.Context.{Context}
use Rattle.xmp_meaning.specs.Declarations.{extents}
use Rattle.xmp_meaning.specs.Expressions.{natural}
use Rattle.xmp_meaning.specs.Sections.{Chosen, One, Many, aim, all_subscripts, cells, cells_from, fit, lengths, lengths_fit, name_of, progression, read_all, spread, store_all}
use Rattle.xmp_serial.specs.declared.gmove.Aim as moves
use Rattle.xmp_serial.specs.declared.sections.Chosen as code
use Rattle.xmp_serial.specs.declared.sections.Chosen.TheVariants as variant

-- what is meant, then what is read, then what is written
abbrev pub gmove_of : Context → MoveSide → MoveSide → Run (Unit {0}) Flow
gmove_of cx target source = aim erased cx target source >>= (λ a. read_all erased source a.sources >>= store_all erased cx target a.targets)

-- what the interpreter's aim stands for
abbrev pub aim_of : moves.Aim → Aim
aim_of a = record { targets = a.targets; sources = a.sources }

-- the part of the meaning that a part of the code stands for
abbrev pub chosen_of : code.Chosen → Chosen
chosen_of (variant.One v) = One v
chosen_of (variant.Many base length step) = Many base length step

-- the subscripts that a part means, where they lie in the dimension
abbrev pub subscripts_of : Chosen → List ℕ
subscripts_of (One v) = natural v ∷ []
subscripts_of (Many base length step) = progression (natural base) (natural step) (natural length)

-- the same of each dimension
abbrev pub all_of : List ℕ → List Chosen → List (List ℕ)
all_of (n ∷ ns) (c ∷ cs) = subscripts_of c ∷ all_of ns cs
all_of [] cs = []
all_of (n ∷ ns) [] = []

-- whether a part of a run that reads no state gives this value, or how it ends
abbrev pub Checks : {A : Type 0} → Run (Unit {0}) A → A → Result (Unit {0}) Halt → Type 0
Checks run a (Ok u) = (s : State (Unit {0})) → run s ≡ Gave a s
Checks run a (Err (halt.End e)) = (s : State (Unit {0})) → run s ≡ Ended e s
Checks run a (Err halt.NoMemory) = ⊥

-- a number that isn't negative
abbrev pub counted : ℤ → Option ℕ
counted (pos n) = Some n
counted (negsuc n) = None

-- a section's range, in numbers that aren't negative
abbrev pub is_last_inside : ℕ → Option ℕ → ℕ → ℕ → Bool
is_last_inside extent None length step = false
is_last_inside extent (Some base) length step = nat_lt (base + (length - 1) * step) extent

abbrev pub range_of : ℕ → Option ℕ → Option ℕ → Option ℕ → Bool
range_of extent base (Some length) (Some step) = nat_le 1 step && ((length == 0) || is_last_inside extent base length step)
range_of extent base (Some length) None = false
range_of extent base None step = false

-- the cells of an array by their numbers, once its dimensions are checked
abbrev pub array_cells : Context → Name → List Chosen → Run (Unit {0}) (List ℕ)
array_cells cx name cs = do
  xs ← all_subscripts name.at (extents cx.program name.number) cs
  pure (cells_from 0 (extents cx.program name.number) xs)

-- what is meant, once all numbers are known
abbrev pub aim_at : Context → MoveSide → MoveSide → List Chosen → List Chosen → Run (Unit {0}) Aim
aim_at cx target source to from = do
  targets ← cells cx target to
  sources ← cells cx source from
  _ ← lengths_fit (fit (lengths to) (lengths from)) (name_of target).at
  pure (record { targets = targets; sources = spread (lengths from) (length targets) sources })
