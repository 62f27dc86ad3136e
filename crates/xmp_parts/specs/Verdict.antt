-- The verdict on the names and mappings of a program: the first rule of names that breaks, or, where none does, the first
-- rule of mappings that breaks: by place, and at one place by number. Source: this project.
use Rattle.std.specs.Prelude.{◌≡◌, ℕ, Bool, true, false, List, [], ◌∷◌, ◌++◌, filter, not, ◌⊎◌, ⊤, Option, Some, None}
use Rattle.std.specs.List.{Any}
use Rattle.xmp_base.specs.declared.refusal.Phase.{Phase}
use Rattle.xmp_base.specs.declared.refusal.Phase.TheVariants as phase
use Rattle.xmp_base.specs.declared.refusal.Refusal.{Refusal}
use Rattle.xmp_base.specs.declared.refusal.Fault.{Fault}
use Rattle.xmp_base.specs.declared.refusal.Fault.TheVariants.{Refused, NoMemory}
use Rattle.xmp_base.specs.First.{first_of, IsFirst}
use Rattle.xmp_syntax.specs.declared.program.Tree.{Tree}
use Rattle.xmp_prog.specs.declared.statements.Stmt.{Stmt}
use Rattle.xmp_names.specs.declared.rules.Rule.{Rule}
use Rattle.xmp_names.specs.declared.rules.Rule.TheVariants.{N1, N2, N3, N4, N5, N6, N7, N8, N9, N10, M1, M2, M3, M4, M5, M6, M7, M8, M9, M10}
use Rattle.xmp_names.specs.declared.rules.Broken.{Broken}
use Rattle.xmp_names.specs.declared.world.World.{World}
use Rattle.xmp_names.specs.Walk.{Step, Gave}
use Rattle.xmp_mapping_rules.specs.MappingRules.{mapping_rules}
use Rattle.xmp_walk.specs.Program.{program_of}

-- The number of a rule in its phase, and its phase.
abbrev pub number_of : Rule → ℕ
number_of N1 = 1
number_of N2 = 2
number_of N3 = 3
number_of N4 = 4
number_of N5 = 5
number_of N6 = 6
number_of N7 = 7
number_of N8 = 8
number_of N9 = 9
number_of N10 = 10
number_of M1 = 1
number_of M2 = 2
number_of M3 = 3
number_of M4 = 4
number_of M5 = 5
number_of M6 = 6
number_of M7 = 7
number_of M8 = 8
number_of M9 = 9
number_of M10 = 10

abbrev pub is_of_names : Rule → Bool
is_of_names N1 = true
is_of_names N2 = true
is_of_names N3 = true
is_of_names N4 = true
is_of_names N5 = true
is_of_names N6 = true
is_of_names N7 = true
is_of_names N8 = true
is_of_names N9 = true
is_of_names N10 = true
is_of_names _ = false

abbrev pub phase_in : Bool → Phase
phase_in true = phase.Names
phase_in false = phase.Mapping

abbrev pub refusal_of : Broken → Refusal
refusal_of b = record { phase = phase_in (is_of_names b.rule); rule = number_of b.rule; at = b.at }

-- A refusal is that of a rule in a list.
abbrev pub IsIn : List Broken → Refusal → Type 0
IsIn bs r = Any (λ b. r ≡ refusal_of b) bs

-- The first refusal of a list.
abbrev pub first_in : List Broken → Option Refusal
first_in [] = None
first_in (b ∷ bs) = first_of (Some (refusal_of b)) (first_in bs)

-- The rules of names in a list, and those of mappings.
abbrev pub of_names : List Broken → List Broken
of_names bs = filter (λ b. is_of_names b.rule) bs

abbrev pub of_mappings : List Broken → List Broken
of_mappings bs = filter (λ b. not (is_of_names b.rule)) bs

-- All rules that break in the world at the end of a walk.
abbrev pub broken_in : World → List Broken
broken_in w = w.broken ++ mapping_rules w

abbrev pub world_after : Step Stmt → World
world_after (Gave body w) = w

abbrev pub broken_rules : Tree → Option ℕ → List Broken
broken_rules t given = broken_in (world_after (program_of t given))

-- A rule of names, or of mappings, breaks in a program, and this is its refusal.
abbrev pub BreaksNames : Tree → Option ℕ → Refusal → Type 0
BreaksNames t given r = IsIn (of_names (broken_rules t given)) r

abbrev pub BreaksMappings : Tree → Option ℕ → Refusal → Type 0
BreaksMappings t given r = IsIn (of_mappings (broken_rules t given)) r

-- The verdict on a program: the first rule of names that breaks; or, where none of these breaks, the first rule of mappings that does; or none.
abbrev pub IsVerdictIn : (Refusal → Type 0) → (Refusal → Type 0) → Option Refusal → Type 0
IsVerdictIn Names Mappings (Some r) = IsFirst Names (Some r) ⊎ (IsFirst Names None × IsFirst Mappings (Some r))
IsVerdictIn Names Mappings None = IsFirst Names None × IsFirst Mappings None

abbrev pub IsVerdict : Tree → Option ℕ → Option Refusal → Type 0
IsVerdict t given found = IsVerdictIn (BreaksNames t given) (BreaksMappings t given) found

-- A fault is the refusal of a program, or want of memory, which no clause ties to anything.
abbrev pub IsFaultOf : Tree → Option ℕ → Fault → Type 0
IsFaultOf t given (Refused r) = IsVerdict t given (Some r)
IsFaultOf t given NoMemory = ⊤

-- ---- the same as a function

abbrev pub after_names : Option Refusal → List Broken → Option Refusal
after_names (Some r) bs = Some r
after_names None bs = first_in bs

abbrev pub verdict_of : List Broken → Option Refusal
verdict_of bs = after_names (first_in (of_names bs)) (of_mappings bs)

abbrev pub verdict : Tree → Option ℕ → Option Refusal
verdict t given = verdict_of (broken_rules t given)
