-- Which parts make a code (this project).
use Rattle.std.specs.Prelude.{◌≡◌, ◌<◌, ◌≤◌, ◌+◌, ◌&&◌, nat_lt, nat_le, ℕ, Bool, true, false, IsTrue, List, [], ◌∷◌, length, Option, Some, None, slice_get}
use Rattle.std.specs.List.{AllByRecursion, last_or}
use Rattle.xmp_base.specs.Limits.{node_limit}
use Rattle.xmp_num.specs.declared.types.Ty.{Ty}
use Rattle.xmp_map.specs.declared.template.Template.{Template}
use Rattle.xmp_map.specs.declared.array_map.ArrayMap.{ArrayMap}
use Rattle.xmp_map.specs.RowMajor.{product}
use Rattle.xmp_map.specs.Held.{node_count}
use Rattle.xmp_prog.specs.declared.parts.Home.{Home}
use Rattle.xmp_prog.specs.declared.parts.Home.TheVariants as home
use Rattle.xmp_prog.specs.Formats.{IsFormat}
use Rattle.xmp_prog.specs.Numbers.{pairwise, apart}
use Rattle.xmp_move.specs.declared.kind.MoveKind.{MoveKind}
use Rattle.xmp_move.specs.Sides.{words_in}
use Rattle.xmp_move.specs.Laid.{ArraysFit, IsLaidOut, sides_of}
use Rattle.xmp_instr.specs.declared.instr.Instr.{Instr}
use Rattle.xmp_instr.specs.declared.instr.Instr.TheVariants as i
use Rattle.xmp_instr.specs.declared.meeting.Meeting.{Meeting}
use Rattle.xmp_instr.specs.declared.meeting.Meeting.TheVariants as meeting
use Rattle.xmp_instr.specs.declared.parts.Guard.{Guard}
use Rattle.xmp_instr.specs.declared.parts.CodeParts.{CodeParts}
use Rattle.xmp_instr.specs.Depths.{IsDepth, IsFine}

-- ---- tables

-- the grid of a map and of a template has so many nodes
abbrev pub MapOver : ℕ → ArrayMap → Type 0
MapOver nodes m = node_count m ≡ nodes

abbrev pub TemplateOver : ℕ → Template → Type 0
TemplateOver nodes t = product t.grid.sizes ≡ nodes

abbrev pub HomeOver : ℕ → Home → Type 0
HomeOver nodes (home.Spread t m) = MapOver nodes m
HomeOver nodes home.Copy = Unit {0}
HomeOver nodes home.Image = Unit {0}

-- a format is one, for arguments of some types
abbrev pub IsBuilt : (format : List ℕ) → Type 0
IsBuilt format = (types : List Ty) × IsFormat format types

-- numbers that rise, from `least` on and below the number of nodes
abbrev pub rises : (nodes least : ℕ) → List ℕ → Bool
rises nodes least [] = true
rises nodes least (k ∷ ks) = nat_le least k && (nat_lt k nodes && rises nodes (k + 1) ks)

-- a set of nodes has at least one, and rises
abbrev pub is_set : (nodes : ℕ) → List ℕ → Bool
is_set nodes [] = false
is_set nodes (k ∷ ks) = rises nodes 0 (k ∷ ks)

-- the sets of a meeting are sets, and no two share a node
pub record AreSets (nodes : ℕ) (sets : List (List ℕ)) : Type 0 where
  pub each : AllByRecursion (λ set. IsTrue (is_set nodes set)) sets
  pub disjoint : IsTrue (pairwise apart sets)

-- a transfer is laid out for the node, over grids of all nodes, with its words in the store, where its sides are one array or
-- share no word
pub record MoveFits (c : CodeParts) (kind : MoveKind) : Type 0 where
  pub grids : AllByRecursion (λ s. HomeOver c.nodes s.home) (sides_of kind)
  pub laid_out : IsLaidOut kind c.node
  pub words : AllByRecursion (λ s. s.base + words_in s c.node ≤ c.words) (sides_of kind)
  pub arrays : ArraysFit kind c.node

-- a slot is below the number of words
abbrev pub SlotFits : CodeParts → ℕ → Type 0
SlotFits c slot = slot < c.words

abbrev pub MeetingFits : CodeParts → Meeting → Type 0
MeetingFits c meeting.Barrier = Unit {0}
MeetingFits c (meeting.Cast slots from) = (from < c.nodes) × AllByRecursion (SlotFits c) slots
MeetingFits c (meeting.Move kind target_at source_at) = MoveFits c kind
MeetingFits c (meeting.LoopEnd rs) = AllByRecursion (λ r. SlotFits c r.slot) rs
MeetingFits c (meeting.TaskEnd sets) = AreSets c.nodes sets

-- the slot of an index that may be missing
abbrev pub IndexFits : CodeParts → Option ℕ → Type 0
IndexFits c None = Unit {0}
IndexFits c (Some slot) = SlotFits c slot

-- a guard's target is an instruction with the depth 0, and its indices have slots
pub record GuardFits (c : CodeParts) (g : Guard) : Type 0 where
  pub target : g.target < length c.instrs
  pub depth : IsDepth c g.target 0
  pub indices : AllByRecursion (IndexFits c) g.indices

-- ---- instructions

abbrev pub HasDimension : Option ArrayMap → ℕ → Type 0
HasDimension None d = ⊥
HasDimension (Some m) d = d < m.dims

abbrev pub HasAxis : Option Template → ℕ → Type 0
HasAxis None d = ⊥
HasAxis (Some t) d = d < t.dims

abbrev pub HasDimensions : Option Template → ℕ → Type 0
HasDimensions None n = ⊥
HasDimensions (Some t) n = n ≡ t.dims

-- The slots, rows of tables, dimensions and instructions that an instruction names are there.
abbrev pub InRange : CodeParts → Instr → Type 0
InRange c (i.Load slot) = SlotFits c slot
InRange c (i.Save slot) = SlotFits c slot
InRange c (i.LoadAt b n) = b + n ≤ c.words
InRange c (i.SaveAt b n) = b + n ≤ c.words
InRange c (i.Local m d) = HasDimension (slice_get c.maps m) d
InRange c (i.Jump k) = k < length c.instrs
InRange c (i.JumpZero k) = k < length c.instrs
InRange c (i.Call k) = k < length c.instrs
InRange c (i.Mine t n) = HasDimensions (slice_get c.templates t) n
InRange c (i.NextMine t d) = HasAxis (slice_get c.templates t) d
InRange c (i.Guard g) = g < length c.guards
InRange c (i.Print f) = f < length c.formats
InRange c (i.Exchange e) = e < length c.meetings
InRange c _ = Unit {0}

-- an instruction behind which none needs to follow
abbrev pub Closes : Option Instr → Type 0
Closes (Some i.End) = Unit {0}
Closes (Some i.Return) = Unit {0}
Closes (Some (i.Jump k)) = Unit {0}
Closes _ = ⊥

-- with its depth an instruction finds its values, and the depths agree along its steps
abbrev pub FineAt : CodeParts → (p : ℕ) → Instr → Type 0
FineAt c p instr = (d : ℕ) → IsDepth c p d → IsFine c p d instr

pub record AreFine (c : CodeParts) : Type 0 where
  pub each : (p : ℕ) (instr : Instr) → slice_get c.instrs p ≡ Some instr → FineAt c p instr

-- ---- the parts

-- the code is that of one of 1 to 16 nodes
pub record HasNodes (c : CodeParts) : Type 0 where
  pub some : 1 ≤ c.nodes
  pub most : c.nodes ≤ node_limit
  pub node : c.node < c.nodes

pub record HasTables (c : CodeParts) : Type 0 where
  -- the grids of maps and templates have all nodes
  pub maps : AllByRecursion (MapOver c.nodes) c.maps
  pub templates : AllByRecursion (TemplateOver c.nodes) c.templates
  -- each format is built of pieces
  pub formats : AllByRecursion IsBuilt c.formats
  -- casts are from one of the nodes, tasks are on sets of them that rise and lie apart, transfers are laid out
  pub meetings : AllByRecursion (MeetingFits c) c.meetings
  -- guards lead to an instruction with the depth 0
  pub guards : AllByRecursion (GuardFits c) c.guards

-- each instruction has a depth, of at most the greatest; that of the first is 0
pub record HasDepths (c : CodeParts) : Type 0 where
  pub long : length c.depths ≡ length c.instrs
  pub most : AllByRecursion (λ d. d ≤ c.depth) c.depths
  pub first : IsDepth c 0 0

pub record HasSteps (c : CodeParts) : Type 0 where
  -- what instructions name is in range
  pub ranges : AllByRecursion (InRange c) c.instrs
  pub depths : HasDepths c
  -- each finds its values, and the depths agree along its steps
  pub fine : AreFine c
  -- the last ends the code, returns or jumps
  pub last : Closes (last_or None c.instrs)

-- The parts make a code.
pub record IsValid (c : CodeParts) : Type 0 where
  pub nodes : HasNodes c
  pub tables : HasTables c
  pub steps : HasSteps c
