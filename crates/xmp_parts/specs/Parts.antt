-- The parts of the typed program of a tree in which no rule breaks. A grid, a template and a map are told by what they are
-- made of, as their crate does it. Source: this project.
use Rattle.std.specs.Prelude.{◌≡◌, ⊤, ℕ, zero, suc, ◌+◌, ◌==◌, List, [], ◌∷◌, ℤ, pos, map, length, Bool, true, false, if◌then◌else◌, Option, Some, None, slice_get}
use Rattle.std.specs.List.{enumerate_from}
use Rattle.xmp_base.specs.declared.refusal.Refusal.{Refusal}
use Rattle.xmp_base.specs.declared.refusal.Fault.{Fault}
use Rattle.xmp_base.specs.declared.refusal.Fault.TheVariants.{Refused, NoMemory}
use Rattle.xmp_dist.specs.declared.form.Dist.{Dist}
use Rattle.xmp_dist.specs.declared.form.Dist.TheVariants as dist
use Rattle.xmp_map.specs.declared.aligned.Target.{Target}
use Rattle.xmp_map.specs.declared.array_map.ArrayMap.{ArrayMap}
use Rattle.xmp_map.specs.declared.grid.Grid.{Grid}
use Rattle.xmp_map.specs.declared.template.Template.{Template}
use Rattle.xmp_map.specs.Nodes.{filled}
use Rattle.xmp_map.specs.Align.{aligned_dims}
use Rattle.xmp_prog.specs.declared.parts.Home.{Home}
use Rattle.xmp_prog.specs.declared.parts.Home.TheVariants as home
use Rattle.xmp_prog.specs.declared.parts.Kind.{Kind}
use Rattle.xmp_prog.specs.declared.parts.Kind.TheVariants.{Global, Coarray}
use Rattle.xmp_prog.specs.declared.parts.Array as made_array
use Rattle.xmp_prog.specs.declared.parts.ProgParts.{ProgParts}
use Rattle.xmp_prog.specs.declared.statements.Stmt.{Stmt}
use Rattle.xmp_syntax.specs.declared.program.Tree.{Tree}
use Rattle.xmp_names.specs.declared.names.Array.{Array}
use Rattle.xmp_names.specs.declared.mappings.Form.{Form}
use Rattle.xmp_names.specs.declared.mappings.Form.TheVariants as form
use Rattle.xmp_names.specs.declared.mappings.AlignPoint.{AlignPoint}
use Rattle.xmp_names.specs.declared.mappings.AlignPoint.TheVariants as ap
use Rattle.xmp_names.specs.declared.mappings.Align.{Align}
use Rattle.xmp_names.specs.declared.mappings.Shadow.{Shadow}
use Rattle.xmp_names.specs.declared.world.World.{World}
use Rattle.xmp_names.specs.Walk.{Step, Gave}
use Rattle.xmp_names.specs.Sizes.{held, lower_at, natural}
use Rattle.xmp_mapping_rules.specs.MappingRules.{nodes_of, forms_of, template_sizes, template_lowers, align_of, shadow_of}
use Rattle.xmp_walk.specs.Program.{program_of}

-- ---- the grid and the templates

abbrev pub IsGrid : List ℕ → Grid → Type 0
IsGrid sizes g = (g.sizes ≡ filled 1 sizes) × (g.dims ≡ length sizes)

-- So many numbers, 0 where there are none.
abbrev pub padded : ℕ → List ℕ → List ℕ
padded zero ns = []
padded (suc k) [] = 0 ∷ padded k []
padded (suc k) (n ∷ ns) = n ∷ padded k ns

abbrev pub made_form : Form → Dist
made_form form.Whole = dist.Whole
made_form form.Block = dist.Block
made_form (form.Cyclic n) = dist.Cyclic (natural n)
made_form (form.Gblock ns) = dist.Gblock (record { values = padded 16 (map natural ns); count = length ns })

-- A template over a grid, of these sizes and forms.
pub record IsOf (g : Grid) (ns : List ℤ) (fs : List Form) (t : Template) : Type 0 where
  pub grid : t.grid ≡ g
  pub dims : t.dims ≡ length ns
  pub sizes : map (λ s. s.dim.size) t.spread ≡ filled 1 (map natural ns)
  pub forms : map (λ s. s.dim.dist) t.spread ≡ filled dist.Whole (map made_form fs)

abbrev pub IsTemplate : World → Grid → ℕ → Template → Type 0
IsTemplate w g k t = IsOf g (template_sizes w k) (forms_of w k) t

-- ---- arrays

-- The points of an align, each constant held less the lower bound of its dimension of the template.
abbrev pub held_point : ℤ → AlignPoint → AlignPoint
held_point lower ap.Star = ap.Star
held_point lower (ap.Dummy d c) = ap.Dummy d (held lower c)

abbrev pub held_points : List ℤ → ℕ → List AlignPoint → List AlignPoint
held_points lowers k [] = []
held_points lowers k (p ∷ more) = held_point (lower_at lowers k) p ∷ held_points lowers (k + 1) more

-- A dimension that no point names is whole at each node.
abbrev pub no_target : Target
no_target = record { dim = None; offset = pos 0 }

abbrev pub target_at : ℕ → ℤ → Target
target_at k offset = record { dim = Some k; offset = offset }

-- The held constant of a point that names a dimension of the array.
abbrev pub offset_for : ℕ → AlignPoint → Option ℤ
offset_for d ap.Star = None
offset_for d (ap.Dummy e offset) = if e == d then Some offset else None

-- The dimension of the template, from the k-th on, whose point names a dimension of the array, with its held constant.
abbrev pub target_from : ℕ → ℕ → List AlignPoint → Target
target_from d k [] = no_target
target_from d k (ap.Star ∷ more) = target_from d (k + 1) more
target_from d k (ap.Dummy e offset ∷ more) = if e == d then target_at k offset else target_from d (k + 1) more

abbrev pub targets_from : ℕ → List ℕ → List AlignPoint → List Target
targets_from d extents points = map (λ x. target_from x.0 0 points) (enumerate_from d extents)

abbrev pub targets : List ℕ → List AlignPoint → List Target
targets extents points = targets_from 0 extents points

-- The widths of the first shadow of an array.
abbrev pub widths_in : List ℕ → Option Shadow → List (ℕ × ℕ)
widths_in extents None = map (λ x. (0, 0)) extents
widths_in extents (Some s) = map (λ x. (natural x.0, natural x.1)) s.widths

-- A map over a template, of these extents, held points and widths.
pub record IsOver (t : Template) (extents : List ℕ) (points : List AlignPoint) (widths : List (ℕ × ℕ)) (m : ArrayMap) : Type 0 where
  pub template : m.template ≡ t
  pub dims : m.dims ≡ length extents
  pub aligned : m.aligned ≡ aligned_dims extents (targets extents points) widths

abbrev pub IsMapOver : World → ℕ → List ℕ → Align → ArrayMap → Option Template → Type 0
IsMapOver w k extents a m None = ⊥
IsMapOver w k extents a m (Some t) = IsOver t extents (held_points (template_lowers w a.template) 0 a.points) (widths_in extents (shadow_of w k)) m

abbrev pub IsMap : World → List Template → ℕ → List ℕ → Align → ArrayMap → Type 0
IsMap w templates k extents a m = IsMapOver w k extents a m (slice_get templates a.template)

-- A coarray is an image's own; an array without align is at each node; another is spread as its first align says.
abbrev pub IsSpread : World → List Template → ℕ → List ℕ → Align → Home → Type 0
IsSpread w templates k extents a (home.Spread number m) = (number ≡ a.template) × IsMap w templates k extents a m
IsSpread w templates k extents a _ = ⊥

abbrev pub IsAligned : World → List Template → ℕ → List ℕ → Option Align → Home → Type 0
IsAligned w templates k extents None h = h ≡ home.Copy
IsAligned w templates k extents (Some a) h = IsSpread w templates k extents a h

abbrev pub IsHome : Bool → World → List Template → ℕ → List ℕ → Home → Type 0
IsHome true w templates k extents h = h ≡ home.Image
IsHome false w templates k extents h = IsAligned w templates k extents (align_of w k) h

pub record IsArray (w : World) (templates : List Template) (k : ℕ) (a : Array) (made : made_array.Array) : Type 0 where
  pub ty : made.ty ≡ a.ty
  pub extents : made.extents ≡ a.extents
  pub home : IsHome a.coarray w templates k a.extents made.home

-- ---- the program

-- Each item of a list is made into the one in its place, from the k-th on.
abbrev pub EachMade : {A B : Type 0} → (ℕ → A → B → Type 0) → ℕ → List A → List B → Type 0
EachMade Is k [] [] = ⊤
EachMade Is k [] (y ∷ ys) = ⊥
EachMade Is k (x ∷ xs) [] = ⊥
EachMade Is k (x ∷ xs) (y ∷ ys) = Is k x y × EachMade Is (k + 1) xs ys

abbrev pub kind_of : Bool → Kind
kind_of true = Coarray
kind_of false = Global

pub record Made (main : Stmt) (w : World) (p : ProgParts) : Type 0 where
  pub grid : IsGrid (map natural (nodes_of w)) p.grid
  pub kind : p.kind ≡ kind_of w.names.coarray
  pub scalars : p.scalars ≡ w.scalars
  pub arrays : EachMade (IsArray w p.templates) 0 w.names.arrays p.arrays
  pub templates : EachMade (λ k line t. IsTemplate w p.grid k t) 0 w.mappings.templates p.templates
  pub functions : p.functions ≡ w.functions
  pub start : p.start ≡ w.start
  pub body : p.body ≡ main

abbrev pub MadeAfter : Step Stmt → ProgParts → Type 0
MadeAfter (Gave body w) p = Made body w p

-- The parts of a tree, for a number of nodes or none.
abbrev pub IsParts : Tree → Option ℕ → ProgParts → Type 0
IsParts t given p = MadeAfter (program_of t given) p

-- An answer that isn't the program: the refusal that the verdict is, or want of memory.
abbrev pub RefusedBy : Option Refusal → Fault → Type 0
RefusedBy verdict (Refused r) = verdict ≡ Some r
RefusedBy verdict NoMemory = ⊤
