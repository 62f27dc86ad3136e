-- What is asked of a program, of the parts of a statement, and of where a statement stands, so that nodes follow.
use Rattle.std.specs.Prelude.{◌≡◌, ◌<◌, ◌&&◌, ℕ, true, false, length, Some, None}
use Rattle.std.specs.List.{AllByRecursion, list_all}
use Rattle.xmp_prog.specs.declared.parts.ProgParts.{ProgParts}
use Rattle.xmp_prog.specs.declared.parts.Kind.TheVariants.{Global}
use Rattle.xmp_prog.specs.declared.parts.Home.TheVariants as home
use Rattle.xmp_prog.specs.declared.statements.LoopDirective.{LoopDirective}
use Rattle.xmp_prog.specs.declared.statements.Stmt.{Stmt}
use Rattle.xmp_prog.specs.Terms.{Term}
use Rattle.xmp_prog.specs.Statements.{Statement, arrays_beside, statements_of, terms_of_stmt, slots_of_stmt}
use Rattle.xmp_prog.specs.Tests.{constant_fits, operands_fit, choice_fits, element_fits, image_fits, asks_no_node, assignment_fits, counted_fits, is_no_sync, is_return}
use Rattle.xmp_prog.specs.Directives.{names_template, has_points, has_indices, is_small_point, indices_once, indices_of_nest, points_indices, at_loops, nest_counted, at_gmoves, side_fits, sections_agree, cast_fits, tasks_inside, tasks_apart}
use Rattle.xmp_prog.specs.Fits.{node_count, PartsFit}
use Rattle.xmp_loops.specs.Objects.{all_nodes}
use Rattle.xmp_loops.specs.Loopers.{function_loops}
use Rattle.xmp_loops.specs.declared.role.Role.TheVariants.{Shared, Index}
use Rattle.xmp_meaning.specs.Declarations.{home_of, scalar_type}
use Rattle.xmp_num.specs.declared.types.Ty.TheVariants.{Int}
use Rattle.xmp_meaning.specs.Writes.{scalars_written, arrays_written}
use Rattle.xmp_nodes.specs.Lists.{HasAxes}
use Rattle.xmp_nodes.proofs.Agrees.{Stand, is_changed}

-- a program of one view for all nodes, whose parts fit
pub record IsGlobal (p : ProgParts) : Type 0 where
  pub fits : PartsFit p
  pub kind : p.kind ≡ Global
  pub axes : HasAxes p

-- ---- parts

-- a term and a statement pass the tests of a program whose parts fit
pub record TermStands (p : ProgParts) (t : Term) : Type 0 where
  pub constant : constant_fits t ≡ true
  pub operands : operands_fit t ≡ true
  pub choice : choice_fits t ≡ true
  pub element : element_fits p t ≡ true
  pub image : image_fits p t ≡ true
  pub node : asks_no_node t ≡ true

pub record StatementStands (p : ProgParts) (y : Statement) : Type 0 where
  pub assignment : assignment_fits p y ≡ true
  pub counted : counted_fits p y ≡ true
  pub sync : is_no_sync y ≡ true
  pub template : at_loops (names_template p) y ≡ true
  pub points : at_loops (has_points p) y ≡ true
  pub small : at_loops (λ d. list_all is_small_point d.points) y ≡ true
  pub distributed : at_loops (has_indices p) y ≡ true
  pub once : at_loops indices_once y ≡ true
  pub nest_indices : at_loops indices_of_nest y ≡ true
  pub nest : nest_counted p y ≡ true
  pub arrays : AllByRecursion (λ a. a < length p.arrays) (arrays_beside y)
  pub sides : at_gmoves (λ target source. side_fits p target && side_fits p source) y ≡ true
  pub sections : at_gmoves sections_agree y ≡ true
  pub cast : cast_fits p y ≡ true
  pub inside : tasks_inside p y ≡ true
  pub apart : tasks_apart p y ≡ true

-- all of a statement does
pub record PartFits (p : ProgParts) (x : Stmt) : Type 0 where
  pub terms : AllByRecursion (TermStands p) (terms_of_stmt p x)
  pub statements : AllByRecursion (StatementStands p) (statements_of x)
  pub slots : AllByRecursion (λ n. n < length p.scalars) (slots_of_stmt p x)

-- there is no `return` in it
abbrev pub NoReturn : Stmt → Type 0
NoReturn x = AllByRecursion (λ y. is_return y ≡ false) (statements_of x)

-- ---- settings

-- in a loop directive all nodes run; its indices are those of its points; and it writes no array without align
pub record IsLoopSetting (a : Stand) (d : LoopDirective) : Type 0 where
  pub nodes : a.set.nodes ≡ all_nodes a.program
  pub inside : a.set.inside ≡ true
  pub template : names_template a.program d ≡ true
  pub points : has_points a.program d ≡ true
  pub distributed : has_indices a.program d ≡ true
  pub small : list_all is_small_point d.points ≡ true
  pub indices : AllByRecursion (λ slot. a.set.roles slot ≡ Index) (points_indices d)
  pub ints : AllByRecursion (λ slot. scalar_type a.program slot ≡ Int) (points_indices d)
  pub copies : (array : ℕ) → home_of a.program array ≡ home.Copy → a.set.written array ≡ false

-- a setting of the program: the body of main, a task, or a loop directive
pub record IsSetting (a : Stand) : Type 0 where
  pub global : IsGlobal a.program
  pub program : a.set.program ≡ a.program
  pub below : a.node < node_count a.program
  pub loops : a.set.loops ≡ function_loops a.program
  pub still : a.set.moving ≡ false
  pub all : a.set.inside ≡ false → a.set.nodes ≡ all_nodes a.program
  pub outside : a.set.inside ≡ false → a.set.over ≡ None
  pub shared : a.set.over ≡ None → (slot : ℕ) → a.set.roles slot ≡ Shared
  pub unwritten : a.set.over ≡ None → (array : ℕ) → a.set.written array ≡ false
  pub directive : (d : LoopDirective) → a.set.over ≡ Some d → IsLoopSetting a d

-- in a loop directive a statement writes no scalar but own ones and reduction variables, and the arrays that count as written
pub record WritesFit (a : Stand) (x : Stmt) : Type 0 where
  pub scalars : (d : LoopDirective) → a.set.over ≡ Some d → AllByRecursion (λ slot. is_changed (a.set.roles slot) ≡ true) (scalars_written x)
  pub arrays : (d : LoopDirective) → a.set.over ≡ Some d → AllByRecursion (λ array. a.set.written array ≡ true) (arrays_written x)
