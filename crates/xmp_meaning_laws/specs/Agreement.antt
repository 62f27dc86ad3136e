-- Which scalars and which cells a statement without directives may read and write, where some scalars have known values
-- (this project).
use Rattle.std.specs.Prelude.{◌≡◌, ◌<◌, ◌++◌, ◌&&◌, ◌||◌, ◌==◌, is_none, if◌then◌else◌, ℕ, ℤ, pos, Bool, true, false, List, [], ◌∷◌, map, IsTrue, Option, Some, None, Result, Ok, Err}
use Rattle.std.specs.List.{AllByRecursion, list_all, flat_map}
use Rattle.std.specs.Option.{option_map}
use Rattle.xmp_num.specs.declared.types.Ty.{Ty}
use Rattle.xmp_num.specs.declared.types.BinOp.{BinOp}
use Rattle.xmp_num.specs.declared.types.TrapKind.{TrapKind}
use Rattle.xmp_num.specs.Arithmetic.{binary_of, wrap}
use Rattle.xmp_prog.specs.declared.parts.ProgParts.{ProgParts}
use Rattle.xmp_prog.specs.declared.expressions.Expr.{Expr}
use Rattle.xmp_prog.specs.declared.expressions.Access.{Access}
use Rattle.xmp_prog.specs.declared.expressions.Expr.TheOpen.{Expr-F, Access-F}
use Rattle.xmp_prog.specs.declared.expressions.Expr.TheFolds.{fold-Expr, fold-Access}
use Rattle.xmp_prog.specs.declared.statements.Compound.{Compound}
use Rattle.xmp_prog.specs.declared.statements.Target.{Target}
use Rattle.xmp_prog.specs.declared.statements.Target.TheVariants as target
use Rattle.xmp_prog.specs.declared.statements.Plain.{Plain}
use Rattle.xmp_prog.specs.declared.statements.Plain.TheVariants as plain
use Rattle.xmp_prog.specs.declared.statements.Stmt.{Stmt}
use Rattle.xmp_prog.specs.declared.statements.Stmt.TheOpen.{Stmt-F, Task-F}
use Rattle.xmp_prog.specs.declared.statements.Stmt.TheFolds.{fold-Stmt}
use Rattle.xmp_meaning.specs.declared.ends.Flow.{Flow}
use Rattle.xmp_meaning.specs.declared.ends.Flow.TheVariants.{Next, Returned}
use Rattle.xmp_meaning.specs.Cells.{read_in}
use Rattle.xmp_meaning.specs.Runs.{StepIn, Gave, Ended, State}
use Rattle.xmp_meaning.specs.Declarations.{extents, is_coarray}
use Rattle.xmp_meaning.specs.Layouts.{number_of}
use Rattle.xmp_meaning.specs.Context.{Context}
use Rattle.xmp_meaning.specs.Handlers.{erased}
use Rattle.xmp_meaning.specs.Statements.{stmt_of}
use Rattle.xmp_meaning_laws.specs.Laws.{SameShape, scalar_in}

-- ---- what is known of an expression

-- An element that a text names: its array, the values of its subscripts where they are known, and whether no image is
-- written.
pub record Spot : Type 0 where
  pub array : ℕ
  pub subscripts : List (Option ℤ)
  pub own : Bool

-- An expression by its value where that is known, the scalars that it reads, and the elements that it reads.
pub record Seen : Type 0 where
  pub value : Option ℤ
  pub slots : List ℕ
  pub spots : List Spot

-- An element by itself, and by the scalars and the elements that its subscripts and its image read.
pub record SeenElement : Type 0 where
  pub spot : Spot
  pub slots : List ℕ
  pub spots : List Spot

abbrev pub result_value : Result ℤ TrapKind → Option ℤ
result_value (Ok v) = Some v
result_value (Err kind) = None

abbrev pub joined_value : BinOp → Ty → Option ℤ → Option ℤ → Option ℤ
joined_value op ty (Some a) (Some b) = result_value (binary_of op ty a b)
joined_value op ty (Some a) None = None
joined_value op ty None b = None

abbrev pub seen_step : (known : ℕ → Option ℤ) → Expr-F Seen SeenElement → Seen
seen_step known (Expr-F.Const v ty) = record { value = Some v; slots = []; spots = [] }
seen_step known (Expr-F.Scalar slot at) = record { value = known slot; slots = slot ∷ []; spots = [] }
seen_step known (Expr-F.Cell a) = record { value = None; slots = a.slots; spots = a.spot ∷ a.spots }
seen_step known (Expr-F.Binary op ty a b at) =
    record { value = joined_value op ty a.value b.value; slots = a.slots ++ b.slots; spots = a.spots ++ b.spots }
seen_step known (Expr-F.Both a b) = record { value = None; slots = a.slots ++ b.slots; spots = a.spots ++ b.spots }
seen_step known (Expr-F.Either a b) = record { value = None; slots = a.slots ++ b.slots; spots = a.spots ++ b.spots }
seen_step known (Expr-F.Choose a b c) =
    record { value = None; slots = a.slots ++ (b.slots ++ c.slots); spots = a.spots ++ (b.spots ++ c.spots) }
seen_step known (Expr-F.Convert ty a) = record { value = option_map (wrap ty) a.value; slots = a.slots; spots = a.spots }
seen_step known (Expr-F.Call function arguments at) =
    record { value = None; slots = flat_map (λ a. a.slots) arguments; spots = flat_map (λ a. a.spots) arguments }
seen_step known Expr-F.Node = record { value = None; slots = []; spots = [] }
seen_step known Expr-F.Nodes = record { value = None; slots = []; spots = [] }

abbrev pub slots_of_image : Option Seen → List ℕ
slots_of_image None = []
slots_of_image (Some e) = e.slots

abbrev pub spots_of_image : Option Seen → List Spot
spots_of_image None = []
spots_of_image (Some e) = e.spots

abbrev pub seen_element : Access-F Seen SeenElement → SeenElement
seen_element a = record {
  spot = record { array = a.array; subscripts = map (λ e. e.value) a.subscripts; own = is_none a.image };
  slots = flat_map (λ e. e.slots) a.subscripts ++ slots_of_image a.image;
  spots = flat_map (λ e. e.spots) a.subscripts ++ spots_of_image a.image;
}

abbrev pub seen : (known : ℕ → Option ℤ) → Expr → Seen
seen known = fold-Expr Seen SeenElement (seen_step known) seen_element

abbrev pub seen_access : (known : ℕ → Option ℤ) → Access → SeenElement
seen_access known = fold-Access Seen SeenElement (seen_step known) seen_element

abbrev pub seen_option : (known : ℕ → Option ℤ) → Option Expr → Seen
seen_option known None = record { value = None; slots = []; spots = [] }
seen_option known (Some e) = seen known e

-- ---- what a statement reads and writes

-- whether a statement reads such scalars alone as have been agreed on so far, and which are then: those it assigns too
pub record Verdict : Type 0 where
  pub fits : Bool
  pub agreed : ℕ → Bool

-- A statement by its verdict, and by the elements that it reads and those that it writes.
pub record Looked : Type 0 where
  pub judge : (agreed : ℕ → Bool) → Verdict
  pub reads : List Spot
  pub writes : List Spot

-- with one scalar more
abbrev pub with_slot : ℕ → (ℕ → Bool) → ℕ → Bool
with_slot slot agreed n = (n == slot) || agreed n

abbrev pub slots_of_all : (known : ℕ → Option ℤ) → List Expr → List ℕ
slots_of_all known es = flat_map (λ e. (seen known e).slots) es

abbrev pub spots_of_all : (known : ℕ → Option ℤ) → List Expr → List Spot
spots_of_all known es = flat_map (λ e. (seen known e).spots) es

-- whether the old value is read of what is agreed on
abbrev pub old_fits : (ℕ → Bool) → Option Compound → ℕ → Bool
old_fits agreed None slot = true
old_fits agreed (Some c) slot = agreed slot

-- a known scalar is never written
abbrev pub plain_verdict : (known : ℕ → Option ℤ) → (agreed : ℕ → Bool) → Plain → Verdict
plain_verdict known agreed (plain.Declare slot value at) = record {
  fits = is_none (known slot) && list_all (with_slot slot agreed) (seen_option known value).slots;
  agreed = with_slot slot agreed;
}
plain_verdict known agreed (plain.Set (target.Scalar slot place) compound e) = record {
  fits = is_none (known slot) && (old_fits agreed compound slot && list_all agreed (seen known e).slots);
  agreed = with_slot slot agreed;
}
plain_verdict known agreed (plain.Set (target.Cell a) compound e) =
    record { fits = list_all agreed (seen_access known a).slots && list_all agreed (seen known e).slots; agreed = agreed }
plain_verdict known agreed (plain.Return e) = record { fits = list_all agreed (seen known e).slots; agreed = agreed }
plain_verdict known agreed (plain.Call function arguments at) =
    record { fits = list_all agreed (slots_of_all known arguments); agreed = agreed }
plain_verdict known agreed (plain.Print format arguments at) =
    record { fits = list_all agreed (slots_of_all known arguments); agreed = agreed }
plain_verdict known agreed (plain.Scan (target.Scalar slot place) at) = record { fits = is_none (known slot); agreed = agreed }
plain_verdict known agreed (plain.Scan (target.Cell a) at) =
    record { fits = list_all agreed (seen_access known a).slots; agreed = agreed }
plain_verdict known agreed _ = record { fits = false; agreed = agreed }

abbrev pub target_reads : (known : ℕ → Option ℤ) → Target → Option Compound → List Spot
target_reads known (target.Scalar slot at) compound = []
target_reads known (target.Cell a) None = (seen_access known a).spots
target_reads known (target.Cell a) (Some c) = (seen_access known a).spot ∷ (seen_access known a).spots

abbrev pub target_writes : (known : ℕ → Option ℤ) → Target → List Spot
target_writes known (target.Scalar slot at) = []
target_writes known (target.Cell a) = (seen_access known a).spot ∷ []

abbrev pub plain_reads : (known : ℕ → Option ℤ) → Plain → List Spot
plain_reads known (plain.Declare slot value at) = (seen_option known value).spots
plain_reads known (plain.Set to compound e) = target_reads known to compound ++ (seen known e).spots
plain_reads known (plain.Return e) = (seen known e).spots
plain_reads known (plain.Call function arguments at) = spots_of_all known arguments
plain_reads known (plain.Print format arguments at) = spots_of_all known arguments
plain_reads known (plain.Scan to at) = target_reads known to None
plain_reads known _ = []

abbrev pub plain_writes : (known : ℕ → Option ℤ) → Plain → List Spot
plain_writes known (plain.Set to compound e) = target_writes known to
plain_writes known (plain.Scan to at) = target_writes known to
plain_writes known _ = []

-- statements in their order
abbrev pub judge_all : List Looked → (ℕ → Bool) → Verdict
judge_all [] agreed = record { fits = true; agreed = agreed }
judge_all (s ∷ ss) agreed = record {
  fits = (s.judge agreed).fits && (judge_all ss (s.judge agreed).agreed).fits;
  agreed = (judge_all ss (s.judge agreed).agreed).agreed;
}

-- directives fit nowhere
abbrev pub look_step : (known : ℕ → Option ℤ) → Stmt-F Looked Looked → Looked
look_step known (Stmt-F.Plain q) = record {
  judge = λ agreed. plain_verdict known agreed q;
  reads = plain_reads known q;
  writes = plain_writes known q;
}
look_step known (Stmt-F.Block all) = record {
  judge = judge_all all;
  reads = flat_map (λ s. s.reads) all;
  writes = flat_map (λ s. s.writes) all;
}
look_step known (Stmt-F.If e a b) = record {
  judge = λ agreed. record {
    fits = list_all agreed (seen known e).slots && ((a.judge agreed).fits && (b.judge agreed).fits);
    agreed = λ n. (a.judge agreed).agreed n && (b.judge agreed).agreed n;
  };
  reads = (seen known e).spots ++ (a.reads ++ b.reads);
  writes = a.writes ++ b.writes;
}
look_step known (Stmt-F.While e body at) = record {
  judge = λ agreed. record { fits = list_all agreed (seen known e).slots && (body.judge agreed).fits; agreed = agreed };
  reads = (seen known e).spots ++ body.reads;
  writes = body.writes;
}
look_step known (Stmt-F.Counted head body) = record {
  judge = λ agreed. record {
    fits = is_none (known head.index.number)
        && (list_all agreed (seen known head.from).slots
        && (list_all (with_slot head.index.number agreed) (seen known head.to).slots
        && (body.judge (with_slot head.index.number agreed)).fits));
    agreed = with_slot head.index.number agreed;
  };
  reads = (seen known head.from).spots ++ ((seen known head.to).spots ++ body.reads);
  writes = body.writes;
}
look_step known (Stmt-F.Loop directive body) = record { judge = λ agreed. record { fits = false; agreed = agreed }; reads = []; writes = [] }
look_step known (Stmt-F.Tasks all at) = record { judge = λ agreed. record { fits = false; agreed = agreed }; reads = []; writes = [] }

abbrev pub look_task : Task-F Looked Looked → Looked
look_task t = t.body

abbrev pub look : (known : ℕ → Option ℤ) → Stmt → Looked
look known = fold-Stmt Looked Looked (look_step known) look_task

-- ---- cells

-- a value is the one that is known, where one is
abbrev pub IsKnown : Option ℤ → ℤ → Type 0
IsKnown None v = Unit {0}
IsKnown (Some w) v = v ≡ w

-- subscripts that lie inside the extents, and are those that are known
abbrev pub MayBe : List (Option ℤ) → (extents xs : List ℕ) → Type 0
MayBe [] ns xs = xs ≡ []
MayBe (o ∷ os) [] xs = xs ≡ []
MayBe (o ∷ os) (n ∷ ns) [] = ⊥
MayBe (o ∷ os) (n ∷ ns) (x ∷ xs) = (x < n) × IsKnown o (pos x) × MayBe os ns xs

-- the image of an element for which none is written
abbrev pub own_image : ProgParts → (node array : ℕ) → ℕ
own_image p node array = if is_coarray p array then node else 0

-- every cell that an element may be satisfies a property
abbrev pub SpotIn : ProgParts → (node : ℕ) → (ℕ → List ℕ → ℕ → Type 0) → Spot → Type 0
SpotIn p node P spot = (xs : List ℕ) (image : ℕ) → MayBe spot.subscripts (extents p spot.array) xs
    → (spot.own ≡ true → image ≡ own_image p node spot.array) → P spot.array xs image

-- ---- two steps

-- Both give values, or come to the same end; what holds then of the values and the states.
abbrev pub StepsMeet : {S T A B : Type 0} → (S → T → Type 0) → (A → B → S → T → Type 0) → StepIn S A → StepIn T B → Type 0
StepsMeet E Q (Gave a s) (Gave b t) = Q a b s t
StepsMeet E Q (Gave a s) (Ended e t) = ⊥
StepsMeet E Q (Ended e s) (Gave b t) = ⊥
StepsMeet E Q (Ended e s) (Ended f t) = (e ≡ f) × E s t

-- what holds after a statement: more where it went on than where it returned
abbrev pub AfterFlow : {S T : Type 0} → (returned gone : S → T → Type 0) → Flow → Flow → S → T → Type 0
AfterFlow returned gone Next Next s t = gone s t
AfterFlow returned gone Next (Returned w) s t = ⊥
AfterFlow returned gone (Returned v) Next s t = ⊥
AfterFlow returned gone (Returned v) (Returned w) s t = (v ≡ w) × returned s t

-- ---- locality by cells

-- States with the same values in the scalars that are agreed on and in the cells that are readable, and with the known
-- values in the known scalars.
pub record SameBy (X : Type 0) (known : ℕ → Option ℤ) (readable : ℕ → ℤ → Bool) (agreed : ℕ → Bool) (s t : State X) : Type 0 where
  pub scalars : (slot : ℕ) → agreed slot ≡ true → scalar_in s slot ≡ scalar_in t slot
  pub knows : (slot : ℕ) (v : ℤ) → known slot ≡ Some v → scalar_in s slot ≡ v
  pub cells : (array : ℕ) (at : ℤ) → readable array at ≡ true → read_in s.arrays array at ≡ read_in t.arrays array at
  pub shape : SameShape s t
  pub out : s.out ≡ t.out
  pub taken : s.taken ≡ t.taken
  pub steps : s.steps ≡ t.steps
  pub extra : s.extra ≡ t.extra

-- the cells that aren't writable are as they were
abbrev pub CellsStay : {X : Type 0} → (writable : ℕ → ℤ → Bool) → State X → State X → Type 0
CellsStay writable s t = (array : ℕ) (at : ℤ) → writable array at ≡ false → read_in t.arrays array at ≡ read_in s.arrays array at

-- both of these, after runs from `a` and `b`
abbrev pub SameThen : (X : Type 0) → (known : ℕ → Option ℤ) → (readable writable : ℕ → ℤ → Bool) → (agreed : ℕ → Bool)
    → (a b s t : State X) → Type 0
SameThen X known readable writable agreed a b s t = SameBy X known readable agreed s t × CellsStay writable a s × CellsStay writable b t

-- the cells that an element may be are readable, or writable, by their numbers
abbrev pub SpotIs : Context → (ℕ → ℤ → Bool) → Spot → Type 0
SpotIs cx test = SpotIn cx.program cx.node (λ array xs image. test array (number_of cx.layout cx.program array image xs) ≡ true)

-- From states that agree on what a statement reads, it comes to the same, and the states then agree on that and on what
-- it assigned; it changes no cell but those that it may write. Which cells are read and written is known from the values
-- of some scalars, which it leaves.
abbrev pub IsLocalByCells : (X : Type 0) → Context → Stmt → Type 0
IsLocalByCells X cx s = (known : ℕ → Option ℤ) (readable writable : ℕ → ℤ → Bool) (agreed : ℕ → Bool)
    → IsTrue ((look known s).judge agreed).fits
    → AllByRecursion (SpotIs cx readable) (look known s).reads → AllByRecursion (SpotIs cx writable) (look known s).writes
    → (a b : State X) → SameBy X known readable agreed a b
    → StepsMeet (SameThen X known readable writable agreed a b)
    (AfterFlow (SameThen X known readable writable agreed a b)
    (SameThen X known readable writable ((look known s).judge agreed).agreed a b))
    (stmt_of erased cx s a) (stmt_of erased cx s b)
