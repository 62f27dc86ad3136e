-- The index tuples of a nest of counted loops, and a nest as a fold over them (this project).
use Rattle.std.specs.Prelude.{◌≡◌, not, ◌*◌, ◌++◌, ◌&&◌, ◌==◌, if◌then◌else◌, ℕ, ℤ, pos, ◌+ℤ◌, Bool, true, List, [], ◌∷◌, length, map, IsTrue, is_some, slice_get, slice_set, Option, Some, None}
use Rattle.std.specs.List.{AllByRecursion, list_all, flat_map, filter, range_with_len}
use Rattle.xmp_num.specs.declared.types.Ty.TheVariants.{Int}
use Rattle.xmp_num.specs.Arithmetic.{FitsType, wrap}
use Rattle.xmp_prog.specs.declared.parts.ProgParts.{ProgParts}
use Rattle.xmp_prog.specs.declared.expressions.Expr.{Expr}
use Rattle.xmp_prog.specs.declared.expressions.Expr.TheOpen.{Expr-F}
use Rattle.xmp_prog.specs.declared.statements.LoopHead.{LoopHead}
use Rattle.xmp_prog.specs.declared.statements.LoopDirective.{LoopDirective}
use Rattle.xmp_prog.specs.declared.statements.Point.{Point}
use Rattle.xmp_prog.specs.declared.statements.Point.TheVariants as point
use Rattle.xmp_prog.specs.Numbers.{is_in, apart, pairwise}
use Rattle.xmp_prog.specs.Terms.{Term, Of, terms_of, slots_of_terms}
use Rattle.xmp_prog.specs.Tests.{constant_fits}
use Rattle.xmp_prog.specs.Counted.{is_bound_term, is_nest}
use Rattle.xmp_prog.specs.Directives.{indices_of_nest}
use Rattle.xmp_prog.specs.Statements.{indices_of, terms_of_head, writes_of}
use Rattle.xmp_prog.specs.declared.statements.Stmt.{Stmt}
use Rattle.xmp_meaning.specs.declared.ends.Flow.{Flow}
use Rattle.xmp_meaning.specs.declared.ends.Flow.TheVariants.{Next}
use Rattle.xmp_meaning.specs.Runs.{State, Gave, Run, pure, state_of}
use Rattle.xmp_meaning.specs.Blocks.{then_run}
use Rattle.xmp_meaning.specs.Context.{Context}
use Rattle.xmp_meaning.specs.Handlers.{Handlers, erased}
use Rattle.xmp_meaning.specs.Statements.{stmt_of}
use Rattle.xmp_meaning.specs.Exchanges.{Notes, note_turn, traced}
use Rattle.xmp_meaning.specs.Loops.{turn_count, nest}
use Rattle.xmp_meaning.specs.Parts.{owns_positions, owns_iteration, only}
use Rattle.xmp_meaning.specs.LoopEnds.{comes_before}
use Rattle.xmp_meaning.specs.Laws.{KeepsScalar}
use Rattle.xmp_meaning_laws.specs.Laws.{bound_value, scalar_in}

-- ---- what is asked of the bounds

-- whether a term is a constant, a scalar, `+`, `-`, `*`, or a conversion
abbrev pub is_fixed_term : Term → Bool
is_fixed_term (Of (Expr-F.Convert ty a)) = true
is_fixed_term t = is_bound_term t

-- whether an expression is built of these alone, and names none of the scalars that are written
abbrev pub is_fixed : ProgParts → (written : List ℕ) → Expr → Bool
is_fixed p written e = list_all is_fixed_term (terms_of p e) && apart (slots_of_terms (terms_of p e)) written

-- whether each loop of a nest begins at a value that neither the loop, nor those in it, nor the body changes
abbrev pub begins_fixed : ProgParts → List LoopHead → (writes : List ℕ) → Bool
begins_fixed p [] writes = true
begins_fixed p (head ∷ heads) writes =
    is_fixed p (head.index.number ∷ (indices_of heads ++ writes)) head.from && begins_fixed p heads writes

-- What a loop directive asks of its nest: each loop is counted and begins at a fixed value; the constants in its
-- bounds lie in their types.
pub record NestFits (p : ProgParts) (heads : List LoopHead) (writes : List ℕ) : Type 0 where
  pub counted : IsTrue (is_nest p heads writes)
  pub begins : IsTrue (begins_fixed p heads writes)
  pub constants : IsTrue (list_all constant_fits (flat_map (λ head. terms_of p head.to) heads))

-- the indices of a nest, and the scalars of its bounds
abbrev pub slots_of_nest : ProgParts → List LoopHead → List ℕ
slots_of_nest p heads = indices_of heads ++ slots_of_terms (flat_map (terms_of_head p) heads)

-- A body that leaves these scalars, and has as many scalars then as before.
pub record LeavesScalars (X : Type 0) (slots : List ℕ) (body : Run X Flow) : Type 0 where
  pub kept : AllByRecursion (λ slot. KeepsScalar {X = X} slot body) slots
  pub length : (s : State X) → length (state_of (body s)).scalars ≡ length s.scalars

-- ---- tuples

-- the value of a loop's index in its turn `k`, by the values of the scalars
abbrev pub index_in_turn : (ℕ → ℤ) → LoopHead → (k : ℕ) → ℤ
index_in_turn read head k = wrap Int (bound_value read head.from) +ℤ pos (k * head.step)

-- how many turns it makes
abbrev pub turns_by : (ℕ → ℤ) → LoopHead → ℕ
turns_by read head =
    turn_count (wrap Int (bound_value read head.from)) (wrap Int (bound_value read head.to)) head.inclusive head.step

-- the values of its index, turn by turn
abbrev pub index_values : (ℕ → ℤ) → LoopHead → List ℤ
index_values read head = map (index_in_turn read head) (range_with_len 0 (turns_by read head))

-- another value of one scalar
abbrev pub with_value : (slot : ℕ) → ℤ → (ℕ → ℤ) → ℕ → ℤ
with_value slot v read n = if n == slot then v else read n

-- The index tuples of a nest: each value of the outermost index, with each tuple of the loops in it.
abbrev pub tuples : (ℕ → ℤ) → List LoopHead → List (List ℤ)
tuples read [] = [] ∷ []
tuples read (head ∷ heads) =
    flat_map (λ v. map (λ vs. v ∷ vs) (tuples (with_value head.index.number v read) heads)) (index_values read head)

-- ---- where the indices end

abbrev pub or_earlier : Option ℤ → Option ℤ → Option ℤ
or_earlier None earlier = earlier
or_earlier (Some v) earlier = Some v

-- place by place the later value, where there is one
abbrev pub later : List (Option ℤ) → List (Option ℤ) → List (Option ℤ)
later [] bs = bs
later (a ∷ rest) [] = a ∷ rest
later (a ∷ rest) (b ∷ bs) = or_earlier b a ∷ later rest bs

abbrev pub latest : List (List (Option ℤ)) → List (Option ℤ)
latest [] = []
latest (a ∷ rest) = later a (latest rest)

-- Where each index of a nest is left: at the first value outside its bound, as in the last turn of the loops round it
-- in which its own loop was come to. An index without a value is left as it was.
abbrev pub ends : (ℕ → ℤ) → List LoopHead → List (Option ℤ)
ends read [] = []
ends read (head ∷ heads) =
    Some (index_in_turn read head (turns_by read head))
    ∷ latest (map (λ v. ends (with_value head.index.number v read) heads) (index_values read head))

-- ---- the fold

-- another value of a scalar, where one is given
abbrev pub set_some : List ℤ → ℕ → Option ℤ → List ℤ
set_some xs slot None = xs
set_some xs slot (Some v) = slice_set xs slot v

-- the same of several, in order
abbrev pub set_where : List ℕ → List (Option ℤ) → List ℤ → List ℤ
set_where [] values xs = xs
set_where (slot ∷ slots) [] xs = xs
set_where (slot ∷ slots) (v ∷ values) xs = set_where slots values (set_some xs slot v)

-- the indices as they are left
abbrev pub leaving : {X : Type 0} → List ℕ → List (Option ℤ) → Run X Flow
leaving slots values = λ s. Gave Next (record s { scalars = set_where slots values s.scalars })

-- the state with the indices at a tuple
abbrev pub at_tuple : {X : Type 0} → List ℕ → List ℤ → State X → State X
at_tuple slots vs s = record s { scalars = set_where slots (map Some vs) s.scalars }

-- A body for each tuple in turn, from the state with the indices at it; no more follow where it doesn't go on.
abbrev pub for_each : {X : Type 0} → List ℕ → List (List ℤ) → Run X Flow → Run X Flow
for_each slots [] body = pure Next
for_each slots (vs ∷ rest) body = λ s. then_run body (for_each slots rest body) (at_tuple slots vs s)

-- the body for each tuple, and the indices where the nest leaves them
abbrev pub folded : {X : Type 0} → List LoopHead → List (List ℤ) → List (Option ℤ) → Run X Flow → Run X Flow
folded heads all left body = then_run (for_each (indices_of heads) all body) (leaving (indices_of heads) left)

-- the indices of a nest are scalars of the state
abbrev pub IndicesThere : {X : Type 0} → List LoopHead → State X → Type 0
IndicesThere heads s = AllByRecursion (λ i. IsTrue (is_some (slice_get s.scalars i))) (indices_of heads)

-- A nest is a fold over its index tuples, which are known when it begins; its body is any that leaves the indices and
-- the scalars of the bounds.
abbrev pub NestIsFold : (X : Type 0) → Handlers X → Context → List LoopHead → (writes : List ℕ) → Run X Flow → Type 0
NestIsFold X h cx heads writes body = NestFits cx.program heads writes → LeavesScalars X (slots_of_nest cx.program heads) body
    → (s : State X) → IndicesThere heads s
    → nest h cx heads body s ≡ folded heads (tuples (scalar_in s) heads) (ends (scalar_in s) heads) body s

-- ---- order

-- The tuples rise in the order of the loops, so each is there once; a tuple has a value of int for each loop.
pub record TuplesRise (read : ℕ → ℤ) (heads : List LoopHead) : Type 0 where
  pub rise : IsTrue (pairwise comes_before (tuples read heads))
  pub lengths : AllByRecursion (λ vs. length vs ≡ length heads) (tuples read heads)
  pub int : AllByRecursion (AllByRecursion (FitsType Int)) (tuples read heads)

abbrev pub AllTuplesRise : ProgParts → List LoopHead → (writes : List ℕ) → Type 0
AllTuplesRise p heads writes = NestFits p heads writes → (read : ℕ → ℤ) → TuplesRise read heads

-- ---- the part of a node

-- the value of an index in a tuple
abbrev pub value_in : List ℕ → List ℤ → ℕ → ℤ
value_in (i ∷ is) (v ∷ vs) slot = if i == slot then v else value_in is vs slot
value_in [] vs slot = pos 0
value_in (i ∷ is) [] slot = pos 0

-- a position of a tuple's point
abbrev pub position_in : List ℕ → List ℤ → Point → ℤ
position_in slots vs point.Any = pos 0
position_in slots vs (point.Index slot offset) = value_in slots vs slot +ℤ offset

-- whether a node owns the point of a tuple
abbrev pub owns_tuple : ProgParts → LoopDirective → (node : ℕ) → List ℤ → Bool
owns_tuple p directive node vs =
    owns_positions p node (slice_get p.templates directive.template) (map (position_in (indices_of directive.nest) vs) directive.points)

-- The part of a node is the fold over those tuples whose point it owns, in the same order, and leaves the indices where
-- the nest leaves them.
abbrev pub PartIsFold : (X : Type 0) → Handlers X → Context → LoopDirective → (writes : List ℕ) → (node : ℕ) → Run X Flow → Type 0
PartIsFold X h cx directive writes node body =
    NestFits cx.program directive.nest writes → LeavesScalars X (slots_of_nest cx.program directive.nest) body
    → IsTrue (indices_of_nest directive) → (s : State X) → IndicesThere directive.nest s
    → nest h cx directive.nest (only (owns_iteration cx.program directive node) body) s
    ≡ folded directive.nest (filter (owns_tuple cx.program directive node) (tuples (scalar_in s) directive.nest)) (ends (scalar_in s) directive.nest) body s

-- ---- bodies

-- a statement leaves the indices and the scalars of the bounds of a nest round it
abbrev pub StatementLeaves : (X : Type 0) → Context → List LoopHead → Stmt → Type 0
StatementLeaves X cx heads body =
    NestFits cx.program heads (writes_of body) → LeavesScalars X (slots_of_nest cx.program heads) (stmt_of erased cx body)

-- and so does a turn of a loop directive in the run that notes each exchange
abbrev pub NotedTurnLeaves : ProgParts → Context → LoopDirective → Stmt → Type 0
NotedTurnLeaves p cx directive body = NestFits cx.program directive.nest (writes_of body)
    → LeavesScalars Notes (slots_of_nest cx.program directive.nest) (then_run (note_turn p directive) (stmt_of (traced p) cx body))

-- ---- what the tuples depend on

-- Two readings that have the same values in the scalars of the bounds, the indices apart, have the same tuples, and
-- leave the indices at the same values.
abbrev pub TuplesAreKnown : ProgParts → List LoopHead → (writes : List ℕ) → Type 0
TuplesAreKnown p heads writes = NestFits p heads writes → (read other : ℕ → ℤ)
    → AllByRecursion (λ j. IsTrue (not (is_in (indices_of heads) j)) → read j ≡ other j) (slots_of_terms (flat_map (terms_of_head p) heads))
    → (tuples read heads ≡ tuples other heads) × (ends read heads ≡ ends other heads)
