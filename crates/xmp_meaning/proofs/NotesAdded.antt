-- A run adds its notes behind those before, and they don't depend on those.
use Rattle.std.proofs.Common.{◌≡◌, ◌+◌, ◌++◌, ◌==◌, ℕ, zero, suc, ℤ, Bool, true, false, if◌then◌else◌, List, [], ◌∷◌, map, length, replicate, refl, sym, ap, ◌∙◌, append-nil, append_assoc, arith}
use Rattle.std.specs.List.{range_with_len}
use Rattle.xmp_prog.specs.declared.parts.ProgParts.{ProgParts}
use Rattle.xmp_prog.specs.declared.statements.Name.{Name}
use Rattle.xmp_prog.specs.declared.statements.Stmt.{Stmt}
use Rattle.xmp_prog.specs.declared.statements.LoopDirective.{LoopDirective}
use Rattle.xmp_prog.specs.declared.statements.Reduction.{Reduction}
use Rattle.xmp_prog.specs.Fits.{node_count}
use Rattle.xmp_meaning.specs.declared.ends.Flow.{Flow}
use Rattle.xmp_meaning.specs.declared.ends.Flow.TheVariants.{Next}
use Rattle.xmp_meaning.specs.Runs.{State, Step, Gave, Ended, Run, and_then, ◌>>=◌, pure, set_scalar, step_of, take_step, end_of, state_of}
use Rattle.xmp_num.specs.Reduction.{unit_of}
use Rattle.xmp_meaning.specs.Declarations.{scalar_type}
use Rattle.xmp_meaning.specs.Blocks.{each, then_run, block, choose}
use Rattle.xmp_meaning.specs.Context.{Context}
use Rattle.xmp_meaning.specs.Handlers.{TaskRun, task_run}
use Rattle.xmp_meaning.specs.Statements.{stmt_of}
use Rattle.xmp_meaning.specs.Cells.{row_in}
use Rattle.xmp_map.specs.declared.grid.NodeSet.{NodeSet}
use Rattle.xmp_meaning.specs.Expressions.{after_call}
use Rattle.xmp_meaning.specs.Loops.{turn}
use Rattle.xmp_meaning.specs.Parts.{begin, only, owns_iteration, part_of}
use Rattle.xmp_meaning.specs.Exchanges.{Exchange, TaskEnd, Reflected, LoopEnd, Moved, TasksEnd, Notes, no_notes, note, note_turn, note_arrays, raised, part_end, part_ends, task_end, unprinted, traced}
use Rattle.xmp_meaning.specs.Writes.{scalars_written, arrays_written}
use Rattle.xmp_meaning.specs.TrafficLaws.{added, notes_behind, state_behind, step_behind, NotesAreAdded}
use Rattle.xmp_meaning.proofs.Keeps.{Joins, Keeps, KeepsHandlers, AllAlike, each_kept, then_kept, turns_kept, tasks_kept}
use Rattle.xmp_meaning.proofs.RelatedStatements.{keeps-stmt}
use Rattle.xmp_meaning.proofs.Stays.{Any, all_any}

-- ---- lists of turns

added_raised : (test : ℕ → Bool) (node : ℕ) (ms ns : List ℕ) → raised test node (added ms ns) ≡ added ms (raised test node ns)
added_raised test node [] ns = refl
added_raised test node (m ∷ ms) [] = refl
added_raised test node (m ∷ ms) (n ∷ ns) =
    ap (λ k. k ∷ raised test (suc node) (added ms ns)) (at_test (test node)) ∙ ap (λ ks. (m + (if test node then suc n else n)) ∷ ks) (added_raised test (suc node) ms ns)
  where
    at_test : (b : Bool) → (if b then suc (m + n) else m + n) ≡ m + (if b then suc n else n)
    at_test true = omega arith
    at_test false = refl

pub raised_length : (test : ℕ → Bool) (node : ℕ) (ns : List ℕ) → length (raised test node ns) ≡ length ns
raised_length test node [] = refl
raised_length test node (n ∷ ns) = ap suc (raised_length test (suc node) ns)

added_nothing : (ms : List ℕ) → added ms (replicate (length ms) 0) ≡ ms
added_nothing [] = refl
added_nothing (m ∷ ms) = ap (λ k. k ∷ added ms (replicate (length ms) 0)) (let e : m + 0 ≡ m = omega arith in e) ∙ ap (λ ks. m ∷ ks) (added_nothing ms)

map_same : {A B : Type 0} (f g : A → B) (xs : List A) → ((x : A) → f x ≡ g x) → map f xs ≡ map g xs
map_same f g [] h = refl
map_same f g (x ∷ xs) h = ap (λ y. y ∷ map f xs) (h x) ∙ ap (λ ys. g x ∷ ys) (map_same f g xs h)

module _ (before : Notes) where
  -- the first run has the notes before in front of what the second has, and does the same
  abbrev Behind : (A : Type 0) → Run Notes A → Run Notes A → Type 0
  Behind A f g = (s : State Notes) → f (state_behind before s) ≡ step_behind before (g s)

  behind_on : {A B : Type 0} (p q : Run Notes A) (f g : A → Run Notes B) → Behind A p q → ((a : A) → Behind B (f a) (g a)) → Behind B (p >>= f) (q >>= g)
  behind_on {A} {B} p q f g h i s = ap (λ r. and_then r f) (h s) ∙ at_step (q s)
    where
      at_step : (r : Step Notes A) → and_then (step_behind before r) f ≡ step_behind before (and_then r g)
      at_step (Gave a t) = i a t
      at_step (Ended e t) = refl

  behind_joins : Joins (State Notes) (State Notes) Behind
  behind_joins = record { gives = λ a s. refl; goes_on = λ {A} {B} {p} {q} {f} {g} h i. behind_on p q f g h i }

  behind_then : (p p' q q' : Run Notes Flow) → Behind Flow p p' → Behind Flow q q' → Behind Flow (then_run p q) (then_run p' q')
  behind_then p p' q q' h i = then_kept behind_joins {p = p} {q = q} {p' = p'} {q' = q'} h i

  behind_call : (s : State Notes) (r : Step (Unit {0}) ℤ) → after_call (state_behind before s) r ≡ step_behind before (after_call s r)
  behind_call s (Gave v t) = refl
  behind_call s (Ended e t) = refl

  behind_step : (n : ℕ) → Behind (Unit {0}) (step_of n) (step_of n)
  behind_step zero s = refl
  behind_step (suc n) s = refl

  behind : (cx : Context) → Keeps Notes Notes cx Any Any Behind
  behind cx = record {
    gives = λ a s. refl;
    traps = λ kind at s. refl;
    goes_on = λ {A} {B} {p} {q} {f} {g} h i. behind_on p q f g h i;
    scalars = λ slot s. refl;
    sets_scalar = λ slot may v s. refl;
    cells = λ row at s. refl;
    sets_cell = λ row may at v s. refl;
    writes = λ text s. refl;
    inputs = λ s. refl;
    sets_taken = λ n s. refl;
    calls = λ k vs s. behind_call s (cx.call k vs s.steps);
    loops = λ {test} {test'} {body} {body'} h i s.
        turns_kept behind_joins {test = test} {test' = test'} {body = turn body} {body' = turn body'} (suc s.steps) h
        (behind_on take_step take_step (λ u. body) (λ u. body') (λ t. behind_step t.steps t) (λ u. i)) s;
  }

  -- ---- what is noted
  behind_note : (x : Exchange) → Behind Flow (note x) (note x)
  behind_note x s = ap (λ xs. Gave Next (record s { extra = record { exchanges = xs; turns = added before.turns s.extra.turns } }))
      (append_assoc before.exchanges s.extra.exchanges (x ∷ []))

  behind_turn : (p : ProgParts) (directive : LoopDirective) → Behind Flow (note_turn p directive) (note_turn p directive)
  behind_turn p directive s = ap (λ ns. Gave Next (record s { extra = record { exchanges = before.exchanges ++ s.extra.exchanges; turns = ns } }))
      (added_raised (λ node. owns_iteration p directive node s) 0 before.turns s.extra.turns)

  behind_arrays : (arrays : List Name) → Behind Flow (note_arrays arrays) (note_arrays arrays)
  behind_arrays [] = λ s. refl
  behind_arrays (a ∷ all) = behind_then (note_array a) (note_array a) (note_arrays all) (note_arrays all)
      (λ s. behind_note (Reflected a.number (row_in s.arrays a.number)) s) (behind_arrays all)
    where
      note_array : Name → Run Notes Flow
      note_array a s = note (Reflected a.number (row_in s.arrays a.number)) s

  behind_begin : (p : ProgParts) (node : ℕ) (rs : List Reduction) → Behind (Unit {0}) (begin p node rs) (begin p node rs)
  behind_begin p node [] = λ s. refl
  behind_begin p node (r ∷ rs) = behind_on (first (node == 0)) (first (node == 0)) (λ u. begin p node rs) (λ u. begin p node rs)
      (at_test (node == 0)) (λ u. behind_begin p node rs)
    where
      first : Bool → Run Notes (Unit {0})
      first b = if b then pure tt else set_scalar r.variable.number (unit_of r.op (scalar_type p r.variable.number))

      at_test : (b : Bool) → Behind (Unit {0}) (first b) (first b)
      at_test true = λ s. refl
      at_test false = λ s. refl

  behind_part : (p : ProgParts) (directive : LoopDirective) (node : ℕ) (around around' : Run Notes Flow → Run Notes Flow) (body body' : Run Notes Flow)
      → ((b b' : Run Notes Flow) → Behind Flow b b' → Behind Flow (around b) (around' b')) → Behind Flow body body'
      → Behind Flow (part_of p directive node around body) (part_of p directive node around' body')
  behind_part p directive node around around' body body' h i = behind_on (begin p node directive.reductions) (begin p node directive.reductions)
      (λ u. around (only (owns_iteration p directive node) body)) (λ u. around' (only (owns_iteration p directive node) body'))
      (behind_begin p node directive.reductions)
      (λ u. h (only (owns_iteration p directive node) body) (only (owns_iteration p directive node) body') (λ s. at_test (owns_iteration p directive node s) s))
    where
      at_test : (b : Bool) → Behind Flow (choose b body (pure Next)) (choose b body' (pure Next))
      at_test true = i
      at_test false = λ s. refl

  end_behind : (directive : LoopDirective) (r : Step Notes Flow) → part_end directive (step_behind before r) ≡ part_end directive r
  end_behind directive (Gave flow s) = refl
  end_behind directive (Ended e s) = refl

  ends_behind : (p : ProgParts) (directive : LoopDirective) (around around' : Run Notes Flow → Run Notes Flow) (body body' : Run Notes Flow)
      → ((b b' : Run Notes Flow) → Behind Flow b b' → Behind Flow (around b) (around' b')) → Behind Flow body body'
      → (s : State Notes) → part_ends p directive around body (state_behind before s) ≡ part_ends p directive around' body' s
  ends_behind p directive around around' body body' h i s = map_same
      (λ node. part_end directive (part_of p directive node around body (state_behind before s))) (λ node. part_end directive (part_of p directive node around' body' s))
      (range_with_len 0 (node_count p))
      (λ node. ap (part_end directive) (behind_part p directive node around around' body body' h i s) ∙ end_behind directive (part_of p directive node around' body' s))

  tasks_behind : (s : State Notes) (ts us : List (TaskRun Notes)) → AllAlike (State Notes) (State Notes) Behind ts us
      → map (task_end (state_behind before s)) ts ≡ map (task_end s) us
  tasks_behind s [] [] alike = refl
  tasks_behind s [] (u ∷ us) alike = absurd alike
  tasks_behind s (t ∷ ts) [] alike = absurd alike
  tasks_behind s (t ∷ ts) (u ∷ us) alike =
      ap (λ e. e ∷ map (task_end (state_behind before s)) ts)
      (ap (λ nodes. task_of nodes (t.run (state_behind before (unprinted s)))) alike.0.nodes ∙ ap (task_of u.nodes) (alike.0.runs (unprinted s)) ∙ at_step (u.run (unprinted s)))
      ∙ ap (λ es. task_end s u ∷ es) (tasks_behind s ts us alike.1)
    where
      task_of : NodeSet → Step Notes Flow → TaskEnd
      task_of nodes r = record { nodes = nodes; ended = end_of r; text = (state_of r).out }

      at_step : (r : Step Notes Flow) → task_of u.nodes (step_behind before r) ≡ task_of u.nodes r
      at_step (Gave flow t) = refl
      at_step (Ended e t) = refl

  behind_traced : (p : ProgParts) → KeepsHandlers Notes Notes Any Behind (traced p) (traced p)
  behind_traced p = record {
    get = λ row at s. refl;
    put = λ row may at v s. refl;
    loop = λ directive around around' body body' h i.
        behind_then (λ s. note (LoopEnd directive (part_ends p directive around body s)) s) (λ s. note (LoopEnd directive (part_ends p directive around' body' s)) s)
        (around (then_run (note_turn p directive) body)) (around' (then_run (note_turn p directive) body'))
        (λ s. ap (λ ends. note (LoopEnd directive ends) (state_behind before s)) (ends_behind p directive around around' body body' h i s)
        ∙ behind_note (LoopEnd directive (part_ends p directive around' body' s)) s)
        (h (then_run (note_turn p directive) body) (then_run (note_turn p directive) body')
        (behind_then (note_turn p directive) (note_turn p directive) body body' (behind_turn p directive) i));
    reflect = behind_arrays;
    barrier = behind_note _;
    bcast = λ variables nodes s. behind_note _ s;
    gmove = λ target source aim aim' read read' write write' h i j.
        behind_on aim aim' (λ a. each (map read a.sources) [] >>= (λ vs. then_run (note (Moved target source a vs)) (write a.targets vs)))
        (λ a. each (map read' a.sources) [] >>= (λ vs. then_run (note (Moved target source a vs)) (write' a.targets vs))) h
        (λ a. behind_on (each (map read a.sources) []) (each (map read' a.sources) [])
        (λ vs. then_run (note (Moved target source a vs)) (write a.targets vs)) (λ vs. then_run (note (Moved target source a vs)) (write' a.targets vs))
        (each_kept behind_joins read read' i a.sources []) (λ vs. behind_then (note (Moved target source a vs)) (note (Moved target source a vs)) (write a.targets vs) (write' a.targets vs)
        (behind_note (Moved target source a vs)) (j a.targets vs)));
    tasks = λ ts us alike. behind_then (λ s. note (TasksEnd (map (task_end s) ts)) s) (λ s. note (TasksEnd (map (task_end s) us)) s)
        (block (map task_run ts)) (block (map task_run us)) (λ s. ap (λ ends. note (TasksEnd ends) (state_behind before s)) (tasks_behind s ts us alike)
        ∙ behind_note (TasksEnd (map (task_end s) us)) s) (tasks_kept behind_joins ts us alike);
    sync = λ s. refl;
  }

pub notes_added : (p : ProgParts) (cx : Context) (s : Stmt) → NotesAreAdded p cx s
notes_added p cx s before t l =
    ap (λ n. stmt_of (traced p) cx s (record t { extra = n })) (sym nothing)
    ∙ keeps-stmt cx (behind before cx) (behind_traced before p) s (all_any (scalars_written s)) (all_any (arrays_written s)) (record t { extra = no_notes p })
  where
    nothing : notes_behind before (no_notes p) ≡ before
    nothing = ap (λ xs. record { exchanges = xs; turns = added before.turns (replicate (node_count p) 0) }) (append-nil before.exchanges)
        ∙ ap (λ n. record { exchanges = before.exchanges; turns = added before.turns (replicate n 0) }) (sym l)
        ∙ ap (λ ns. record { exchanges = before.exchanges; turns = ns }) (added_nothing before.turns)
