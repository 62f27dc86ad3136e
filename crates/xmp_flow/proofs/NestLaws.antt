-- The heads of a nest and the reductions of a directive: one more, and sets of numbers that hold the same.
use Rattle.std.proofs.Common.{◌≡◌, ◌∙◌, ◌<◌, ◌+◌, length, get_or, drop, eqb, sym, ap, refl, ℕ, Bool, true, false, not, ◌++◌, ◌∷◌, [], List}
use Rattle.std.specs.Prelude.{◌||◌}
use Rattle.std.proofs.Math.Path.{fun_ext}
use Rattle.std.proofs.lemmas.List.{append_assoc, at_drop_more}
use Rattle.xmp_paths.specs.Plans.{Plan, emit, in_order}
use Rattle.xmp_paths.specs.declared.event.Event.{Event}
use Rattle.xmp_paths.specs.declared.event.Event.TheVariants.{Read}
use Rattle.xmp_prog.specs.Numbers.{is_in}
use Rattle.xmp_prog.specs.declared.expressions.Expr.{Expr}
use Rattle.xmp_prog.specs.declared.statements.LoopHead.{LoopHead}
use Rattle.xmp_prog.specs.declared.statements.Reduction.{Reduction}
use Rattle.xmp_loops.specs.Objects.{all_nodes, scalar_object}
use Rattle.xmp_loops.specs.Bounds.{is_bound, is_built}
use Rattle.xmp_flow.specs.Setting.{Setting, is_reduced, wrong_where}
use Rattle.xmp_flow.specs.Reads.{reads_of}
use Rattle.xmp_flow.specs.LoopEvents.{head_events, nest_events, reduction_events}

-- ---- sets

or_swap : (a b c : Bool) → (a || (b || c)) ≡ (b || (a || c))
or_swap true true c = refl
or_swap true false c = refl
or_swap false true c = refl
or_swap false false c = refl

or_nothing : (a : Bool) → (a || false) ≡ a
or_nothing true = refl
or_nothing false = refl

set_by : (a c : List ℕ) (m : ℕ) → (is_in c m || is_in a m) ≡ is_in (a ++ c) m
set_by [] c m = or_nothing (is_in c m)
set_by (k ∷ ks) c m = or_swap (is_in c m) (eqb k m) (is_in ks m) ∙ ap (λ b. eqb k m || b) (set_by ks c m)

-- two lists that are put into an empty set, one and then the other
pub set_of : (a c : List ℕ) (m : ℕ) → (is_in c m || (is_in a m || is_in [] m)) ≡ is_in (a ++ c) m
set_of a c m = ap (λ b. is_in c m || b) (or_nothing (is_in a m)) ∙ set_by a c m

-- ---- nests

bound_same : (outer v w : List ℕ) → ((m : ℕ) → is_in v m ≡ is_in w m) → (e : Expr) → is_bound outer v e ≡ is_bound outer w e
bound_same outer v w h e = ap (λ (t : ℕ → Bool). is_built t e) (fun_ext (λ m. ap (λ b. is_in outer m || not b) (h m)))

head_same : (s : Setting) (outer v w : List ℕ) → ((m : ℕ) → is_in v m ≡ is_in w m) → (x : LoopHead) → head_events s outer v x ≡ head_events s outer w x
head_same s outer v w h x =
    ap (λ b. in_order (
    reads_of x.from s ∷ wrong_where (not b) 12 x.from_at ∷ reads_of x.to s ∷ wrong_where (not (is_bound outer v x.to)) 12 x.to_at
    ∷ wrong_where (is_reduced (s.roles x.index.number)) 5 x.index.at ∷ [])) (bound_same outer v w h x.from)
    ∙ ap (λ b. in_order (
    reads_of x.from s ∷ wrong_where (not (is_bound outer w x.from)) 12 x.from_at ∷ reads_of x.to s ∷ wrong_where (not b) 12 x.to_at
    ∷ wrong_where (is_reduced (s.roles x.index.number)) 5 x.index.at ∷ [])) (bound_same outer v w h x.to)

-- what the directive writes counts as a set
pub nest_same : (s : Setting) (v w : List ℕ) → ((m : ℕ) → is_in v m ≡ is_in w m) → (outer : List ℕ) (heads : List LoopHead) →
    nest_events s outer v heads ≡ nest_events s outer w heads
nest_same s v w h outer [] = refl
nest_same s v w h outer (x ∷ xs) =
    ap (λ e. e ∷ nest_events s (outer ++ x.index.number ∷ []) v xs) (head_same s outer v w h x)
    ∙ ap (λ l. head_events s outer w x ∷ l) (nest_same s v w h (outer ++ x.index.number ∷ []) xs)

pub nest_step : (s : Setting) (written outer more : List ℕ) (parts longer : List (Plan Event)) (h : LoopHead) (heads : List LoopHead) →
    more ≡ outer ++ h.index.number ∷ [] → longer ≡ parts ++ head_events s outer written h ∷ [] →
    longer ++ nest_events s more written heads ≡ parts ++ nest_events s outer written (h ∷ heads)
nest_step s written outer more parts longer h heads e p =
    ap (λ l. l ++ nest_events s more written heads) p
    ∙ (append_assoc parts (head_events s outer written h ∷ []) (nest_events s more written heads)
    ∙ ap (λ o. parts ++ head_events s outer written h ∷ nest_events s o written heads) e)

pub nest_more : (s : Setting) (written outer more : List ℕ) (parts longer : List (Plan Event)) (nest : List LoopHead) (i : ℕ) (h : LoopHead) (whole : List (Plan Event)) →
    i < length nest → h ≡ get_or nest i h → more ≡ outer ++ h.index.number ∷ [] → longer ≡ parts ++ head_events s outer written h ∷ [] →
    parts ++ nest_events s outer written (drop i nest) ≡ whole → longer ++ nest_events s more written (drop (i + 1) nest) ≡ whole
nest_more s written outer more parts longer nest i h whole w g e p q =
    nest_step s written outer more parts longer h (drop (i + 1) nest) e p
    ∙ (ap (λ x. parts ++ nest_events s outer written (x ∷ drop (i + 1) nest)) g
    ∙ (sym (at_drop_more (λ l. parts ++ nest_events s outer written l) nest i h w) ∙ q))

-- ---- reductions

behind : (ns : List ℕ) (n m : ℕ) → is_in (ns ++ n ∷ []) m ≡ (eqb n m || is_in ns m)
behind [] n m = refl
behind (k ∷ ks) n m = ap (λ b. eqb k m || b) (behind ks n m) ∙ or_swap (eqb k m) (eqb n m) (is_in ks m)

-- the variables before count as a set
reductions_same : (s : Setting) (a b : List ℕ) → ((m : ℕ) → is_in a m ≡ is_in b m) → (rs : List Reduction) → reduction_events s a rs ≡ reduction_events s b rs
reductions_same s a b h [] = refl
reductions_same s a b h (r ∷ rs) =
    ap (λ x. emit (Read (scalar_object r.variable.number) (all_nodes s.program) 1 r.variable.at) ∷ wrong_where x 5 r.variable.at
    ∷ reduction_events s (a ++ r.variable.number ∷ []) rs) (h r.variable.number)
    ∙ ap (λ l. emit (Read (scalar_object r.variable.number) (all_nodes s.program) 1 r.variable.at) ∷ wrong_where (is_in b r.variable.number) 5 r.variable.at ∷ l)
    (reductions_same s (a ++ r.variable.number ∷ []) (b ++ r.variable.number ∷ [])
    (λ m. behind a r.variable.number m ∙ (ap (λ x. eqb r.variable.number m || x) (h m) ∙ sym (behind b r.variable.number m))) rs)

pub reduction_step : (s : Setting) (before more : List ℕ) (parts longer : List (Plan Event)) (r : Reduction) (rs : List Reduction) →
    ((m : ℕ) → is_in more m ≡ (eqb r.variable.number m || is_in before m)) →
    longer ≡ parts ++ emit (Read (scalar_object r.variable.number) (all_nodes s.program) 1 r.variable.at) ∷ wrong_where (is_in before r.variable.number) 5 r.variable.at ∷ [] →
    longer ++ reduction_events s more rs ≡ parts ++ reduction_events s before (r ∷ rs)
reduction_step s before more parts longer r rs e p =
    ap (λ l. l ++ reduction_events s more rs) p
    ∙ (append_assoc parts
    (emit (Read (scalar_object r.variable.number) (all_nodes s.program) 1 r.variable.at) ∷ wrong_where (is_in before r.variable.number) 5 r.variable.at ∷ [])
    (reduction_events s more rs)
    ∙ ap (λ l. parts ++ emit (Read (scalar_object r.variable.number) (all_nodes s.program) 1 r.variable.at) ∷ wrong_where (is_in before r.variable.number) 5 r.variable.at ∷ l)
    (reductions_same s more (before ++ r.variable.number ∷ []) (λ m. e m ∙ sym (behind before r.variable.number m)) rs))

pub reduction_more : (s : Setting) (before more : List ℕ) (parts longer : List (Plan Event)) (rs : List Reduction) (i : ℕ) (r : Reduction) (whole : List (Plan Event)) →
    i < length rs → ((m : ℕ) → is_in more m ≡ (eqb (get_or rs i r).variable.number m || is_in before m)) →
    longer ≡ parts ++ emit (Read (scalar_object (get_or rs i r).variable.number) (all_nodes s.program) 1 (get_or rs i r).variable.at)
    ∷ wrong_where (is_in before (get_or rs i r).variable.number) 5 (get_or rs i r).variable.at ∷ [] →
    parts ++ reduction_events s before (drop i rs) ≡ whole → longer ++ reduction_events s more (drop (i + 1) rs) ≡ whole
reduction_more s before more parts longer rs i r whole w e p q =
    reduction_step s before more parts longer (get_or rs i r) (drop (i + 1) rs) e p
    ∙ (sym (at_drop_more (λ l. parts ++ reduction_events s before l) rs i r w) ∙ q)
