-- The part of a node is the fold over the tuples whose point it owns.
use Rattle.std.proofs.Common.{◌≡◌, inl, inr, ◌==◌, ◌||◌, if◌then◌else◌, ℕ, zero, suc, ℤ, pos, ◌+ℤ◌, Bool, true, false, true≢false, List, [], ◌∷◌, length, map, Option, Some, refl, sym, subst, ap, ◌∙◌, arith, eqb-true}
use Rattle.std.specs.Prelude.{slice_get, slice_set, unwrap_or, is_some, cond}
use Rattle.std.specs.List.{AllByRecursion, list_all, flat_map, filter}
use Rattle.xmp_map.proofs.Counted.{and_left, and_right}
use Rattle.xmp_prog.specs.declared.statements.LoopDirective.{LoopDirective}
use Rattle.xmp_prog.specs.declared.statements.Point.{Point}
use Rattle.xmp_prog.specs.declared.statements.Point.TheVariants as point
use Rattle.xmp_prog.specs.Numbers.{is_in}
use Rattle.xmp_prog.specs.Statements.{indices_of, slots_of_point}
use Rattle.xmp_meaning.specs.declared.ends.Flow.{Flow}
use Rattle.xmp_meaning.specs.declared.ends.Flow.TheVariants.{Next}
use Rattle.xmp_meaning.specs.Runs.{State, Step, Gave, Run, and_then, pure, state_of}
use Rattle.xmp_meaning.specs.Blocks.{after, then_run, choose}
use Rattle.xmp_meaning.specs.Context.{Context}
use Rattle.xmp_meaning.specs.Handlers.{Handlers}
use Rattle.xmp_meaning.specs.Parts.{position_at, owns_positions, owns_iteration, only}
use Rattle.xmp_meaning.specs.Laws.{KeepsScalar}
use Rattle.xmp_meaning.proofs.Sequences.{flows_associate, same_after}
use Rattle.xmp_meaning_laws.specs.Laws.{scalar_in}
use Rattle.xmp_meaning_laws.specs.Tuples.{slots_of_nest, tuples, later, ends, set_where, leaving, at_tuple, for_each, value_in, position_in, owns_tuple, PartIsFold}
use Rattle.xmp_meaning_laws.proofs.Named.{all_mapped}
use Rattle.xmp_meaning_laws.proofs.CountedLoops.{set_there}
use Rattle.xmp_meaning_laws.proofs.Nests.{Exists, exist_by_length}
use Rattle.xmp_meaning_laws.proofs.Settings.{Apart, Overrides, set_later, where_other, where_length, fresh_flipped}
use Rattle.xmp_meaning_laws.proofs.Folds.{all_fit, all_apart_of, Full, Settled, nest_settled, tuples_full, after_next, fold_over, fold_from, nest_is_fold}

-- ---- the value of an index at a tuple

value_at_tuple : (slots : List ℕ) (vs xs : List ℤ) (slot : ℕ) → Apart slots → length vs ≡ length slots
    → AllByRecursion (λ i. is_some (slice_get xs i) ≡ true) slots → is_in slots slot ≡ true
    → unwrap_or (slice_get (set_where slots (map Some vs) xs) slot) (pos 0) ≡ value_in slots vs slot
value_at_tuple [] vs xs slot f l there e = absurd (true≢false (sym e))
value_at_tuple (i ∷ slots) [] xs slot f l there e = absurd (omega (arith, l))
value_at_tuple (i ∷ slots) (v ∷ vs) xs slot f l there e =
    at_test (value_at_tuple slots vs (slice_set xs i v) slot f.1 (let m : length vs ≡ length slots = omega (arith, l) in m) (still_there slots there.1)) (i == slot) refl
  where
    still_there : (ns : List ℕ) → AllByRecursion (λ i. is_some (slice_get xs i) ≡ true) ns → AllByRecursion (λ n. is_some (slice_get (slice_set xs i v) n) ≡ true) ns
    still_there ns = exist_in ns
      where
        of_list : (ys : List ℤ) (j n : ℕ) → is_some (slice_get ys n) ≡ true → is_some (slice_get (slice_set ys j v) n) ≡ true
        of_list [] j n h = h
        of_list (y ∷ ys) zero zero h = refl
        of_list (y ∷ ys) zero (suc n) h = h
        of_list (y ∷ ys) (suc j) zero h = h
        of_list (y ∷ ys) (suc j) (suc n) h = of_list ys j n h

        exist_in : (ns : List ℕ) → AllByRecursion (λ i. is_some (slice_get xs i) ≡ true) ns → AllByRecursion (λ n. is_some (slice_get (slice_set xs i v) n) ≡ true) ns
        exist_in [] h = tt
        exist_in (n ∷ ns) h = (of_list xs i n h.0, exist_in ns h.1)

    at_test : (is_in slots slot ≡ true → unwrap_or (slice_get (set_where slots (map Some vs) (slice_set xs i v)) slot) (pos 0) ≡ value_in slots vs slot)
        → (b : Bool) → (i == slot) ≡ b → unwrap_or (slice_get (set_where slots (map Some vs) (slice_set xs i v)) slot) (pos 0) ≡ (if b then v else value_in slots vs slot)
    at_test rest true g =
        let same : i ≡ slot = eqb-true i slot g in
        ap (λ n. unwrap_or (slice_get (set_where slots (map Some vs) (slice_set xs i v)) n) (pos 0)) (sym same)
        ∙ ap (λ o. unwrap_or o (pos 0)) (where_other slots (map Some vs) (slice_set xs i v) i (fresh_flipped i slots f.0) ∙ set_there xs i v there.0)
    at_test rest false g = rest (ap (λ b. b || is_in slots slot) (sym g) ∙ e)

positions_at_tuple : (slots : List ℕ) (vs xs : List ℤ) (points : List Point) → Apart slots → length vs ≡ length slots
    → AllByRecursion (λ i. is_some (slice_get xs i) ≡ true) slots → list_all (is_in slots) (flat_map slots_of_point points) ≡ true
    → map (position_at (set_where slots (map Some vs) xs)) points ≡ map (position_in slots vs) points
positions_at_tuple slots vs xs [] f l there e = refl
positions_at_tuple slots vs xs (point.Any ∷ points) f l there e = ap (λ zs. pos 0 ∷ zs) (positions_at_tuple slots vs xs points f l there e)
positions_at_tuple slots vs xs (point.Index slot offset ∷ points) f l there e =
    ap (λ z. (z +ℤ offset) ∷ map (position_at (set_where slots (map Some vs) xs)) points)
    (value_at_tuple slots vs xs slot f l there (and_left (is_in slots slot) (list_all (is_in slots) (flat_map slots_of_point points)) e))
    ∙ ap (λ zs. (value_in slots vs slot +ℤ offset) ∷ zs)
    (positions_at_tuple slots vs xs points f l there (and_right (is_in slots slot) (list_all (is_in slots) (flat_map slots_of_point points)) e))

-- ---- the fold with a test is the fold over the tuples that pass

module _ {X : Type 0} (body : Run X Flow) (test : State X → Bool) where
  only_leaves : {C : Type 0} (part : State X → C) → ((s : State X) → part (state_of (body s)) ≡ part s) → (s : State X) → part (state_of (only test body s)) ≡ part s
  only_leaves part k s = at_test (test s)
    where
      at_test : (b : Bool) → part (state_of (choose b body (pure Next) s)) ≡ part s
      at_test true = k s
      at_test false = refl

  module _ (slots : List ℕ) (own : List ℤ → Bool) (apart_all : Apart slots) (long : (s : State X) → length (state_of (body s)).scalars ≡ length s.scalars)
      (test_is : (vs : List ℤ) (s : State X) → length vs ≡ length slots → Exists s slots → test (at_tuple slots vs s) ≡ own vs) where
    full_filtered : (ts : List (List ℤ)) → Full (length slots) ts → Full (length slots) (filter own ts)
    full_filtered [] l = tt
    full_filtered (vs ∷ ts) l = at_test (full_filtered ts l.1) (own vs)
      where
        at_test : Full (length slots) (filter own ts) → (b : Bool) → Full (length slots) (cond b (vs ∷ filter own ts) (filter own ts))
        at_test rest true = (l.0, rest)
        at_test rest false = rest

    there_at : (vs : List ℤ) (s : State X) → Exists s slots → Exists (at_tuple slots vs s) slots
    there_at vs s there = exist_by_length s (at_tuple slots vs s) slots (where_length slots (map Some vs) s.scalars) there

    filtered : (ts : List (List ℤ)) (os : List (Option ℤ)) (s : State X) → Full (length slots) ts → Overrides slots os → Exists s slots
        → fold_over (only test body) slots ts os s ≡ fold_over body slots (filter own ts) os s
    filtered [] os s l over there = refl
    filtered (vs ∷ ts) os s l over there = at_test (λ t exist. filtered ts os t l.1 over exist) (own vs) (test_is vs s l.0 there)
      where
        at_test : ((t : State X) → Exists t slots → fold_over (only test body) slots ts os t ≡ fold_over body slots (filter own ts) os t) → (b : Bool) → test (at_tuple slots vs s) ≡ b
            → and_then (then_run (only test body) (for_each slots ts (only test body)) (at_tuple slots vs s)) (λ flow. after flow (leaving slots os))
            ≡ fold_over body slots (cond b (vs ∷ filter own ts) (filter own ts)) os s
        at_test rest true e =
            ap (λ b. and_then (and_then (choose b body (pure Next) (at_tuple slots vs s)) (λ flow. after flow (for_each slots ts (only test body)))) (λ flow. after flow (leaving slots os))) e
            ∙ flows_associate (body (at_tuple slots vs s)) (for_each slots ts (only test body)) (leaving slots os)
            ∙ after_next (body (at_tuple slots vs s)) (fold_over (only test body) slots ts os) (fold_over body slots (filter own ts) os) (λ t went.
            rest t
            (exist_by_length (at_tuple slots vs s) t slots (subst (λ (r : Step X Flow). length (state_of r).scalars ≡ length (at_tuple slots vs s).scalars) went (long (at_tuple slots vs s)))
            (there_at vs s there)))
            ∙ sym (flows_associate (body (at_tuple slots vs s)) (for_each slots (filter own ts) body) (leaving slots os))
        at_test rest false e =
            ap (λ b. and_then (and_then (choose b body (pure Next) (at_tuple slots vs s)) (λ flow. after flow (for_each slots ts (only test body)))) (λ flow. after flow (leaving slots os))) e
            ∙ rest (at_tuple slots vs s) (there_at vs s there)
            ∙ fold_from body slots (filter own ts) (map Some vs) os s apart_all (full_filtered ts l.1) (inr over)
            ∙ same_after (for_each slots (filter own ts) body s) (leaving slots (later (map Some vs) os)) (leaving slots os) (λ t.
            ap (λ xs. Gave Next (record t { scalars = xs })) (sym (set_later slots (map Some vs) os t.scalars apart_all) ∙ over (map Some vs) t.scalars))

    pub filtered_settled : (ts : List (List ℤ)) (os : List (Option ℤ)) (s : State X) → Full (length slots) ts → Settled slots ts os → Exists s slots
        → fold_over (only test body) slots ts os s ≡ fold_over body slots (filter own ts) os s
    filtered_settled [] os s l settled there = refl
    filtered_settled (vs ∷ ts) os s l (inl none) there = cc
    filtered_settled (vs ∷ ts) os s l (inr over) there = filtered (vs ∷ ts) os s l over there

index_count : (heads : List _) → length heads ≡ length (indices_of heads)
index_count [] = refl
index_count (x ∷ xs) = ap suc (index_count xs)

pub part_is_fold : (X : Type 0) (h : Handlers X) (cx : Context) (directive : LoopDirective) (writes : List ℕ) (node : ℕ) (body : Run X Flow)
    → PartIsFold X h cx directive writes node body
part_is_fold X h cx directive writes node body f k within s there =
    nest_is_fold X h cx directive.nest writes (only test body) f
    (record {
      kept = all_mapped (λ slot. KeepsScalar {X = X} slot body) (λ slot. KeepsScalar {X = X} slot (only test body)) (λ slot kept. only_leaves body test (λ s. slice_get s.scalars slot) kept)
          (slots_of_nest cx.program directive.nest) k.kept;
      length = only_leaves body test (λ s. length s.scalars) k.length;
    }) s there
    ∙ filtered_settled body test slots (owns_tuple cx.program directive node) apart_all k.length
    (λ vs t l exist. ap (owns_positions cx.program node (slice_get cx.program.templates directive.template)) (positions_at_tuple slots vs t.scalars directive.points apart_all l exist within))
    (tuples (scalar_in s) directive.nest) (ends (scalar_in s) directive.nest) s
    (subst (λ n. Full n (tuples (scalar_in s) directive.nest)) (index_count directive.nest) (tuples_full (scalar_in s) directive.nest))
    (nest_settled (scalar_in s) directive.nest apart_all) there
  where
    slots : List ℕ
    slots = indices_of directive.nest

    test : State X → Bool
    test = owns_iteration cx.program directive node

    apart_all : Apart (indices_of directive.nest)
    apart_all = all_apart_of cx.program directive.nest writes (all_fit cx.program directive.nest writes f.counted f.begins f.constants)
