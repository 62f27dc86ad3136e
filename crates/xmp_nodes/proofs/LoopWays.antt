-- A way through the plan of a loop directive, with no turn; and what an iteration begins with.
use Rattle.std.proofs.Common.{◌≡◌, ◌+◌, ◌*◌, ◌++◌, ◌==◌, ◌&&◌, ◌||◌, ◌⊎◌, not, if◌then◌else◌, ℕ, zero, Bool, true, false, true≢false, List, [], ◌∷◌, map, Option, Some, None, inl, inr, refl, sym, subst, ap, ◌∙◌, arith, eq-eqb, eqb-true, ne_eqb, append_assoc}
use Rattle.xmp_paths.specs.NodeSets.{has}
use Rattle.xmp_paths.specs.Plans.{Plan, skip, emit, sequence, loop, in_order, Path}
use Rattle.xmp_paths.specs.Walk.{after_event, after_events}
use Rattle.xmp_paths.specs.Safe.{left, Safe}
use Rattle.xmp_paths.proofs.PathLaws.{some_path, walk-append}
use Rattle.xmp_paths.proofs.SafeLaws.{safe_front, safe_back, safe_loop}
use Rattle.xmp_paths.specs.declared.event.Event.{Event}
use Rattle.xmp_paths.specs.declared.event.Event.TheVariants.{Mark}
use Rattle.xmp_prog.specs.declared.parts.Home.{Home}
use Rattle.xmp_prog.specs.declared.parts.Home.TheVariants as home
use Rattle.xmp_prog.specs.declared.statements.LoopDirective.{LoopDirective}
use Rattle.xmp_prog.specs.declared.statements.Reduction.{Reduction}
use Rattle.xmp_prog.specs.declared.statements.Stmt.{Stmt}
use Rattle.xmp_prog.specs.Numbers.{is_in}
use Rattle.xmp_prog.specs.Statements.{indices_of}
use Rattle.xmp_meaning.specs.Writes.{arrays_written}
use Rattle.xmp_loops.specs.Objects.{scalar_object, array_object, all_nodes}
use Rattle.xmp_loops.specs.Roles.{own_scalars, scalars_of}
use Rattle.xmp_flow.specs.Setting.{Setting, wrong_where, stale_on_all, current_on_all}
use Rattle.xmp_flow.specs.Elements as elements
use Rattle.xmp_flow.specs.LoopEvents.{within, at_bounds, nest_events, reduction_events, iteration, shadow_stale_at, shadow_stale, ends, loop_events}
use Rattle.xmp_nodes.proofs.BoundReads.{Unmarking, safe_behind}

-- ---- plans of single events

paths_joined : (ps qs : List (Plan Event)) (xs ys : List Event) → Path (in_order ps) xs → Path (in_order qs) ys → Path (in_order (ps ++ qs)) (xs ++ ys)
paths_joined [] qs xs ys h k = subst (λ zs. Path (in_order qs) (zs ++ ys)) (sym h) k
paths_joined (p ∷ ps) qs xs ys h k = record {
  front = h.front;
  back = h.back ++ ys;
  whole = ap (λ zs. zs ++ ys) h.whole ∙ append_assoc h.front h.back ys;
  in_front = h.in_front;
  in_back = paths_joined ps qs h.back ys h.in_back k;
}

emits_path : {A : Type 0} (e : A → Event) (xs : List A) → Path (in_order (map (λ x. emit (e x)) xs)) (map e xs)
emits_path e [] = refl
emits_path e (x ∷ xs) = record { front = e x ∷ []; back = map e xs; whole = refl; in_front = refl; in_back = emits_path e xs }

safe_past : (node : ℕ) {A : Type 0} (e : A → Event) (xs : List A) (q : Plan Event) (stale : ℕ → Bool)
    → Safe node (in_order (map (λ x. emit (e x)) xs ++ q ∷ [])) stale → Safe node q (left node (map e xs) stale)
safe_past node e [] q stale f = safe_front node q skip stale f
safe_past node e (x ∷ xs) q stale f =
    safe_past node e xs q (left node (e x ∷ []) stale)
    (safe_back node (emit (e x)) (in_order (map (λ x. emit (e x)) xs ++ q ∷ [])) stale f (e x ∷ []) refl)

-- ---- marks

module _ (node all : ℕ) (here : has all node ≡ true) where
  -- objects that are put out of date on all nodes
  abbrev pub staled : List ℕ → List Event
  staled objects = map (λ o. Mark o 0 all) objects

  stale_mark : (target object : ℕ) (was : Bool) → target ≡ object → after_event object node (Mark target 0 all) was ≡ true
  stale_mark target object was e =
      ap (λ b. if b then (has all node || (not (has 0 node) && was)) else was) (eq-eqb target object e) ∙ ap (λ b. b || (not (has 0 node) && was)) here

  stale_keeps : (target object : ℕ) → after_event object node (Mark target 0 all) true ≡ true
  stale_keeps target object = at_test (target == object)
    where
      at_test : (b : Bool) → (if b then (has all node || (not (has 0 node) && true)) else true) ≡ true
      at_test true = ap (λ c. c || (not (has 0 node) && true)) here
      at_test false = refl

  stays_stale : (objects : List ℕ) (object : ℕ) (was : Bool) → was ≡ true → after_events object node (staled objects) was ≡ true
  stays_stale [] object was e = e
  stays_stale (o ∷ objects) object was e =
      stays_stale objects object (after_event object node (Mark o 0 all) was) (ap (after_event object node (Mark o 0 all)) e ∙ stale_keeps o object)

  pub is_staled : (objects : List ℕ) (object : ℕ) (was : Bool) → is_in objects object ≡ true → after_events object node (staled objects) was ≡ true
  is_staled [] object was e = absurd (true≢false (sym e))
  is_staled (o ∷ objects) object was e = at_test (is_staled objects object (after_event object node (Mark o 0 all) was)) (o == object) refl e
    where
      at_test : (is_in objects object ≡ true → after_events object node (staled objects) (after_event object node (Mark o 0 all) was) ≡ true)
          → (b : Bool) → (o == object) ≡ b → (b || is_in objects object) ≡ true
          → after_events object node (staled objects) (after_event object node (Mark o 0 all) was) ≡ true
      at_test rest true g f = stays_stale objects object (after_event object node (Mark o 0 all) was) (stale_mark o object was (eqb-true o object g))
      at_test rest false g f = rest f

  false_before : (was now : Bool) → (was ≡ true → now ≡ true) → now ≡ false → was ≡ false
  false_before true now h e = absurd (true≢false (sym (h refl) ∙ e))
  false_before false now h e = refl

  -- what is current behind the marks was so before, and is none of them
  pub current_before : (objects : List ℕ) (object : ℕ) (was : Bool) → after_events object node (staled objects) was ≡ false
      → (was ≡ false) × (is_in objects object ≡ false)
  current_before objects object was e = (
    false_before was (after_events object node (staled objects) was) (stays_stale objects object was) e,
    false_before (is_in objects object) (after_events object node (staled objects) was) (is_staled objects object was) e,
  )

  -- objects that are made current on all nodes
  abbrev pub freshened : List ℕ → List Event
  freshened objects = map (λ o. Mark o all 0) objects

  fresh_mark : (target object : ℕ) (was : Bool) → after_event object node (Mark target all 0) was ≡ false → (was ≡ false) ⊎ (target ≡ object)
  fresh_mark target object was e = at_test (target == object) refl e
    where
      at_test : (b : Bool) → (target == object) ≡ b → (if b then (has 0 node || (not (has all node) && was)) else was) ≡ false → (was ≡ false) ⊎ (target ≡ object)
      at_test true g f = inr (eqb-true target object g)
      at_test false g f = inl f

  pub fresh_before : (objects : List ℕ) (object : ℕ) (was : Bool) → after_events object node (freshened objects) was ≡ false
      → (was ≡ false) ⊎ (is_in objects object ≡ true)
  fresh_before [] object was e = inl e
  fresh_before (o ∷ objects) object was e = at_rest (fresh_before objects object (after_event object node (Mark o all 0) was) e)
    where
      or_true : (b c : Bool) → c ≡ true → (b || c) ≡ true
      or_true true c e = refl
      or_true false c e = e

      at_mark : (was ≡ false) ⊎ (o ≡ object) → (was ≡ false) ⊎ (is_in (o ∷ objects) object ≡ true)
      at_mark (inl f) = inl f
      at_mark (inr same) = inr (ap (λ b. b || is_in objects object) (eq-eqb o object same))

      at_rest : (after_event object node (Mark o all 0) was ≡ false) ⊎ (is_in objects object ≡ true) → (was ≡ false) ⊎ (is_in (o ∷ objects) object ≡ true)
      at_rest (inl f) = at_mark (fresh_mark o object was f)
      at_rest (inr i) = inr (or_true (o == object) (is_in objects object) i)

-- ---- objects

pub scalar_in_objects : (slots : List ℕ) (slot : ℕ) → is_in (map scalar_object slots) (scalar_object slot) ≡ is_in slots slot
scalar_in_objects [] slot = refl
scalar_in_objects (j ∷ slots) slot = ap (λ b. b || is_in (map scalar_object slots) (scalar_object slot)) (at_test (j == slot) refl) ∙ ap (λ b. (j == slot) || b) (scalar_in_objects slots slot)
  where
    half : (a b : ℕ) → 2 * a ≡ 2 * b → a ≡ b
    half a b e = omega (arith, e)

    at_test : (b : Bool) → (j == slot) ≡ b → (2 * j == 2 * slot) ≡ (j == slot)
    at_test true e = eq-eqb (2 * j) (2 * slot) (ap (λ n. 2 * n) (eqb-true j slot e)) ∙ sym e
    at_test false e = ne_eqb (2 * j) (2 * slot) (λ same. true≢false (sym (eq-eqb j slot (half j slot same)) ∙ e)) ∙ sym e

pub array_no_scalar : (slots : List ℕ) (array : ℕ) → is_in (map scalar_object slots) (array_object array) ≡ false
array_no_scalar [] array = refl
array_no_scalar (j ∷ slots) array = ap (λ b. b || is_in (map scalar_object slots) (array_object array)) (ne_eqb (2 * j) (2 * array + 1) (λ e. odd j array e)) ∙ array_no_scalar slots array
  where
    odd : (a b : ℕ) → 2 * a ≡ 2 * b + 1 → ⊥
    odd a b e = omega (arith, e)

-- ---- the directive

mapped_twice : {A : Type 0} (f : A → ℕ) (g : ℕ → Event) (xs : List A) → map (λ x. g (f x)) xs ≡ map g (map f xs)
mapped_twice f g [] = refl
mapped_twice f g (x ∷ xs) = ap (λ l. g (f x) ∷ l) (mapped_twice f g xs)

-- the objects of the shadows that a directive leaves out of date
abbrev pub shadow_at : ℕ → Option Home → List ℕ
shadow_at array (Some (home.Spread t m)) = array_object array ∷ []
shadow_at array (Some home.Copy) = []
shadow_at array (Some home.Image) = []
shadow_at array None = []

abbrev pub shadow_objects : Setting → List ℕ → List ℕ
shadow_objects set [] = []
shadow_objects set (a ∷ arrays) = shadow_at a (elements.home_of set a) ++ shadow_objects set arrays

-- a distributed array that is written is one of them
pub shadow_among : (set : Setting) (arrays : List ℕ) (array t : ℕ) (m : _) → is_in arrays array ≡ true → elements.home_of set array ≡ Some (home.Spread t m)
    → is_in (shadow_objects set arrays) (array_object array) ≡ true
shadow_among set [] array t m i e = absurd (true≢false (sym i))
shadow_among set (a ∷ arrays) array t m i e = at_test (shadow_among set arrays array t m) (a == array) refl i
  where
    in_behind : (xs ys : List ℕ) (n : ℕ) → is_in ys n ≡ true → is_in (xs ++ ys) n ≡ true
    in_behind [] ys n h = h
    in_behind (x ∷ xs) ys n h = or_true (x == n) (is_in (xs ++ ys) n) (in_behind xs ys n h)
      where
        or_true : (b c : Bool) → c ≡ true → (b || c) ≡ true
        or_true true c h = refl
        or_true false c h = h

    first : a ≡ array → is_in (shadow_at a (elements.home_of set a) ++ shadow_objects set arrays) (array_object array) ≡ true
    first same =
        ap (λ o. is_in (shadow_at a o ++ shadow_objects set arrays) (array_object array)) (ap (elements.home_of set) same ∙ e)
        ∙ ap (λ b. b || is_in (shadow_objects set arrays) (array_object array)) (eq-eqb (array_object a) (array_object array) (ap array_object same))

    at_test : (is_in arrays array ≡ true → elements.home_of set array ≡ Some (home.Spread t m) → is_in (shadow_objects set arrays) (array_object array) ≡ true)
        → (b : Bool) → (a == array) ≡ b → (b || is_in arrays array) ≡ true
        → is_in (shadow_at a (elements.home_of set a) ++ shadow_objects set arrays) (array_object array) ≡ true
    at_test rest true g f = first (eqb-true a array g)
    at_test rest false g f = in_behind (shadow_at a (elements.home_of set a)) (shadow_objects set arrays) (array_object array) (rest f e)

module _ (set : Setting) (d : LoopDirective) (body : Stmt) (events : Setting → Plan Event) where
  abbrev pub inside_plan : Plan Event
  inside_plan = wrong_where set.inside 10 d.at

  abbrev pub nest_plan : Plan Event
  nest_plan = in_order (nest_events (at_bounds d body set) [] (scalars_of d body) d.nest)

  abbrev pub reductions_plan : Plan Event
  reductions_plan = in_order (reduction_events set [] d.reductions)

  abbrev pub turns_plan : Plan Event
  turns_plan = loop (iteration set d body events)

  abbrev pub ends_plan : Plan Event
  ends_plan = in_order (ends set d body)

  abbrev pub reduced_slots : List ℕ
  reduced_slots = map (λ r. r.variable.number) d.reductions

  module _ (node : ℕ) (here : has (all_nodes set.program) node ≡ true) where
    abbrev pub all : ℕ
    all = all_nodes set.program

    -- ---- the end

    abbrev pub stale_objects : List ℕ
    stale_objects = map scalar_object (own_scalars d body ++ indices_of d.nest)

    abbrev pub fresh_objects : List ℕ
    fresh_objects = map scalar_object reduced_slots

    abbrev pub end_way : List Event
    end_way = staled node all here stale_objects ++ (freshened node all here fresh_objects ++ staled node all here (shadow_objects set (arrays_written body)))

    shadow_path : (arrays : List ℕ) → Path (in_order (map (shadow_stale set) arrays)) (staled node all here (shadow_objects set arrays))
    shadow_path [] = refl
    shadow_path (a ∷ arrays) = at_home (shadow_path arrays) (elements.home_of set a)
      where
        at_home : Path (in_order (map (shadow_stale set) arrays)) (staled node all here (shadow_objects set arrays))
            → (o : Option Home) → Path (sequence (shadow_stale_at set a o) (in_order (map (shadow_stale set) arrays))) (staled node all here (shadow_at a o ++ shadow_objects set arrays))
        at_home rest (Some (home.Spread t m)) = record { front = Mark (array_object a) 0 all ∷ []; back = staled node all here (shadow_objects set arrays); whole = refl; in_front = refl; in_back = rest }
        at_home rest (Some home.Copy) = record { front = []; back = staled node all here (shadow_objects set arrays); whole = refl; in_front = refl; in_back = rest }
        at_home rest (Some home.Image) = record { front = []; back = staled node all here (shadow_objects set arrays); whole = refl; in_front = refl; in_back = rest }
        at_home rest None = record { front = []; back = staled node all here (shadow_objects set arrays); whole = refl; in_front = refl; in_back = rest }

    end_path : Path ends_plan end_way
    end_path =
        paths_joined (map (λ slot. stale_on_all set (scalar_object slot)) (own_scalars d body ++ indices_of d.nest))
        (map (λ r. current_on_all set (scalar_object r.variable.number)) d.reductions ++ map (shadow_stale set) (arrays_written body))
        (staled node all here stale_objects) (freshened node all here fresh_objects ++ staled node all here (shadow_objects set (arrays_written body)))
        (subst (Path (in_order (map (λ slot. stale_on_all set (scalar_object slot)) (own_scalars d body ++ indices_of d.nest))))
        (mapped_twice scalar_object (λ o. Mark o 0 all) (own_scalars d body ++ indices_of d.nest))
        (emits_path (λ slot. Mark (scalar_object slot) 0 all) (own_scalars d body ++ indices_of d.nest)))
        (paths_joined (map (λ (r : Reduction). current_on_all set (scalar_object r.variable.number)) d.reductions) (map (shadow_stale set) (arrays_written body))
        (freshened node all here fresh_objects) (staled node all here (shadow_objects set (arrays_written body)))
        (subst (Path (in_order (map (λ (r : Reduction). current_on_all set (scalar_object r.variable.number)) d.reductions)))
        (mapped_twice (λ (r : Reduction). scalar_object r.variable.number) (λ o. Mark o all 0) d.reductions
        ∙ ap (λ os. map (λ o. Mark o all 0) os) (objects_of d.reductions))
        (emits_path (λ (r : Reduction). Mark (scalar_object r.variable.number) all 0) d.reductions))
        (shadow_path (arrays_written body)))
      where
        objects_of : (rs : List Reduction) → map (λ r. scalar_object r.variable.number) rs ≡ map scalar_object (map (λ r. r.variable.number) rs)
        objects_of [] = refl
        objects_of (r ∷ rs) = ap (λ l. scalar_object r.variable.number ∷ l) (objects_of rs)

    -- ---- the whole

    module _ (inside_unmarks : Unmarking node inside_plan) (nest_unmarks : Unmarking node nest_plan) (reductions_unmark : Unmarking node reductions_plan) where
      abbrev pub loop_way : List Event
      loop_way = (some_path inside_plan).0 ++ ((some_path nest_plan).0 ++ ((some_path reductions_plan).0 ++ ([] ++ (end_way ++ []))))

      pub loop_path : Path (loop_events d body events set) loop_way
      loop_path = record {
        front = (some_path inside_plan).0;
        back = (some_path nest_plan).0 ++ ((some_path reductions_plan).0 ++ ([] ++ (end_way ++ [])));
        whole = refl;
        in_front = (some_path inside_plan).1;
        in_back = record {
          front = (some_path nest_plan).0;
          back = (some_path reductions_plan).0 ++ ([] ++ (end_way ++ []));
          whole = refl;
          in_front = (some_path nest_plan).1;
          in_back = record {
            front = (some_path reductions_plan).0;
            back = [] ++ (end_way ++ []);
            whole = refl;
            in_front = (some_path reductions_plan).1;
            in_back = record {
              front = [];
              back = end_way ++ [];
              whole = refl;
              in_front = (zero, refl);
              in_back = record { front = end_way; back = []; whole = refl; in_front = end_path; in_back = refl };
            };
          };
        };
      }

      -- what the way leaves is what its marks leave
      left_by_marks : (stale : ℕ → Bool) (object : ℕ) → left node loop_way stale object ≡ after_events object node end_way (stale object)
      left_by_marks stale object =
          walk-append object node (some_path inside_plan).0 ((some_path nest_plan).0 ++ ((some_path reductions_plan).0 ++ ([] ++ (end_way ++ [])))) (stale object)
          ∙ ap (after_events object node ((some_path nest_plan).0 ++ ((some_path reductions_plan).0 ++ ([] ++ (end_way ++ [])))))
          (inside_unmarks (some_path inside_plan).0 (some_path inside_plan).1 object (stale object))
          ∙ walk-append object node (some_path nest_plan).0 ((some_path reductions_plan).0 ++ ([] ++ (end_way ++ []))) (stale object)
          ∙ ap (after_events object node ((some_path reductions_plan).0 ++ ([] ++ (end_way ++ []))))
          (nest_unmarks (some_path nest_plan).0 (some_path nest_plan).1 object (stale object))
          ∙ walk-append object node (some_path reductions_plan).0 ([] ++ (end_way ++ [])) (stale object)
          ∙ ap (after_events object node (end_way ++ [])) (reductions_unmark (some_path reductions_plan).0 (some_path reductions_plan).1 object (stale object))
          ∙ walk-append object node end_way [] (stale object)

      split_marks : (stale : ℕ → Bool) (object : ℕ) → left node loop_way stale object ≡ false
          → ((after_events object node (staled node all here stale_objects) (stale object) ≡ false) ⊎ (is_in fresh_objects object ≡ true))
          × (is_in (shadow_objects set (arrays_written body)) object ≡ false)
      split_marks stale object e =
          let first : Bool = after_events object node (staled node all here stale_objects) (stale object) in
          let second : Bool = after_events object node (freshened node all here fresh_objects) first in
          let shadows : _ = current_before node all here (shadow_objects set (arrays_written body)) object second
          (sym (walk-append object node (freshened node all here fresh_objects) (staled node all here (shadow_objects set (arrays_written body))) first)
          ∙ sym (walk-append object node (staled node all here stale_objects) (freshened node all here fresh_objects ++ staled node all here (shadow_objects set (arrays_written body))) (stale object))
          ∙ sym (left_by_marks stale object) ∙ e) in
          (fresh_before node all here fresh_objects object first shadows.0, shadows.1)

      -- a scalar that is current behind it was current before, and is none of the directive's, or it is a reduction variable
      pub scalar_left : (stale : ℕ → Bool) (slot : ℕ) → left node loop_way stale (scalar_object slot) ≡ false → is_in reduced_slots slot ≡ false
          → (stale (scalar_object slot) ≡ false) × (is_in (own_scalars d body ++ indices_of d.nest) slot ≡ false)
      scalar_left stale slot e r = at_case (split_marks stale (scalar_object slot) e).0
        where
          at_case : (after_events (scalar_object slot) node (staled node all here stale_objects) (stale (scalar_object slot)) ≡ false) ⊎ (is_in fresh_objects (scalar_object slot) ≡ true)
              → (stale (scalar_object slot) ≡ false) × (is_in (own_scalars d body ++ indices_of d.nest) slot ≡ false)
          at_case (inl f) =
              let before : _ = current_before node all here stale_objects (scalar_object slot) (stale (scalar_object slot)) f in
              (before.0, sym (scalar_in_objects (own_scalars d body ++ indices_of d.nest) slot) ∙ before.1)
          at_case (inr i) = absurd (true≢false (sym i ∙ scalar_in_objects reduced_slots slot ∙ r))

      -- an array's copies, or its shadow, likewise; and the shadow is of no array that the directive writes
      pub array_left : (stale : ℕ → Bool) (array : ℕ) → left node loop_way stale (array_object array) ≡ false
          → (stale (array_object array) ≡ false) × (is_in (shadow_objects set (arrays_written body)) (array_object array) ≡ false)
      array_left stale array e = (at_case (split_marks stale (array_object array) e).0, (split_marks stale (array_object array) e).1)
        where
          at_case : (after_events (array_object array) node (staled node all here stale_objects) (stale (array_object array)) ≡ false) ⊎ (is_in fresh_objects (array_object array) ≡ true)
              → stale (array_object array) ≡ false
          at_case (inl f) = (current_before node all here stale_objects (array_object array) (stale (array_object array)) f).0
          at_case (inr i) = absurd (true≢false (sym i ∙ array_no_scalar reduced_slots array))

      -- ---- an iteration

      abbrev pub turn_stale : (ℕ → Bool) → ℕ → Bool
      turn_stale stale = left node (map (λ slot. Mark (scalar_object slot) 0 all) (own_scalars d body)) stale

      turn_marks : (stale : ℕ → Bool) (object : ℕ)
          → turn_stale stale object ≡ after_events object node (staled node all here (map scalar_object (own_scalars d body))) (stale object)
      turn_marks stale object = ap (λ es. after_events object node es (stale object)) (mapped_twice scalar_object (λ o. Mark o 0 all) (own_scalars d body))

      pub turn_own : (stale : ℕ → Bool) (slot : ℕ) → is_in (own_scalars d body) slot ≡ true → turn_stale stale (scalar_object slot) ≡ true
      turn_own stale slot i =
          turn_marks stale (scalar_object slot)
          ∙ is_staled node all here (map scalar_object (own_scalars d body)) (scalar_object slot) (stale (scalar_object slot)) (scalar_in_objects (own_scalars d body) slot ∙ i)

      pub turn_before : (stale : ℕ → Bool) (object : ℕ) → turn_stale stale object ≡ false → stale object ≡ false
      turn_before stale object e =
          (current_before node all here (map scalar_object (own_scalars d body)) object (stale object) (sym (turn_marks stale object) ∙ e)).0

      module _ (stale : ℕ → Bool) (safe : Safe node (loop_events d body events set) stale) where
        behind_inside : Safe node (sequence nest_plan (sequence reductions_plan (sequence turns_plan (sequence ends_plan skip)))) stale
        behind_inside = safe_behind node inside_plan (sequence nest_plan (sequence reductions_plan (sequence turns_plan (sequence ends_plan skip)))) stale inside_unmarks safe

        pub nest_safe : Safe node nest_plan stale
        nest_safe = safe_front node nest_plan (sequence reductions_plan (sequence turns_plan (sequence ends_plan skip))) stale behind_inside

        behind_nest : Safe node (sequence reductions_plan (sequence turns_plan (sequence ends_plan skip))) stale
        behind_nest = safe_behind node nest_plan (sequence reductions_plan (sequence turns_plan (sequence ends_plan skip))) stale nest_unmarks behind_inside

        pub reductions_safe : Safe node reductions_plan stale
        reductions_safe = safe_front node reductions_plan (sequence turns_plan (sequence ends_plan skip)) stale behind_nest

        pub turn_safe : Safe node (events (within d body set)) (turn_stale stale)
        turn_safe =
            safe_past node (λ slot. Mark (scalar_object slot) 0 all) (own_scalars d body) (events (within d body set)) stale
            (safe_front node (iteration set d body events) turns_plan stale
            ((safe_loop node (iteration set d body events) stale).0
            (safe_front node turns_plan (sequence ends_plan skip) stale
            (safe_behind node reductions_plan (sequence turns_plan (sequence ends_plan skip)) stale reductions_unmark behind_nest))))
