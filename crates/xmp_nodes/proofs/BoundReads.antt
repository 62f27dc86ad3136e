-- What a bound of a nest names and reads, where it is built of scalars that pass a test: it marks nothing, and where its
-- reads are safe the scalars are current.
use Rattle.std.proofs.Common.{◌≡◌, ◌++◌, ◌&&◌, ℕ, Bool, true, false, true≢false, List, [], ◌∷◌, inl, inr, refl, sym, subst, ap, ◌∙◌}
use Rattle.std.specs.List.{AllByRecursion}
use Rattle.xmp_base.specs.declared.place.Place.{Place}
use Rattle.xmp_map.proofs.Counted.{and_left, and_right}
use Rattle.xmp_prog.specs.declared.expressions.Expr.{Expr, map-Expr}
use Rattle.xmp_prog.specs.declared.expressions.Access.{Access}
use Rattle.xmp_prog.specs.declared.expressions.Expr.TheOpen.{Expr-F}
use Rattle.xmp_prog.specs.declared.expressions.Expr.TheFolds.{ind-Expr, fold-Access, fold-roll-Expr}
use Rattle.xmp_prog.specs.declared.expressions.Expr.TheViews.{roll-Expr}
use Rattle.xmp_prog.specs.Terms.{Term, Typed, typed, typed_step, terms_of, slots_of_term, slots_of_terms}
use Rattle.xmp_prog.specs.Terms as terms
use Rattle.xmp_prog.specs.Counted.{is_bound_operator}
use Rattle.xmp_paths.specs.NodeSets.{has}
use Rattle.xmp_paths.specs.Plans.{Plan, skip, emit, sequence, in_order, Path}
use Rattle.xmp_paths.specs.Walk.{after_events}
use Rattle.xmp_paths.specs.Safe.{left, Safe, NothingWrong}
use Rattle.xmp_paths.proofs.PathLaws.{some_path, walk-append}
use Rattle.xmp_paths.proofs.SafeLaws.{safe_fewer, safe_front, safe_back, safe_read}
use Rattle.xmp_paths.specs.declared.event.Event.{Event}
use Rattle.xmp_paths.specs.declared.event.Event.TheVariants.{Read, Wrong}
use Rattle.xmp_loops.specs.Objects.{scalar_object}
use Rattle.xmp_loops.specs.Bounds.{built_step, is_built}
use Rattle.xmp_loops.specs.declared.role.Role.{Role}
use Rattle.xmp_loops.specs.declared.role.Role.TheVariants.{Shared, Index, Reduced, Own}
use Rattle.xmp_flow.specs.Setting.{Setting, read_scalar}
use Rattle.xmp_flow.specs.Reads.{Reading, reading_step, element_step, reading, element, reads_of}
use Rattle.xmp_meaning_laws.specs.Tuples.{is_fixed_term}
use Rattle.xmp_meaning_laws.proofs.Conditions.{all_together}
use Rattle.xmp_meaning_laws.proofs.WhereExpressions.{typed_access}

-- ---- plans that mark nothing

-- on no path is an object out of date or current by it
abbrev pub Unmarking : (node : ℕ) → Plan Event → Type 0
Unmarking node plan = (way : List Event) → Path plan way → (object : ℕ) (was : Bool) → after_events object node way was ≡ was

pub skip_unmarks : (node : ℕ) → Unmarking node skip
skip_unmarks node way path object was = ap (λ w. after_events object node w was) path

pub read_unmarks : (node object nodes rule : ℕ) (at : Place) → Unmarking node (emit (Read object nodes rule at))
read_unmarks node o nodes rule at way path object was = ap (λ w. after_events object node w was) path

pub wrong_unmarks : (node rule : ℕ) (at : Place) → Unmarking node (emit (Wrong rule at))
wrong_unmarks node rule at way path object was = ap (λ w. after_events object node w was) path

pub sequence_unmarks : (node : ℕ) (p q : Plan Event) → Unmarking node p → Unmarking node q → Unmarking node (sequence p q)
sequence_unmarks node p q h k way path object was =
    ap (λ w. after_events object node w was) path.whole ∙ walk-append object node path.front path.back was
    ∙ ap (after_events object node path.back) (h path.front path.in_front object was) ∙ k path.back path.in_back object was

pub all_unmark : (node : ℕ) (plans : List (Plan Event)) → AllByRecursion (Unmarking node) plans → Unmarking node (in_order plans)
all_unmark node [] h = skip_unmarks node
all_unmark node (p ∷ plans) h = sequence_unmarks node p (in_order plans) h.0 (all_unmark node plans h.1)

-- what follows a plan that marks nothing is safe from the same copies
pub safe_behind : (node : ℕ) (p q : Plan Event) (stale : ℕ → Bool) → Unmarking node p → Safe node (sequence p q) stale → Safe node q stale
safe_behind node p q stale u s =
    let way = some_path p in
    safe_fewer node q (left node way.0 stale) stale (λ object e. u way.0 way.1 object (stale object) ∙ e) (safe_back node p q stale s way.0 way.1)

pub nothing_in_front : (p q : Plan Event) → NothingWrong (sequence p q) → NothingWrong p
nothing_in_front p q n rule at s = n rule at (inl s)

pub nothing_behind : (p q : Plan Event) → NothingWrong (sequence p q) → NothingWrong q
nothing_behind p q n rule at s = n rule at (inr s)

-- ---- the scalars of a bound

pub slots_joined : (P : ℕ → Type 0) (ts us : List Term) → AllByRecursion P (slots_of_terms ts) → AllByRecursion P (slots_of_terms us)
    → AllByRecursion P (slots_of_terms (ts ++ us))
slots_joined P [] us h k = k
slots_joined P (t ∷ ts) us h k =
    let both : _ = of_two (slots_of_term t) (slots_of_terms ts) h in
    all_together P (slots_of_term t) (slots_of_terms (ts ++ us)) both.0 (slots_joined P ts us both.1 k)
  where
    of_two : (xs ys : List ℕ) → AllByRecursion P (xs ++ ys) → AllByRecursion P xs × AllByRecursion P ys
    of_two [] ys h = (tt, h)
    of_two (x ∷ xs) ys h = let rest : _ = of_two xs ys h.1 in ((h.0, rest.0), rest.1)

-- a scalar that was read where it has this role: an index has no copies, and a reduction variable isn't read
abbrev pub IsRead : Role → (stale : ℕ → Bool) → (slot : ℕ) → Type 0
IsRead Shared stale slot = stale (scalar_object slot) ≡ false
IsRead Index stale slot = Unit {0}
IsRead (Reduced op) stale slot = ⊥
IsRead Own stale slot = stale (scalar_object slot) ≡ false

pub not_true : (b : Bool) → (b ≡ true → ⊥) → b ≡ false
not_true true h = absurd (h refl)
not_true false h = refl

module _ (s : Setting) (node : ℕ) (here : has s.nodes node ≡ true) (test : ℕ → Bool) where
  pub record BoundFacts (ts : List Term) (plan : Plan Event) : Type 0 where
    pub fixed : AllByRecursion (λ t. is_fixed_term t ≡ true) ts
    pub pass : AllByRecursion (λ slot. test slot ≡ true) (slots_of_terms ts)
    pub unmarks : Unmarking node plan
    pub current : (stale : ℕ → Bool) → Safe node plan stale → NothingWrong plan → AllByRecursion (λ slot. IsRead (s.roles slot) stale slot) (slots_of_terms ts)

  abbrev IsBound : Expr → Type 0
  IsBound e = is_built test e ≡ true → BoundFacts (terms_of s.program e) (reads_of e s)

  scalar_unmarks : (slot : ℕ) (at : Place) (r : Role) → Unmarking node (read_scalar s slot at r)
  scalar_unmarks slot at Shared = read_unmarks node (scalar_object slot) s.nodes 1 at
  scalar_unmarks slot at Index = skip_unmarks node
  scalar_unmarks slot at (Reduced op) = wrong_unmarks node 5 at
  scalar_unmarks slot at Own = read_unmarks node (scalar_object slot) s.nodes 5 at

  scalar_current : (slot : ℕ) (at : Place) (r : Role) (stale : ℕ → Bool) → Safe node (read_scalar s slot at r) stale → NothingWrong (read_scalar s slot at r)
      → IsRead r stale slot
  scalar_current slot at Shared stale f n = not_true (stale (scalar_object slot)) (safe_read node (scalar_object slot) s.nodes 1 at stale f here)
  scalar_current slot at Index stale f n = tt
  scalar_current slot at (Reduced op) stale f n = n 5 at refl
  scalar_current slot at Own stale f n = not_true (stale (scalar_object slot)) (safe_read node (scalar_object slot) s.nodes 5 at stale f here)

  not_built : {A : Type 0} → false ≡ true → A
  not_built e = absurd (true≢false (sym e))

  module _ {C D : Type 0} (p : C → Expr) (q : D → Access) (j : (x : C) → IsBound (p x)) where
    abbrev mapped : Expr-F C D → Expr-F Expr Access
    mapped y = map-Expr C D Expr Access p q y

    abbrev of_typed : Expr-F C D → Typed
    of_typed y = typed_step s.program (map-Expr Expr Access Typed Typed (typed s.program) (typed_access s.program) (mapped y))

    abbrev of_built : Expr-F C D → Bool
    of_built y = built_step test (map-Expr Expr Access Bool Bool (is_built test) (fold-Access Bool Bool (built_step test) (λ a. false)) (mapped y))

    abbrev of_reads : Expr-F C D → Plan Event
    of_reads y = (reading_step (map-Expr Expr Access _ _ reading element (mapped y))).reads s

    facts_of_step : (y : Expr-F C D) → of_built y ≡ true → BoundFacts (of_typed y).terms (of_reads y)
    facts_of_step (Expr-F.Const v ty) e = record { fixed = (refl, tt); pass = tt; unmarks = skip_unmarks node; current = λ stale f n. tt }
    facts_of_step (Expr-F.Scalar slot at) e = record {
      fixed = (refl, tt);
      pass = (e, tt);
      unmarks = scalar_unmarks slot at (s.roles slot);
      current = λ stale f n. (scalar_current slot at (s.roles slot) stale f n, tt);
    }
    facts_of_step (Expr-F.Cell a) e = not_built e
    facts_of_step (Expr-F.Binary o ty a b at) e =
        let operands : _ = and_right (is_bound_operator o) (is_built test (p a) && is_built test (p b)) e in
        let first : BoundFacts (terms_of s.program (p a)) (reads_of (p a) s) = j a (and_left (is_built test (p a)) (is_built test (p b)) operands) in
        let second : BoundFacts (terms_of s.program (p b)) (reads_of (p b) s) = j b (and_right (is_built test (p a)) (is_built test (p b)) operands) in record {
          fixed = (
            and_left (is_bound_operator o) (is_built test (p a) && is_built test (p b)) e,
            all_together (λ t. is_fixed_term t ≡ true) (terms_of s.program (p a)) (terms_of s.program (p b)) first.fixed second.fixed,
          );
          pass = slots_joined (λ slot. test slot ≡ true) (terms_of s.program (p a)) (terms_of s.program (p b)) first.pass second.pass;
          unmarks = all_unmark node (reads_of (p a) s ∷ reads_of (p b) s ∷ []) (first.unmarks, (second.unmarks, tt));
          current = λ stale f n.
              slots_joined (λ slot. IsRead (s.roles slot) stale slot) (terms_of s.program (p a)) (terms_of s.program (p b))
              (first.current stale (safe_front node (reads_of (p a) s) (sequence (reads_of (p b) s) skip) stale f)
              (nothing_in_front (reads_of (p a) s) (sequence (reads_of (p b) s) skip) n))
              (second.current stale
              (safe_front node (reads_of (p b) s) skip stale (safe_behind node (reads_of (p a) s) (sequence (reads_of (p b) s) skip) stale first.unmarks f))
              (nothing_in_front (reads_of (p b) s) skip (nothing_behind (reads_of (p a) s) (sequence (reads_of (p b) s) skip) n)));
        }
    facts_of_step (Expr-F.Both a b) e = not_built e
    facts_of_step (Expr-F.Either a b) e = not_built e
    facts_of_step (Expr-F.Choose a b c) e = not_built e
    facts_of_step (Expr-F.Convert ty a) e =
        let inner : BoundFacts (terms_of s.program (p a)) (reads_of (p a) s) = j a e in
        record { fixed = (refl, inner.fixed); pass = inner.pass; unmarks = inner.unmarks; current = inner.current }
    facts_of_step (Expr-F.Call function arguments at) e = not_built e
    facts_of_step Expr-F.Node e = not_built e
    facts_of_step Expr-F.Nodes e = not_built e

  facts_roll : {w w' : Typed} {u u' : Bool} {v v' : Reading} → w ≡ w' → u ≡ u' → v ≡ v'
      → (u' ≡ true → BoundFacts w'.terms (v'.reads s)) → u ≡ true → BoundFacts w.terms (v.reads s)
  facts_roll {w} {w'} {u} {u'} {v} {v'} a b e f g =
      subst (λ z. BoundFacts z.terms (v.reads s)) (sym a) (subst (λ z. BoundFacts w'.terms (z.reads s)) (sym e) (f (sym b ∙ g)))

  pub bound_facts : (e : Expr) → IsBound e
  bound_facts = ind-Expr IsBound (λ a. Unit {0})
      (λ x y e. subst (λ z. IsBound (roll-Expr z)) e
      (facts_roll (fold-roll-Expr Typed Typed (typed_step s.program) (terms.access_step s.program) _)
      (fold-roll-Expr Bool Bool (built_step test) (λ a. false) _)
      (fold-roll-Expr Reading _ reading_step element_step _)
      (facts_of_step (λ c. c.0) (λ d. d.0) (λ c. c.1) y)))
      (λ x y e. tt)
