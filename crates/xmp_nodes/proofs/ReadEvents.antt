-- What the events of an expression's reads say of the scalars and the elements that it names.
use Rattle.std.proofs.Common.{◌≡◌, ◌++◌, ◌&&◌, inl, inr, ℕ, ℤ, Bool, true, true≢false, List, [], ◌∷◌, map, Option, Some, None, refl, sym, subst, ◌∙◌}
use Rattle.std.specs.Prelude.{is_none}
use Rattle.std.specs.List.{AllByRecursion, list_all, flat_map}
use Rattle.std.proofs.lemmas.List.Folds.{list_all-append}
use Rattle.xmp_base.specs.declared.place.Place.{Place}
use Rattle.xmp_map.proofs.Counted.{and_left, and_right}
use Rattle.xmp_paths.specs.Plans.{Plan, skip, branch}
use Rattle.xmp_paths.specs.declared.event.Event.{Event}
use Rattle.xmp_num.specs.declared.types.Ty.{Ty}
use Rattle.xmp_prog.specs.declared.parts.ProgParts.{ProgParts}
use Rattle.xmp_prog.specs.declared.expressions.Expr.{Expr, map-Expr}
use Rattle.xmp_prog.specs.declared.expressions.Access.{Access, map-Access}
use Rattle.xmp_prog.specs.declared.expressions.Expr.TheOpen.{Expr-F, Access-F}
use Rattle.xmp_prog.specs.declared.expressions.Expr.TheFolds.{fold-Access, ind-Expr, ind-Access, fold-roll-Expr, fold-roll-Access}
use Rattle.xmp_prog.specs.declared.expressions.Expr.TheViews.{roll-Expr, roll-Access}
use Rattle.xmp_prog.specs.Terms.{Term, Element, Typed, typed_step, access_step, typed, terms_of_access}
use Rattle.xmp_flow.specs.Setting.{Setting, wrong_where, reads_scalar}
use Rattle.xmp_flow.specs.Elements.{element_read}
use Rattle.xmp_flow.specs.Reads as flow
use Rattle.xmp_flow.specs.Reads.{Reading, reading_step, element_step, reading, element, reads_of, reads_of_all, subscript_reads}
use Rattle.xmp_flow.proofs.ReadLaws.{access-told}
use Rattle.xmp_meaning_laws.specs.Laws.{calls_pass}
use Rattle.xmp_meaning_laws.specs.Agreement.{Spot, Seen, SeenElement, seen_step, seen_element, seen, seen_access}
use Rattle.xmp_meaning_laws.proofs.Conditions.{all_apart}
use Rattle.xmp_meaning_laws.proofs.CountedLoops.{both_true}
use Rattle.xmp_nodes.proofs.MetEvents.{EachEvent, EachOf, each_ordered, ordered_each, each_skip, each_branch, all_together}

pub terms_first : (test : Term → Bool) (xs ys : List Term) → list_all test (xs ++ ys) ≡ true → list_all test xs ≡ true
terms_first test xs ys e = and_left (list_all test xs) (list_all test ys) (sym (list_all-append test xs ys) ∙ e)

pub terms_last : (test : Term → Bool) (xs ys : List Term) → list_all test (xs ++ ys) ≡ true → list_all test ys ≡ true
terms_last test xs ys e = and_right (list_all test xs) (list_all test ys) (sym (list_all-append test xs ys) ∙ e)

terms_together : (test : Term → Bool) (xs ys : List Term) → list_all test xs ≡ true → list_all test ys ≡ true → list_all test (xs ++ ys) ≡ true
terms_together test xs ys a b = list_all-append test xs ys ∙ both_true (list_all test xs) (list_all test ys) a b

pub slots_together : (test : ℕ → Bool) (xs ys : List ℕ) → list_all test xs ≡ true → list_all test ys ≡ true → list_all test (xs ++ ys) ≡ true
slots_together test xs ys a b = list_all-append test xs ys ∙ both_true (list_all test xs) (list_all test ys) a b

abbrev pub typed_access : ProgParts → Access → Typed
typed_access p = fold-Access Typed Typed (typed_step p) (access_step p)

-- ---- from the events to the scalars and the elements

module _ (s : Setting) (known : ℕ → Option ℤ) (p : ProgParts) (Q : Event → Type 0) (G : ℕ → Bool) (P : Spot → Type 0) (test : Term → Bool)
    (no_image : (a : Access-F Ty Ty) → test (Element a) ≡ true → is_none a.image ≡ true)
    (calls : ℕ → Bool) (of_scalar : (slot : ℕ) (at : Place) → EachEvent Q (reads_scalar s slot at) → G slot ≡ true)
    (of_call : (function : ℕ) (at : Place) → EachEvent Q (wrong_where (s.inside && s.loops function) 9 at) → calls function ≡ true)
    (of_element : (a : Access) → list_all test (terms_of_access p a) ≡ true → EachEvent Q (element_read s a.array a.subscripts a.at) → P (seen_access known a).spot) where
  abbrev pub Named : (slots : List ℕ) → (spots : List Spot) → (terms : List Term) → Type 0
  Named slots spots terms = (list_all G slots ≡ true) × AllByRecursion P spots × (list_all (calls_pass calls) terms ≡ true)

  named_none : Named [] [] []
  named_none = (refl, tt, refl)

  named_both : (a b : List ℕ) (c d : List Spot) (k l : List Term) → Named a c k → Named b d l → Named (a ++ b) (c ++ d) (k ++ l)
  named_both a b c d k l x y = (slots_together G a b x.0 y.0, all_together P c d x.1 y.1, terms_together (calls_pass calls) k l x.2 y.2)

  abbrev ExprBy : Reading → Seen → Typed → Type 0
  ExprBy r v t = list_all test t.terms ≡ true → EachEvent Q (r.reads s) → Named v.slots v.spots t.terms

  abbrev AccessBy : flow.Element → SeenElement → Typed → Type 0
  AccessBy r v t = list_all test t.terms ≡ true → EachOf Q (r.parts s) → Named v.slots v.spots t.terms

  abbrev ExprSeen : Expr → Type 0
  ExprSeen e = ExprBy (reading e) (seen known e) (typed p e)

  abbrev AccessSeen : Access → Type 0
  AccessSeen a = AccessBy (element a) (seen_access known a) (typed_access p a)

  module _ {C D : Type 0} (f : C → Expr) (g : D → Access) (j : (x : C) → ExprSeen (f x)) (l : (x : D) → AccessSeen (g x)) where
    abbrev all_seen : List C → List Seen
    all_seen cs = map (seen known) (map f cs)

    abbrev all_typed : List C → List Typed
    all_typed cs = map (typed p) (map f cs)

    items : (cs : List C) → list_all test (flat_map (λ e. e.terms) (all_typed cs)) ≡ true → EachOf Q (map (λ e. e.reads s) (map reading (map f cs)))
        → Named (flat_map (λ e. e.slots) (all_seen cs)) (flat_map (λ e. e.spots) (all_seen cs)) (flat_map (λ e. e.terms) (all_typed cs))
    items [] a m = named_none
    items (x ∷ cs) a m =
        named_both (seen known (f x)).slots (flat_map (λ e. e.slots) (all_seen cs)) (seen known (f x)).spots (flat_map (λ e. e.spots) (all_seen cs)) (typed p (f x)).terms (flat_map (λ e. e.terms) (all_typed cs))
        (j x (terms_first test (typed p (f x)).terms (flat_map (λ e. e.terms) (all_typed cs)) a) m.0)
        (items cs (terms_last test (typed p (f x)).terms (flat_map (λ e. e.terms) (all_typed cs)) a) m.1)

    abbrev of_reading : Expr-F C D → Reading
    of_reading y = reading_step (map-Expr Expr Access Reading flow.Element reading element (map-Expr C D Expr Access f g y))

    abbrev of_seen : Expr-F C D → Seen
    of_seen y = seen_step known (map-Expr Expr Access Seen SeenElement (seen known) (seen_access known) (map-Expr C D Expr Access f g y))

    abbrev of_typed : Expr-F C D → Typed
    of_typed y = typed_step p (map-Expr Expr Access Typed Typed (typed p) (typed_access p) (map-Expr C D Expr Access f g y))

    two : (e h : C) (q : Plan Event) → list_all test ((typed p (f e)).terms ++ (typed p (f h)).terms) ≡ true → EachEvent Q (reads_of (f e) s) → EachEvent Q (reads_of (f h) s)
        → Named ((seen known (f e)).slots ++ (seen known (f h)).slots) ((seen known (f e)).spots ++ (seen known (f h)).spots) ((typed p (f e)).terms ++ (typed p (f h)).terms)
    two e h q a m n =
        named_both (seen known (f e)).slots (seen known (f h)).slots (seen known (f e)).spots (seen known (f h)).spots (typed p (f e)).terms (typed p (f h)).terms
        (j e (terms_first test (typed p (f e)).terms (typed p (f h)).terms a) m) (j h (terms_last test (typed p (f e)).terms (typed p (f h)).terms a) n)

    expr_step : (y : Expr-F C D) → ExprBy (of_reading y) (of_seen y) (of_typed y)
    expr_step (Expr-F.Const v ty) a m = (refl, tt, refl)
    expr_step (Expr-F.Scalar slot at) a m = (both_true (G slot) true (of_scalar slot at m) refl, tt, refl)
    expr_step (Expr-F.Cell e) a m =
        let terms : list_all test (typed_access p (g e)).terms ≡ true = and_right _ (list_all test (typed_access p (g e)).terms) a in
        let parts : _ = all_apart (EachEvent Q) ((element (g e)).parts s) _ (each_ordered Q _ m) in
        let rest : Named (seen_access known (g e)).slots (seen_access known (g e)).spots (typed_access p (g e)).terms = l e terms parts.0 in (
          rest.0,
          (of_element (g e) terms (subst (λ z. EachEvent Q (element_read s z.array z.subscripts z.at)) (access-told (g e)) parts.1.0), rest.1),
          rest.2,
        )
    expr_step (Expr-F.Binary op ty e h at) a m =
        let terms : list_all test ((typed p (f e)).terms ++ (typed p (f h)).terms) ≡ true = and_right _ (list_all test ((typed p (f e)).terms ++ (typed p (f h)).terms)) a in
        let parts : _ = each_ordered Q (reads_of (f e) s ∷ reads_of (f h) s ∷ []) m in
        let both : _ = two e h skip terms parts.0 parts.1.0 in
        (both.0, both.1, both.2)
    expr_step (Expr-F.Both e h) a m =
        let terms : list_all test ((typed p (f e)).terms ++ (typed p (f h)).terms) ≡ true = and_right _ (list_all test ((typed p (f e)).terms ++ (typed p (f h)).terms)) a in
        let parts : _ = each_ordered Q (reads_of (f e) s ∷ branch (reads_of (f h) s) skip ∷ []) m in
        let both : _ = two e h skip terms parts.0 (λ x t. parts.1.0 x (inl t)) in
        (both.0, both.1, both.2)
    expr_step (Expr-F.Either e h) a m =
        let terms : list_all test ((typed p (f e)).terms ++ (typed p (f h)).terms) ≡ true = and_right _ (list_all test ((typed p (f e)).terms ++ (typed p (f h)).terms)) a in
        let parts : _ = each_ordered Q (reads_of (f e) s ∷ branch (reads_of (f h) s) skip ∷ []) m in
        let both : _ = two e h skip terms parts.0 (λ x t. parts.1.0 x (inl t)) in
        (both.0, both.1, both.2)
    expr_step (Expr-F.Choose e h d) a m =
        let all : List Term = (typed p (f e)).terms ++ ((typed p (f h)).terms ++ (typed p (f d)).terms) in
        let terms : list_all test all ≡ true = and_right _ (list_all test all) a in
        let parts : _ = each_ordered Q (reads_of (f e) s ∷ branch (reads_of (f h) s) (reads_of (f d) s) ∷ []) m in
        let three : _ = named_both (seen known (f e)).slots ((seen known (f h)).slots ++ (seen known (f d)).slots) (seen known (f e)).spots ((seen known (f h)).spots ++ (seen known (f d)).spots)
        (typed p (f e)).terms ((typed p (f h)).terms ++ (typed p (f d)).terms)
        (j e (terms_first test (typed p (f e)).terms ((typed p (f h)).terms ++ (typed p (f d)).terms) terms) parts.0)
        (two h d skip (terms_last test (typed p (f e)).terms ((typed p (f h)).terms ++ (typed p (f d)).terms) terms) (λ x t. parts.1.0 x (inl t)) (λ x t. parts.1.0 x (inr t))) in
        (three.0, three.1, three.2)
    expr_step (Expr-F.Convert ty e) a m =
        let one : _ = j e (and_right _ (list_all test (typed p (f e)).terms) a) m in
        (one.0, one.1, one.2)
    expr_step (Expr-F.Call function arguments at) a m =
        let terms : list_all test (flat_map (λ e. e.terms) (all_typed arguments)) ≡ true = and_right _ (list_all test (flat_map (λ e. e.terms) (all_typed arguments))) a in
        let parts : _ = all_apart (EachEvent Q) (map (λ e. e.reads s) (map reading (map f arguments))) (wrong_where (s.inside && s.loops function) 9 at ∷ []) (each_ordered Q _ m) in
        let all : _ = items arguments terms parts.0 in
        (all.0, all.1, both_true (calls function) (list_all (calls_pass calls) (flat_map (λ e. e.terms) (all_typed arguments))) (of_call function at parts.1.0) all.2)
    expr_step Expr-F.Node a m = (refl, tt, refl)
    expr_step Expr-F.Nodes a m = (refl, tt, refl)

    abbrev of_element_reads : Access-F C D → flow.Element
    of_element_reads y = element_step (map-Access Expr Access Reading flow.Element reading element (map-Access C D Expr Access f g y))

    abbrev of_seen_element : Access-F C D → SeenElement
    of_seen_element y = seen_element (map-Access Expr Access Seen SeenElement (seen known) (seen_access known) (map-Access C D Expr Access f g y))

    abbrev of_typed_access : Access-F C D → Typed
    of_typed_access y = access_step p (map-Access Expr Access Typed Typed (typed p) (typed_access p) (map-Access C D Expr Access f g y))

    access_parts : (array : ℕ) (cs : List C) (image : Option C) (at : Place)
        → AccessBy (of_element_reads (record { array = array; subscripts = cs; image = image; at = at }))
        (of_seen_element (record { array = array; subscripts = cs; image = image; at = at })) (of_typed_access (record { array = array; subscripts = cs; image = image; at = at }))
    access_parts array cs None at a m =
        let terms : _ = and_right (test (Element _)) (list_all test (flat_map (λ e. e.terms) (all_typed cs) ++ [])) a in
        let all : _ = named_both (flat_map (λ e. e.slots) (all_seen cs)) [] (flat_map (λ e. e.spots) (all_seen cs)) [] (flat_map (λ e. e.terms) (all_typed cs)) []
        (items cs (terms_first test (flat_map (λ e. e.terms) (all_typed cs)) [] terms) m) named_none in
        (all.0, all.1, all.2)
    access_parts array cs (Some x) at a m = absurd (true≢false (sym (no_image _ (and_left (test (Element _)) _ a))))

    access_step_seen : (y : Access-F C D) → AccessBy (of_element_reads y) (of_seen_element y) (of_typed_access y)
    access_step_seen y = access_parts y.array y.subscripts y.image y.at

  expr_rolls : {r r' : Reading} {v v' : Seen} {t t' : Typed} → r ≡ r' → v ≡ v' → t ≡ t' → ExprBy r' v' t' → ExprBy r v t
  expr_rolls {r} {r'} {v} {v'} {t} {t'} a b c h = subst (λ z. ExprBy z v t) (sym a) (subst (λ z. ExprBy r' z t) (sym b) (subst (λ z. ExprBy r' v' z) (sym c) h))

  access_rolls : {r r' : flow.Element} {v v' : SeenElement} {t t' : Typed} → r ≡ r' → v ≡ v' → t ≡ t' → AccessBy r' v' t' → AccessBy r v t
  access_rolls {r} {r'} {v} {v'} {t} {t'} a b c h = subst (λ z. AccessBy z v t) (sym a) (subst (λ z. AccessBy r' z t) (sym b) (subst (λ z. AccessBy r' v' z) (sym c) h))

  pub expr_seen : (e : Expr) → ExprSeen e
  expr_seen = ind-Expr ExprSeen AccessSeen
      (λ x y e. subst (λ z. ExprSeen (roll-Expr z)) e (expr_rolls (fold-roll-Expr Reading flow.Element reading_step element_step _) (fold-roll-Expr Seen SeenElement (seen_step known) seen_element _)
      (fold-roll-Expr Typed Typed (typed_step p) (access_step p) _) (expr_step (λ c. c.0) (λ d. d.0) (λ c. c.1) (λ d. d.1) y)))
      (λ x y e. subst (λ z. AccessSeen (roll-Access z)) e (access_rolls (fold-roll-Access Reading flow.Element reading_step element_step _) (fold-roll-Access Seen SeenElement (seen_step known) seen_element _)
      (fold-roll-Access Typed Typed (typed_step p) (access_step p) _) (access_step_seen (λ c. c.0) (λ d. d.0) (λ c. c.1) (λ d. d.1) y)))

  pub access_seen : (a : Access) → AccessSeen a
  access_seen = ind-Access ExprSeen AccessSeen
      (λ x y e. subst (λ z. ExprSeen (roll-Expr z)) e (expr_rolls (fold-roll-Expr Reading flow.Element reading_step element_step _) (fold-roll-Expr Seen SeenElement (seen_step known) seen_element _)
      (fold-roll-Expr Typed Typed (typed_step p) (access_step p) _) (expr_step (λ c. c.0) (λ d. d.0) (λ c. c.1) (λ d. d.1) y)))
      (λ x y e. subst (λ z. AccessSeen (roll-Access z)) e (access_rolls (fold-roll-Access Reading flow.Element reading_step element_step _) (fold-roll-Access Seen SeenElement (seen_step known) seen_element _)
      (fold-roll-Access Typed Typed (typed_step p) (access_step p) _) (access_step_seen (λ c. c.0) (λ d. d.0) (λ c. c.1) (λ d. d.1) y)))

-- ---- what holds of all events of an expression's reads

module _ (s : Setting) (Q : Event → Type 0) (of_scalar : (slot : ℕ) (at : Place) → EachEvent Q (reads_scalar s slot at))
    (of_element : (array : ℕ) (subscripts : List Expr) (at : Place) → EachEvent Q (element_read s array subscripts at))
    (of_call : (test : Bool) (at : Place) → EachEvent Q (wrong_where test 9 at)) where
  abbrev ExprEach : Expr → Type 0
  ExprEach e = EachEvent Q ((reading e).reads s)

  abbrev AccessEach : Access → Type 0
  AccessEach a = EachOf Q ((element a).parts s)

  module _ {C D : Type 0} (f : C → Expr) (g : D → Access) (j : (x : C) → ExprEach (f x)) (l : (x : D) → AccessEach (g x)) where
    each_items : (cs : List C) → EachOf Q (map (λ e. e.reads s) (map reading (map f cs)))
    each_items [] = tt
    each_items (x ∷ cs) = (j x, each_items cs)

    each_step : (y : Expr-F C D) → EachEvent Q ((reading_step (map-Expr Expr Access Reading flow.Element reading element (map-Expr C D Expr Access f g y))).reads s)
    each_step (Expr-F.Const v ty) = each_skip Q
    each_step (Expr-F.Scalar slot at) = of_scalar slot at
    each_step (Expr-F.Cell e) =
        let a : Access = (element (g e)).access in
        ordered_each Q ((element (g e)).parts s ++ element_read s a.array a.subscripts a.at ∷ [])
        (all_together (EachEvent Q) ((element (g e)).parts s) (element_read s a.array a.subscripts a.at ∷ []) (l e) (of_element a.array a.subscripts a.at, tt))
    each_step (Expr-F.Binary op ty e h at) = ordered_each Q (reads_of (f e) s ∷ reads_of (f h) s ∷ []) (j e, (j h, tt))
    each_step (Expr-F.Both e h) =
        ordered_each Q (reads_of (f e) s ∷ branch (reads_of (f h) s) skip ∷ []) (j e, (each_branch Q (reads_of (f h) s) skip (j h) (each_skip Q), tt))
    each_step (Expr-F.Either e h) =
        ordered_each Q (reads_of (f e) s ∷ branch (reads_of (f h) s) skip ∷ []) (j e, (each_branch Q (reads_of (f h) s) skip (j h) (each_skip Q), tt))
    each_step (Expr-F.Choose e h d) =
        ordered_each Q (reads_of (f e) s ∷ branch (reads_of (f h) s) (reads_of (f d) s) ∷ []) (j e, (each_branch Q (reads_of (f h) s) (reads_of (f d) s) (j h) (j d), tt))
    each_step (Expr-F.Convert ty e) = j e
    each_step (Expr-F.Call function arguments at) =
        ordered_each Q (map (λ a. a.reads s) (map reading (map f arguments)) ++ wrong_where (s.inside && s.loops function) 9 at ∷ [])
        (all_together (EachEvent Q) (map (λ a. a.reads s) (map reading (map f arguments))) (wrong_where (s.inside && s.loops function) 9 at ∷ [])
        (each_items arguments) (of_call (s.inside && s.loops function) at, tt))
    each_step Expr-F.Node = each_skip Q
    each_step Expr-F.Nodes = each_skip Q

    each_element : (y : Access-F C D) → EachOf Q ((element_step (map-Access Expr Access Reading flow.Element reading element (map-Access C D Expr Access f g y))).parts s)
    each_element y = each_items y.subscripts

  pub expr_each : (e : Expr) → ExprEach e
  expr_each = ind-Expr ExprEach AccessEach
      (λ x y e. subst (λ z. ExprEach (roll-Expr z)) e (subst (λ r. EachEvent Q (r.reads s)) (sym (fold-roll-Expr Reading flow.Element reading_step element_step _)) (each_step (λ c. c.0) (λ d. d.0) (λ c. c.1) (λ d. d.1) y)))
      (λ x y e. subst (λ z. AccessEach (roll-Access z)) e (subst (λ r. EachOf Q (r.parts s)) (sym (fold-roll-Access Reading flow.Element reading_step element_step _)) (each_element (λ c. c.0) (λ d. d.0) (λ c. c.1) (λ d. d.1) y)))

  pub access_each : (a : Access) → AccessEach a
  access_each = ind-Access ExprEach AccessEach
      (λ x y e. subst (λ z. ExprEach (roll-Expr z)) e (subst (λ r. EachEvent Q (r.reads s)) (sym (fold-roll-Expr Reading flow.Element reading_step element_step _)) (each_step (λ c. c.0) (λ d. d.0) (λ c. c.1) (λ d. d.1) y)))
      (λ x y e. subst (λ z. AccessEach (roll-Access z)) e (subst (λ r. EachOf Q (r.parts s)) (sym (fold-roll-Access Reading flow.Element reading_step element_step _)) (each_element (λ c. c.0) (λ d. d.0) (λ c. c.1) (λ d. d.1) y)))
