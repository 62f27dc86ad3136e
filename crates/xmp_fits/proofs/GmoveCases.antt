-- The sides of a gmove pass the tests of terms.
use Rattle.std.proofs.Common.{◌≡◌, ◌∙◌, sym, ap, refl, ◌++◌, ◌∷◌, [], ◌-◌, ◌&&◌, ℕ, zero, suc, Bool, true, List, Option, Some, None, length, drop, arith}
use Rattle.std.specs.Prelude.{pos, ◌==◌, nat_le, slice_get}
use Rattle.std.specs.List.{list_all, flat_map, AllByRecursion}
use Rattle.std.proofs.lemmas.Bool.{le-leb, leb-true}
use Rattle.xmp_base.specs.declared.place.Place.{Place}
use Rattle.xmp_num.specs.declared.types.Ty.TheVariants.{Int}
use Rattle.xmp_dist.specs.Valid.{is_extent}
use Rattle.std.proofs.lemmas.Option.{same_Some, none-some}
use Rattle.xmp_map.specs.Spread.{sizes_fit}
use Rattle.xmp_scopes.specs.Names.{nearest}
use Rattle.xmp_prog.specs.declared.statements.Number.{Number}
use Rattle.xmp_prog.specs.declared.statements.Part.{Part}
use Rattle.xmp_prog.specs.declared.statements.Part.TheVariants as part
use Rattle.xmp_prog.specs.declared.statements.MoveSide.{MoveSide}
use Rattle.xmp_prog.specs.declared.statements.MoveSide.TheVariants as side
use Rattle.xmp_prog.specs.declared.statements.Plain as made_plain
use Rattle.xmp_prog.specs.declared.statements.Plain.TheVariants as p
use Rattle.xmp_prog.specs.declared.statements.Stmt.TheVariants as s
use Rattle.xmp_prog.specs.declared.parts.Array as made_array
use Rattle.xmp_prog.specs.declared.parts.ProgParts.{ProgParts}
use Rattle.xmp_prog.specs.Numbers.{lies_in}
use Rattle.xmp_prog.specs.Terms.{terms_of}
use Rattle.xmp_prog.specs.Statements.{terms_of_part, terms_of_side, slots_of_side}
use Rattle.xmp_prog.specs.Fits.{has_coarrays}
use Rattle.xmp_prog.specs.Directives.{sections_in}
use Rattle.xmp_syntax.specs.declared.parts.Inside.{Inside}
use Rattle.xmp_syntax.specs.declared.expression.Expr.{Expr}
use Rattle.xmp_syntax.specs.declared.directive.DirectiveLine.{DirectiveLine}
use Rattle.xmp_syntax.specs.declared.directive.Section.{Section}
use Rattle.xmp_syntax.specs.declared.directive.Section.TheVariants as section
use Rattle.xmp_syntax.specs.declared.directive.Sections.{Sections}
use Rattle.xmp_names.specs.declared.names.Meaning.{Meaning}
use Rattle.xmp_names.specs.declared.names.Meaning.TheVariants.{Scalar, Array, Nodes, Template, Function}
use Rattle.xmp_names.specs.declared.names.Array as array
use Rattle.xmp_names.specs.declared.rules.Rule.TheVariants.{N3}
use Rattle.xmp_names.specs.declared.rules.Broken.{Broken}
use Rattle.xmp_names.specs.declared.world.World.{World}
use Rattle.xmp_names.specs.Rules.{unless}
use Rattle.xmp_names.specs.Expressions.{is_function}
use Rattle.xmp_names.specs.Walk as walk
use Rattle.xmp_names.specs.Walk.{Step, Gave, Run}
use Rattle.xmp_names.specs.Lists.{inner}
use Rattle.xmp_directives.specs.Directives as directives
use Rattle.xmp_directives.specs.Directives.{unwritten, first_extent, no_side}
use Rattle.xmp_names.specs.Sizes.{extents_in}
use Rattle.xmp_parts.proofs.Unbroken.{left_true, right_true}
use Rattle.xmp_fits.proofs.GoodWorlds.{Own, Good}
use Rattle.xmp_fits.proofs.GoodSteps.{Stays, onward_stays, true_name}
use Rattle.xmp_fits.proofs.KeptRuns.{Goes, goes_refl, goes_trans, going, goes_then}
use Rattle.xmp_fits.proofs.RespectedDirectives as kept
use Rattle.xmp_fits.proofs.RespectedSteps as kept_steps
use Rattle.xmp_fits.proofs.Laters.{unbroken_before}
use Rattle.xmp_fits.proofs.Endings.{opened, later_at, directed, goes_directed}
use Rattle.xmp_fits.proofs.Holding.{Unbroken, Holds, unbroken_then}
use Rattle.xmp_fits.specs.NumbersLie.{numbers_lie, there_lies, second_lies, section_lies, sections_lie}
use Rattle.xmp_fits.proofs.NamesFit.{full}
use Rattle.xmp_fits.proofs.TermsFit.{or_true, all_append}
use Rattle.xmp_fits.proofs.TermTests.{TermPasses, is_slot, all_map, all_true}
use Rattle.xmp_fits.proofs.ClausesHold.{all_flat}
use Rattle.xmp_fits.proofs.StmtsPass.{plain_passes}
use Rattle.xmp_fits.proofs.TermCases.{Reached, Here, back, here_stays, StmtGood, OperandGood, SlotsGood, slots_stay, test_good}
use Rattle.xmp_fits.proofs.NameSlots.{InNone, none_stays, directive_holds, fact_at, made_holds}
use Rattle.xmp_fits.proofs.HeadCases.{slot_good}
use Rattle.xmp_fits.proofs.TermsHold.{const_passes}

-- ---- numbers and parts

abbrev NumberGood : World → Number → Type 0
NumberGood v x = (p : ProgParts) → Reached p v → Here v (λ inside number. AllByRecursion (TermPasses p true inside number) (terms_of p x.value))

abbrev PartGood : World → Part → Type 0
PartGood v x = (p : ProgParts) → Reached p v → Here v (λ inside number. AllByRecursion (TermPasses p true inside number) (terms_of_part p x))

-- An extent is a value of int.
abbrev ExtentGood : World → ℕ → Type 0
ExtentGood v n = (p : ProgParts) → Reached p v → lies_in Int (pos n) ≡ true

number_so : (w v : World) (x : Number) → Stays w v → NumberGood w x → NumberGood v x
number_so w v x s h = λ p r. here_stays w v (λ inside number. AllByRecursion (TermPasses p true inside number) (terms_of p x.value)) s (h p (back p w v s r))

part_so : (w v : World) (x : Part) → Stays w v → PartGood w x → PartGood v x
part_so w v x s h = λ p r. here_stays w v (λ inside number. AllByRecursion (TermPasses p true inside number) (terms_of_part p x)) s (h p (back p w v s r))

unwritten_good : (v : World) (n : ℕ) (at : Place) → ExtentGood v n → NumberGood v (unwritten n at)
unwritten_good v n at h p r = const_passes p (is_function v.names.region) (length v.names.functions - 1) (pos n) Int (h p r)

many_good : (v : World) (a b c : Number) → NumberGood v a → NumberGood v b → NumberGood v c → PartGood v (part.Many a b c)
many_good v a b c f g h p r =
    all_append (TermPasses p true (is_function v.names.region) (length v.names.functions - 1)) (terms_of p a.value) _ (f p r)
    (all_append (TermPasses p true (is_function v.names.region) (length v.names.functions - 1)) (terms_of p b.value) (terms_of p c.value) (g p r) (h p r))

module _ (own : Own) where
  number_holds : (x : Expr) → numbers_lie x ≡ true → Holds own (λ w v x. NumberGood v x) (directives.number_of x)
  number_holds x n = made_holds own OperandGood NumberGood (walk.typed x) (λ t. record { value = t.made; at = walk.first_place x }) (kept_steps.typed going x).kept (test_good own x n) (λ v t h p r. (h p r).terms)

  step_holds : (at : Place) (x : Option (Place × Expr)) → there_lies second_lies x ≡ true → Holds own (λ w v x. NumberGood v x) (directives.step_of at x)
  step_holds at None n = record { at = λ w g e. unwritten_good w 1 at (λ p r. refl) }
  step_holds at (Some x) n = number_holds x.1 n

  with_holds : (at : Place) (base : Number) (many step : Option (Place × Expr)) → there_lies second_lies many ≡ true → there_lies second_lies step ≡ true → (w : World) → Good own w → NumberGood w base → Unbroken PartGood (directives.part_with at base many step w)
  with_holds at base None step n k w g h = λ e p r. h p r
  with_holds at base (Some x) step n k w g h =
      unbroken_then NumberGood PartGood w (directives.number_of x.1 w) (λ many. walk.◌>>=◌ (directives.step_of at step) (λ by. walk.pure (part.Many base many by))) ((kept.number_of going x.1).kept.at w) ((number_holds x.1 n).at w g)
      (λ many. record { at = λ v. goes_then v (directives.step_of at step v) (λ by. walk.pure (part.Many base many by)) ((kept.step_kept going at step).at v) (λ by. record { at = goes_refl }) })
      (λ many v o f. unbroken_then NumberGood PartGood v (directives.step_of at step v) (λ by. walk.pure (part.Many base many by)) ((kept.step_kept going at step).at v) ((step_holds at step k).at v (o.good own g)) (λ by. record { at = goes_refl })
      (λ by u q b e. many_good u base many by (number_so w u base (onward_stays (goes_trans o q).onward) h) (number_so v u many (onward_stays q.onward) f) b))

  part_holds : (extent : ℕ) (at : Place) (x : Section) → section_lies x ≡ true → (w : World) → Good own w → ExtentGood w extent → Unbroken PartGood (directives.part_of extent at x w)
  part_holds extent at (section.All colon) n w g h = λ e. many_good w (unwritten 0 at) (unwritten extent at) (unwritten 1 at) (unwritten_good w 0 at (λ p r. refl)) (unwritten_good w extent at h) (unwritten_good w 1 at (λ p r. refl))
  part_holds extent at (section.Numbers first many step) n w g h =
      let rest = right_true (numbers_lie first) _ n in
      unbroken_then NumberGood PartGood w (directives.number_of first w) (λ base. directives.part_with at base many step) ((kept.number_of going first).kept.at w) ((number_holds first (left_true (numbers_lie first) _ n)).at w g) (λ base. kept.with_kept going at base many step)
      (λ base v o f. with_holds at base many step (left_true (there_lies second_lies many) _ rest) (right_true (there_lies second_lies many) _ rest) v (o.good own g) f)

  abbrev ExtentsGood : World → List ℕ → Type 0
  ExtentsGood v ns = (p : ProgParts) → Reached p v → AllByRecursion (λ n. lies_in Int (pos n) ≡ true) ns

  first_one : (v : World) (ns : List ℕ) → ExtentsGood v ns → ExtentGood v (first_extent ns)
  first_one v [] h p r = refl
  first_one v (n ∷ ns) h p r = (h p r).0

  others : (v : World) (ns : List ℕ) → ExtentsGood v ns → ExtentsGood v (drop 1 ns)
  others v [] h p r = tt
  others v (n ∷ ns) h p r = (h p r).1

  parts_hold : (at : Place) (done : List Part) (extents : List ℕ) (xs : List Section) → list_all section_lies xs ≡ true → (w : World) → Good own w → ExtentsGood w extents → AllByRecursion (PartGood w) done →
      Unbroken (λ v all. AllByRecursion (PartGood v) all) (directives.parts_in at done extents xs w)
  parts_hold at done extents [] n w g h k = λ e. k
  parts_hold at done extents (x ∷ xs) n w g h k =
      unbroken_then PartGood (λ v all. AllByRecursion (PartGood v) all) w (directives.part_of (first_extent extents) at x w) (λ one. directives.parts_in at (done ++ one ∷ []) (drop 1 extents) xs) ((kept.part_kept going (first_extent extents) at x).at w)
      (part_holds (first_extent extents) at x (left_true (section_lies x) (list_all section_lies xs) n) w g (first_one w extents h)) (λ one. kept.parts_kept going at (done ++ one ∷ []) (drop 1 extents) xs)
      (λ one v o f. parts_hold at (done ++ one ∷ []) (drop 1 extents) xs (right_true (section_lies x) (list_all section_lies xs) n) v (o.good own g) (λ p r. others w extents h p (back p w v (onward_stays o.onward) r))
      (all_append (PartGood v) done (one ∷ []) (all_map (PartGood w) (PartGood v) (λ y. part_so w v y (onward_stays o.onward)) done k) (f, tt)))

  -- ---- a side

  pub record SideGood (v : World) (x : MoveSide) : Type 0 where
    pub terms : (p : ProgParts) → Reached p v → Here v (λ inside number. AllByRecursion (TermPasses p true inside number) (terms_of_side p x))
    pub slots : SlotsGood v (slots_of_side x)

  side_so : (w v : World) (x : MoveSide) → Stays w v → SideGood w x → SideGood v x
  side_so w v x s h = record {
    terms = λ p r. here_stays w v (λ inside number. AllByRecursion (TermPasses p true inside number) (terms_of_side p x)) s (h.terms p (back p w v s r));
    slots = slots_stay w v (slots_of_side x) s h.slots;
  }

  small : (n : ℕ) → is_extent n ≡ true → lies_in Int (pos n) ≡ true
  small n h = let k = leb-true n 4194304 (right_true (nat_le 1 n) _ h) in le-leb n 2147483647 (omega arith)

  all_small : (ns : List ℕ) → list_all is_extent ns ≡ true → AllByRecursion (λ n. lies_in Int (pos n) ≡ true) ns
  all_small [] h = tt
  all_small (n ∷ ns) h = (small n (left_true (is_extent n) _ h), all_small ns (right_true (is_extent n) _ h))

  fit_at : (xs : List made_array.Array) (k : ℕ) (x : made_array.Array) → list_all (λ a. sizes_fit a.extents) xs ≡ true → slice_get xs k ≡ Some x → sizes_fit x.extents ≡ true
  fit_at [] k x h e = absurd (none-some x e)
  fit_at (y ∷ ys) zero x h e = ap (λ (a : made_array.Array). sizes_fit a.extents) (sym (same_Some y x e)) ∙ left_true (sizes_fit y.extents) _ h
  fit_at (y ∷ ys) (suc k) x h e = fit_at ys k x (right_true (sizes_fit y.extents) _ h) e

  extents_good : (w : World) (k : ℕ) (o : Option array.Array) → slice_get w.names.arrays k ≡ o → ExtentsGood w (extents_in o)
  extents_good w k None e p r = tt
  extents_good w k (Some a) e p r =
      let b = r.extends.arrays k a e in
      all_small a.extents (ap (list_all is_extent) (sym b.same.extents) ∙ right_true (nat_le 1 (length b.made.extents) && nat_le (length b.made.extents) 3) _ (fit_at p.arrays k b.made r.extents b.is))

  flat_good : (v : World) (xs : List Part) → AllByRecursion (PartGood v) xs → (p : ProgParts) → Reached p v → Here v (λ inside number. AllByRecursion (TermPasses p true inside number) (flat_map (terms_of_part p) xs))
  flat_good v xs h p r = all_flat (TermPasses p true (is_function v.names.region) (length v.names.functions - 1)) (terms_of_part p) xs (all_map (PartGood v) _ (λ x k. k p r) xs h)

  inner_lie : (ds : List (Inside Section)) → list_all (λ d. section_lies d.item) ds ≡ true → list_all section_lies (inner ds) ≡ true
  inner_lie [] n = refl
  inner_lie (d ∷ ds) n = ap (λ b. b && list_all section_lies (inner ds)) (left_true (section_lies d.item) _ n) ∙ inner_lie ds (right_true (section_lies d.item) _ n)

  no_side_here : (X : Type 0) (bs : List Broken) (x : Broken) → bs ++ x ∷ [] ≡ [] → X
  no_side_here X bs x h = absurd (full bs x h)

  side_as_holds : (x : Sections) → sections_lie x ≡ true → (w : World) → Good own w → (o : Option Meaning) → nearest x.name.text w.names.scopes ≡ o → Unbroken SideGood (directives.side_as x o w)
  side_as_holds x n w g (Some (Scalar slot ty)) e = λ none. record { terms = λ p r. tt; slots = slot_good _ slot ty (true_name own w x.name.text (Scalar slot ty) g e) }
  side_as_holds x n w g (Some (Array k)) e =
      let extents : List ℕ = extents_in (slice_get w.names.arrays k) in
      let test : Bool = length x.sections == length extents in
      let v : World = record w { broken = w.broken ++ unless test N3 x.name.at } in
      let o : Goes w v = (kept_steps.judge going test N3 x.name.at).kept.at w in
      unbroken_then (λ u all. AllByRecursion (PartGood u) all) SideGood v (directives.parts_in x.name.at [] extents (inner x.sections) v) (λ parts. walk.pure (side.Array (record { number = k; at = x.name.at }) parts))
      ((kept.parts_kept going x.name.at [] extents (inner x.sections)).at v)
      (parts_hold x.name.at [] extents (inner x.sections) (inner_lie x.sections n) v (o.good own g) (extents_good v k (slice_get w.names.arrays k) refl) tt) (λ parts. record { at = goes_refl })
      (λ parts u q f h. record { terms = flat_good u parts f; slots = λ p r. tt })
  side_as_holds x n w g (Some (Nodes k)) e = λ none. no_side_here _ _ _ none
  side_as_holds x n w g (Some (Template k)) e = λ none. no_side_here _ _ _ none
  side_as_holds x n w g (Some (Function k r)) e = λ none. no_side_here _ _ _ none
  side_as_holds x n w g None e = λ none. no_side_here _ _ _ none

  side_holds : (x : Sections) → sections_lie x ≡ true → Holds own (λ w v x. SideGood v x) (directives.side_of x)
  side_holds x n = record { at = λ w g. side_as_holds x n _ (((kept_steps.meaning_of going x.name).kept.at w).good own g) (nearest x.name.text w.names.scopes) refl }

  -- ---- the line

  gmove_good : (v : World) (a b : MoveSide) (at : Place) → InNone v → SideGood v a → SideGood v b → StmtGood v (s.Plain (p.Gmove a b at))
  gmove_good v a b at h f g p r = plain_passes p true (is_function v.names.region) (length v.names.functions - 1) (made_plain.TheVariants.Gmove a b at) (record {
    terms = all_append (TermPasses p true (is_function v.names.region) (length v.names.functions - 1)) (terms_of_side p a) (terms_of_side p b) (f.terms p r) (g.terms p r);
    assignment = refl;
    format = tt;
    slots = all_true (is_slot p) (slots_of_side a ++ slots_of_side b) (all_append (λ n. is_slot p n ≡ true) (slots_of_side a) (slots_of_side b) (f.slots p r) (g.slots p r));
    sync = or_true (has_coarrays p.kind);
    stands = λ i. sym h ∙ i;
  })

  pub gmove_holds : (line : DirectiveLine) (target source : Sections) → (sections_lie target && sections_lie source) ≡ true → Holds own (λ w v x. StmtGood v x) (directives.gmove_of line target source)
  gmove_holds line target source n = record {
    at = λ w g.
        let u : World = directed line.word w in
        let g0 : Good own u = (goes_directed line.word w).good own g in
        opened (directives.side_of target u) _ (λ x v. v.broken ≡ [] → StmtGood v x) (λ a v1 e1.
        opened (directives.side_of source v1) _ (λ x v. v.broken ≡ [] → StmtGood v x) (λ b v2 e2. λ none.
        let l1 = later_at (directives.side_of target) u a v1 (kept.side_of going target).kept e1 in
        let l2 = later_at (directives.side_of source) v1 b v2 (kept.side_of going source).kept e2 in
        let l3 = (kept_steps.judge going (directives.sections_match (sections_in a) (sections_in b)) N3 target.name.at).kept.at v2 in
        let n2 = unbroken_before v2 _ l3.onward.later none in
        let n1 = unbroken_before v1 v2 l2.onward.later n2 in
        let n0 = unbroken_before u v1 l1.onward.later n1 in
        let f = fact_at own (λ w v x. SideGood v x) (directives.side_of target) u v1 a (side_holds target (left_true (sections_lie target) _ n)) g0 e1 n1 in
        let h = fact_at own (λ w v x. SideGood v x) (directives.side_of source) v1 v2 b (side_holds source (right_true (sections_lie target) _ n)) (l1.good own g0) e2 n2 in
        gmove_good _ a b line.word (none_stays u _ (goes_trans l1 (goes_trans l2 l3)) ((directive_holds own line.word).at w g n0)) (side_so v1 _ a (onward_stays (goes_trans l2 l3).onward) f) (side_so v2 _ b (onward_stays l3.onward) h)));
  }
