-- The steps of `reflect`, `barrier` and `gmove`: where no rule breaks, what they make fits.
use Rattle.std.proofs.Common.{◌≡◌, ◌<◌, ◌∙◌, sym, ap, refl, ◌++◌, ◌∷◌, [], ◌+◌, ℕ, Bool, true, false, List, Option, Some, None, length, arith, eqb-true, eq-eqb, length-append}
use Rattle.std.specs.Prelude.{slice_get, nat_lt, drop, ◌==◌}
use Rattle.std.specs.Option.{unwrap_or}
use Rattle.std.specs.List.{list_all}
use Rattle.std.proofs.lemmas.Bool.{lt-ltb}
use Rattle.std.proofs.lemmas.List.{length-map}
use Rattle.std.proofs.lemmas.List.Folds.{list_all-append}
use Rattle.std.proofs.lemmas.Option.{slice_get_within}
use Rattle.xmp_base.specs.declared.place.Place.{Place}
use Rattle.xmp_prog.specs.declared.parts.ProgParts.{ProgParts}
use Rattle.xmp_prog.specs.declared.statements.Name as made_name
use Rattle.xmp_prog.specs.declared.statements.Part.{Part}
use Rattle.xmp_prog.specs.declared.statements.MoveSide.{MoveSide}
use Rattle.xmp_prog.specs.declared.statements.Plain.TheVariants as plain
use Rattle.xmp_prog.specs.Directives.{parts_fit, sections_agree, sections_in, side_fits}
use Rattle.xmp_prog.specs.Statements.{arrays_of_side, slots_of_names}
use Rattle.xmp_syntax.specs.declared.directive.DirectiveLine.{DirectiveLine}
use Rattle.xmp_syntax.specs.declared.directive.Section.{Section}
use Rattle.xmp_syntax.specs.declared.directive.Sections.{Sections}
use Rattle.xmp_syntax.specs.declared.parts.CommaList.{CommaList}
use Rattle.xmp_syntax.specs.declared.parts.Name as named
use Rattle.xmp_scopes.specs.Names as scope
use Rattle.xmp_names.specs.declared.names.Meaning.{Meaning}
use Rattle.xmp_names.specs.declared.names.Meaning.TheVariants as meaning
use Rattle.xmp_names.specs.declared.rules.Rule.{Rule}
use Rattle.xmp_names.specs.declared.rules.Rule.TheVariants.{N1, N3, N5}
use Rattle.xmp_names.specs.declared.world.World.{World}
use Rattle.xmp_names.specs.Rules.{unless}
use Rattle.xmp_names.specs.Lists.{inner, listed}
use Rattle.xmp_directives.specs.Directives.{array_name, barrier_of, first_extent, gmove_of, part_of, parts_in, reflect_of, sections_match, side_as, side_of}
use Rattle.xmp_names.specs.Sizes.{extents_in}
use Rattle.xmp_names.specs.Expressions.{may_name}
use Rattle.xmp_names.specs.Walk.{an_array, each, each_after, name_of}
use Rattle.xmp_fits.proofs.DirectivesPass.{StmtMade, plain_fits}
use Rattle.xmp_fits.proofs.Endings.{ArrayThere, Ending, Number, array_number, array_there, before_judged, directed, earlier, ends_at, ends_in, found_at, goes_directed, judged_true, later_at, no_broken, opened}
use Rattle.xmp_fits.proofs.GoodSteps.{true_name}
use Rattle.xmp_fits.proofs.GoodWorlds.{Good, Own}
use Rattle.xmp_fits.proofs.KeptRuns.{Goes, going}
use Rattle.xmp_fits.proofs.Respected.{Ends}
use Rattle.xmp_fits.proofs.RespectedSteps as kept_steps
use Rattle.xmp_fits.proofs.Respected as kept
use Rattle.xmp_fits.proofs.RespectedDirectives as kept_directives
use Rattle.xmp_parts.proofs.Unbroken.{both_true, left_true, right_true}

-- ---- arrays by their names

below_arrays : (w : World) (p : ProgParts) (k : ℕ) → Ending w p → k < length w.names.arrays → nat_lt k (length p.arrays) ≡ true
below_arrays w p k e h = let a = array_there w p k e h in lt-ltb k (length p.arrays) (slice_get_within p.arrays k a.made a.is)

abbrev NameMade : made_name.Name → World → Type 0
NameMade x v = (p : ProgParts) → Ending v p → nat_lt x.number (length p.arrays) ≡ true

array_made : (own : Own) (w : World) (n : named.Name) → Good own w → Ends NameMade (array_name n w)
array_made own w n g =
    opened (name_of an_array n w) _ NameMade (λ o v e. λ p end.
    let k : Number (length w.names.arrays) o = array_number own n w o g (found_at an_array n w v o p e end) in
    let later = later_at (name_of an_array n) w o v (kept_steps.name_of going an_array n).kept e in
    ap (λ x. nat_lt (unwrap_or x 0) (length p.arrays)) k.is ∙ below_arrays w p k.number (earlier w v p later.onward.later end) k.below)

abbrev names_below : ProgParts → List made_name.Name → Bool
names_below p xs = list_all (λ a. nat_lt a (length p.arrays)) (slots_of_names xs)

below_more : (p : ProgParts) (xs : List made_name.Name) (x : made_name.Name) → names_below p xs ≡ true → nat_lt x.number (length p.arrays) ≡ true → names_below p (xs ++ x ∷ []) ≡ true
below_more p [] x h k = both_true (nat_lt x.number (length p.arrays)) true k refl
below_more p (y ∷ ys) x h k = both_true (nat_lt y.number (length p.arrays)) _ (left_true (nat_lt y.number (length p.arrays)) _ h) (below_more p ys x (right_true (nat_lt y.number (length p.arrays)) _ h) k)

abbrev NamesMade : List made_name.Name → List made_name.Name → World → Type 0
NamesMade done xs v = (p : ProgParts) → Ending v p → names_below p done ≡ true → names_below p xs ≡ true

arrays_after : (own : Own) (w : World) (done : List made_name.Name) (ns : List named.Name) → Good own w → Ends (NamesMade done) (each_after array_name done ns w)
arrays_after own w done [] g = λ p end h. h
arrays_after own w done (n ∷ ns) g =
    opened (array_name n w) _ (NamesMade done) (λ x v e.
    let there = later_at (array_name n) w x v (kept_directives.array_name going n).kept e in
    let rest = arrays_after own v (done ++ x ∷ []) ns (there.good own g) in
    ends_in (NamesMade done) (each_after array_name (done ++ x ∷ []) ns v) (λ xs v2 e2. λ p end h.
    let last = later_at (each_after array_name (done ++ x ∷ []) ns) v xs v2 (kept.each_after going (kept_directives.array_name going) (done ++ x ∷ []) ns) e2 in
    let one = ends_at NameMade (array_name n w) x v (array_made own w n g) e p (earlier v v2 p last.onward.later end) in
    ends_at (NamesMade (done ++ x ∷ [])) (each_after array_name (done ++ x ∷ []) ns v) xs v2 rest e2 p end (below_more p done x h one)))

pub reflect_made : (own : Own) (w : World) (line : DirectiveLine) (names : CommaList named.Name) → Good own w → Ends StmtMade (reflect_of line names w)
reflect_made own w line names g =
    let u : World = directed line.word w in
    opened (each array_name (listed names) u) _ StmtMade (λ xs v e. λ p end.
    let below = ends_at (NamesMade []) (each_after array_name [] (listed names) u) xs v (arrays_after own u [] (listed names) ((goes_directed line.word w).good own g)) e p end refl in
    plain_fits p (plain.Reflect xs line.word) below refl refl refl)

pub barrier_made : (w : World) (line : DirectiveLine) → Ends StmtMade (barrier_of line w)
barrier_made w line = λ p end. plain_fits p (plain.Barrier line.word) refl refl refl refl

-- ---- the sides of a gmove

-- As many parts are made as there are sections.
abbrev CountMade : ℕ → List Part → World → Type 0
CountMade n xs v = length xs ≡ n

parts_count : (at : Place) (done : List Part) (extents : List ℕ) (xs : List Section) (w : World) → Ends (CountMade (length done + length xs)) (parts_in at done extents xs w)
parts_count at done extents [] w = omega arith
parts_count at done extents (x ∷ xs) w =
    opened (part_of (first_extent extents) at x w) _ (CountMade (length done + length (x ∷ xs))) (λ y v e.
    ends_in (CountMade (length done + length (x ∷ xs))) (parts_in at (done ++ y ∷ []) (drop 1 extents) xs v) (λ ys v2 e2.
    let n : length ys ≡ length (done ++ y ∷ []) + length xs = ends_at (CountMade (length (done ++ y ∷ []) + length xs)) (parts_in at (done ++ y ∷ []) (drop 1 extents) xs v) ys v2 (parts_count at (done ++ y ∷ []) (drop 1 extents) xs v) e2 in
    let m = length-append done (y ∷ []) in
    omega arith))

pub record SideFits (p : ProgParts) (x : MoveSide) : Type 0 where
  pub parts : side_fits p x ≡ true
  pub array : list_all (λ a. nat_lt a (length p.arrays)) (arrays_of_side x) ≡ true

abbrev SideMade : MoveSide → World → Type 0
SideMade x v = (p : ProgParts) → Ending v p → SideFits p x

-- The world behind a name.
abbrev behind_name : named.Name → World → World
behind_name n w = record w { broken = w.broken ++ unless (may_name w.names n (scope.nearest n.text w.names.scopes)) N5 n.at }

wrong : {B : Type 0} (w : World) (p : ProgParts) (rule : Rule) (at : Place) → Ending (record w { broken = w.broken ++ unless false rule at }) p → B
wrong w p rule at end = absurd (cc (judged_true w.broken false rule at (no_broken _ p end)))

module _ (own : Own) (w : World) (x : Sections) (g : Good own w) where
  abbrev u : World
  u = behind_name x.name w

  u_goes : Goes w u
  u_goes = (kept_steps.meaning_of going x.name).kept.at w

  -- The side that is an array.
  of_array : (k : ℕ) → k < length w.names.arrays → Ends SideMade (side_as x (Some (meaning.Array k)) u)
  of_array k h =
      let extents : List ℕ = extents_in (slice_get w.names.arrays k) in
      let test : Bool = length x.sections == length extents in
      let v : World = record u { broken = u.broken ++ unless test N3 x.name.at } in
      opened (parts_in x.name.at [] extents (inner x.sections) v) _ SideMade (λ parts v2 e. λ p end.
      let last = later_at (parts_in x.name.at [] extents (inner x.sections)) v parts v2 (kept_directives.parts_kept going x.name.at [] extents (inner x.sections)) e in
      let end1 : Ending v p = earlier v v2 p last.onward.later end in
      let same : length x.sections ≡ length extents = eqb-true (length x.sections) (length extents) (judged_true u.broken test N3 x.name.at (no_broken v p end1)) in
      let start : Ending w p = earlier w u p u_goes.onward.later (before_judged u (unless test N3 x.name.at) p end1) in
      let a : ArrayThere w p k = array_there w p k start h in
      let many : length parts ≡ length {A = Part} [] + length (inner x.sections) = ends_at (CountMade (length {A = Part} [] + length (inner x.sections))) (parts_in x.name.at [] extents (inner x.sections) v) parts v2 (parts_count x.name.at [] extents (inner x.sections) v) e in
      let sections : length (inner x.sections) ≡ length x.sections = length-map x.sections (λ y. y.item) in
      let known : length a.made.extents ≡ length extents = ap (λ es. length es) a.extents ∙ ap (λ o. length (extents_in o)) (sym a.at) in
      let n : length parts ≡ length a.made.extents = omega arith in
      record {
        parts = ap (λ o. parts_fit o parts) a.is ∙ eq-eqb (length parts) (length a.made.extents) n;
        array = both_true (nat_lt k (length p.arrays)) true (below_arrays w p k start h) refl;
      })

  of_meaning : (o : Option Meaning) → scope.nearest x.name.text w.names.scopes ≡ o → Ends SideMade (side_as x o u)
  of_meaning None e = λ p end. wrong u p N1 x.name.at end
  of_meaning (Some (meaning.Scalar slot ty)) e = λ p end. record { parts = refl; array = refl }
  of_meaning (Some (meaning.Array k)) e = of_array k (true_name own w x.name.text (meaning.Array k) g e)
  of_meaning (Some (meaning.Nodes k)) e = λ p end. wrong u p N3 x.name.at end
  of_meaning (Some (meaning.Template k)) e = λ p end. wrong u p N3 x.name.at end
  of_meaning (Some (meaning.Function k r)) e = λ p end. wrong u p N3 x.name.at end

side_made : (own : Own) (w : World) (x : Sections) → Good own w → Ends SideMade (side_of x w)
side_made own w x g = of_meaning own w x g (scope.nearest x.name.text w.names.scopes) refl

pub gmove_made : (own : Own) (w : World) (line : DirectiveLine) (target source : Sections) → Good own w → Ends StmtMade (gmove_of line target source w)
gmove_made own w line target source g =
    let u : World = directed line.word w in
    let g0 : Good own u = (goes_directed line.word w).good own g in
    opened (side_of target u) _ StmtMade (λ a v e.
    opened (side_of source v) _ StmtMade (λ b v2 e2. λ p end.
    let test : Bool = sections_match (sections_in a) (sections_in b) in
    let first = later_at (side_of target) u a v (kept_directives.side_of going target).kept e in
    let second = later_at (side_of source) v b v2 (kept_directives.side_of going source).kept e2 in
    let end2 : Ending v2 p = before_judged v2 (unless test N3 target.name.at) p end in
    let fa : SideFits p a = ends_at SideMade (side_of target u) a v (side_made own u target g0) e p (earlier v v2 p second.onward.later end2) in
    let fb : SideFits p b = ends_at SideMade (side_of source v) b v2 (side_made own v source (first.good own g0)) e2 p end2 in
    let agree : sections_agree a b ≡ true = judged_true v2.broken test N3 target.name.at (no_broken _ p end) in
    plain_fits p (plain.Gmove a b line.word)
    (list_all-append (λ n. nat_lt n (length p.arrays)) (arrays_of_side a) (arrays_of_side b) ∙ both_true _ _ fa.array fb.array)
    (both_true (side_fits p a) (side_fits p b) fa.parts fb.parts) agree refl))
