-- The directives and the counted loops of a whole program fit, and so do its mappings.
use Rattle.std.proofs.Common.{◌≡◌, sym, refl, subst, ⊎_elim, ◌++◌, ◌∷◌, [], ℕ, suc, true, List, Option, Some, IsTrue}
use Rattle.std.specs.Prelude.{⊤, slice_get, not, ◌||◌}
use Rattle.std.specs.List.{AllByRecursion, flat_map, list_all, list_any}
use Rattle.xmp_base.specs.declared.place.Place.{Place}
use Rattle.xmp_prog.specs.declared.parts.Array as made_array
use Rattle.xmp_prog.specs.declared.parts.Function as made_function
use Rattle.xmp_prog.specs.declared.parts.Start.{Start}
use Rattle.xmp_prog.specs.declared.parts.ProgParts.{ProgParts}
use Rattle.xmp_prog.specs.declared.statements.Stmt as made
use Rattle.xmp_prog.specs.declared.statements.Stmt.TheVariants as s
use Rattle.xmp_prog.specs.Fits.{DirectivesFit, MappingsFit, all_statements, has_coarrays, statements_of_program}
use Rattle.xmp_prog.specs.Statements.{statements_of}
use Rattle.xmp_prog.specs.Tests.{counted_fits, is_image, is_spread}
use Rattle.xmp_syntax.specs.declared.expression.Expr.{Expr}
use Rattle.xmp_syntax.specs.declared.program.Tree.{Tree}
use Rattle.xmp_names.specs.declared.world.World.{World}
use Rattle.xmp_mapping_rules.specs.MappingRules.{mapping_rules}
use Rattle.xmp_parts.specs.Narrow.{is_count}
use Rattle.xmp_parts.specs.Parts.{Made}
use Rattle.xmp_walk.specs.Program.{program_of}
use Rattle.xmp_walk.specs.Statements.{return_of}
use Rattle.xmp_names.specs.Walk as walk
use Rattle.xmp_names.specs.Walk.{Step, Gave}
use Rattle.xmp_fits.proofs.CoarraysFound.{coarray_known}
use Rattle.xmp_fits.proofs.DirectiveCases.{return_made}
use Rattle.xmp_fits.proofs.DirectivesHold.{directive_cases, directive_tests, each_made}
use Rattle.xmp_fits.proofs.DirectivesPass.{DirectiveFits, StmtFits, StmtMade, block_fits, counted_loops_fit, directives_fit, passes_both}
use Rattle.xmp_fits.proofs.Endings.{Ending, earlier, ends_at}
use Rattle.xmp_fits.proofs.FitPrinciple.{Facts, Forms}
use Rattle.xmp_fits.proofs.GoodWorlds.{Good, Own}
use Rattle.xmp_fits.proofs.Holding.{Unbroken}
use Rattle.xmp_fits.proofs.KeptRuns.{Goes, going}
use Rattle.xmp_fits.proofs.RespectedDirectives.{return_kept}
use Rattle.xmp_fits.proofs.KindsPass.{coarrays_fit, spread_fits}
use Rattle.xmp_fits.proofs.Laters.{Later, later_refl}
use Rattle.xmp_fits.proofs.MapsPass.{mappings_fit}
use Rattle.xmp_fits.specs.NumbersLie.{tree_lies, numbers_lie}
use Rattle.xmp_fits.proofs.OneWorld.{facts_of, forms_of}
use Rattle.xmp_fits.proofs.ProgramFits.{Ended, program_fits}
use Rattle.xmp_fits.proofs.ProgramWalk.{FunctionOf, MainOf, Starts}
use Rattle.xmp_fits.proofs.SetsEnd.{all_more}

abbrev facts : Own → Facts
facts own = facts_of directive_tests

forms : (own : Own) → Forms own (facts own)
forms own = forms_of own directive_tests (directive_cases own)

-- The statements of main.
abbrev Statements : Own → World → World → List made.Stmt → Type 0
Statements own w v all = AllByRecursion (λ x. StmtMade x v) all

later_made : (v u : World) → Later v u → (xs : List made.Stmt) → AllByRecursion (λ x. StmtMade x v) xs → AllByRecursion (λ x. StmtMade x u) xs
later_made v u l [] h = tt
later_made v u l (x ∷ xs) h = (λ p e. h.0 p (earlier v u p l e), later_made v u l xs h.1)

last_made : (own : Own) (at : Place) (x : Expr) → numbers_lie x ≡ true → (w v : World) (done : List made.Stmt) → Goes w v → Good own v → AllByRecursion (λ y. StmtMade y v) done →
    Unbroken (λ u one. AllByRecursion (λ y. StmtMade y u) (done ++ one ∷ [])) (return_of true at x v)
last_made own at x n w v done o g h = λ e.
    all_more (λ y. StmtMade y _) done _ (later_made v _ ((return_kept going true at x).at v).onward.later done h) (return_made true at x v)

-- Of an initialiser at file scope nothing is asked.
abbrev Anything : World → Start → Type 0
Anything w x = ⊤

of_anything : {A : Type 0} (t : Step A) → Unbroken (λ v a. ⊤) t
of_anything (Gave a v) = λ e. tt

starts : Starts Anything
starts = record { stays = λ w v x l h. tt; typed = λ own slot x n w g l. of_anything (walk.typed_constant x w) }

-- ---- what is made at the end

each_item : {A : Type 0} (P : A → Type 0) (xs : List A) → ((k : ℕ) (x : A) → slice_get xs k ≡ Some x → P x) → AllByRecursion P xs
each_item P [] h = tt
each_item P (x ∷ xs) h = (h 0 x refl, each_item P xs (λ k y e. h (suc k) y e))

all_bodies : (p : ProgParts) (fs : List made_function.Function) → AllByRecursion (λ f. StmtFits p f.body) fs → AllByRecursion (DirectiveFits p) (flat_map (λ f. statements_of f.body) fs)
all_bodies p [] h = tt
all_bodies p (f ∷ fs) h = passes_both p (statements_of f.body) (flat_map (λ f. statements_of f.body) fs) h.0 (all_bodies p fs h.1)

module _ (whole : made.Stmt) (v : World) (p : ProgParts) (e : Ending v p) (d : Ended facts Statements Anything v whole) where
  body_fits : (statements : List made.Stmt) (end : World) (x : made.Stmt) → x ≡ s.Block statements → Ending end p → AllByRecursion (λ y. StmtMade y end) statements → StmtFits p x
  body_fits statements end x is ends all = subst (StmtFits p) (sym is) (block_fits p statements (each_made p end statements ends all))

  main_fits : StmtFits p whole
  main_fits = ⊎_elim
      (λ (m : MainOf Statements v whole). body_fits m.statements m.body.end whole m.is (earlier m.body.end v p m.body.later e) m.body.fits)
      (λ n. subst (StmtFits p) (sym n) (block_fits p [] tt)) d.main

  function_fits : (k : ℕ) (g : made_function.Function) → slice_get v.functions k ≡ Some g → StmtFits p g.body
  function_fits k g is =
      let x : FunctionOf facts v k g = d.functions k g is in
      body_fits x.statements x.body.end g.body x.is (earlier x.body.end v p x.body.later e) x.body.fits

-- What is known where the walk ends with no rule broken.
pub record Right (whole : made.Stmt) (v : World) (p : ProgParts) : Type 0 where
  pub unbroken : v.broken ≡ []
  pub rules : mapping_rules v ≡ []
  pub count : IsTrue (is_count v.given)
  pub made : Made whole v p

pub all_fit : (t : Tree) (given : Option ℕ) (whole : made.Stmt) (v : World) (p : ProgParts) → tree_lies t ≡ true → program_of t given ≡ Gave whole v → Right whole v p → AllByRecursion (DirectiveFits p) (statements_of_program p)
all_fit t given whole v p n is r =
    let d : Ended facts Statements Anything v whole = ends_at (λ whole v. v.broken ≡ [] → Ended facts Statements Anything v whole) (program_of t given) whole v (program_fits facts forms Statements (λ own w v all h. h) last_made Anything starts t given n) is r.unbroken in
    let e : Ending v p = record { last = v; main = whole; later = later_refl v; unbroken = r.unbroken; rules = r.rules; count = r.count; made = r.made } in
    let functions : AllByRecursion (λ f. StmtFits p f.body) p.functions =
    subst (AllByRecursion (λ f. StmtFits p f.body)) (sym r.made.functions) (each_item (λ f. StmtFits p f.body) v.functions (λ k g q. function_fits whole v p e d k g q)) in
    passes_both p (flat_map (λ f. statements_of f.body) p.functions) (statements_of p.body) (all_bodies p p.functions functions) (subst (StmtFits p) (sym r.made.body) (main_fits whole v p e d))

-- The directives and the counted loops of a tree in which no rule breaks fit.
pub directives_right : (t : Tree) (given : Option ℕ) (whole : made.Stmt) (v : World) (p : ProgParts) → tree_lies t ≡ true → program_of t given ≡ Gave whole v → Right whole v p → DirectivesFit p
directives_right t given whole v p n is r = directives_fit p (all_fit t given whole v p n is r)

pub counted_right : (t : Tree) (given : Option ℕ) (whole : made.Stmt) (v : World) (p : ProgParts) → tree_lies t ≡ true → program_of t given ≡ Gave whole v → Right whole v p → IsTrue (all_statements p (counted_fits p))
counted_right t given whole v p n is r = counted_loops_fit p (all_fit t given whole v p n is r)

-- ---- the mappings and the kind

pub mappings_right : (whole : made.Stmt) (v : World) (p : ProgParts) → Right whole v p → MappingsFit p
mappings_right whole v p r = mappings_fit v whole p r.rules r.count r.made

-- The kind is Coarray exactly where an array is a coarray, and then no array is spread.
pub coarrays_right : (t : Tree) (given : Option ℕ) (whole : made.Stmt) (v : World) (p : ProgParts) → program_of t given ≡ Gave whole v → Right whole v p → has_coarrays p.kind ≡ list_any {X = made_array.Array} (λ a. is_image a.home) p.arrays
coarrays_right t given whole v p is r = coarrays_fit v whole p (coarray_known t given whole v is) r.made

pub spread_right : (whole : made.Stmt) (v : World) (p : ProgParts) → Right whole v p → IsTrue (not (has_coarrays p.kind) || list_all {X = made_array.Array} (λ a. not (is_spread a.home)) p.arrays)
spread_right whole v p r = spread_fits v whole p r.rules r.made
