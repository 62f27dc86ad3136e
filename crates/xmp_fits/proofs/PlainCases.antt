-- Statements and directives with no statement inside pass the tests of terms.
use Rattle.std.proofs.Common.{◌≡◌, ◌∙◌, sym, refl, ◌∷◌, [], ◌-◌, Bool, true, false, List, length}
use Rattle.std.specs.List.{list_all, AllByRecursion}
use Rattle.xmp_base.specs.declared.place.Place.{Place}
use Rattle.xmp_map.specs.declared.grid.NodeSet.{NodeSet}
use Rattle.xmp_prog.specs.declared.statements.Name as made_name
use Rattle.xmp_prog.specs.declared.statements.Plain as made_plain
use Rattle.xmp_prog.specs.declared.statements.Plain.TheVariants as p
use Rattle.xmp_prog.specs.declared.statements.Stmt.TheVariants as s
use Rattle.xmp_prog.specs.declared.parts.ProgParts.{ProgParts}
use Rattle.xmp_prog.specs.Statements.{slots_of_names}
use Rattle.xmp_prog.specs.Fits.{has_coarrays}
use Rattle.xmp_syntax.specs.declared.parts.Name as named
use Rattle.xmp_syntax.specs.declared.parts.CommaList.{CommaList}
use Rattle.xmp_syntax.specs.declared.directive.DirectiveLine.{DirectiveLine}
use Rattle.xmp_syntax.specs.declared.directive.Sections.{Sections}
use Rattle.xmp_syntax.specs.declared.directive.NodesSet.{NodesSet}
use Rattle.xmp_syntax.specs.declared.statement.Plain.{Plain}
use Rattle.xmp_syntax.specs.declared.statement.Plain.TheVariants as plain
use Rattle.xmp_syntax.specs.declared.expression.Expr.{Expr}
use Rattle.xmp_names.specs.declared.world.World.{World}
use Rattle.xmp_names.specs.Expressions.{is_function}
use Rattle.xmp_names.specs.Walk as walk
use Rattle.xmp_names.specs.Walk.{Step, Gave, Run, directive_at}
use Rattle.xmp_names.specs.Lists.{listed}
use Rattle.xmp_walk.specs.Statements as statements
use Rattle.xmp_directives.specs.Directives as directives
use Rattle.xmp_walk.specs.Program.{plain_of}
use Rattle.xmp_fits.proofs.GoodWorlds.{Own, Good}
use Rattle.xmp_fits.proofs.GoodSteps.{onward_stays}
use Rattle.xmp_fits.proofs.KeptRuns.{Goes, goes_trans, going}
use Rattle.xmp_fits.proofs.Respected.{Ends}
use Rattle.xmp_fits.proofs.RespectedDirectives as kept
use Rattle.xmp_fits.proofs.Respected as kept_runs
use Rattle.xmp_fits.proofs.Laters.{unbroken_before}
use Rattle.xmp_fits.proofs.Endings.{opened, later_at, directed, goes_directed}
use Rattle.xmp_fits.proofs.Holding.{Holds, each_holds}
use Rattle.xmp_fits.specs.NumbersLie.{plain_lies, numbers_lie}
use Rattle.xmp_fits.proofs.RunsFit.{simple_fits, return_fits, print_fits, scan_fits, sync_fits}
use Rattle.xmp_fits.proofs.TermsFit.{or_true}
use Rattle.xmp_fits.proofs.TermTests.{is_slot, all_true}
use Rattle.xmp_fits.proofs.StmtsPass.{plain_passes, block_passes}
use Rattle.xmp_fits.proofs.TermCases.{Reached, StmtGood, SlotsGood, slots_stay, made_good}
use Rattle.xmp_fits.proofs.NameSlots.{InNone, none_stays, directive_holds, scalar_name_holds, fact_at}

-- A directive that stands in no function.
no_function : (v : World) → InNone v → is_function v.names.region ≡ true → false ≡ true
no_function v h i = sym h ∙ i

reflect_good : (v : World) (arrays : List made_name.Name) (at : Place) → InNone v → StmtGood v (s.Plain (p.Reflect arrays at))
reflect_good v arrays at h p r = plain_passes p true (is_function v.names.region) (length v.names.functions - 1) (made_plain.TheVariants.Reflect arrays at) (record {
  terms = tt;
  assignment = refl;
  format = tt;
  slots = refl;
  sync = or_true (has_coarrays p.kind);
  stands = no_function v h;
})

barrier_good : (v : World) (at : Place) → InNone v → StmtGood v (s.Plain (p.Barrier at))
barrier_good v at h p r = plain_passes p true (is_function v.names.region) (length v.names.functions - 1) (made_plain.TheVariants.Barrier at) (record {
  terms = tt;
  assignment = refl;
  format = tt;
  slots = refl;
  sync = or_true (has_coarrays p.kind);
  stands = no_function v h;
})

abbrev NameGood : World → made_name.Name → Type 0
NameGood v x = SlotsGood v (x.number ∷ [])

name_stays : (w v : World) (x : made_name.Name) → Goes w v → NameGood w x → NameGood v x
name_stays w v x g h = slots_stay w v (x.number ∷ []) (onward_stays g.onward) h

names_good : (v : World) (xs : List made_name.Name) → AllByRecursion (NameGood v) xs → (p : ProgParts) → Reached p v → list_all (is_slot p) (slots_of_names xs) ≡ true
names_good v xs h p r = all_true (is_slot p) (slots_of_names xs) (each xs h)
  where
    each : (xs : List made_name.Name) → AllByRecursion (NameGood v) xs → AllByRecursion (λ n. is_slot p n ≡ true) (slots_of_names xs)
    each [] h = tt
    each (x ∷ xs) h = ((h.0 p r).0, each xs h.1)

cast_good : (v : World) (xs : List made_name.Name) (nodes : NodeSet) (at : Place) → InNone v → AllByRecursion (NameGood v) xs → StmtGood v (s.Plain (p.Cast xs nodes at))
cast_good v xs nodes at h k p r = plain_passes p true (is_function v.names.region) (length v.names.functions - 1) (made_plain.TheVariants.Cast xs nodes at) (record {
  terms = tt;
  assignment = refl;
  format = tt;
  slots = names_good v xs k p r;
  sync = or_true (has_coarrays p.kind);
  stands = no_function v h;
})

module _ (own : Own) where
  reflect_holds : (line : DirectiveLine) (names : CommaList named.Name) → Holds own (λ w v x. StmtGood v x) (directives.reflect_of line names)
  reflect_holds line names = record {
    at = λ w g.
        opened (walk.each directives.array_name (listed names) (directed line.word w)) _ (λ x v. v.broken ≡ [] → StmtGood v x) (λ arrays v e. λ none.
        let l = later_at (walk.each directives.array_name (listed names)) (directed line.word w) arrays v (kept_runs.each going (kept.array_name going) (listed names)).kept e in
        let n0 = unbroken_before (directed line.word w) v l.onward.later none in
        reflect_good v arrays line.word (none_stays (directed line.word w) v l ((directive_holds own line.word).at w g n0)));
  }

  barrier_holds : (line : DirectiveLine) → Holds own (λ w v x. StmtGood v x) (directives.barrier_of line)
  barrier_holds line = record { at = λ w g none. barrier_good (directed line.word w) line.word ((directive_holds own line.word).at w g none) }

  bcast_holds : (line : DirectiveLine) (names : CommaList named.Name) (from : NodesSet) → Holds own (λ w v x. StmtGood v x) (directives.bcast_of line names from)
  bcast_holds line names from = record {
    at = λ w g.
        let u : World = directed line.word w in
        let g0 : Good own u = (goes_directed line.word w).good own g in
        opened (walk.each directives.scalar_name (listed names) u) _ (λ x v. v.broken ≡ [] → StmtGood v x) (λ variables v1 e1.
        opened (directives.set_of true line.word from v1) _ (λ x v. v.broken ≡ [] → StmtGood v x) (λ nodes v2 e2. λ none.
        let l1 = later_at (walk.each directives.scalar_name (listed names)) u variables v1 (kept_runs.each going (kept.scalar_name going) (listed names)).kept e1 in
        let l2 = later_at (directives.set_of true line.word from) v1 nodes v2 (kept.set_of going true line.word from).kept e2 in
        let n1 = unbroken_before v1 v2 l2.onward.later none in
        let n0 = unbroken_before u v1 l1.onward.later n1 in
        let f = fact_at own (λ w v all. AllByRecursion (NameGood v) all) (walk.each directives.scalar_name (listed names)) u v1 variables (each_holds own NameGood name_stays (kept.scalar_name going) (scalar_name_holds own) (listed names)) g0 e1 n1 in
        cast_good v2 variables nodes line.word (none_stays u v2 (goes_trans l1 l2) ((directive_holds own line.word).at w g n0)) (later_names v1 v2 l2 variables f)));
  }
    where
      later_names : (w v : World) → Goes w v → (xs : List made_name.Name) → AllByRecursion (NameGood w) xs → AllByRecursion (NameGood v) xs
      later_names w v g [] h = tt
      later_names w v g (x ∷ xs) h = (name_stays w v x g h.0, later_names w v g xs h.1)

  pub return_good : (is_last : Bool) (at : Place) (x : Expr) → numbers_lie x ≡ true → Holds own (λ w v x. StmtGood v x) (statements.return_of is_last at x)
  return_good is_last at x n = record { at = λ w g. made_good own w (statements.return_of is_last at x w) g ((kept.return_kept going is_last at x).at w) (λ p t. return_fits p w t is_last at x n) }

  module _ (gmove_holds : (line : DirectiveLine) (target source : Sections) → plain_lies (plain.Gmove line target line.word source line.word) ≡ true → Holds own (λ w v x. StmtGood v x) (directives.gmove_of line target source)) where
    pub plain_good : (x : Plain) → plain_lies x ≡ true → Holds own (λ w v x. StmtGood v x) (plain_of x)
    plain_good (plain.Empty at) n = record { at = λ w g e p r. block_passes p true (is_function w.names.region) (length w.names.functions - 1) [] tt }
    plain_good (plain.Simple x at) n = record { at = λ w g. made_good own w (statements.simple_of x w) g ((kept.simple_kept going x).at w) (λ p t. simple_fits p w t x n) }
    plain_good (plain.Return at x end) n = return_good false at x n
    plain_good (plain.Print at x end) n = record { at = λ w g. made_good own w (statements.print_of at x.item.0 x.item.1 w) g ((kept.print_of going at x.item.0 x.item.1).kept.at w) (λ p t. print_fits p w t at x.item.0 x.item.1 n) }
    plain_good (plain.Scan at x end) n = record { at = λ w g. made_good own w (statements.scan_of at x.item.0 x.item.3 w) g ((kept.scan_of going at x.item.0 x.item.3).kept.at w) (λ p t. scan_fits p w t at x.item.0 x.item.3 n) }
    plain_good (plain.Sync at x end) n = record { at = λ w g. made_good own w (statements.sync_of at x.item.1 w) g ((kept.sync_of going at x.item.1).kept.at w) (λ p t. sync_fits p w t at x.item.1 n) }
    plain_good (plain.Reflect line names) n = reflect_holds line names.item
    plain_good (plain.Barrier line) n = barrier_holds line
    plain_good (plain.Bcast line names from_at set) n = bcast_holds line names.item set
    plain_good (plain.Gmove line target equals source end) n = gmove_holds line target source n
