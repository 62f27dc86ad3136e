-- The scalars of a whole program: those of each function, of main and of the file's scope.
use Rattle.std.proofs.Common.{◌≡◌, ◌∙◌, sym, ap, refl, subst, ◌⊎◌, inl, inr, ◌++◌, ◌∷◌, [], ℕ, ◌+◌, ◌≤◌, true, List, Option, Some, None, length, length-append, map, arith}
use Rattle.std.specs.Prelude.{⊤, is_some, drop}
use Rattle.std.specs.List.{AllByRecursion}
use Rattle.xmp_base.specs.declared.place.Place.{Place}
use Rattle.xmp_num.specs.declared.types.Ty.{Ty}
use Rattle.xmp_scopes.specs.Names as scope
use Rattle.xmp_prog.specs.declared.statements.Stmt as made
use Rattle.xmp_prog.specs.declared.statements.Stmt.TheVariants as s
use Rattle.xmp_prog.specs.declared.parts.Function as made_function
use Rattle.xmp_prog.specs.declared.parts.ProgParts.{ProgParts}
use Rattle.xmp_prog.specs.declared.parts.Start.{Start}
use Rattle.xmp_prog.specs.Numbers.{is_in}
use Rattle.xmp_syntax.specs.declared.parts.Name as named
use Rattle.xmp_syntax.specs.declared.parts.TypeWords.{TypeWords}
use Rattle.xmp_syntax.specs.declared.declaration.Declarator.{Declarator}
use Rattle.xmp_syntax.specs.declared.declaration.Declarator.TheVariants as declarator
use Rattle.xmp_syntax.specs.declared.expression.Expr.{Expr}
use Rattle.xmp_syntax.specs.declared.program.Function.{Function}
use Rattle.xmp_syntax.specs.declared.program.TopItem.{TopItem}
use Rattle.xmp_syntax.specs.declared.program.TopItem.TheVariants as top
use Rattle.xmp_names.specs.declared.names.Region.TheVariants as region
use Rattle.xmp_names.specs.declared.names.Region.{Region}
use Rattle.xmp_names.specs.declared.names.Meaning.{Meaning}
use Rattle.xmp_names.specs.declared.names.Meaning.TheVariants as meaning
use Rattle.xmp_names.specs.declared.typed.Operand.{Operand}
use Rattle.xmp_names.specs.declared.world.World.{World}
use Rattle.xmp_names.specs.Walk as walk
use Rattle.xmp_names.specs.Walk.{Step, Gave, Run, and_then, each}
use Rattle.xmp_names.specs.Lists.{listed, inner}
use Rattle.xmp_walk.specs.Declarations.{type_of, start_of, file_declarator}
use Rattle.xmp_walk.specs.Program.{items_of, inside_item, parameters_in, parameter_of, function_of, top_of}
use Rattle.xmp_parts.proofs.Unbroken.{left_none}
use Rattle.xmp_fits.proofs.Laters.{Scopes, unbroken_before}
use Rattle.xmp_fits.proofs.GoodWorlds.{Own, Good}
use Rattle.xmp_fits.proofs.KeptRuns.{Goes, goes_trans, GoesOn, going, going_scalars, going_arrays}
use Rattle.xmp_fits.proofs.Respected.{Ends, ends_then, ends_map, ends_both}
use Rattle.xmp_fits.proofs.RespectedLines.{array_kept}
use Rattle.xmp_fits.proofs.RespectedMappings.{mapping_kept}
use Rattle.xmp_fits.proofs.RespectedSteps.{declare_scalar, typed_constant}
use Rattle.xmp_fits.proofs.SameRuns.{may_see, seen_declared, Same, same, same_arrays}
use Rattle.xmp_fits.proofs.RespectedSteps as same_steps
use Rattle.xmp_fits.proofs.Respected as kept_runs
use Rattle.xmp_fits.proofs.KeptStatements.{body_kept}
use Rattle.xmp_fits.proofs.FitPrinciple.{Facts, body_holds}
use Rattle.xmp_fits.proofs.FunctionSteps.{OneScope, FileGood, own_of, headed, later_headed, good_headed, kept_function}
use Rattle.xmp_fits.specs.NumbersLie.{top_lies, items_lie}
use Rattle.xmp_fits.proofs.ProgramWalk.{Starts, Read}
use Rattle.xmp_fits.proofs.TermsFit.{Seen}
use Rattle.xmp_fits.proofs.ScopedFits.{longer, dropped, ItemsFit}
use Rattle.xmp_fits.proofs.ScopedSteps.{facts, forms}
use Rattle.xmp_fits.proofs.FileSites.{in_first, in_right, Parameters, parameters_end, hidden, means_before, seen_file, function_sited, Sited, sited_to, sited_slot, sited_more, FileSites, below_more, sites_same}

module _ (p : ProgParts) where
  -- Nothing is asked of an initialiser.
  abbrev pub Any : World → Start → Type 0
  Any w x = ⊤

  pub any_starts : Starts Any
  any_starts = record { stays = λ w v x l h. tt; typed = λ own slot x n w g l e. tt }

  abbrev pub own_facts : Own → Facts
  own_facts own = facts p

  abbrev pub File : World → Type 0
  File w = Read own_facts Any w

  abbrev pub Sites : World → Type 0
  Sites w = w.broken ≡ [] → FileSites p w

  -- ---- the parameters go on

  pub parameters_go : (ps : List (TypeWords × named.Name)) (w : World) → GoesOn w (each parameter_of ps w)
  parameters_go ps w = (kept_runs.each_after going (λ x. declare_scalar going going_scalars x.1 (type_of x.0)) [] ps).at w

  -- ---- a function

  no_parameter : (x : Function) (w : World) → OneScope w.names.scopes → Parameters [] (length w.scalars) (headed region.Function x w) []
  no_parameter x w o = record {
    rising = omega arith;
    seen = λ slot q. absurd (nothing w.names.scopes o q.name.text slot q.ty q.means q.may);
  }
    where
      nothing : (ss : Scopes) → OneScope ss → (k : scope.Name) (slot : ℕ) (ty : Ty) →
          scope.nearest k ([] ∷ scope.declare x.name.text (meaning.Function (length w.names.functions) (type_of x.ty)) ss) ≡ Some (meaning.Scalar slot ty) →
          may_see region.Function ([] ∷ scope.declare x.name.text (meaning.Function (length w.names.functions) (type_of x.ty)) ss) k ≡ true → ⊥
      nothing ss o k slot ty e h =
          let d : List (scope.Name × Meaning) = (x.name.text, meaning.Function (length w.names.functions) (type_of x.ty)) ∷ o.names in
          hidden k d (meaning.Scalar slot ty)
          (subst (λ l. scope.nearest k ([] ∷ scope.declare x.name.text (meaning.Function (length w.names.functions) (type_of x.ty)) l) ≡ Some (meaning.Scalar slot ty)) o.is e)
          (subst (λ l. may_see region.Function ([] ∷ scope.declare x.name.text (meaning.Function (length w.names.functions) (type_of x.ty)) l) k ≡ true) o.is h)

  -- the file's scope behind a function or main
  closed_seen : (x : Function) (w u : World) (r : Region) → w.names.region ≡ region.File → Goes (headed r x w) u → (k : named.Name) (slot : ℕ) (ty : Ty) → scope.nearest k.text (drop 1 u.names.scopes) ≡ Some (meaning.Scalar slot ty) → Seen w.names slot
  closed_seen x w u r file g k slot ty e =
      let f : Meaning = meaning.Function (length w.names.functions) (type_of x.ty) in
      seen_file w k slot ty file (means_before k.text x.name.text f slot ty w.names.scopes tt
      (ap (scope.nearest k.text) (sym (dropped (scope.declare x.name.text f w.names.scopes) u.names.scopes g.onward.scopes)) ∙ e))

  module _ (x : Function) (w : World) (good : FileGood w) (n : items_lie x.body.item ≡ true) where
    abbrev head : World
    head = headed region.Function x w

    abbrev names : List (TypeWords × named.Name)
    names = parameters_in x.parameters.item

    abbrev made_of : List ℕ → List made.Stmt → made_function.Function
    made_of slots body = record { result = type_of x.ty; parameters = slots; body = s.Block body }

    abbrev last : List ℕ → List made.Stmt → World → World
    last slots body u = kept_function (length w.names.functions) (made_of slots body) u

    head_good : Good (own_of x) head
    head_good = good_headed region.Function x w refl good refl (λ e. absurd (cc))

    function_sites : Sites w → (slots : List ℕ) (body : List made.Stmt) (v u : World) → Goes head v → Goes v u → Parameters [] (length w.scalars) v slots → (u.broken ≡ [] → ItemsFit p v u body) → Sites (last slots body u)
    function_sites sites slots body v u hv vu ps fits e =
        let g : Goes head u = goes_trans hv vu in
        let before : w.broken ≡ [] = unbroken_before w head (later_headed region.Function x w) (unbroken_before head u g.onward.later e) in
        let f : FileSites p w = sites before in
        let a : ℕ = length w.scalars in
        let c : ℕ = length u.scalars in
        let ac : a ≤ c = longer g in record {
          out = f.out;
          below = below_more p a c f.out ac f.below;
          sited = subst (λ gs. Sited p 0 c f.out (gs ++ made_of slots body ∷ [])) (sym g.onward.functions)
              (sited_more p 0 a c f.out w.functions (made_of slots body) f.below ac (function_sited p (type_of x.ty) a v u slots body ps (fits e)) f.sited);
          seen = λ slot q. f.seen slot (closed_seen x w u region.Function good.file g q.name slot q.ty q.means);
          starts = subst (λ xs. AllByRecursion (λ y. is_in f.out y.slot ≡ true) xs) (sym g.onward.start) f.starts;
        }

    function_ends : Sites w → Ends (λ (a : ⊤) v. Sites v) (function_of x w)
    function_ends sites =
        ends_then (λ slots v. Goes head v × Parameters [] (length w.scalars) v slots) (λ (a : ⊤) v. Sites v) (each parameter_of names head)
        (λ slots. walk.◌>>=◌ (items_of [] (map inside_item x.body.item)) (λ body. λ u. Gave tt (last slots body u)))
        (ends_both (λ slots v. Goes head v) (λ slots v. Parameters [] (length w.scalars) v slots) (each parameter_of names head) (parameters_go names head)
        (parameters_end [] (length w.scalars) names [] head (no_parameter x w good.one)))
        (λ slots v a. ends_then (λ body u. Goes v u × (u.broken ≡ [] → ItemsFit p v u body)) (λ (a : ⊤) v. Sites v) (items_of [] (map inside_item x.body.item) v) (λ body. λ u. Gave tt (last slots body u))
        (ends_both (λ body u. Goes v u) (λ body u. u.broken ≡ [] → ItemsFit p v u body) (items_of [] (map inside_item x.body.item) v) ((body_kept [] x.body.item).at v)
        ((body_holds (own_of x) (facts p) (forms p (own_of x)) x.body.item n).at v (a.0.good (own_of x) head_good)))
        (λ body u b. function_sites sites slots body v u a.0 b.0 a.1 b.1))

  -- ---- declarations at file scope

  same_sites : {A : Type 0} (run : Run A) (w : World) → GoesOn w (run w) → Ends (λ a v. Same w v) (run w) → Sites w → Ends (λ (a : A) v. Sites v) (run w)
  same_sites {A} run w g e h = ends_map (λ (a : A) v. Goes w v × Same w v) (λ (a : A) v. Sites v) (run w) (ends_both (λ (a : A) v. Goes w v) (λ (a : A) v. Same w v) (run w) g e)
      (λ a v k n. sites_same p w v k.0 k.1 (h (unbroken_before w v k.0.onward.later n)))

  abbrev with_start : World → Start → World
  with_start w x = record w { start = w.start ++ x ∷ [] }

  more_starts : (out : List ℕ) (xs : List Start) (x : Start) → AllByRecursion (λ y. is_in out y.slot ≡ true) xs → is_in out x.slot ≡ true → AllByRecursion (λ y. is_in out y.slot ≡ true) (xs ++ x ∷ [])
  more_starts out [] x h k = (k, tt)
  more_starts out (y ∷ xs) x h k = (h.0, more_starts out xs x h.1 k)

  -- a scalar of the file's scope, and its initialiser
  start_sites : (slot : ℕ) (o : Option (Place × Expr)) (w : World) → (w.broken ≡ [] → (f : FileSites p w) × (is_in f.out slot ≡ true)) → Ends (λ (a : ⊤) v. Sites v) (start_of slot o w)
  start_sites slot None w h = λ e. (h e).0
  start_sites slot (Some x) w h =
      ends_then (λ (t : Operand) v. Goes w v × Same w v) (λ (a : ⊤) v. Sites v) (walk.typed_constant x.1 w) (λ t. λ v. Gave tt (with_start v (record { slot = slot; value = t.made })))
      (ends_both (λ (t : Operand) v. Goes w v) (λ (t : Operand) v. Same w v) (walk.typed_constant x.1 w) ((typed_constant going x.1).kept.at w) ((same_steps.typed_constant same x.1).kept.at w))
      (λ t v k e.
      let both = h (unbroken_before w v k.0.onward.later e) in
      let f : FileSites p v = sites_same p w v k.0 k.1 both.0 in record {
        out = both.0.out;
        below = f.below;
        sited = f.sited;
        seen = f.seen;
        starts = more_starts both.0.out v.start (record { slot = slot; value = t.made }) f.starts both.1;
      })

  abbrev slot_in : Meaning → ℕ
  slot_in (meaning.Scalar slot ty) = slot
  slot_in _ = 0

  scalar_sites : (n : named.Name) (ty : Ty) (w v : World) → v.names.region ≡ w.names.region → v.names.scopes ≡ scope.declare n.text (meaning.Scalar (length w.scalars) ty) w.names.scopes → length v.scalars ≡ length w.scalars + 1 →
      v.functions ≡ w.functions → v.start ≡ w.start → FileSites p w → (f : FileSites p v) × (is_in f.out (length w.scalars) ≡ true)
  scalar_sites n ty w v r ss l fs st f =
      let k : ℕ = length w.scalars in
      let kl : k ≤ length v.scalars = omega (arith, l) in (
        record {
          out = k ∷ f.out;
          below = (omega (arith, l), below_more p k (length v.scalars) f.out kl f.below);
          sited = subst (Sited p 0 (length v.scalars) (k ∷ f.out)) (sym fs) (sited_to p 0 k (length v.scalars) (k ∷ f.out) w.functions kl (sited_slot p 0 k k f.out w.functions (omega arith) f.sited));
          seen = λ slot q. new slot (seen_declared w.names v.names n.text (meaning.Scalar k ty) slot r ss q);
          starts = subst (λ xs. AllByRecursion (λ y. is_in (k ∷ f.out) y.slot ≡ true) xs) (sym st) (more w.start f.starts);
        },
        in_first f.out k,
      )
    where
      new : (slot : ℕ) → ((t : Ty) × (meaning.Scalar (length w.scalars) ty ≡ meaning.Scalar slot t)) ⊎ Seen w.names slot → is_in (length w.scalars ∷ f.out) slot ≡ true
      new slot (inl i) = subst (λ m. is_in (length w.scalars ∷ f.out) m ≡ true) (ap slot_in i.1) (in_first f.out (length w.scalars))
      new slot (inr q) = in_right (length w.scalars ∷ []) f.out slot (f.seen slot q)

      more : (xs : List Start) → AllByRecursion (λ y. is_in f.out y.slot ≡ true) xs → AllByRecursion (λ y. is_in (length w.scalars ∷ f.out) y.slot ≡ true) xs
      more [] h = tt
      more (y ∷ ys) h = (in_right (length w.scalars ∷ []) f.out y.slot h.0, more ys h.1)

  declarator_sites : (ty : Ty) (d : Declarator) (w : World) → Sites w → Ends (λ (a : ⊤) v. Sites v) (file_declarator ty d w)
  declarator_sites ty (declarator.Scalar n value) w h =
      start_sites (length w.scalars) value _ (λ e. scalar_sites n ty w _ refl refl (length-append w.scalars (ty ∷ [])) refl refl (h (left_none w.broken _ e)))
  declarator_sites ty (declarator.Array n extents image) w h =
      same_sites (file_declarator ty (declarator.Array n extents image)) w ((array_kept going going_arrays ty n (inner extents) (is_some image)).at w) ((array_kept same same_arrays ty n (inner extents) (is_some image)).at w) h

  declarators_sites : (ty : Ty) (ds : List Declarator) (w : World) → Sites w → Ends (λ (a : ⊤) v. Sites v) (walk.all (file_declarator ty) ds w)
  declarators_sites ty [] w h = h
  declarators_sites ty (d ∷ ds) w h = ends_then (λ (a : ⊤) v. Sites v) (λ (a : ⊤) v. Sites v) (file_declarator ty d w) (λ _. walk.all (file_declarator ty) ds) (declarator_sites ty d w h) (λ a v k. declarators_sites ty ds v k)

  -- ---- parts of the program but the last

  pub top_sites : (x : TopItem) → top_lies x ≡ true → (w : World) → FileGood w → Sites w → Ends (λ (a : ⊤) v. Sites v) (top_of x w)
  top_sites (top.Mapping x) n w g h = same_sites (top_of (top.Mapping x)) w ((mapping_kept going x).at w) ((mapping_kept same x).at w) h
  top_sites (top.Declaration d) n w g h = declarators_sites (type_of d.ty) (listed d.items) w h
  top_sites (top.Function x) n w g h = function_ends x w g n h
