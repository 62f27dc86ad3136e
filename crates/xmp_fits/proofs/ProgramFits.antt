-- The functions of a program, main, and the whole of it.
use Rattle.std.proofs.Common.{◌≡◌, ◌∙◌, refl, sym, ap, subst, ◌++◌, ◌∷◌, [], ℕ, ◌+◌, ◌⊎◌, inl, inr, ⊎_elim, List, Bool, true, Option, Some, length, map, arith}
use Rattle.std.specs.Prelude.{⊤, drop, slice_get}
use Rattle.std.specs.List.{AllByRecursion, list_all, list_any}
use Rattle.std.proofs.lemmas.Option.{none-some}
use Rattle.xmp_base.specs.declared.place.Place.{Place}
use Rattle.xmp_scopes.specs.Names as scope
use Rattle.xmp_prog.specs.declared.statements.Stmt as made
use Rattle.xmp_prog.specs.declared.statements.Stmt.TheVariants as s
use Rattle.xmp_prog.specs.declared.parts.Function as made_function
use Rattle.xmp_prog.specs.declared.parts.Start.{Start}
use Rattle.xmp_syntax.specs.declared.parts.Name as named
use Rattle.xmp_syntax.specs.declared.parts.TypeWords.{TypeWords}
use Rattle.xmp_syntax.specs.declared.expression.Expr.{Expr}
use Rattle.xmp_syntax.specs.declared.program.Function.{Function}
use Rattle.xmp_syntax.specs.declared.program.TopItem.{TopItem}
use Rattle.xmp_syntax.specs.declared.program.TopItem.TheVariants as top
use Rattle.xmp_syntax.specs.declared.program.Tree.{Tree}
use Rattle.xmp_names.specs.declared.names.Region.TheVariants as region
use Rattle.xmp_names.specs.declared.names.Meaning.TheVariants as meaning
use Rattle.xmp_names.specs.declared.rules.Rule.TheVariants.{N7}
use Rattle.xmp_names.specs.declared.world.World.{World}
use Rattle.xmp_names.specs.Rules.{unless}
use Rattle.xmp_names.specs.Walk as walk
use Rattle.xmp_names.specs.Walk.{Step, Gave, Run, and_then, each}
use Rattle.xmp_walk.specs.Declarations.{type_of}
use Rattle.xmp_names.specs.Lists.{listed}
use Rattle.xmp_walk.specs.Program.{parameters_in, parameter_of, items_of, inside_item, main_items, function_of, is_main_head, main_of, top_of, last_top, tops_of, start_world, coarray_top, program_of, with_count}
use Rattle.xmp_parts.proofs.Unbroken.{right_none, holds, right_true, left_true}
use Rattle.xmp_fits.specs.NumbersLie.{numbers_lie, items_lie, top_lies, tree_lies}
use Rattle.xmp_fits.proofs.Laters.{begins_refl, names_refl, mappings_refl, Later, later_refl, later_trans, unbroken_before, Scopes, Widened}
use Rattle.xmp_fits.proofs.GoodWorlds.{Own, Good, being_read}
use Rattle.xmp_fits.proofs.GoodSteps.{get_last}
use Rattle.xmp_fits.proofs.KeptRuns.{Goes, goes_trans, GoesOn, widened_declared, goes_noted, going, going_scalars}
use Rattle.xmp_fits.proofs.Respected.{Ends, ends_then, ends_map, ends_both}
use Rattle.xmp_fits.proofs.RespectedMappings.{mapping_kept}
use Rattle.xmp_fits.proofs.RespectedSteps.{declare_scalar}
use Rattle.xmp_fits.proofs.Respected as kept_runs
use Rattle.xmp_fits.proofs.KeptStatements.{body_kept, main_body_kept}
use Rattle.xmp_walk.specs.Statements.{return_of}
use Rattle.xmp_fits.proofs.Holding.{Unbroken}
use Rattle.xmp_fits.proofs.FitPrinciple.{Facts, Forms, body_holds, main_holds}
use Rattle.xmp_fits.proofs.GoodSteps.{no_names}
use Rattle.xmp_fits.proofs.FunctionSteps.{FileGood, OneScope, one_widened, own_of, headed, later_headed, good_headed, left, later_left, kept_function, later_function, file_good_after}
use Rattle.xmp_fits.proofs.ProgramWalk.{ends_is, each_many, FunctionOf, MainOf, Starts, body_later, function_later, Read, Reads, last_of_list, starts_stay, reads_kept, declarators_read}

-- What is known at the end of a program: its main is a function, or nothing is.
pub record Ended (f : Own → Facts) (W : Own → World → World → List made.Stmt → Type 0) (P : World → Start → Type 0) (w : World) (whole : made.Stmt) : Type 0 where
  pub main : MainOf W w whole ⊎ (whole ≡ s.Block [])
  pub functions : (k : ℕ) (g : made_function.Function) → slice_get w.functions k ≡ Some g → FunctionOf f w k g
  pub starts : AllByRecursion (P w) w.start

abbrev pub Finishes : (f : Own → Facts) (W : Own → World → World → List made.Stmt → Type 0) (P : World → Start → Type 0) → World → Step made.Stmt → Type 0
Finishes f W P w t = Ends (λ main v. Later w v × (v.broken ≡ [] → Ended f W P v main)) t

swapped : {A : Type 0} (X : Type 0) (Q : A → World → Type 0) (t : Step A) → (X → Ends Q t) → Ends (λ a v. X → Q a v) t
swapped X Q (Gave a v) h = h

parameters_go : (ps : List (TypeWords × named.Name)) (w : World) → GoesOn w (each parameter_of ps w)
parameters_go ps w = kept_after [] ps w
  where
    kept_after : (done : List ℕ) (ps : List (TypeWords × named.Name)) (w : World) → GoesOn w (walk.each_after parameter_of done ps w)
    kept_after done ps w = (kept_runs.each_after going (λ x. declare_scalar going going_scalars x.1 (type_of x.0)) done ps).at w

module _ (f : Own → Facts) (forms : (own : Own) → Forms own (f own)) (W : Own → World → World → List made.Stmt → Type 0)
    (whole : (own : Own) (w v : World) (all : List made.Stmt) → (f own).Items w v all → W own w v all)
    (last_one : (own : Own) (at : Place) (x : Expr) → numbers_lie x ≡ true → (w v : World) (done : List made.Stmt) → Goes w v → Good own v → (f own).Items w v done → Unbroken (λ u one. W own w u (done ++ one ∷ [])) (return_of true at x v))
    (P : World → Start → Type 0) (p : Starts P) where
  -- ---- a function

  module _ (x : Function) (w : World) (r : Read f P w) where
    abbrev own : Own
    own = own_of x

    abbrev head : World
    head = headed region.Function x w

    abbrev names : List (TypeWords × named.Name)
    names = parameters_in x.parameters.item

    abbrev made_of : List ℕ → List made.Stmt → made_function.Function
    made_of slots body = record { result = type_of x.ty; parameters = slots; body = s.Block body }

    abbrev last : List ℕ → List made.Stmt → World → World
    last slots body u = kept_function (length w.names.functions) (made_of slots body) u

    head_good : Good own head
    head_good = good_headed region.Function x w refl r.good refl (λ e. absurd (cc))

    module _ (slots : List ℕ) (body : List made.Stmt) (v u : World) (is : each parameter_of names head ≡ Gave slots v) (many : length slots ≡ length names) (begins : Goes head v) (goes : Goes v u) where
      to_end : Goes head u
      to_end = goes_trans begins goes

      numbers : length w.names.functions ≡ length u.functions
      numbers =
          let a : length w.names.functions ≡ length w.functions + being_read w.names.region = (r.good.good own).numbers in
          let b : being_read w.names.region ≡ 0 = ap being_read r.good.file in
          let c : length u.functions ≡ length w.functions = ap length to_end.onward.functions in omega (arith, a, b, c)

      signature : slice_get u.names.functions (length u.functions) ≡ Some (record { parameters = length names; depth = 0 })
      signature = ap (λ l. slice_get l (length u.functions)) to_end.onward.signatures
          ∙ (ap (λ n. slice_get (w.names.functions ++ record { parameters = length names; depth = 0 } ∷ []) n) (sym numbers) ∙ get_last w.names.functions _)

      inner_dropped : (ts : Scopes) → Widened head.names.scopes ts → OneScope (drop 1 ts)
      inner_dropped [] h = absurd h
      inner_dropped (t ∷ ts) h = record { names = one_name.names; is = h.1 ∙ one_name.is }
        where
          one_name : OneScope (scope.declare x.name.text (meaning.Function (length w.names.functions) (type_of x.ty)) w.names.scopes)
          one_name = one_widened w.names.scopes (scope.declare x.name.text (meaning.Function (length w.names.functions) (type_of x.ty)) w.names.scopes) r.good.one (widened_declared x.name.text _ w.names.scopes)

      file_good : FileGood (last slots body u)
      file_good = subst (λ n. FileGood (kept_function n (made_of slots body) u)) (sym numbers)
          (file_good_after own u (made_of slots body) (record { parameters = length names; depth = 0 }) (to_end.good own head_good) (ap being_read to_end.onward.region) refl signature (sym many) (inner_dropped u.names.scopes to_end.onward.scopes))

      all_later : Later w (last slots body u)
      all_later = later_trans (later_headed region.Function x w) (later_trans to_end.onward.later (later_function (length w.names.functions) (made_of slots body) u))

      this_one : (f own).Items v u body → FunctionOf f (last slots body u) (length u.functions) (made_of slots body)
      this_one fits = record {
        own = own;
        statements = body;
        is = refl;
        result = refl;
        body = record {
          parameters = names;
          head = head;
          start = v;
          end = u;
          declared = is;
          region = refl;
          good = head_good;
          begins = begins;
          goes = goes;
          later = later_function (length w.names.functions) (made_of slots body) u;
          fits = fits;
        };
        number = sym (ap length to_end.onward.functions);
      }

      function_read : (u.broken ≡ [] → (f own).Items v u body) → Read f P (last slots body u)
      function_read fits = record {
        good = file_good;
        functions = λ h k g e. ⊎_elim
            (λ old. function_later f k g w (last slots body u) all_later (r.functions (unbroken_before w (last slots body u) all_later h) k g (ap (λ l. slice_get l k) (sym to_end.onward.functions) ∙ old)))
            (λ new. subst (λ i. FunctionOf f (last slots body u) i g) (sym new.0) (subst (λ y. FunctionOf f (last slots body u) (length u.functions) y) new.1 (this_one (fits h))))
            (last_of_list u.functions (made_of slots body) k g e);
        starts = λ h. subst (λ xs. AllByRecursion (P (last slots body u)) xs) (sym to_end.onward.start)
            (starts_stay f forms P p w (last slots body u) all_later w.start (r.starts (unbroken_before w (last slots body u) all_later h)));
      }

    function_reads : items_lie x.body.item ≡ true → Reads f P w (function_of x w)
    function_reads n =
        ends_then (λ slots v. Goes head v × ((each parameter_of names head ≡ Gave slots v) × (length slots ≡ length names))) (λ (a : ⊤) v. Later w v × Read f P v) (each parameter_of names head)
        (λ slots. walk.◌>>=◌ (items_of [] (map inside_item x.body.item)) (λ body. λ u. Gave tt (last slots body u)))
        (ends_both (λ slots v. Goes head v) (λ slots v. (each parameter_of names head ≡ Gave slots v) × (length slots ≡ length names)) (each parameter_of names head) (parameters_go names head)
        (ends_both (λ slots v. each parameter_of names head ≡ Gave slots v) (λ slots v. length slots ≡ length names) (each parameter_of names head) (ends_is (each parameter_of names head))
        (ends_map (λ slots v. length slots ≡ 0 + length names) (λ slots v. length slots ≡ length names) (each parameter_of names head) (each_many parameter_of [] names head) (λ slots v e. omega (arith, e)))))
        (λ slots v a. ends_then (λ body u. Goes v u × (u.broken ≡ [] → (f own).Items v u body)) (λ (a : ⊤) v. Later w v × Read f P v) (items_of [] (map inside_item x.body.item) v) (λ body. λ u. Gave tt (last slots body u))
        (ends_both (λ body u. Goes v u) (λ body u. u.broken ≡ [] → (f own).Items v u body) (items_of [] (map inside_item x.body.item) v) ((body_kept [] x.body.item).at v)
        ((body_holds own (f own) (forms own) x.body.item n).at v (a.0.good own head_good)))
        (λ body u b. (all_later slots body v u a.1.0 a.1.1 a.0 b.0, function_read slots body v u a.1.0 a.1.1 a.0 b.0 b.1)))

  -- ---- main

  module _ (x : Function) (w : World) (r : Read f P w) where
    abbrev main_head : World
    main_head = headed region.Main x w

    abbrev judged : World
    judged = record main_head { broken = main_head.broken ++ unless (is_main_head x) N7 x.name.at }

    abbrev main_names : List (TypeWords × named.Name)
    main_names = parameters_in x.parameters.item

    abbrev main_last : World → World
    main_last u = left (length w.names.functions) u

    judged_goes : Goes main_head judged
    judged_goes = goes_noted main_head main_head.deepest (unless (is_main_head x) N7 x.name.at)

    judged_good : judged.broken ≡ [] → Good (own_of x) judged
    judged_good h =
        let t : is_main_head x ≡ true = holds (is_main_head x) N7 x.name.at (right_none main_head.broken (unless (is_main_head x) N7 x.name.at) h) in
        judged_goes.good (own_of x) (good_headed region.Main x w refl r.good refl (λ e. left_true _ _ (right_true _ _ t)))

    module _ (slots : List ℕ) (body : List made.Stmt) (v u : World) (is : each parameter_of main_names judged ≡ Gave slots v) (begins : Goes judged v) (goes : Goes v u) where
      main_later : Later w (main_last u)
      main_later = later_trans (later_headed region.Main x w) (later_trans judged_goes.onward.later (later_trans begins.onward.later (later_trans goes.onward.later (later_left (length w.names.functions) u))))

      main_functions : u.functions ≡ w.functions
      main_functions = goes.onward.functions ∙ begins.onward.functions

      main_start : u.start ≡ w.start
      main_start = goes.onward.start ∙ begins.onward.start

      ended : (Good (own_of x) v → u.broken ≡ [] → W (own_of x) v u body) → u.broken ≡ [] → Ended f W P (main_last u) (s.Block body)
      ended fits h =
          let k : judged.broken ≡ [] = unbroken_before judged v begins.onward.later (unbroken_before v u goes.onward.later h) in
          let g : Good (own_of x) judged = judged_good k in
          let before : w.broken ≡ [] = unbroken_before w (main_last u) main_later h in record {
            main = inl (record {
              own = own_of x;
              slots = slots;
              statements = body;
              is = refl;
              body = record {
                parameters = main_names;
                head = judged;
                start = v;
                end = u;
                declared = is;
                region = refl;
                good = g;
                begins = begins;
                goes = goes;
                later = later_left (length w.names.functions) u;
                fits = fits (begins.good (own_of x) g) h;
              };
              functions = refl;
            });
            functions = λ i y e. function_later f i y w (main_last u) main_later (r.functions before i y (ap (λ l. slice_get l i) (sym main_functions) ∙ e));
            starts = subst (λ xs. AllByRecursion (P (main_last u)) xs) (sym main_start) (starts_stay f forms P p w (main_last u) main_later w.start (r.starts before));
          }

    main_finishes : items_lie x.body.item ≡ true → Finishes f W P w (main_of x w)
    main_finishes n =
        ends_then (λ slots v. Goes judged v × (each parameter_of main_names judged ≡ Gave slots v)) (λ main v. Later w v × (v.broken ≡ [] → Ended f W P v main)) (each parameter_of main_names judged)
        (λ slots. walk.◌>>=◌ (items_of [] (main_items x.body.item)) (λ body. λ u. Gave (s.Block body) (main_last u)))
        (ends_both (λ slots v. Goes judged v) (λ slots v. each parameter_of main_names judged ≡ Gave slots v) (each parameter_of main_names judged) (parameters_go main_names judged) (ends_is (each parameter_of main_names judged)))
        (λ slots v a. ends_then (λ body u. Goes v u × (Good (own_of x) v → u.broken ≡ [] → W (own_of x) v u body)) (λ main v. Later w v × (v.broken ≡ [] → Ended f W P v main)) (items_of [] (main_items x.body.item) v)
        (λ body. λ u. Gave (s.Block body) (main_last u))
        (ends_both (λ body u. Goes v u) (λ body u. Good (own_of x) v → u.broken ≡ [] → W (own_of x) v u body) (items_of [] (main_items x.body.item) v) ((main_body_kept x.body.item).at v)
        (swapped (Good (own_of x) v) (λ body u. u.broken ≡ [] → W (own_of x) v u body) (items_of [] (main_items x.body.item) v) ((main_holds (own_of x) (f (own_of x)) (forms (own_of x)) (W (own_of x)) (whole (own_of x)) (last_one (own_of x)) x.body.item n).at v)))
        (λ body u b. (main_later slots body v u a.1 a.0 b.0, ended slots body v u a.1 a.0 b.0 b.1)))

  -- ---- the whole of it

  pub top_reads : (x : TopItem) → top_lies x ≡ true → (w : World) → Read f P w → Reads f P w (top_of x w)
  top_reads (top.Mapping x) n w r = reads_kept f forms P p (top_of (top.Mapping x)) (mapping_kept going x) w r
  top_reads (top.Declaration d) n w r = declarators_read f forms P p (type_of d.ty) (listed d.items) n w r
  top_reads (top.Function x) n w r = function_reads x w r n

  nothing_ended : (w : World) → Read f P w → w.broken ≡ [] → Ended f W P w (s.Block [])
  nothing_ended w r h = record { main = inr refl; functions = r.functions h; starts = r.starts h }

  then_nothing : {A : Type 0} (w : World) (t : Step A) → Reads f P w t → Finishes f W P w (and_then t (λ _. walk.pure (s.Block [])))
  then_nothing w (Gave a v) h = (h.0, nothing_ended v h.1)

  last_finishes : (x : TopItem) → top_lies x ≡ true → (w : World) → Read f P w → Finishes f W P w (last_top x w)
  last_finishes (top.Mapping x) n w r = then_nothing w (top_of (top.Mapping x) w) (top_reads (top.Mapping x) n w r)
  last_finishes (top.Declaration d) n w r = then_nothing w (top_of (top.Declaration d) w) (top_reads (top.Declaration d) n w r)
  last_finishes (top.Function x) n w r = main_finishes x w r n

  tops_finish : (xs : List TopItem) → list_all top_lies xs ≡ true → (w : World) → Read f P w → Finishes f W P w (tops_of xs w)
  tops_finish [] n w r = (later_refl w, nothing_ended w r)
  tops_finish (x ∷ []) n w r = last_finishes x (left_true (top_lies x) true n) w r
  tops_finish (x ∷ y ∷ ys) n w r =
      ends_then (λ (a : ⊤) v. Later w v × Read f P v) (λ main v. Later w v × (v.broken ≡ [] → Ended f W P v main)) (top_of x w) (λ _. tops_of (y ∷ ys)) (top_reads x (left_true (top_lies x) (list_all top_lies (y ∷ ys)) n) w r)
      (λ a v h. ends_map (λ main u. Later v u × (u.broken ≡ [] → Ended f W P u main)) (λ main u. Later w u × (u.broken ≡ [] → Ended f W P u main)) (tops_of (y ∷ ys) v) (tops_finish (y ∷ ys) (right_true (top_lies x) (list_all top_lies (y ∷ ys)) n) v h.1)
      (λ main u k. (later_trans h.0 k.0, k.1)))

  -- ---- a program, for a number of nodes or none

  pub start_read : (given : Option ℕ) (coarray : Bool) → Read f P (start_world given coarray)
  start_read given coarray = record {
    good = record { good = λ own. record { scopes = (no_names own (start_world given coarray), tt); numbers = refl; main = λ e. absurd (cc); inside = λ b e. absurd (cc e) }; file = refl; one = record { names = []; is = refl } };
    functions = λ h k g e. absurd (none-some g e);
    starts = λ h. tt;
  }

  later_given : (given : Option ℕ) (w : World) → given ≡ w.given → Later w (record w { given = given })
  later_given given w e = record {
    given = e;
    names = names_refl w.names;
    scalars = begins_refl w.scalars;
    mappings = mappings_refl w.mappings;
    functions = begins_refl w.functions;
    start = begins_refl w.start;
    broken = begins_refl w.broken;
  }

  main_later_of : (whole : made.Stmt) (w v : World) → Later w v → v.functions ≡ w.functions → MainOf W w whole → MainOf W v whole
  main_later_of whole w v l e x = record {
    own = x.own;
    slots = x.slots;
    statements = x.statements;
    is = x.is;
    body = body_later W region.Main x.own x.slots x.statements w v l x.body;
    functions = e ∙ x.functions;
  }

  with_given : (given : Option ℕ) (coarray : Bool) (t : Step made.Stmt) → Finishes f W P (start_world given coarray) t → Ends (λ whole v. v.broken ≡ [] → Ended f W P v whole) (with_count given t)
  with_given given coarray (Gave whole w) h = λ e.
      let l : Later w (record w { given = given }) = later_given given w (sym h.0.given) in
      let d : Ended f W P w whole = h.1 e in record {
        main = ⊎_elim (λ m. inl (main_later_of whole w (record w { given = given }) l refl m)) (λ n. inr n) d.main;
        functions = λ k g is. function_later f k g w (record w { given = given }) l (d.functions k g is);
        starts = starts_stay f forms P p w (record w { given = given }) l w.start d.starts;
      }

  pub program_fits : (t : Tree) (given : Option ℕ) → tree_lies t ≡ true → Ends (λ whole v. v.broken ≡ [] → Ended f W P v whole) (program_of t given)
  program_fits t given n =
      with_given given (list_any coarray_top t.parts) (tops_of t.parts (start_world given (list_any coarray_top t.parts))) (tops_finish t.parts n (start_world given (list_any coarray_top t.parts)) (start_read given (list_any coarray_top t.parts)))
