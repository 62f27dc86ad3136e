-- Main behind the functions, and the scalars of a whole program.
use Rattle.std.proofs.Common.{◌≡◌, ◌∙◌, sym, ap, refl, subst, inr, ⊎_elim, ◌++◌, ◌∷◌, [], ℕ, ◌<◌, ◌≤◌, ◌||◌, Bool, true, false, List, Option, length, arith}
use Rattle.std.specs.Prelude.{⊤, not}
use Rattle.std.specs.List.{list_any, list_all, flat_map, AllByRecursion}
use Rattle.xmp_base.specs.declared.place.Place.{Place}
use Rattle.xmp_prog.specs.declared.statements.Stmt as made
use Rattle.xmp_prog.specs.declared.statements.Stmt.TheVariants as s
use Rattle.xmp_prog.specs.declared.parts.Function as made_function
use Rattle.xmp_prog.specs.declared.parts.ProgParts.{ProgParts}
use Rattle.xmp_prog.specs.declared.parts.Start.{Start}
use Rattle.xmp_prog.specs.Numbers.{is_in}
use Rattle.xmp_prog.specs.Statements.{slots_of_stmt}
use Rattle.xmp_prog.specs.Scopes.{declared_in, scalars_fit, in_main}
use Rattle.xmp_syntax.specs.declared.parts.Name as named
use Rattle.xmp_syntax.specs.declared.parts.TypeWords.{TypeWords}
use Rattle.xmp_syntax.specs.declared.expression.Expr.{Expr}
use Rattle.xmp_syntax.specs.declared.program.Function.{Function}
use Rattle.xmp_syntax.specs.declared.program.TopItem.{TopItem}
use Rattle.xmp_syntax.specs.declared.program.TopItem.TheVariants as top
use Rattle.xmp_syntax.specs.declared.program.Tree.{Tree}
use Rattle.xmp_names.specs.declared.names.Region.TheVariants as region
use Rattle.xmp_names.specs.declared.names.Meaning.TheVariants as meaning
use Rattle.xmp_names.specs.declared.rules.Rule.TheVariants.{N7}
use Rattle.xmp_names.specs.declared.world.World.{World}
use Rattle.xmp_names.specs.Rules.{unless}
use Rattle.xmp_names.specs.Walk as walk
use Rattle.xmp_names.specs.Walk.{Step, Gave, Run, and_then, each}
use Rattle.xmp_walk.specs.Declarations.{type_of}
use Rattle.xmp_walk.specs.Statements.{return_of}
use Rattle.xmp_walk.specs.Program.{items_of, parameters_in, parameter_of, main_items, is_main_head, main_of, top_of, last_top, tops_of, coarray_top, start_world, with_count, program_of}
use Rattle.xmp_parts.proofs.Unbroken.{right_none, left_true, right_true, holds}
use Rattle.xmp_fits.proofs.Laters.{Later, unbroken_before}
use Rattle.xmp_fits.proofs.GoodWorlds.{Own, Good}
use Rattle.xmp_fits.proofs.KeptRuns.{Goes, goes_noted}
use Rattle.xmp_fits.proofs.Respected.{Ends, ends_then, ends_map, ends_both}
use Rattle.xmp_fits.proofs.KeptStatements.{main_body_kept}
use Rattle.xmp_fits.proofs.Holding.{Unbroken}
use Rattle.xmp_fits.proofs.FitPrinciple.{main_holds}
use Rattle.xmp_fits.proofs.FunctionSteps.{FileGood, own_of, headed, later_headed, good_headed, left}
use Rattle.xmp_fits.specs.NumbersLie.{top_lies, items_lie, tree_lies}
use Rattle.xmp_fits.proofs.ProgramWalk.{Reads}
use Rattle.xmp_fits.proofs.ProgramFits as program_fits
use Rattle.xmp_fits.proofs.ScopedForms.{Rising, rising_ends, declared_block, block_right}
use Rattle.xmp_fits.proofs.ScopedFits.{Lawful, Fits, ItemsFit, items_more}
use Rattle.xmp_fits.proofs.ScopedSteps.{facts, forms, last_return}
use Rattle.xmp_fits.proofs.NamedSlots.{named_slots}
use Rattle.xmp_fits.proofs.FileSites.{in_first, in_right, rising_in, between, is_between, Parameters, parameters_end, means_before, seen_file, Sited, FileSites}
use Rattle.xmp_fits.proofs.ProgramSites.{Any, any_starts, own_facts, File, Sites, parameters_go, top_sites}
use Rattle.std.proofs.lemmas.Option.{none-some}

module _ (p : ProgParts) where
  -- ---- main

  -- The whole program: the slots of the file's scope, of functions one behind the other, and of main behind them.
  pub record Whole (to : ℕ) (functions : List made_function.Function) (starting : List Start) (whole : made.Stmt) : Type 0 where
    pub out : List ℕ
    pub from : ℕ
    pub middle : ℕ
    pub below : AllByRecursion (λ n. n < from) out
    pub sited : Sited p 0 from out functions
    pub starts : AllByRecursion (λ x. is_in out x.slot ≡ true) starting
    pub begins : from ≤ middle
    pub declared : Rising middle to (declared_in whole)
    pub named : list_all (λ n. is_in out n || between from to n) (slots_of_stmt p whole) ≡ true
    -- what no statement declares may stand anywhere
    pub right : (d : List ℕ) → ((n : ℕ) → is_in out n ≡ true → is_in d n ≡ false) → ((n : ℕ) → from ≤ n → n < middle → is_in d n ≡ false) → scalars_fit p (in_main d) whole [] ≡ true

  in_main_lawful : (d : List ℕ) (from to : ℕ) → Lawful from to (in_main d)
  in_main_lawful d from to = record { grows = λ more known slot h. grown more known slot (is_in known slot) refl h; here = λ known slot h k. ap (λ b. b || not (is_in d slot)) (in_first known slot) }
    where
      or_right : (b c : Bool) → c ≡ true → (b || c) ≡ true
      or_right true c h = refl
      or_right false c h = h

      grown : (more known : List ℕ) (slot : ℕ) (b : Bool) → is_in known slot ≡ b → (b || not (is_in d slot)) ≡ true → (is_in (more ++ known) slot || not (is_in d slot)) ≡ true
      grown more known slot true e h = ap (λ b. b || not (is_in d slot)) (in_right more known slot e)
      grown more known slot false e h = or_right (is_in (more ++ known) slot) (not (is_in d slot)) h

  free : (d : List ℕ) (n : ℕ) → is_in d n ≡ false → in_main d [] n ≡ true
  free d n h = ap (λ b. false || not b) h

  or_left : (b c : Bool) → b ≡ true → (b || c) ≡ true
  or_left true c h = refl
  or_left false c h = absurd (cc)

  or_right : (b c : Bool) → c ≡ true → (b || c) ≡ true
  or_right true c h = refl
  or_right false c h = h

  main_whole : (w v u : World) (f : FileSites p w) (slots : List ℕ) (body : List made.Stmt) → u.functions ≡ w.functions → u.start ≡ w.start → Parameters f.out (length w.scalars) v slots → ItemsFit p v u body →
      Whole (length u.scalars) u.functions u.start (s.Block body)
  main_whole w v u f slots body fs st ps items =
      let a : ℕ = length w.scalars in
      let b : ℕ = length v.scalars in
      let c : ℕ = length u.scalars in
      let ab : a ≤ b = rising_ends a b slots ps.rising in
      let bc : b ≤ c = rising_ends b c (flat_map declared_in body) items.declares in
      let q : ℕ → Bool = λ n. is_in f.out n || between a c n in record {
        out = f.out;
        from = a;
        middle = b;
        below = f.below;
        sited = subst (Sited p 0 a f.out) (sym fs) f.sited;
        starts = subst (λ xs. AllByRecursion (λ x. is_in f.out x.slot ≡ true) xs) (sym st) f.starts;
        begins = ab;
        declared = subst (Rising b c) (sym (declared_block body)) items.declares;
        named = named_slots p q (s.Block body) [] (block_right p (λ known n. q n) body [] (items.right (λ known n. q n) []
            (record { grows = λ more known slot i. i; here = λ known slot i j. or_right (is_in f.out slot) (between a c slot) (is_between a c slot (omega (arith, ab, i)) j) })
            (λ slot z. ⊎_elim (λ i. or_right (is_in f.out slot) (between a c slot) (mine slot i ab bc)) (λ i. or_left (is_in f.out slot) (between a c slot) i) (ps.seen slot z))).0);
        right = λ d o m. block_right p (in_main d) body [] (items.right (in_main d) [] (in_main_lawful d b c)
            (λ slot z. ⊎_elim (λ i. let r = rising_in a b slots slot ps.rising i in free d slot (m slot r.0 r.1)) (λ i. free d slot (o slot i)) (ps.seen slot z))).0;
      }
    where
      mine : (slot : ℕ) → is_in slots slot ≡ true → length w.scalars ≤ length v.scalars → length v.scalars ≤ length u.scalars → between (length w.scalars) (length u.scalars) slot ≡ true
      mine slot i ab bc = let r = rising_in (length w.scalars) (length v.scalars) slots slot ps.rising i in let l : slot < length v.scalars = r.1 in is_between (length w.scalars) (length u.scalars) slot r.0 (omega (arith, l, bc))

  -- What is known at the end of a walk.
  abbrev pub Finished : World → made.Stmt → Type 0
  Finished v whole = v.broken ≡ [] → Whole (length v.scalars) v.functions v.start whole

  swapped : {A : Type 0} (X : Type 0) (Q : A → World → Type 0) (t : Step A) → (X → Ends Q t) → Ends (λ a v. X → Q a v) t
  swapped X Q (Gave a v) h = h

  last_item : (own : Own) (at : Place) (x : Expr) (w v : World) (done : List made.Stmt) → Goes w v → Good own v → ItemsFit p w v done → Unbroken (λ u one. ItemsFit p w u (done ++ one ∷ [])) (return_of true at x v)
  last_item own at x w v done g good f = ends_map (λ one u. u.broken ≡ [] → Fits p v u one) (λ one u. u.broken ≡ [] → ItemsFit p w u (done ++ one ∷ [])) (return_of true at x v) ((last_return p own at x).at v good)
      (λ one u h e. items_more p w v u done one f (h e))

  module _ (x : Function) (w : World) (good : FileGood w) (n : items_lie x.body.item ≡ true) where
    abbrev main_head : World
    main_head = headed region.Main x w

    abbrev judged : World
    judged = record main_head { broken = main_head.broken ++ unless (is_main_head x) N7 x.name.at }

    abbrev main_names : List (TypeWords × named.Name)
    main_names = parameters_in x.parameters.item

    judged_goes : Goes main_head judged
    judged_goes = goes_noted main_head main_head.deepest (unless (is_main_head x) N7 x.name.at)

    judged_good : judged.broken ≡ [] → Good (own_of x) judged
    judged_good h =
        let t : is_main_head x ≡ true = holds (is_main_head x) N7 x.name.at (right_none main_head.broken (unless (is_main_head x) N7 x.name.at) h) in
        judged_goes.good (own_of x) (good_headed region.Main x w refl good refl (λ e. left_true _ _ (right_true _ _ t)))

    main_start : (f : FileSites p w) → Parameters f.out (length w.scalars) judged []
    main_start f = record {
      rising = omega arith;
      seen = λ slot q. inr (f.seen slot (seen_file w q.name slot q.ty good.file
          (means_before q.name.text x.name.text (meaning.Function (length w.names.functions) (type_of x.ty)) slot q.ty w.names.scopes tt q.means)));
    }

    main_finished : Sites p w → (slots : List ℕ) (body : List made.Stmt) (v u : World) → Goes judged v → Goes v u → ((f : FileSites p w) → Parameters f.out (length w.scalars) v slots) →
        (Good (own_of x) v → u.broken ≡ [] → ItemsFit p v u body) → u.broken ≡ [] → Whole (length u.scalars) u.functions u.start (s.Block body)
    main_finished sites slots body v u jv vu ps fits e =
        let k : judged.broken ≡ [] = unbroken_before judged v jv.onward.later (unbroken_before v u vu.onward.later e) in
        let before : w.broken ≡ [] = unbroken_before w main_head (later_headed region.Main x w) (unbroken_before main_head judged judged_goes.onward.later k) in
        let f : FileSites p w = sites before in
        main_whole w v u f slots body (vu.onward.functions ∙ jv.onward.functions) (vu.onward.start ∙ jv.onward.start) (ps f) (fits (jv.good (own_of x) (judged_good k)) e)

    main_ends : Sites p w → Ends (λ whole v. Finished v whole) (main_of x w)
    main_ends sites =
        ends_then (λ slots v. Goes judged v × ((f : FileSites p w) → Parameters f.out (length w.scalars) v slots)) (λ whole v. Finished v whole) (each parameter_of main_names judged)
        (λ slots. walk.◌>>=◌ (items_of [] (main_items x.body.item)) (λ body. λ u. Gave (s.Block body) (left (length w.names.functions) u)))
        (ends_both (λ slots v. Goes judged v) (λ slots v. (f : FileSites p w) → Parameters f.out (length w.scalars) v slots) (each parameter_of main_names judged) (parameters_go p main_names judged) params)
        (λ slots v a. ends_then (λ body u. Goes v u × (Good (own_of x) v → u.broken ≡ [] → ItemsFit p v u body)) (λ whole v. Finished v whole) (items_of [] (main_items x.body.item) v)
        (λ body. λ u. Gave (s.Block body) (left (length w.names.functions) u))
        (ends_both (λ body u. Goes v u) (λ body u. Good (own_of x) v → u.broken ≡ [] → ItemsFit p v u body) (items_of [] (main_items x.body.item) v) ((main_body_kept x.body.item).at v)
        (swapped (Good (own_of x) v) (λ body u. u.broken ≡ [] → ItemsFit p v u body) (items_of [] (main_items x.body.item) v)
        ((main_holds (own_of x) (facts p) (forms p (own_of x)) (ItemsFit p) (λ w v all i. i) (λ at y m w v done g h i. last_item (own_of x) at y w v done g h i) x.body.item n).at v)))
        (λ body u b. main_finished sites slots body v u a.0 b.0 a.1 b.1))
      where
        params : Ends (λ slots v. (f : FileSites p w) → Parameters f.out (length w.scalars) v slots) (each parameter_of main_names judged)
        params = by (each parameter_of main_names judged) (λ f. parameters_end f.out (length w.scalars) main_names [] judged (main_start f))
          where
            by : (t : Step (List ℕ)) → ((f : FileSites p w) → Ends (λ slots v. Parameters f.out (length w.scalars) v slots) t) → Ends (λ slots v. (f : FileSites p w) → Parameters f.out (length w.scalars) v slots) t
            by (Gave a v) h = h

  -- ---- a program that doesn't end with a function

  nothing_whole : (v : World) → FileSites p v → Whole (length v.scalars) v.functions v.start (s.Block [])
  nothing_whole v f = record {
    out = f.out;
    from = length v.scalars;
    middle = length v.scalars;
    below = f.below;
    sited = f.sited;
    starts = f.starts;
    begins = omega arith;
    declared = subst (Rising (length v.scalars) (length v.scalars)) (sym (declared_block [])) (omega arith);
    named = named_slots p (λ n. is_in f.out n || between (length v.scalars) (length v.scalars) n) (s.Block []) [] (block_right p (λ known n. is_in f.out n || between (length v.scalars) (length v.scalars) n) [] [] refl);
    right = λ d o m. block_right p (in_main d) [] [] refl;
  }

  then_nothing : (t : Step ⊤) → Ends (λ (a : ⊤) v. Sites p v) t → Ends (λ whole v. Finished v whole) (and_then t (λ _. walk.pure (s.Block [])))
  then_nothing (Gave a v) h = λ e. nothing_whole v (h e)

  last_ends : (x : TopItem) → top_lies x ≡ true → (w : World) → FileGood w → Sites p w → Ends (λ whole v. Finished v whole) (last_top x w)
  last_ends (top.Mapping x) n w g h = then_nothing (top_of (top.Mapping x) w) (top_sites p (top.Mapping x) n w g h)
  last_ends (top.Declaration d) n w g h = then_nothing (top_of (top.Declaration d) w) (top_sites p (top.Declaration d) n w g h)
  last_ends (top.Function x) n w g h = main_ends x w g n h

  top_read : (x : TopItem) → top_lies x ≡ true → (w : World) → File p w → Reads (own_facts p) (Any p) w (top_of x w)
  top_read x n w r = program_fits.top_reads (own_facts p) (forms p) (λ own. ItemsFit p) (λ own w v all i. i) (λ own at y m w v done g h i. last_item own at y w v done g h i) (Any p) (any_starts p) x n w r

  tops_end : (xs : List TopItem) → list_all top_lies xs ≡ true → (w : World) → File p w → Sites p w → Ends (λ whole v. Finished v whole) (tops_of xs w)
  tops_end [] n w r h = λ e. nothing_whole w (h e)
  tops_end (x ∷ []) n w r h = last_ends x (left_true (top_lies x) true n) w r.good h
  tops_end (x ∷ y ∷ ys) n w r h =
      ends_then (λ (a : ⊤) v. (Later w v × File p v) × Sites p v) (λ whole v. Finished v whole) (top_of x w) (λ _. tops_of (y ∷ ys))
      (ends_both (λ (a : ⊤) v. Later w v × File p v) (λ (a : ⊤) v. Sites p v) (top_of x w) (top_read x (left_true (top_lies x) (list_all top_lies (y ∷ ys)) n) w r)
      (top_sites p x (left_true (top_lies x) (list_all top_lies (y ∷ ys)) n) w r.good h))
      (λ a v k. tops_end (y ∷ ys) (right_true (top_lies x) (list_all top_lies (y ∷ ys)) n) v k.0.1 k.1)

  -- ---- a program, for a number of nodes or none

  start_sites : (given : Option ℕ) (coarray : Bool) → FileSites p (start_world given coarray)
  start_sites given coarray = record { out = []; below = tt; sited = omega arith; seen = λ slot q. absurd (none-some (meaning.Scalar slot q.ty) q.means); starts = tt }

  with_given : (given : Option ℕ) (t : Step made.Stmt) → Ends (λ whole v. Finished v whole) t → Ends (λ whole v. Finished v whole) (with_count given t)
  with_given given (Gave whole w) h = h

  pub program_sites : (t : Tree) (given : Option ℕ) → tree_lies t ≡ true → Ends (λ whole v. Finished v whole) (program_of t given)
  program_sites t given n =
      let w : World = start_world given (list_any coarray_top t.parts) in
      with_given given (tops_of t.parts w) (tops_end t.parts n w
      (program_fits.start_read (own_facts p) (forms p) (λ own. ItemsFit p) (λ own w v all i. i) (λ own at y m w v done g h i. last_item own at y w v done g h i) (Any p) (any_starts p) given (list_any coarray_top t.parts))
      (λ e. start_sites given (list_any coarray_top t.parts)))
