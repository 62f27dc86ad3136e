-- The walk over a whole program: what holds of the statements of each function and of main, and of the initialisers at file scope.
use Rattle.std.proofs.Common.{◌≡◌, ◌∙◌, refl, sym, ap, subst, ◌++◌, ◌∷◌, [], ℕ, zero, suc, ◌+◌, ◌<◌, ◌⊎◌, inl, inr, ⊎_elim, List, true, Option, Some, None, length, length-append, arith}
use Rattle.std.specs.Prelude.{⊤, slice_get, is_some}
use Rattle.std.specs.List.{AllByRecursion, list_all}
use Rattle.std.proofs.lemmas.Option.{none-some, same_Some}
use Rattle.xmp_base.specs.declared.place.Place.{Place}
use Rattle.xmp_num.specs.declared.types.Ty.{Ty}
use Rattle.xmp_num.specs.declared.types.Ty.TheVariants.{Int}
use Rattle.xmp_prog.specs.declared.statements.Stmt as made
use Rattle.xmp_prog.specs.declared.statements.Stmt.TheVariants as s
use Rattle.xmp_prog.specs.declared.parts.Function as made_function
use Rattle.xmp_prog.specs.declared.parts.Start.{Start}
use Rattle.xmp_syntax.specs.declared.parts.Name as named
use Rattle.xmp_syntax.specs.declared.parts.TypeWords.{TypeWords}
use Rattle.xmp_syntax.specs.declared.expression.Expr.{Expr}
use Rattle.xmp_syntax.specs.declared.declaration.Declarator.{Declarator}
use Rattle.xmp_syntax.specs.declared.declaration.Declarator.TheVariants as declarator
use Rattle.xmp_names.specs.declared.names.Region.{Region}
use Rattle.xmp_names.specs.declared.names.Region.TheVariants as region
use Rattle.xmp_names.specs.declared.typed.Operand.{Operand}
use Rattle.xmp_names.specs.declared.world.World.{World}
use Rattle.xmp_names.specs.Walk as walk
use Rattle.xmp_names.specs.Walk.{Step, Gave, Run, and_then, each}
use Rattle.xmp_names.specs.Lists.{inner}
use Rattle.xmp_walk.specs.Declarations.{start_of, file_declarator}
use Rattle.xmp_walk.specs.Program.{parameter_of}
use Rattle.xmp_parts.proofs.Unbroken.{right_true, left_true}
use Rattle.xmp_fits.specs.NumbersLie.{numbers_lie, there_lies, second_lies, declarator_lies}
use Rattle.xmp_fits.proofs.Laters.{begins_refl, begins_with, names_refl, mappings_refl, Later, later_refl, later_trans, unbroken_before}
use Rattle.xmp_fits.proofs.GoodWorlds.{Own, Good}
use Rattle.xmp_fits.proofs.GoodSteps.{good_same}
use Rattle.xmp_fits.proofs.KeptRuns.{Goes, GoesOn, Kept, going, going_scalars, going_arrays}
use Rattle.xmp_fits.proofs.Respected.{Ends, ends_then, ends_map, ends_both}
use Rattle.xmp_fits.proofs.RespectedLines.{array_kept}
use Rattle.xmp_fits.proofs.RespectedSteps.{typed_constant, declare_scalar}
use Rattle.xmp_fits.proofs.Holding.{Unbroken}
use Rattle.xmp_fits.proofs.FitPrinciple.{Facts, Forms}
use Rattle.xmp_fits.proofs.FunctionSteps.{FileGood, one_widened}

-- ---- steps

pub ends_is : {A : Type 0} (t : Step A) → Ends (λ a v. t ≡ Gave a v) t
ends_is (Gave a v) = refl

pub ends_any : {A : Type 0} (t : Step A) → Ends (λ (a : A) v. ⊤) t
ends_any (Gave a v) = tt

pub each_many : {A B : Type 0} (f : A → Run B) (done : List B) (xs : List A) (w : World) → Ends (λ ys v. length ys ≡ length done + length xs) (walk.each_after f done xs w)
each_many f done [] w = omega arith
each_many {A} {B} f done (x ∷ xs) w =
    ends_then (λ (y : B) v. ⊤) (λ ys v. length ys ≡ length done + length (x ∷ xs)) (f x w) (λ y. walk.each_after f (done ++ y ∷ []) xs) (ends_any (f x w))
    (λ y v _. ends_map (λ ys v. length ys ≡ length (done ++ y ∷ []) + length xs) (λ ys v. length ys ≡ length done + length (x ∷ xs)) (walk.each_after f (done ++ y ∷ []) xs v) (each_many f (done ++ y ∷ []) xs v)
    (λ ys u e. let n : length (done ++ y ∷ []) ≡ length done + 1 = length-append done (y ∷ []) in omega (arith, e, n)))

-- ---- what is known of a function and of main

-- The names of parameters, the world in the scope of a body, that behind the parameters and that at its end.
pub record Body (B : Own → World → World → List made.Stmt → Type 0) (r : Region) (own : Own) (slots : List ℕ) (statements : List made.Stmt) (final : World) : Type 0 where
  pub parameters : List (TypeWords × named.Name)
  pub head : World
  pub start : World
  pub end : World
  pub declared : each parameter_of parameters head ≡ Gave slots start
  pub region : head.names.region ≡ r
  pub good : Good own head
  pub begins : Goes head start
  pub goes : Goes start end
  pub later : Later end final
  pub fits : B own start end statements

pub record FunctionOf (f : Own → Facts) (final : World) (k : ℕ) (g : made_function.Function) : Type 0 where
  pub own : Own
  pub statements : List made.Stmt
  pub is : g.body ≡ s.Block statements
  pub result : g.result ≡ own.result
  pub body : Body (λ own w v all. (f own).Items w v all) region.Function own g.parameters statements final
  pub number : length body.head.functions ≡ k

pub record MainOf (W : Own → World → World → List made.Stmt → Type 0) (final : World) (main : made.Stmt) : Type 0 where
  pub own : Own
  pub slots : List ℕ
  pub statements : List made.Stmt
  pub is : main ≡ s.Block statements
  pub body : Body W region.Main own slots statements final
  pub functions : final.functions ≡ body.end.functions

-- An initialiser at file scope is to hold in its world and in each later one.
pub record Starts (P : World → Start → Type 0) : Type 0 where
  pub stays : (w v : World) (x : Start) → Later w v → P w x → P v x
  pub typed : (own : Own) (slot : ℕ) (x : Expr) → numbers_lie x ≡ true → (w : World) → Good own w → slot < length w.scalars → Unbroken (λ v t. P v (record { slot = slot; value = t.made })) (walk.typed_constant x w)

abbrev pub body_later : (B : Own → World → World → List made.Stmt → Type 0) (r : Region) (own : Own) (slots : List ℕ) (statements : List made.Stmt) (w v : World) → Later w v → Body B r own slots statements w → Body B r own slots statements v
body_later B r own slots statements w v l x = record {
  parameters = x.parameters;
  head = x.head;
  start = x.start;
  end = x.end;
  declared = x.declared;
  region = x.region;
  good = x.good;
  begins = x.begins;
  goes = x.goes;
  later = later_trans x.later l;
  fits = x.fits;
}

pub function_later : (f : Own → Facts) (k : ℕ) (g : made_function.Function) (w v : World) → Later w v → FunctionOf f w k g → FunctionOf f v k g
function_later f k g w v l x = record {
  own = x.own;
  statements = x.statements;
  is = x.is;
  result = x.result;
  body = body_later (λ own w v all. (f own).Items w v all) region.Function x.own g.parameters x.statements w v l x.body;
  number = x.number;
}

-- What is known at file scope.
pub record Read (f : Own → Facts) (P : World → Start → Type 0) (w : World) : Type 0 where
  pub good : FileGood w
  pub functions : w.broken ≡ [] → (k : ℕ) (g : made_function.Function) → slice_get w.functions k ≡ Some g → FunctionOf f w k g
  pub starts : w.broken ≡ [] → AllByRecursion (P w) w.start

abbrev pub Reads : (f : Own → Facts) (P : World → Start → Type 0) → {A : Type 0} → World → Step A → Type 0
Reads f P w t = Ends (λ a v. Later w v × Read f P v) t

pub last_of_list : {A : Type 0} (xs : List A) (x : A) (k : ℕ) (y : A) → slice_get (xs ++ x ∷ []) k ≡ Some y → (slice_get xs k ≡ Some y) ⊎ ((k ≡ length xs) × (x ≡ y))
last_of_list [] x zero y e = inr (refl, same_Some x y e)
last_of_list [] x (suc k) y e = absurd (none-some y e)
last_of_list (z ∷ xs) x zero y e = inl e
last_of_list (z ∷ xs) x (suc k) y e = ⊎_elim (λ h. inl h) (λ h. inr (ap suc h.0, h.1)) (last_of_list xs x k y e)

module _ (f : Own → Facts) (forms : (own : Own) → Forms own (f own)) (P : World → Start → Type 0) (p : Starts P) where
  pub starts_stay : (w v : World) → Later w v → (xs : List Start) → AllByRecursion (P w) xs → AllByRecursion (P v) xs
  starts_stay w v l [] h = tt
  starts_stay w v l (x ∷ xs) h = (p.stays w v x l h.0, starts_stay w v l xs h.1)

  one_start : (v : World) (xs : List Start) (x : Start) → AllByRecursion (P v) xs → P v x → AllByRecursion (P v) (xs ++ x ∷ [])
  one_start v [] x h k = (k, tt)
  one_start v (y ∷ xs) x h k = (h.0, one_start v xs x h.1 k)

  pub functions_stay : (w v : World) → Later w v → v.functions ≡ w.functions → Read f P w → v.broken ≡ [] → (k : ℕ) (g : made_function.Function) → slice_get v.functions k ≡ Some g → FunctionOf f v k g
  functions_stay w v l e r h k g is = function_later f k g w v l (r.functions (unbroken_before w v l h) k g (ap (λ gs. slice_get gs k) (sym e) ∙ is))

  pub read_goes : (w v : World) → Goes w v → Read f P w → Read f P v
  read_goes w v g r = record {
    good = record { good = λ own. g.good own (r.good.good own); file = g.onward.region ∙ r.good.file; one = one_widened w.names.scopes v.names.scopes r.good.one g.onward.scopes };
    functions = functions_stay w v g.onward.later g.onward.functions r;
    starts = λ h. subst (λ xs. AllByRecursion (P v) xs) (sym g.onward.start) (starts_stay w v g.onward.later w.start (r.starts (unbroken_before w v g.onward.later h)));
  }

  pub reads_kept : {A : Type 0} (run : Run A) → Kept run → (w : World) → Read f P w → Reads f P w (run w)
  reads_kept {A} run k w r = ends_map (λ (a : A) v. Goes w v) (λ (a : A) v. Later w v × Read f P v) (run w) (k.at w) (λ a v g. (g.onward.later, read_goes w v g r))

  -- ---- declarations at file scope

  abbrev started : World → Start → World
  started w x = record w { start = w.start ++ x ∷ [] }

  later_started : (w : World) (x : Start) → Later w (started w x)
  later_started w x = record {
    given = refl;
    names = names_refl w.names;
    scalars = begins_refl w.scalars;
    mappings = mappings_refl w.mappings;
    functions = begins_refl w.functions;
    start = begins_with w.start (x ∷ []);
    broken = begins_refl w.broken;
  }

  read_started : (w : World) (x : Start) → (w.broken ≡ [] → P w x) → Read f P w → Read f P (started w x)
  read_started w x new r =
      let l : Later w (started w x) = later_started w x in record {
        good = record { good = λ own. good_same own w (started w x) (record { later = l; region = refl; signatures = refl; functions = refl }) refl (r.good.good own); file = r.good.file; one = r.good.one };
        functions = functions_stay w (started w x) l refl r;
        starts = λ h. starts_stay w (started w x) l (w.start ++ x ∷ []) (one_start w w.start x (r.starts h) (new h));
      }

  start_reads : (slot : ℕ) (o : Option (Place × Expr)) → there_lies second_lies o ≡ true → (w : World) → slot < length w.scalars → Read f P w → Reads f P w (start_of slot o w)
  start_reads slot None n w h r = (later_refl w, r)
  start_reads slot (Some x) n w h r =
      ends_then (λ (t : Operand) v. Goes w v × (v.broken ≡ [] → P v (record { slot = slot; value = t.made }))) (λ (a : ⊤) v. Later w v × Read f P v) (walk.typed_constant x.1 w)
      (λ t. λ v. Gave tt (started v (record { slot = slot; value = t.made })))
      (ends_both (λ (t : Operand) v. Goes w v) (λ (t : Operand) v. v.broken ≡ [] → P v (record { slot = slot; value = t.made })) (walk.typed_constant x.1 w) ((typed_constant going x.1).kept.at w)
      (p.typed (nobody) slot x.1 n w (r.good.good nobody) h))
      (λ t v g. (later_trans g.0.onward.later (later_started v _), read_started v (record { slot = slot; value = t.made }) g.1 (read_goes w v g.0 r)))
    where
      nobody : Own
      nobody = record { name = []; result = Int }

  declarator_reads : (ty : Ty) (d : Declarator) → declarator_lies d ≡ true → (w : World) → Read f P w → Reads f P w (file_declarator ty d w)
  declarator_reads ty (declarator.Scalar n value) l w r =
      let g : GoesOn w (walk.declare_scalar n ty w) = (declare_scalar going going_scalars n ty).kept.at w in
      let m : length (w.scalars ++ ty ∷ []) ≡ length w.scalars + 1 = length-append w.scalars (ty ∷ []) in
      ends_map (λ (a : ⊤) v. Later (scalar_after n ty w) v × Read f P v) (λ (a : ⊤) v. Later w v × Read f P v) (start_of (length w.scalars) value (scalar_after n ty w))
      (start_reads (length w.scalars) value l (scalar_after n ty w) (omega (arith, m)) (read_goes w (scalar_after n ty w) g r)) (λ a v h. (later_trans g.onward.later h.0, h.1))
    where
      after : Step ℕ → World
      after (Gave a v) = v

      scalar_after : named.Name → Ty → World → World
      scalar_after n ty w = after (walk.declare_scalar n ty w)
  declarator_reads ty (declarator.Array n extents image) l w r = reads_kept (file_declarator ty (declarator.Array n extents image)) (array_kept going going_arrays ty n (inner extents) (is_some image)) w r

  pub declarators_read : (ty : Ty) (ds : List Declarator) → list_all declarator_lies ds ≡ true → (w : World) → Read f P w → Reads f P w (walk.all (file_declarator ty) ds w)
  declarators_read ty [] n w r = (later_refl w, r)
  declarators_read ty (d ∷ ds) n w r =
      ends_then (λ (a : ⊤) v. Later w v × Read f P v) (λ (a : ⊤) v. Later w v × Read f P v) (file_declarator ty d w) (λ _. walk.all (file_declarator ty) ds) (declarator_reads ty d (left_true (declarator_lies d) (list_all declarator_lies ds) n) w r)
      (λ a v h. ends_map (λ (a : ⊤) u. Later v u × Read f P u) (λ (a : ⊤) u. Later w u × Read f P u) (walk.all (file_declarator ty) ds v) (declarators_read ty ds (right_true (declarator_lies d) (list_all declarator_lies ds) n) v h.1) (λ b u k. (later_trans h.0 k.0, k.1)))
