-- Whether a statement or an expression calls a function that loops, by its parts.
use Rattle.std.proofs.Common.{suc, ◌<◌, length, drop, get_or, Option, Some, None, ◌≡◌, ◌∙◌, refl, sym, ap, ℕ, Bool, true, false, ◌++◌, ◌∷◌, [], List, map}
use Rattle.std.specs.Prelude.{◌||◌}
use Rattle.std.specs.List.{list_any, flat_map}
use Rattle.std.proofs.lemmas.List.Concat.{flat_map-cons}
use Rattle.std.proofs.lemmas.List.Folds.{list_any-append}
use Rattle.xmp_base.specs.declared.place.Place.{Place}
use Rattle.std.proofs.Math.Seq.{drop-cons}
use Rattle.xmp_prog.proofs.Rolls.{at_call, at_block, at_if, at_while, at_counted, at_loop, at_plain, at_tasks}
use Rattle.xmp_prog.specs.Terms.{Term, Typed, typed, typed_step, access_step, terms_of, terms_of_access, terms_of_list, terms_of_option}
use Rattle.xmp_prog.specs.Statements.{Walked, WalkedTask, walk_step, walk_task, walked, statements_of, terms_of_head, terms_of_plain}
use Rattle.xmp_prog.specs.declared.expressions.Expr.{Expr}
use Rattle.xmp_prog.specs.declared.expressions.Expr.TheVariants as expr
use Rattle.xmp_prog.specs.declared.expressions.Expr.TheFolds.{fold-roll-Access}
use Rattle.xmp_prog.specs.declared.expressions.Access.{Access}
use Rattle.xmp_prog.specs.declared.statements.LoopHead.{LoopHead}
use Rattle.xmp_prog.specs.declared.statements.LoopDirective.{LoopDirective}
use Rattle.xmp_prog.specs.declared.statements.Plain.{Plain}
use Rattle.xmp_prog.specs.declared.statements.Stmt.{Stmt}
use Rattle.xmp_prog.specs.declared.statements.Stmt.TheVariants as stmt
use Rattle.xmp_prog.specs.declared.statements.Stmt.TheFolds.{fold-Task, fold-roll-Task}
use Rattle.xmp_prog.specs.declared.statements.Task.{Task}
use Rattle.xmp_prog.specs.declared.parts.ProgParts.{ProgParts}
use Rattle.xmp_loops.specs.Loopers.{calls_looping, loops_at, loops_in}

pub any_flat : {X Y : Type 0} (t : Y → Bool) (f : X → List Y) (xs : List X) → list_any t (flat_map f xs) ≡ list_any (λ x. list_any t (f x)) xs
any_flat t f [] = refl
any_flat t f (x ∷ xs) =
    ap (λ l. list_any t l) (flat_map-cons f x xs)
    ∙ (list_any-append t (f x) (flat_map f xs) ∙ ap (λ b. list_any t (f x) || b) (any_flat t f xs))

-- the next of a list
pub any_more : {X Y : Type 0} (t : Y → Bool) (g : X → List Y) (xs : List X) (k : ℕ) (d : X) → k < length xs →
    list_any t (flat_map g (drop k xs)) ≡ (list_any t (g (get_or xs k d)) || list_any t (flat_map g (drop (suc k) xs)))
any_more t g xs k d h =
    ap (λ l. list_any t (flat_map g l)) (drop-cons xs k d h)
    ∙ (ap (λ l. list_any t l) (flat_map-cons g (get_or xs k d) (drop (suc k) xs))
    ∙ list_any-append t (g (get_or xs k d)) (flat_map g (drop (suc k) xs)))

terms_each : (p : ProgParts) (es : List Expr) → flat_map (λ (e : Typed). e.terms) (map (typed p) es) ≡ terms_of_list p es
terms_each p [] = refl
terms_each p (e ∷ es) =
    flat_map-cons (λ (e : Typed). e.terms) (typed p e) (map (typed p) es)
    ∙ (ap (λ l. terms_of p e ++ l) (terms_each p es) ∙ sym (flat_map-cons (terms_of p) e es))

module _ (p : ProgParts) (f : ℕ → Bool) where
  abbrev any_call : List Term → Bool
  any_call ts = list_any (calls_looping f) ts

  terms_with : (array : ℕ) (subscripts : List Expr) (image : Option Expr) (at : Place) →
      any_call (terms_of_access p (record { array = array; subscripts = subscripts; image = image; at = at }))
      ≡ (any_call (terms_of_list p subscripts) || any_call (terms_of_option p image))
  terms_with array subscripts None at =
      ap (λ (t : Typed). any_call t.terms)
      (fold-roll-Access Typed Typed (typed_step p) (access_step p) (record { array = array; subscripts = subscripts; image = None; at = at }))
      ∙ (list_any-append (calls_looping f) (flat_map (λ (e : Typed). e.terms) (map (typed p) subscripts)) []
      ∙ ap (λ l. any_call l || false) (terms_each p subscripts))
  terms_with array subscripts (Some e) at =
      ap (λ (t : Typed). any_call t.terms)
      (fold-roll-Access Typed Typed (typed_step p) (access_step p) (record { array = array; subscripts = subscripts; image = Some e; at = at }))
      ∙ (list_any-append (calls_looping f) (flat_map (λ (e : Typed). e.terms) (map (typed p) subscripts)) (terms_of p e)
      ∙ ap (λ l. any_call l || any_call (terms_of p e)) (terms_each p subscripts))

  -- an element calls where its subscripts or its image do
  pub calls_of_access : (a : Access) → any_call (terms_of_access p a) ≡ (any_call (terms_of_list p a.subscripts) || any_call (terms_of_option p a.image))
  calls_of_access a = terms_with a.array a.subscripts a.image a.at

  -- a call does where its function loops, or an argument calls one that does
  pub calls_of_call : (function : ℕ) (arguments : List Expr) (at : Place) →
      any_call (terms_of p (expr.Call function arguments at)) ≡ (f function || any_call (terms_of_list p arguments))
  calls_of_call function arguments at =
      ap (λ (t : Typed). any_call t.terms) (at_call Typed Typed (typed_step p) (access_step p) function arguments at)
      ∙ ap (λ l. f function || any_call l) (terms_each p arguments)

  -- the same, from what the code finds of the subscripts and the image
  pub found_in : (a : Access) (subscripts : List Expr) (b : Bool) → subscripts ≡ a.subscripts → b ≡ any_call (terms_of_list p subscripts) → b ≡ true →
      true ≡ any_call (terms_of_access p a)
  found_in a subscripts b s e t =
      sym (calls_of_access a ∙ ap (λ x. x || any_call (terms_of_option p a.image)) (ap (λ l. any_call (terms_of_list p l)) (sym s) ∙ (sym e ∙ t)))

  pub found_beside : (a : Access) (subscripts : List Expr) (b c : Bool) (image : Option Expr) → subscripts ≡ a.subscripts → b ≡ any_call (terms_of_list p subscripts) →
      b ≡ false → a.image ≡ image → c ≡ any_call (terms_of_option p image) → c ≡ any_call (terms_of_access p a)
  found_beside a subscripts b c image s e t i h =
      h ∙ (ap (λ o. any_call (terms_of_option p o)) (sym i)
      ∙ sym (calls_of_access a ∙ ap (λ x. x || any_call (terms_of_option p a.image)) (ap (λ l. any_call (terms_of_list p l)) (sym s) ∙ (sym e ∙ t))))

  pub found_behind : (e : Expr) (function : ℕ) (arguments given : List Expr) (at : Place) (b c : Bool) → e ≡ expr.Call function arguments at →
      given ≡ arguments → b ≡ f function → b ≡ false → c ≡ any_call (terms_of_list p given) → c ≡ any_call (terms_of p e)
  found_behind e function arguments given at b c i s g t h =
      h ∙ (ap (λ l. any_call (terms_of_list p l)) s
      ∙ sym (ap (λ x. any_call (terms_of p x)) i ∙ (calls_of_call function arguments at ∙ ap (λ x. x || any_call (terms_of_list p arguments)) (sym g ∙ t))))

  abbrev of_walked : Walked → Bool
  of_walked w = list_any (loops_at p f) w.statements

  pub looping_plain : (s : Plain) → loops_in p f (stmt.Plain s) ≡ (list_any (calls_looping f) (terms_of_plain p s) || false)
  looping_plain s = ap of_walked (at_plain Walked WalkedTask walk_step walk_task s)

  pub looping_if : (test : Expr) (a b : Stmt) → loops_in p f (stmt.If test a b)
      ≡ (list_any (calls_looping f) (terms_of p test) || (loops_in p f a || loops_in p f b))
  looping_if test a b =
      ap of_walked (at_if Walked WalkedTask walk_step walk_task test a b)
      ∙ ap (λ r. list_any (calls_looping f) (terms_of p test) || r) (list_any-append (loops_at p f) (statements_of a) (statements_of b))

  pub looping_while : (test : Expr) (body : Stmt) (at : Place) → loops_in p f (stmt.While test body at) ≡ true
  looping_while test body at = ap of_walked (at_while Walked WalkedTask walk_step walk_task test body at)

  pub looping_counted : (h : LoopHead) (body : Stmt) → loops_in p f (stmt.Counted h body)
      ≡ (list_any (calls_looping f) (terms_of_head p h) || loops_in p f body)
  looping_counted h body = ap of_walked (at_counted Walked WalkedTask walk_step walk_task h body)

  pub looping_loop : (d : LoopDirective) (body : Stmt) → loops_in p f (stmt.Loop d body)
      ≡ (list_any (calls_looping f) (flat_map (terms_of_head p) d.nest) || loops_in p f body)
  looping_loop d body = ap of_walked (at_loop Walked WalkedTask walk_step walk_task d body)

  of_all : (all : List Stmt) → list_any (λ w. list_any (loops_at p f) w.statements) (map walked all) ≡ list_any (loops_in p f) all
  of_all [] = refl
  of_all (x ∷ xs) = ap (λ b. loops_in p f x || b) (of_all xs)

  pub looping_block : (all : List Stmt) → loops_in p f (stmt.Block all) ≡ list_any (loops_in p f) all
  looping_block all =
      ap of_walked (at_block Walked WalkedTask walk_step walk_task all)
      ∙ (any_flat (loops_at p f) (λ (w : Walked). w.statements) (map walked all) ∙ of_all all)

  of_task : (t : Task) → list_any (loops_at p f) (fold-Task Walked WalkedTask walk_step walk_task t).statements ≡ loops_in p f t.body
  of_task t = ap (λ (w : WalkedTask). list_any (loops_at p f) w.statements) (fold-roll-Task Walked WalkedTask walk_step walk_task (record { nodes = t.nodes; body = t.body; at = t.at }))

  of_tasks : (all : List Task) →
      list_any (λ (w : WalkedTask). list_any (loops_at p f) w.statements) (map (fold-Task Walked WalkedTask walk_step walk_task) all) ≡ list_any (λ t. loops_in p f t.body) all
  of_tasks [] = refl
  of_tasks (t ∷ ts) =
      ap (λ b. b || list_any (λ (w : WalkedTask). list_any (loops_at p f) w.statements) (map (fold-Task Walked WalkedTask walk_step walk_task) ts)) (of_task t)
      ∙ ap (λ b. loops_in p f t.body || b) (of_tasks ts)

  pub looping_tasks : (all : List Task) (at : Place) → loops_in p f (stmt.Tasks all at) ≡ list_any (λ t. loops_in p f t.body) all
  looping_tasks all at =
      ap of_walked (at_tasks Walked WalkedTask walk_step walk_task all at)
      ∙ (any_flat (loops_at p f) (λ (w : WalkedTask). w.statements) (map (fold-Task Walked WalkedTask walk_step walk_task) all) ∙ of_tasks all)
