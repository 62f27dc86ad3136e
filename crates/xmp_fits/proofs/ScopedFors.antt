-- What a `for` is made into, and the nest of a loop directive: which scalars may stand there, and which they declare.
use Rattle.std.proofs.Common.{◌≡◌, ◌∙◌, refl, sym, ap, subst, ◌++◌, ◌∷◌, [], ℕ, zero, suc, ◌≤◌, List, Bool, true, length, arith, Option, Some, None}
use Rattle.std.specs.Prelude.{pos}
use Rattle.std.specs.List.{flat_map, AllByRecursion}
use Rattle.std.proofs.lemmas.List.{append-nil}
use Rattle.std.proofs.lemmas.Grind.{flat_map-append}
use Rattle.std.proofs.lemmas.Option.{same_Some, none-some}
use Rattle.xmp_base.specs.declared.place.Place.{Place}
use Rattle.xmp_num.specs.declared.types.Ty.TheVariants.{Int}
use Rattle.xmp_prog.specs.declared.expressions.Expr.{Expr, out-Expr, roll-out-Expr}
use Rattle.xmp_prog.specs.declared.expressions.Expr.TheVariants as e
use Rattle.xmp_prog.specs.declared.expressions.Expr.TheViews.{roll-Expr}
use Rattle.xmp_prog.specs.declared.expressions.Expr.TheOpen.{Expr-F}
use Rattle.xmp_prog.specs.declared.expressions.Access.{Access}
use Rattle.xmp_prog.specs.declared.statements.LoopHead.{LoopHead}
use Rattle.xmp_prog.specs.declared.statements.Stmt.{Stmt, out-Stmt, roll-out-Stmt}
use Rattle.xmp_prog.specs.declared.statements.Stmt.TheVariants as s
use Rattle.xmp_prog.specs.declared.statements.Stmt.TheViews.{roll-Stmt}
use Rattle.xmp_prog.specs.declared.statements.Stmt.TheOpen.{Stmt-F}
use Rattle.xmp_prog.specs.declared.statements.Task.{Task}
use Rattle.xmp_prog.specs.declared.parts.ProgParts.{ProgParts}
use Rattle.xmp_prog.specs.Terms.{Term, Typed, typed_step, access_step, terms_of, slots_of_term, slots_of_terms}
use Rattle.xmp_prog.specs.Statements.{terms_of_head, indices_of}
use Rattle.xmp_prog.specs.Scopes.{declared_in, scoped}
use Rattle.xmp_prog.proofs.Rolls as rolls
use Rattle.xmp_syntax.specs.declared.statement.ForHead.{ForHead}
use Rattle.xmp_names.specs.declared.names.Environment.{Environment}
use Rattle.xmp_names.specs.declared.typed.Operand.{Operand}
use Rattle.xmp_walk.specs.declared.loops.First.{First}
use Rattle.xmp_walk.specs.declared.loops.ForParts.{ForParts}
use Rattle.xmp_walk.specs.declared.loops.Shape.{Shape}
use Rattle.xmp_names.specs.declared.world.World.{World}
use Rattle.xmp_walk.specs.Statements.{set, right_side, in_block, counted_with, begun, condition, last_of, uncounted, loop_in, loop_of, shape_of}
use Rattle.xmp_directives.specs.Directives.{Nest, counted_in, unbraced_in, head_of, nest_in, nest_of}
use Rattle.xmp_parts.proofs.Unbroken.{left_true, both_true}
use Rattle.xmp_fits.proofs.KeptRuns.{Goes}
use Rattle.xmp_fits.proofs.SameRuns.{same_refl}
use Rattle.xmp_fits.proofs.KeptStatements.{opened, closed}
use Rattle.xmp_fits.proofs.Holding.{IfThere}
use Rattle.xmp_fits.proofs.ForsPass.{head_made, counts}
use Rattle.xmp_fits.proofs.TermsFit.{Seen}
use Rattle.xmp_fits.proofs.ScopedForms.{Rising, rising_ends, rising_from, rising_both, declared_block, declared_counted, May, may_both, Right, InOrder, known_after, order_both, block_right, right_block, counted_right, right_counted}
use Rattle.xmp_fits.proofs.ScopedFits.{Lawful, lawful_within, Allows, opened_seen, closed_same, Fits, ItemsFit, Sees, FlatFits, allow_all, allows_more, flat_fits, items_more, while_fits}

-- ---- the slots of an expression

all_left : {A : Type 0} (P : A → Type 0) (xs ys : List A) → AllByRecursion P (xs ++ ys) → AllByRecursion P xs
all_left P [] ys h = tt
all_left P (x ∷ xs) ys h = (h.0, all_left P xs ys h.1)

all_right : {A : Type 0} (P : A → Type 0) (xs ys : List A) → AllByRecursion P (xs ++ ys) → AllByRecursion P ys
all_right P [] ys h = h
all_right P (x ∷ xs) ys h = all_right P xs ys h.1

all_both : {A : Type 0} (P : A → Type 0) (xs ys : List A) → AllByRecursion P xs → AllByRecursion P ys → AllByRecursion P (xs ++ ys)
all_both P [] ys h k = k
all_both P (x ∷ xs) ys h k = (h.0, all_both P xs ys h.1 k)

module _ (p : ProgParts) where
  const_sees : (env : Environment) → Sees p env (e.Const (pos 1) Int)
  const_sees env = subst (λ (t : Typed). AllByRecursion (Seen env) (slots_of_terms t.terms)) (sym (rolls.at_const Typed Typed (typed_step p) (access_step p) (pos 1) Int)) tt

  zero_sees : (env : Environment) → Sees p env (e.Const (pos 0) Int)
  zero_sees env = subst (λ (t : Typed). AllByRecursion (Seen env) (slots_of_terms t.terms)) (sym (rolls.at_const Typed Typed (typed_step p) (access_step p) (pos 0) Int)) tt

  -- a scalar that is read is seen
  pub scalar_seen : (env : Environment) (x : Expr) (slot : ℕ) (at : Place) → out-Expr x ≡ Expr-F.Scalar slot at → Sees p env x → Seen env slot
  scalar_seen env x slot at o h =
      let is : x ≡ e.Scalar slot at = sym (roll-out-Expr x) ∙ (ap roll-Expr o ∙ e.rolls-Scalar slot at) in
      (subst (λ (t : Typed). AllByRecursion (Seen env) (slots_of_terms t.terms)) (rolls.at_scalar Typed Typed (typed_step p) (access_step p) slot at) (subst (Sees p env) is h)).0

  -- and so are those of the right operand
  right_sees : (env : Environment) (x : Expr) → Sees p env x → Sees p env (right_side (out-Expr x))
  right_sees env x h = by (out-Expr x) refl
    where
      by : (o : Expr-F Expr Access) → out-Expr x ≡ o → Sees p env (right_side o)
      by (Expr-F.Binary op ty a b at) i =
          let is : x ≡ e.Binary op ty a b at = sym (roll-out-Expr x) ∙ (ap roll-Expr i ∙ e.rolls-Binary op ty a b at) in
          let all : AllByRecursion (Seen env) (flat_map slots_of_term (terms_of p a ++ terms_of p b)) =
          subst (λ (t : Typed). AllByRecursion (Seen env) (slots_of_terms t.terms)) (rolls.at_binary Typed Typed (typed_step p) (access_step p) op ty a b at) (subst (Sees p env) is h) in
          all_right (Seen env) (slots_of_terms (terms_of p a)) (slots_of_terms (terms_of p b)) (subst (AllByRecursion (Seen env)) (flat_map-append slots_of_term (terms_of p a) (terms_of p b)) all)
      by _ i = zero_sees env

  -- ---- the parts of a `for`

  pub record FirstFits (env : Environment) (x : First) : Type 0 where
    pub target : Sees p env x.target.made
    pub value : Sees p env x.value.made
    pub set : FlatFits p env (set None x.at x.target x.value)

  abbrev pub declared_of : Option First → List Stmt
  declared_of None = []
  declared_of (Some x) = x.declared

  -- Between the world in the scope that it opens and the one before its body.
  pub record HeadFits (w v : World) (parts : ForParts) : Type 0 where
    pub declared : ItemsFit p w v (declared_of parts.first)
    pub first : IfThere (FirstFits v.names) parts.first
    pub test : IfThere (λ t. Sees p v.names t.made) parts.test
    pub next : IfThere (FlatFits p v.names) parts.next

  -- ---- what is made of it

  in_block_declares : (lo mid hi : ℕ) (ds : List Stmt) (x : Stmt) → Rising lo mid (flat_map declared_in ds) → Rising mid hi (declared_in x) → Rising lo hi (declared_in (in_block ds x))
  in_block_declares lo mid hi [] x h k = rising_from lo mid hi (declared_in x) h k
  in_block_declares lo mid hi (d ∷ ds) x h k =
      subst (Rising lo hi) (sym (declared_block ((d ∷ ds) ++ x ∷ []) ∙ flat_map-append declared_in (d ∷ ds) (x ∷ [])))
      (rising_both lo mid hi (flat_map declared_in (d ∷ ds)) (declared_in x ++ []) h (subst (Rising mid hi) (sym (append-nil (declared_in x))) k))

  in_block_right : (may : List ℕ → ℕ → Bool) (known : List ℕ) (ds : List Stmt) (x : Stmt) → InOrder p may ds known → Right p may x (known_after p may ds known) → Right p may (in_block ds x) known
  in_block_right may known [] x h k = k
  in_block_right may known (d ∷ ds) x h k = block_right p may ((d ∷ ds) ++ x ∷ []) known (order_both p may (d ∷ ds) (x ∷ []) known h (both_true _ true k refl))

  -- A statement in the scope that a `for` opens, between the worlds at the start and at the end of the scope.
  record Inside (w v : World) (x : Stmt) : Type 0 where
    pub declares : Rising (length w.scalars) (length v.scalars) (declared_in x)
    pub right : (may : List ℕ → ℕ → Bool) (known : List ℕ) → Lawful (length w.scalars) (length v.scalars) may → Allows may known w.names → Right p may x known

  inside_fits : (w u : World) (x : Stmt) → Goes (opened w) u → Inside (opened w) u x → Fits p w (closed u) x
  inside_fits w u x g f = record {
    same = closed_same w u g;
    declares = f.declares;
    right = λ may known law h. f.right may known law (λ slot s. h slot (opened_seen w slot s));
  }

  counted_inside : (h : ForHead) (w v u : World) (shape : Shape) (first : First) (test : Operand) (next body : Stmt) → shape_of h (Some first) (Some test) (Some next) body ≡ Some shape →
      ItemsFit p w v first.declared → FirstFits v.names first → Sees p v.names test.made → Fits p v u body → Inside w u (in_block first.declared (s.Counted (head_made shape first test) body))
  counted_inside h w v u shape first test next body is d f t b =
      let n : ℕ = length w.scalars in
      let m : ℕ = length v.scalars in
      let k : ℕ = length u.scalars in
      let nm : n ≤ m = rising_ends n m (flat_map declared_in first.declared) d.declares in
      let mk : m ≤ k = rising_ends m k (declared_in body) b.declares in
      let head : LoopHead = head_made shape first test in
      let c = counts h first test next body shape is in record {
        declares = in_block_declares n m k first.declared (s.Counted head body) d.declares (subst (Rising m k) (sym (declared_counted head body)) b.declares);
        right = λ may known law al.
            let before = d.right may known (lawful_within n n m k may (omega arith) mk law) al in
            let inner : List ℕ = known_after p may first.declared known in
            let from : List Term = terms_of p head.from in
            let to : List Term = terms_of p head.to in
            in_block_right may known first.declared (s.Counted head body) before.0
            (counted_right p may head body inner (
              before.1 shape.index.number (scalar_seen v.names first.target.made shape.index.number c.at c.index f.target),
              allow_all p may inner v.names (slots_of_terms (from ++ to)) before.1
                  (subst (AllByRecursion (Seen v.names)) (sym (flat_map-append slots_of_term from to)) (all_both (Seen v.names) (slots_of_terms from) (slots_of_terms to) f.value (right_sees v.names test.made t))),
            )
            (b.right may inner (lawful_within n m k k may nm (omega arith) law) before.1));
      }

  begun_fit : (w v : World) (first : Option First) → ItemsFit p w v (declared_of first) → IfThere (FirstFits v.names) first → ItemsFit p w v (begun first)
  begun_fit w v None d f = d
  begun_fit w v (Some x) d f = items_more p w v v x.declared (set None x.at x.target x.value) d (flat_fits p v v (set None x.at x.target x.value) (same_refl v) (omega arith) f.set)

  -- the body and what is done last
  again_fits : (v u : World) (body : Stmt) (next : Option Stmt) → Fits p v u body → IfThere (FlatFits p v.names) next → Fits p v u (s.Block (body ∷ last_of next))
  again_fits v u body None b f = record {
    same = b.same;
    declares = subst (Rising (length v.scalars) (length u.scalars)) (sym (declared_block (body ∷ []) ∙ append-nil (declared_in body))) b.declares;
    right = λ may known law h. block_right p may (body ∷ []) known (both_true _ true (b.right may known law h) refl);
  }
  again_fits v u body (Some x) b f = record {
    same = b.same;
    declares = subst (Rising (length v.scalars) (length u.scalars))
        (sym (declared_block (body ∷ x ∷ []) ∙ (ap (λ l. declared_in body ++ (l ++ [])) f.declares ∙ append-nil (declared_in body)))) b.declares;
    right = λ may known law h. block_right p may (body ∷ x ∷ []) known
        (both_true _ _ (b.right may known law h) (both_true _ true (f.right may ((scoped p may body).declares ++ known) (allows_more p (length v.scalars) (length u.scalars) may (scoped p may body).declares known v.names law h)) refl));
  }

  test_sees : (env : Environment) (test : Option Operand) → IfThere (λ t. Sees p env t.made) test → Sees p env (condition test)
  test_sees env None h = const_sees env
  test_sees env (Some x) h = h

  uncounted_inside : (w v u : World) (word : Place) (parts : ForParts) (body : Stmt) → HeadFits w v parts → Fits p v u body → Inside w u (uncounted word parts body)
  uncounted_inside w v u word parts body f b =
      let loop : Stmt = s.While (condition parts.test) (s.Block (body ∷ last_of parts.next)) word in
      let all = items_more p w v u (begun parts.first) loop (begun_fit w v parts.first f.declared f.first)
      (while_fits p v v u (condition parts.test) (s.Block (body ∷ last_of parts.next)) word (same_refl v) (omega arith) (test_sees v.names parts.test f.test) (again_fits v u body parts.next b f.next)) in record {
        declares = subst (Rising (length w.scalars) (length u.scalars)) (sym (declared_block (begun parts.first ++ loop ∷ []))) all.declares;
        right = λ may known law h. block_right p may (begun parts.first ++ loop ∷ []) known (all.right may known law h).0;
      }

  loop_inside : (h : ForHead) (w v u : World) (parts : ForParts) (body : Stmt) → HeadFits w v parts → Fits p v u body → Inside w u (loop_of h parts body)
  loop_inside h w v u parts body f b = by (shape_of h parts.first parts.test parts.next body) refl
    where
      shaped : (shape : Shape) (first : Option First) (test : Option Operand) (next : Option Stmt) → shape_of h first test next body ≡ Some shape →
          ItemsFit p w v (declared_of first) → IfThere (FirstFits v.names) first → IfThere (λ t. Sees p v.names t.made) test → Inside w u (counted_with shape first test body)
      shaped shape (Some first) (Some test) (Some next) i d k t = counted_inside h w v u shape first test next body i d k t b
      shaped shape (Some first) (Some test) None i d k t = absurd (none-some shape i)
      shaped shape (Some first) None next i d k t = absurd (none-some shape i)
      shaped shape None test next i d k t = absurd (none-some shape i)

      by : (o : Option Shape) → shape_of h parts.first parts.test parts.next body ≡ o → Inside w u (loop_in o h.word parts body)
      by (Some shape) i = shaped shape parts.first parts.test parts.next i f.declared f.first f.test
      by None i = uncounted_inside w v u h.word parts body f b

  pub for_fits : (h : ForHead) (w v u : World) (parts : ForParts) (body : Stmt) → Goes (opened w) u → HeadFits (opened w) v parts → Fits p v u body → Fits p w (closed u) (loop_of h parts body)
  for_fits h w v u parts body g f b = inside_fits w u (loop_of h parts body) g (loop_inside h (opened w) v u parts body f b)

  -- ---- the nest of a loop directive

  -- A statement that is a counted loop, in braces or not.
  record Headed (x : Stmt) (h : LoopHead) (body : Stmt) : Type 0 where
    pub declares : declared_in x ≡ declared_in body
    pub right : (may : List ℕ → ℕ → Bool) (known : List ℕ) → Right p may x known → May p may known (h.index.number ∷ slots_of_terms (terms_of_head p h)) × Right p may body known

  headed_loop : (h : LoopHead) (body : Stmt) → Headed (s.Counted h body) h body
  headed_loop h body = record { declares = declared_counted h body; right = λ may known r. right_counted p may h body known r }

  headed_block : (x : Stmt) (h : LoopHead) (body : Stmt) → Headed x h body → Headed (s.Block (x ∷ [])) h body
  headed_block x h body k = record {
    declares = declared_block (x ∷ []) ∙ (append-nil (declared_in x) ∙ k.declares);
    right = λ may known r. k.right may known (left_true _ true (right_block p may (x ∷ []) known r));
  }

  same_pair : (x y : LoopHead × Stmt) → Some x ≡ Some y → s.Counted x.0 x.1 ≡ s.Counted y.0 y.1
  same_pair x y i = ap (λ (z : LoopHead × Stmt). s.Counted z.0 z.1) (same_Some x y i)

  counted_at : (x : Stmt) (h : LoopHead) (b : Stmt) → counted_in (out-Stmt x) ≡ Some (h, b) → x ≡ s.Counted h b
  counted_at x h b i = go (out-Stmt x) refl i
    where
      go : (o : Stmt-F Stmt Task) → out-Stmt x ≡ o → counted_in o ≡ Some (h, b) → x ≡ s.Counted h b
      go (Stmt-F.Counted g c) j k = sym (roll-out-Stmt x) ∙ (ap roll-Stmt j ∙ (s.rolls-Counted g c ∙ same_pair (g, c) (h, b) k))
      go (Stmt-F.Plain y) j k = absurd (none-some (h, b) k)
      go (Stmt-F.Block y) j k = absurd (none-some (h, b) k)
      go (Stmt-F.If y z t) j k = absurd (none-some (h, b) k)
      go (Stmt-F.While y z t) j k = absurd (none-some (h, b) k)
      go (Stmt-F.Loop y z) j k = absurd (none-some (h, b) k)
      go (Stmt-F.Tasks y z) j k = absurd (none-some (h, b) k)

  headed_at : (x : Stmt) (h : LoopHead) (b : Stmt) → counted_in (out-Stmt x) ≡ Some (h, b) → Headed x h b
  headed_at x h b i = subst (λ y. Headed y h b) (sym (counted_at x h b i)) (headed_loop h b)

  headed : (x : Stmt) (h : LoopHead) (b : Stmt) → head_of x ≡ Some (h, b) → Headed x h b
  headed x h b i = go (out-Stmt x) refl i
    where
      go : (o : Stmt-F Stmt Task) → out-Stmt x ≡ o → counted_in (out-Stmt (unbraced_in x o)) ≡ Some (h, b) → Headed x h b
      go (Stmt-F.Block (y ∷ [])) j k = subst (λ y. Headed y h b) (sym (ap roll-Stmt j ∙ s.rolls-Block (y ∷ [])) ∙ roll-out-Stmt x) (headed_block y h b (headed_at y h b k))
      go (Stmt-F.Block []) j k = headed_at x h b k
      go (Stmt-F.Block (y ∷ z ∷ r)) j k = headed_at x h b k
      go (Stmt-F.Plain y) j k = headed_at x h b k
      go (Stmt-F.If y z t) j k = headed_at x h b k
      go (Stmt-F.While y z t) j k = headed_at x h b k
      go (Stmt-F.Counted g c) j k = headed_at x h b k
      go (Stmt-F.Loop y z) j k = headed_at x h b k
      go (Stmt-F.Tasks y z) j k = headed_at x h b k

  -- What is in a nest of a statement.
  pub record NestFits (x : Stmt) (nest : Nest) : Type 0 where
    pub declares : declared_in x ≡ declared_in nest.1
    pub right : (may : List ℕ → ℕ → Bool) (known : List ℕ) → Right p may x known → May p may known (indices_of nest.0) × May p may known (slots_of_terms (flat_map (terms_of_head p) nest.0)) × Right p may nest.1 known

  pub nest_fits : (n : ℕ) (x : Stmt) → NestFits x (nest_of n x)
  nest_fits zero x = record { declares = refl; right = λ may known r. (tt, tt, r) }
  nest_fits (suc n) x = go (λ b. nest_fits n b) (head_of x) refl
    where
      go : ((b : Stmt) → NestFits b (nest_of n b)) → (o : Option (LoopHead × Stmt)) → head_of x ≡ o → NestFits x (nest_in (nest_of n) x o)
      go inner None i = record { declares = refl; right = λ may known r. (tt, tt, r) }
      go inner (Some y) i =
          let k = headed x y.0 y.1 i in
          let f = inner y.1 in record {
            declares = k.declares ∙ f.declares;
            right = λ may known r.
                let a = k.right may known r in
                let c = f.right may known a.1 in (
                  (a.0.0, c.0),
                  subst (May p may known) (sym (flat_map-append slots_of_term (terms_of_head p y.0) (flat_map (terms_of_head p) (nest_of n y.1).0)))
                      (may_both p may known (slots_of_terms (terms_of_head p y.0)) (slots_of_terms (flat_map (terms_of_head p) (nest_of n y.1).0)) a.0.1 c.1),
                  c.2,
                );
          }
