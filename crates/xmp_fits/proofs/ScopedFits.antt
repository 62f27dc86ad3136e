-- What is to hold of a statement that is made: which scalars may stand in it, and which it declares.
use Rattle.std.proofs.Common.{◌≡◌, ◌∙◌, refl, sym, ap, subst, ◌⊎◌, inl, inr, ◌++◌, ◌∷◌, [], ℕ, ◌+◌, ◌<◌, ◌≤◌, List, Bool, true, length, length-append, arith, Option}
use Rattle.std.specs.Prelude.{drop}
use Rattle.std.specs.List.{flat_map, AllByRecursion}
use Rattle.std.proofs.lemmas.List.{append-nil}
use Rattle.std.proofs.lemmas.Grind.{flat_map-append}
use Rattle.xmp_base.specs.declared.place.Place.{Place}
use Rattle.xmp_num.specs.declared.types.Ty.{Ty}
use Rattle.xmp_map.specs.declared.grid.NodeSet.{NodeSet}
use Rattle.xmp_scopes.specs.Names as scope
use Rattle.xmp_prog.specs.declared.expressions.Expr.{Expr}
use Rattle.xmp_prog.specs.declared.statements.Plain.TheVariants as p_of
use Rattle.xmp_prog.specs.declared.statements.Stmt.{Stmt}
use Rattle.xmp_prog.specs.declared.statements.Stmt.TheVariants as s
use Rattle.xmp_prog.specs.declared.statements.Task.{Task}
use Rattle.xmp_prog.specs.declared.parts.ProgParts.{ProgParts}
use Rattle.xmp_prog.specs.Terms.{terms_of, terms_of_option, slots_of_terms}
use Rattle.xmp_prog.specs.Scopes.{declared_in, scoped}
use Rattle.xmp_names.specs.declared.names.Meaning.{Meaning}
use Rattle.xmp_names.specs.declared.names.Meaning.TheVariants as meaning
use Rattle.xmp_names.specs.declared.names.Environment.{Environment}
use Rattle.xmp_names.specs.declared.world.World.{World}
use Rattle.xmp_directives.specs.Directives.{made_task}
use Rattle.xmp_parts.proofs.Unbroken.{both_true}
use Rattle.xmp_fits.proofs.Laters.{Begins, Scopes, Widened}
use Rattle.xmp_fits.proofs.KeptRuns.{Goes}
use Rattle.xmp_fits.proofs.SameRuns.{seen_as, seen_declared, Same, same_refl, same_trans}
use Rattle.xmp_fits.proofs.KeptStatements.{opened, closed}
use Rattle.xmp_fits.proofs.TermsFit.{Seen}
use Rattle.xmp_fits.proofs.ScopedForms.{Rising, rising_ends, rising_from, rising_both, rising_to, declared_plain, declared_block, declared_if, declared_while, declared_in_task, declared_tasks, declared_task, May, Right, InOrder, known_after, order_both, after_both, plain_right, plain_declares, block_right, if_right, while_right, TaskRight, task_right, tasks_right}

-- ---- which scalars may stand

-- A scalar that may stand may stand where more are known, and so may one that is declared from here on where it is known.
pub record Lawful (from to : ℕ) (may : List ℕ → ℕ → Bool) : Type 0 where
  pub grows : (more known : List ℕ) (slot : ℕ) → may known slot ≡ true → may (more ++ known) slot ≡ true
  pub here : (known : List ℕ) (slot : ℕ) → from ≤ slot → slot < to → may (slot ∷ known) slot ≡ true

pub lawful_within : (a b c d : ℕ) (may : List ℕ → ℕ → Bool) → a ≤ b → c ≤ d → Lawful a d may → Lawful b c may
lawful_within a b c d may h k l = record {
  grows = l.grows;
  here = λ known slot m n. l.here known slot (omega (arith, h, m)) (omega (arith, k, n));
}

-- All that a name means may stand where others are known.
abbrev pub Allows : (List ℕ → ℕ → Bool) → List ℕ → Environment → Type 0
Allows may known env = (slot : ℕ) → Seen env slot → may known slot ≡ true

-- ---- worlds

pub longer : {w v : World} → Goes w v → length w.scalars ≤ length v.scalars
longer {w = w} {v = v} g =
    let b : Begins w.scalars v.scalars = g.onward.later.scalars in
    let e : length v.scalars ≡ length w.scalars + length b.more = ap length b.is ∙ length-append w.scalars b.more in omega (arith, e)

pub same_names : (w v : World) → v.names ≡ w.names → Same w v
same_names w v e = record { seen = λ slot s. subst (λ n. Seen n slot) e s }

pub opened_seen : (w : World) (slot : ℕ) → Seen (opened w).names slot → Seen w.names slot
opened_seen w slot s = record { name = s.name; ty = s.ty; means = s.means; may = s.may }

pub dropped : (ss ts : Scopes) → Widened ([] ∷ ss) ts → drop 1 ts ≡ ss
dropped ss [] h = absurd h
dropped ss (t ∷ ts) h = h.1

pub closed_same : (w v : World) → Goes (opened w) v → Same w (closed v)
closed_same w v g = record { seen = λ slot s. seen_as w.names (closed v).names slot g.onward.region (dropped w.names.scopes v.names.scopes g.onward.scopes) s }

module _ (p : ProgParts) where
  -- ---- what is to hold

  -- Of a statement, between the worlds before and after it.
  pub record Fits (w v : World) (x : Stmt) : Type 0 where
    pub same : Same w v
    -- it declares new scalars, each once
    pub declares : Rising (length w.scalars) (length v.scalars) (declared_in x)
    -- each scalar in it is seen before it, or is declared in it before
    pub right : (may : List ℕ → ℕ → Bool) (known : List ℕ) → Lawful (length w.scalars) (length v.scalars) may → Allows may known w.names → Right p may x known

  -- Of the statements in a list.
  pub record ItemsFit (w v : World) (xs : List Stmt) : Type 0 where
    pub declares : Rising (length w.scalars) (length v.scalars) (flat_map declared_in xs)
    pub right : (may : List ℕ → ℕ → Bool) (known : List ℕ) → Lawful (length w.scalars) (length v.scalars) may → Allows may known w.names →
        InOrder p may xs known × Allows may (known_after p may xs known) v.names

  -- Of an expression: its scalars are seen.
  abbrev pub Sees : Environment → Expr → Type 0
  Sees env x = AllByRecursion (Seen env) (slots_of_terms (terms_of p x))

  -- Of a statement that declares nothing, with all its scalars seen where it stands.
  pub record FlatFits (env : Environment) (x : Stmt) : Type 0 where
    pub declares : declared_in x ≡ []
    pub right : (may : List ℕ → ℕ → Bool) (known : List ℕ) → Allows may known env → Right p may x known

  -- Of tasks.
  pub record TasksFit (w v : World) (ts : List Task) : Type 0 where
    pub same : Same w v
    pub declares : Rising (length w.scalars) (length v.scalars) (flat_map declared_in_task ts)
    pub right : (may : List ℕ → ℕ → Bool) (known : List ℕ) → Lawful (length w.scalars) (length v.scalars) may → Allows may known w.names → AllByRecursion (λ t. TaskRight p may t known) ts

  -- ---- small steps

  pub allow_all : (may : List ℕ → ℕ → Bool) (known : List ℕ) (env : Environment) (slots : List ℕ) → Allows may known env → AllByRecursion (Seen env) slots → May p may known slots
  allow_all may known env [] h k = tt
  allow_all may known env (n ∷ ns) h k = (h n k.0, allow_all may known env ns h k.1)

  pub allows_same : (may : List ℕ → ℕ → Bool) (known : List ℕ) (w v : World) → Same w v → Allows may known w.names → Allows may known v.names
  allows_same may known w v e h = λ slot s. h slot (e.seen slot s)

  pub allows_more : (from to : ℕ) (may : List ℕ → ℕ → Bool) (more known : List ℕ) (env : Environment) → Lawful from to may → Allows may known env → Allows may (more ++ known) env
  allows_more from to may more known env l h = λ slot s. l.grows more known slot (h slot s)

  pub flat_fits : (w v : World) (x : Stmt) → Same w v → length w.scalars ≤ length v.scalars → FlatFits w.names x → Fits w v x
  flat_fits w v x e l f = record {
    same = e;
    declares = subst (Rising (length w.scalars) (length v.scalars)) (sym f.declares) l;
    right = λ may known law h. f.right may known h;
  }

  pub nothing_flat : (env : Environment) → FlatFits env (s.Block [])
  nothing_flat env = record { declares = declared_block []; right = λ may known h. block_right p may [] known refl }

  -- ---- lists

  pub none_fit : (w : World) → ItemsFit w w []
  none_fit w = record { declares = omega arith; right = λ may known law h. (refl, h) }

  -- where nothing is declared after it
  pub items_same : (w v u : World) (xs : List Stmt) → Same v u → length v.scalars ≤ length u.scalars → ItemsFit w v xs → ItemsFit w u xs
  items_same w v u xs e l f = record {
    declares = rising_to (length w.scalars) (length v.scalars) (length u.scalars) (flat_map declared_in xs) f.declares l;
    right = λ may known law h.
        let r = f.right may known (lawful_within (length w.scalars) (length w.scalars) (length v.scalars) (length u.scalars) may (omega arith) l law) h in
        (r.0, allows_same may (known_after p may xs known) v u e r.1);
  }

  -- what a list declares with one more statement
  one_more : (lo mid hi : ℕ) (xs : List Stmt) (x : Stmt) → Rising lo mid (flat_map declared_in xs) → Rising mid hi (declared_in x) → Rising lo hi (flat_map declared_in (xs ++ x ∷ []))
  one_more lo mid hi xs x h k =
      subst (Rising lo hi) (sym (flat_map-append declared_in xs (x ∷ [])))
      (rising_both lo mid hi (flat_map declared_in xs) (declared_in x ++ []) h (subst (Rising mid hi) (sym (append-nil (declared_in x))) k))

  pub items_more : (w v u : World) (xs : List Stmt) (x : Stmt) → ItemsFit w v xs → Fits v u x → ItemsFit w u (xs ++ x ∷ [])
  items_more w v u xs x f g =
      let a : ℕ = length w.scalars in
      let b : ℕ = length v.scalars in
      let c : ℕ = length u.scalars in
      let ab : a ≤ b = rising_ends a b (flat_map declared_in xs) f.declares in
      let bc : b ≤ c = rising_ends b c (declared_in x) g.declares in record {
        declares = one_more a b c xs x f.declares g.declares;
        right = λ may known law h.
            let r = f.right may known (lawful_within a a b c may (omega arith) bc law) h in
            let k : List ℕ = known_after p may xs known in
            let q : Right p may x k = g.right may k (lawful_within a b c c may ab (omega arith) law) r.1 in (
              order_both p may xs (x ∷ []) known r.0 (both_true _ true q refl),
              subst (λ l. Allows may l u.names) (sym (after_both p may xs (x ∷ []) known)) (allows_more a c may (scoped p may x).declares k u.names law (allows_same may k v u g.same r.1)),
            );
      }

  -- a declaration of a scalar, whose initialiser sees it already
  pub items_declared : (w v u : World) (xs : List Stmt) (n : scope.Name) (ty : Ty) (value : Option Expr) (at : Place) → ItemsFit w v xs → length u.scalars ≡ length v.scalars + 1 →
      u.names.region ≡ v.names.region → u.names.scopes ≡ scope.declare n (meaning.Scalar (length v.scalars) ty) v.names.scopes →
      AllByRecursion (Seen u.names) (slots_of_terms (terms_of_option p value)) → ItemsFit w u (xs ++ s.Plain (p_of.Declare (length v.scalars) value at) ∷ [])
  items_declared w v u xs n ty value at f l r e see =
      let a : ℕ = length w.scalars in
      let b : ℕ = length v.scalars in
      let c : ℕ = length u.scalars in
      let x : Stmt = s.Plain (p_of.Declare b value at) in
      let ab : a ≤ b = rising_ends a b (flat_map declared_in xs) f.declares in
      let bc : b < c = omega (arith, l) in record {
        declares = one_more a b c xs x f.declares (subst (Rising b c) (sym (declared_plain (p_of.Declare b value at))) (omega arith, omega (arith, l)));
        right = λ may known law h.
            let q = f.right may known (lawful_within a a b c may (omega arith) (omega (arith, bc)) law) h in
            let k : List ℕ = known_after p may xs known in
            let all : Allows may (b ∷ k) u.names = λ slot s.
            new may k slot (law.here k b ab bc) (λ o. law.grows (b ∷ []) k slot (q.1 slot o)) (seen_declared v.names u.names n (meaning.Scalar b ty) slot r e s) in (
              order_both p may xs (x ∷ []) known q.0 (both_true _ true (plain_right p may (p_of.Declare b value at) k (law.here k b ab bc, allow_all may (b ∷ k) u.names (slots_of_terms (terms_of_option p value)) all see)) refl),
              subst (λ l. Allows may l u.names) (sym (after_both p may xs (x ∷ []) known)) (subst (λ d. Allows may (d ++ k) u.names) (sym (plain_declares p may (p_of.Declare b value at))) all),
            );
      }
    where
      slot_in : Meaning → ℕ
      slot_in (meaning.Scalar slot ty) = slot
      slot_in _ = 0

      new : (may : List ℕ → ℕ → Bool) (k : List ℕ) (slot : ℕ) → may (length v.scalars ∷ k) (length v.scalars) ≡ true → (Seen v.names slot → may (length v.scalars ∷ k) slot ≡ true) →
          ((t : Ty) × (meaning.Scalar (length v.scalars) ty ≡ meaning.Scalar slot t)) ⊎ Seen v.names slot → may (length v.scalars ∷ k) slot ≡ true
      new may k slot h o (inl i) = subst (λ m. may (length v.scalars ∷ k) m ≡ true) (ap slot_in i.1) h
      new may k slot h o (inr s) = o s

  -- ---- blocks, `if`, `while`

  pub block_fits : (w v : World) (xs : List Stmt) → Goes (opened w) v → ItemsFit (opened w) v xs → Fits w (closed v) (s.Block xs)
  block_fits w v xs g f = record {
    same = closed_same w v g;
    declares = subst (Rising (length w.scalars) (length v.scalars)) (sym (declared_block xs)) f.declares;
    right = λ may known law h. block_right p may xs known (f.right may known law (λ slot s. h slot (opened_seen w slot s))).0;
  }

  pub if_fits : (w v u t : World) (e : Expr) (a c : Stmt) → Same w v → length w.scalars ≤ length v.scalars → Sees w.names e → Fits v u a → Fits u t c → Fits w t (s.If e a c)
  if_fits w v u t e a c i l see f g =
      let n : ℕ = length w.scalars in
      let m : ℕ = length v.scalars in
      let k : ℕ = length u.scalars in
      let j : ℕ = length t.scalars in
      let mk : m ≤ k = rising_ends m k (declared_in a) f.declares in
      let kj : k ≤ j = rising_ends k j (declared_in c) g.declares in record {
        same = same_trans i (same_trans f.same g.same);
        declares = subst (Rising n j) (sym (declared_if e a c)) (rising_from n m j (declared_in a ++ declared_in c) l (rising_both m k j (declared_in a) (declared_in c) f.declares g.declares));
        right = λ may known law h.
            let hv : Allows may known v.names = allows_same may known w v i h in
            if_right p may e a c known (allow_all may known w.names (slots_of_terms (terms_of p e)) h see)
            (f.right may known (lawful_within n m k j may l kj law) hv)
            (g.right may known (lawful_within n k j j may (omega (arith, l, mk)) (omega arith) law) (allows_same may known v u f.same hv));
      }

  pub while_fits : (w v u : World) (e : Expr) (a : Stmt) (at : Place) → Same w v → length w.scalars ≤ length v.scalars → Sees w.names e → Fits v u a → Fits w u (s.While e a at)
  while_fits w v u e a at i l see f =
      let n : ℕ = length w.scalars in
      let m : ℕ = length v.scalars in
      let k : ℕ = length u.scalars in record {
        same = same_trans i f.same;
        declares = subst (Rising n k) (sym (declared_while e a at)) (rising_from n m k (declared_in a) l f.declares);
        right = λ may known law h.
            while_right p may e a at known (allow_all may known w.names (slots_of_terms (terms_of p e)) h see)
            (f.right may known (lawful_within n m k k may l (omega arith) law) (allows_same may known w v i h));
      }

  -- ---- tasks

  pub no_task_fits : (w : World) → TasksFit w w []
  no_task_fits w = record { same = same_refl w; declares = omega arith; right = λ may known law h. tt }

  more_tasks : (may : List ℕ → ℕ → Bool) (known : List ℕ) (ts : List Task) (t : Task) → AllByRecursion (λ t. TaskRight p may t known) ts → TaskRight p may t known → AllByRecursion (λ t. TaskRight p may t known) (ts ++ t ∷ [])
  more_tasks may known [] t h k = (k, tt)
  more_tasks may known (u ∷ ts) t h k = (h.0, more_tasks may known ts t h.1 k)

  pub one_task_fits : (w v u t : World) (ts : List Task) (nodes : NodeSet) (x : Stmt) (at : Place) → TasksFit w v ts → Same v u → length v.scalars ≤ length u.scalars → Fits u t x →
      TasksFit w t (ts ++ made_task nodes x at ∷ [])
  one_task_fits w v u t ts nodes x at f i l g =
      let n : ℕ = length w.scalars in
      let m : ℕ = length v.scalars in
      let k : ℕ = length u.scalars in
      let j : ℕ = length t.scalars in
      let nm : n ≤ m = rising_ends n m (flat_map declared_in_task ts) f.declares in
      let kj : k ≤ j = rising_ends k j (declared_in x) g.declares in
      let same : Same w t = same_trans f.same (same_trans i g.same) in record {
        same = same;
        declares = subst (Rising n j) (sym (flat_map-append declared_in_task ts (made_task nodes x at ∷ [])))
            (rising_both n m j (flat_map declared_in_task ts) (declared_in_task (made_task nodes x at) ++ []) f.declares
            (subst (Rising m j) (sym (append-nil (declared_in_task (made_task nodes x at))) ∙ refl) (subst (Rising m j) (sym (declared_task nodes x at)) (rising_from m k j (declared_in x) l g.declares))));
        right = λ may known law h.
            more_tasks may known ts (made_task nodes x at) (f.right may known (lawful_within n n m j may (omega arith) (omega (arith, l, kj)) law) h)
            (task_right p may nodes x at known (g.right may known (lawful_within n k j j may (omega (arith, nm, l)) (omega arith) law) (allows_same may known v u i (allows_same may known w v f.same h))));
      }

  pub tasks_fit : (w v u : World) (ts : List Task) (at : Place) → Same w v → length w.scalars ≤ length v.scalars → TasksFit v u ts → Fits w u (s.Tasks ts at)
  tasks_fit w v u ts at i l f =
      let n : ℕ = length w.scalars in
      let m : ℕ = length v.scalars in
      let k : ℕ = length u.scalars in record {
        same = same_trans i f.same;
        declares = subst (Rising n k) (sym (declared_tasks ts at)) (rising_from n m k (flat_map declared_in_task ts) l f.declares);
        right = λ may known law h. tasks_right p may ts at known (f.right may known (lawful_within n m k k may l (omega arith) law) (allows_same may known w v i h));
      }
