-- Where the scalars of functions and of the file's scope lie: those of each function behind those of the functions before it, and none of the file's scope among them.
use Rattle.std.proofs.Common.{◌≡◌, ◌∙◌, sym, ap, refl, subst, ◌⊎◌, inl, inr, ◌++◌, ◌∷◌, [], ℕ, ◌+◌, ◌<◌, ◌≤◌, ◌&&◌, ◌||◌, Bool, true, false, List, Option, Some, None, length, length-append, arith, eq-eqb, eqb-true}
use Rattle.std.specs.Prelude.{not, ◌==◌, nat_lt, is_some, if◌then◌else◌}
use Rattle.std.specs.List.{list_all, flat_map, AllByRecursion}
use Rattle.std.specs.Option.{option_or}
use Rattle.std.proofs.lemmas.Bool.{lt-ltb}
use Rattle.std.proofs.lemmas.Option.{none-some}
use Rattle.std.proofs.lemmas.List.Folds.{list_any-append}
use Rattle.xmp_num.specs.declared.types.Ty.{Ty}
use Rattle.xmp_scopes.specs.Names as scope
use Rattle.xmp_prog.specs.declared.statements.Stmt as made
use Rattle.xmp_prog.specs.declared.statements.Stmt.TheVariants as s
use Rattle.xmp_prog.specs.declared.parts.Function as made_function
use Rattle.xmp_prog.specs.declared.parts.ProgParts.{ProgParts}
use Rattle.xmp_prog.specs.Numbers.{is_in}
use Rattle.xmp_prog.specs.Statements.{slots_of_stmt}
use Rattle.xmp_prog.specs.Scopes.{declared_in, scalars_fit, in_function}
use Rattle.xmp_syntax.specs.declared.parts.Name as named
use Rattle.xmp_syntax.specs.declared.parts.TypeWords.{TypeWords}
use Rattle.xmp_names.specs.declared.names.Region.TheVariants as region
use Rattle.xmp_names.specs.declared.names.Meaning.{Meaning}
use Rattle.xmp_names.specs.declared.names.Meaning.TheVariants.{Scalar}
use Rattle.xmp_names.specs.declared.world.World.{World}
use Rattle.xmp_names.specs.Expressions.{is_first}
use Rattle.xmp_names.specs.Walk as walk
use Rattle.xmp_walk.specs.Program.{parameter_of}
use Rattle.xmp_walk.specs.Declarations.{type_of}
use Rattle.xmp_fits.proofs.Laters.{Scopes}
use Rattle.xmp_fits.proofs.KeptRuns.{Goes}
use Rattle.xmp_fits.proofs.Respected.{Ends}
use Rattle.xmp_fits.proofs.SameRuns.{may_see, declared_means, seen_declared, Same, IsNoScalar, no_scalar}
use Rattle.xmp_fits.proofs.TermsFit.{Seen}
use Rattle.xmp_fits.proofs.ScopedForms.{Rising, rising_ends, rising_both, declared_block, block_right}
use Rattle.xmp_fits.proofs.ScopedFits.{Lawful, longer, ItemsFit}
use Rattle.xmp_fits.proofs.NamedSlots.{named_slots}

-- ---- numbers in lists

pub in_left : (ns ms : List ℕ) (n : ℕ) → is_in ns n ≡ true → is_in (ns ++ ms) n ≡ true
in_left ns ms n h = list_any-append (λ m. m == n) ns ms ∙ ap (λ b. b || is_in ms n) h

or_true : (b : Bool) → (b || true) ≡ true
or_true true = refl
or_true false = refl

pub in_right : (ns ms : List ℕ) (n : ℕ) → is_in ms n ≡ true → is_in (ns ++ ms) n ≡ true
in_right ns ms n h = list_any-append (λ m. m == n) ns ms ∙ (ap (λ b. is_in ns n || b) h ∙ or_true (is_in ns n))

pub in_first : (ns : List ℕ) (n : ℕ) → is_in (n ∷ ns) n ≡ true
in_first ns n = ap (λ b. b || is_in ns n) (eq-eqb n n refl)

-- what is in a list is its first or in the rest
pub in_cons : (m : ℕ) (ns : List ℕ) (n : ℕ) → is_in (m ∷ ns) n ≡ true → (m ≡ n) ⊎ (is_in ns n ≡ true)
in_cons m ns n h = by (m == n) refl h
  where
    by : (b : Bool) → (m == n) ≡ b → (b || is_in ns n) ≡ true → (m ≡ n) ⊎ (is_in ns n ≡ true)
    by true e h = inl (eqb-true m n e)
    by false e h = inr h

pub rising_in : (lo hi : ℕ) (ns : List ℕ) (n : ℕ) → Rising lo hi ns → is_in ns n ≡ true → (lo ≤ n) × (n < hi)
rising_in lo hi [] n h k = absurd (cc)
rising_in lo hi (m ∷ ns) n h k = by (λ i. rising_in (m + 1) hi ns n h.1 i) (in_cons m ns n k)
  where
    by : (is_in ns n ≡ true → (m + 1 ≤ n) × (n < hi)) → (m ≡ n) ⊎ (is_in ns n ≡ true) → (lo ≤ n) × (n < hi)
    by rest (inl e) = let l : lo ≤ m = h.0 in let r : m + 1 ≤ hi = rising_ends (m + 1) hi ns h.1 in (omega (arith, e, l), omega (arith, e, r))
    by rest (inr i) = let q = rest i in let l : lo ≤ m = h.0 in let a : m + 1 ≤ n = q.0 in (omega (arith, l, a), q.1)

-- from a number on, and below another
abbrev pub between : ℕ → ℕ → ℕ → Bool
between a c n = nat_lt a (n + 1) && nat_lt n c

pub is_between : (a c n : ℕ) → a ≤ n → n < c → between a c n ≡ true
is_between a c n h k = ap (λ b. b && nat_lt n c) (lt-ltb a (n + 1) (omega (arith, h))) ∙ lt-ltb n c k

-- ---- who may stand

pub in_function_lawful : (from to : ℕ) → Lawful from to in_function
in_function_lawful from to = record { grows = λ more known slot h. in_right more known slot h; here = λ known slot h k. in_first known slot }

pub between_lawful : (a c from to : ℕ) → a ≤ from → to ≤ c → Lawful from to (λ known n. between a c n)
between_lawful a c from to h k = record { grows = λ more known slot i. i; here = λ known slot i j. is_between a c slot (omega (arith, h, i)) (omega (arith, j, k)) }

-- ---- parameters

-- The slots of parameters so far; all that is seen is one of them, or of the file's scope.
pub record Parameters (out : List ℕ) (a : ℕ) (m : World) (done : List ℕ) : Type 0 where
  pub rising : Rising a (length m.scalars) done
  pub seen : (slot : ℕ) → Seen m.names slot → (is_in done slot ≡ true) ⊎ (is_in out slot ≡ true)

abbrev slot_in : Meaning → ℕ
slot_in (Scalar slot ty) = slot
slot_in _ = 0

pub parameters_end : (out : List ℕ) (a : ℕ) (ps : List (TypeWords × named.Name)) (done : List ℕ) (m : World) → Parameters out a m done → Ends (λ slots v. Parameters out a v slots) (walk.each_after parameter_of done ps m)
parameters_end out a [] done m h = h
parameters_end out a (x ∷ ps) done m h =
    let k : ℕ = length m.scalars in
    let l : length (m.scalars ++ type_of x.0 ∷ []) ≡ k + 1 = length-append m.scalars (type_of x.0 ∷ []) in
    parameters_end out a ps (done ++ k ∷ []) _ (record {
      rising = rising_both a k (length (m.scalars ++ type_of x.0 ∷ [])) done (k ∷ []) h.rising (omega arith, omega (arith, l));
      seen = λ slot q. new slot (seen_declared m.names _ x.1.text (Scalar k (type_of x.0)) slot refl refl q);
    })
  where
    old : (slot : ℕ) → (is_in done slot ≡ true) ⊎ (is_in out slot ≡ true) → (is_in (done ++ length m.scalars ∷ []) slot ≡ true) ⊎ (is_in out slot ≡ true)
    old slot (inl i) = inl (in_left done (length m.scalars ∷ []) slot i)
    old slot (inr i) = inr i

    new : (slot : ℕ) → ((t : Ty) × (Scalar (length m.scalars) (type_of x.0) ≡ Scalar slot t)) ⊎ Seen m.names slot → (is_in (done ++ length m.scalars ∷ []) slot ≡ true) ⊎ (is_in out slot ≡ true)
    new slot (inl i) = inl (subst (λ n. is_in (done ++ length m.scalars ∷ []) n ≡ true) (ap slot_in i.1) (in_right done (length m.scalars ∷ []) (length m.scalars) (in_first [] (length m.scalars))))
    new slot (inr q) = old slot (h.seen slot q)

-- ---- the scopes of functions

-- In a function no scalar of the file's scope is seen.
pub hidden : (k : scope.Name) (d : List (scope.Name × Meaning)) (m : Meaning) → scope.nearest k ([] ∷ d ∷ []) ≡ Some m → may_see region.Function ([] ∷ d ∷ []) k ≡ true → ⊥
hidden k d m e h = by (scope.in_scope k d) e h
  where
    by : (o : Option Meaning) → option_or o None ≡ Some m → (false || not (is_first (if is_some o then Some (length (d ∷ [])) else None))) ≡ true → ⊥
    by None e h = none-some m e
    by (Some x) e h = cc

-- A declaration of no scalar tells of none.
pub means_before : (k n : scope.Name) (x : Meaning) (slot : ℕ) (ty : Ty) (ss : Scopes) → IsNoScalar x → scope.nearest k (scope.declare n x ss) ≡ Some (Scalar slot ty) → scope.nearest k ss ≡ Some (Scalar slot ty)
means_before k n x slot ty ss none e = by (declared_means region.File k n x (Scalar slot ty) ss e refl)
  where
    by : (x ≡ Scalar slot ty) ⊎ ((scope.nearest k ss ≡ Some (Scalar slot ty)) × (may_see region.File ss k ≡ true)) → scope.nearest k ss ≡ Some (Scalar slot ty)
    by (inl i) = absurd (no_scalar x slot ty none i)
    by (inr i) = i.0

-- At file scope each name may be named.
pub seen_file : (w : World) (n : named.Name) (slot : ℕ) (ty : Ty) → w.names.region ≡ region.File → scope.nearest n.text w.names.scopes ≡ Some (Scalar slot ty) → Seen w.names slot
seen_file w n slot ty file e = record { name = n; ty = ty; means = e; may = ap (λ r. may_see r w.names.scopes n.text) file }

module _ (p : ProgParts) where
  -- ---- a function

  pub record FunctionSited (g : made_function.Function) (a c : ℕ) : Type 0 where
    pub middle : ℕ
    pub parameters : Rising a middle g.parameters
    pub declared : Rising middle c (declared_in g.body)
    pub named : list_all (between a c) (slots_of_stmt p g.body) ≡ true
    pub right : scalars_fit p in_function g.body g.parameters ≡ true

  pub function_sited : (result : Ty) (a : ℕ) (v u : World) (slots : List ℕ) (body : List made.Stmt) → Parameters [] a v slots → ItemsFit p v u body →
      FunctionSited (record { result = result; parameters = slots; body = s.Block body }) a (length u.scalars)
  function_sited result a v u slots body h f =
      let b : ℕ = length v.scalars in
      let c : ℕ = length u.scalars in
      let ab : a ≤ b = rising_ends a b slots h.rising in
      let bc : b ≤ c = rising_ends b c (flat_map declared_in body) f.declares in record {
        middle = b;
        parameters = h.rising;
        declared = subst (Rising b c) (sym (declared_block body)) f.declares;
        named = named_slots p (between a c) (s.Block body) [] (block_right p (λ known n. between a c n) body [] (f.right (λ known n. between a c n) [] (between_lawful a c b c ab (omega arith))
            (λ slot q. let r = rising_in a b slots slot h.rising (mine slot (h.seen slot q)) in let l : slot < b = r.1 in is_between a c slot r.0 (omega (arith, l, bc)))).0);
        right = block_right p in_function body slots (f.right in_function slots (in_function_lawful b c) (λ slot q. mine slot (h.seen slot q))).0;
      }
    where
      mine : (slot : ℕ) → (is_in slots slot ≡ true) ⊎ (is_in [] slot ≡ true) → is_in slots slot ≡ true
      mine slot (inl i) = i
      mine slot (inr i) = absurd (cc)

  -- ---- functions

  abbrev pub Outside : ℕ → ℕ → ℕ → Type 0
  Outside a c n = (n < a) ⊎ (c ≤ n)

  -- Functions one behind the other, each with none of these slots among its own.
  abbrev pub Sited : ℕ → ℕ → List ℕ → List made_function.Function → Type 0
  Sited lo hi out [] = lo ≤ hi
  Sited lo hi out (g ∷ gs) = (a : ℕ) × (c : ℕ) × (lo ≤ a) × (a ≤ c) × FunctionSited g a c × AllByRecursion (Outside a c) out × Sited c hi out gs

  pub sited_ends : (lo hi : ℕ) (out : List ℕ) (gs : List made_function.Function) → Sited lo hi out gs → lo ≤ hi
  sited_ends lo hi out [] h = h
  sited_ends lo hi out (g ∷ gs) h = let r : h.1 ≤ hi = sited_ends h.1 hi out gs h.6 in let l : lo ≤ h.0 = h.2 in let m : h.0 ≤ h.1 = h.3 in omega (arith, r, l, m)

  pub sited_to : (lo mid hi : ℕ) (out : List ℕ) (gs : List made_function.Function) → mid ≤ hi → Sited lo mid out gs → Sited lo hi out gs
  sited_to lo mid hi out [] h k = let l : lo ≤ mid = k in omega (arith, h, l)
  sited_to lo mid hi out (g ∷ gs) h k = (k.0, k.1, k.2, k.3, k.4, k.5, sited_to k.1 mid hi out gs h k.6)

  -- one more slot of the file's scope
  pub sited_slot : (lo hi n : ℕ) (out : List ℕ) (gs : List made_function.Function) → hi ≤ n → Sited lo hi out gs → Sited lo hi (n ∷ out) gs
  sited_slot lo hi n out [] h k = k
  sited_slot lo hi n out (g ∷ gs) h k = let r : k.1 ≤ hi = sited_ends k.1 hi out gs k.6 in (k.0, k.1, k.2, k.3, k.4, (inr (omega (arith, r, h)), k.5), sited_slot k.1 hi n out gs h k.6)

  all_below : (a c : ℕ) (out : List ℕ) → AllByRecursion (λ n. n < a) out → AllByRecursion (Outside a c) out
  all_below a c [] h = tt
  all_below a c (n ∷ out) h = (inl h.0, all_below a c out h.1)

  -- one more function
  pub sited_more : (lo a c : ℕ) (out : List ℕ) (gs : List made_function.Function) (g : made_function.Function) → AllByRecursion (λ n. n < a) out → a ≤ c → FunctionSited g a c → Sited lo a out gs → Sited lo c out (gs ++ g ∷ [])
  sited_more lo a c out [] g b l f k = (a, c, k, l, f, all_below a c out b, omega arith)
  sited_more lo a c out (h ∷ gs) g b l f k = (k.0, k.1, k.2, k.3, k.4, k.5, sited_more k.1 a c out gs g b l f k.6)

  -- ---- at file scope

  pub record FileSites (w : World) : Type 0 where
    -- the slots of the file's scope
    pub out : List ℕ
    pub below : AllByRecursion (λ n. n < length w.scalars) out
    pub sited : Sited 0 (length w.scalars) out w.functions
    pub seen : (slot : ℕ) → Seen w.names slot → is_in out slot ≡ true
    pub starts : AllByRecursion (λ x. is_in out x.slot ≡ true) w.start

  pub below_more : (a b : ℕ) (out : List ℕ) → a ≤ b → AllByRecursion (λ n. n < a) out → AllByRecursion (λ n. n < b) out
  below_more a b [] h k = tt
  below_more a b (n ∷ out) h k = let l : n < a = k.0 in (omega (arith, l, h), below_more a b out h k.1)

  -- where no scalar is declared
  abbrev pub sites_same : (w v : World) → Goes w v → Same w v → FileSites w → FileSites v
  sites_same w v g e f = record {
    out = f.out;
    below = below_more (length w.scalars) (length v.scalars) f.out (longer g) f.below;
    sited = subst (Sited 0 (length v.scalars) f.out) (sym g.onward.functions) (sited_to 0 (length w.scalars) (length v.scalars) f.out w.functions (longer g) f.sited);
    seen = λ slot q. f.seen slot (e.seen slot q);
    starts = subst (λ xs. AllByRecursion (λ x. is_in f.out x.slot ≡ true) xs) (sym g.onward.start) f.starts;
  }
