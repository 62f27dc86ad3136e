-- Conditions on the scalars, arrays and indices that a statement names, and on its terms and the statements in it.
use Rattle.std.proofs.Common.{◌≡◌, ◌++◌, ℕ, Bool, true, List, [], ◌∷◌, map}
use Rattle.std.specs.List.{AllByRecursion, list_all, flat_map}
use Rattle.xmp_prog.specs.declared.parts.ProgParts.{ProgParts}
use Rattle.xmp_prog.specs.declared.statements.Plain.{Plain}
use Rattle.xmp_prog.specs.declared.statements.Plain.TheVariants as plain
use Rattle.xmp_prog.specs.declared.statements.Stmt.TheOpen.{Stmt-F}
use Rattle.xmp_prog.specs.Terms.{Term, slots_of_term, slots_of_terms}
use Rattle.xmp_prog.specs.Statements.{Statement, terms_in, terms_of_plain, slots_in, slots_beside, slots_of_plain, slots_of_side, slots_of_point, plain_writes, arrays_beside, arrays_of_plain, indices_of}
use Rattle.xmp_meaning.specs.Writes.{plain_arrays}
use Rattle.xmp_meaning_laws.specs.Laws.{arrays_of_term, arrays_in}
use Rattle.xmp_meaning_laws.proofs.Conditions.{Conditions, TermsMeet, StatementMeets, set_beside, indices_beside, puts_beside, all_apart}
use Rattle.xmp_map.proofs.Counted.{and_left, and_right}

-- ---- lists

pub all_of_test : {A : Type 0} (test : A → Bool) (xs : List A) → list_all test xs ≡ true → AllByRecursion (λ x. test x ≡ true) xs
all_of_test test [] h = tt
all_of_test test (x ∷ xs) h = (and_left (test x) (list_all test xs) h, all_of_test test xs (and_right (test x) (list_all test xs) h))

pub all_of_each : {A : Type 0} (P : A → Type 0) → ((x : A) → P x) → (xs : List A) → AllByRecursion P xs
all_of_each P h [] = tt
all_of_each P h (x ∷ xs) = (h x, all_of_each P h xs)

pub all_mapped : {A : Type 0} (P Q : A → Type 0) → ((x : A) → P x → Q x) → (xs : List A) → AllByRecursion P xs → AllByRecursion Q xs
all_mapped P Q f [] h = tt
all_mapped P Q f (x ∷ xs) h = (f x h.0, all_mapped P Q f xs h.1)

pub all_of_two : {A : Type 0} (P Q : A → Type 0) (xs : List A) → AllByRecursion P xs → AllByRecursion Q xs → AllByRecursion (λ x. P x × Q x) xs
all_of_two P Q [] h i = tt
all_of_two P Q (x ∷ xs) h i = ((h.0, i.0), all_of_two P Q xs h.1 i.1)

-- ---- conditions by what is named

-- scalars are read and set where S holds, cells of arrays are read and written where T does, and I holds of indices
abbrev pub named : (S T I : ℕ → Type 0) → (Term → Type 0) → (Statement → Type 0) → Conditions
named S T I term statement = record {
  reads = S;
  sets = S;
  indexes = I;
  gets = T;
  puts = T;
  term = term;
  statement = statement;
}

module _ (p : ProgParts) (S T I : ℕ → Type 0) (term : Term → Type 0) (statement : Statement → Type 0) where
  pub terms_meet : (ts : List Term) → AllByRecursion term ts → AllByRecursion S (slots_of_terms ts) → AllByRecursion T (flat_map arrays_of_term ts)
      → TermsMeet (named S T I term statement) ts
  terms_meet [] h s t = tt
  terms_meet (x ∷ ts) h s t =
      let scalars : _ = all_apart S (slots_of_term x) (slots_of_terms ts) s in
      let arrays : _ = all_apart T (arrays_of_term x) (flat_map arrays_of_term ts) t in
      (record { itself = h.0; reads = scalars.0; gets = arrays.0 }, terms_meet ts h.1 scalars.1 arrays.1)

  plain_sets : (q : Plain) → AllByRecursion S (slots_of_plain q) → AllByRecursion S (plain_writes q)
  plain_sets (plain.Cast variables from at) s = tt
  plain_sets (plain.Gmove target source at) s = (all_apart S (slots_of_side target) (slots_of_side source) s).0
  plain_sets (plain.Declare slot value at) s = s
  plain_sets (plain.Set to compound e) s = s
  plain_sets (plain.Return e) s = s
  plain_sets (plain.Call function arguments at) s = s
  plain_sets (plain.Print format arguments at) s = s
  plain_sets (plain.Scan to at) s = s
  plain_sets (plain.Sync status at) s = s
  plain_sets (plain.Reflect arrays at) s = s
  plain_sets (plain.Barrier at) s = s

  sets_named : (y : Statement) → AllByRecursion S (slots_beside y) → AllByRecursion S (set_beside y)
  sets_named (Stmt-F.Plain q) s = plain_sets q s
  sets_named (Stmt-F.Block all) s = tt
  sets_named (Stmt-F.If e a b) s = tt
  sets_named (Stmt-F.While e body at) s = tt
  sets_named (Stmt-F.Counted head body) s = s
  sets_named (Stmt-F.Loop directive body) s =
      (all_apart S (indices_of directive.nest) (map (λ r. r.variable.number) directive.reductions)
      (all_apart S (flat_map slots_of_point directive.points) (indices_of directive.nest ++ map (λ r. r.variable.number) directive.reductions) s).1).0
  sets_named (Stmt-F.Tasks all at) s = tt

  of_other : (y : Statement) → statement y → AllByRecursion S (slots_in p y) → AllByRecursion T (flat_map arrays_of_term (terms_in p y))
      → AllByRecursion I (indices_beside y) → AllByRecursion term (terms_in p y) → AllByRecursion T (arrays_beside y) → AllByRecursion T (puts_beside y)
      → StatementMeets p (named S T I term statement) y
  of_other y is s t i h gets puts =
      let scalars : _ = all_apart S (slots_beside y) (slots_of_terms (terms_in p y)) s in
      record {
        itself = is;
        reads = scalars.0;
        sets = sets_named y scalars.0;
        indexes = i;
        gets = gets;
        puts = puts;
        updates = puts;
        terms = terms_meet (terms_in p y) h scalars.1 t;
      }

  -- what is said of a statement by itself, of its scalars, its arrays, its indices and its terms
  pub statement_meets : (y : Statement) → statement y → AllByRecursion S (slots_in p y) → AllByRecursion T (arrays_in p y) → AllByRecursion I (indices_beside y)
      → AllByRecursion term (terms_in p y) → StatementMeets p (named S T I term statement) y
  statement_meets (Stmt-F.Plain q) is s t i h =
      let scalars : _ = all_apart S (slots_of_plain q) (slots_of_terms (terms_of_plain p q)) s in
      let arrays : _ = all_apart T (arrays_of_plain q) (plain_arrays q ++ flat_map arrays_of_term (terms_of_plain p q)) t in
      let puts : _ = all_apart T (plain_arrays q) (flat_map arrays_of_term (terms_of_plain p q)) arrays.1 in
      record {
        itself = is;
        reads = scalars.0;
        sets = plain_sets q scalars.0;
        indexes = i;
        gets = arrays.0;
        puts = puts.0;
        updates = puts.0;
        terms = terms_meet (terms_of_plain p q) h scalars.1 puts.1;
      }
  statement_meets (Stmt-F.Block all) is s t i h = of_other (Stmt-F.Block all) is s t i h tt tt
  statement_meets (Stmt-F.If e a b) is s t i h = of_other (Stmt-F.If e a b) is s t i h tt tt
  statement_meets (Stmt-F.While e body at) is s t i h = of_other (Stmt-F.While e body at) is s t i h tt tt
  statement_meets (Stmt-F.Counted head body) is s t i h = of_other (Stmt-F.Counted head body) is s t i h tt tt
  statement_meets (Stmt-F.Loop directive body) is s t i h = of_other (Stmt-F.Loop directive body) is s t i h tt tt
  statement_meets (Stmt-F.Tasks all at) is s t i h = of_other (Stmt-F.Tasks all at) is s t i h tt tt

  -- the same of several
  pub statements_meet : (ys : List Statement) → AllByRecursion statement ys → AllByRecursion S (flat_map (slots_in p) ys)
      → AllByRecursion T (flat_map (arrays_in p) ys) → AllByRecursion I (flat_map indices_beside ys) → AllByRecursion term (flat_map (terms_in p) ys)
      → AllByRecursion (StatementMeets p (named S T I term statement)) ys
  statements_meet [] is s t i h = tt
  statements_meet (y ∷ ys) is s t i h =
      let scalars : _ = all_apart S (slots_in p y) (flat_map (slots_in p) ys) s in
      let arrays : _ = all_apart T (arrays_in p y) (flat_map (arrays_in p) ys) t in
      let indices : _ = all_apart I (indices_beside y) (flat_map indices_beside ys) i in
      let terms : _ = all_apart term (terms_in p y) (flat_map (terms_in p) ys) h in
      (statement_meets y is.0 scalars.0 arrays.0 indices.0 terms.0, statements_meet ys is.1 scalars.1 arrays.1 indices.1 terms.1)
