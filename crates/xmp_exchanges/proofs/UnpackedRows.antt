-- A node that unpacks tables of words, and what the definition unpacks.
use Rattle.std.proofs.Common.{◌≡◌, ◌<◌, ◌≤◌, ◌+◌, ◌∙◌, ℕ, zero, suc, ℤ, List, [], ◌∷◌, length, map, Option, Some, refl, sym, ap, subst, arith, zero-add}
use Rattle.std.specs.Prelude.{slice_get, unwrap_or, nat_le, true}
use Rattle.std.specs.List.{range_with_len, list_all}
use Rattle.std.proofs.lemmas.Bool.Decides.{nat_tests}
use Rattle.std.proofs.lemmas.Option.{slice_get_within, same_Some}
use Rattle.xmp_move.specs.declared.kind.MoveKind.{MoveKind}
use Rattle.xmp_move.specs.Ways.{Pair, Ways, sends, fills}
use Rattle.xmp_move.specs.Kinds.{ways_of, pairs_of}
use Rattle.xmp_move.specs.Stores.{packed, write_all, unpacked_of}
use Rattle.xmp_move.specs.Plans.{Lists, peers_of, sends_to, fills_from}
use Rattle.xmp_nodes.proofs.Each.{Alone, there, ranged_at}
use Rattle.xmp_exchanges.specs.declared.words.Place.{Place}
use Rattle.xmp_exchanges.specs.Places.{words_at}
use Rattle.xmp_exchanges.specs.Plans.{lists_of, plans_of, list_at, packed_for}
use Rattle.xmp_exchanges.specs.Delivered.{delivered, fills_in, fills_on}
use Rattle.xmp_exchanges.specs.Told.{tables_of}

-- ---- tables

-- a list of a range's by its number
pub listed : {A : Type 0} (f : ℕ → List A) (n k : ℕ) → k < n → list_at (map f (range_with_len 0 n)) k ≡ f k
listed f n k h = ap (λ o. unwrap_or o []) (ranged_at f n k h)

range_long : (a n : ℕ) → length (range_with_len a n) ≡ n
range_long a zero = refl
range_long a (suc n) = ap suc (range_long (a + 1) n)

mapped_long : {A B : Type 0} (f : A → B) (xs : List A) → length (map f xs) ≡ length xs
mapped_long f [] = refl
mapped_long f (x ∷ xs) = ap suc (mapped_long f xs)

pub ranged_long : {A : Type 0} (f : ℕ → A) (n : ℕ) → length (map f (range_with_len 0 n)) ≡ n
ranged_long f n = mapped_long f (range_with_len 0 n) ∙ range_long 0 n

pub tables_long : (source : Place) (count : ℕ) (plans : List Lists) (stores : List Alone) → length plans ≡ length stores
    → length (tables_of source count plans stores) ≡ length stores
tables_long source count [] [] e = refl
tables_long source count [] (s ∷ stores) e = absurd (omega (arith, e))
tables_long source count (p ∷ plans) [] e = absurd (omega (arith, e))
tables_long source count (p ∷ plans) (s ∷ stores) e = ap suc (tables_long source count plans stores (omega (arith, e)))

-- a table is that of its node
pub table_at : (source : Place) (count : ℕ) (plans : List Lists) (stores : List Alone) (j : ℕ) (p : Lists) (s : Alone)
    → slice_get plans j ≡ Some p → slice_get stores j ≡ Some s → slice_get (tables_of source count plans stores) j ≡ Some (packed_for p.sends (words_at source s) count)
table_at source count [] stores j p s e f = cc
table_at source count (q ∷ plans) [] j p s e f = cc
table_at source count (q ∷ plans) (t ∷ stores) zero p s e f =
    λ i. Some (packed_for (same_Some q p e i).sends (words_at source (same_Some t s f i)) count)
table_at source count (q ∷ plans) (t ∷ stores) (suc j) p s e f = table_at source count plans stores j p s e f

-- ---- what is unpacked

module _ (conv : ℤ → ℤ) (ways : Ways) (pairs : List Pair) (src : ℕ → List ℤ) (own : List ℤ) (node : ℕ) (slots : List (List ℕ)) where
  pub delivered_is : (from : ℕ) (tables : List (List (List ℤ)))
      → ((j : ℕ) (t : List (List ℤ)) → slice_get tables j ≡ Some t → list_at t node ≡ packed (src (from + j)) (sends ways pairs (from + j) node))
      → ((j : ℕ) → j < length tables → list_at slots (from + j) ≡ fills ways pairs node (from + j))
      → delivered conv slots node from own tables ≡ unpacked_of conv ways pairs src own node (range_with_len from (length tables))
  unfolding unpacked_of
  delivered_is from [] words filled = refl
  delivered_is from (t ∷ ts) words filled =
      let z : from + 0 ≡ from = omega arith in
      let w : list_at t node ≡ packed (src from) (sends ways pairs from node) = words 0 t refl ∙ ap (λ k. packed (src k) (sends ways pairs k node)) z in
      let f : list_at slots from ≡ fills ways pairs node from = subst (λ k. list_at slots k ≡ fills ways pairs node k) z (filled 0 (omega arith)) in
      let rest = delivered_is (from + 1) ts
      (λ j u e. let m : from + suc j ≡ from + 1 + j = omega arith in subst (λ k. list_at u node ≡ packed (src k) (sends ways pairs k node)) m (words (suc j) u e))
      (λ j l. let m : from + suc j ≡ from + 1 + j = omega arith in subst (λ k. list_at slots k ≡ fills ways pairs node k) m (filled (suc j) (omega (arith, l)))) in
      λ i. write_all (rest i) (f i) (map conv (w i))

-- the plan of a node that is there
pub plan_there : (kind : MoveKind) (args : List ℤ) (count k : ℕ) → k < count → slice_get (plans_of kind args count) k ≡ Some (lists_of kind args k)
plan_there kind args count k h = ranged_at (lists_of kind args) count k h

-- what the nodes' plans and words deliver to one of them
pub delivers : (conv : ℤ → ℤ) (kind : MoveKind) (args : List ℤ) (source : Place) (count : ℕ) (stores : List Alone) (src : ℕ → List ℤ) (own : List ℤ) (node : ℕ)
    → length stores ≡ count → count ≤ peers_of kind → node < count
    → ((j : ℕ) (s : Alone) → slice_get stores j ≡ Some s → src j ≡ words_at source s)
    → delivered conv (fills_on (plans_of kind args count) node) node 0 own (tables_of source count (plans_of kind args count) stores)
    ≡ unpacked_of conv (ways_of kind) (pairs_of kind args) src own node (range_with_len 0 count)
delivers conv kind args source count stores src own node many enough below same =
    ap (λ o. delivered conv (fills_in o) node 0 own tables) (plan_there kind args count node below)
    ∙ delivered_is conv (ways_of kind) (pairs_of kind args) src own node (lists_of kind args node).fills 0 tables words filled
    ∙ ap (λ n. unpacked_of conv (ways_of kind) (pairs_of kind args) src own node (range_with_len 0 n)) long
  where
    plans : List Lists
    plans = plans_of kind args count

    tables : List (List (List ℤ))
    tables = tables_of source count plans stores

    long : length tables ≡ count
    long = tables_long source count plans stores (ranged_long (lists_of kind args) count ∙ sym many) ∙ many

    words : (j : ℕ) (t : List (List ℤ)) → slice_get tables j ≡ Some t → list_at t node ≡ packed (src (0 + j)) (sends (ways_of kind) (pairs_of kind args) (0 + j) node)
    words j t e =
        let in_tables = slice_get_within tables j t e in
        let lj : j < count = omega (arith, in_tables, long) in
        let s = there stores j (omega (arith, lj, many)) in
        let p = plan_there kind args count j lj in
        let is : packed_for (lists_of kind args j).sends (words_at source s.0) count ≡ t = same_Some _ t (sym (table_at source count plans stores j (lists_of kind args j) s.0 p s.1) ∙ e) in
        let lp : node < peers_of kind = omega (arith, below, enough) in
        let made : list_at t node ≡ packed (src j) (sends (ways_of kind) (pairs_of kind args) j node) =
        ap (λ l. list_at l node) (sym is)
        ∙ listed (λ to. packed (words_at source s.0) (list_at (lists_of kind args j).sends to)) count node below
        ∙ ap (packed (words_at source s.0)) (listed (sends_to kind args j) (peers_of kind) node lp)
        ∙ ap (λ r. packed r (sends (ways_of kind) (pairs_of kind args) j node)) (sym (same j s.0 s.1)) in
        subst (λ k. list_at t node ≡ packed (src k) (sends (ways_of kind) (pairs_of kind args) k node)) (sym (zero-add j)) made

    filled : (j : ℕ) → j < length tables → list_at (lists_of kind args node).fills (0 + j) ≡ fills (ways_of kind) (pairs_of kind args) node (0 + j)
    filled j l =
        let lp : j < peers_of kind = omega (arith, l, long, enough) in
        subst (λ k. list_at (lists_of kind args node).fills k ≡ fills (ways_of kind) (pairs_of kind args) node k) (sym (zero-add j))
        (listed (fills_from kind args node) (peers_of kind) j lp)

-- ---- what is said

-- a message of the tables is what one node has for another
pub message_is : (kind : MoveKind) (args : List ℤ) (source : Place) (count : ℕ) (stores : List Alone) (src : ℕ → List ℤ) (from to : ℕ)
    → length stores ≡ count → count ≤ peers_of kind → from < count → to < count
    → ((j : ℕ) (s : Alone) → slice_get stores j ≡ Some s → src j ≡ words_at source s)
    → list_at (list_at (tables_of source count (plans_of kind args count) stores) from) to ≡ packed (src from) (sends (ways_of kind) (pairs_of kind args) from to)
message_is kind args source count stores src from to many enough lf lt same =
    let s = there stores from (omega (arith, lf, many)) in
    let p = plan_there kind args count from lf in
    let lp : to < peers_of kind = omega (arith, lt, enough) in
    ap (λ (o : Option (List (List ℤ))). list_at (unwrap_or o []) to) (table_at source count (plans_of kind args count) stores from (lists_of kind args from) s.0 p s.1)
    ∙ listed (λ k. packed (words_at source s.0) (list_at (lists_of kind args from).sends k)) count to lt
    ∙ ap (packed (words_at source s.0)) (listed (sends_to kind args from) (peers_of kind) to lp)
    ∙ ap (λ r. packed r (sends (ways_of kind) (pairs_of kind args) from to)) (sym (same from s.0 s.1))

-- ---- lists for each node

at_most : (a b : ℕ) → a ≤ b → nat_le a b ≡ true
at_most a b h = grind (arith, nat_tests)

all_long : (f : Lists → List (List ℕ)) (n : ℕ) (plans : List Lists) → ((k : ℕ) (p : Lists) → slice_get plans k ≡ Some p → nat_le n (length (f p)) ≡ true)
    → list_all (λ p. nat_le n (length (f p))) plans ≡ true
all_long f n [] h = refl
all_long f n (p ∷ plans) h = rw (h 0 p refl) (all_long f n plans (λ k q e. h (suc k) q e))

pub plans_long : (f : Lists → List (List ℕ)) (kind : MoveKind) (args : List ℤ) (count n : ℕ) → ((k : ℕ) → length (f (lists_of kind args k)) ≡ peers_of kind) → n ≤ peers_of kind
    → list_all (λ p. nat_le n (length (f p))) (plans_of kind args count) ≡ true
plans_long f kind args count n long enough = all_long f n (plans_of kind args count) each
  where
    each : (k : ℕ) (p : Lists) → slice_get (plans_of kind args count) k ≡ Some p → nat_le n (length (f p)) ≡ true
    each k p e =
        let l = slice_get_within (plans_of kind args count) k p e in
        let m = ranged_long (lists_of kind args) count in
        let is : lists_of kind args k ≡ p = same_Some _ p (sym (plan_there kind args count k (omega (arith, l, m))) ∙ e) in
        subst (λ q. nat_le n (length (f q)) ≡ true) is (subst (λ m. nat_le n m ≡ true) (sym (long k)) (at_most n (peers_of kind) enough))
