-- The ends of parts joined: the values combined, or the end that comes first.
use Rattle.std.proofs.Common.{◌≡◌, ◌≢◌, ◌<◌, ◌≤◌, ◌+◌, if◌then◌else◌, ℕ, zero, suc, ℤ, Bool, true, false, true≢false, List, [], ◌∷◌, map, Option, Some, None, refl, sym, subst, ap, ◌∙◌, ⊎_elim, arith}
use Rattle.std.specs.Prelude.{int_lt}
use Rattle.std.specs.List.{range_with_len}
use Rattle.std.specs.Ordering.{int_eq}
use Rattle.std.proofs.lemmas.Int.{ints}
use Rattle.std.proofs.lemmas.Bool.Decides.{Decides-int_eq}
use Rattle.xmp_num.specs.Reduction.{combine_of, unit_of}
use Rattle.xmp_prog.specs.declared.parts.ProgParts.{ProgParts}
use Rattle.xmp_prog.specs.declared.statements.Reduction.{Reduction}
use Rattle.xmp_meaning.specs.declared.ends.End.{End}
use Rattle.xmp_meaning.specs.Declarations.{scalar_type}
use Rattle.xmp_meaning.specs.Exchanges.{PartEnd}
use Rattle.xmp_meaning.specs.LoopEnds.{comes_before, combined, joined_by, joined, all_joined, no_turn}
use Rattle.xmp_nodes.proofs.Totals.{total_of, below_or_last}

-- ---- the order of the loops

not_back : (a b : ℤ) → int_lt a b ≡ true → int_lt b a ≡ true → ⊥
not_back a b l m = omega (arith, ints, l, m)

less_one_way : (a b : ℤ) (c : Bool) → int_lt b a ≡ c → int_lt a b ≡ true → int_lt b a ≡ false
less_one_way a b true e l = absurd (not_back a b l e)
less_one_way a b false e l = e

equal_back : (a b : ℤ) (c : Bool) → int_eq a b ≡ c → int_eq b a ≡ c
equal_back a b true e = (Decides-int_eq b a).1 (sym ((Decides-int_eq a b).0 e))
equal_back a b false e = at_test (int_eq b a) refl
  where
    at_test : (d : Bool) → int_eq b a ≡ d → int_eq b a ≡ false
    at_test true f = absurd (true≢false (sym ((Decides-int_eq a b).1 (sym ((Decides-int_eq b a).0 f))) ∙ e))
    at_test false f = f

pub comes_one_way : (a b : List ℤ) → comes_before a b ≡ true → comes_before b a ≡ false
comes_one_way [] [] h = refl
comes_one_way [] (b ∷ bs) h = refl
comes_one_way (a ∷ vs) [] h = refl
comes_one_way (a ∷ vs) (b ∷ bs) h = at_test (comes_one_way vs bs) (int_eq a b) refl h
  where
    at_test : (comes_before vs bs ≡ true → comes_before bs vs ≡ false) → (c : Bool) → int_eq a b ≡ c → (if c then comes_before vs bs else int_lt a b) ≡ true
        → comes_before (b ∷ bs) (a ∷ vs) ≡ false
    at_test rest true e f = ap (λ c. if c then comes_before bs vs else int_lt b a) (equal_back a b true e) ∙ rest f
    at_test rest false e f = ap (λ c. if c then comes_before bs vs else int_lt b a) (equal_back a b false e) ∙ less_one_way a b (int_lt b a) refl f

-- ---- two ends

-- a part that comes to its end, or ends early behind some indices
abbrev pub Behind : List ℤ → Option End → List ℤ → Type 0
Behind vs None indices = Unit {0}
Behind vs (Some e) indices = comes_before vs indices ≡ true

abbrev pub EndsLater : List ℤ → PartEnd → Type 0
EndsLater vs a = Behind vs a.ended a.indices

module _ (p : ProgParts) (rs : List Reduction) where
  join_later : (vs : List ℤ) (x y : Option End) (a b : PartEnd) → a.ended ≡ x → b.ended ≡ y → EndsLater vs a → EndsLater vs b
      → EndsLater vs (joined_by x y p rs a b)
  join_later vs None None a b e f h k = h
  join_later vs None (Some g) a b e f h k = k
  join_later vs (Some d) None a b e f h k = h
  join_later vs (Some d) (Some g) a b e f h k = at_test (comes_before b.indices a.indices)
    where
      at_test : (c : Bool) → EndsLater vs (if c then b else a)
      at_test true = k
      at_test false = h

  join_first : (x : Option End) (g : End) (a b : PartEnd) → a.ended ≡ x → EndsLater b.indices a → joined_by x (Some g) p rs a b ≡ b
  join_first None g a b e h = refl
  join_first (Some d) g a b e h = ap (λ c. if c then b else a) (subst (λ z. Behind b.indices z a.indices) e h)

  join_kept : (y : Option End) (d : End) (a b : PartEnd) → b.ended ≡ y → EndsLater a.indices b → joined_by (Some d) y p rs a b ≡ a
  join_kept None d a b e h = refl
  join_kept (Some g) d a b e h =
      ap (λ c. if c then b else a) (comes_one_way a.indices b.indices (subst (λ z. Behind a.indices z b.indices) e h))

  -- ---- all ends

  -- the ends of the first nodes joined
  abbrev pub joined_first : (ℕ → PartEnd) → ℕ → PartEnd
  joined_first e zero = no_turn p rs
  joined_first e (suc n) = joined p rs (joined_first e n) (e n)

  joined_from : (e : ℕ → PartEnd) (n i : ℕ) → all_joined p rs (joined_first e i) (map e (range_with_len i n)) ≡ joined_first e (i + n)
  joined_from e zero i = ap (joined_first e) (let q : i ≡ i + zero = omega arith in q)
  joined_from e (suc n) i =
      ap (λ j. all_joined p rs (joined_first e (suc i)) (map e (range_with_len j n))) (let q : i + 1 ≡ suc i = omega arith in q)
      ∙ joined_from e n (suc i) ∙ ap (joined_first e) (let q : suc i + n ≡ i + suc n = omega arith in q)

  pub all_are_joined : (e : ℕ → PartEnd) (n : ℕ) → all_joined p rs (no_turn p rs) (map e (range_with_len 0 n)) ≡ joined_first e n
  all_are_joined e n = joined_from e n 0 ∙ ap (joined_first e) (let q : 0 + n ≡ n = omega arith in q)

  -- the end that comes first is that of all
  module _ (e : ℕ → PartEnd) (count node : ℕ) (end : End) (fell : (e node).ended ≡ Some end)
      (others : (k : ℕ) → k < count → k ≢ node → EndsLater (e node).indices (e k)) where
    before_it : (n : ℕ) → n ≤ node → n ≤ count → EndsLater (e node).indices (joined_first e n)
    before_it zero l m = tt
    before_it (suc n) l m =
        join_later (e node).indices (joined_first e n).ended (e n).ended (joined_first e n) (e n) refl refl
        (before_it n (omega (arith, l)) (omega (arith, m))) (others n (omega (arith, m)) (λ s. absurd (omega (arith, l, s))))

    at_it : node < count → joined_first e (suc node) ≡ e node
    at_it below =
        ap (λ y. joined_by (joined_first e node).ended y p rs (joined_first e node) (e node)) fell
        ∙ join_first (joined_first e node).ended end (joined_first e node) (e node) refl (before_it node (omega arith) (omega (arith, below)))

    pub first_of_all : (n : ℕ) → node < n → n ≤ count → joined_first e n ≡ e node
    first_of_all zero l m = absurd (omega (arith, l))
    first_of_all (suc n) l m =
        ⊎_elim
        (λ b.
        let so_far : joined_first e n ≡ e node = first_of_all n b (omega (arith, m)) in
        ap (λ a. joined p rs a (e n)) so_far
        ∙ ap (λ x. joined_by x (e n).ended p rs (e node) (e n)) fell
        ∙ join_kept (e n).ended end (e node) (e n) refl (others n (omega (arith, m)) (λ s. absurd (omega (arith, b, s)))))
        (λ s. ap (λ j. joined_first e (suc j)) (sym s) ∙ at_it (omega (arith, m, s)))
        (below_or_last node n l)

  -- ---- without an early end

  combined_mapped : (f g : Reduction → ℤ) (all : List Reduction)
      → combined p all (map f all) (map g all) ≡ map (λ r. combine_of r.op (scalar_type p r.variable.number) (f r) (g r)) all
  combined_mapped f g [] = refl
  combined_mapped f g (r ∷ all) = ap (λ zs. combine_of r.op (scalar_type p r.variable.number) (f r) (g r) ∷ zs) (combined_mapped f g all)

  abbrev pub total_at : (ℕ → Reduction → ℤ) → ℕ → Reduction → ℤ
  total_at value n r = total_of (combine_of r.op (scalar_type p r.variable.number)) (unit_of r.op (scalar_type p r.variable.number)) (λ k. value k r) n

  pub record EndsWhole (values : List ℤ) (a : PartEnd) : Type 0 where
    pub ended : a.ended ≡ None
    pub has : a.values ≡ values

  module _ (e : ℕ → PartEnd) (value : ℕ → Reduction → ℤ) (count : ℕ) (whole : (k : ℕ) → k < count → EndsWhole (map (value k) rs) (e k)) where
    pub whole_of_all : (n : ℕ) → n ≤ count → EndsWhole (map (total_at value n) rs) (joined_first e n)
    whole_of_all zero l = record { ended = refl; has = refl }
    whole_of_all (suc n) l =
        let so_far : EndsWhole (map (total_at value n) rs) (joined_first e n) = whole_of_all n (omega (arith, l)) in
        let last : EndsWhole (map (value n) rs) (e n) = whole n (omega (arith, l)) in
        subst (EndsWhole (map (total_at value (suc n)) rs))
        (sym (ap (λ x. joined_by x (e n).ended p rs (joined_first e n) (e n)) so_far.ended ∙ ap (λ y. joined_by None y p rs (joined_first e n) (e n)) last.ended))
        (record {
          ended = so_far.ended;
          has = ap (λ vs. combined p rs vs (e n).values) so_far.has ∙ ap (combined p rs (map (total_at value n) rs)) last.has
              ∙ combined_mapped (total_at value n) (value n) rs;
        })
