-- What a gmove aims at: every node finds it, and without a trap its cells are those of the pairs of the sections.
use Rattle.std.proofs.Common.{◌≡◌, ◌+◌, ◌++◌, ◌⊎◌, inl, inr, ◌==◌, ◌||◌, ℕ, suc, Bool, true, false, List, [], ◌∷◌, map, length, cond, Option, Some, None, refl, sym, ap, subst, ◌∙◌, arith, append_assoc, length-append}
use Rattle.std.specs.Prelude.{slice_get}
use Rattle.std.specs.List.{count_by}
use Rattle.std.proofs.lemmas.Bool.{eqb-true}
use Rattle.std.proofs.lemmas.List.Sums.{sum_by-cons}
use Rattle.xmp_base.specs.declared.place.Place.{Place}
use Rattle.xmp_prog.specs.declared.parts.Array.{Array}
use Rattle.xmp_prog.specs.declared.statements.Part.{Part}
use Rattle.xmp_prog.specs.declared.statements.Part.TheVariants as part
use Rattle.xmp_prog.specs.declared.statements.MoveSide.{MoveSide}
use Rattle.xmp_prog.specs.declared.statements.MoveSide.TheVariants as side
use Rattle.xmp_prog.specs.Directives.{is_section, sections_in, sections_agree, side_fits, parts_fit}
use Rattle.xmp_meaning.specs.declared.ends.End.{End}
use Rattle.xmp_meaning.specs.Runs.{State, Step, Gave, Ended, RunIn, Run, and_then, ◌>>=◌, pure}
use Rattle.xmp_meaning.specs.Blocks.{each}
use Rattle.xmp_meaning.specs.Context.{Context}
use Rattle.xmp_meaning.specs.Handlers.{Handlers, Aim}
use Rattle.xmp_meaning.specs.Declarations.{extents, extents_of_array}
use Rattle.xmp_meaning.specs.Expressions.{expr_of, within, or_subscript, natural}
use Rattle.xmp_meaning.specs.Sections.{Chosen, One, Many, chosen, numbers, in_range, progression, section, subscripts, all_subscripts, cells_from, cells, lengths, fit, name_of, lengths_fit, spread, aim}
use Rattle.xmp_move.specs.declared.kind.Fault.{Fault}
use Rattle.xmp_move.specs.Cells.{pairs_between}
use Rattle.xmp_move.specs.Faults.{first_fault}
use Rattle.xmp_move.specs.Meant.{extents_in, aim_of}
use Rattle.xmp_move.specs.Assigned.{AreGood}
use Rattle.xmp_move.proofs.Checks.{traps_as_meant}
use Rattle.xmp_move.proofs.PairsMeant.{moves_as_meant}
use Rattle.xmp_nodes.proofs.Stillness.{Came, Value, Stopped, came_to, as_step, Still, still_pure, still_on}

-- ---- the checks of the numbers

module _ {S T : Type 0} (s : S) (t : T) where
  still_or : (o : Option ℕ) (at : Place) → Still (or_subscript o at) s (or_subscript o at) t
  still_or (Some x) at = record { first = refl; second = refl }
  still_or None at = record { first = refl; second = refl }

  still_section : (b : Bool) (at : Place) (xs : List ℕ) → Still (section b at xs) s (section b at xs) t
  still_section true at xs = record { first = refl; second = refl }
  still_section false at xs = record { first = refl; second = refl }

  still_lengths : (b : Bool) (at : Place) → Still (lengths_fit b at) s (lengths_fit b at) t
  still_lengths true at = record { first = refl; second = refl }
  still_lengths false at = record { first = refl; second = refl }

  still_subscripts : (at : Place) (n : ℕ) (c : Chosen) → Still (subscripts at n c) s (subscripts at n c) t
  still_subscripts at n (One v) = still_on (or_subscript (within v n) at) (or_subscript (within v n) at) (λ x. pure (x ∷ [])) (λ x. pure (x ∷ [])) s t (still_or (within v n) at) (λ x. still_pure (x ∷ []) s t)
  still_subscripts at n (Many base length step) = still_section (in_range n base length step) at (progression (natural base) (natural step) (natural length))

  still_all : (at : Place) (ns : List ℕ) (cs : List Chosen) → Still (all_subscripts at ns cs) s (all_subscripts at ns cs) t
  still_all at [] cs = still_pure [] s t
  still_all at (n ∷ ns) [] = still_pure [] s t
  still_all at (n ∷ ns) (c ∷ cs) =
      still_on (subscripts at n c) (subscripts at n c) _ _ s t (still_subscripts at n c)
      (λ xs. still_on (all_subscripts at ns cs) (all_subscripts at ns cs) (λ rest. pure (xs ∷ rest)) (λ rest. pure (xs ∷ rest)) s t (still_all at ns cs) (λ rest. still_pure (xs ∷ rest) s t))

  still_cells : (cx ncx : Context) → cx.program ≡ ncx.program → (m : MoveSide) (cs : List Chosen) → Still (cells cx m cs) s (cells ncx m cs) t
  still_cells cx ncx same (side.Scalar name) cs = still_pure (0 ∷ []) s t
  still_cells cx ncx same (side.Array name parts) cs =
      subst (λ q. Still (all_subscripts name.at (extents cx.program name.number) cs >>= (λ xs. pure (cells_from 0 (extents cx.program name.number) xs))) s
      (all_subscripts name.at (extents q name.number) cs >>= (λ xs. pure (cells_from 0 (extents q name.number) xs))) t) same
      (still_on (all_subscripts name.at (extents cx.program name.number) cs) (all_subscripts name.at (extents cx.program name.number) cs)
      (λ xs. pure (cells_from 0 (extents cx.program name.number) xs)) (λ xs. pure (cells_from 0 (extents cx.program name.number) xs)) s t
      (still_all name.at (extents cx.program name.number) cs) (λ xs. still_pure (cells_from 0 (extents cx.program name.number) xs) s t))

-- what follows the numbers
abbrev pub checked_aim : {S : Type 0} → Context → (target source : MoveSide) → (to from : List Chosen) → RunIn S Aim
checked_aim cx target source to from =
    cells cx target to >>= (λ targets. cells cx source from >>= (λ sources.
    lengths_fit (fit (lengths to) (lengths from)) (name_of target).at >>= (λ u.
    pure (record { targets = targets; sources = spread (lengths from) (length targets) sources }))))

still_checked : {S T : Type 0} (s : S) (t : T) (cx ncx : Context) → cx.program ≡ ncx.program → (target source : MoveSide) (to from : List Chosen)
    → Still (checked_aim cx target source to from) s (checked_aim ncx target source to from) t
still_checked s t cx ncx same target source to from =
    still_on (cells cx target to) (cells ncx target to) _ _ s t (still_cells s t cx ncx same target to) (λ targets.
    still_on (cells cx source from) (cells ncx source from) _ _ s t (still_cells s t cx ncx same source from) (λ sources.
    still_on (lengths_fit (fit (lengths to) (lengths from)) (name_of target).at) (lengths_fit (fit (lengths to) (lengths from)) (name_of target).at) _ _ s t
    (still_lengths s t (fit (lengths to) (lengths from)) (name_of target).at) (λ u. still_pure _ s t)))

pub still_aim : {X Y : Type 0} (h : Handlers X) (g : Handlers Y) (cx ncx : Context) → cx.program ≡ ncx.program → (target source : MoveSide) (s : State X) (t : State Y)
    → Still (numbers h cx target) s (numbers g ncx target) t → Still (numbers h cx source) s (numbers g ncx source) t
    → Still (aim h cx target source) s (aim g ncx target source) t
still_aim h g cx ncx same target source s t a b =
    still_on (numbers h cx target) (numbers g ncx target) (λ to. numbers h cx source >>= (λ from. checked_aim cx target source to from)) (λ to. numbers g ncx source >>= (λ from. checked_aim ncx target source to from)) s t a (λ to.
    still_on (numbers h cx source) (numbers g ncx source) (λ from. checked_aim cx target source to from) (λ from. checked_aim ncx target source to from) s t b (λ from.
    still_checked s t cx ncx same target source to from))

-- ---- how many numbers there are

lengths_both : (xs ys : List Chosen) → lengths (xs ++ ys) ≡ lengths xs ++ lengths ys
lengths_both [] ys = refl
lengths_both (One v ∷ xs) ys = lengths_both xs ys
lengths_both (Many base length step ∷ xs) ys = ap (λ r. length ∷ r) (lengths_both xs ys)

module _ {X : Type 0} (h : Handlers X) (cx : Context) where
  -- a section has a length, a subscript has none
  abbrev Shaped : Part → Chosen → Type 0
  Shaped q c = length (lengths (c ∷ [])) ≡ cond (is_section q) 1 0

  ends_no_value : {A : Type 0} {e : End} {s t : State X} {a : A} → Ended e s ≡ Gave a t → ⊥
  ends_no_value e = cc

  abbrev value_of : {A : Type 0} → A → Step X A → A
  value_of d (Gave a s) = a
  value_of d (Ended e s) = d

  gave_value : {A : Type 0} (a b : A) (s t : State X) → ◌≡◌ {A = Step X A} (Gave a s) (Gave b t) → a ≡ b
  gave_value a b s t e = ap (value_of a) e

  -- a value is there where one comes out behind it
  then_shaped : {A : Type 0} (q : Part) (r : Step X A) (f : A → Run X Chosen) (c : Chosen) (t : State X) → and_then r f ≡ Gave c t
      → ((a : A) (u : State X) → f a u ≡ Gave c t → Shaped q c) → Shaped q c
  then_shaped q (Gave a u) f c t e k = k a u e
  then_shaped q (Ended d u) f c t e k = absurd (ends_no_value e)

  shaped : (q : Part) (s : State X) (c : Chosen) (t : State X) → chosen h cx q s ≡ Gave c t → Shaped q c
  shaped (part.One n) s c t e =
      then_shaped (part.One n) (expr_of h cx n.value s) (λ v. pure (One v)) c t e (λ v u f. subst (Shaped (part.One n)) (gave_value (One v) c u t f) refl)
  shaped (part.Many b l m) s c t e =
      then_shaped (part.Many b l m) (expr_of h cx b.value s) (λ base. expr_of h cx l.value >>= (λ length. expr_of h cx m.value >>= (λ step. pure (Many base length step)))) c t e (λ base u f.
      then_shaped (part.Many b l m) (expr_of h cx l.value u) (λ length. expr_of h cx m.value >>= (λ step. pure (Many base length step))) c t f (λ length v g.
      then_shaped (part.Many b l m) (expr_of h cx m.value v) (λ step. pure (Many base length step)) c t g (λ step w k.
      subst (Shaped (part.Many b l m)) (gave_value (Many base length step) c w t k) refl)))

  -- the numbers of all dimensions
  pub record AreShaped (parts : List Part) (before cs : List Chosen) : Type 0 where
    pub rest : List Chosen
    pub whole : cs ≡ before ++ rest
    pub many : length rest ≡ length parts
    pub sections : length (lengths rest) ≡ count_by is_section parts

  each_shaped : (parts : List Part) (before : List Chosen) (s : State X) (cs : List Chosen) (t : State X) → each (map (chosen h cx) parts) before s ≡ Gave cs t → AreShaped parts before cs
  each_shaped [] before s cs t e = record { rest = []; whole = sym (gave_value before cs s t e) ∙ no_more before; many = refl; sections = refl }
    where
      no_more : (xs : List Chosen) → xs ≡ xs ++ []
      no_more [] = refl
      no_more (x ∷ xs) = ap (λ r. x ∷ r) (no_more xs)
  each_shaped (q ∷ parts) before s cs t e = at_step (chosen h cx q s) refl e (λ c u g. each_shaped parts (before ++ c ∷ []) u cs t g)
    where
      joined : (c : Chosen) → Shaped q c → AreShaped parts (before ++ c ∷ []) cs → AreShaped (q ∷ parts) before cs
      joined c k r = record {
        rest = c ∷ r.rest;
        whole = r.whole ∙ append_assoc before (c ∷ []) r.rest;
        many = ap suc r.many;
        sections =
            let b : length (lengths (c ∷ r.rest)) ≡ length (lengths (c ∷ [])) + length (lengths r.rest) = ap length (lengths_both (c ∷ []) r.rest) ∙ length-append (lengths (c ∷ [])) (lengths r.rest) in
            let n : count_by is_section (q ∷ parts) ≡ cond (is_section q) 1 0 + count_by is_section parts = sum_by-cons (λ q. cond (is_section q) 1 0) q parts in
            let i = r.sections in
            omega (arith, b, n, i, k);
      }

      at_step : (r : Step X Chosen) → chosen h cx q s ≡ r → and_then r (λ c. each (map (chosen h cx) parts) (before ++ c ∷ [])) ≡ Gave cs t
          → ((c : Chosen) (u : State X) → each (map (chosen h cx) parts) (before ++ c ∷ []) u ≡ Gave cs t → AreShaped parts (before ++ c ∷ []) cs) → AreShaped (q ∷ parts) before cs
      at_step (Gave c u) f g k = joined c (shaped q s c u f) (k c u g)
      at_step (Ended d u) f g k = absurd (ends_no_value g)

  -- those of a side
  pub record SideShaped (m : MoveSide) (cs : List Chosen) : Type 0 where
    pub many : length cs ≡ length (extents_in cx.program m)
    pub sections : length (lengths cs) ≡ sections_in m

  dims_of_parts : (o : Option Array) (parts : List Part) → parts_fit o parts ≡ true → length parts ≡ length (extents_of_array o)
  dims_of_parts None parts e = cc
  dims_of_parts (Some a) parts e = eqb-true (length parts) (length a.extents) e

  pub side_shaped : (m : MoveSide) (s : State X) (cs : List Chosen) (t : State X) → side_fits cx.program m ≡ true → numbers h cx m s ≡ Gave cs t → SideShaped m cs
  side_shaped (side.Scalar name) s cs t fits e =
      let none : [] ≡ cs = gave_value [] cs s t e in
      record { many = ap length (sym none); sections = ap (λ xs. length (lengths xs)) (sym none) }
  side_shaped (side.Array name parts) s cs t fits e =
      let r = each_shaped parts [] s cs t e in
      record {
        many = ap length r.whole ∙ r.many ∙ dims_of_parts (slice_get cx.program.arrays name.number) parts fits;
        sections = ap (λ xs. length (lengths xs)) r.whole ∙ r.sections;
      }

-- ---- a good aim

-- the cells are those of the pairs of good numbers
pub record GoodAim (te se : List ℕ) (a : Aim) : Type 0 where
  pub to : List Chosen
  pub from : List Chosen
  pub good : AreGood te to se from
  pub is : a ≡ aim_of te se (pairs_between to from)

or_either : (a b : Bool) → (a || b) ≡ true → (a ≡ true) ⊎ (b ≡ true)
or_either true b e = inl refl
or_either false b e = inr e

none_there : {A : Type 0} (xs : List A) → length xs ≡ 0 → xs ≡ []
none_there [] e = refl
none_there (x ∷ xs) e = absurd (omega (arith, e))

module _ {X : Type 0} (h : Handlers X) (cx : Context) (target source : MoveSide) (s : State X)
    (target_fits : side_fits cx.program target ≡ true) (source_fits : side_fits cx.program source ≡ true) (agree : sections_agree target source ≡ true) where
  abbrev te : List ℕ
  te = extents_in cx.program target

  abbrev se : List ℕ
  se = extents_in cx.program source

  abbrev Found : Aim → Type 0
  Found a = GoodAim te se a

  with_numbers : (to from : List Chosen) → numbers h cx target s ≡ Gave to s → numbers h cx source s ≡ Gave from s
      → (a : Aim) (u : State X) → aim h cx target source s ≡ Gave a u → Found a
  with_numbers to from et ef a u e = at_fault (first_fault te to se from) refl
    where
      st : SideShaped h cx target to
      st = side_shaped h cx target s to s target_fits et

      ss : SideShaped h cx source from
      ss = side_shaped h cx source s from s source_fits ef

      sections : (lengths from ≡ []) ⊎ (length (lengths from) ≡ length (lengths to))
      sections = elim (or_either (sections_in source == 0) (sections_in source == sections_in target) agree) as (λ _. (lengths from ≡ []) ⊎ (length (lengths from) ≡ length (lengths to))) [
        | inl z ↦ inl (none_there (lengths from) (ss.sections ∙ eqb-true (sections_in source) 0 z))
        | inr f ↦ inr (ss.sections ∙ eqb-true (sections_in source) (sections_in target) f ∙ sym st.sections)
      ]

      no_trap : {d : End} {v w : State X} {b : Aim} → Ended d v ≡ Gave b w → ⊥
      no_trap e = cc

      same_aim : (b : Aim) → ◌≡◌ {A = Step X Aim} (Gave b s) (Gave a u) → b ≡ a
      same_aim b e = gave_value h cx b a s u e

      at_fault : (o : Option Fault) → first_fault te to se from ≡ o → Found a
      at_fault (Some f) g = absurd (no_trap (sym (traps_as_meant h cx target source to from s s s f et ef g) ∙ e))
      at_fault None g = record {
        to = to;
        from = from;
        good = record { none = g; target = st.many; source = ss.many; sections = sections };
        is = sym (same_aim (aim_of te se (pairs_between to from)) (sym (moves_as_meant h cx target source to from s s s et ef g st.many ss.many sections) ∙ e));
      }

  stopped : {A : Type 0} (f : Run X A) (g : A → Run X Aim) (e : End) (a : Aim) (u : State X) → f s ≡ Ended e s → (f >>= g) s ≡ Gave a u → ⊥
  stopped f g e a u h k = no_value (sym (ap (λ r. and_then r g) h) ∙ k)
    where
      no_value : Ended e s ≡ Gave a u → ⊥
      no_value e = cc

  at_source : (to : List Chosen) → numbers h cx target s ≡ Gave to s → (o : Came (List Chosen)) → numbers h cx source s ≡ as_step o s
      → (a : Aim) (u : State X) → aim h cx target source s ≡ Gave a u → Found a
  at_source to et (Value from) ef a u e = with_numbers to from et ef a u e
  at_source to et (Stopped d) ef a u e =
      absurd (stopped (numbers h cx source) (λ from. checked_aim cx target source to from) d a u ef
      (sym (ap (λ r. and_then r (λ to. numbers h cx source >>= (λ from. checked_aim cx target source to from))) et) ∙ e))

  at_target : (o : Came (List Chosen)) → numbers h cx target s ≡ as_step o s → numbers h cx source s ≡ as_step (came_to (numbers h cx source s)) s
      → (a : Aim) (u : State X) → aim h cx target source s ≡ Gave a u → Found a
  at_target (Value to) et ef a u e = at_source to et (came_to (numbers h cx source s)) ef a u e
  at_target (Stopped d) et ef a u e = absurd (stopped (numbers h cx target) (λ to. numbers h cx source >>= (λ from. checked_aim cx target source to from)) d a u et e)

  pub good_aim : numbers h cx target s ≡ as_step (came_to (numbers h cx target s)) s → numbers h cx source s ≡ as_step (came_to (numbers h cx source s)) s
      → (a : Aim) (u : State X) → aim h cx target source s ≡ Gave a u → Found a
  good_aim et ef a u e = at_target (came_to (numbers h cx target s)) et ef a u e
