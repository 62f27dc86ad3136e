-- All nodes follow a bcast.
use Rattle.std.proofs.Common.{◌≡◌, ◌<◌, ◌*◌, ◌==◌, ◌||◌, inl, ℕ, ℤ, pos, Bool, true, false, List, [], ◌∷◌, map, length, Some, refl, sym, ap, subst, ◌∙◌, arith}
use Rattle.std.specs.Prelude.{slice_get, unwrap_or, ◌&&◌}
use Rattle.std.proofs.lemmas.Bool.{eq-eqb}
use Rattle.std.proofs.lemmas.Option.{slice_get_within}
use Rattle.xmp_num.specs.Arithmetic.{FitsType}
use Rattle.xmp_map.specs.declared.grid.NodeSet.{NodeSet}
use Rattle.xmp_map.specs.RowMajor.{product}
use Rattle.xmp_prog.specs.declared.parts.ProgParts.{ProgParts}
use Rattle.xmp_prog.specs.declared.statements.Name.{Name}
use Rattle.xmp_prog.specs.declared.statements.Plain.TheVariants as plain
use Rattle.xmp_prog.specs.Fits.{node_count}
use Rattle.xmp_prog.specs.Numbers.{is_in}
use Rattle.xmp_prog.specs.NodeSets.{is_node_set}
use Rattle.xmp_paths.specs.declared.event.Event.{Event}
use Rattle.xmp_paths.specs.Plans.{Plan, skip, sequence, in_order, Path}
use Rattle.xmp_paths.specs.Safe.{left}
use Rattle.xmp_paths.proofs.SafeLaws.{safe_front, safe_back}
use Rattle.xmp_loops.specs.Objects.{scalar_object, array_object}
use Rattle.xmp_flow.specs.Setting.{is_reduced}
use Rattle.xmp_flow.specs.PlainEvents.{cast, plain_events}
use Rattle.xmp_flow.specs.Program.{outermost}
use Rattle.xmp_meaning.specs.declared.ends.Flow.TheVariants.{Next}
use Rattle.xmp_meaning.specs.Runs.{State, Gave}
use Rattle.xmp_meaning.specs.Declarations.{scalar_type}
use Rattle.xmp_meaning.specs.LoopEnds.{set_all}
use Rattle.xmp_meaning.specs.TaskEnds.{leader}
use Rattle.xmp_meaning.specs.Exchanges.{Notes, Exchange, Broadcast, values_of}
use Rattle.xmp_meaning.specs.Messages.{message, words_sent}
use Rattle.xmp_meaning.specs.Traffic.{node_beginning}
use Rattle.xmp_meaning_laws.specs.Laws.{scalar_in}
use Rattle.xmp_nodes.specs.Nodes.{store_at}
use Rattle.xmp_nodes.specs.Casting.{cast_values}
use Rattle.xmp_nodes.proofs.Agrees.{Agrees, ReadyAt, at_main, IsNext}
use Rattle.xmp_nodes.proofs.Leaves.{CastsFollow}
use Rattle.xmp_nodes.proofs.PlainParts.{plain_stands}
use Rattle.xmp_nodes.proofs.Each.{Alone, store_there}
use Rattle.xmp_nodes.proofs.NodeBits.{set_has, leader_below, leader_has}
use Rattle.xmp_nodes.proofs.Saying.{noted_behind, say_and_do}
use Rattle.xmp_nodes.proofs.CastLaws.{set_slots, sets_all, slots_length, set_same, set_others, cast_way, cast_path, cast_others, cast_current}
use Rattle.xmp_nodes.proofs.CopiedLaws.{copied_stays, cast_copies}

-- with another exchange noted
abbrev pub noting_one : Exchange → State Notes → State Notes
noting_one x s = record s { extra = noted_behind s.extra x }

abbrev numbers : List Name → List ℕ
numbers names = map (λ n. n.number) names

and_first : (a b : Bool) → (a && b) ≡ true → a ≡ true
and_first true b e = refl
and_first false b e = e

-- the node agrees on the variables then
module _ (p : ProgParts) (names : List Name) (set : NodeSet) (k : ℕ) (below : k < node_count p) where
  abbrev taking : State Notes → Alone → Alone
  taking s n = record n { scalars = set_slots (numbers names) (map (λ slot. scalar_in s slot) (numbers names)) n.scalars }

  cast_agrees : (stale : ℕ → Bool) (s : State Notes) (n : Alone) (values : List ℤ) → Agrees (at_main p k) stale s n
      → Agrees (at_main p k) (left k (cast_way p set k below names) stale) (noting_one (Broadcast names set values) s) (taking s n)
  cast_agrees stale s n values g = record {
    whole = record { scalars = g.whole.scalars; rows = g.whole.rows; values = record { scalars = g.whole.values.scalars; cells = g.whole.values.cells } };
    packed = record { scalars = slots_length (numbers names) (map (λ slot. scalar_in s slot) (numbers names)) n.scalars ∙ g.packed.scalars; rows = g.packed.rows; no_coarrays = g.packed.no_coarrays };
    typed = λ slot. typed_at slot (is_in (numbers names) slot) refl;
    scalars = λ slot r e. scalars_at slot r e (is_in (numbers names) slot) refl;
    indices = λ slot e. cc;
    sums = λ slot op e. cc;
    copies = λ array e f. g.copies array e (sym (arrays_same array) ∙ f);
    owned = g.owned;
    shadows = λ array t m cell e i h o. g.shadows array t m cell e i h o ∙ sym (copied_stays s.extra.exchanges (Broadcast names set values) (cast_copies names set values) array _);
    current = λ array t m e f w number.
        copied_stays s.extra.exchanges (Broadcast names set values) (cast_copies names set values) array number ∙ g.current array t m e (sym (arrays_same array) ∙ f) w number;
    point = λ d e. cc;
    steps = g.steps;
    out = g.out;
    taken = g.taken;
  }
    where
      long : length n.scalars ≡ length s.scalars
      long = g.packed.scalars ∙ sym g.whole.scalars

      arrays_same : (array : ℕ) → left k (cast_way p set k below names) stale (array_object array) ≡ stale (array_object array)
      arrays_same array = cast_others p set k below names stale (array_object array) (λ slot i e. omega (arith, e))

      set_to : (slot : ℕ) → is_in (numbers names) slot ≡ true → scalar_in (taking s n) slot ≡ scalar_in s slot
      set_to slot i = set_same s.scalars (numbers names) n.scalars slot long (inl i)

      left_as : (slot : ℕ) → is_in (numbers names) slot ≡ false → scalar_in (taking s n) slot ≡ scalar_in n slot
      left_as slot i = ap (λ o. unwrap_or o (pos 0)) (set_others (numbers names) (map (λ slot. scalar_in s slot) (numbers names)) n.scalars slot i)

      typed_at : (slot : ℕ) (b : Bool) → is_in (numbers names) slot ≡ b → FitsType (scalar_type p slot) (scalar_in (taking s n) slot)
      typed_at slot true i = subst (FitsType (scalar_type p slot)) (sym (set_to slot i)) (g.whole.values.scalars slot)
      typed_at slot false i = subst (FitsType (scalar_type p slot)) (sym (left_as slot i)) (g.typed slot)

      scalars_at : (slot : ℕ) → is_reduced ((outermost p).roles slot) ≡ false → left k (cast_way p set k below names) stale (scalar_object slot) ≡ false → (b : Bool) → is_in (numbers names) slot ≡ b
          → scalar_in (taking s n) slot ≡ scalar_in s slot
      scalars_at slot r e true i = set_to slot i
      scalars_at slot r e false i =
          left_as slot i
          ∙ g.scalars slot r (sym (cast_others p set k below names stale (scalar_object slot) (λ other j f. apart other slot j i f)) ∙ e)
        where
          halves : (m n : ℕ) → 2 * m ≡ 2 * n → m ≡ n
          halves m n e = omega (arith, e)

          no_both : (b : Bool) → b ≡ true → b ≡ false → ⊥
          no_both true e f = cc
          no_both false e f = cc

          apart : (other slot : ℕ) → is_in (numbers names) other ≡ true → is_in (numbers names) slot ≡ false → scalar_object other ≡ scalar_object slot → ⊥
          apart other slot j i f = no_both (is_in (numbers names) slot) (ap (is_in (numbers names)) (sym (halves other slot f)) ∙ j) i

-- the values that the source says are the serial ones
values_same : (s : State Notes) (n : Alone) (slots : List ℕ) → ((slot : ℕ) → is_in slots slot ≡ true → scalar_in n slot ≡ scalar_in s slot) → values_of n slots ≡ values_of s slots
values_same s n [] h = refl
values_same s n (slot ∷ slots) h =
    ap (λ v. v ∷ values_of n slots) (h slot (ap (λ b. b || is_in slots slot) (eq-eqb slot slot refl)))
    ∙ ap (λ vs. scalar_in s slot ∷ vs) (values_same s n slots (λ x i. h x (later (slot == x) (is_in slots x) i)))
  where
    later : (a b : Bool) → b ≡ true → (a || b) ≡ true
    later true b e = refl
    later false b e = e

pub casts_follow : CastsFollow
casts_follow p global names set at fits right rest s w ready =
    say_and_do p rest IsNext Next Next (λ node. set_all names values) s (noting_one x s) w (λ from to. message p (Broadcast names set values) from to) x
    some ready.many refl ready.counts (λ from to lf lt ne. ap (λ vs. words_sent (message p (Broadcast names set vs) from to)) same) refl each
  where
    values : List ℤ
    values = cast_values p names set w

    x : Exchange
    x = Broadcast names set (values_of s (numbers names))

    good : is_node_set p.grid set ≡ true
    good = and_first (is_node_set p.grid set) (product set.many == 1) (plain_stands p (plain.Cast names set at) fits).cast

    source : ℕ
    source = leader p set

    source_below : source < node_count p
    source_below = leader_below p set good

    some : 0 < node_count p
    some = let b = source_below in omega (arith, b)

    plan : Plan Event
    plan = plain_events (plain.Cast names set at) (outermost p)

    told : Alone
    told = store_at (node_beginning p 0 0) w source

    told_there : slice_get w.stores source ≡ Some told
    told_there = store_there (node_beginning p 0 0) w source (let b = source_below in let l = ready.many in omega (arith, b, l))

    at_source : ReadyAt p source (sequence plan rest) s told
    at_source = ready.nodes source told told_there

    same : values ≡ values_of s (numbers names)
    same = values_same s told (numbers names) (λ slot i. at_source.agrees.scalars slot refl
        (cast_current p set source source_below names at_source.stale (set_has p set source source_below ∙ leader_has p set good)
        (safe_back source skip (in_order (map (cast (outermost p) set) names)) at_source.stale (safe_front source plan rest at_source.stale at_source.safe) [] refl) slot i))

    way_of : (k : ℕ) (below : k < node_count p) → Path plan (cast_way p set k below names)
    way_of k below = record { front = []; back = cast_way p set k below names; whole = refl; in_front = refl; in_back = cast_path p set k below names }

    each : (k : ℕ) (n : Alone) → slice_get w.stores k ≡ Some n → (m : Alone) × (set_all names values n ≡ Gave Next m) × ReadyAt p k rest (noting_one x s) m
    each k n e =
        let below : k < node_count p = (let i = slice_get_within w.stores k n e in let l = ready.many in omega (arith, i, l)) in
        let r = ready.nodes k n e in (
          taking p names set k below s n,
          sets_all names values n ∙ ap (λ vs. Gave Next (record n { scalars = set_slots (numbers names) vs n.scalars })) same,
          record {
            stale = left k (cast_way p set k below names) r.stale;
            safe = safe_back k plan rest r.stale r.safe (cast_way p set k below names) (way_of k below);
            agrees = cast_agrees p names set k below r.stale s n (values_of s (numbers names)) r.agrees;
          },
        )
