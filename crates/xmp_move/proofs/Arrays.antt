-- What a node's store shows of an array after a gmove and after a reflect.
use Rattle.std.proofs.Common.{◌≡◌, ◌≢◌, ℕ, ◌<◌, ℤ, pos, ◌⊎◌, inl, inr, Bool, true, false, not, List, [], ◌∷◌, refl, sym, ◌∙◌, ap, arith, length, map}
use Rattle.std.specs.Prelude.{◌&&◌}
use Rattle.xmp_map.specs.RowMajor.{product, row_major}
use Rattle.xmp_map.specs.Boxes.{IsInside}
use Rattle.xmp_map.proofs.Order.{row_major-lt, row_major-unique, inside_below}
use Rattle.xmp_move.specs.Ways.{Pair, Ways}
use Rattle.xmp_move.specs.Stores.{IsIn, word_at, packed, write_all, unpacked_of}
use Rattle.xmp_move.specs.Cells.{indices}
use Rattle.xmp_move.specs.Whole.{IsNeeded, AreGiven, HasRoom, IsMoved, Shows, HasSlots, IsAssignment, assigned, reflecting, selves, HasOwner}
use Rattle.xmp_move.proofs.Writes.{same_or_not, write_all-other, write_all-hit}
use Rattle.xmp_move.proofs.Members.{and_left, and_right, both_true, map_in, in_map}
use Rattle.xmp_move.proofs.Boxes.{inside_in, in_inside}
use Rattle.xmp_move.proofs.Unpacked.{moves_all}

one_cell : (es cell other : List ℕ) → IsInside cell es → IsInside other es → row_major es cell ≡ row_major es other → cell ≡ other
one_cell es cell other a b e = row_major-unique cell other es (inside_below cell es a) (inside_below other es b) e

cell_below : (es cell : List ℕ) → IsInside cell es → row_major es cell < product es
cell_below es cell i = row_major-lt cell es (inside_below cell es i)

-- ---- gmove

module _ (conv : ℤ → ℤ) (ways : Ways) (pairs : List Pair) (sources : ℕ → List ℤ) (own : List ℤ) (node : ℕ) (peers : List ℕ) (te se : List ℕ) (source target : List ℤ) where
  abbrev at_target : Pair → ℕ
  at_target p = row_major te p.0

  abbrev value_of : Pair → ℤ
  value_of p = conv (word_at source (row_major se p.1))

  values_are : (ps : List Pair) → map conv (packed source (map (λ p. row_major se p.1) ps)) ≡ map value_of ps
  values_are [] = refl
  values_are (p ∷ ps) = ap (λ r. value_of p ∷ r) (values_are ps)

  assigned_is : assigned conv te se pairs source target ≡ write_all target (map at_target pairs) (map value_of pairs)
  assigned_is = ap (write_all target (map at_target pairs)) (values_are pairs)

  abbrev Among : List Pair → ℕ → Type 0
  Among ps n = ((p : Pair) × IsIn p ps × (at_target p ≡ n)) ⊎ ((p : Pair) → IsIn p ps → at_target p ≢ n)

  among : (ps : List Pair) (n : ℕ) → Among ps n
  unfolding IsIn
  among [] n = inr (λ p i. absurd i)
  among (q ∷ ps) n =
      elim (same_or_not (at_target q) n) as (λ _. Among (q ∷ ps) n) [
        | inl e ↦ inl (q, inl refl, e)
        | inr ne ↦ elim (among ps n) as (λ _. Among (q ∷ ps) n) [
          | inl w ↦ inl (w.0, inr w.1, w.2)
          | inr none ↦ inr (λ p i. elim i [ inl e ↦ λ h. ne (ap at_target (sym e) ∙ h) | inr j ↦ none p j ])
        ]
      ]

  pub moves_whole : length target ≡ product te
      → HasSlots te (ways.needs node) (ways.into node) own
      → IsAssignment te pairs
      → AreGiven ways pairs node peers
      → ((p : Pair) → IsNeeded ways pairs node p → (k : ℕ) → IsIn k peers → ways.gives k node p.1 ≡ true
      → word_at (sources k) (ways.out_of k p.1) ≡ word_at source (row_major se p.1))
      → Shows te (ways.needs node) (ways.into node) own target
      → Shows te (ways.needs node) (ways.into node) (unpacked_of conv ways pairs sources own node peers) (assigned conv te se pairs source target)
  moves_whole long slots good given words shows cell inside has =
      let room : HasRoom ways pairs node own = record {
        inside = λ p i. slots.inside p.0 (good.inside p i.among) i.needed;
        apart = λ p q i j e. good.one p q i.among j.among (slots.apart p.0 q.0 (good.inside p i.among) (good.inside q j.among) i.needed j.needed e);
      } in
      let moved = moves_all conv ways pairs sources own node peers room given in
      elim (among pairs (row_major te cell)) [
        | inl w ↦
            let p = w.0 in
            let same : p.0 ≡ cell = one_cell te p.0 cell (good.inside p w.1) inside w.2 in
            let i : IsNeeded ways pairs node p = record { among = w.1; needed = ap (ways.needs node) same ∙ has } in
            let g = given p i in
            let below : at_target p < length target = let l = cell_below te p.0 (good.inside p w.1) in omega (arith, l, long) in
            ap (λ c. word_at (unpacked_of conv ways pairs sources own node peers) (ways.into node c)) (sym same)
            ∙ moved.filled p i g.giver g.among g.gives
            ∙ ap conv (words p i g.giver g.among g.gives)
            ∙ sym (write_all-hit at_target value_of pairs target p (pos 0) below
            (λ q j e. good.one q p j w.1 (one_cell te q.0 p.0 (good.inside q j) (good.inside p w.1) e)) w.1)
            ∙ ap (λ array. word_at array (at_target p)) (sym assigned_is)
            ∙ ap (word_at (assigned conv te se pairs source target)) w.2
        | inr none ↦
            moved.stays (ways.into node cell)
            (λ p i e. none p i.among (ap (row_major te) (slots.apart p.0 cell (good.inside p i.among) inside i.needed has e)))
            ∙ shows cell inside has
            ∙ sym (ap (λ array. word_at array (row_major te cell)) assigned_is
            ∙ write_all-other at_target value_of pairs target (row_major te cell) (pos 0) none)
      ]

-- ---- reflect

pub record IsSelf (es : List ℕ) (p : Pair) : Type 0 where
  pub same : p ≡ (p.0, p.0)
  pub inside : IsInside p.0 es

is_self : (es : List ℕ) (p : Pair) → IsIn p (selves (indices es)) → IsSelf es p
is_self es p i =
    let r = in_map (λ c. (c, c)) (indices es) p i in
    let e : p.0 ≡ r.of = ap (λ q. q.0) r.same in
    record { same = r.same ∙ ap (λ c. (c, c)) (sym e); inside = in_inside p.0 es (let j = r.among in rw e j) }

pub reflects : (conv : ℤ → ℤ) (holds owns : ℕ → List ℕ → Bool) (slot : ℕ → List ℕ → ℕ) (extents : List ℕ)
    (sources : ℕ → List ℤ) (own : List ℤ) (node : ℕ) (peers : List ℕ) (array : List ℤ)
    → HasSlots extents (holds node) (slot node) own
    → ((cell : List ℕ) → IsInside cell extents → HasOwner owns peers cell)
    → ((cell : List ℕ) → IsInside cell extents → conv (word_at array (row_major extents cell)) ≡ word_at array (row_major extents cell))
    → ((k : ℕ) → IsIn k peers → Shows extents (owns k) (slot k) (sources k) array)
    → Shows extents (λ cell. holds node cell && owns node cell) (slot node) own array
    → Shows extents (holds node) (slot node) (unpacked_of conv (reflecting holds owns slot) (selves (indices extents)) sources own node peers) array
reflects conv holds owns slot es sources own node peers array slots owners fits theirs mine cell inside has = at_test (owns node cell) refl
  where
    pairs : List Pair
    pairs = selves (indices es)

    ways : Ways
    ways = reflecting holds owns slot

    held : (p : Pair) → IsNeeded ways pairs node p → holds node p.0 ≡ true
    held p i = and_left (holds node p.0) (not (owns node p.0)) i.needed

    room : HasRoom ways pairs node own
    room = record {
      inside = λ p i. let s = is_self es p i.among in slots.inside p.0 s.inside (held p i);
      apart = λ p q i j e.
          let s = is_self es p i.among in
          let t = is_self es q j.among in
          s.same ∙ ap (λ c. (c, c)) (slots.apart p.0 q.0 s.inside t.inside (held p i) (held q j) e) ∙ sym t.same;
    }

    given : AreGiven ways pairs node peers
    given p i =
        let s = is_self es p i.among in
        let o = owners p.0 s.inside in
        let second : p.1 ≡ p.0 = ap (λ q. q.1) s.same in
        record {
          giver = o.owner;
          among = o.among;
          gives = ap (owns o.owner) second ∙ o.owns_it;
          only = λ k j h. o.only k j (ap (owns k) (sym second) ∙ h);
        }

    moved : IsMoved conv ways pairs sources own node peers (unpacked_of conv ways pairs sources own node peers)
    moved = moves_all conv ways pairs sources own node peers room given

    no_both : (b : Bool) → b ≡ true → not b ≡ true → ⊥
    no_both true e n = cc
    no_both false e n = cc

    at_test : (b : Bool) → owns node cell ≡ b → word_at (unpacked_of conv ways pairs sources own node peers) (slot node cell) ≡ word_at array (row_major es cell)
    at_test true h =
        moved.stays (slot node cell)
        (λ p i e.
        let s = is_self es p i.among in
        let same : p.0 ≡ cell = slots.apart p.0 cell s.inside inside (held p i) has e in
        no_both (owns node p.0) (ap (owns node) same ∙ h) (and_right (holds node p.0) (not (owns node p.0)) i.needed))
        ∙ mine cell inside (both_true (holds node cell) (owns node cell) has h)
    at_test false h =
        let o = owners cell inside in
        let i : IsNeeded ways pairs node (cell, cell) = record {
          among = map_in (λ c. (c, c)) (indices es) cell (inside_in cell es inside);
          needed = both_true (holds node cell) (not (owns node cell)) has (ap not h);
        } in
        moved.filled (cell, cell) i o.owner o.among o.owns_it
        ∙ ap conv (theirs o.owner o.among cell inside o.owns_it)
        ∙ fits cell inside
