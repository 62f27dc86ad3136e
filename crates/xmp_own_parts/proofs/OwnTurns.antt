-- The tuples of a node, turn by turn.
use Rattle.std.proofs.Common.{◌≡◌, ◌<◌, ◌≤◌, ◌+◌, ◌-◌, ◌++◌, ◌==◌, if◌then◌else◌, ℕ, zero, suc, ℤ, pos, Bool, true, false, cond, List, [], ◌∷◌, length, map, drop, Option, Some, None, refl, sym, ap, ◌∙◌, arith, append_assoc, append-nil}
use Rattle.std.specs.Prelude.{slice_get, unwrap_or, IfSome, min, ◌^◌}
use mir.Val.{bool_byte}
use Rattle.std.specs.List.{filter, flat_map, range_with_len}
use Rattle.std.proofs.Math.Path.{fun_ext}
use Rattle.std.proofs.lemmas.Option.{none-some, same_Some}
use Rattle.std.proofs.lemmas.List.Folds.{flat_map-map}
use Rattle.std.proofs.lemmas.Grind.{common_steps}
use Rattle.xmp_prog.specs.declared.statements.LoopHead.{LoopHead}
use Rattle.xmp_prog.specs.Statements.{indices_of}
use Rattle.xmp_meaning_laws.specs.Tuples.{index_in_turn, turns_by, index_values, with_value, tuples}
use Rattle.xmp_own_parts.specs.declared.axis.Axis.{Axis}
use Rattle.xmp_own_parts.specs.declared.axis.OwnTurns.{OwnTurns}
use Rattle.xmp_own_parts.specs.declared.nest.Nest.{Nest}
use Rattle.xmp_own_parts.specs.declared.turns.Turns.{Turns}
use Rattle.xmp_own_parts.specs.Turns.{value_in_turn}
use Rattle.xmp_own_parts.specs.Nests.{chosen_or, reading, owns_in, own_from, own_turns, IsPassed}
use Rattle.xmp_own_parts.proofs.Chosen.{Goes}

-- ---- one more value is chosen

chosen_none : (slots : List ℕ) (old : ℤ) (slot : ℕ) → chosen_or slots [] old slot ≡ old
chosen_none [] old slot = refl
chosen_none (i ∷ slots) old slot = refl

chosen_more : (heads : List LoopHead) (chosen : List ℤ) (v : ℤ) (head : LoopHead) (old : ℤ) (slot : ℕ) → slice_get heads (length chosen) ≡ Some head
    → chosen_or (indices_of heads) (chosen ++ v ∷ []) old slot ≡ (if slot == head.index.number then v else chosen_or (indices_of heads) chosen old slot)
chosen_more [] chosen v head old slot is = absurd (none-some head is)
chosen_more (h ∷ heads) [] v head old slot is =
    chosen_none (indices_of heads) (if slot == h.index.number then v else old) slot
    ∙ ap (λ (x : LoopHead). if slot == x.index.number then v else old) (same_Some h head is)
chosen_more (h ∷ heads) (o ∷ chosen) v head old slot is = chosen_more heads chosen v head (if slot == h.index.number then o else old) slot is

pub reading_more : (nest : Nest) (chosen : List ℤ) (v : ℤ) (head : LoopHead) → slice_get nest.heads.now (length chosen) ≡ Some head
    → with_value head.index.number v (reading nest chosen) ≡ reading nest (chosen ++ v ∷ [])
reading_more nest chosen v head is = fun_ext (λ slot. sym (chosen_more nest.heads.now chosen v head (unwrap_or (slice_get nest.scalars.now slot) (pos 0)) slot is))

-- ---- a list of lists, filtered

map_onto : {A B : Type 0} (f : A → B) (xs ys : List A) → map f (xs ++ ys) ≡ map f xs ++ map f ys
map_onto f xs ys = grind (arith, common_steps)

filter_onto : {A : Type 0} (t : A → Bool) (xs ys : List A) → filter t (xs ++ ys) ≡ filter t xs ++ filter t ys
filter_onto t xs ys = grind (arith, common_steps)

filter_flat : {A B C : Type 0} (t : C → Bool) (f : B → C) (g : A → List B) (xs : List A) → filter t (map f (flat_map g xs)) ≡ flat_map (λ x. filter t (map f (g x))) xs
filter_flat t f g [] = refl
filter_flat t f g (x ∷ xs) =
    ap (filter t) (map_onto f (g x) (flat_map g xs)) ∙ filter_onto t (map f (g x)) (map f (flat_map g xs)) ∙ ap (λ ys. filter t (map f (g x)) ++ ys) (filter_flat t f g xs)

chosen_first : (chosen : List ℤ) (v : ℤ) (ts : List (List ℤ)) → map (λ rest. chosen ++ rest) (map (λ vs. v ∷ vs) ts) ≡ map (λ rest. (chosen ++ v ∷ []) ++ rest) ts
chosen_first chosen v [] = refl
chosen_first chosen v (t ∷ ts) = ap (λ x. x ∷ map (λ rest. chosen ++ rest) (map (λ vs. v ∷ vs) ts)) (sym (append_assoc chosen (v ∷ []) t)) ∙ ap (λ xs. ((chosen ++ v ∷ []) ++ t) ∷ xs) (chosen_first chosen v ts)

-- ---- a loop is its turns

in_range : {A : Type 0} (f g : ℕ → List A) (k m : ℕ) → ((j : ℕ) → j < k + m → f j ≡ g j) → flat_map f (range_with_len k m) ≡ flat_map g (range_with_len k m)
in_range f g k zero h = refl
in_range f g k (suc m) h =
    ap (λ xs. xs ++ flat_map f (range_with_len (k + 1) m)) (h k (omega arith))
    ∙ ap (λ ys. g k ++ ys) (in_range f g (k + 1) m (λ j lt. h j (omega arith)))

pub loop_is_turns : (nest : Nest) (chosen : List ℤ) (head : LoopHead) (turns : Turns) (heads : List LoopHead) → slice_get nest.heads.now (length chosen) ≡ Some head
    → turns.count ≡ turns_by (reading nest chosen) head → ((k : ℕ) → k < turns.count → value_in_turn turns k ≡ index_in_turn (reading nest chosen) head k)
    → own_from nest chosen (head ∷ heads) ≡ own_turns nest chosen turns heads 0
unfolding own_from own_turns
loop_is_turns nest chosen head turns heads is count values =
    filter_flat (owns_in nest) (λ rest. chosen ++ rest) (λ v. map (λ vs. v ∷ vs) (tuples (with_value head.index.number v (reading nest chosen)) heads)) (index_values (reading nest chosen) head)
    ∙ ap (λ (g : ℤ → List (List ℤ)). flat_map g (index_values (reading nest chosen) head)) (fun_ext turn)
    ∙ flat_map-map own (index_in_turn (reading nest chosen) head) (range_with_len 0 (turns_by (reading nest chosen) head))
    ∙ ap (λ n. flat_map (λ j. own (index_in_turn (reading nest chosen) head j)) (range_with_len 0 n)) (sym count)
    ∙ in_range (λ j. own (index_in_turn (reading nest chosen) head j)) (λ j. own (value_in_turn turns j)) 0 turns.count (λ j lt. ap own (sym (values j (omega arith))))
    ∙ ap (λ n. flat_map (λ j. own (value_in_turn turns j)) (range_with_len 0 n)) whole
  where
    own : ℤ → List (List ℤ)
    own v = filter (owns_in nest) (map (λ rest. (chosen ++ v ∷ []) ++ rest) (tuples (reading nest (chosen ++ v ∷ [])) heads))

    turn : (v : ℤ) → filter (owns_in nest) (map (λ rest. chosen ++ rest) (map (λ vs. v ∷ vs) (tuples (with_value head.index.number v (reading nest chosen)) heads))) ≡ own v
    turn v =
        ap (filter (owns_in nest)) (chosen_first chosen v (tuples (with_value head.index.number v (reading nest chosen)) heads))
        ∙ ap (λ r. filter (owns_in nest) (map (λ rest. (chosen ++ v ∷ []) ++ rest) (tuples r heads))) (reading_more nest chosen v head is)

    whole : turns.count ≡ turns.count - 0
    whole = omega arith

-- ---- the turns that are left

pub turns_step : (nest : Nest) (chosen : List ℤ) (turns : Turns) (heads : List LoopHead) (k : ℕ) → k < turns.count
    → own_turns nest chosen turns heads k ≡ own_from nest (chosen ++ value_in_turn turns k ∷ []) heads ++ own_turns nest chosen turns heads (k + 1)
unfolding own_turns
turns_step nest chosen turns heads k lt =
    let e : turns.count - k ≡ suc (turns.count - (k + 1)) = omega arith in
    ap (λ n. flat_map (λ j. own_from nest (chosen ++ value_in_turn turns j ∷ []) heads) (range_with_len k n)) e

pub turns_over : (nest : Nest) (chosen : List ℤ) (turns : Turns) (heads : List LoopHead) (k : ℕ) → turns.count ≤ k → own_turns nest chosen turns heads k ≡ []
unfolding own_turns
turns_over nest chosen turns heads k le =
    let e : turns.count - k ≡ 0 = omega arith in
    ap (λ n. flat_map (λ j. own_from nest (chosen ++ value_in_turn turns j ∷ []) heads) (range_with_len k n)) e

skipped : (nest : Nest) (chosen : List ℤ) (turns : Turns) (heads : List LoopHead) (m k : ℕ) → k + m ≤ turns.count
    → ((j : ℕ) → k ≤ j → j < k + m → own_from nest (chosen ++ value_in_turn turns j ∷ []) heads ≡ [])
    → own_turns nest chosen turns heads k ≡ own_turns nest chosen turns heads (k + m)
skipped nest chosen turns heads zero k le none = ap (own_turns nest chosen turns heads) (let e : k ≡ k + 0 = omega arith in e)
skipped nest chosen turns heads (suc m) k le none =
    turns_step nest chosen turns heads k (omega arith)
    ∙ ap (λ xs. xs ++ own_turns nest chosen turns heads (k + 1)) (none k (omega arith) (omega arith))
    ∙ skipped nest chosen turns heads m (k + 1) (omega arith) (λ j from to. none j (omega arith) (omega arith))
    ∙ ap (own_turns nest chosen turns heads) (let e : k + 1 + m ≡ k + suc m = omega arith in e)

pub turns_skipped : (nest : Nest) (chosen : List ℤ) (turns : Turns) (heads : List LoopHead) (k next : ℕ) → k ≤ next → next ≤ turns.count
    → ((j : ℕ) → k ≤ j → j < next → own_from nest (chosen ++ value_in_turn turns j ∷ []) heads ≡ [])
    → own_turns nest chosen turns heads k ≡ own_turns nest chosen turns heads next
turns_skipped nest chosen turns heads k next from upto none =
    let e : k + (next - k) ≡ next = omega arith in
    skipped nest chosen turns heads (next - k) k (omega arith) (λ j a b. none j a (omega arith)) ∙ ap (own_turns nest chosen turns heads) e

-- ---- turns that are passed

none_filtered : (t : List ℤ → Bool) (f : List ℤ → List ℤ) (ts : List (List ℤ)) → ((x : List ℤ) → t (f x) ≡ false) → filter t (map f ts) ≡ []
none_filtered t f [] h = refl
none_filtered t f (x ∷ ts) h = ap (λ b. cond b (f x ∷ filter t (map f ts)) (filter t (map f ts))) (h x) ∙ none_filtered t f ts h

pub passed_is_empty : (nest : Nest) (chosen : List ℤ) (turns : Turns) (axis : Option Axis) (k : ℕ) (heads : List LoopHead) → IfSome axis (Goes nest (length chosen)) → IsPassed axis turns k
    → own_from nest (chosen ++ value_in_turn turns k ∷ []) heads ≡ []
unfolding own_from
passed_is_empty nest chosen turns None k heads goes passed = absurd passed
passed_is_empty nest chosen turns (Some axis) k heads goes passed =
    none_filtered (owns_in nest) (λ rest. (chosen ++ value_in_turn turns k ∷ []) ++ rest) (tuples (reading nest (chosen ++ value_in_turn turns k ∷ [])) heads) other
  where
    other : (rest : List ℤ) → owns_in nest ((chosen ++ value_in_turn turns k ∷ []) ++ rest) ≡ false
    other rest = at_test (owns_in nest ((chosen ++ value_in_turn turns k ∷ []) ++ rest)) refl
      where
        at_test : (b : Bool) → owns_in nest ((chosen ++ value_in_turn turns k ∷ []) ++ rest) ≡ b → b ≡ false
        at_test false e = refl
        at_test true e =
            let own : owns_in nest (chosen ++ value_in_turn turns k ∷ rest) ≡ true = ap (owns_in nest) (sym (append_assoc chosen (value_in_turn turns k ∷ []) rest)) ∙ e in
            absurd (passed (goes chosen rest (value_in_turn turns k) refl own))

-- ---- the loops that are left

pub drop_here : {A : Type 0} (xs : List A) (n : ℕ) (x : A) → slice_get xs n ≡ Some x → drop n xs ≡ x ∷ drop (n + 1) xs
drop_here xs n x e = from_suc xs n x e ∙ ap (λ k. x ∷ drop k xs) (let k : suc n ≡ n + 1 = omega arith in k)
  where
    from_suc : {A : Type 0} (xs : List A) (n : ℕ) (x : A) → slice_get xs n ≡ Some x → drop n xs ≡ x ∷ drop (suc n) xs
    from_suc [] n x e = absurd (none-some x e)
    from_suc (y ∷ xs) zero x e = ap (λ z. z ∷ xs) (same_Some y x e)
    from_suc (y ∷ xs) (suc n) x e = from_suc xs n x e

pub drop_past : {A : Type 0} (xs : List A) (n : ℕ) → slice_get xs n ≡ None → drop n xs ≡ []
drop_past [] zero e = refl
drop_past [] (suc n) e = refl
drop_past (y ∷ xs) zero e = absurd (none-some y (sym e))
drop_past (y ∷ xs) (suc n) e = drop_past xs n e

-- without a loop that is left there is one tuple
pub own_leaf : (nest : Nest) (chosen : List ℤ) → own_from nest chosen [] ≡ cond (owns_in nest chosen) (chosen ∷ []) []
unfolding own_from
own_leaf nest chosen = ap (λ vs. cond (owns_in nest vs) (vs ∷ []) []) (append-nil chosen)

-- a loop's tuples are those of its turns, and in a turn that is passed the node has none
abbrev pub AllTurns : Nest → List ℤ → LoopHead → OwnTurns → Type 0
AllTurns nest chosen head own = (heads : List LoopHead) → own_from nest chosen (head ∷ heads) ≡ own_turns nest chosen own.turns heads 0

abbrev pub NonePassed : Nest → List ℤ → OwnTurns → Type 0
NonePassed nest chosen own = (k : ℕ) → k < own.turns.count → IsPassed own.axis own.turns k → (heads : List LoopHead) → own_from nest (chosen ++ value_in_turn own.turns k ∷ []) heads ≡ []

module _ (nest : Nest) (chosen : List ℤ) (own : OwnTurns) (none : NonePassed nest chosen own) where
  skip : (heads : List LoopHead) (k next : ℕ) → k ≤ next → next ≤ own.turns.count → ((j : ℕ) → k ≤ j → j < next → IsPassed own.axis own.turns j)
      → own_turns nest chosen own.turns heads k ≡ own_turns nest chosen own.turns heads next
  skip heads k next from upto passed = turns_skipped nest chosen own.turns heads k next from upto (λ j a b. none j (omega arith) (passed j a b) heads)

  pub first_turn : (head : LoopHead) (next : ℕ) → slice_get nest.heads.now (length chosen) ≡ Some head → AllTurns nest chosen head own
      → next ≤ own.turns.count → ((j : ℕ) → 0 ≤ j → j < next → IsPassed own.axis own.turns j)
      → own_from nest chosen (drop (length chosen) nest.heads.now) ≡ own_turns nest chosen own.turns (drop (length chosen + 1) nest.heads.now) next
  first_turn head next is all upto passed =
      ap (own_from nest chosen) (drop_here nest.heads.now (length chosen) head is) ∙ all (drop (length chosen + 1) nest.heads.now)
      ∙ skip (drop (length chosen + 1) nest.heads.now) 0 next (omega arith) upto passed

  pub next_turn : (heads : List LoopHead) (k next : ℕ) → k < own.turns.count → k + 1 ≤ next → next ≤ own.turns.count → ((j : ℕ) → k + 1 ≤ j → j < next → IsPassed own.axis own.turns j)
      → own_turns nest chosen own.turns heads k ≡ own_from nest (chosen ++ value_in_turn own.turns k ∷ []) heads ++ own_turns nest chosen own.turns heads next
  next_turn heads k next lt from upto passed =
      turns_step nest chosen own.turns heads k lt
      ∙ ap (λ xs. own_from nest (chosen ++ value_in_turn own.turns k ∷ []) heads ++ xs) (skip heads (k + 1) next from upto passed)

-- ---- counts up to the greatest number

pub most_added : (all so_far one rest more most n : ℕ) → min all most ≡ min (so_far + (one + rest)) most → more ≡ min one most → n ≡ min (so_far + more) most
    → min all most ≡ min (n + rest) most
most_added all so_far one rest more most n e f g = omega arith

pub one_or_none : (n : ℕ) (given test : Bool) (tuple : List ℤ) (all : List (List ℤ)) → n ≡ bool_byte given → given ≡ test → all ≡ cond test (tuple ∷ []) [] → n ≡ min (length all) (2 ^ 64 - 1)
one_or_none n given true tuple all e f g = let l : length all ≡ 1 = ap (λ (xs : List (List ℤ)). length xs) g in let k : n ≡ 1 = e ∙ ap bool_byte f in omega arith
one_or_none n given false tuple all e f g = let l : length all ≡ 0 = ap (λ (xs : List (List ℤ)). length xs) g in let k : n ≡ 0 = e ∙ ap bool_byte f in omega arith
