-- How the seats of a segment are joined, from the last to the first, and what its words are then.
use Rattle.std.proofs.Common.{◌≡◌, ℕ, ℤ, pos, zero, suc, ◌+◌, ◌<◌, inl, inr, Bool, false, List, [], ◌∷◌, ◌++◌, All, FitsSigned, length, map, take, slice_get, slice_index, slice_index_or, Option, Some, None, Result, Ok, Err, IfOk, refl, sym, ap, ◌∙◌, subst, arith}
use Rattle.std.specs.Int.{w64}
use Rattle.std.proofs.Math.Seq.{take-suc}
use Rattle.std.proofs.lemmas.List.{map-append}
use Rattle.std.proofs.lemmas.List.Elements.{All-append}
use Rattle.std.proofs.lemmas.Bool.{cases_lt}
use Rattle.std.proofs.lemmas.Option.{none-some, same_Some}
use mathlib.Core.Option.{some, some-injective, some-ne-none}
use lib.ListN.{get_elem?}
use Rattle.atomic_table.specs.Table.{Final, Joins, Seen, State}
use Rattle.atomic_table.specs.Seated.{TableId}
use Rattle.xmp_script.specs.Script.{Script, words_at}
use Rattle.xmp_seg.specs.declared.look.Look.{Look}
use Rattle.xmp_seg.specs.Seats.{AreAtEnd, AreWords, IsAtEnd, Standing}
use Rattle.xmp_seg.specs.Rule.{IsOne, IsWhole, Ruled, bits, spent, standing, value_behind}
use Rattle.xmp_seg.proofs.Runs.{ends, joins}

-- a seat is the segment's, of image n, at the script's end
abbrev pub AtEnd : Script ℤ → TableId → ℕ → Standing → Type 0
AtEnd s segment n v = (v.segment ≡ segment) × (v.image ≡ n) × IsAtEnd s v

-- each of the seats is the segment's, of its own image, at the script's end
abbrev pub AreEnding : Script ℤ → TableId → List Standing → Type 0
AreEnding s segment seats = (k : ℕ) (v : Standing) → slice_get seats k ≡ Some v → AtEnd s segment k v

-- a seat has the images from this one on, at the script's end
abbrev pub IsTail : Script ℤ → ℕ → Look → Type 0
IsTail s first v = (v.first ≡ first) × (v.past ≡ s.images) × (v.phase ≡ s.phases) × (v.place ≡ 0) × (v.arrived ≡ false)

get_front : {A : Type 0} (l : List A) (m : List A) (k : ℕ) (v : A) → slice_get l k ≡ Some v → slice_get (l ++ m) k ≡ Some v
get_front [] m k v e = absurd (none-some v e)
get_front (x ∷ l) m zero v e = e
get_front (x ∷ l) m (suc k) v e = get_front l m k v e

pub get_last : {A : Type 0} (l : List A) (v : A) → slice_get (l ++ v ∷ []) (length l) ≡ Some v
get_last [] v = refl
get_last (x ∷ l) v = get_last l v

pub length_last : {A : Type 0} (l : List A) (v : A) → length (l ++ v ∷ []) ≡ suc (length l)
length_last [] v = refl
length_last (x ∷ l) v = ap (λ n. suc n) (length_last l v)

-- without the last
pub ending_front : (s : Script ℤ) (segment : TableId) (all front : List Standing) (last : Standing) → all ≡ front ++ last ∷ [] → AreEnding s segment all →
    AreEnding s segment front × AtEnd s segment (length front) last
ending_front s segment all front last e are =
    let are' : AreEnding s segment (front ++ last ∷ []) = subst (λ (l : List Standing). AreEnding s segment l) e are in
    ((λ k v at. are' k v (get_front front (last ∷ []) k v at)), are' (length front) last (get_last front last))

-- the seat of the last image
pub tail_alone : (s : Script ℤ) (segment t : TableId) (v : Look) (last : Standing) (n : ℕ) → standing t v ≡ last → IsOne v → AtEnd s segment n last → suc n ≡ s.images →
    (t ≡ segment) × IsTail s n v
tail_alone s segment t v last n is one at whole =
    let at' : AtEnd s segment n (standing t v) = subst (λ (x : Standing). AtEnd s segment n x) (sym is) at in
    (at'.0, (at'.1, omega (arith, one, at'.1, whole), at'.2.0, at'.2.1, at'.2.2))

-- a seat before the tail
pub joins_tail : (s : Script ℤ) (segment t : TableId) (v u : Look) (next : Standing) (n id other : ℕ) → standing t v ≡ next → IsOne v → AtEnd s segment n next → IsTail s (suc n) u →
    (t ≡ segment) × Joins (Ruled s) id v other u (record v { past = u.past }) spent × IsTail s n (record v { past = u.past })
joins_tail s segment t v u next n id other is one at tail =
    let at' : AtEnd s segment n (standing t v) = subst (λ (x : Standing). AtEnd s segment n x) (sym is) at in (
      at'.0,
      joins s id other v u (omega (arith, one, at'.1, tail.0)) (at'.2.0 ∙ sym tail.2) (at'.2.1 ∙ sym tail.3) (at'.2.2 ∙ sym tail.4),
      (at'.1, tail.1, at'.2.0, at'.2.1, at'.2.2),
    )

-- a word found by `get_elem?`
pub found_there : (l : List ℕ) (i n : ℕ) → get_elem? l i ≡ some n → slice_index l i ≡ n
found_there [] i n e = absurd (some-ne-none n (sym e))
found_there (x ∷ l) zero n e = some-injective x n e
found_there (x ∷ l) (suc i) n e = found_there l i n e

-- one word more
pub words_grow : (words : List ℤ) (f : ℕ → ℤ) (v : ℤ) → AreWords words f → v ≡ f (length words) → AreWords (words ++ v ∷ []) f
words_grow words f v are is e lt = elim (cases_lt e (length words)) [
  | inl below ↦ get_front words (v ∷ []) e (f e) (are e below)
  | inr end ↦
      let h = length_last words v in
      let at : length words ≡ e = omega (arith, lt, end, h) in
      let P : ℕ → Type 0 = λ x. slice_get (words ++ v ∷ []) x ≡ Some (f x) in
      subst P at (get_last words v ∙ ap (λ (z : ℤ). Some z) is)
]

-- The words of a closed table whose one seat has all images at the script's end.
pub final_words : (s : Script ℤ) (id : ℕ) (v : Look) (table : List ℕ) (slots : List (Unit {0})) (words : List ℤ) → Final (Seen (Ruled s) id v) table slots → IsWhole s v →
    suc (length words) ≡ length table → AreWords words (value_behind table) → AreWords words (words_at s s.phases)
final_words s id v table slots words (state, (ruled, there), same, homes, rest) whole long are e lt =
    let P : List ℕ → Type 0 = λ l. value_behind l e ≡ words_at s s.phases e in
    are e lt ∙ ap (λ (z : ℤ). Some z) (subst P same (ends s state id e v ruled there whole (subst (λ (l : List ℕ). suc e < length l) (sym same) (omega (arith, long, lt)))))

-- what follows from two facts of a result's value
pub if_ok_both : {T E : Type 0} (r : Result T E) (P Q R : T → Type 0) → ((x : T) → P x → Q x → R x) → IfOk r P → IfOk r Q → IfOk r R
if_ok_both (Ok x) P Q R go p q = go x p q
if_ok_both (Err e) P Q R go p q = tt

-- one element more of a list whose elements so far lie in range
pub range_grows : (l : List ℤ) (e : ℕ) → e < length l → All (λ z. FitsSigned w64 z) (take e l) → FitsSigned w64 (slice_index_or l e (pos 0)) → All (λ z. FitsSigned w64 z) (take (e + 1) l)
range_grows l e lt so_far here =
    let P : ℤ → Type 0 = λ z. FitsSigned w64 z in
    let next : suc e ≡ e + 1 = omega arith in
    let more : take e l ++ slice_index_or l e (pos 0) ∷ [] ≡ take (e + 1) l = sym (take-suc l e (pos 0) lt) ∙ ap (λ (n : ℕ). take n l) next in
    subst (λ (xs : List ℤ). All P xs) more (All-append P (take e l) (slice_index_or l e (pos 0) ∷ []) so_far (one here))
  where
    one : {z : ℤ} → FitsSigned w64 z → All (λ x. FitsSigned w64 x) (z ∷ [])
    one h zero d lt = h
    one h (suc k) d lt = absurd (omega arith)

-- and one word of the table more
pub bits_grow : (l : List ℤ) (e : ℕ) → e < length l → (words : List ℕ) (word : ℕ) → words ≡ 0 ∷ map bits (take e l) → word ≡ bits (slice_index_or l e (pos 0)) → words ++ word ∷ [] ≡ 0 ∷ map bits (take (e + 1) l)
bits_grow l e lt words word is is' =
    let next : suc e ≡ e + 1 = omega arith in
    let x : ℤ = slice_index_or l e (pos 0) in
    let more : take e l ++ x ∷ [] ≡ take (e + 1) l = sym (take-suc l e (pos 0) lt) ∙ ap (λ (n : ℕ). take n l) next in
    ap (λ (ws : List ℕ). ws ++ word ∷ []) is
    ∙ ap (λ (n : ℕ). 0 ∷ (map bits (take e l) ++ n ∷ [])) is'
    ∙ ap (λ (ws : List ℕ). 0 ∷ ws) (sym (map-append bits (take e l) (x ∷ [])))
    ∙ ap (λ (xs : List ℤ). 0 ∷ map bits xs) more
