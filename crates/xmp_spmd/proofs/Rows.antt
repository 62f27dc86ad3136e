-- Rows taken out of a store one after the other.
use Rattle.std.proofs.Common.{◌≡◌, ℕ, zero, suc, ◌+◌, ◌*◌, ◌++◌, List, [], ◌∷◌, length, map, drop, refl, sym, ap, ap₂, ◌∙◌, arith}
use Rattle.std.specs.Prelude.{Option, Some, None, slice_get, slice_set, unwrap_or, ℤ}
use Rattle.std.specs.List.{flat_map, AllByRecursion}
use Rattle.std.proofs.lemmas.Option.{none-some}
use Rattle.std.proofs.lemmas.List.{append-nil, append_assoc, length-map, length-append}
use Rattle.xmp_meaning.specs.Cells.{row_in}
use Rattle.xmp_meaning.specs.declared.ends.End.{End}
use Rattle.xmp_meaning.specs.Runs.{State}
use Rattle.xmp_nodes.specs.Nodes.{Nodes}
use Rattle.xmp_nodes.specs.Worlds.{World, out_of}
use Rattle.xmp_world.specs.Counts.{rows_of}
use Rattle.xmp_meaning.specs.Stores.{store_of}

plus_one : (n : ℕ) → n + 1 ≡ suc n
plus_one n = omega arith

-- the words of rows from one on
abbrev pub words_from : List (List ℤ) → ℕ → List ℤ
words_from rows k = flat_map (λ row. row) (drop k rows)

abbrev pub row_or_none : Option (List ℤ) → List ℤ
row_or_none o = unwrap_or o []

-- a row, and those behind it
pub next_row : (rows : List (List ℤ)) (k : ℕ) → words_from rows k ≡ row_or_none (slice_get rows k) ++ words_from rows (suc k)
next_row [] zero = refl
next_row [] (suc k) = refl
next_row (r ∷ rows) zero = refl
next_row (r ∷ rows) (suc k) = next_row rows k

-- no row, and none behind it
pub no_row : (rows : List (List ℤ)) (k : ℕ) → slice_get rows k ≡ None → drop k rows ≡ []
no_row [] zero e = refl
no_row [] (suc k) e = refl
no_row (r ∷ rows) zero e = absurd (none-some r (sym e))
no_row (r ∷ rows) (suc k) e = no_row rows k e

-- what is behind a row that is changed
pub behind_set : (rows : List (List ℤ)) (k : ℕ) (row : List ℤ) → drop (suc k) (slice_set rows k row) ≡ drop (suc k) rows
behind_set [] k row = refl
behind_set (r ∷ rows) zero row = refl
behind_set (r ∷ rows) (suc k) row = behind_set rows k row

-- a row that is set is there exactly where one was
pub set_there : (rows : List (List ℤ)) (k : ℕ) (w : ℤ) (old : List ℤ) → (row_in (slice_set rows k (w ∷ [])) k ≡ []) → slice_get rows k ≡ None
set_there [] k w old e = refl
set_there (r ∷ rows) zero w old e = absurd (nil_not e)
  where
    nil_not : {x : ℤ} {xs : List ℤ} → x ∷ xs ≡ [] → ⊥
    nil_not e = cc
set_there (r ∷ rows) (suc k) w old e = set_there rows k w old e

pub set_gone : (rows : List (List ℤ)) (k : ℕ) (w : ℤ) (other : List ℤ) → ((row_in (slice_set rows k (w ∷ [])) k ≡ []) → ⊥) → Some (unwrap_or (slice_get rows k) other) ≡ slice_get rows k
set_gone [] k w other h = absurd (h refl)
set_gone (r ∷ rows) zero w other h = refl
set_gone (r ∷ rows) (suc k) w other h = set_gone rows k w other h

-- one array more is added, or there is none
pub array_words : (rows after : List (List ℤ)) (k : ℕ) (row : List ℤ) (o : Option (List ℤ)) (old new : List ℤ)
    → after ≡ slice_set rows k row → o ≡ slice_get rows k → new ≡ old ++ row_or_none o → new ++ words_from after (k + 1) ≡ old ++ words_from rows k
array_words rows after k row o old new changed there added =
    ap₂ (λ n a. n ++ words_from a (k + 1)) added changed
    ∙ ap (λ j. (old ++ row_or_none o) ++ words_from (slice_set rows k row) j) (plus_one k)
    ∙ ap (λ rest. (old ++ row_or_none o) ++ flat_map (λ row. row) rest) (behind_set rows k row)
    ∙ append_assoc old (row_or_none o) (words_from rows (suc k))
    ∙ ap (λ o. old ++ (row_or_none o ++ words_from rows (suc k))) there
    ∙ ap (λ ws. old ++ ws) (sym (next_row rows k))

-- where there is none, no words are left
pub no_words : (rows : List (List ℤ)) (k : ℕ) (old : List ℤ) → slice_get rows k ≡ None → old ≡ old ++ words_from rows k
no_words rows k old none = sym (append-nil old) ∙ ap (λ rest. old ++ flat_map (λ row. row) rest) (sym (no_row rows k none))

-- the output isn't among the words
pub same_words : {s s' : State (Unit {0})} {rest stores : List (State (Unit {0}))} → stores ≡ s ∷ rest → s' ≡ record s { out = [] }
    → map store_of (s' ∷ rest) ≡ map store_of stores
same_words {rest = rest} whole silent = ap (λ x. store_of x ∷ map store_of rest) silent ∙ sym (ap (map store_of) whole)

-- what is added to nothing
pub behind_none : {A : Type 0} {old all : List A} (more : List A) → old ≡ [] → all ≡ old ++ more → all ≡ more
behind_none more none added = added ∙ ap (λ xs. xs ++ more) none

-- how many words rows of one length have
pub flat_length : (wide : ℕ) (rows : List (List ℕ)) → AllByRecursion (λ (row : List ℕ). length row ≡ wide) rows
    → length (flat_map (λ (row : List ℕ). row) rows) ≡ length rows * wide
flat_length wide [] h = omega arith
flat_length wide (row ∷ rows) h =
    length-append row (flat_map (λ (row : List ℕ). row) rows) ∙ ap₂ (λ a b. a + b) h.0 (flat_length wide rows h.1) ∙ omega arith

-- a world by its parts
pub world_is : (w : World) (ended : Option End) (out : List ℕ) (stores : List (List ℤ)) (turns flat : List ℕ) (nodes : Nodes)
    → w ≡ record { ended = ended; out = out; stores = stores; turns = turns; sent = rows_of (length stores) (length stores) flat }
    → out ≡ out_of nodes.stores → stores ≡ map store_of nodes.stores → turns ≡ nodes.turns → rows_of (length nodes.stores) (length nodes.stores) flat ≡ nodes.sent
    → w ≡ record { ended = ended; out = out_of nodes.stores; stores = map store_of nodes.stores; turns = nodes.turns; sent = nodes.sent }
world_is w ended out stores turns flat nodes whole o s t r =
    let many : length stores ≡ length nodes.stores = ap length s ∙ length-map nodes.stores store_of in
    let same : rows_of (length stores) (length stores) flat ≡ nodes.sent = ap (λ n. rows_of n n flat) many ∙ r in
    whole ∙ λ i. record { ended = ended; out = o i; stores = s i; turns = t i; sent = same i }
