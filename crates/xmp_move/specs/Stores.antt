-- Stores of words, and what packing at all nodes and then unpacking at one leaves in its store (this project).
use Rattle.std.specs.Prelude.{◌≡◌, ◌⊎◌, ℕ, ℤ, pos, List, [], ◌∷◌, map, slice_index_or, slice_set}
use Rattle.xmp_move.specs.Ways.{Pair, Ways, sends, fills}

-- x is an element of xs
unfoldable pub IsIn : {A : Type 0} → A → List A → Type 0
IsIn x [] = ⊥
IsIn x (y ∷ ys) = (x ≡ y) ⊎ IsIn x ys

-- the word in a slot
abbrev pub word_at : List ℤ → ℕ → ℤ
word_at store slot = slice_index_or store slot (pos 0)

-- the words in these slots
abbrev pub packed : List ℤ → List ℕ → List ℤ
packed store slots = map (word_at store) slots

-- the store after the words were written into the slots, one after the other
unfoldable pub write_all : List ℤ → List ℕ → List ℤ → List ℤ
write_all store [] ws = store
write_all store (s ∷ ss) [] = store
write_all store (s ∷ ss) (w ∷ ws) = write_all (slice_set store s w) ss ws

-- The store of `node`, which was `own`, after it unpacked what these peers packed from their stores, the first of the list
-- last. All packed before: what is read are the stores of the sources as they were.
unfoldable pub unpacked_of : (ℤ → ℤ) → Ways → List Pair → (sources : ℕ → List ℤ) → (own : List ℤ) → (node : ℕ) → (peers : List ℕ) → List ℤ
unpacked_of conv ways pairs sources own node [] = own
unpacked_of conv ways pairs sources own node (k ∷ ks) =
    write_all (unpacked_of conv ways pairs sources own node ks) (fills ways pairs node k)
    (map conv (packed (sources k) (sends ways pairs k node)))
