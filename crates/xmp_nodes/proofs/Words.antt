-- The words of a side of a gmove: what reads all its cells gives, and what writes into them leaves.
use Rattle.std.proofs.Common.{◌≡◌, ◌++◌, ℕ, zero, suc, ℤ, pos, List, [], ◌∷◌, map, Some, refl, sym, ap, ◌∙◌, append_assoc}
use Rattle.std.specs.Prelude.{slice_get, slice_set, unwrap_or}
use Rattle.std.proofs.lemmas.Option.{unwrap_or-slice_get, none-some, same_Some}
use Rattle.std.proofs.lemmas.List.{set-set}
use Rattle.xmp_num.specs.Arithmetic.{wrap}
use Rattle.xmp_prog.specs.declared.statements.Name.{Name}
use Rattle.xmp_prog.specs.declared.statements.Part.{Part}
use Rattle.xmp_prog.specs.declared.statements.MoveSide.{MoveSide}
use Rattle.xmp_prog.specs.declared.statements.MoveSide.TheVariants as side
use Rattle.xmp_meaning.specs.declared.ends.Flow.TheVariants.{Next}
use Rattle.xmp_meaning.specs.Cells.{row_in, cell_in}
use Rattle.xmp_meaning.specs.Runs.{State, Gave, Run, and_then, cell, set_cell}
use Rattle.xmp_meaning.specs.Blocks.{each}
use Rattle.xmp_meaning.specs.Context.{Context}
use Rattle.xmp_meaning.specs.Handlers.{Handlers}
use Rattle.xmp_meaning.specs.Sections.{read_cell, store_all}
use Rattle.xmp_move.specs.Stores.{word_at, packed, write_all}
use Rattle.xmp_nodes.specs.Rows.{type_of_side, row_of, with_row}

-- the words of a side in any state, and the state with others in their place
abbrev pub words_of_side : {X : Type 0} → MoveSide → State X → List ℤ
words_of_side (side.Scalar name) s = unwrap_or (slice_get s.scalars name.number) (pos 0) ∷ []
words_of_side (side.Array name parts) s = row_in s.arrays name.number

abbrev pub with_words : {X : Type 0} → MoveSide → List ℤ → State X → State X
with_words (side.Scalar name) [] s = s
with_words (side.Scalar name) (v ∷ vs) s = record s { scalars = slice_set s.scalars name.number v }
with_words (side.Array name parts) row s = record s { arrays = slice_set s.arrays name.number row }

pub row_of_is : (m : MoveSide) (s : State (Unit {0})) → row_of m s ≡ words_of_side m s
row_of_is (side.Scalar name) s = refl
row_of_is (side.Array name parts) s = refl

pub with_row_is : (m : MoveSide) (row : List ℤ) (s : State (Unit {0})) → with_row m row s ≡ with_words m row s
with_row_is (side.Scalar name) [] s = refl
with_row_is (side.Scalar name) (v ∷ vs) s = refl
with_row_is (side.Array name parts) row s = refl

-- ---- reads

-- reads that leave the state give their values
pub each_reads : {X C A : Type 0} (read : C → Run X A) (f : C → A) (s : State X) → ((c : C) → read c s ≡ Gave (f c) s)
    → (cs : List C) (vs : List A) → each (map read cs) vs s ≡ Gave (vs ++ map f cs) s
each_reads read f s h [] vs = ap (λ r. Gave r s) (no_more vs)
  where
    no_more : {A : Type 0} (xs : List A) → xs ≡ xs ++ []
    no_more [] = refl
    no_more (x ∷ xs) = ap (λ r. x ∷ r) (no_more xs)
each_reads read f s h (c ∷ cs) vs =
    ap (λ r. and_then r (λ v. each (map read cs) (vs ++ v ∷ []))) (h c)
    ∙ each_reads read f s h cs (vs ++ f c ∷ [])
    ∙ ap (λ r. Gave r s) (append_assoc vs (f c ∷ []) (map f cs))

-- handlers that read and write cells where they lie
pub record Plainly {X : Type 0} (h : Handlers X) : Type 0 where
  pub get : (array : ℕ) (at : ℤ) (s : State X) → h.get array at s ≡ cell array at s
  pub put : (array : ℕ) (at v : ℤ) (s : State X) → h.put array at v s ≡ set_cell array at v s

cell_word : (rows : List (List ℤ)) (array n : ℕ) → cell_in rows array n ≡ word_at (row_in rows array) n
cell_word rows array n = unwrap_or-slice_get (row_in rows array) n (pos 0)

-- all cells of a scalar are its one
abbrev pub InSide : MoveSide → ℕ → Type 0
InSide (side.Scalar name) n = n ≡ 0
InSide (side.Array name parts) n = Unit {0}

abbrev pub value_in : {X : Type 0} → MoveSide → State X → ℕ → ℤ
value_in (side.Scalar name) s n = unwrap_or (slice_get s.scalars name.number) (pos 0)
value_in (side.Array name parts) s n = cell_in s.arrays name.number n

pub value_word : {X : Type 0} (m : MoveSide) (s : State X) (n : ℕ) → InSide m n → value_in m s n ≡ word_at (words_of_side m s) n
value_word (side.Scalar name) s n i = ap (word_at (words_of_side (side.Scalar name) s)) (sym i)
value_word (side.Array name parts) s n i = cell_word s.arrays name.number n

pub reads_all : {X : Type 0} (h : Handlers X) → Plainly h → (m : MoveSide) (s : State X) (ns : List ℕ)
    → each (map (read_cell h m) ns) [] s ≡ Gave (map (value_in m s) ns) s
reads_all h plainly m s ns = each_reads (read_cell h m) (value_in m s) s (one m) ns []
  where
    one : (m : MoveSide) (n : ℕ) → read_cell h m n s ≡ Gave (value_in m s n) s
    one (side.Scalar name) n = refl
    one (side.Array name parts) n = plainly.get name.number (pos n) s

-- the values are the words
pub values_packed : {X : Type 0} (m : MoveSide) (s : State X) {P : Type 0} (f : P → ℕ) (ps : List P) → ((q : P) → InSide m (f q))
    → map (value_in m s) (map f ps) ≡ packed (words_of_side m s) (map f ps)
values_packed m s f [] i = refl
values_packed m s f (q ∷ ps) i = λ j. value_word m s (f q) (i q) j ∷ values_packed m s f ps i j

-- ---- writes

-- a row set to itself
set_itself : (rows : List (List ℤ)) (a : ℕ) (row : List ℤ) → slice_get rows a ≡ Some row → slice_set rows a row ≡ rows
set_itself [] a row e = refl
set_itself (r ∷ rows) zero row e = ap (λ x. x ∷ rows) (sym (same_Some r row e))
set_itself (r ∷ rows) (suc a) row e = ap (λ xs. r ∷ xs) (set_itself rows a row e)

pub set_there : {A : Type 0} (xs : List A) (a : ℕ) (x v : A) → slice_get xs a ≡ Some x → slice_get (slice_set xs a v) a ≡ Some v
set_there [] a x v e = absurd (none-some x e)
set_there (y ∷ xs) zero x v e = refl
set_there (y ∷ xs) (suc a) x v e = set_there xs a x v e

row_is : (rows : List (List ℤ)) (a : ℕ) (row : List ℤ) → slice_get rows a ≡ Some row → row_in rows a ≡ row
row_is rows a row e = ap (λ o. unwrap_or o []) e

module _ {X : Type 0} (h : Handlers X) (plainly : Plainly h) (cx : Context) where
  -- the values into the cells of an array, one after the other
  pub stores_array : (name : Name) (parts : List Part) (ns : List ℕ) (vs : List ℤ) (s : State X) (row : List ℤ) → slice_get s.arrays name.number ≡ Some row
      → store_all h cx (side.Array name parts) ns vs s
      ≡ Gave Next (with_words (side.Array name parts) (write_all row ns (map (wrap (type_of_side cx.program (side.Array name parts))) vs)) s)
  unfolding write_all
  stores_array name parts [] vs s row e = ap (λ rows. Gave Next (record s { arrays = rows })) (sym (set_itself s.arrays name.number row e))
  stores_array name parts (n ∷ ns) [] s row e = ap (λ rows. Gave Next (record s { arrays = rows })) (sym (set_itself s.arrays name.number row e))
  stores_array name parts (n ∷ ns) (v ∷ vs) s row e =
      let a : ℕ = name.number in
      let w : ℤ = wrap (type_of_side cx.program (side.Array name parts)) v in
      let t : State X = record s { arrays = slice_set s.arrays a (slice_set row n w) } in
      ap (λ r. and_then r (λ u. store_all h cx (side.Array name parts) ns vs)) (plainly.put a (pos n) w s)
      ∙ ap (λ r. store_all h cx (side.Array name parts) ns vs (record s { arrays = slice_set s.arrays a (slice_set r n w) })) (row_is s.arrays a row e)
      ∙ stores_array name parts ns vs t (slice_set row n w) (set_there s.arrays a row (slice_set row n w) e)
      ∙ ap (λ rows. Gave Next (record s { arrays = rows }))
      (set-set s.arrays a (slice_set row n w) (write_all (slice_set row n w) ns (map (wrap (type_of_side cx.program (side.Array name parts))) vs)))

  -- the value into a scalar
  pub stores_scalar : (name : Name) (v : ℤ) (s : State X)
      → store_all h cx (side.Scalar name) (0 ∷ []) (v ∷ []) s ≡ Gave Next (with_words (side.Scalar name) (wrap (type_of_side cx.program (side.Scalar name)) v ∷ []) s)
  stores_scalar name v s = refl
