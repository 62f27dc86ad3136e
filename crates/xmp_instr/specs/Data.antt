-- What a node has besides its place, its stack and its open calls, and what can be done with it (this project).
use Rattle.std.specs.Prelude.{ℕ, zero, suc, ◌+◌, ◌-◌, ◌^◌, min, Bool, if◌then◌else◌, List, ◌++◌, map, ℤ, pos, Option, Some, None, slice_set}
use Rattle.xmp_base.specs.declared.place.Place.{Place}
use Rattle.xmp_num.specs.declared.types.Ty.{Ty}
use Rattle.xmp_num.specs.declared.types.TrapKind.{TrapKind}
use Rattle.xmp_num.specs.Decimal.{scan_of}
use Rattle.xmp_move.specs.Stores.{word_at}

-- a trap that was noted, with the indices of its nest, of which those that aren't there are 0
pub record Note : Type 0 where
  pub kind : TrapKind
  pub at : Place
  pub indices : List ℤ

-- The words of the store, the text printed and not sent away, whether text is dropped, how many bytes of the input are
-- read, how many steps are left, how many turns of loop directives were counted, and the trap that was noted last.
pub record Data : Type 0 where
  pub words : List ℤ
  pub out : List ℕ
  pub muted : Bool
  pub taken : ℕ
  pub steps : ℕ
  pub turns : ℕ
  pub noted : Option Note

-- a count that grows up to the greatest `u64`
abbrev pub raised : (count more : ℕ) → ℕ
raised count more = min (count + more) (2 ^ 64 - 1)

-- ---- words

-- another value in the word of a slot
abbrev pub with_word : ℕ → ℤ → Data → Data
with_word slot v d = record d { words = slice_set d.words slot v }

-- the word that far behind a base, where the index is inside; else 0
abbrev pub indexed : (base : ℕ) → Option ℕ → Data → ℤ
indexed base (Some x) d = word_at d.words (base + x)
indexed base None d = pos 0

-- another value in it, where the index is inside
abbrev pub with_indexed : (base : ℕ) → Option ℕ → ℤ → Data → Data
with_indexed base (Some x) v d = with_word (base + x) v d
with_indexed base None v d = d

-- ---- text

-- text more, unless it is dropped
abbrev pub with_text : List ℕ → Data → Data
with_text text d = record d { out = if d.muted then d.out else (d.out ++ text) }

-- a number that was read, where one was
abbrev pub with_read : ℕ → Option ℤ → Data → Data
with_read slot (Some v) d = with_word slot v d
with_read slot None d = d

-- a number of the type is read from the input into a slot
abbrev pub read_into : Ty → (input : List ℕ) → (slot : ℕ) → Data → Data
read_into ty input slot d =
    with_read slot (scan_of ty input d.taken).0 (record d { taken = (scan_of ty input d.taken).1 })

-- ---- counts

-- one step less, where so many are left
abbrev pub step_taken : (left : ℕ) → Data → Option Data
step_taken zero d = None
step_taken (suc n) d = Some (record d { steps = n })

-- one turn more
abbrev pub turn_counted : Data → Data
turn_counted d = record d { turns = raised d.turns 1 }

-- ---- notes

-- the value of an index by its slot; 0 where there is none
abbrev pub index_in : List ℤ → Option ℕ → ℤ
index_in words (Some slot) = word_at words slot
index_in words None = pos 0

-- a trap is noted, with the values of these indices
abbrev pub with_note : TrapKind → Place → List (Option ℕ) → Data → Data
with_note kind at indices d =
    record d { noted = Some (record { kind = kind; at = at; indices = map (index_in d.words) indices }) }
