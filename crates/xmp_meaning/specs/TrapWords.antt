-- The three words by which a node says how its part of a directive ended (this project).
use Rattle.std.specs.Prelude.{ℕ, zero, suc, ◌+◌, ◌-◌, ◌^◌, List, [], ◌∷◌, ℤ, pos, ◌+ℤ◌, ◌*ℤ◌, if◌then◌else◌, Option, Some, None, unwrap_or, slice_get}
use Rattle.std.specs.Int.{int_rem_euclid, int_div_euclid}
use Rattle.std.specs.Ordering.{int_eq}
use Rattle.xmp_base.specs.declared.place.Place.{Place}
use Rattle.xmp_num.specs.declared.types.Ty.TheVariants.{Int, Long}
use Rattle.xmp_num.specs.declared.types.TrapKind.{TrapKind}
use Rattle.xmp_num.specs.declared.types.TrapKind.TheVariants.{Zero, Subscript, Shift, Section}
use Rattle.xmp_num.specs.Arithmetic.{wrap}
use Rattle.xmp_meaning.specs.declared.ends.End.{End}
use Rattle.xmp_meaning.specs.declared.ends.End.TheVariants.{Trapped, OutOfSteps, PhaseEnd}
use Rattle.xmp_meaning.specs.Expressions.{natural}

-- how many values 32 bits have
abbrev pub two_to_32 : ℤ
two_to_32 = pos (2 ^ 32)

-- the value modulo 2^32, from 0 up; and what is left of it, divided by 2^32 and rounded down
abbrev pub low_half : ℤ → ℤ
low_half z = int_rem_euclid z two_to_32

abbrev pub high_half : ℤ → ℤ
high_half z = int_div_euclid z two_to_32

-- two values in one word of 64 bits
abbrev pub both_halves : (high low : ℤ) → ℤ
both_halves high low = wrap Long ((high *ℤ two_to_32) +ℤ low_half low)

-- kinds are numbered in the order of their declaration
abbrev pub kind_number : TrapKind → ℕ
kind_number Zero = 0
kind_number Subscript = 1
kind_number Shift = 2
kind_number Section = 3

-- The words of a trap: 1 plus its kind, and the third index; the first and the second index; line and column.
abbrev pub trap_words : TrapKind → Place → (first second third : ℤ) → List ℤ
trap_words kind at first second third =
    (pos (1 + kind_number kind) +ℤ (pos 8 *ℤ low_half third))
    ∷ both_halves first second
    ∷ both_halves (pos at.line) (pos at.column)
    ∷ []

-- an index of a nest by its place; one that isn't there is 0
abbrev pub index_at : List ℤ → ℕ → ℤ
index_at indices d = unwrap_or (slice_get indices d) (pos 0)

-- The words of an end: all 0 without a trap.
abbrev pub end_words : Option End → (indices : List ℤ) → List ℤ
end_words (Some (Trapped kind at)) indices =
    trap_words kind at (index_at indices 0) (index_at indices 1) (index_at indices 2)
end_words (Some OutOfSteps) indices = pos 0 ∷ pos 0 ∷ pos 0 ∷ []
end_words (Some PhaseEnd) indices = pos 0 ∷ pos 0 ∷ pos 0 ∷ []
end_words None indices = pos 0 ∷ pos 0 ∷ pos 0 ∷ []

-- ---- read back

abbrev pub kind_of_number : ℕ → TrapKind
kind_of_number zero = Zero
kind_of_number (suc zero) = Subscript
kind_of_number (suc (suc zero)) = Shift
kind_of_number (suc (suc (suc n))) = Section

-- A trap that was said, with three indices.
pub record SaidTrap : Type 0 where
  pub kind : TrapKind
  pub at : Place
  pub first : ℤ
  pub second : ℤ
  pub third : ℤ

-- the trap of three words
abbrev pub trap_of_words : (a b c : ℤ) → SaidTrap
trap_of_words a b c = record {
  kind = kind_of_number (natural (int_rem_euclid a (pos 8)) - 1);
  at = record { line = natural (low_half (high_half c)); column = natural (low_half c) };
  first = high_half b;
  second = wrap Int (low_half b);
  third = wrap Int (int_div_euclid a (pos 8));
}

-- the trap that a message's first three words say, where they say one
abbrev pub trap_said : List ℤ → Option SaidTrap
trap_said (a ∷ b ∷ c ∷ rest) = if int_eq a (pos 0) then None else Some (trap_of_words a b c)
trap_said _ = None
