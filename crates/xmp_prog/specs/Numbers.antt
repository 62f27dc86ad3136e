-- Small tests on numbers, and on lists of them.
use Rattle.std.specs.Prelude.{ℕ, Bool, true, false, not, ◌==◌, ◌&&◌, List, [], ◌∷◌, ℤ, int_le}
use Rattle.std.specs.List.{list_all, list_any}
use Rattle.xmp_num.specs.declared.types.Ty.{Ty}
use Rattle.xmp_num.specs.declared.types.Ty.TheVariants.{Int, Long}
use Rattle.xmp_num.specs.Reduction.{least, greatest}

-- Whether a number is in a list.
abbrev pub is_in : List ℕ → ℕ → Bool
is_in ns n = list_any (λ m. m == n) ns

-- Whether two lists have no number in common.
abbrev pub apart : List ℕ → List ℕ → Bool
apart ns ms = list_all (λ n. not (is_in ms n)) ns

-- Whether no number stands in a list twice.
abbrev pub distinct : List ℕ → Bool
distinct [] = true
distinct (n ∷ ns) = not (is_in ns n) && distinct ns

-- Whether a test holds of each two elements of a list.
abbrev pub pairwise : {A : Type 0} → (A → A → Bool) → List A → Bool
pairwise test [] = true
pairwise test (x ∷ xs) = list_all (test x) xs && pairwise test xs

-- Whether two types are the same.
abbrev pub same_type : Ty → Ty → Bool
same_type Int Int = true
same_type Long Long = true
same_type Int Long = false
same_type Long Int = false

-- Whether a number is a value of a type.
abbrev pub lies_in : Ty → ℤ → Bool
lies_in ty v = int_le (least ty) v && int_le v (greatest ty)
