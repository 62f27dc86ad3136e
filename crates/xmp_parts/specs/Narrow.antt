-- Numbers that fit the narrow types of grids, templates and maps: at most 4,194,304. Source: this project.
use Rattle.std.specs.Prelude.{ℕ, ℤ, Bool, true, ◌&&◌, nat_le, length, Option, Some, None}
use Rattle.std.specs.List.{list_all}
use Rattle.xmp_names.specs.declared.mappings.Form.{Form}
use Rattle.xmp_names.specs.declared.mappings.Form.TheVariants as form
use Rattle.xmp_names.specs.declared.mappings.Shadow.{Shadow}
use Rattle.xmp_names.specs.Sizes.{most_cells, natural}

-- (A negative number counts as 0.)
abbrev pub is_narrow : ℤ → Bool
is_narrow n = nat_le (natural n) most_cells

abbrev pub is_narrow_form : Form → Bool
is_narrow_form form.Whole = true
is_narrow_form form.Block = true
is_narrow_form (form.Cyclic n) = is_narrow n
is_narrow_form (form.Gblock ns) = nat_le (length ns) 16 && list_all is_narrow ns

abbrev pub is_narrow_pair : ℤ × ℤ → Bool
is_narrow_pair x = is_narrow x.0 && is_narrow x.1

abbrev pub are_narrow : Option Shadow → Bool
are_narrow None = true
are_narrow (Some s) = list_all is_narrow_pair s.widths

-- A number of nodes that is asked for is 1 to 16.
abbrev pub is_count : Option ℕ → Bool
is_count None = true
is_count (Some n) = nat_le 1 n && nat_le n 16
