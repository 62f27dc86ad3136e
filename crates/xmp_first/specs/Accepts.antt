use Rattle.std.specs.Prelude.{ℕ, List}
use Rattle.xmp_base.specs.declared.refusal.Fault.{Fault}
use Rattle.xmp_base.specs.declared.refusal.Fault.TheVariants.{Refused}
use Rattle.xmp_base.specs.declared.refusal.Phase.TheVariants.{Syntax}
use Rattle.xmp_first.specs.declared.first_item.Item.{Item}
use Rattle.xmp_first.specs.FirstMeaning.{IsPrinted}
use Rattle.xmp_first.specs.Layout.{Spells}

-- The text is a program of the form, and this is what the program prints with its directives erased.
pub record Accepts (text out : List ℕ) : Type 0 where
  pub size : ℕ
  pub nodes : ℕ
  pub value : List Item
  pub spelled : Spells size nodes value text
  pub printed : IsPrinted size value out

-- the one refusal of a text: rule S1 at its first byte
abbrev pub refused_at_start : Fault
refused_at_start = Refused (record { phase = Syntax; rule = 1; at = record { line = 1; column = 1 } })
