use Rattle.std.proofs.Common.{rules, ◌≡◌, ℕ}
use Rattle.xmp_reader.proofs.Whole.{shallow_whole}
use Rattle.xmp_reader.proofs.Views.{view_number}
use Rattle.xmp_parse.proofs.refusals.refusal.Goals as goal
