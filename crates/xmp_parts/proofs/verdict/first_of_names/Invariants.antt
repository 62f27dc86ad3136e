use Rattle.std.proofs.Common.{◌≡◌, ◌+◌, length, drop}
use Rattle.std.specs.Prelude.{filter}
use Rattle.xmp_parts.specs.Verdict.{first_in, is_of_names}
use Rattle.xmp_parts.proofs.verdict.first_of_names.Given as goal

-- what was seen so far is the list's end
abbrev pub invariant-list : goal.invariant-list
invariant-list l = (l.left + l._broken-index ≡ length l.list) × (l.first ≡ first_in (filter (λ b. is_of_names b.rule) (drop l.left l.list)))
