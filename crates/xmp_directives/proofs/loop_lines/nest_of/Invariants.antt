use Rattle.std.proofs.Common.{◌≡◌, ◌-◌}
use Rattle.xmp_directives.specs.Directives.{nest_of}
use Rattle.xmp_directives.proofs.Nests.{behind}
use Rattle.xmp_directives.proofs.loop_lines.nest_of.Given as goal

-- the heads so far and those of what is left
abbrev pub invariant-heads : goal.invariant-heads
invariant-heads l = nest_of l.count l.fn.s ≡ behind l.heads (nest_of (l.count - l._head) l.left)
