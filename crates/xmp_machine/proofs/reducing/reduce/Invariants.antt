use Rattle.std.proofs.Common.{◌≡◌, ◌+◌, drop, length}
use Rattle.xmp_machine.specs.Resuming.{reduced_words}
use Rattle.xmp_machine.proofs.reducing.reduce.Given as goal

-- the variables from here on are written
abbrev pub invariant-variables : goal.invariant-variables
invariant-variables l = record {
  count : l.left + l._r-index ≡ length l.reduced;
  words : l.words ≡ reduced_words l.nodes l.node l.heard l.left (drop l.left l.reduced) l.initial.words;
}
