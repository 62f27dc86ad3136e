use Rattle.std.proofs.Common.{◌≡◌, length}
use Rattle.xmp_machine.specs.Resuming.{moved_words}
use Rattle.xmp_machine.proofs.moving.write_moved.Given as goal

-- the words of the nodes so far are written
abbrev pub invariant-nodes : goal.invariant-nodes
invariant-nodes l = record {
  words : l.words ≡ moved_words l.code l.kind l.moving.numbers.items l.moving.own l.heard l.k l.initial.words;
  long : length l.words ≡ length l.initial.words;
}
