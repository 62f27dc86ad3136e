use Rattle.std.proofs.Common.{◌≤◌, length, drop, map, string_bytes, List, ℕ}
use Rattle.xmp_top.specs.declared.options.Options.{Options}
use Rattle.xmp_top.specs.Settings.{settings_of, Sets}
use Rattle.xmp_top.proofs.settings.options_of.Given as goal

-- what the words from here on set
abbrev pub invariant-loop-left : goal.invariant-loop-left
invariant-loop-left l =
    let set : Options = record { nodes = l.set.0; steps = l.set.1.0; input = l.set.1.1.0; order = l.set.1.1.1.0; node = l.set.1.1.1.1.0; report = l.set.1.1.1.1.1.0 } in
    record {
      within : l.left ≤ length l.words;
      sets : Sets (map (λ w. string_bytes w) (drop l.left l.words)) (settings_of set);
    }

abbrev pub decreases-loop-left : goal.decreases-loop-left
decreases-loop-left l = l.left
