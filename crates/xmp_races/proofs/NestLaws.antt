-- The next head of a nest.
use Rattle.std.proofs.Common.{◌≡◌, ℕ, suc, ◌<◌, List, ◌∷◌, ap, length, drop, get_or}
use Rattle.std.proofs.Math.Seq.{drop-cons}
use Rattle.xmp_prog.specs.declared.statements.LoopHead.{LoopHead}
use Rattle.xmp_races.specs.Setting.{Setting, within}
use Rattle.xmp_races.specs.Accesses.{events_of}
use Rattle.xmp_races.specs.Statements.{in_nest, nest_bounds}

pub bounds_next : (s : Setting) (nest : List LoopHead) (k : ℕ) (d : LoopHead) → k < length nest →
    nest_bounds s (drop k nest)
    ≡ events_of (get_or nest k d).from s ∷ events_of (get_or nest k d).to s ∷ nest_bounds (within s (get_or nest k d)) (drop (suc k) nest)
bounds_next s nest k d h = ap (nest_bounds s) (drop-cons nest k d h)

pub in_next : (s : Setting) (nest : List LoopHead) (k : ℕ) (d : LoopHead) → k < length nest →
    in_nest s (drop k nest) ≡ in_nest (within s (get_or nest k d)) (drop (suc k) nest)
in_next s nest k d h = ap (in_nest s) (drop-cons nest k d h)
