use Rattle.std.proofs.Common.{◌∙◌, sym}
use Rattle.std.proofs.lemmas.List.{length-map}
use Rattle.xmp_move.specs.Ways.{due}
use Rattle.xmp_move.proofs.Unpacked.{moves_all}
use Rattle.xmp_move.proofs.Filled.{fills_needed, fills_once}
use Rattle.xmp_move.proofs.Arrays.{moves_whole, reflects}
use Rattle.xmp_move.proofs.laws.transfers.Goals as goal

pub returns : goal.returns
returns c = record {
  fit = λ ways pairs from to. length-map (due ways pairs from to) (λ p. ways.out_of from p.1) ∙ sym (length-map (due ways pairs from to) (λ p. ways.into to p.0));
  needed = fills_needed;
  once = fills_once;
  all = moves_all;
  whole = moves_whole;
  reflects = reflects;
}
