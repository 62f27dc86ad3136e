-- A barrier: nothing is said, and nothing changes.
use Rattle.std.proofs.Common.{◌≡◌, ◌==◌, ℕ, Bool, true, false, [], refl, sym, ◌∙◌, if◌then◌else◌}
use Rattle.xmp_prog.specs.declared.parts.ProgParts.{ProgParts}
use Rattle.xmp_paths.specs.Plans.{skip}
use Rattle.xmp_paths.proofs.SafeLaws.{safe_back}
use Rattle.xmp_meaning.specs.Runs.{State}
use Rattle.xmp_meaning.specs.Exchanges.{Notes, Exchange, AtBarrier}
use Rattle.xmp_map.specs.RowMajor.{row_major}
use Rattle.xmp_meaning.specs.Declarations.{extents}
use Rattle.xmp_meaning.specs.Messages.{words_alone, words_sent, message}
use Rattle.xmp_nodes.proofs.Agrees.{Stand, Agrees, at_main}
use Rattle.xmp_nodes.proofs.Leaves.{BarriersFollow}
use Rattle.xmp_nodes.proofs.Saying.{noted_behind}
use Rattle.xmp_nodes.proofs.AllSteps.{counts_silent}
use Rattle.xmp_nodes.proofs.CopiedLaws.{IsNoReflect, copied_stays, barrier_copies}

abbrev pub with_note : Exchange → State Notes → State Notes
with_note x s = record s { extra = noted_behind s.extra x }

-- a note of an exchange that is no reflect leaves what a node agrees on
pub agrees_noted : (a : Stand) (stale : ℕ → Bool) (s : State Notes) (n : State (Unit {0})) (x : Exchange) → IsNoReflect x → Agrees a stale s n → Agrees a stale (with_note x s) n
agrees_noted a stale s n x none g = record {
  whole = record { scalars = g.whole.scalars; rows = g.whole.rows; values = record { scalars = g.whole.values.scalars; cells = g.whole.values.cells } };
  packed = g.packed;
  typed = g.typed;
  scalars = g.scalars;
  indices = g.indices;
  sums = g.sums;
  copies = g.copies;
  owned = g.owned;
  shadows = λ array t m cell e i h o. g.shadows array t m cell e i h o ∙ sym (copied_stays s.extra.exchanges x none array (row_major (extents a.program array) cell));
  current = λ array t m e c w number. copied_stays s.extra.exchanges x none array number ∙ g.current array t m e c w number;
  point = g.point;
  steps = g.steps;
  out = g.out;
  taken = g.taken;
}

no_words : (p : ProgParts) (from to : ℕ) → words_sent (message p AtBarrier from to) ≡ 0
no_words p from to = of_test (from == to)
  where
    of_test : (b : Bool) → words_sent (if b then words_alone [] else words_alone []) ≡ 0
    of_test true = refl
    of_test false = refl

pub barriers_follow : BarriersFollow
barriers_follow p global at rest s w r = record {
  same = refl;
  value = refl;
  ready = record {
    many = r.many;
    nodes = λ node n e.
        let x = r.nodes node n e in
        record {
          stale = x.stale;
          safe = safe_back node skip rest x.stale x.safe [] refl;
          agrees = agrees_noted (at_main p node) x.stale s n AtBarrier barrier_copies x.agrees;
        };
    counts = counts_silent p s.extra w.turns w.sent AtBarrier r.counts (no_words p);
  };
}
