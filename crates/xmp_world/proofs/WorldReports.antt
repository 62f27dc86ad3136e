-- The report on a world that stands for a program is the report on the program.
use Rattle.std.proofs.Common.{◌≡◌, ◌<◌, ◌≤◌, ◌+◌, ℕ, List, [], length, None, ap, ◌∙◌, arith}
use Rattle.std.specs.Prelude.{slice_get, unwrap_or}
use Rattle.std.specs.List.{flat_map, range_with_len, sum_by}
use Rattle.xmp_prog.specs.declared.parts.ProgParts.{ProgParts}
use Rattle.xmp_prog.specs.Fits.{node_count}
use Rattle.xmp_meaning.specs.Messages.{sent, sent_in_all}
use Rattle.xmp_meaning.specs.Stores.{words_on}
use Rattle.xmp_meaning.specs.Traffic.{traffic, turns_on, counts_on}
use Rattle.xmp_nodes.specs.Nodes.{bounded}
use Rattle.xmp_nodes.specs.Worlds.{World}
use Rattle.xmp_nodes.specs.Stands.{StoresStand, StandsFor}
use Rattle.xmp_nodes.proofs.Each.{there}
use Rattle.xmp_world.specs.Counts.{sent_to}
use Rattle.xmp_world.specs.Reports.{line_text, report_line, counts_in, report_of, program_report}
use Rattle.xmp_world.proofs.ReportLaws.{sums_bounded, flats_same}

twice : (n : ℕ) → bounded (bounded n) ≡ bounded n
twice n = omega arith

module _ (p : ProgParts) (input : List ℕ) (steps : ℕ) (w : World) (stand : StoresStand p input steps w) where
  a_line : (node : ℕ) → node < node_count p → report_line node (counts_in w node) ≡ report_line node (counts_on p input steps node)
  a_line node l =
      let store = there w.stores node (let m = stand.many in omega (arith, l, m)) in
      let row = there w.sent node (let m = stand.rows in omega (arith, l, m)) in
      let words : (counts_in w node).words ≡ words_on p node = ap (λ o. length (unwrap_or o [])) store.1 ∙ (stand.stores node store.0 store.1).length in
      let turns : bounded (counts_in w node).turns ≡ bounded (turns_on p input steps node) =
      ap (λ o. bounded (unwrap_or o 0)) (stand.turns node l) ∙ twice (turns_on p input steps node) in
      let one : (to : ℕ) → 0 ≤ to → to < 0 + node_count p → unwrap_or (sent_to w node to) 0 ≡ bounded (sent p (traffic p input steps) node to) =
      λ to z k. ap (λ o. unwrap_or (slice_get (unwrap_or o []) to) 0) row.1 ∙ ap (λ o. unwrap_or o 0) (stand.sent node to row.0 (omega (arith, k)) row.1) in
      let sents : bounded (counts_in w node).sent ≡ bounded (sent_in_all p (traffic p input steps) node) =
      ap (λ n. bounded (sum_by (λ to. unwrap_or (sent_to w node to) 0) (range_with_len 0 n))) stand.many
      ∙ sums_bounded (λ to. unwrap_or (sent_to w node to) 0) (λ to. sent p (traffic p input steps) node to) 0 (node_count p) one in
      λ i. line_text node (words i) (turns i) (sents i)

  same_lines : report_of w ≡ program_report p input steps
  same_lines =
      ap (λ n. flat_map (λ node. report_line node (counts_in w node)) (range_with_len 0 n)) stand.many
      ∙ flats_same (λ node. report_line node (counts_in w node)) (λ node. report_line node (counts_on p input steps node)) 0 (node_count p)
      (λ node z l. a_line node (omega (arith, l)))

pub world_reports : (p : ProgParts) (input : List ℕ) (steps : ℕ) (w : World) → StandsFor p input steps w → w.ended ≡ None
    → report_of w ≡ program_report p input steps
world_reports p input steps w st none = same_lines p input steps w (st.at_end none)
