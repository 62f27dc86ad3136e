-- The report on a run of all nodes (this project): a line for each node with its number, how many words it has, how many
-- turns of loop directives it made, and how many words it sent to all others.
use Rattle.std.specs.Prelude.{ℕ, List, [], ◌∷◌, ◌++◌, codes, length, slice_get, unwrap_or}
use Rattle.std.specs.List.{flat_map, range_with_len, sum_by}
use Rattle.std.specs.Fmt.{decimal}
use Rattle.xmp_prog.specs.declared.parts.ProgParts.{ProgParts}
use Rattle.xmp_prog.specs.Fits.{node_count}
use Rattle.xmp_meaning.specs.Traffic.{Counts, counts_on}
use Rattle.xmp_nodes.specs.Nodes.{bounded}
use Rattle.xmp_nodes.specs.Worlds.{World}
use Rattle.xmp_world.specs.Counts.{sent_to}

-- `node K words W turns T sent S`, and a line feed
abbrev pub line_text : (node words turns sent : ℕ) → List ℕ
line_text node words turns sent =
    codes "node " ++ decimal node ++ codes " words " ++ decimal words ++ codes " turns " ++ decimal turns ++ codes " sent " ++ decimal sent ++ 10 ∷ []

-- the line of a node's counts; turns and words sent go no further than the greatest number of 64 bits
abbrev pub report_line : (node : ℕ) → Counts → List ℕ
report_line node c = line_text node c.words (bounded c.turns) (bounded c.sent)

-- the counts of a node in a world
abbrev pub counts_in : World → (node : ℕ) → Counts
counts_in w node = record {
  words = length (unwrap_or (slice_get w.stores node) []);
  turns = unwrap_or (slice_get w.turns node) 0;
  sent = sum_by (λ to. unwrap_or (sent_to w node to) 0) (range_with_len 0 (length w.stores));
}

-- the report on a world
abbrev pub report_of : World → List ℕ
report_of w = flat_map (λ node. report_line node (counts_in w node)) (range_with_len 0 (length w.stores))

-- the report on a program's words, and on its turns and its traffic on an input, with so many steps
abbrev pub program_report : ProgParts → (input : List ℕ) → (steps : ℕ) → List ℕ
program_report p input steps = flat_map (λ node. report_line node (counts_on p input steps node)) (range_with_len 0 (node_count p))
