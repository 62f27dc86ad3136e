-- A number of nodes that options set is 1 to 16.
use Rattle.std.proofs.Common.{◌≤◌, ℕ, List, [], ◌∷◌, Some, sym, subst, refl, IsTrue, rules}
use Rattle.xmp_parts.specs.Narrow.{is_count}
use Rattle.xmp_top.specs.Settings.{Settings, Adds, Sets}
use Rattle.xmp_top.specs.declared.options.Name.{Name}
use Rattle.xmp_top.specs.declared.options.Name.TheVariants.{Nodes, Steps, Input, Order, Node, Report}

abbrev Counts : Settings → Type 0
Counts s = IsTrue (is_count s.nodes)

count : (n : ℕ) → 1 ≤ n → n ≤ 16 → IsTrue (is_count (Some n))
count n least most = search rules

adds_count : (name : Name) (value : List ℕ) (s t : Settings) → Counts s → Adds name value s t → Counts t
adds_count Nodes value s t h (a, n, k, e) = subst Counts (sym e) (count n k.least k.most)
adds_count Steps value s t h (a, n, k, e) = subst Counts (sym e) h
adds_count Input value s t h (a, k, e) = subst Counts (sym e) h
adds_count Order value s t h (a, n, k, e) = subst Counts (sym e) h
adds_count Node value s t h (a, n, k, e) = subst Counts (sym e) h
adds_count Report value s t h (a, k, e) = subst Counts (sym e) h

pub sets_count : (words : List (List ℕ)) (s : Settings) → Sets words s → IsTrue (is_count s.nodes)
sets_count [] s e = subst Counts (sym e) refl
sets_count (word ∷ words) s (t, b, (name, value, e, d)) = adds_count name value t s (sets_count words t b) d
