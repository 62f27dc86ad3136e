-- Numbers in rows (this project).
use Rattle.std.specs.Prelude.{ℕ, zero, suc, List, [], ◌∷◌, take, drop, Option, slice_get, unwrap_or}
use Rattle.xmp_nodes.specs.Worlds.{World}

-- so many rows of so many numbers each, one behind the other
abbrev pub rows_of : (rows wide : ℕ) → List ℕ → List (List ℕ)
rows_of zero wide ns = []
rows_of (suc n) wide ns = take wide ns ∷ rows_of n wide (drop wide ns)

-- how many words a node sent to another; nothing is said of a node that there isn't
abbrev pub sent_to : World → (from to : ℕ) → Option ℕ
sent_to w from to = slice_get (unwrap_or (slice_get w.sent from) []) to
