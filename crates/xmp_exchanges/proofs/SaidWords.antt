-- Counts of words depend only on what is said between nodes that are there.
use Rattle.std.proofs.Common.{◌≡◌, ◌≤◌, ◌<◌, ◌+◌, ◌==◌, ◌&&◌, if◌then◌else◌, ℕ, suc, Bool, true, false, List, [], ◌∷◌, length, refl, arith}
use Rattle.std.proofs.lemmas.Bool.{eqb-true}
use Rattle.xmp_meaning.specs.Messages.{Message, words_sent}
use Rattle.xmp_nodes.specs.Nodes.{Nodes, bounded, raised_by, rows_raised, saying}
use Rattle.xmp_exchanges.specs.Told.{AreMany, are_long}

pub both_true : (a b : Bool) → (a && b) ≡ true → (a ≡ true) × (b ≡ true)
both_true true b e = (refl, e)
both_true false b e = cc

raised_same : (f g : ℕ → ℕ) (count at : ℕ) (ns : List ℕ) → at + length ns ≤ count → ((j : ℕ) → j < count → f j ≡ g j) → raised_by f at ns ≡ raised_by g at ns
raised_same f g count at [] l same = refl
raised_same f g count at (n ∷ ns) l same =
    let here : f at ≡ g at = same at (omega (arith, l)) in
    let rest = raised_same f g count (suc at) ns (omega (arith, l)) same in
    λ i. bounded (n + here i) ∷ rest i

rows_same : (f g : ℕ → ℕ → ℕ) (count from : ℕ) (rows : List (List ℕ)) → from + length rows ≤ count → are_long count rows ≡ true
    → ((i j : ℕ) → i < count → j < count → f i j ≡ g i j) → rows_raised f from rows ≡ rows_raised g from rows
rows_same f g count from [] l long same = refl
rows_same f g count from (row ∷ rows) l long same =
    let t = both_true (length row == count) (are_long count rows) long in
    let many : length row ≡ count = eqb-true (length row) count t.0 in
    let less : from < count = omega (arith, l) in
    let here = raised_same (f from) (g from) count 0 row (omega (arith, many)) (λ j h. same from j less h) in
    let rest = rows_same f g count (suc from) rows (omega (arith, l)) t.1 same in
    λ i. here i ∷ rest i

-- two ways to say the same are counted the same
pub said_same : (w : Nodes) (count : ℕ) (said other : ℕ → ℕ → Message) → AreMany w count
    → ((i j : ℕ) → i < count → j < count → (i == j) ≡ false → words_sent (said i j) ≡ words_sent (other i j)) → saying said w ≡ saying other w
said_same w count said other many same =
    let rows = rows_same (λ from to. if from == to then 0 else words_sent (said from to)) (λ from to. if from == to then 0 else words_sent (other from to)) count 0 w.sent
    (let s = many.sent in omega (arith, s)) many.rows (λ i j li lj. each i j li lj (i == j) refl) in
    λ i. record w { sent = rows i }
  where
    each : (i j : ℕ) → i < count → j < count → (b : Bool) → (i == j) ≡ b → (if b then 0 else words_sent (said i j)) ≡ (if b then 0 else words_sent (other i j))
    each i j li lj true e = refl
    each i j li lj false e = same i j li lj e
