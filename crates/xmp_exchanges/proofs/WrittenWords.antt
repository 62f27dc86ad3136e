-- Words written as they are.
use Rattle.std.proofs.Common.{◌≡◌, ℕ, ◌+◌, ◌<◌, ◌∙◌, ℤ, pos, List, [], ◌∷◌, refl, ap, sym, length, map, take, get_or, set}
use Rattle.xmp_move.specs.Stores.{write_all}
use Rattle.xmp_move.proofs.WordLaws.{write_none, write_more}

pub as_they_are : {A : Type 0} (xs : List A) → map (λ v. v) xs ≡ xs
as_they_are [] = refl
as_they_are (x ∷ xs) = ap (λ r. x ∷ r) (as_they_are xs)

pub none_written : (store : List ℤ) (ss : List ℕ) (ws : List ℤ) → store ≡ write_all store (take 0 ss) (take 0 ws)
none_written store ss ws = write_none (λ v. v) store ss ws ∙ ap (write_all store (take 0 ss)) (as_they_are (take 0 ws))

pub more_written : (store : List ℤ) (ss : List ℕ) (ws : List ℤ) (k : ℕ) → length ws ≡ length ss → k < length ss
    → write_all store (take (k + 1) ss) (take (k + 1) ws) ≡ set (write_all store (take k ss) (take k ws)) (get_or ss k 0) (get_or ws k (pos 0))
more_written store ss ws k l h =
    ap (write_all store (take (k + 1) ss)) (sym (as_they_are (take (k + 1) ws)))
    ∙ write_more (λ v. v) store ss ws k l h
    ∙ ap (λ r. set (write_all store (take k ss) r) (get_or ss k 0) (get_or ws k (pos 0))) (as_they_are (take k ws))
