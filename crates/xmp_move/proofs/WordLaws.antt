-- One more word written.
use Rattle.std.proofs.Common.{◌≡◌, ℕ, zero, suc, ◌+◌, ◌<◌, ℤ, pos, List, [], ◌∷◌, refl, arith, length, map, take, get_or, set}
use Rattle.xmp_move.specs.Stores.{write_all}

write_next : (f : ℤ → ℤ) (store : List ℤ) (ss : List ℕ) (ws : List ℤ) (k : ℕ) → length ws ≡ length ss → k < length ss
    → write_all store (take (suc k) ss) (map f (take (suc k) ws)) ≡ set (write_all store (take k ss) (map f (take k ws))) (get_or ss k 0) (f (get_or ws k (pos 0)))
unfolding write_all
write_next f store [] ws k l h = absurd (omega arith)
write_next f store (s ∷ ss) [] k l h = absurd (omega arith)
write_next f store (s ∷ []) (w ∷ []) zero l h = refl
write_next f store (s ∷ (t ∷ ss)) (w ∷ ws) zero l h = refl
write_next f store (s ∷ []) (w ∷ (v ∷ ws)) zero l h = refl
write_next f store (s ∷ ss) (w ∷ ws) (suc k) l h = write_next f (set store s (f w)) ss ws k (omega arith) (omega arith)

pub write_more : (f : ℤ → ℤ) (store : List ℤ) (ss : List ℕ) (ws : List ℤ) (k : ℕ) → length ws ≡ length ss → k < length ss
    → write_all store (take (k + 1) ss) (map f (take (k + 1) ws)) ≡ set (write_all store (take k ss) (map f (take k ws))) (get_or ss k 0) (f (get_or ws k (pos 0)))
write_more f store ss ws k l h = let e : k + 1 ≡ suc k = omega arith in rw e (write_next f store ss ws k l h)

pub write_none : (f : ℤ → ℤ) (store : List ℤ) (ss : List ℕ) (ws : List ℤ) → store ≡ write_all store (take 0 ss) (map f (take 0 ws))
unfolding write_all
write_none f store ss ws = refl
