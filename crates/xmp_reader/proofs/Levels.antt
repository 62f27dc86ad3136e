-- The levels of operators, opened up and read one by one.
use Rattle.std.proofs.Common.{◌≡◌, ◌<◌, ◌-◌, ◌+◌, ℕ, zero, suc, Bool, List, ◌∷◌, sym, subst, arith}
use Rattle.xmp_lex.specs.declared.token.Token.{Token}
use Rattle.xmp_syntax.specs.Parts as p
use Rattle.xmp_syntax.specs.Reading.{operator, Rule, tok, part, ◌·◌, many, Depths, State, reading}
use Rattle.xmp_syntax.specs.Grammar.{binary}
use Rattle.xmp_reader.specs.Going.{Comes}
use Rattle.xmp_reader.specs.SoFar.{levels}
use Rattle.xmp_reader.proofs.Opening.{into}

pub plus_one : (n : ℕ) → suc n ≡ n + 1
plus_one n = omega arith

down : (k d n : ℕ) → n ≡ k + d → (s : State) (D : Depths) (c : Bool) (K : List Rule) (ts : List Token) → Comes s (reading D (part (p.level k c) ∷ levels k d c K) ts) → Comes s (reading D (part (p.level 0 c) ∷ levels 0 n c K) ts)
down zero d n e s D c K ts w = let q : d ≡ n = omega (arith, e) in subst (λ (x : ℕ). Comes s (reading D (part (p.level 0 c) ∷ levels 0 x c K) ts)) q w
down (suc k) d n e s D c K ts w = let q : n ≡ k + suc d = omega (arith, e) in down k (suc d) n q s D c K ts (into w)

pub level_start : (n : ℕ) {s : State} {D : Depths} {c : Bool} {K : List Rule} {ts : List Token} → Comes s (reading D (part (p.level n c) ∷ K) ts) → Comes s (reading D (part (p.level 0 c) ∷ levels 0 (n - 0) c K) ts)
level_start n {s = s} {D = D} {c = c} {K = K} {ts = ts} w = let q : n - 0 ≡ n + 0 = omega arith in down n 0 (n - 0) q s D c K ts w

pub level_next : (k n : ℕ) → k < n → (c : Bool) (K : List Rule) {s : State} {D : Depths} {ts : List Token} → Comes s (reading D (levels k (n - k) c K) ts)
    → Comes s (reading D (many (binary (suc k)) (tok operator (binary (suc k)) · part (p.level k c)) ∷ levels (suc k) (n - suc k) c K) ts)
level_next k n h c K {s = s} {D = D} {ts = ts} w =
    let q : n - k ≡ suc (n - suc k) = omega (arith, h) in subst (λ (x : ℕ). Comes s (reading D (levels k x c K) ts)) q w

pub level_end : (k n : ℕ) → n - k ≡ 0 → (c : Bool) (K : List Rule) {s : State} {D : Depths} {ts : List Token} → Comes s (reading D (levels k (n - k) c K) ts) → Comes s (reading D K ts)
level_end k n h c K {s = s} {D = D} {ts = ts} w = subst (λ (x : ℕ). Comes s (reading D (levels k x c K) ts)) h w

pub more_links : {a b k : ℕ} {s : State} {D : Depths} {c : Bool} {K : List Rule} {ts : List Token} → a ≡ b → Comes s (reading D (many (binary a) (tok operator (binary a) · part (p.level k c)) ∷ K) ts)
    → Comes s (reading D (many (binary b) (tok operator (binary b) · part (p.level k c)) ∷ K) ts)
more_links {a = a} {b = b} {k = k} {s = s} {D = D} {c = c} {K = K} {ts = ts} e w = subst (λ (x : ℕ). Comes s (reading D (many (binary x) (tok operator (binary x) · part (p.level k c)) ∷ K) ts)) e w

pub same_levels : (a b n : ℕ) → a ≡ b → (c : Bool) (K : List Rule) {s : State} {D : Depths} {ts : List Token} → Comes s (reading D (levels a (n - a) c K) ts) → Comes s (reading D (levels b (n - b) c K) ts)
same_levels a b n e c K {s = s} {D = D} {ts = ts} w = subst (λ (x : ℕ). Comes s (reading D (levels x (n - x) c K) ts)) e w
