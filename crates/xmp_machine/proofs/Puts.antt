-- Values put into the slots of variables, one after the other.
use Rattle.std.proofs.Common.{◌≡◌, ◌≢◌, ◌||◌, ℕ, zero, suc, Bool, true, false, List, [], ◌∷◌, ℤ, pos, set, get_or, refl, ap, sym, ◌∙◌, if◌then◌else◌}
use Rattle.std.specs.Prelude.{◌==◌}
use Rattle.std.specs.List.{list_any}
use Rattle.std.proofs.lemmas.Bool.{eqb-false, eqb-true, false≢true}
use Rattle.std.proofs.lemmas.List.{get_or-set_other}
use Rattle.xmp_instr.specs.declared.meeting.Reduced.{Reduced}

set_twice : (w : List ℤ) (s : ℕ) (a b : ℤ) → set (set w s a) s b ≡ set w s b
set_twice [] s a b = refl
set_twice (x ∷ w) zero a b = refl
set_twice (x ∷ w) (suc s) a b = ap (λ ys. x ∷ ys) (set_twice w s a b)

set_apart : (w : List ℤ) (s t : ℕ) (a b : ℤ) → s ≢ t → set (set w s a) t b ≡ set (set w t b) s a
set_apart [] s t a b h = refl
set_apart (x ∷ w) zero zero a b h = absurd (h refl)
set_apart (x ∷ w) zero (suc t) a b h = refl
set_apart (x ∷ w) (suc s) zero a b h = refl
set_apart (x ∷ w) (suc s) (suc t) a b h = ap (λ ys. x ∷ ys) (set_apart w s t a b (λ e. h (ap (λ n. suc n) e)))

-- the store after each variable's value was put into its slot
abbrev pub puts : (value : ℕ → Reduced → ℤ) → (store : List ℤ) → (j : ℕ) → List Reduced → List ℤ
puts value store j [] = store
puts value store j (r ∷ rs) = puts value (set store r.slot (value j r)) (suc j) rs

-- a value that was put before is lost where a variable has the same slot, else it may as well be put behind
pub puts_once : (value : ℕ → Reduced → ℤ) (store : List ℤ) (s : ℕ) (v : ℤ) (j : ℕ) (rs : List Reduced)
    → puts value (set store s v) j rs ≡ (if list_any (λ q. q.slot == s) rs then puts value store j rs else set (puts value store j rs) s v)
puts_once value store s v j [] = refl
puts_once value store s v j (r ∷ rs) = at (puts_once value (set store r.slot (value j r)) s v (suc j) rs) (r.slot == s) refl
  where
    at : puts value (set (set store r.slot (value j r)) s v) (suc j) rs
        ≡ (if list_any (λ q. q.slot == s) rs then puts value (set store r.slot (value j r)) (suc j) rs else set (puts value (set store r.slot (value j r)) (suc j) rs) s v)
        → (t : Bool) → (r.slot == s) ≡ t → puts value (set (set store s v) r.slot (value j r)) (suc j) rs
        ≡ (if (t || list_any (λ q. q.slot == s) rs) then puts value (set store r.slot (value j r)) (suc j) rs else set (puts value (set store r.slot (value j r)) (suc j) rs) s v)
    at behind true e = ap (λ xs. puts value xs (suc j) rs)
        (ap (λ k. set (set store k v) r.slot (value j r)) (sym (eqb-true r.slot s e)) ∙ set_twice store r.slot v (value j r))
    at behind false e = ap (λ xs. puts value xs (suc j) rs) (set_apart store s r.slot v (value j r) (λ q. eqb-false r.slot s e (sym q))) ∙ behind

neither : (a b : Bool) → (a || b) ≡ false → (a ≡ false) × (b ≡ false)
neither true b e = absurd (false≢true (sym e))
neither false b e = (refl, e)

-- another slot keeps its word
pub puts_other : (value : ℕ → Reduced → ℤ) (store : List ℤ) (s : ℕ) (j : ℕ) (rs : List Reduced) → list_any (λ q. q.slot == s) rs ≡ false
    → get_or (puts value store j rs) s (pos 0) ≡ get_or store s (pos 0)
puts_other value store s j [] e = refl
puts_other value store s j (r ∷ rs) e =
    let n = neither (r.slot == s) (list_any (λ q. q.slot == s) rs) e in
    puts_other value (set store r.slot (value j r)) s (suc j) rs n.1
    ∙ get_or-set_other store r.slot s (value j r) (pos 0) (λ q. eqb-false r.slot s n.0 (sym q))
