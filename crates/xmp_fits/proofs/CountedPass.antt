-- A `for` that the walk makes a counted loop of is one in the program too.
use Rattle.std.proofs.Common.{◌≡◌, ◌∙◌, sym, ap, refl, ◌∷◌, [], ◌&&◌, ◌||◌, ℕ, Bool, true, false, not, List, Some, eq-eqb, eqb-true}
use Rattle.std.specs.Prelude.{◌==◌, nat_le, slice_get}
use Rattle.std.specs.List.{list_all, list_any}
use Rattle.xmp_num.specs.declared.types.Ty.TheVariants.{Int}
use Rattle.xmp_prog.specs.declared.expressions.Expr.{Expr}
use Rattle.xmp_prog.specs.declared.statements.LoopHead.{LoopHead}
use Rattle.xmp_prog.specs.declared.statements.Stmt.{Stmt}
use Rattle.xmp_prog.specs.declared.parts.ProgParts.{ProgParts}
use Rattle.xmp_prog.specs.Counted as fit
use Rattle.xmp_prog.specs.Counted.{is_bound_term, is_int_scalar, is_small_constant, most_counted}
use Rattle.xmp_prog.specs.Numbers.{apart, is_in, same_type}
use Rattle.xmp_prog.specs.Statements.{writes_of}
use Rattle.xmp_prog.specs.Terms.{slots_of_terms, terms_of, type_of}
use Rattle.xmp_walk.specs.Counted.{is_bound, is_counted, is_kept, reads, writes_any}
use Rattle.xmp_fits.proofs.BoundsPass.{BoundFits, bound_fits}
use Rattle.xmp_parts.proofs.Unbroken.{both_true, left_true, right_true}
use Rattle.xmp_fits.proofs.WritesSeen.{writes_seen}

-- ---- scalars that are kept

untrue : false ≡ true → ⊥
untrue e = cc

-- A number that a test passes isn't in a list of which none passes.
apart_from : (kept : ℕ → Bool) (m n : ℕ) (some found : Bool) → kept n ≡ true → not (kept m || some) ≡ true → (not some ≡ true → not found ≡ true) → not ((m == n) || found) ≡ true
apart_from kept m n some found h k rest = go (kept m) (m == n) refl refl k
  where
    go : (a b : Bool) → kept m ≡ a → (m == n) ≡ b → not (a || some) ≡ true → not (b || found) ≡ true
    go true b p q k = absurd (untrue k)
    go false true p q k = absurd (untrue (sym p ∙ (ap kept (eqb-true m n q) ∙ h)))
    go false false p q k = rest k

missing : (kept : ℕ → Bool) (n : ℕ) (ms : List ℕ) → kept n ≡ true → not (list_any kept ms) ≡ true → not (is_in ms n) ≡ true
missing kept n [] h k = refl
missing kept n (m ∷ ms) h k = apart_from kept m n (list_any kept ms) (is_in ms n) h k (λ r. missing kept n ms h r)

-- A test that all numbers of a list pass.
each_in : (ns all : List ℕ) (test : ℕ → Bool) → ((n : ℕ) → is_in ns n ≡ true → is_in all n ≡ true) → ((n : ℕ) → is_in all n ≡ true → test n ≡ true) → list_all test ns ≡ true
each_in [] all test f h = refl
each_in (m ∷ ms) all test f h =
    both_true (test m) _ (h m (f m (ap (λ b. b || is_in ms m) (eq-eqb m m refl)))) (each_in ms all test (λ n e. f n (or_right (m == n) (is_in ms n) e)) h)
  where
    or_right : (a b : Bool) → b ≡ true → (a || b) ≡ true
    or_right true b e = refl
    or_right false b e = e

bound_kept : (i : ℕ) (to : Expr) (n : ℕ) → reads to n ≡ true → is_kept i to n ≡ true
bound_kept i to n e = go (n == i)
  where
    go : (a : Bool) → (a || reads to n) ≡ true
    go true = refl
    go false = e

-- The body writes neither the index nor a scalar of the bound.
kept_apart : (p : ProgParts) (i : ℕ) (to : Expr) (body : Stmt) → BoundFits p to → not (writes_any (is_kept i to) body) ≡ true → apart (i ∷ slots_of_terms (terms_of p to)) (writes_of body) ≡ true
kept_apart p i to body b h =
    let none : not (list_any (is_kept i to) (writes_of body)) ≡ true = ap not (sym (writes_seen (is_kept i to) body)) ∙ h in
    both_true _ _ (missing (is_kept i to) i (writes_of body) (ap (λ x. x || reads to i) (eq-eqb i i refl)) none)
    (each_in (slots_of_terms (terms_of p to)) (slots_of_terms (terms_of p to)) (λ n. not (is_in (writes_of body) n)) (λ n e. e)
    (λ n e. missing (is_kept i to) n (writes_of body) (bound_kept i to n (b.slots n ∙ e)) none))

-- ---- the head of a counted loop

either_step : (step : ℕ) (inclusive by_one small : Bool) → ((by_one && not inclusive) || small) ≡ true → (nat_le 1 step && nat_le step most_counted) ≡ true → (by_one ≡ true → step ≡ 1) →
    (((step == 1) && not inclusive) || (small && (nat_le 1 step && nat_le step most_counted))) ≡ true
either_step step inclusive by_one true h k one = or_right ((step == 1) && not inclusive) (true && (nat_le 1 step && nat_le step most_counted)) k
  where
    or_right : (a b : Bool) → b ≡ true → (a || b) ≡ true
    or_right true b e = refl
    or_right false b e = e
either_step step inclusive true false h k one =
    ap (λ b. (b && not inclusive) || (false && (nat_le 1 step && nat_le step most_counted))) (eq-eqb step 1 (one refl)) ∙ at inclusive h
  where
    at : (b : Bool) → ((true && not b) || false) ≡ true → ((true && not b) || (false && (nat_le 1 step && nat_le step most_counted))) ≡ true
    at true h = absurd (untrue h)
    at false h = refl
either_step step inclusive false false h k one = absurd (untrue h)

pub counted_head : (p : ProgParts) (head : LoopHead) (by_one : Bool) (body : Stmt) → slice_get p.scalars head.index.number ≡ Some Int → type_of p head.to ≡ Int →
    is_counted head.index.number head.to head.inclusive by_one body ≡ true → (nat_le 1 head.step && nat_le head.step most_counted) ≡ true → (by_one ≡ true → head.step ≡ 1) →
    fit.is_counted p head (writes_of body) ≡ true
counted_head p head by_one body index bound h step one =
    let i : ℕ = head.index.number in
    let to : Expr = head.to in
    let form : Bool = (by_one && not head.inclusive) || is_small_constant to in
    let writes : Bool = not (writes_any (is_kept i to) body) in
    let b : BoundFits p to = bound_fits p to (left_true (is_bound to) (not (reads to i) && (writes && form)) h) in
    let rest : (not (reads to i) && (writes && form)) ≡ true = right_true (is_bound to) (not (reads to i) && (writes && form)) h in
    let last : (writes && form) ≡ true = right_true (not (reads to i)) (writes && form) rest in
    both_true _ _ (ap is_int_scalar index)
    (both_true _ _ (ap (λ ty. same_type ty Int) bound)
    (both_true _ _ b.terms
    (both_true _ _ (ap not (sym (b.slots i)) ∙ left_true (not (reads to i)) (writes && form) rest)
    (both_true _ _ (kept_apart p i to body b (left_true writes form last))
    (either_step head.step head.inclusive by_one (is_small_constant to) (right_true writes form last) step one)))))
