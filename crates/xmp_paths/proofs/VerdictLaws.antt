-- The first rule that breaks: in parts that follow one another, that there is one verdict, and that each plan has one.
use Rattle.std.proofs.Common.{◌≡◌, ℕ, zero, suc, ◌<◌, ◌≤◌, ◌^◌, ◌%◌, Bool, true, false, ◌&&◌, ◌||◌, ◌⊎◌, inl, inr, refl, sym, ap, ◌∙◌, arith, subst, ◌↔◌, ⊎_elim, Option, Some, None, if◌then◌else◌}
use Rattle.std.specs.Prelude.{◌==◌}
use Rattle.std.proofs.lemmas.Bool.{false≢true, true≢false, cases_lt, or_cases, and_parts, and_from}
use Rattle.std.proofs.lemmas.Bool.Decides.{nat_tests}
use Rattle.std.proofs.Math.Nat.{div-eq_of_lt, two-pow-succ}
use Rattle.xmp_base.specs.declared.place.Place.{Place}
use Rattle.xmp_base.specs.declared.refusal.Phase.{Phase}
use Rattle.xmp_base.specs.declared.refusal.Refusal.{Refusal}
use Rattle.xmp_base.specs.First.{comes_first, IsFirst, first_of}
use Rattle.xmp_base.proofs.FirstLaws.{comes_first-refl, first_or, first_same}
use Rattle.xmp_paths.specs.NodeSets.{has}
use Rattle.xmp_paths.specs.Plans.{Plan, skip, emit, sequence, branch, loop}
use Rattle.xmp_paths.specs.Rules.{Broken, Breaks, in_phase}
use Rattle.xmp_paths.specs.May.{after_plan, BreaksAt, BreaksFrom}
use Rattle.xmp_paths.proofs.PathLaws.{or_left, or_right}
use Rattle.xmp_paths.proofs.BreakLaws.{breaks_is}
use Rattle.xmp_paths.specs.declared.event.Event.{Event}
use Rattle.xmp_paths.specs.declared.event.Event.TheVariants.{Read, Wrong, Mark}

-- ---- one phase

same_place : (a b : Place) → a.line ≡ b.line → a.column ≡ b.column → a ≡ b
same_place a b e f = ap (λ l. record { line = l; column = a.column }) e ∙ ap (λ c. record { line = b.line; column = c }) f

same_refusal : (a b : Refusal) → a.phase ≡ b.phase → a.rule ≡ b.rule → a.at ≡ b.at → a ≡ b
same_refusal a b e f g =
    ap (λ p. record { phase = p; rule = a.rule; at = a.at }) e
    ∙ (ap (λ r. record { phase = b.phase; rule = r; at = a.at }) f
    ∙ ap (λ x. record { phase = b.phase; rule = b.rule; at = x }) g)

same_line : (a b : Refusal) → comes_first a b ≡ true → comes_first b a ≡ true → a.at.line ≡ b.at.line
same_line a b h k = grind (arith, nat_tests)

same_column : (a b : Refusal) → comes_first a b ≡ true → comes_first b a ≡ true → a.at.column ≡ b.at.column
same_column a b h k = grind (arith, nat_tests)

same_rule : (a b : Refusal) → comes_first a b ≡ true → comes_first b a ≡ true → a.rule ≡ b.rule
same_rule a b h k = grind (arith, nat_tests)

-- of the refusals of one phase one is the first
pub one_first : (phase : Phase) (P : Broken → Type 0) (r s : Refusal) → IsFirst (in_phase phase P) (Some r) → IsFirst (in_phase phase P) (Some s) → r ≡ s
one_first phase P r s h k =
    let to = h.1 s k.0 in
    let back = k.1 r h.0 in
    same_refusal r s (h.0.0 ∙ sym k.0.0) (same_rule r s to back) (same_place r.at s.at (same_line r s to back) (same_column r s to back))

-- there is one verdict
pub one_answer : (phase : Phase) (P : Broken → Type 0) (x y : Option Refusal) → IsFirst (in_phase phase P) x → IsFirst (in_phase phase P) y → x ≡ y
one_answer phase P None None h k = refl
one_answer phase P None (Some s) h k = absurd (h s k.0)
one_answer phase P (Some r) None h k = absurd (k r h.0)
one_answer phase P (Some r) (Some s) h k = ap Some (one_first phase P r s h k)

-- the same broken rules
pub first_alike : (phase : Phase) (P Q : Broken → Type 0) (x : Option Refusal) → ((b : Broken) → P b ↔ Q b) →
    IsFirst (in_phase phase P) x → IsFirst (in_phase phase Q) x
first_alike phase P Q x e h =
    first_same (in_phase phase P) (in_phase phase Q)
    (λ r. (λ p. (p.0, (e (record { rule = r.rule; at = r.at })).0 p.1), λ q. (q.0, (e (record { rule = r.rule; at = r.at })).1 q.1)))
    x h

-- the broken rules of two parts
pub first_both : (phase : Phase) (P Q : Broken → Type 0) (x y : Option Refusal) →
    IsFirst (in_phase phase P) x → IsFirst (in_phase phase Q) y → IsFirst (in_phase phase (λ b. P b ⊎ Q b)) (first_of x y)
first_both phase P Q x y h k =
    first_same (λ r. in_phase phase P r ⊎ in_phase phase Q r) (in_phase phase (λ b. P b ⊎ Q b))
    (λ r. (
      λ s. ⊎_elim (λ p. (p.0, inl p.1)) (λ q. (q.0, inr q.1)) s,
      λ s. ⊎_elim (λ p. inl (s.0, p)) (λ q. inr (s.0, q)) s.1,
    ))
    (first_of x y) (first_or (in_phase phase P) (in_phase phase Q) x y h k)

-- the one broken rule
pub first_one : (phase : Phase) (P : Broken → Type 0) (b : Broken) → P b → ((c : Broken) → P c → b ≡ c) →
    IsFirst (in_phase phase P) (Some (record { phase = phase; rule = b.rule; at = b.at }))
first_one phase P b h only = (
  (refl, h),
  λ r q.
      let e : b ≡ record { rule = r.rule; at = r.at } = only (record { rule = r.rule; at = r.at }) q.1 in
      let f : record { phase = phase; rule = b.rule; at = b.at } ≡ r =
      same_refusal (record { phase = phase; rule = b.rule; at = b.at }) r (sym q.0) (ap (λ c. c.rule) e) (ap (λ c. c.at) e) in
      subst (λ x. comes_first (record { phase = phase; rule = b.rule; at = b.at }) x ≡ true) f
      (comes_first-refl (record { phase = phase; rule = b.rule; at = b.at })),
)

-- no broken rule
pub first_none : (phase : Phase) (P : Broken → Type 0) → ((b : Broken) → P b → ⊥) → IsFirst (in_phase phase P) None
first_none phase P none = λ r h. none (record { rule = r.rule; at = r.at }) h.1

-- ---- a verdict for each plan

-- whether a number below passes the test
some_below : (ℕ → Bool) → ℕ → Bool
some_below test zero = false
some_below test (suc n) = test n || some_below test n

some_below_true : (test : ℕ → Bool) (n : ℕ) → some_below test n ≡ true → (k : ℕ) × (test k ≡ true)
unfolding some_below
some_below_true test zero h = absurd (false≢true h)
some_below_true test (suc n) h = ⊎_elim (λ e. (n, e)) (λ e. some_below_true test n e) (or_cases (test n) (some_below test n) h)

last_or_below : (k n : ℕ) → k < suc n → (k ≡ n) ⊎ (k < n)
last_or_below k n h = ⊎_elim (λ l. inr l) (λ g. inl (omega (arith, h, g))) (cases_lt k n)

some_below_false : (test : ℕ → Bool) (n k : ℕ) → k < n → test k ≡ true → some_below test n ≡ true
unfolding some_below
some_below_false test zero k l h = absurd (omega (arith, l))
some_below_false test (suc n) k l h =
    ⊎_elim
    (λ e. or_left (test n) (some_below test n) (ap test (sym e) ∙ h))
    (λ m. or_right (test n) (some_below test n) (some_below_false test n k m h))
    (last_or_below k n l)

below_power : (n : ℕ) → n < 2 ^ n
below_power zero = omega arith
below_power (suc n) = let h = below_power n in let e = two-pow-succ n in omega (arith, h, e)

-- a node of a set is less than the set as a number
node_below : (nodes node : ℕ) → has nodes node ≡ true → node < nodes
node_below nodes node h = ⊎_elim (λ l. l) (λ far. absurd (none far)) (cases_lt node nodes)
  where
    none : nodes ≤ node → ⊥
    none far =
        let p : node < 2 ^ node = below_power node in
        let lt : nodes < 2 ^ node = omega (arith, far, p) in
        let z : has nodes node ≡ false = ap (λ x. x % 2 == 1) (div-eq_of_lt lt) in
        true≢false (sym h ∙ z)

-- whether a node reads a copy that may be out of date
reads_one : ℕ → ℕ → (ℕ → ℕ → Bool) → Bool
reads_one object nodes entry = some_below (λ node. has nodes node && entry object node) nodes

first_read : Phase → (object nodes rule : ℕ) → Place → (ℕ → ℕ → Bool) → Option Refusal
first_read phase object nodes rule at entry =
    if reads_one object nodes entry then Some (record { phase = phase; rule = rule; at = at }) else None

first_read_is : (phase : Phase) (object nodes rule : ℕ) (at : Place) (entry : ℕ → ℕ → Bool) →
    IsFirst (in_phase phase (BreaksAt (Read object nodes rule at) entry)) (first_read phase object nodes rule at entry)
unfolding first_read reads_one
first_read_is phase object nodes rule at entry = case (some_below (λ node. has nodes node && entry object node) nodes) refl
  where
    case : (t : Bool) → some_below (λ node. has nodes node && entry object node) nodes ≡ t →
        IsFirst (in_phase phase (BreaksAt (Read object nodes rule at) entry)) (if t then Some (record { phase = phase; rule = rule; at = at }) else None)
    case true e =
        let w = some_below_true (λ node. has nodes node && entry object node) nodes e in
        let both = and_parts (has nodes w.0) (entry object w.0) w.1 in
        first_one phase (BreaksAt (Read object nodes rule at) entry) (record { rule = rule; at = at }) (refl, (w.0, both.0, both.1)) (λ c h. h.0)
    case false e = first_none phase (BreaksAt (Read object nodes rule at) entry)
        (λ b h. true≢false (sym (some_below_false (λ node. has nodes node && entry object node) nodes h.1.0
        (node_below nodes h.1.0 h.1.1) (and_from _ _ h.1.1 h.1.2)) ∙ e))

some_at : (phase : Phase) (e : Event) (entry : ℕ → ℕ → Bool) → (found : Option Refusal) × IsFirst (in_phase phase (BreaksAt e entry)) found
some_at phase (Read object nodes rule at) entry = (first_read phase object nodes rule at entry, first_read_is phase object nodes rule at entry)
some_at phase (Wrong rule at) entry = (
  Some (record { phase = phase; rule = rule; at = at }),
  first_one phase (BreaksAt (Wrong rule at) entry) (record { rule = rule; at = at }) refl (λ c h. h),
)
some_at phase (Mark object current stale) entry = (None, first_none phase (BreaksAt (Mark object current stale) entry) (λ b h. absurd h))

some_from : (phase : Phase) (plan : Plan Event) (entry : ℕ → ℕ → Bool) → (found : Option Refusal) × IsFirst (in_phase phase (BreaksFrom plan entry)) found
some_from phase skip entry = (None, first_none phase (BreaksFrom skip entry) (λ b h. absurd h))
some_from phase (emit e) entry = some_at phase e entry
some_from phase (sequence p q) entry =
    let x = some_from phase p entry in
    let y = some_from phase q (after_plan p entry) in
    (first_of x.0 y.0, first_both phase (BreaksFrom p entry) (BreaksFrom q (after_plan p entry)) x.0 y.0 x.1 y.1)
some_from phase (branch p q) entry =
    let x = some_from phase p entry in
    let y = some_from phase q entry in
    (first_of x.0 y.0, first_both phase (BreaksFrom p entry) (BreaksFrom q entry) x.0 y.0 x.1 y.1)
some_from phase (loop p) entry = some_from phase p (after_plan (loop p) entry)

-- the first rule that breaks by the recursion, from copies that are all current, is the first on the paths
pub first_on_paths : (phase : Phase) (plan : Plan Event) (x : Option Refusal) →
    IsFirst (in_phase phase (BreaksFrom plan (λ object node. false))) x → IsFirst (in_phase phase (Breaks plan)) x
first_on_paths phase plan x h = first_alike phase (BreaksFrom plan (λ object node. false)) (Breaks plan) x (breaks_is plan) h

-- each plan has a verdict
pub some_answer : (phase : Phase) (plan : Plan Event) → (found : Option Refusal) × IsFirst (in_phase phase (Breaks plan)) found
some_answer phase plan = let x = some_from phase plan (λ object node. false) in (x.0, first_on_paths phase plan x.0 x.1)
