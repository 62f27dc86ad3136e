-- Keys that compare alike are one, and what a table finds once a refusal is noted.
use Rattle.std.proofs.Common.{◌≡◌, ℕ, ◌==◌, Bool, true, false, ◌&&◌, List, [], ◌∷◌, ℤ, Option, Some, None, pos, cond, refl, sym, ap, ◌∙◌, subst, if◌then◌else◌}
use Rattle.std.proofs.lemmas.Bool.{false≢true, true≢false, and_parts, eqb-true}
use Rattle.std.proofs.lemmas.Bool.Decides.{Decides-int_eq}
use Rattle.std.specs.Ordering.{int_eq}
use Rattle.std.specs.Map.{lookup}
use Rattle.xmp_base.specs.declared.refusal.Refusal.{Refusal}
use Rattle.xmp_spots.specs.contracts.keys.KeyPartialEq.TheImpl as key_eq
use Rattle.xmp_spots.specs.contracts.keys.MarkPartialEq.TheImpl as mark_eq
use Rattle.xmp_spots.specs.declared.touches.By.{By}
use Rattle.xmp_spots.specs.declared.keys.Mark.{Mark}
use Rattle.xmp_spots.specs.declared.keys.Mark.TheVariants as mark
use Rattle.xmp_spots.specs.declared.keys.Key.{Key}
use Rattle.xmp_spots.specs.declared.nearest.Nearest.{Nearest}
use Rattle.xmp_spots.specs.Clashes.{by_two}
use Rattle.xmp_spots.specs.Nearest.{noted}
use Rattle.xmp_spots.specs.Seen.{seen_by}
use Rattle.xmp_spots.specs.Tables.{same_mark, same_key, seen_in}

int_is : (a b : ℤ) → int_eq a b ≡ true → a ≡ b
int_is a b h = (Decides-int_eq a b).0 h

mark_is : (a b : Mark) → same_mark a b ≡ true → a ≡ b
mark_is mark.Whole mark.Whole h = refl
mark_is mark.Whole mark.Any h = absurd (false≢true h)
mark_is mark.Whole (mark.Number m) h = absurd (false≢true h)
mark_is mark.Any mark.Whole h = absurd (false≢true h)
mark_is mark.Any mark.Any h = refl
mark_is mark.Any (mark.Number m) h = absurd (false≢true h)
mark_is (mark.Number n) mark.Whole h = absurd (false≢true h)
mark_is (mark.Number n) mark.Any h = absurd (false≢true h)
mark_is (mark.Number n) (mark.Number m) h = ap mark.Number (int_is n m h)

pub key_is : (a b : Key) → same_key a b ≡ true → a ≡ b
key_is a b h =
    let one = and_parts _ _ h in
    let two = and_parts _ _ one.1 in
    let three = and_parts _ _ two.1 in
    let four = and_parts _ _ three.1 in
    let u : a.array ≡ b.array = eqb-true a.array b.array one.0 in
    let v : a.on ≡ b.on = int_is a.on b.on two.0 in
    let w : a.first ≡ b.first = mark_is a.first b.first three.0 in
    let x : a.second ≡ b.second = mark_is a.second b.second four.0 in
    let y : a.third ≡ b.third = mark_is a.third b.third four.1 in
    λ i. record { array = u i; on = v i; first = w i; second = x i; third = y i }

mark_alike : (a b : Mark) → mark_eq.eq-value.it a b ≡ same_mark a b
mark_alike mark.Whole mark.Whole = refl
mark_alike mark.Whole mark.Any = refl
mark_alike mark.Whole (mark.Number m) = refl
mark_alike mark.Any mark.Whole = refl
mark_alike mark.Any mark.Any = refl
mark_alike mark.Any (mark.Number m) = refl
mark_alike (mark.Number n) mark.Whole = refl
mark_alike (mark.Number n) mark.Any = refl
mark_alike (mark.Number n) (mark.Number m) = refl

-- the derived comparison
pub eq_is : (a b : Key) → key_eq.eq-value.it a b ≡ same_key a b
eq_is a b = λ i.
    a.array == b.array
    && (int_eq a.on b.on
    && (mark_alike a.first b.first i && (mark_alike a.second b.second i && mark_alike a.third b.third i)))

-- what a map has at a key
pub at_key : (k : Key) (es : List (Key × Nearest)) → lookup (key_eq.eq-value.it k) es ≡ lookup (same_key k) es
at_key k es = ap (λ (t : Key → Bool). lookup t es) (λ i a. eq_is k a i)

-- a table in which a key gets other nearest refusals, with one more
pub noted_at : (old new : List (Key × Nearest)) (key : Key) (n : Nearest) (by : By) (r : Refusal) →
    ((k : Key) → lookup (key_eq.eq-value.it k) new ≡ cond (key_eq.eq-value.it key k) (Some n) (lookup (key_eq.eq-value.it k) old)) →
    ((q : By) → seen_by n q ≡ noted (by_two q by) r (seen_in (lookup (key_eq.eq-value.it key) old) q)) →
    (k : Key) (q : By) →
    seen_in (lookup (same_key k) new) q ≡ noted (same_key key k && by_two q by) r (seen_in (lookup (same_key k) old) q)
noted_at old new key n by r h with_more k q =
    ap (λ x. seen_in x q) (sym (at_key k new) ∙ h k ∙ ap (λ x. cond (key_eq.eq-value.it key k) (Some n) x) (at_key k old)
    ∙ ap (λ b. cond b (Some n) (lookup (same_key k) old)) (eq_is key k))
    ∙ case (same_key key k) refl
  where
    case : (t : Bool) → same_key key k ≡ t →
        seen_in (cond t (Some n) (lookup (same_key k) old)) q ≡ noted (t && by_two q by) r (seen_in (lookup (same_key k) old) q)
    case true e =
        with_more q ∙ ap (λ x. noted (by_two q by) r (seen_in x q)) (at_key key old)
        ∙ ap (λ a. noted (by_two q by) r (seen_in (lookup (same_key a) old) q)) (key_is key k e)
    case false e = refl
