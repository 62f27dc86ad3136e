use Rattle.std.proofs.Common.{◌≡◌, ◌<◌, ◌≤◌, ◌+◌, ◌*◌, ◌^◌, ◌∙◌, ◌&&◌, ◌++◌, ℕ, pos, negsuc, List, [], ◌∷◌, length, get_or, true, refl, sym, ap, subst, arith, append_assoc, drop, cond, ◌==◌}
use Rattle.std.specs.Fmt.{decimal}
use Rattle.std.proofs.lemmas.Str.Parse.{digit_at}
use Rattle.std.proofs.lemmas.Fmt.{decimal_nonempty, digits_decimal, decimal_injective}
use borrow.Author.Tests.{ltb-true}
use Rattle.xmp_num.specs.declared.types.BinOp.{BinOp}
use Rattle.xmp_num.specs.declared.types.BinOp.TheVariants.{Add, Sub, Mul}
use Rattle.xmp_first.specs.declared.first_item.Item.{Item}
use Rattle.xmp_first.specs.declared.first_item.Item.TheVariants.{Index, Number, Op}
use Rattle.xmp_first.specs.First.{is_operator, is_operand, is_tail}
use Rattle.xmp_first.specs.Layout.{operator_text, item_text, value_text}
use Rattle.xmp_first.specs.Reading.{NoDigit, NoMore, IsOperandAt, IsTailAt}
use Rattle.xmp_first.proofs.Digits.{own, one_split, both_true}

-- an operand that is a number is a small one
pub small_number : (k : ℕ) → is_operand (Number (pos k)) ≡ true → k < 1000000000
small_number k h = ltb-true k 1000000000 h

-- a number doesn't begin with this letter
pub no_letter : (k : ℕ) (rest r : List ℕ) → k < 1000000000 → decimal k ++ rest ≡ 105 ∷ r → ⊥
no_letter k rest r small e =
    let n : k < 2 ^ 64 = omega arith in
    let d = digit_at (decimal k) 0 (own.to (decimal k) (digits_decimal own k n)) (decimal_nonempty k n) in
    let f : get_or (decimal k ++ rest) 0 0 ≡ 105 = ap (λ (xs : List ℕ). get_or xs 0 0) e in
    omega (arith, front (decimal k) (decimal_nonempty k n), d.1) where
      front : (ds : List ℕ) → 0 < length ds → get_or (ds ++ rest) 0 0 ≡ get_or ds 0 0
      front [] p = absurd (omega arith)
      front (c ∷ ds) p = refl

pub index_only : (text r : List ℕ) (item : Item) (rest : List ℕ) → text ≡ 105 ∷ r → (NoDigit r → ⊥) → IsOperandAt text item rest → ⊥
index_only text r Index rest e n h = let t = h.text_is in let s : rest ≡ r = tail_of rest r (sym t ∙ e) in n (subst NoDigit s h.ends) where
  tail_of : (a b : List ℕ) → 105 ∷ a ≡ 105 ∷ b → a ≡ b
  tail_of a b p = cc
index_only text r (Number (pos k)) rest e n h = no_letter k rest r (small_number k h.operand) (sym h.text_is ∙ e)
index_only text r (Number (negsuc k)) rest e n h = let o = h.operand in absurd (cc)
index_only text r (Op p) rest e n h = let o = h.operand in absurd (cc)

-- an operand and what follows it are known by the text
pub operand_one : (text : List ℕ) (a b : Item) (r s : List ℕ) → IsOperandAt text a r → IsOperandAt text b s → (a ≡ b) × (r ≡ s)
operand_one text Index Index r s h k = (refl, tail_of r s (sym h.text_is ∙ k.text_is)) where
  tail_of : (a b : List ℕ) → 105 ∷ a ≡ 105 ∷ b → a ≡ b
  tail_of a b p = cc
operand_one text Index (Number (pos n)) r s h k = absurd (no_letter n s r (small_number n k.operand) (sym k.text_is ∙ h.text_is))
operand_one text (Number (pos n)) Index r s h k = absurd (no_letter n r s (small_number n h.operand) (sym h.text_is ∙ k.text_is))
operand_one text (Number (pos m)) (Number (pos n)) r s h k =
    let x = small_number m h.operand in
    let y = small_number n k.operand in
    let u : m < 2 ^ 64 = omega arith in
    let v : n < 2 ^ 64 = omega arith in
    let t = one_split (decimal m) (decimal n) r s (digits_decimal own m u) (digits_decimal own n v) h.ends k.ends (sym h.text_is ∙ k.text_is) in
    (ap (λ (z : ℕ). Number (pos z)) (decimal_injective m n u v t.0), t.1)
operand_one text (Number (negsuc m)) b r s h k = let o = h.operand in absurd (cc)
operand_one text (Op p) b r s h k = let o = h.operand in absurd (cc)
operand_one text Index (Number (negsuc n)) r s h k = let o = k.operand in absurd (cc)
operand_one text Index (Op p) r s h k = let o = k.operand in absurd (cc)
operand_one text (Number (pos m)) (Number (negsuc n)) r s h k = let o = k.operand in absurd (cc)
operand_one text (Number (pos m)) (Op p) r s h k = let o = k.operand in absurd (cc)

-- the second byte tells the operator
op_of : ℕ → BinOp
op_of n = cond (n == 43) Add (cond (n == 45) Sub Mul)

op_known : (o : BinOp) (a : List ℕ) → is_operator o ≡ true → op_of (get_or (operator_text o ++ a) 1 0) ≡ o
unfolding op_of
op_known Add a l = refl
op_known Sub a l = refl
op_known Mul a l = refl
op_known o a l = absurd (cc)

op_rest : (o : BinOp) (a : List ℕ) → is_operator o ≡ true → drop 3 (operator_text o ++ a) ≡ a
op_rest Add a l = refl
op_rest Sub a l = refl
op_rest Mul a l = refl
op_rest o a l = absurd (cc)

pub op_front : (o : BinOp) (a : List ℕ) → is_operator o ≡ true → NoDigit (operator_text o ++ a)
op_front Add a l = refl
op_front Sub a l = refl
op_front Mul a l = refl
op_front o a l = absurd (cc)

pub op_one : (o p : BinOp) (a b : List ℕ) → is_operator o ≡ true → is_operator p ≡ true → operator_text o ++ a ≡ operator_text p ++ b → (o ≡ p) × (a ≡ b)
op_one o p a b l m e = (
  sym (op_known o a l) ∙ (ap (λ (z : List ℕ). op_of (get_or z 1 0)) e ∙ op_known p b m),
  sym (op_rest o a l) ∙ (ap (λ (z : List ℕ). drop 3 z) e ∙ op_rest p b m),
)

-- behind an operand stands no digit
pub tail_ends : (tail : List Item) (rest : List ℕ) → is_tail tail ≡ true → NoMore rest → NoDigit (value_text tail ++ rest)
tail_ends [] [] t n = tt
tail_ends [] (c ∷ rest) t n = n.0
tail_ends (Op o ∷ x ∷ xs) rest t n =
    let q = both_true (is_operator o) (is_operand x && is_tail xs) t in
    subst NoDigit (sym (append_assoc (operator_text o) (item_text x ++ value_text xs) rest)) (op_front o ((item_text x ++ value_text xs) ++ rest) q.0)
tail_ends (Op o ∷ []) rest t n = absurd (cc)
tail_ends (Index ∷ xs) rest t n = absurd (cc)
tail_ends (Number k ∷ xs) rest t n = absurd (cc)

-- the first operator of a tail, its operand, and the rest
pub record Parts (rest1 : List ℕ) (most : ℕ) (rest : List ℕ) : Type 0 where
  pub item : Item
  pub tail : List Item
  pub valid : is_tail tail ≡ true
  pub few : length tail + 2 ≤ 2 * most
  pub operand : IsOperandAt rest1 item (value_text tail ++ rest)

pub parts_of : (text rest1 : List ℕ) (o : BinOp) (most : ℕ) (tail : List Item) (rest : List ℕ) → is_operator o ≡ true → text ≡ operator_text o ++ rest1 → (NoMore text → ⊥) → NoMore rest → IsTailAt text most tail rest → Parts rest1 most rest
parts_of text rest1 o most [] rest l e n m h = let t = h.text_is in absurd (n (subst NoMore (sym t) h.ends))
parts_of text rest1 o most (Op p ∷ x ∷ xs) rest l e n m h =
    let q = both_true (is_operator p) (is_operand x && is_tail xs) h.valid in
    let q' = both_true (is_operand x) (is_tail xs) q.1 in
    let t : text ≡ operator_text p ++ (item_text x ++ (value_text xs ++ rest)) =
    h.text_is ∙ (append_assoc (operator_text p) (item_text x ++ value_text xs) rest ∙ ap (λ (z : List ℕ). operator_text p ++ z) (append_assoc (item_text x) (value_text xs) rest)) in
    let one = op_one o p rest1 (item_text x ++ (value_text xs ++ rest)) l q.0 (sym e ∙ t) in
    record { item = x; tail = xs; valid = q'.1; few = let f = h.few in omega arith; operand = record { operand = q'.0; text_is = one.1; ends = tail_ends xs rest q'.1 m } }
parts_of text rest1 o most (Op p ∷ []) rest l e n m h = let v = h.valid in absurd (cc)
parts_of text rest1 o most (Index ∷ xs) rest l e n m h = let v = h.valid in absurd (cc)
parts_of text rest1 o most (Number k ∷ xs) rest l e n m h = let v = h.valid in absurd (cc)
