use Rattle.std.proofs.Common.{◌≡◌, ◌<◌, ◌≤◌, ◌^◌, ◌∙◌, ◌&&◌, ◌++◌, ℕ, List, [], ◌∷◌, length, true, refl, sym, subst, arith, append_assoc, nat_le}
use Rattle.std.specs.Fmt.{decimal}
use Rattle.std.proofs.lemmas.Fmt.{digits_decimal, decimal_injective}
use borrow.Author.Tests.{leb-true}
use Rattle.xmp_num.specs.declared.types.BinOp.{BinOp}
use Rattle.xmp_num.specs.declared.types.BinOp.TheVariants.{Add, Sub, Mul}
use Rattle.xmp_first.specs.declared.first_item.Item.{Item}
use Rattle.xmp_first.specs.declared.first_item.Item.TheVariants.{Index, Number, Op}
use Rattle.xmp_first.specs.First.{is_operator, is_operand, is_tail, is_expression}
use Rattle.xmp_first.specs.Reading.{NoMore, IsNumberAt, IsOperandAt}
use Rattle.xmp_first.specs.Layout.{operator_text, item_text, value_text, middle, foot, IsProgram, Spells}
use Rattle.xmp_first.specs.declared.layout.TheConstants.{HEAD, TO_NODES}
use Rattle.xmp_first.proofs.Digits.{own, one_split, both_true}
use Rattle.xmp_first.proofs.Expressions.{operand_one, op_one, tail_ends}

pub cancel : (name v w : List ℕ) → name ++ v ≡ name ++ w → v ≡ w
cancel [] v w e = e
cancel (c ∷ name) v w e = cancel name v w (let P : name ++ v ≡ name ++ w = cc in P)

-- a number and what follows it are known by the text
pub number_one : (text : List ℕ) (m n : ℕ) (r s : List ℕ) → IsNumberAt text m r → IsNumberAt text n s → (m ≡ n) × (r ≡ s)
number_one text m n r s h k =
    let x = h.small in
    let y = k.small in
    let u : m < 2 ^ 64 = omega arith in
    let v : n < 2 ^ 64 = omega arith in
    let t = one_split (decimal m) (decimal n) r s (digits_decimal own m u) (digits_decimal own n v) h.ends k.ends (sym h.text_is ∙ k.text_is) in
    (decimal_injective m n u v t.0, t.1)

-- an expression is an operand and a tail
pub record Split (text : List ℕ) (value : List Item) (rest : List ℕ) : Type 0 where
  pub item : Item
  pub tail : List Item
  pub whole : value ≡ item ∷ tail
  pub operand : IsOperandAt text item (value_text tail ++ rest)
  pub valid : is_tail tail ≡ true
  pub few : length tail ≤ 200

pub split_of : (text : List ℕ) (value : List Item) (rest : List ℕ) → is_expression value ≡ true → text ≡ value_text value ++ rest → NoMore rest → Split text value rest
split_of text [] rest x e n = absurd (cc)
split_of text (v ∷ vs) rest x e n =
    let q = both_true (is_operand v) (is_tail vs && nat_le (length vs) 200) x in
    let p = both_true (is_tail vs) (nat_le (length vs) 200) q.1 in
    record {
      item = v;
      tail = vs;
      whole = refl;
      valid = p.0;
      few = leb-true (length vs) 200 p.1;
      operand = record { operand = q.0; text_is = e ∙ append_assoc (item_text v) (value_text vs) rest; ends = tail_ends vs rest p.0 n };
    }

op_space : (o : BinOp) (a : List ℕ) → is_operator o ≡ true → NoMore (operator_text o ++ a) → ⊥
op_space Add a l n = n.1 refl
op_space Sub a l n = n.1 refl
op_space Mul a l n = n.1 refl
op_space o a l n = absurd (cc)

no_op : (o : BinOp) (a r : List ℕ) → is_operator o ≡ true → NoMore r → r ≡ operator_text o ++ a → ⊥
no_op o a r l n e = op_space o a l (subst NoMore e n)

-- the operators with their operands and what follows them are known by the text
pub tail_one : (a b : List Item) (r s : List ℕ) → is_tail a ≡ true → is_tail b ≡ true → NoMore r → NoMore s → value_text a ++ r ≡ value_text b ++ s → (a ≡ b) × (r ≡ s)
tail_one [] [] r s v w m n e = (refl, e)
tail_one [] (Op o ∷ x ∷ xs) r s v w m n e = absurd (no_op o (value_text (x ∷ xs) ++ s) r (both_true (is_operator o) (is_operand x && is_tail xs) w).0 m (e ∙ append_assoc (operator_text o) (value_text (x ∷ xs)) s))
tail_one (Op o ∷ x ∷ xs) [] r s v w m n e = absurd (no_op o (value_text (x ∷ xs) ++ r) s (both_true (is_operator o) (is_operand x && is_tail xs) v).0 n (sym e ∙ append_assoc (operator_text o) (value_text (x ∷ xs)) r))
tail_one (Op o ∷ x ∷ xs) (Op p ∷ y ∷ ys) r s v w m n e =
    let q = both_true (is_operator o) (is_operand x && is_tail xs) v in
    let q' = both_true (is_operand x) (is_tail xs) q.1 in
    let k = both_true (is_operator p) (is_operand y && is_tail ys) w in
    let k' = both_true (is_operand y) (is_tail ys) k.1 in
    let one = op_one o p (value_text (x ∷ xs) ++ r) (value_text (y ∷ ys) ++ s) q.0 k.0 (sym (append_assoc (operator_text o) (value_text (x ∷ xs)) r) ∙ (e ∙ append_assoc (operator_text p) (value_text (y ∷ ys)) s)) in
    let left : IsOperandAt (value_text (x ∷ xs) ++ r) x (value_text xs ++ r) = record { operand = q'.0; text_is = append_assoc (item_text x) (value_text xs) r; ends = tail_ends xs r q'.1 m } in
    let right : IsOperandAt (value_text (x ∷ xs) ++ r) y (value_text ys ++ s) = record { operand = k'.0; text_is = one.1 ∙ append_assoc (item_text y) (value_text ys) s; ends = tail_ends ys s k'.1 n } in
    let same = operand_one (value_text (x ∷ xs) ++ r) x y (value_text xs ++ r) (value_text ys ++ s) left right in
    let more = tail_one xs ys r s q'.1 k'.1 m n same.1 in
    let o_is : o ≡ p = one.0 in
    let x_is : x ≡ y = same.0 in
    let xs_are : xs ≡ ys = more.0 in
    (cc, more.1)
tail_one (Op o ∷ []) b r s v w m n e = absurd (cc)
tail_one (Index ∷ xs) b r s v w m n e = absurd (cc)
tail_one (Number k ∷ xs) b r s v w m n e = absurd (cc)
tail_one [] (Op o ∷ []) r s v w m n e = absurd (cc)
tail_one [] (Index ∷ xs) r s v w m n e = absurd (cc)
tail_one [] (Number k ∷ xs) r s v w m n e = absurd (cc)
tail_one (Op o ∷ x ∷ xs) (Op p ∷ []) r s v w m n e = absurd (cc)
tail_one (Op o ∷ x ∷ xs) (Index ∷ ys) r s v w m n e = absurd (cc)
tail_one (Op o ∷ x ∷ xs) (Number k ∷ ys) r s v w m n e = absurd (cc)

-- an expression and what follows it are known by the text
pub value_one : (text : List ℕ) (a b : List Item) (r s : List ℕ) → is_expression a ≡ true → is_expression b ≡ true → NoMore r → NoMore s → text ≡ value_text a ++ r → text ≡ value_text b ++ s → (a ≡ b) × (r ≡ s)
value_one text a b r s x y m n e f =
    let p = split_of text a r x e m in
    let q = split_of text b s y f n in
    let same = operand_one text p.item q.item (value_text p.tail ++ r) (value_text q.tail ++ s) p.operand q.operand in
    let more = tail_one p.tail q.tail r s p.valid q.valid m n same.1 in
    let item_is : p.item ≡ q.item = same.0 in
    let tail_is : p.tail ≡ q.tail = more.0 in
    let whole : p.item ∷ p.tail ≡ q.item ∷ q.tail = cc in
    (p.whole ∙ whole ∙ sym q.whole, more.1)

pub foot_ends : (size : ℕ) → NoMore (foot size)
foot_ends size = (refl, λ e. absurd (omega (arith, e)))

-- where a program's text is read as far as its size
pub at_size : (size nodes : ℕ) (value : List Item) (text r : List ℕ) → Spells size nodes value text → text ≡ HEAD.now ++ r → IsNumberAt r size (TO_NODES.now ++ (decimal nodes ++ (middle size ++ (value_text value ++ foot size))))
at_size size nodes value text r h e = record {
  small = let f = h.valid.few_cells in omega arith;
  text_is = cancel HEAD.now r (decimal size ++ (TO_NODES.now ++ (decimal nodes ++ (middle size ++ (value_text value ++ foot size))))) (sym e ∙ h.text_is);
  ends = refl;
}

-- and as far as its nodes
pub at_nodes : (size nodes : ℕ) (value : List Item) (r : List ℕ) → IsProgram size nodes value → TO_NODES.now ++ r ≡ TO_NODES.now ++ (decimal nodes ++ (middle size ++ (value_text value ++ foot size))) → IsNumberAt r nodes (middle size ++ (value_text value ++ foot size))
at_nodes size nodes value r h e = record {
  small = let f = h.few_nodes in omega arith;
  text_is = cancel TO_NODES.now r (decimal nodes ++ (middle size ++ (value_text value ++ foot size))) e;
  ends = refl;
}
