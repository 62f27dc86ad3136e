-- A list of items is spelled by one expression, and it is that of `tree_of`.
use Rattle.std.proofs.Common.{◌≡◌, ℕ, List, [], ◌∷◌, ◌++◌, Bool, true, false, ◌&&◌, refl, sym, ap, ◌∙◌, append_assoc, nat_le, length}
use Rattle.xmp_num.specs.declared.types.BinOp.{BinOp}
use Rattle.xmp_num.specs.declared.types.BinOp.TheVariants.{Add, Sub, Mul}
use Rattle.xmp_first.specs.declared.first_item.Item.{Item}
use Rattle.xmp_first.specs.declared.first_item.Item.TheVariants.{Index, Number, Op}
use Rattle.xmp_first.specs.First.{is_operator, is_operand, is_tail, is_expression}
use Rattle.xmp_first.specs.FirstGrammar.{Operand, index, number, Product, factor, times, Sum, term, plus, minus, operand_item, product_items, sum_items}
use Rattle.xmp_first.specs.FirstMeaning.{printed, IsPrinted}
use Rattle.xmp_first.specs.FirstTree.{operand_of, extended, continued, tree_of}

both_true : (a b : Bool) → (a && b) ≡ true → (a ≡ true) × (b ≡ true)
both_true true true e = (refl, refl)
both_true true false e = absurd (cc)
both_true false b e = absurd (cc)

append_nil : (xs : List Item) → xs ++ [] ≡ xs
append_nil [] = refl
append_nil (x ∷ xs) = ap (λ (ys : List Item). x ∷ ys) (append_nil xs)

-- an operand item spells its operand
item_again : (x : Item) → is_operand x ≡ true → operand_item (operand_of x) ≡ x
item_again Index h = refl
item_again (Number n) h = refl
item_again (Op o) h = absurd (cc)

operand_again : (x : Operand) → operand_of (operand_item x) ≡ x
operand_again index = refl
operand_again (number n) = refl

-- what an operator and an operand add to an expression, they add to its items
extended_items : (t : Sum) (o : BinOp) (x : Operand) → is_operator o ≡ true → sum_items (extended t o x) ≡ sum_items t ++ Op o ∷ operand_item x ∷ []
extended_items (term p) Mul x h = refl
extended_items (plus s p) Mul x h = sym (append_assoc (sum_items s) (Op Add ∷ product_items p) (Op Mul ∷ operand_item x ∷ []))
extended_items (minus s p) Mul x h = sym (append_assoc (sum_items s) (Op Sub ∷ product_items p) (Op Mul ∷ operand_item x ∷ []))
extended_items (term p) Add x h = refl
extended_items (plus s p) Add x h = refl
extended_items (minus s p) Add x h = refl
extended_items (term p) Sub x h = refl
extended_items (plus s p) Sub x h = refl
extended_items (minus s p) Sub x h = refl
extended_items t o x h = absurd (cc)

continued_items : (t : Sum) (xs : List Item) → is_tail xs ≡ true → sum_items (continued t xs) ≡ sum_items t ++ xs
continued_items t [] h = sym (append_nil (sum_items t))
continued_items t (Op o ∷ x ∷ xs) h =
    let q = both_true (is_operator o) (is_operand x && is_tail xs) h in
    let r = both_true (is_operand x) (is_tail xs) q.1 in
    continued_items (extended t o (operand_of x)) xs r.1
    ∙ ap (λ (ys : List Item). ys ++ xs) (extended_items t o (operand_of x) q.0)
    ∙ append_assoc (sum_items t) (Op o ∷ operand_item (operand_of x) ∷ []) xs
    ∙ ap (λ (y : Item). sum_items t ++ Op o ∷ y ∷ xs) (item_again x r.0)
continued_items t (Op o ∷ []) h = absurd (cc)
continued_items t (Index ∷ xs) h = absurd (cc)
continued_items t (Number n ∷ xs) h = absurd (cc)

-- an expression's items spell the tree that is made of them
pub spelled : (xs : List Item) → is_expression xs ≡ true → sum_items (tree_of xs) ≡ xs
spelled [] h = absurd (cc)
spelled (x ∷ xs) h =
    let q = both_true (is_operand x) (is_tail xs && nat_le (length xs) 200) h in
    let r = both_true (is_tail xs) (nat_le (length xs) 200) q.1 in
    continued_items (term (factor (operand_of x))) xs r.0
    ∙ ap (λ (y : Item). y ∷ xs) (item_again x q.0)

-- a product from its first operand on, where `k` says what stands before it
started : (Product → Sum) → List Item → Sum
started k (x ∷ xs) = continued (k (factor (operand_of x))) xs
started k [] = k (factor index)

started_product : (k : Product → Sum) (p : Product) (xs : List Item)
    → ((q : Product) (x : Operand) → extended (k q) Mul x ≡ k (times q x)) → started k (product_items p ++ xs) ≡ continued (k p) xs
unfolding started
started_product k (factor x) xs m = ap (λ (y : Operand). continued (k (factor y)) xs) (operand_again x)
started_product k (times p x) xs m =
    ap (started k) (append_assoc (product_items p) (Op Mul ∷ operand_item x ∷ []) xs)
    ∙ started_product k p (Op Mul ∷ operand_item x ∷ xs) m
    ∙ ap (λ (y : Operand). continued (extended (k p) Mul y) xs) (operand_again x)
    ∙ ap (λ (t : Sum). continued t xs) (m p x)

-- behind `+` and `-` begins a product
data Some (xs : List Item) : Type 0 where
  some : (y : Item) (ys : List Item) → xs ≡ y ∷ ys → Some xs

product_some : (p : Product) (xs : List Item) → Some (product_items p ++ xs)
product_some (factor x) xs = some (operand_item x) xs refl
product_some (times p x) xs = elim (product_some p (Op Mul ∷ operand_item x ∷ xs)) [ some y ys e ↦ some y ys (append_assoc (product_items p) (Op Mul ∷ operand_item x ∷ []) xs ∙ e) ]

added : (t : Sum) (p : Product) (xs : List Item) → continued t (Op Add ∷ (product_items p ++ xs)) ≡ continued (plus t p) xs
unfolding started
added t p xs = elim (product_some p xs) [
  | some y ys e ↦ ap (λ (zs : List Item). continued t (Op Add ∷ zs)) e ∙ first t y ys ∙ ap (started (plus t)) (sym e) ∙ started_product (plus t) p xs (λ q x. refl)
] where
  first : (t : Sum) (y : Item) (ys : List Item) → continued t (Op Add ∷ y ∷ ys) ≡ started (plus t) (y ∷ ys)
  first (term p) y ys = refl
  first (plus s p) y ys = refl
  first (minus s p) y ys = refl

subtracted : (t : Sum) (p : Product) (xs : List Item) → continued t (Op Sub ∷ (product_items p ++ xs)) ≡ continued (minus t p) xs
unfolding started
subtracted t p xs = elim (product_some p xs) [
  | some y ys e ↦ ap (λ (zs : List Item). continued t (Op Sub ∷ zs)) e ∙ first t y ys ∙ ap (started (minus t)) (sym e) ∙ started_product (minus t) p xs (λ q x. refl)
] where
  first : (t : Sum) (y : Item) (ys : List Item) → continued t (Op Sub ∷ y ∷ ys) ≡ started (minus t) (y ∷ ys)
  first (term p) y ys = refl
  first (plus s p) y ys = refl
  first (minus s p) y ys = refl

tree_from : (t : Sum) (xs : List Item) → tree_of (sum_items t ++ xs) ≡ continued t xs
unfolding started
tree_from (term p) xs = started_tree (product_items p ++ xs) ∙ started_product term p xs (λ q x. refl) where
  started_tree : (ys : List Item) → tree_of ys ≡ started term ys
  started_tree [] = refl
  started_tree (y ∷ ys) = refl
tree_from (plus s p) xs =
    ap tree_of (append_assoc (sum_items s) (Op Add ∷ product_items p) xs) ∙ tree_from s (Op Add ∷ (product_items p ++ xs)) ∙ added s p xs
tree_from (minus s p) xs =
    ap tree_of (append_assoc (sum_items s) (Op Sub ∷ product_items p) xs) ∙ tree_from s (Op Sub ∷ (product_items p ++ xs)) ∙ subtracted s p xs

-- the tree made of the items that spell a tree is that tree
pub one_tree : (t : Sum) → tree_of (sum_items t) ≡ t
one_tree t = ap tree_of (sym (append_nil (sum_items t))) ∙ tree_from t []

pub one_spelling : (xs : List Item) (t : Sum) → sum_items t ≡ xs → tree_of xs ≡ t
one_spelling xs t e = ap tree_of (sym e) ∙ one_tree t

-- a program prints one text
pub prints_one : (size : ℕ) (value : List Item) (a b : List ℕ) → IsPrinted size value a → IsPrinted size value b → a ≡ b
prints_one size value a b h k =
    h.out_is
    ∙ ap (λ (t : Sum). printed t size) (sym (one_spelling value h.expression h.spelled) ∙ one_spelling value k.expression k.spelled)
    ∙ sym k.out_is
