-- What one more operator and operand make of an expression's value.
use Rattle.std.proofs.Common.{◌≡◌, ℤ, pos, ◌+ℤ◌, ◌-ℤ◌, ◌*ℤ◌, ap, ◌∙◌, w64, FitsSigned, to_z, of_z}
use Rattle.std.specs.Result.{result_unwrap_or}
use Rattle.std.proofs.lemmas.Int.{to_z-of_z}
use Rattle.xmp_num.specs.declared.types.BinOp.{BinOp}
use Rattle.xmp_num.specs.declared.types.BinOp.TheVariants.{Add, Sub, Mul}
use Rattle.xmp_num.specs.declared.types.Ty.TheVariants.{Int}
use Rattle.xmp_num.specs.Arithmetic.{wrap, binary_of}
use Rattle.xmp_first.specs.declared.first_running.Running.TheVariants.{Product, Joined}
use Rattle.xmp_first.specs.FirstGrammar.{Operand, Sum, term, plus, minus}
use Rattle.xmp_first.specs.FirstMeaning.{operand_value, product_value, sum_value}
use Rattle.xmp_first.specs.FirstTree.{extended}
use Rattle.xmp_first.specs.FirstRunning.{running_of}

-- a number as it is read back from its bits
abbrev pub seen : ℤ → ℤ
seen z = to_z w64 (of_z w64 z)

-- what an operator gives where it is applied to numbers' bits
abbrev pub applied : BinOp → ℤ → ℤ → ℤ
applied o a b = result_unwrap_or (binary_of o Int (seen a) (seen b)) (pos 0)

mul_seen : (a b : ℤ) → FitsSigned w64 a → FitsSigned w64 b → applied Mul a b ≡ wrap Int (a *ℤ b)
unfolding binary_of
mul_seen a b f g = ap (λ (z : ℤ). wrap Int (z *ℤ seen b)) (to_z-of_z w64 a f) ∙ ap (λ (z : ℤ). wrap Int (a *ℤ z)) (to_z-of_z w64 b g)

add_seen : (a b : ℤ) → FitsSigned w64 a → FitsSigned w64 b → applied Add a b ≡ wrap Int (a +ℤ b)
unfolding binary_of
add_seen a b f g = ap (λ (z : ℤ). wrap Int (z +ℤ seen b)) (to_z-of_z w64 a f) ∙ ap (λ (z : ℤ). wrap Int (a +ℤ z)) (to_z-of_z w64 b g)

sub_seen : (a b : ℤ) → FitsSigned w64 a → FitsSigned w64 b → applied Sub a b ≡ wrap Int (a -ℤ b)
unfolding binary_of
sub_seen a b f g = ap (λ (z : ℤ). wrap Int (z -ℤ seen b)) (to_z-of_z w64 a f) ∙ ap (λ (z : ℤ). wrap Int (a -ℤ z)) (to_z-of_z w64 b g)

pub product_times : (t : Sum) (x : Operand) (i p o r : ℤ) → FitsSigned w64 p → FitsSigned w64 o → FitsSigned w64 r
    → Product p ≡ running_of t i → o ≡ operand_value x i → r ≡ applied Mul p o → Product (seen r) ≡ running_of (extended t Mul x) i
product_times (term q) x i p o r fp fo fr e f g =
    let v : p ≡ product_value q i = cc in
    ap Product (to_z-of_z w64 r fr ∙ g ∙ mul_seen p o fp fo ∙ ap (λ (z : ℤ). wrap Int (z *ℤ o)) v ∙ ap (λ (z : ℤ). wrap Int (product_value q i *ℤ z)) f)
product_times (plus s q) x i p o r fp fo fr e f g = absurd (cc)
product_times (minus s q) x i p o r fp fo fr e f g = absurd (cc)

pub joined_times : (t : Sum) (x : Operand) (i s p o r : ℤ) (op : BinOp) → FitsSigned w64 s → FitsSigned w64 p → FitsSigned w64 o → FitsSigned w64 r
    → Joined s op p ≡ running_of t i → o ≡ operand_value x i → r ≡ applied Mul p o → Joined (seen s) op (seen r) ≡ running_of (extended t Mul x) i
joined_times (term q) x i s p o r op fs fp fo fr e f g = absurd (cc)
joined_times (plus t q) x i s p o r op fs fp fo fr e f g =
    let u : s ≡ sum_value t i = cc in
    let v : p ≡ product_value q i = cc in
    let w : op ≡ Add = cc in
    let a : seen s ≡ sum_value t i = to_z-of_z w64 s fs ∙ u in
    let b : seen r ≡ wrap Int (product_value q i *ℤ operand_value x i) =
    to_z-of_z w64 r fr ∙ g ∙ mul_seen p o fp fo ∙ ap (λ (z : ℤ). wrap Int (z *ℤ o)) v ∙ ap (λ (z : ℤ). wrap Int (product_value q i *ℤ z)) f in
    cc
joined_times (minus t q) x i s p o r op fs fp fo fr e f g =
    let u : s ≡ sum_value t i = cc in
    let v : p ≡ product_value q i = cc in
    let w : op ≡ Sub = cc in
    let a : seen s ≡ sum_value t i = to_z-of_z w64 s fs ∙ u in
    let b : seen r ≡ wrap Int (product_value q i *ℤ operand_value x i) =
    to_z-of_z w64 r fr ∙ g ∙ mul_seen p o fp fo ∙ ap (λ (z : ℤ). wrap Int (z *ℤ o)) v ∙ ap (λ (z : ℤ). wrap Int (product_value q i *ℤ z)) f in
    cc

pub joined_value : (t : Sum) (i s p r : ℤ) (op : BinOp) → FitsSigned w64 s → FitsSigned w64 p → FitsSigned w64 r
    → Joined s op p ≡ running_of t i → r ≡ applied op s p → seen r ≡ sum_value t i
joined_value (term q) i s p r op fs fp fr e g = absurd (cc)
joined_value (plus t q) i s p r op fs fp fr e g =
    let u : s ≡ sum_value t i = cc in
    let v : p ≡ product_value q i = cc in
    let w : op ≡ Add = cc in
    to_z-of_z w64 r fr ∙ g ∙ ap (λ (o : BinOp). applied o s p) w ∙ add_seen s p fs fp ∙ ap (λ (z : ℤ). wrap Int (z +ℤ p)) u ∙ ap (λ (z : ℤ). wrap Int (sum_value t i +ℤ z)) v
joined_value (minus t q) i s p r op fs fp fr e g =
    let u : s ≡ sum_value t i = cc in
    let v : p ≡ product_value q i = cc in
    let w : op ≡ Sub = cc in
    to_z-of_z w64 r fr ∙ g ∙ ap (λ (o : BinOp). applied o s p) w ∙ sub_seen s p fs fp ∙ ap (λ (z : ℤ). wrap Int (z -ℤ p)) u ∙ ap (λ (z : ℤ). wrap Int (sum_value t i -ℤ z)) v
