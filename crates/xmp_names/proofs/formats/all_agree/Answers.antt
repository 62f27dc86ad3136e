use Rattle.std.proofs.Common.{◌≡◌, ℕ, ◌<◌, ◌+◌, true, false, List, [], ◌∷◌, Option, length, get_or, drop, sym, refl, ◌∙◌, add-one, drop-cons}
use Rattle.xmp_num.specs.declared.types.Ty.{Ty}
use Rattle.xmp_num.specs.declared.types.Ty.TheVariants.{Int}
use Rattle.xmp_names.specs.Formats.{all_agree, agrees}
use Rattle.xmp_names.proofs.formats.all_agree.Goals as goal

unrolled : (ts : List Ty) (i : ℕ) → i < length ts → drop i ts ≡ get_or ts i Int ∷ drop (i + 1) ts
unrolled ts i h = rw (add-one, drop-cons ts i Int)

short : (types tys : List Ty) (ty : Ty) (left : List (Option Ty)) → types ≡ ty ∷ tys → left ≡ [] → all_agree types left ≡ false
short types tys ty left p q = rw (p, q) refl

step : (types tys : List Ty) (ty : Ty) (left args : List (Option Ty)) (a : Option Ty) → types ≡ ty ∷ tys → left ≡ a ∷ args → agrees ty a ≡ true → all_agree types left ≡ all_agree tys args
step types tys ty left args a p q r = rw (p, q, r) refl

pub returns-in-None : goal.returns-in-None
returns-in-None c = sym (c.types.invariant ∙ short _ _ _ _ (unrolled c.args.types.now c.types.ty-index c.types-test.true) c.in-None.ensures)

pub types-preserved : goal.types-preserved
types-preserved c = c.types.invariant ∙ step _ _ _ _ _ _ (unrolled c.args.types.now c.types.ty-index c.types-test.true) c.in-Some.ensures (sym c.agrees.ensures ∙ c.if-not-agrees.false)
