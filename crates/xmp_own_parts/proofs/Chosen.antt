-- Values of indices in tuples.
use Rattle.std.proofs.Common.{◌≡◌, ◌≢◌, ◌<◌, ◌++◌, if◌then◌else◌, ℕ, suc, ℤ, ◌+ℤ◌, Bool, List, [], ◌∷◌, length, map, Option, Some, None, IsTrue, refl, sym, subst, ap, ◌∙◌, arith, eq-eqb, ne_eqb}
use Rattle.std.specs.Prelude.{slice_get, IfSome}
use Rattle.std.proofs.lemmas.Option.{none-some, same_Some}
use Rattle.xmp_dist.specs.Owner.{owner}
use Rattle.xmp_map.specs.Spread.{owns_point}
use Rattle.xmp_prog.specs.declared.statements.LoopHead.{LoopHead}
use Rattle.xmp_prog.specs.declared.statements.Point.{Point}
use Rattle.xmp_prog.specs.declared.statements.Point.TheVariants as point
use Rattle.xmp_prog.specs.Statements.{indices_of}
use Rattle.xmp_meaning_laws.specs.Tuples.{value_in, position_in}
use Rattle.xmp_own_parts.specs.declared.axis.Axis.{Axis}
use Rattle.xmp_own_parts.specs.declared.nest.Nest.{Nest}
use Rattle.xmp_own_parts.specs.Nests.{owns_in}

-- none of the first heads has this index
pub record IsApart (heads : List LoopHead) (many index : ℕ) : Type 0 where
  pub other : (k : ℕ) → k < many → (head : LoopHead) → slice_get heads k ≡ Some head → head.index.number ≢ index

-- the value of an index that no head before has
pub value_there : (heads : List LoopHead) (outer inner : List ℤ) (v : ℤ) (head : LoopHead) → slice_get heads (length outer) ≡ Some head
    → IsApart heads (length outer) head.index.number → value_in (indices_of heads) (outer ++ v ∷ inner) head.index.number ≡ v
value_there [] outer inner v head is apart = absurd (none-some head is)
value_there (h ∷ heads) [] inner v head is apart =
    ap (λ (b : Bool). if b then v else value_in (indices_of heads) inner head.index.number)
    (eq-eqb h.index.number head.index.number (ap (λ (x : LoopHead). x.index.number) (same_Some h head is)))
value_there (h ∷ heads) (o ∷ outer) inner v head is apart =
    ap (λ (b : Bool). if b then o else value_in (indices_of heads) (outer ++ v ∷ inner) head.index.number)
    (ne_eqb h.index.number head.index.number (apart.other 0 (omega arith) h refl))
    ∙ value_there heads outer inner v head is (record { other = λ k lt x e. apart.other (suc k) (omega arith) x e })

-- a tuple that the node owns has its own position along a dimension that an index goes through
abbrev pub Goes : Nest → (depth : ℕ) → Axis → Type 0
Goes nest depth axis = (outer inner : List ℤ) (v : ℤ) → length outer ≡ depth → IsTrue (owns_in nest (outer ++ v ∷ inner)) → owner axis.dim.now (v +ℤ axis.offset) ≡ axis.node

pub goes : (nest : Nest) (depth : ℕ) (head : LoopHead) → slice_get nest.heads.now depth ≡ Some head → IsApart nest.heads.now depth head.index.number → (r : Option Axis)
    → IfSome r (λ axis. (position : Point → ℤ) → IsTrue (owns_point nest.at nest.template.now.spread (map position nest.points.now))
    → owner axis.dim.now (position (point.Index head.index.number axis.offset)) ≡ axis.node)
    → IfSome r (Goes nest depth)
goes nest depth head is apart None h = tt
goes nest depth head is apart (Some axis) h = λ outer inner v l own.
    ap (λ z. owner axis.dim.now (z +ℤ axis.offset))
    (sym (value_there nest.heads.now outer inner v head (ap (slice_get nest.heads.now) l ∙ is) (let P : ℕ → Type 0 = λ n. IsApart nest.heads.now n head.index.number in subst P (sym l) apart)))
    ∙ h (position_in (indices_of nest.heads.now) (outer ++ v ∷ inner)) own
