-- A text is that of at most one program, and so has at most one output.
use Rattle.std.proofs.Common.{◌≡◌, ◌∙◌, ◌++◌, ℕ, List, refl, sym, ap, subst}
use Rattle.std.specs.Fmt.{decimal}
use Rattle.xmp_first.specs.declared.first_item.Item.{Item}
use Rattle.xmp_first.specs.FirstMeaning.{IsPrinted}
use Rattle.xmp_first.proofs.FirstTrees.{prints_one}
use Rattle.xmp_first.specs.declared.layout.TheConstants.{TO_NODES}
use Rattle.xmp_first.specs.Layout.{value_text, middle, foot, Spells}
use Rattle.xmp_first.specs.Accepts.{Accepts}
use Rattle.xmp_first.proofs.Programs.{cancel, number_one, at_size, at_nodes, value_one, foot_ends}

-- what stands behind the number of cells, and behind the number of nodes
behind_size : (size nodes : ℕ) (value : List Item) → List ℕ
behind_size size nodes value = TO_NODES.now ++ (decimal nodes ++ (middle size ++ (value_text value ++ foot size)))

behind_nodes : (size : ℕ) (value : List Item) → List ℕ
behind_nodes size value = middle size ++ (value_text value ++ foot size)

pub spells_one_program : (m n m' n' : ℕ) (v v' : List Item) (text : List ℕ) → Spells m n v text → Spells m' n' v' text → (m ≡ m') × (n ≡ n') × (v ≡ v')
unfolding behind_size behind_nodes
spells_one_program m n m' n' v v' text h k =
    let from_size = decimal m ++ behind_size m n v in
    let s = number_one from_size m m' (behind_size m n v) (behind_size m' n' v') (at_size m n v text from_size h h.text_is) (at_size m' n' v' text from_size k h.text_is) in
    let from_nodes = decimal n ++ behind_nodes m v in
    let t = number_one from_nodes n n' (behind_nodes m v) (behind_nodes m' v') (at_nodes m n v from_nodes h.valid refl) (at_nodes m' n' v' from_nodes k.valid s.1) in
    let values : value_text v ++ foot m ≡ value_text v' ++ foot m = cancel (middle m) (value_text v ++ foot m) (value_text v' ++ foot m) (t.1 ∙ sym (ap (λ (z : ℕ). behind_nodes z v') s.0)) in
    (s.0, t.0, (value_one (value_text v ++ foot m) v v' (foot m) (foot m) h.valid.expression k.valid.expression (foot_ends m) (foot_ends m) refl values).0)

pub accepts_one : (text a b : List ℕ) → Accepts text a → Accepts text b → a ≡ b
accepts_one text a b h k =
    let one = spells_one_program h.size h.nodes k.size k.nodes h.value k.value text h.spelled k.spelled in
    let sized = let P : ℕ → Type 0 = λ n. IsPrinted n k.value b in subst P (sym one.0) k.printed in
    let valued = let P : List Item → Type 0 = λ v. IsPrinted h.size v b in subst P (sym one.2) sized in
    prints_one h.size h.value a b h.printed valued
