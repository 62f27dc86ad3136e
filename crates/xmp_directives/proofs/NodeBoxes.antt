-- The box of a set of nodes, dimension by dimension.
use Rattle.std.proofs.Common.{◌≡◌, ◌∙◌, refl, sym, ap, ℕ, ℤ, pos, List, [], ◌∷◌, map, true}
use Rattle.std.specs.Prelude.{slice_get}
use Rattle.std.specs.Option.{unwrap_or}
use Rattle.xmp_map.specs.declared.grid.NodeSet.{NodeSet}
use Rattle.xmp_map.specs.Nodes.{filled}
use Rattle.xmp_directives.specs.Directives.{box_of, is_box, node_number}

filled_up : {A B : Type 0} (f : A → B) (d : A) (rs : List A) → filled (f d) (map f rs) ≡ f (unwrap_or (slice_get rs 0) d) ∷ f (unwrap_or (slice_get rs 1) d) ∷ f (unwrap_or (slice_get rs 2) d) ∷ []
filled_up f d [] = refl
filled_up f d (a ∷ []) = refl
filled_up f d (a ∷ b ∷ []) = refl
filled_up f d (a ∷ b ∷ c ∷ rest) = refl

three : {A B : Type 0} (f : A → B) (d : A) (rs : List A) (a b c : A) (l : List B) → a ≡ unwrap_or (slice_get rs 0) d → b ≡ unwrap_or (slice_get rs 1) d → c ≡ unwrap_or (slice_get rs 2) d →
    l ≡ f a ∷ f b ∷ f c ∷ [] → l ≡ filled (f d) (map f rs)
three f d rs a b c l p q r e =
    e ∙ (ap (λ x. f x ∷ f b ∷ f c ∷ []) p ∙ (ap (λ x. f (unwrap_or (slice_get rs 0) d) ∷ f x ∷ f c ∷ []) q
    ∙ (ap (λ x. f (unwrap_or (slice_get rs 0) d) ∷ f (unwrap_or (slice_get rs 1) d) ∷ f x ∷ []) r ∙ sym (filled_up f d rs))))

both : (n : NodeSet) (f m : List ℕ) → n.first ≡ f → n.many ≡ m → n ≡ record { first = f; many = m }
both n f m p q = rw (sym p) (rw (sym q) refl)

pub box_is : (sizes : List ℤ) (rs : List (ℤ × ℤ)) (a b c : ℤ × ℤ) (f1 f2 f3 m1 m2 m3 : ℕ) → is_box sizes rs ≡ true →
    a ≡ unwrap_or (slice_get rs 0) (pos 0, pos 1) → b ≡ unwrap_or (slice_get rs 1) (pos 0, pos 1) → c ≡ unwrap_or (slice_get rs 2) (pos 0, pos 1) →
    f1 ≡ node_number a.0 → f2 ≡ node_number b.0 → f3 ≡ node_number c.0 → m1 ≡ node_number a.1 → m2 ≡ node_number b.1 → m3 ≡ node_number c.1 →
    let n : NodeSet = record { first = f1 ∷ f2 ∷ f3 ∷ []; many = m1 ∷ m2 ∷ m3 ∷ [] } in n ≡ box_of sizes rs
box_is sizes rs a b c f1 f2 f3 m1 m2 m3 t p q r d e f g h i =
    both (record { first = f1 ∷ f2 ∷ f3 ∷ []; many = m1 ∷ m2 ∷ m3 ∷ [] }) (filled 0 (map (λ x. node_number x.0) rs)) (filled 1 (map (λ x. node_number x.1) rs))
    (three (λ x. node_number x.0) (pos 0, pos 1) rs a b c (f1 ∷ f2 ∷ f3 ∷ []) p q r (rw (d, e, f) refl))
    (three (λ x. node_number x.1) (pos 0, pos 1) rs a b c (m1 ∷ m2 ∷ m3 ∷ []) p q r (rw (g, h, i) refl))
    ∙ sym (rw t refl)
