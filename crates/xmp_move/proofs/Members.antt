-- Elements of filtered and mapped lists.
use Rattle.std.proofs.Common.{◌≡◌, ◌⊎◌, inl, inr, Bool, true, false, List, [], ◌∷◌, ◌++◌, refl, sym, ◌∙◌, ap, map, cond}
use Rattle.std.specs.Prelude.{filter, ◌&&◌}
use Rattle.xmp_move.specs.Stores.{IsIn}

pub and_left : (a b : Bool) → (a && b) ≡ true → a ≡ true
and_left true b h = refl
and_left false b h = h

pub and_right : (a b : Bool) → (a && b) ≡ true → b ≡ true
and_right true b h = h
and_right false b h = cc

pub both_true : (a b : Bool) → a ≡ true → b ≡ true → (a && b) ≡ true
both_true a b ha hb = rw (ha, hb) refl

in_filter_step : {A : Type 0} (t : A → Bool) (y : A) (ys : List A) (x : A) → (IsIn x (filter t ys) → IsIn x ys × (t x ≡ true)) →
    (b : Bool) → t y ≡ b → IsIn x (cond b (y ∷ filter t ys) (filter t ys)) → IsIn x (y ∷ ys) × (t x ≡ true)
unfolding IsIn
in_filter_step t y ys x more true h (inl e) = (inl e, ap t e ∙ h)
in_filter_step t y ys x more true h (inr j) = let r = more j in (inr r.0, r.1)
in_filter_step t y ys x more false h j = let r = more j in (inr r.0, r.1)

pub in_filter : {A : Type 0} (t : A → Bool) (xs : List A) (x : A) → IsIn x (filter t xs) → IsIn x xs × (t x ≡ true)
unfolding IsIn
in_filter t [] x i = absurd i
in_filter t (y ∷ ys) x i = in_filter_step t y ys x (in_filter t ys x) (t y) refl i

filter_in_step : {A : Type 0} (y : A) (zs : List A) (x : A) → IsIn x zs → (b : Bool) → IsIn x (cond b (y ∷ zs) zs)
unfolding IsIn
filter_in_step y zs x i true = inr i
filter_in_step y zs x i false = i

pub filter_in : {A : Type 0} (t : A → Bool) (xs : List A) (x : A) → IsIn x xs → t x ≡ true → IsIn x (filter t xs)
unfolding IsIn
filter_in t [] x i h = absurd i
filter_in t (y ∷ ys) x (inl e) h =
    let ty : t y ≡ true = ap t (sym e) ∙ h in
    rw ty (inl e)
filter_in t (y ∷ ys) x (inr i) h = filter_in_step y (filter t ys) x (filter_in t ys x i h) (t y)

-- an element of a mapped list
pub record IsImage {A B : Type 0} (f : A → B) (xs : List A) (y : B) : Type 0 where
  pub of : A
  pub among : IsIn of xs
  pub same : y ≡ f of

pub in_map : {A B : Type 0} (f : A → B) (xs : List A) (y : B) → IsIn y (map f xs) → IsImage f xs y
unfolding IsIn
in_map f [] y i = absurd i
in_map f (x ∷ xs) y (inl e) = record { of = x; among = inl refl; same = e }
in_map f (x ∷ xs) y (inr i) = let r = in_map f xs y i in record { of = r.of; among = inr r.among; same = r.same }

pub map_in : {A B : Type 0} (f : A → B) (xs : List A) (x : A) → IsIn x xs → IsIn (f x) (map f xs)
unfolding IsIn
map_in f [] x i = absurd i
map_in f (y ∷ ys) x (inl e) = inl (ap f e)
map_in f (y ∷ ys) x (inr i) = inr (map_in f ys x i)

pub in_append : {A : Type 0} (xs ys : List A) (x : A) → IsIn x (xs ++ ys) → IsIn x xs ⊎ IsIn x ys
unfolding IsIn
in_append [] ys x i = inr i
in_append (y ∷ xs) ys x (inl e) = inl (inl e)
in_append (y ∷ xs) ys x (inr i) = elim (in_append xs ys x i) [ inl j ↦ inl (inr j) | inr j ↦ inr j ]

pub append_left : {A : Type 0} (xs ys : List A) (x : A) → IsIn x xs → IsIn x (xs ++ ys)
unfolding IsIn
append_left [] ys x i = absurd i
append_left (y ∷ xs) ys x (inl e) = inl e
append_left (y ∷ xs) ys x (inr i) = inr (append_left xs ys x i)

pub append_right : {A : Type 0} (xs ys : List A) (x : A) → IsIn x ys → IsIn x (xs ++ ys)
unfolding IsIn
append_right [] ys x i = i
append_right (y ∷ xs) ys x i = inr (append_right xs ys x i)

pub map_twice : {A B C : Type 0} (f : A → B) (g : B → C) (xs : List A) → map g (map f xs) ≡ map (λ x. g (f x)) xs
map_twice f g [] = refl
map_twice f g (x ∷ xs) = ap (λ r. g (f x) ∷ r) (map_twice f g xs)
