-- A name has no innermost declaration exactly where no scope declares it.
use Rattle.std.proofs.Common.{◌≡◌, ◌≢◌, Bool, true, false, cond, List, [], ◌∷◌, Option, None, Some, is_some, refl, sym, ◌∙◌, ap}
use Rattle.std.specs.Prelude.{◌↔◌, All, IsNone}
use Rattle.std.specs.Option.{option_or}
use Rattle.std.proofs.lemmas.List.Elements.{All-nil, All-cons, All-head, All-tail}
use Rattle.xmp_scopes.specs.Names.{Name, is_same, in_scope, nearest, IsUndeclared}
use Rattle.xmp_scopes.proofs.Entries.{equal_of_same, same_of_equal}

apart : (n k : Name) → is_same n k ≡ false → k ≢ n
apart n k f e = let t : is_same n k ≡ true = same_of_equal n k (sym e) in cc

differs : (n k : Name) → k ≢ n → is_same n k ≡ false
differs n k h = by_test (is_same n k) refl
  where
    by_test : (b : Bool) → is_same n k ≡ b → is_same n k ≡ false
    by_test true t = absurd (h (sym (equal_of_same n k t)))
    by_test false t = t

module _ {M : Type 0} where
  absent : (n : Name) (scope : List (Name × M)) → is_some (in_scope n scope) ≡ false → All (λ d. d.0 ≢ n) scope
  absent n [] e = All-nil (λ d. d.0 ≢ n)
  absent n (d ∷ ds) e = by_test (is_same n d.0) refl e (absent n ds)
    where
      by_test : (b : Bool) → is_same n d.0 ≡ b → is_some (cond b (Some d.1) (in_scope n ds)) ≡ false →
          (is_some (in_scope n ds) ≡ false → All (λ d. d.0 ≢ n) ds) → All (λ d. d.0 ≢ n) (d ∷ ds)
      by_test true t e rest = cc
      by_test false t e rest = All-cons (λ d. d.0 ≢ n) d ds (apart n d.0 t) (rest e)

  no_entry : (n : Name) (scope : List (Name × M)) → All (λ d. d.0 ≢ n) scope → is_some (in_scope n scope) ≡ false
  no_entry n [] h = refl
  no_entry n (d ∷ ds) h =
      let first : is_same n d.0 ≡ false = differs n d.0 (All-head (λ d. d.0 ≢ n) d ds h) in
      rw first (no_entry n ds (All-tail (λ d. d.0 ≢ n) d ds h))

  both_none : (a b : Option M) → is_some (option_or a b) ≡ false → (is_some a ≡ false) × (is_some b ≡ false)
  both_none None b e = (refl, e)
  both_none (Some x) b e = cc

  none_of_both : (a b : Option M) → is_some a ≡ false → is_some b ≡ false → is_some (option_or a b) ≡ false
  none_of_both None b e f = f
  none_of_both (Some x) b e f = e

  undeclared : (n : Name) (ss : List (List (Name × M))) → is_some (nearest n ss) ≡ false → IsUndeclared n ss
  undeclared n [] e = All-nil (All (λ d. d.0 ≢ n))
  undeclared n (s ∷ ss) e =
      let both : _ = both_none (in_scope n s) (nearest n ss) e in
      All-cons (All (λ d. d.0 ≢ n)) s ss (absent n s both.0) (undeclared n ss both.1)

  no_nearest : (n : Name) (ss : List (List (Name × M))) → IsUndeclared n ss → is_some (nearest n ss) ≡ false
  no_nearest n [] h = refl
  no_nearest n (s ∷ ss) h =
      none_of_both (in_scope n s) (nearest n ss) (no_entry n s (All-head (All (λ d. d.0 ≢ n)) s ss h)) (no_nearest n ss (All-tail (All (λ d. d.0 ≢ n)) s ss h))

  pub none_is : (n : Name) (ss : List (List (Name × M))) (o : Option M) → o ≡ nearest n ss → IsNone o ↔ IsUndeclared n ss
  none_is n ss o e = ((λ h. undeclared n ss (ap is_some (sym e) ∙ h)), (λ h. ap is_some e ∙ no_nearest n ss h))
