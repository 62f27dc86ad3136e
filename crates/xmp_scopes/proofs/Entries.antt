-- What a write of the table does to what it says of each name. items tells the name of a key.
use Rattle.std.proofs.Common.{◌≡◌, ℕ, zero, suc, ◌+◌, ◌++◌, ◌<◌, Bool, true, false, cond, not, List, [], ◌∷◌, length, map, Option, None, Some, is_some, nat_lt, refl, sym, ◌∙◌, ap, subst, arith, append-nil}
use Rattle.std.specs.Map.{lookup, keys_of}
use Rattle.std.specs.List.{position_or_len}
use Rattle.std.specs.Cmp.Lexicographic.{bytes_decides}
use Rattle.indexmap.specs.IndexMap.{insert_entry}
use Rattle.indexmap.specs.Layout.{set_value_at}
use Rattle.xmp_scopes.specs.declared.current.Held.{Held}
use Rattle.xmp_scopes.specs.Names.{Name, is_same}
use Rattle.xmp_scopes.specs.Table.{visible, IsPlace, Grows, put}

-- what an entry holds, where there is one
abbrev pub join : {X : Type 0} → Option (Option X) → Option X
join None = None
join (Some h) = h

pub equal_of_same : (a b : Name) → is_same a b ≡ true → a ≡ b
equal_of_same a b e = (bytes_decides a b).0 e

pub same_of_equal : (a b : Name) → a ≡ b → is_same a b ≡ true
same_of_equal a b e = (bytes_decides a b).1 e

module _ {K M : Type 0} (items : K → Name) where
  abbrev pub table : List (K × Option (Held M)) → List (Name × Option (Held M))
  table es = map (λ e. (items e.0, e.1)) es

  pub got : (n : Name) (es : List (K × Option (Held M))) → visible n (table es) ≡ join (lookup (λ k. is_same n (items k)) es)
  got n [] = refl
  got n (e ∷ es) =
      elim (is_same n (items e.0)) as (λ b. cond b e.1 (visible n (table es)) ≡ join (cond b (Some e.1) (lookup (λ k. is_same n (items k)) es))) [ true ↦ refl | false ↦ got n es ]

  -- the place that a key is found at
  pub found : (n : Name) (es : List (K × Option (Held M))) (at : ℕ) → position_or_len (λ k. is_same n (items k)) (keys_of es) ≡ at → at < length es → IsPlace n (table es) at
  found n [] at p h = absurd (omega arith)
  found n (e ∷ es) at p h = by_test (is_same n (items e.0)) refl p (λ r q i. found n es r q i)
    where
      by_test : (b : Bool) → is_same n (items e.0) ≡ b → cond (not b) (1 + position_or_len (λ k. is_same n (items k)) (keys_of es)) 0 ≡ at →
          ((r : ℕ) → position_or_len (λ k. is_same n (items k)) (keys_of es) ≡ r → r < length es → IsPlace n (table es) r) → IsPlace n (table (e ∷ es)) at
      by_test true t q next = subst (IsPlace n (table (e ∷ es))) q (sym (equal_of_same n (items e.0) t))
      by_test false t q next =
          let r : ℕ = position_or_len (λ k. is_same n (items k)) (keys_of es) in
          let up : suc r ≡ at = omega arith in
          subst (IsPlace n (table (e ∷ es))) up (t, next r refl (omega arith))

  -- the place that a key gets, or has
  pub placed : (es : List (K × Option (Held M))) (k : K) (v : Option (Held M)) →
      IsPlace (items k) (table (insert_entry (λ a b. is_same (items a) (items b)) es k v)) (position_or_len (λ b. is_same (items k) (items b)) (keys_of es))
  placed [] k v = refl
  placed (e ∷ es) k v = by_test (is_same (items k) (items e.0)) refl (placed es k v)
    where
      by_test : (b : Bool) → is_same (items k) (items e.0) ≡ b →
          IsPlace (items k) (table (insert_entry (λ a b. is_same (items a) (items b)) es k v)) (position_or_len (λ b. is_same (items k) (items b)) (keys_of es)) →
          IsPlace (items k) (table (cond b ((e.0, v) ∷ es) (e ∷ insert_entry (λ a b. is_same (items a) (items b)) es k v))) (cond (not b) (1 + position_or_len (λ b. is_same (items k) (items b)) (keys_of es)) 0)
      by_test true t next = sym (equal_of_same (items k) (items e.0) t)
      by_test false t next =
          let r : ℕ = position_or_len (λ b. is_same (items k) (items b)) (keys_of es) in
          let up : suc r ≡ 1 + r = omega arith in
          subst (IsPlace (items k) (table (e ∷ insert_entry (λ a b. is_same (items a) (items b)) es k v))) up (t, next)

  -- a new key goes last
  pub last : (es : List (K × Option (Held M))) (k : K) (v : Option (Held M)) → is_some (lookup (λ b. is_same (items k) (items b)) es) ≡ false →
      table (insert_entry (λ a b. is_same (items a) (items b)) es k v) ≡ table es ++ (items k, v) ∷ []
  last [] k v h = refl
  last (e ∷ es) k v h = by_test (is_same (items k) (items e.0)) refl h (last es k v)
    where
      by_test : (b : Bool) → is_same (items k) (items e.0) ≡ b → is_some (cond b (Some e.1) (lookup (λ b. is_same (items k) (items b)) es)) ≡ false →
          (is_some (lookup (λ b. is_same (items k) (items b)) es) ≡ false → table (insert_entry (λ a b. is_same (items a) (items b)) es k v) ≡ table es ++ (items k, v) ∷ []) →
          table (cond b ((e.0, v) ∷ es) (e ∷ insert_entry (λ a b. is_same (items a) (items b)) es k v)) ≡ table (e ∷ es) ++ (items k, v) ∷ []
      by_test true t f next = absurd (cc)
      by_test false t f next = ap (λ xs. (items e.0, e.1) ∷ xs) (next f)

  -- the same in the words of a call that inserts
  pub placed_as : (es new : List (K × Option (Held M))) (k : K) (name : Name) (at : ℕ) → items k ≡ name → new ≡ insert_entry (λ a b. is_same (items a) (items b)) es k None
      → at ≡ position_or_len (λ b. is_same (items k) (items b)) (keys_of es) → IsPlace name (table new) at
  placed_as es new k name at i e p = subst (λ t. IsPlace name (table t) at) (sym e) (subst (IsPlace name (table (insert_entry (λ a b. is_same (items a) (items b)) es k None))) (sym p)
      (subst (λ n. IsPlace n (table (insert_entry (λ a b. is_same (items a) (items b)) es k None)) (position_or_len (λ b. is_same (items k) (items b)) (keys_of es))) i (placed es k None)))

  pub grows_as : (es new : List (K × Option (Held M))) (k : K) (name : Name) → items k ≡ name → is_some (lookup (λ b. is_same name (items b)) es) ≡ false
      → new ≡ insert_entry (λ a b. is_same (items a) (items b)) es k None → Grows (table es) (table new)
  grows_as es new k name i f e = record {
    names = items k ∷ [];
    is = ap table e ∙ last es k None (subst (λ n. is_some (lookup (λ b. is_same n (items b)) es) ≡ false) (sym i) f);
  }

  pub stays_as : (es new : List (K × Option (Held M))) → new ≡ es → Grows (table es) (table new)
  stays_as es new e = record { names = []; is = ap table e ∙ sym (append-nil (table es)) }

  -- a write at a place
  pub written : (es : List (K × Option (Held M))) (at : ℕ) (v : Option (Held M)) → table (set_value_at es at v) ≡ put (table es) at v
  written [] at v = refl
  written (e ∷ es) zero v = refl
  written (e ∷ es) (suc at) v = ap (λ xs. (items e.0, e.1) ∷ xs) (written es at v)

at_found : (b : Bool) (n at : ℕ) → Some at ≡ cond b (Some n) None → n ≡ at
at_found true n at e = cc
at_found false n at e = cc

-- the position that was found
pub found_at : (n l at : ℕ) → Some at ≡ cond (nat_lt n l) (Some n) None → n ≡ at
found_at n l at e = at_found (nat_lt n l) n at e
