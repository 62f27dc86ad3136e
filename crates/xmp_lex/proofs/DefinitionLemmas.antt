-- Tables of names, seen as lists.
use Rattle.std.proofs.Common.{◌≡◌, ◌++◌, ◌||◌, ℕ, List, [], ◌∷◌, map, refl, ap, ◌∙◌, true, false, Bool, Some, None, option_map, cond}
use Rattle.std.specs.List.{list_any}
use Rattle.std.specs.Map.{lookup}
use Rattle.std.specs.Cmp.Lexicographic.{bytes_decides}
use Rattle.indexmap.specs.IndexMap.{insert_entry}
use Rattle.indexmap.specs.IndexSet.{insert_key}
use Rattle.xmp_lex.specs.declared.token.Token.{Token}
use Rattle.xmp_lex.specs.Expand.{Definition, same, body_of}

pub same_is : (a b : List ℕ) → same a b ≡ true → a ≡ b
same_is a b e = (bytes_decides a b).0 e

pub is_same : (a : List ℕ) → same a a ≡ true
is_same a = (bytes_decides a a).1 refl

module _ {K V : Type 0} (name : K → List ℕ) (body : V → List Token) where
  abbrev pub definitions : List (K × V) → List Definition
  definitions es = map (λ e. (name e.0, body e.1)) es

  -- what the table has for a name
  pub got : (n : List ℕ) (es : List (K × V)) → option_map body (lookup (λ k. same n (name k)) es) ≡ body_of (definitions es) n
  got n [] = refl
  got n (e ∷ es) =
      elim (same n (name e.0)) as (λ b. option_map body (cond b (Some e.1) (lookup (λ k. same n (name k)) es)) ≡ cond b (Some (body e.1)) (body_of (definitions es) n)) [ true ↦ refl | false ↦ got n es ]

  -- a new name goes last
  pub added : (es : List (K × V)) (k : K) (v : V) → body_of (definitions es) (name k) ≡ None → definitions (insert_entry (λ a b. same (name a) (name b)) es k v) ≡ definitions es ++ (name k, body v) ∷ []
  added [] k v h = refl
  added (e ∷ es) k v h = by (same (name k) (name e.0)) refl h (added es k v) where
    by : (b : Bool) → same (name k) (name e.0) ≡ b → cond b (Some (body e.1)) (body_of (definitions es) (name k)) ≡ None
        → (body_of (definitions es) (name k) ≡ None → definitions (insert_entry (λ a b. same (name a) (name b)) es k v) ≡ definitions es ++ (name k, body v) ∷ [])
        → definitions (cond b ((e.0, v) ∷ es) (e ∷ insert_entry (λ a b. same (name a) (name b)) es k v)) ≡ definitions (e ∷ es) ++ (name k, body v) ∷ []
    by true t none rest = absurd (let e2 : Some (body e.1) ≡ None = none in cc)
    by false t none rest = ap (λ ds. (name e.0, body e.1) ∷ ds) (rest none)

module _ {K : Type 0} (name : K → List ℕ) where
  pub among : (n : List ℕ) (ks : List K) → list_any (λ k. same n (name k)) ks ≡ list_any (same n) (map name ks)
  among n [] = refl
  among n (k ∷ ks) = ap (λ b. same n (name k) || b) (among n ks)

  pub hidden_last : (ks : List K) (k : K) → list_any (same (name k)) (map name ks) ≡ false → map name (insert_key (λ a b. same (name a) (name b)) ks k) ≡ map name ks ++ name k ∷ []
  hidden_last ks k h = rw (among (name k) ks ∙ h) (map-append ks) where
    map-append : (xs : List K) → map name (xs ++ k ∷ []) ≡ map name xs ++ name k ∷ []
    map-append [] = refl
    map-append (x ∷ xs) = ap (λ ns. name x ∷ ns) (map-append xs)
