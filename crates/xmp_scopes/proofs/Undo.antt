-- What the table holds is the innermost declaration, and undoing a declaration brings back what it hid.
use Rattle.std.proofs.Common.{◌≡◌, ℕ, suc, ◌-◌, ◌<◌, ◌≤◌, Bool, true, false, cond, List, [], ◌∷◌, ◌++◌, length, drop, reverse, max, Option, None, Some, is_some, nat_eq, refl, sym, ◌∙◌, ap, arith}
use Rattle.std.specs.Option.{option_or}
use Rattle.std.proofs.lemmas.List.{reverse-append}
use Rattle.xmp_scopes.specs.declared.current.Held.{Held}
use Rattle.xmp_scopes.specs.Names.{Name, is_same, in_scope, nearest, depth_of, is_declared_here, declare}
use Rattle.xmp_scopes.specs.Table.{visible}
use Rattle.xmp_scopes.specs.Log.{Step, Opened, Declared, scopes_of, held}
use Rattle.xmp_scopes.proofs.Entries.{equal_of_same}

here_now : (d : ℕ) → true ≡ nat_eq d d
here_now d = grind arith

pub none_left : {X : Type 0} (xs : List X) → length xs ≡ 0 → xs ≡ []
none_left [] e = refl
none_left (x ∷ xs) e = absurd (omega arith)

pub last_first : {X : Type 0} (rest : List X) (step : X) → reverse (rest ++ step ∷ []) ≡ step ∷ reverse rest
last_first rest step = reverse-append rest (step ∷ [])

module _ {M : Type 0} where
  -- what a declaration means
  abbrev pub meaning_of : Option (Held M) → Option M
  meaning_of None = None
  meaning_of (Some h) = Some h.meaning

  -- where it stands
  abbrev pub depth_held : Option (Held M) → Option ℕ
  depth_held None = None
  depth_held (Some h) = Some h.depth

  -- whether it stands at this depth
  abbrev pub at_depth : Option (Held M) → ℕ → Bool
  at_depth None d = false
  at_depth (Some h) d = nat_eq h.depth d

  nearest-declare : (n k : Name) (m : M) (ss : List (List (Name × M))) → nearest n (declare k m ss) ≡ cond (is_same n k) (Some m) (nearest n ss)
  nearest-declare n k m [] = elim (is_same n k) as (λ b. option_or (cond b (Some m) None) None ≡ cond b (Some m) None) [ true ↦ refl | false ↦ refl ]
  nearest-declare n k m (s ∷ ss) =
      elim (is_same n k) as (λ b. option_or (cond b (Some m) (in_scope n s)) (nearest n ss) ≡ cond b (Some m) (option_or (in_scope n s) (nearest n ss))) [ true ↦ refl | false ↦ refl ]

  pub nearest_is : (n : Name) (steps : List (Step M)) → nearest n (scopes_of steps) ≡ meaning_of (held n steps)
  nearest_is n [] = refl
  nearest_is n (Opened ∷ steps) = nearest_is n steps
  nearest_is n (Declared k m hidden ∷ steps) = nearest-declare n k m (scopes_of steps)
      ∙ elim (is_same n k) as (λ b. cond b (Some m) (nearest n (scopes_of steps)) ≡ meaning_of (cond b (Some (record { depth = length (declare k m (scopes_of steps)); meaning = m })) (held n steps)))
      [ true ↦ refl | false ↦ nearest_is n steps ]

  depth_of-declare : (n k : Name) (m : M) (ss : List (List (Name × M))) →
      depth_of n (declare k m ss) ≡ cond (is_same n k) (Some (length (declare k m ss))) (depth_of n ss)
  depth_of-declare n k m [] =
      let one : ℕ = length (declare k m []) in
      elim (is_same n k) as (λ b. cond (is_some (cond b (Some m) None)) (Some one) None ≡ cond b (Some one) None) [ true ↦ refl | false ↦ refl ]
  depth_of-declare n k m (s ∷ ss) =
      elim (is_same n k) as (λ b. cond (is_some (cond b (Some m) (in_scope n s))) (Some (suc (length ss))) (depth_of n ss)
      ≡ cond b (Some (suc (length ss))) (cond (is_some (in_scope n s)) (Some (suc (length ss))) (depth_of n ss))) [ true ↦ refl | false ↦ refl ]

  pub depth_is : (n : Name) (steps : List (Step M)) → depth_of n (scopes_of steps) ≡ depth_held (held n steps)
  depth_is n [] = refl
  depth_is n (Opened ∷ steps) = depth_is n steps
  depth_is n (Declared k m hidden ∷ steps) = depth_of-declare n k m (scopes_of steps)
      ∙ elim (is_same n k) as (λ b. cond b (Some (length (declare k m (scopes_of steps)))) (depth_of n (scopes_of steps))
      ≡ depth_held (cond b (Some (record { depth = length (declare k m (scopes_of steps)); meaning = m })) (held n steps)))
      [ true ↦ refl | false ↦ depth_is n steps ]

  -- no deeper than the scopes are
  abbrev pub Within : Option (Held M) → ℕ → Type 0
  Within None d = Unit {0}
  Within (Some h) d = h.depth ≤ d

  within_more : (o : Option (Held M)) (d e : ℕ) → d ≤ e → Within o d → Within o e
  within_more None d e le h = tt
  within_more (Some x) d e le h = omega arith

  -- a declaration opens a first scope, or none
  pub length-declare : (n : Name) (m : M) (ss : List (List (Name × M))) → length (declare n m ss) ≡ max (length ss) 1
  length-declare n m [] = refl
  length-declare n m (s ∷ ss) = omega arith

  longer : (n : Name) (m : M) (ss : List (List (Name × M))) → length ss ≤ length (declare n m ss)
  longer n m [] = omega arith
  longer n m (s ∷ ss) = omega arith

  held_within : (n : Name) (steps : List (Step M)) → Within (held n steps) (length (scopes_of steps))
  held_within n [] = tt
  held_within n (Opened ∷ steps) = within_more (held n steps) (length (scopes_of steps)) (suc (length (scopes_of steps))) (omega arith) (held_within n steps)
  held_within n (Declared k m hidden ∷ steps) =
      elim (is_same n k) as (λ b. Within (cond b (Some (record { depth = length (declare k m (scopes_of steps)); meaning = m })) (held n steps)) (length (declare k m (scopes_of steps)))) [
        | true ↦ omega arith
        | false ↦ within_more (held n steps) (length (scopes_of steps)) (length (declare k m (scopes_of steps))) (longer k m (scopes_of steps)) (held_within n steps)
      ]

  not_deeper : (o : Option (Held M)) (d : ℕ) → Within o d → false ≡ at_depth o (suc d)
  not_deeper None d h = refl
  not_deeper (Some x) d h = grind arith

  is_declared_here-declare : (n k : Name) (m : M) (ss : List (List (Name × M))) → is_declared_here n (declare k m ss) ≡ cond (is_same n k) true (is_declared_here n ss)
  is_declared_here-declare n k m [] = elim (is_same n k) as (λ b. is_some (cond b (Some m) None) ≡ cond b true false) [ true ↦ refl | false ↦ refl ]
  is_declared_here-declare n k m (s ∷ ss) = elim (is_same n k) as (λ b. is_some (cond b (Some m) (in_scope n s)) ≡ cond b true (is_some (in_scope n s))) [ true ↦ refl | false ↦ refl ]

  -- a declaration joins the innermost scope, so what was in it stays in it
  here_still : (n k : Name) (m : M) (steps : List (Step M)) → is_declared_here n (scopes_of steps) ≡ at_depth (held n steps) (length (scopes_of steps)) →
      is_declared_here n (scopes_of steps) ≡ at_depth (held n steps) (length (declare k m (scopes_of steps)))
  here_still n k m [] e = refl
  here_still n k m (step ∷ steps) e = e ∙ ap (at_depth (held n (step ∷ steps))) (sym (same_length (scopes_of (step ∷ steps)) (some_scope step steps)))
    where
      some_scope : (step : Step M) (steps : List (Step M)) → 0 < length (scopes_of (step ∷ steps))
      some_scope Opened steps = omega arith
      some_scope (Declared a b c) steps = let h = length-declare a b (scopes_of steps) in omega arith

      same_length : (ss : List (List (Name × M))) → 0 < length ss → length (declare k m ss) ≡ length ss
      same_length [] h = omega arith
      same_length (s ∷ ss) h = refl

  pub here_is : (n : Name) (steps : List (Step M)) → is_declared_here n (scopes_of steps) ≡ at_depth (held n steps) (length (scopes_of steps))
  here_is n [] = refl
  here_is n (Opened ∷ steps) = not_deeper (held n steps) (length (scopes_of steps)) (held_within n steps)
  here_is n (Declared k m hidden ∷ steps) = is_declared_here-declare n k m (scopes_of steps)
      ∙ elim (is_same n k) as (λ b. cond b true (is_declared_here n (scopes_of steps))
      ≡ at_depth (cond b (Some (record { depth = length (declare k m (scopes_of steps)); meaning = m })) (held n steps)) (length (declare k m (scopes_of steps))))
      [ true ↦ here_now (length (declare k m (scopes_of steps))) | false ↦ here_still n k m steps (here_is n steps) ]

  -- a scope that a declaration opens or joins goes with it
  pub drop-declare : (n : Name) (m : M) (ss : List (List (Name × M))) → drop 1 (declare n m ss) ≡ drop 1 ss
  drop-declare n m [] = refl
  drop-declare n m (s ∷ ss) = refl

  one_less : (ss : List (List (Name × M))) → length ss - 1 ≡ length (drop 1 ss)
  one_less [] = refl
  one_less (s ∷ ss) = omega arith

  -- the depth without the innermost scope
  pub closed_depth : (after before : List (List (Name × M))) (depth : ℕ) → after ≡ drop 1 before → depth ≡ length before → depth - 1 ≡ length after
  closed_depth after before depth e d = ap (λ k. k - 1) d ∙ one_less before ∙ ap length (sym e)

  -- no more scopes than steps
  pub depth_length : (steps : List (Step M)) → length (scopes_of steps) ≤ length steps
  depth_length [] = omega arith
  depth_length (Opened ∷ steps) = let h = depth_length steps in omega arith
  depth_length (Declared n m hidden ∷ steps) = let h = depth_length steps in let l = length-declare n m (scopes_of steps) in omega arith

  -- the table without the last declaration
  pub restored : (table new : List (Name × Option (Held M))) (name : Name) (m : M) (hidden : Option (Held M)) (rest : List (Step M)) →
      ((n : Name) → visible n table ≡ held n (Declared name m hidden ∷ rest)) → hidden ≡ held name rest →
      ((n : Name) → visible n new ≡ cond (is_same n name) hidden (visible n table)) → (n : Name) → visible n new ≡ held n rest
  restored table new name m hidden rest names hides w n = w n ∙ by_test n (is_same n name) refl
    where
      by_test : (n : Name) (b : Bool) → is_same n name ≡ b → cond (is_same n name) hidden (visible n table) ≡ held n rest
      by_test n true t = let at : n ≡ name = equal_of_same n name t in rw t (hides ∙ ap (λ k. held k rest) (sym at))
      by_test n false t =
          let was : visible n table ≡ cond (is_same n name) (Some (record { depth = length (declare name m (scopes_of rest)); meaning = m })) (held n rest) = names n in
          rw t (rw t at was)

  -- the table with one more declaration
  pub declared : (table new : List (Name × Option (Held M))) (name : Name) (m : M) (hidden : Option (Held M)) (depth : ℕ) (rest : List (Step M)) →
      ((n : Name) → visible n table ≡ held n rest) → depth ≡ length (declare name m (scopes_of rest)) →
      ((n : Name) → visible n new ≡ cond (is_same n name) (Some (record { depth = depth; meaning = m })) (visible n table)) →
      (n : Name) → visible n new ≡ held n (Declared name m hidden ∷ rest)
  declared table new name m hidden depth rest names d w n = w n
      ∙ ap (λ k. cond (is_same n name) (Some (record { depth = k; meaning = m })) (visible n table)) d
      ∙ ap (λ o. cond (is_same n name) (Some (record { depth = length (declare name m (scopes_of rest)); meaning = m })) o) (names n)
