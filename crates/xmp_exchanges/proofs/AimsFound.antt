-- The numbers of a gmove, one behind the other, are what the meaning aims by.
use Rattle.std.proofs.Common.{◌≡◌, ◌⊎◌, inl, inr, ◌++◌, ◌∙◌, ℕ, suc, List, [], ◌∷◌, map, length, drop, cond, Option, Some, None, ℤ, refl, sym, ap, subst, arith, append_assoc}
use Rattle.std.specs.List.{sum_by, count_by}
use Rattle.std.proofs.lemmas.List.Sums.{sum_by-cons}
use Rattle.xmp_prog.specs.declared.parts.ProgParts.{ProgParts}
use Rattle.xmp_prog.specs.declared.statements.Part.{Part}
use Rattle.xmp_prog.specs.declared.statements.Part.TheVariants as part
use Rattle.xmp_prog.specs.declared.statements.MoveSide.{MoveSide}
use Rattle.xmp_prog.specs.declared.statements.MoveSide.TheVariants as side
use Rattle.xmp_meaning.specs.declared.ends.End.{End}
use Rattle.xmp_meaning.specs.Runs.{Step, Gave, Ended, Run, and_then, ◌>>=◌, pure}
use Rattle.xmp_meaning.specs.Blocks.{each}
use Rattle.xmp_meaning.specs.Context.{Context}
use Rattle.xmp_meaning.specs.Handlers.{Aim, erased}
use Rattle.xmp_meaning.specs.Expressions.{expr_of}
use Rattle.xmp_meaning.specs.Sections.{Chosen, One, Many, chosen, numbers, lengths, aim}
use Rattle.xmp_move.specs.declared.kind.Fault.{Fault}
use Rattle.xmp_move.specs.declared.kind.Side.{Side}
use Rattle.xmp_move.specs.Cells.{pairs_between}
use Rattle.xmp_move.specs.Faults.{first_fault, move_fault}
use Rattle.xmp_move.specs.Kinds.{pairs_of}
use Rattle.xmp_move.specs.Laid.{is_section, sections, PartsFit, SectionsFit}
use Rattle.xmp_move.specs.Meant.{extents_in, aim_of}
use Rattle.xmp_move.specs.Numbers.{asked, chosen_by, target_chosen, source_chosen}
use Rattle.xmp_move.proofs.Checks.{traps_as_meant}
use Rattle.xmp_move.proofs.PairsMeant.{moves_as_meant}
use Rattle.xmp_nodes.proofs.AimLaws.{checked_aim}
use Rattle.xmp_nodes.proofs.Each.{Alone}
use Rattle.xmp_exchanges.specs.Aims.{side_in, part_of, kind_of, flat, unless, checked, aimed}
use Rattle.xmp_exchanges.proofs.SidesMade.{extents_meant}

-- ---- numbers have the shape of their parts

abbrev IsPart : Part → Chosen → Type 0
IsPart (part.One n) (One v) = Unit {0}
IsPart (part.One n) (Many base length step) = ⊥
IsPart (part.Many b l m) (One v) = ⊥
IsPart (part.Many b l m) (Many base length step) = Unit {0}

abbrev pub AreParts : List Part → List Chosen → Type 0
AreParts [] [] = Unit {0}
AreParts [] (c ∷ cs) = ⊥
AreParts (q ∷ qs) [] = ⊥
AreParts (q ∷ qs) (c ∷ cs) = IsPart q c × AreParts qs cs

ends_no_value : {A : Type 0} {e : End} {s t : Alone} {a : A} → Ended e s ≡ Gave a t → ⊥
ends_no_value e = cc

abbrev value_of : {A : Type 0} → A → Step (Unit {0}) A → A
value_of d (Gave a s) = a
value_of d (Ended e s) = d

gave_value : {A : Type 0} (a b : A) (s t : Alone) → ◌≡◌ {A = Step (Unit {0}) A} (Gave a s) (Gave b t) → a ≡ b
gave_value a b s t e = ap (value_of a) e

then_part : {A : Type 0} (q : Part) (r : Step (Unit {0}) A) (f : A → Run (Unit {0}) Chosen) (c : Chosen) (t : Alone) → and_then r f ≡ Gave c t
    → ((a : A) (u : Alone) → f a u ≡ Gave c t → IsPart q c) → IsPart q c
then_part q (Gave a u) f c t e k = k a u e
then_part q (Ended d u) f c t e k = absurd (ends_no_value e)

module _ (cx : Context) where
  is_part : (q : Part) (s : Alone) (c : Chosen) (t : Alone) → chosen erased cx q s ≡ Gave c t → IsPart q c
  is_part (part.One n) s c t e =
      then_part (part.One n) (expr_of erased cx n.value s) (λ v. pure (One v)) c t e (λ v u f. subst (IsPart (part.One n)) (gave_value (One v) c u t f) tt)
  is_part (part.Many b l m) s c t e =
      then_part (part.Many b l m) (expr_of erased cx b.value s) (λ base. expr_of erased cx l.value >>= (λ length. expr_of erased cx m.value >>= (λ step. pure (Many base length step)))) c t e (λ base u f.
      then_part (part.Many b l m) (expr_of erased cx l.value u) (λ length. expr_of erased cx m.value >>= (λ step. pure (Many base length step))) c t f (λ length v g.
      then_part (part.Many b l m) (expr_of erased cx m.value v) (λ step. pure (Many base length step)) c t g (λ step w k.
      subst (IsPart (part.Many b l m)) (gave_value (Many base length step) c w t k) tt)))

  abbrev AreBehind : List Part → (before cs : List Chosen) → Type 0
  AreBehind parts before cs = (rest : List Chosen) × (cs ≡ before ++ rest) × AreParts parts rest

  no_more : (xs : List Chosen) → xs ≡ xs ++ []
  no_more [] = refl
  no_more (x ∷ xs) = ap (λ r. x ∷ r) (no_more xs)

  each_part : (parts : List Part) (before : List Chosen) (s : Alone) (cs : List Chosen) (t : Alone)
      → each (map (chosen erased cx) parts) before s ≡ Gave cs t → AreBehind parts before cs
  each_part [] before s cs t e = ([], sym (gave_value before cs s t e) ∙ no_more before, tt)
  each_part (q ∷ parts) before s cs t e = at_step (chosen erased cx q s) refl e (λ c u g. each_part parts (before ++ c ∷ []) u cs t g)
    where
      at_step : (r : Step (Unit {0}) Chosen) → chosen erased cx q s ≡ r → and_then r (λ c. each (map (chosen erased cx) parts) (before ++ c ∷ [])) ≡ Gave cs t
          → ((c : Chosen) (u : Alone) → each (map (chosen erased cx) parts) (before ++ c ∷ []) u ≡ Gave cs t → AreBehind parts (before ++ c ∷ []) cs) → AreBehind (q ∷ parts) before cs
      at_step (Gave c u) f g k =
          let r = k c u g in
          (c ∷ r.0, r.1 ∙ append_assoc before (c ∷ []) r.0, (is_part q s c u f, r.2))
      at_step (Ended d u) f g k = absurd (ends_no_value g)

  abbrev pub parts_in : MoveSide → List Part
  parts_in (side.Scalar name) = []
  parts_in (side.Array name parts) = parts

  pub side_parts : (m : MoveSide) (s : Alone) (cs : List Chosen) (t : Alone) → numbers erased cx m s ≡ Gave cs t → AreParts (parts_in m) cs
  side_parts (side.Scalar name) s cs t e = subst (AreParts []) (gave_value [] cs s t e) tt
  side_parts (side.Array name parts) s cs t e =
      let r = each_part parts [] s cs t e in subst (AreParts parts) (sym r.1) r.2

-- ---- and are found again

pub chosen_back : (parts : List Part) (cs : List Chosen) (rest : List ℤ) → AreParts parts cs → chosen_by (map part_of parts) (flat cs ++ rest) ≡ cs
chosen_back [] [] rest a = refl
chosen_back [] (c ∷ cs) rest a = absurd a
chosen_back (q ∷ qs) [] rest a = absurd a
chosen_back (part.One n ∷ qs) (One v ∷ cs) rest a = ap (λ r. One v ∷ r) (chosen_back qs cs rest a.1)
chosen_back (part.One n ∷ qs) (Many base length step ∷ cs) rest a = absurd a.0
chosen_back (part.Many b l m ∷ qs) (One v ∷ cs) rest a = absurd a.0
chosen_back (part.Many b l m ∷ qs) (Many base length step ∷ cs) rest a = ap (λ r. Many base length step ∷ r) (chosen_back qs cs rest a.1)

dropped : (n m : ℕ) (xs : List ℤ) → n ≡ m → drop n xs ≡ drop m xs
dropped n m xs e = ap (λ k. drop k xs) e

pub numbers_behind : (parts : List Part) (cs : List Chosen) (rest : List ℤ) → AreParts parts cs → drop (sum_by asked (map part_of parts)) (flat cs ++ rest) ≡ rest
numbers_behind [] [] rest a = refl
numbers_behind [] (c ∷ cs) rest a = absurd a
numbers_behind (q ∷ qs) [] rest a = absurd a
numbers_behind (part.One n ∷ qs) (One v ∷ cs) rest a =
    let e = sum_by-cons asked (part_of (part.One n)) (map part_of qs) in
    dropped (sum_by asked (map part_of (part.One n ∷ qs))) (suc (sum_by asked (map part_of qs))) (v ∷ (flat cs ++ rest)) (omega (arith, e)) ∙ numbers_behind qs cs rest a.1
numbers_behind (part.One n ∷ qs) (Many base length step ∷ cs) rest a = absurd a.0
numbers_behind (part.Many b l m ∷ qs) (One v ∷ cs) rest a = absurd a.0
numbers_behind (part.Many b l m ∷ qs) (Many base length step ∷ cs) rest a =
    let e = sum_by-cons asked (part_of (part.Many b l m)) (map part_of qs) in
    dropped (sum_by asked (map part_of (part.Many b l m ∷ qs))) (suc (suc (suc (sum_by asked (map part_of qs))))) (base ∷ length ∷ step ∷ (flat cs ++ rest)) (omega (arith, e))
    ∙ numbers_behind qs cs rest a.1

parts_long : (parts : List Part) (cs : List Chosen) → AreParts parts cs → length cs ≡ length (map part_of parts)
parts_long [] [] a = refl
parts_long [] (c ∷ cs) a = absurd a
parts_long (q ∷ qs) [] a = absurd a
parts_long (q ∷ qs) (c ∷ cs) a = ap suc (parts_long qs cs a.1)

parts_sections : (parts : List Part) (cs : List Chosen) → AreParts parts cs → length (lengths cs) ≡ count_by is_section (map part_of parts)
parts_sections [] [] a = refl
parts_sections [] (c ∷ cs) a = absurd a
parts_sections (q ∷ qs) [] a = absurd a
parts_sections (part.One n ∷ qs) (One v ∷ cs) a =
    let e = sum_by-cons (λ q. cond (is_section q) 1 0) (part_of (part.One n)) (map part_of qs) in
    let i = parts_sections qs cs a.1 in
    omega (arith, e, i)
parts_sections (part.One n ∷ qs) (Many base length step ∷ cs) a = absurd a.0
parts_sections (part.Many b l m ∷ qs) (One v ∷ cs) a = absurd a.0
parts_sections (part.Many b l m ∷ qs) (Many base length step ∷ cs) a =
    let e = sum_by-cons (λ q. cond (is_section q) 1 0) (part_of (part.Many b l m)) (map part_of qs) in
    let i = parts_sections qs cs a.1 in
    omega (arith, e, i)

-- ---- a side's

module _ (p : ProgParts) where
  side_parts_are : (m : MoveSide) (cx : Context) → (side_in p m).parts ≡ map part_of (parts_in cx m)
  side_parts_are (side.Scalar name) cx = refl
  side_parts_are (side.Array name parts) cx = refl

none_there : {A : Type 0} (xs : List A) → length xs ≡ 0 → xs ≡ []
none_there [] e = refl
none_there (x ∷ xs) e = absurd (omega (arith, e))

no_rest : (xs : List ℤ) → xs ++ [] ≡ xs
no_rest [] = refl
no_rest (x ∷ xs) = ap (λ r. x ∷ r) (no_rest xs)

module _ (p : ProgParts) (target source : MoveSide) (parts : PartsFit (kind_of p target source)) (agree : SectionsFit (kind_of p target source))
    (cx : Context) (of_program : cx.program ≡ p) where
  abbrev T : Side
  T = side_in p target

  abbrev S : Side
  S = side_in p source

  abbrev pub found : List ℤ → Aim
  found args = aim_of T.extents S.extents (pairs_of (kind_of p target source) args)

  te_is : T.extents ≡ extents_in cx.program target
  te_is = extents_meant p target ∙ ap (λ q. extents_in q target) (sym of_program)

  se_is : S.extents ≡ extents_in cx.program source
  se_is = extents_meant p source ∙ ap (λ q. extents_in q source) (sym of_program)

  module _ (to from : List Chosen) (at : AreParts (parts_in cx target) to) (af : AreParts (parts_in cx source) from) where
    abbrev args : List ℤ
    args = flat to ++ flat from

    to_is : target_chosen T args ≡ to
    to_is = ap (λ ps. chosen_by ps args) (side_parts_are p target cx) ∙ chosen_back (parts_in cx target) to (flat from) at

    from_is : source_chosen T S args ≡ from
    from_is =
        ap (λ ps. chosen_by S.parts (drop (sum_by asked ps) args)) (side_parts_are p target cx)
        ∙ ap (chosen_by S.parts) (numbers_behind (parts_in cx target) to (flat from) at)
        ∙ ap (λ ps. chosen_by ps (flat from)) (side_parts_are p source cx)
        ∙ ap (chosen_by (map part_of (parts_in cx source))) (sym (no_rest (flat from)))
        ∙ chosen_back (parts_in cx source) from [] af

    fault_is : first_fault (extents_in cx.program target) to (extents_in cx.program source) from ≡ move_fault (kind_of p target source) args
    fault_is = λ i. first_fault (sym te_is i) (sym to_is i) (sym se_is i) (sym from_is i)

    found_is : aim_of (extents_in cx.program target) (extents_in cx.program source) (pairs_between to from) ≡ found args
    found_is = λ i. aim_of (sym te_is i) (sym se_is i) (pairs_between (sym to_is i) (sym from_is i))

    to_many : length to ≡ length (extents_in cx.program target)
    to_many = parts_long (parts_in cx target) to at ∙ ap length (sym (side_parts_are p target cx)) ∙ parts.0 ∙ ap length te_is

    from_many : length from ≡ length (extents_in cx.program source)
    from_many = parts_long (parts_in cx source) from af ∙ ap length (sym (side_parts_are p source cx)) ∙ parts.1 ∙ ap length se_is

    to_sections : length (lengths to) ≡ sections T
    to_sections = parts_sections (parts_in cx target) to at ∙ ap (count_by is_section) (sym (side_parts_are p target cx))

    from_sections : length (lengths from) ≡ sections S
    from_sections = parts_sections (parts_in cx source) from af ∙ ap (count_by is_section) (sym (side_parts_are p source cx))

    many_sections : (sections S ≡ 0) ⊎ (sections S ≡ sections T) → (lengths from ≡ []) ⊎ (length (lengths from) ≡ length (lengths to))
    many_sections (inl z) = inl (none_there (lengths from) (from_sections ∙ z))
    many_sections (inr e) = inr (from_sections ∙ e ∙ sym to_sections)

    at_fault : (s t u : Alone) → numbers erased cx target s ≡ Gave to t → numbers erased cx source t ≡ Gave from u
        → (o : Option Fault) → move_fault (kind_of p target source) args ≡ o
        → aim erased cx target source s ≡ and_then (unless target source o args u) (λ args. pure (found args))
    at_fault s t u et ef (Some f) g = traps_as_meant erased cx target source to from s t u f et ef (fault_is ∙ g)
    at_fault s t u et ef None g =
        moves_as_meant erased cx target source to from s t u et ef (fault_is ∙ g) to_many from_many (many_sections agree)
        ∙ ap (λ a. Gave a u) found_is

  at_source : (to : List Chosen) (s t : Alone) → numbers erased cx target s ≡ Gave to t → AreParts (parts_in cx target) to
      → (r : Step (Unit {0}) (List Chosen)) → numbers erased cx source t ≡ r
      → aim erased cx target source s ≡ and_then (and_then r (λ from. checked (kind_of p target source) target source (flat to ++ flat from))) (λ args. pure (found args))
  at_source to s t et at (Gave from u) ef = at_fault to from at (side_parts cx source t from u ef) s t u et ef (move_fault (kind_of p target source) (flat to ++ flat from)) refl
  at_source to s t et at (Ended d u) ef =
      ap (λ r. and_then r (λ to. numbers erased cx source >>= (λ from. checked_aim cx target source to from))) et ∙ ap (λ r. and_then r (λ from. checked_aim cx target source to from)) ef

  at_target : (s : Alone) (r : Step (Unit {0}) (List Chosen)) → numbers erased cx target s ≡ r
      → aim erased cx target source s ≡ and_then (and_then r (λ to. numbers erased cx source >>= (λ from. checked (kind_of p target source) target source (flat to ++ flat from)))) (λ args. pure (found args))
  at_target s (Gave to t) et = at_source to s t et (side_parts cx target s to t et) (numbers erased cx source t) refl
  at_target s (Ended d t) et = ap (λ r. and_then r (λ to. numbers erased cx source >>= (λ from. checked_aim cx target source to from))) et

  -- what the meaning aims at is found by the numbers, and it traps where they do
  pub aim_found : (s : Alone) → aim erased cx target source s ≡ and_then (aimed (kind_of p target source) cx target source s) (λ args. pure (found args))
  aim_found s = at_target s (numbers erased cx target s) refl
