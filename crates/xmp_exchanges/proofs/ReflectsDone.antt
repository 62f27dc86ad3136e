-- A reflect of several arrays goes on behind one that is done.
use Rattle.std.proofs.Common.{◌≡◌, ◌<◌, ◌+◌, ◌∙◌, ℕ, zero, suc, ℤ, List, [], ◌∷◌, length, drop, get_or, Err, refl, ap, arith}
use Rattle.xmp_prog.specs.declared.parts.ProgParts.{ProgParts}
use Rattle.xmp_prog.specs.declared.statements.Name.{Name}
use Rattle.xmp_meaning.specs.declared.ends.End.{End}
use Rattle.xmp_meaning.specs.declared.ends.Flow.{Flow}
use Rattle.xmp_meaning.specs.declared.ends.Flow.TheVariants.{Next, Returned}
use Rattle.xmp_meaning.specs.Declarations.{home_of}
use Rattle.xmp_meaning.specs.declared.ends.Halt.{Halt}
use Rattle.xmp_meaning.specs.declared.ends.Halt.TheVariants as halt
use Rattle.xmp_meaning.specs.Runs.{Gave, Ended, StepIn, and_then, Does}
use Rattle.xmp_meaning.specs.Blocks.{after}
use Rattle.xmp_nodes.specs.Nodes.{Nodes}
use Rattle.xmp_nodes.specs.Reflecting.{reflect_at, reflect_all}

first_left : (xs : List Name) (k : ℕ) (d : Name) → k < length xs → drop k xs ≡ get_or xs k d ∷ drop (suc k) xs
first_left [] k d h = absurd (omega (arith, h))
first_left (x ∷ xs) zero d h = refl
first_left (x ∷ xs) (suc k) d h = first_left xs k d (omega (arith, h))

left_at : (xs : List Name) (k : ℕ) (d : Name) → k < length xs → drop k xs ≡ get_or xs k d ∷ drop (k + 1) xs
left_at xs k d h = let e : k + 1 ≡ suc k = omega arith in rw e (first_left xs k d h)

module _ (p : ProgParts) (xs : List Name) (k : ℕ) (d : Name) (h : k < length xs) (w v : Nodes) where
  abbrev here : StepIn Nodes Flow
  here = reflect_at p (get_or xs k d).number (home_of p (get_or xs k d).number) w

  step : reflect_all p (drop k xs) w ≡ and_then here (λ flow. after flow (reflect_all p (drop (k + 1) xs)))
  step = ap (λ l. reflect_all p l w) (left_at xs k d h)

  pub goes_on : here ≡ Gave Next v → reflect_all p (drop k xs) w ≡ reflect_all p (drop (k + 1) xs) v
  goes_on e = step ∙ ap (λ r. and_then r (λ flow. after flow (reflect_all p (drop (k + 1) xs)))) e

  pub returns_so : (x : ℤ) → here ≡ Gave (Returned x) v → reflect_all p (drop k xs) w ≡ Gave (Returned x) v
  returns_so x e = step ∙ ap (λ r. and_then r (λ flow. after flow (reflect_all p (drop (k + 1) xs)))) e

  pub ends_so : (d : End) → here ≡ Ended d v → reflect_all p (drop k xs) w ≡ Ended d v
  ends_so d e = step ∙ ap (λ r. and_then r (λ flow. after flow (reflect_all p (drop (k + 1) xs)))) e

  pub halts_so : (h : Halt) → Does here (Err h) v → Does (reflect_all p (drop k xs) w) (Err h) v
  halts_so (halt.End e) d = ends_so e d
  halts_so halt.NoMemory d = tt
