-- The broken rules that are looked at, of a list; the others are dropped.
use Rattle.std.proofs.Common.{◌≡◌, ◌∙◌, refl, ap, ◌++◌, ◌∷◌, [], List, Bool, true, false, cond, filter, append_assoc, append-nil}
use Rattle.std.proofs.lemmas.List.Elements.{filter-append}
use Rattle.xmp_base.specs.declared.place.Place.{Place}
use Rattle.xmp_names.specs.declared.rules.Rule.{Rule}
use Rattle.xmp_names.specs.declared.rules.Rule.TheVariants.{N1, N2, N4, N5, N7, N8}
use Rattle.xmp_names.specs.declared.rules.Broken.{Broken}
use Rattle.xmp_names.specs.Rules.{unless}

abbrev pub covered : Rule → Bool
covered N1 = true
covered N2 = true
covered N4 = true
covered N5 = true
covered N7 = true
covered N8 = true
covered _ = false

abbrev pub kept : List Broken → List Broken
kept bs = filter (λ b. covered b.rule) bs

pub kept_both : (xs ys : List Broken) → kept (xs ++ ys) ≡ kept xs ++ kept ys
kept_both xs ys = filter-append (λ b. covered b.rule) xs ys

pub kept_none : (test : Bool) (rule : Rule) (at : Place) → covered rule ≡ false → kept (unless test rule at) ≡ []
kept_none true rule at e = refl
kept_none false rule at e = ap (λ b. cond b (record { rule = rule; at = at } ∷ []) []) e

pub kept_all : (test : Bool) (rule : Rule) (at : Place) → covered rule ≡ true → kept (unless test rule at) ≡ unless test rule at
kept_all true rule at e = refl
kept_all false rule at e = ap (λ b. cond b (record { rule = rule; at = at } ∷ []) []) e

-- What is noted behind a list, of a rule that is looked at and of one that isn't.
pub behind_none : (xs : List Broken) (test : Bool) (rule : Rule) (at : Place) → covered rule ≡ false → kept (xs ++ unless test rule at) ≡ kept xs
behind_none xs true rule at e = ap kept (append-nil xs)
behind_none xs false rule at e = kept_both xs (unless false rule at) ∙ (ap (λ l. kept xs ++ l) (kept_none false rule at e) ∙ append-nil (kept xs))

pub behind_all : (xs : List Broken) (test : Bool) (rule : Rule) (at : Place) → covered rule ≡ true → kept (xs ++ unless test rule at) ≡ kept xs ++ unless test rule at
behind_all xs test rule at e = kept_both xs (unless test rule at) ∙ ap (λ l. kept xs ++ l) (kept_all test rule at e)

-- Three lists, one after the other.
pub three : (a b c x y : List Broken) → b ≡ a ++ x → c ≡ b ++ y → c ≡ a ++ (x ++ y)
three a b c x y h k = k ∙ (ap (λ l. l ++ y) h ∙ append_assoc a x y)
