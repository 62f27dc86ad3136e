-- Values on each image, one after another.
use Rattle.std.proofs.Common.{◌≡◌, ℕ, suc, ◌+◌, ◌-◌, ◌<◌, List, [], ◌∷◌, ◌++◌, map, ℤ, Option, Some, None, refl, sym, ap, ◌∙◌, append_assoc, append-nil, arith, Bool, true, if◌then◌else◌}
use Rattle.xmp_prog.specs.declared.expressions.Expr.{Expr}
use Rattle.std.specs.List.{range_with_len}
use Rattle.xmp_spots.specs.Images.{put_first, all_given, is_built, value_on, image_values}

-- values, and then those
abbrev pub then_given : List ℤ → Option (List ℤ) → Option (List ℤ)
then_given vs None = None
then_given vs (Some ws) = Some (vs ++ ws)

one_given : (vs : List ℤ) (v : ℤ) (rest : Option (List ℤ)) → then_given vs (put_first v rest) ≡ then_given (vs ++ v ∷ []) rest
one_given vs v None = refl
one_given vs v (Some ws) = ap Some (sym (append_assoc vs (v ∷ []) ws))

pub nothing_then : (all : Option (List ℤ)) → then_given [] all ≡ all
nothing_then None = refl
nothing_then (Some vs) = refl

one_less : (count image : ℕ) → image < count → count - image ≡ suc (count - (image + 1))
one_less count image h = omega (arith, h)

pub next_given : (f : ℕ → Option ℤ) (count image : ℕ) (vs : List ℤ) (v : ℤ) → image < count → f image ≡ Some v →
    then_given vs (all_given (map f (range_with_len image (count - image))))
    ≡ then_given (vs ++ v ∷ []) (all_given (map f (range_with_len (image + 1) (count - (image + 1)))))
next_given f count image vs v h e =
    ap (λ n. then_given vs (all_given (map f (range_with_len image n)))) (one_less count image h)
    ∙ (ap (λ o. then_given vs (all_given (o ∷ map f (range_with_len (image + 1) (count - (image + 1)))))) e
    ∙ one_given vs v (all_given (map f (range_with_len (image + 1) (count - (image + 1))))))

pub none_given : (f : ℕ → Option ℤ) (count image : ℕ) (vs : List ℤ) → image < count → f image ≡ None →
    then_given vs (all_given (map f (range_with_len image (count - image)))) ≡ None
none_given f count image vs h e =
    ap (λ n. then_given vs (all_given (map f (range_with_len image n)))) (one_less count image h)
    ∙ ap (λ o. then_given vs (all_given (o ∷ map f (range_with_len (image + 1) (count - (image + 1)))))) e

pub last_given : (f : ℕ → Option ℤ) (count image : ℕ) (vs : List ℤ) → count ≡ image →
    then_given vs (all_given (map f (range_with_len image (count - image)))) ≡ Some vs
last_given f count image vs e =
    let z : count - image ≡ 0 = omega (arith, e) in
    ap (λ n. then_given vs (all_given (map f (range_with_len image n)))) z ∙ ap Some (append-nil vs)

pub when_built : (count : ℕ) (values : List (List ℤ)) (e : Expr) (b : Bool) → b ≡ is_built values e → b ≡ true →
    all_given (map (λ image. value_on count values image e) (range_with_len 0 count)) ≡ image_values count values e
when_built count values e b is holds =
    ap (λ (t : Bool). if t then all_given (map (λ image. value_on count values image e) (range_with_len 0 count)) else None) (sym (sym is ∙ holds))
