-- The words `max` and `min` of a reduction.
use Rattle.std.proofs.Common.{◌≡◌, Bool, true, false, List, [], ◌∷◌, refl, ap}
use Rattle.std.specs.Prelude.{◌||◌, codes}
use Rattle.xmp_lex.specs.declared.token.Token.{Token}
use Rattle.xmp_syntax.specs.Grammar.{is_spelled, is_max_or_min}
use Rattle.xmp_reader.specs.Kinds.{next_is}

pub max_next : (ts : List Token) → next_is (is_spelled (codes "max")) ts ≡ true → next_is is_max_or_min ts ≡ true
max_next [] h = cc
max_next (k ∷ ts) h = ap (λ (b : Bool). b || is_spelled (codes "min") k.kind) h

pub min_next : (ts : List Token) → next_is (is_spelled (codes "max")) ts ≡ false → next_is is_max_or_min ts ≡ next_is (is_spelled (codes "min")) ts
min_next [] h = refl
min_next (k ∷ ts) h = ap (λ (b : Bool). b || is_spelled (codes "min") k.kind) h
