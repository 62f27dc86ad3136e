-- A step of the walk and what is made of what it gave, where the code makes it of a result.
use Rattle.std.proofs.Common.{◌≡◌, ◌∙◌, ap, sym, Result, Ok, Err, IfOk}
use Rattle.std.specs.Prelude.{MatchResult, IsErr}
use Rattle.xmp_names.specs.declared.world.World.{World}
use Rattle.xmp_names.specs.Walk.{Step, Gave, Run, Does, and_then, pure}

pub after : {A B E : Type 0} (first : Step A) (rest : A → Run B) (a : A) (result : Result B E) (mid new : World) →
    first ≡ Gave a mid → Does (rest a mid) result new → Does (and_then first rest) result new
after first rest a result mid new e d = rw e d

pub joined : {A B E F : Type 0} (step : Step A) (rest : A → Run B) (made : Result A E) (result : Result B F) (mid new : World) →
    Does step made mid → MatchResult made (λ a. Does (rest a mid) result new) (λ _. IsErr result) → Does (and_then step rest) result new
joined step rest (Ok a) result mid new d m = rw d m
joined step rest (Err e) (Ok b) mid new d m = absurd (cc)
joined step rest (Err e) (Err f) mid new d m = tt

pub joined_pure : {A B E F : Type 0} (step : Step A) (f : A → B) (made : Result A E) (result : Result B F) (new : World) →
    Does step made new → MatchResult made (λ a. IfOk result (λ b. b ≡ f a)) (λ _. IsErr result) → Does (and_then step (λ a. pure (f a))) result new
joined_pure step f (Ok a) (Ok b) new d m = ap (λ s. and_then s (λ x. pure (f x))) d ∙ ap (λ y. Gave y new) (sym m)
joined_pure step f (Ok a) (Err e) new d m = tt
joined_pure step f (Err e) (Ok b) new d m = absurd (cc)
joined_pure step f (Err e) (Err g) new d m = tt

-- Two steps whose results are kept as a pair, and what follows on both.
given : {A : Type 0} → Step A → A
given (Gave a w) = a

world_after : {A : Type 0} → Step A → World
world_after (Gave a w) = w

pair_next : {A B C : Type 0} (a c : A) (d : B) (s : Step B) (rest : A → B → Run C) (mid : World) → and_then {B = A × B} s (λ y. pure (a, y)) ≡ Gave (c, d) mid → and_then s (rest a) ≡ rest c d mid
unfolding given world_after
pair_next {A} {B} a c d (Gave y w) rest mid e =
    let p : a ≡ c = ap (λ (s : Step (A × B)). (given s).0) e in
    let q : y ≡ d = ap (λ (s : Step (A × B)). (given s).1) e in
    let r : w ≡ mid = ap world_after e in
    cc

pub paired : {A B C : Type 0} (first : Step A) (q : Run B) (rest : A → B → Run C) (c : A) (d : B) (mid : World) →
    and_then {B = A × B} first (λ t. λ w. and_then {B = A × B} (q w) (λ y. pure (t, y))) ≡ Gave (c, d) mid → and_then first (λ t. λ w. and_then (q w) (rest t)) ≡ rest c d mid
paired (Gave t w) q rest c d mid e = pair_next t c d (q w) rest mid e
