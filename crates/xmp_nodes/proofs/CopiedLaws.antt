-- The copied values of an array's cells, as exchanges are noted.
use Rattle.std.proofs.Common.{◌≡◌, ◌++◌, ◌==◌, if◌then◌else◌, ℕ, ℤ, pos, false, List, [], ◌∷◌, refl, ap, ◌∙◌}
use Rattle.std.specs.Prelude.{slice_get, unwrap_or}
use Rattle.std.proofs.lemmas.Bool.{eq-eqb}
use Rattle.std.proofs.lemmas.Option.{unwrap_or-slice_get}
use Rattle.xmp_meaning.specs.Exchanges.{Exchange, AtBarrier, Broadcast, Reflected, Moved, LoopEnd, TasksEnd}
use Rattle.xmp_meaning.specs.Traffic.{last_reflected, copied}
use Rattle.xmp_move.specs.Stores.{word_at}

pub reflected_behind : (array : ℕ) (so_far : List ℤ) (xs ys : List Exchange)
    → last_reflected array so_far (xs ++ ys) ≡ last_reflected array (last_reflected array so_far xs) ys
reflected_behind array so_far [] ys = refl
reflected_behind array so_far (AtBarrier ∷ xs) ys = reflected_behind array so_far xs ys
reflected_behind array so_far (Broadcast variables set values ∷ xs) ys = reflected_behind array so_far xs ys
reflected_behind array so_far (Reflected a cells ∷ xs) ys = reflected_behind array (if a == array then cells else so_far) xs ys
reflected_behind array so_far (Moved target source aim values ∷ xs) ys = reflected_behind array so_far xs ys
reflected_behind array so_far (LoopEnd directive ends ∷ xs) ys = reflected_behind array so_far xs ys
reflected_behind array so_far (TasksEnd ends ∷ xs) ys = reflected_behind array so_far xs ys

-- an exchange that isn't a reflect
abbrev pub IsNoReflect : Exchange → Type 0
IsNoReflect x = (array : ℕ) (so_far : List ℤ) → last_reflected array so_far (x ∷ []) ≡ so_far

pub barrier_copies : IsNoReflect AtBarrier
barrier_copies array so_far = refl

pub cast_copies : (variables : _) (set : _) (values : List ℤ) → IsNoReflect (Broadcast variables set values)
cast_copies variables set values array so_far = refl

pub moved_copies : (target source : _) (aim : _) (values : List ℤ) → IsNoReflect (Moved target source aim values)
moved_copies target source aim values array so_far = refl

pub loop_copies : (directive : _) (ends : _) → IsNoReflect (LoopEnd directive ends)
loop_copies directive ends array so_far = refl

pub tasks_copies : (ends : _) → IsNoReflect (TasksEnd ends)
tasks_copies ends array so_far = refl

-- it leaves all copied values
pub copied_stays : (xs : List Exchange) (x : Exchange) → IsNoReflect x → (array n : ℕ) → copied (xs ++ x ∷ []) array n ≡ copied xs array n
copied_stays xs x none array n =
    ap (λ row. unwrap_or (slice_get row n) (pos 0)) (reflected_behind array [] xs (x ∷ []) ∙ none array (last_reflected array [] xs))

-- a reflect gives the array's own values
pub copied_here : (xs : List Exchange) (array n : ℕ) (cells : List ℤ) → copied (xs ++ Reflected array cells ∷ []) array n ≡ word_at cells n
copied_here xs array n cells =
    ap (λ row. unwrap_or (slice_get row n) (pos 0)) (reflected_behind array [] xs (Reflected array cells ∷ []))
    ∙ ap (λ b. unwrap_or (slice_get (if b then cells else last_reflected array [] xs) n) (pos 0)) (eq-eqb array array refl)
    ∙ unwrap_or-slice_get cells n (pos 0)

-- and leaves those of another array
pub copied_other : (xs : List Exchange) (array other n : ℕ) (cells : List ℤ) → (other == array) ≡ false → copied (xs ++ Reflected other cells ∷ []) array n ≡ copied xs array n
copied_other xs array other n cells ne =
    ap (λ row. unwrap_or (slice_get row n) (pos 0)) (reflected_behind array [] xs (Reflected other cells ∷ []))
    ∙ ap (λ b. unwrap_or (slice_get (if b then cells else last_reflected array [] xs) n) (pos 0)) ne
