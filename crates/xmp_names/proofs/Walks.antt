-- One step of a loop over parts of the tree, each of which is a step of the walk.
use Rattle.std.proofs.Common.{◌≡◌, ◌∙◌, ◌<◌, ◌≤◌, ◌+◌, ◌++◌, ℕ, zero, suc, ap, sym, arith, Result, List, [], ◌∷◌, Option, Some, None, length, map, drop, get_or}
use Rattle.std.specs.Prelude.{slice_get}
use Rattle.std.specs.Option.{unwrap_or}
use Rattle.std.proofs.lemmas.List.{drop_all, length-append}
use Rattle.std.proofs.lemmas.Option.{none-some, slice_get_within, unwrap_or-slice_get}
use Rattle.xmp_names.specs.declared.world.World.{World}
use Rattle.xmp_names.specs.Walk.{Step, Gave, Run, Does, and_then, ◌>>=◌, pure, each_after}
use Rattle.xmp_names.proofs.Steps.{unrolled}

pub each_step : {A B C : Type 0} (f : A → Run B) (g : C → A) (done : List B) (xs : List C) (i : ℕ) (x : C) (y : B) (w next : World) →
    i < length xs → x ≡ get_or xs i x → f (g x) w ≡ Gave y next →
    each_after f done (map g (drop i xs)) w ≡ each_after f (done ++ y ∷ []) (map g (drop (i + 1) xs)) next
each_step f g done xs i x y w next h is e =
    ap (λ l. each_after f done (map g l) w) (unrolled xs i x h is)
    ∙ ap (λ s. and_then s (λ z. each_after f (done ++ z ∷ []) (map g (drop (i + 1) xs)))) e

-- Two steps one after the other, and what is made of what they gave.
pub two_steps : {A B C : Type 0} (p : Run A) (q : Run B) (f : A → B → C) (a : A) (b : B) (made : C) (w next last : World) →
    p w ≡ Gave a next → q next ≡ Gave b last → made ≡ f a b → and_then (p w) (λ x. q >>= (λ y. pure (f x y))) ≡ Gave made last
two_steps p q f a b made w next last e d m =
    ap (λ s. and_then s (λ x. q >>= (λ y. pure (f x y)))) e
    ∙ (ap (λ s. and_then s (λ y. pure (f a y))) d ∙ ap (λ z. Gave z last) (sym m))

-- One step, and what is made of what it gave.
pub one_step : {A C : Type 0} (p : Run A) (f : A → C) (a : A) (made : C) (w next : World) →
    p w ≡ Gave a next → made ≡ f a → and_then (p w) (λ x. pure (f x)) ≡ Gave made next
one_step p f a made w next e m = ap (λ s. and_then s (λ x. pure (f x))) e ∙ ap (λ z. Gave z next) (sym m)

-- A step of a walk that ends as another one does.
pub same_walk : {A E : Type 0} (run other : Step A) (result : Result A E) (new : World) → run ≡ other → Does other result new → Does run result new
same_walk run other result new e d = rw e d

-- Three steps one after the other, and what is made of what they gave.
pub three_steps : {A B C D : Type 0} (p : Run A) (q : A → Run B) (r : A → Run C) (f : A → B → C → D) (a : A) (b : B) (c : C) (made : D) (w next after last : World) →
    p w ≡ Gave a next → q a next ≡ Gave b after → r a after ≡ Gave c last → made ≡ f a b c →
    and_then (p w) (λ x. q x >>= (λ y. r x >>= (λ z. pure (f x y z)))) ≡ Gave made last
three_steps p q r f a b c made w next after last e d g m =
    ap (λ s. and_then s (λ x. q x >>= (λ y. r x >>= (λ z. pure (f x y z))))) e
    ∙ (ap (λ s. and_then s (λ y. r a >>= (λ z. pure (f a y z)))) d
    ∙ (ap (λ s. and_then s (λ z. pure (f a b z))) g ∙ ap (λ z. Gave z last) (sym m)))

-- ---- a loop that goes by how many it has made

next_item : {A : Type 0} (xs : List A) (k : ℕ) (x : A) → slice_get xs k ≡ Some x → drop k xs ≡ x ∷ drop (k + 1) xs
next_item xs k x e = unrolled xs k x (slice_get_within xs k x e) (ap (λ o. unwrap_or o x) (sym e) ∙ unwrap_or-slice_get xs k x)

pub part_step : {A B : Type 0} (f : A → Run B) (done next : List B) (xs : List A) (x : A) (y : B) (w after : World) →
    slice_get xs (length done) ≡ Some x → f x w ≡ Gave y after → next ≡ done ++ y ∷ [] →
    each_after f done (drop (length done) xs) w ≡ each_after f next (drop (length next) xs) after
part_step f done next xs x y w after is e n =
    let k : length done + 1 ≡ length next = sym (length-append done (y ∷ [])) ∙ ap length (sym n) in
    ap (λ l. each_after f done l w) (next_item xs (length done) x is)
    ∙ (ap (λ s. and_then s (λ z. each_after f (done ++ z ∷ []) (drop (length done + 1) xs))) e
    ∙ (ap (λ l. each_after f l (drop (length done + 1) xs) after) (sym n) ∙ ap (λ i. each_after f next (drop i xs) after) k))

past_end : {A : Type 0} (xs : List A) (k : ℕ) → slice_get xs k ≡ None → length xs ≤ k
past_end [] k h = omega arith
past_end (x ∷ xs) zero h = absurd (none-some x (sym h))
past_end (x ∷ xs) (suc k) h = let r = past_end xs k h in omega arith

pub part_end : {A B : Type 0} (f : A → Run B) (done : List B) (xs : List A) (w : World) →
    slice_get xs (length done) ≡ None → each_after f done (drop (length done) xs) w ≡ Gave done w
part_end f done xs w e = ap (λ l. each_after f done l w) (drop_all (length done) xs (past_end xs (length done) e))
