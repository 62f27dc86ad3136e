-- What holds at the end of a run from a good world where no rule breaks; and how it is put together.
use Rattle.std.proofs.Common.{◌≡◌, refl, sym, subst, ◌++◌, ◌∷◌, [], List, Bool, true, Option, Some, None}
use Rattle.std.specs.Prelude.{⊤}
use Rattle.std.specs.List.{AllByRecursion}
use Rattle.xmp_base.specs.declared.place.Place.{Place}
use Rattle.xmp_names.specs.declared.rules.Rule.{Rule}
use Rattle.xmp_names.specs.declared.world.World.{World}
use Rattle.xmp_names.specs.Rules.{unless}
use Rattle.xmp_names.specs.Walk as walk
use Rattle.xmp_names.specs.Walk.{Step, Gave, Run, and_then}
use Rattle.xmp_parts.proofs.Unbroken.{right_none, holds}
use Rattle.xmp_fits.proofs.Laters.{unbroken_before}
use Rattle.xmp_fits.proofs.GoodWorlds.{Own, Good}
use Rattle.xmp_fits.proofs.KeptRuns.{Goes, goes_refl, GoesOn, Kept, Going, going}
use Rattle.xmp_fits.proofs.Respected.{Ends, each_after}

-- Where no rule is broken at the end of a step.
abbrev pub Unbroken : {A : Type 0} → (World → A → Type 0) → Step A → Type 0
Unbroken P s = Ends (λ a v. v.broken ≡ [] → P v a) s

-- P holds of the world before a run, of the one after it and of what it gave.
pub record Holds {A : Type 0} (own : Own) (P : World → World → A → Type 0) (run : Run A) : Type 0 where
  pub at : (w : World) → Good own w → Unbroken (P w) (run w)

given : {B : Type 0} (Q : World → B → Type 0) (s : Step B) (X : Type 0) → Ends (λ b u. u.broken ≡ [] → X) s → (X → Unbroken Q s) → Unbroken Q s
given Q (Gave b u) X k f = λ h. f (k h) h

-- What a step keeps is unbroken before it.
before : {B : Type 0} (v : World) (s : Step B) → GoesOn v s → Ends (λ b u. u.broken ≡ [] → v.broken ≡ []) s
before v (Gave b u) g = λ h. unbroken_before v u g.onward.later h

pub unbroken_then : {A B : Type 0} (P : World → A → Type 0) (Q : World → B → Type 0) (w : World) (s : Step A) (f : A → Run B) →
    GoesOn w s → Unbroken P s → ((a : A) → Kept (f a)) → ((a : A) (v : World) → Goes w v → P v a → Unbroken Q (f a v)) → Unbroken Q (and_then s f)
unbroken_then P Q w (Gave a v) f g p k next =
    given Q (f a v) (v.broken ≡ []) (before v (f a v) ((k a).at v)) (λ h. next a v g (p h))

-- The same where the next step is no kept run by itself, but goes on from here.
pub unbroken_next : {A B : Type 0} (P : World → A → Type 0) (Q : World → B → Type 0) (w : World) (s : Step A) (f : A → Run B) →
    GoesOn w s → Unbroken P s → ((a : A) (v : World) → Goes w v → Ends (λ b u. u.broken ≡ [] → v.broken ≡ []) (f a v)) → ((a : A) (v : World) → Goes w v → P v a → Unbroken Q (f a v)) → Unbroken Q (and_then s f)
unbroken_next P Q w (Gave a v) f g p k next = given Q (f a v) (v.broken ≡ []) (k a v g) (λ h. next a v g (p h))

pub unbroken_map : {A : Type 0} (P Q : World → A → Type 0) (s : Step A) → Unbroken P s → ((a : A) (v : World) → P v a → Q v a) → Unbroken Q s
unbroken_map P Q (Gave a v) h k = λ e. k a v (h e)

pub unbroken_goes : {A : Type 0} (P Q : World → A → Type 0) (w : World) (s : Step A) → GoesOn w s → Unbroken P s → ((a : A) (v : World) → Goes w v → P v a → Q v a) → Unbroken Q s
unbroken_goes P Q w (Gave a v) g h k = λ e. k a v g (h e)

-- With what the step is.
pub unbroken_is : {A : Type 0} (P : World → A → Type 0) (s : Step A) → Unbroken P s → Unbroken (λ v a. P v a × (s ≡ Gave a v)) s
unbroken_is P (Gave a v) h = λ e. (h e, refl)

-- One run after another.
pub holds_then : {A B : Type 0} (own : Own) (P : World → World → A → Type 0) (Q : World → World → B → Type 0) (p : Run A) (f : A → Run B) →
    Kept p → Holds own P p → ((a : A) → Kept (f a)) → ((w v : World) (a : A) → Good own w → Goes w v → P w v a → Unbroken (Q w) (f a v)) → Holds own Q (walk.◌>>=◌ p f)
holds_then own P Q p f kept h next k = record {
  at = λ w g.
      unbroken_then (P w) (Q w) w (p w) f (kept.at w) (h.at w g) next (λ a v o. k w v a g o);
}

-- A judged test holds.
pub judged_holds : (own : Own) (test : Bool) (rule : Rule) (at : Place) → Holds own (λ w v _. test ≡ true) (walk.judge test rule at)
judged_holds own test rule at = record { at = λ w g h. holds test rule at (right_none w.broken (unless test rule at) h) }

pub same_holds : {A : Type 0} (own : Own) (P : World → World → A → Type 0) (a c : Run A) → a ≡ c → Holds own P c → Holds own P a
same_holds own P a c e h = subst (λ r. Holds own P r) (sym e) h

-- ---- parts that may be missing, and lists

abbrev pub IfThere : {A : Type 0} → (A → Type 0) → Option A → Type 0
IfThere P None = ⊤
IfThere P (Some x) = P x

module _ (own : Own) {B : Type 0} (P : World → B → Type 0) where
  pub there_holds : {A : Type 0} (f : A → Run B) → ((x : A) → Kept (f x)) → ((x : A) → Holds own (λ w v b. P v b) (f x)) → (o : Option A) → Holds own (λ w v o. IfThere (P v) o) (walk.if_there f o)
  there_holds f kept h None = record { at = λ w g e. tt }
  there_holds f kept h (Some x) = record {
    at = λ w g.
        unbroken_then P (λ v o. IfThere (P v) o) w (f x w) (λ y. walk.pure (Some y)) ((kept x).at w) ((h x).at w g) (λ y. record { at = goes_refl }) (λ y v o i e. i);
  }

  module _ (stays : (w v : World) (b : B) → Goes w v → P w b → P v b) where
    all_stay : (w v : World) → Goes w v → (bs : List B) → AllByRecursion (P w) bs → AllByRecursion (P v) bs
    all_stay w v g [] h = tt
    all_stay w v g (b ∷ bs) h = (stays w v b g h.0, all_stay w v g bs h.1)

    one_more : (v : World) (bs : List B) (b : B) → AllByRecursion (P v) bs → P v b → AllByRecursion (P v) (bs ++ b ∷ [])
    one_more v [] b h k = (k, tt)
    one_more v (c ∷ bs) b h k = (h.0, one_more v bs b h.1 k)

    each_after_holds : {A : Type 0} (f : A → Going B) → ((x : A) → Holds own (λ w v b. P v b) (f x).run) → (v : World) (done : List B) (xs : List A) → Good own v → AllByRecursion (P v) done → Unbroken (λ u bs. AllByRecursion (P u) bs) (walk.each_after (λ x. (f x).run) done xs v)
    each_after_holds f h v done [] g all = λ e. all
    each_after_holds f h v done (x ∷ xs) g all =
        unbroken_then P (λ u bs. AllByRecursion (P u) bs) v ((f x).run v) (λ y. walk.each_after (λ x. (f x).run) (done ++ y ∷ []) xs)
        ((f x).kept.at v) ((h x).at v g) (λ y. each_after going f (done ++ y ∷ []) xs)
        (λ y u o i. each_after_holds f h u (done ++ y ∷ []) xs (o.good own g) (one_more u done y (all_stay v u o done all) i))

    pub each_holds : {A : Type 0} (f : A → Going B) → ((x : A) → Holds own (λ w v b. P v b) (f x).run) → (xs : List A) → Holds own (λ w v bs. AllByRecursion (P v) bs) (walk.each (λ x. (f x).run) xs)
    each_holds f h xs = record { at = λ w g. each_after_holds f h w [] xs g tt }
