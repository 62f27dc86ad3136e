-- What each kind of tree makes of the copies, from what its parts do.
use Rattle.std.proofs.Common.{◌≡◌, ℕ, ◌+◌, ◌<◌, ◌≤◌, Bool, ◌||◌, List, [], ◌∷◌, ◌++◌, refl, sym, ap, ◌∙◌, subst, length, map, take, drop, get_or}
use Rattle.std.proofs.Math.Seq.{take-append_seam}
use Rattle.std.proofs.lemmas.List.{take_more, take_all}
use Rattle.xmp_paths.specs.NodeSets.{has}
use Rattle.xmp_paths.specs.Plans.{Plan, branch, in_order}
use Rattle.xmp_paths.specs.Flows.{plan_of}
use Rattle.xmp_paths.specs.May.{may_leave}
use Rattle.xmp_paths.specs.Copies.{set_of, set_before, put_at, change_now, may_be_stale, CarriesOver, Returns, ReturnsTo}
use Rattle.xmp_paths.proofs.TrailLaws.{put_now, set_returned}
use Rattle.xmp_paths.specs.declared.event.Event.{Event}
use Rattle.xmp_paths.specs.declared.event.Flow.{Flow}
use Rattle.xmp_paths.specs.declared.copies.Change.{Change}
use Rattle.xmp_paths.specs.declared.copies.Copies.{Copies}

-- ---- parts in order

carry_more : (object node : ℕ) (ps : List (Plan Event)) (q : Plan Event) (was : Bool) →
    may_leave object node (in_order (ps ++ q ∷ [])) was ≡ may_leave object node q (may_leave object node (in_order ps) was)
carry_more object node [] q was = refl
carry_more object node (p ∷ ps) q was = carry_more object node ps q (may_leave object node p was)

pub plans_more : (parts : List Flow) (k : ℕ) (d : Flow) → k < length parts →
    map plan_of (take (k + 1) parts) ≡ map plan_of (take k parts) ++ plan_of (get_or parts k d) ∷ []
plans_more parts k d h = ap (map plan_of) (take_more parts k d h) ∙ at (take k parts) (get_or parts k d)
  where
    at : (front : List Flow) (x : Flow) → map plan_of (front ++ x ∷ []) ≡ map plan_of front ++ plan_of x ∷ []
    at [] x = refl
    at (y ∷ front) x = ap (λ l. plan_of y ∷ l) (at front x)

pub carries_none : (c : Copies) → CarriesOver (in_order []) c c
carries_none c object node = refl

pub carries_more : (parts : List Flow) (k : ℕ) (d : Flow) (old mid new : Copies) → k < length parts →
    CarriesOver (in_order (map plan_of (take k parts))) old mid → CarriesOver (plan_of (get_or parts k d)) mid new →
    CarriesOver (in_order (map plan_of (take (k + 1) parts))) old new
carries_more parts k d old mid new h a b object node =
    b object node
    ∙ (ap (may_leave object node (plan_of (get_or parts k d))) (a object node)
    ∙ (sym (carry_more object node (map plan_of (take k parts)) (plan_of (get_or parts k d)) (may_be_stale old object node))
    ∙ ap (λ l. may_leave object node (in_order l) (may_be_stale old object node)) (sym (plans_more parts k d h))))

pub carries_all : (parts : List Flow) (k : ℕ) (old new : Copies) → length parts ≤ k →
    CarriesOver (in_order (map plan_of (take k parts))) old new → CarriesOver (in_order (map plan_of parts)) old new
carries_all parts k old new h c = subst (λ l. CarriesOver (in_order (map plan_of l)) old new) (take_all k parts h) c

-- ---- branches

-- copies that were brought back are those that there were
pub record Same (old new : Copies) : Type 0 where
  pub trail : new.trail ≡ old.trail
  pub sets : (object : ℕ) → set_of new object ≡ set_of old object

pub same_back : (old mid new : Copies) → Returns old mid → new.trail ≡ take (length old.trail) mid.trail →
    ((object : ℕ) → set_of new object ≡ set_before mid (length old.trail) object) → Same old new
same_back old mid new r t s = record {
  trail = t ∙ (ap (take (length old.trail)) r.grown ∙ take-append_seam old.trail r.more);
  sets = λ object. s object ∙ set_returned old mid r object;
}

same_stale : (old new : Copies) → Same old new → (object node : ℕ) → may_be_stale new object node ≡ may_be_stale old object node
same_stale old new s object node = ap (λ n. has n node) (s.sets object)

-- from the same copies the same
pub carries_same : (p : Plan Event) (old mid new : Copies) → Same old mid → CarriesOver p mid new → CarriesOver p old new
carries_same p old mid new s c object node = c object node ∙ ap (may_leave object node p) (same_stale old mid s object node)

pub returns_from : (old mid new : Copies) → Same old mid → Returns mid new → Returns old new
returns_from old mid new s r = record {
  more = r.more;
  grown = r.grown ∙ ap (λ t. t ++ r.more) s.trail;
  undone = λ object. r.undone object ∙ s.sets object;
}

-- where the trail had as many entries as at the start, there was what there was at the start
pub start_is : (old new : Copies) → Returns old new → (object : ℕ) → set_before new (length old.trail) object ≡ set_of old object
start_is = set_returned

pub returns_joined : (old right new : Copies) → Returns old right →
    ReturnsTo (take (length old.trail) right.trail) (set_before right (length old.trail)) new → Returns old new
returns_joined old right new r j = record {
  more = j.more;
  grown = j.grown ∙ ap (λ t. t ++ j.more) (ap (take (length old.trail)) r.grown ∙ take-append_seam old.trail r.more);
  undone = λ object. j.undone object ∙ set_returned old right r object;
}

-- what the left end is, put at the start
left_put : (old left : Copies) (changes : List Change) → Returns old left →
    changes ≡ map (change_now left) (drop (length old.trail) left.trail) → (object : ℕ) →
    put_at object changes (set_of old object) ≡ set_of left object
left_put old left changes r e object =
    ap (λ l. put_at object l (set_of old object)) e
    ∙ (ap (put_at object (map (change_now left) (drop (length old.trail) left.trail))) (sym (set_returned old left r object))
    ∙ put_now left object (drop (length old.trail) left.trail))

pub carries_branch : (p q : Plan Event) (old left back right new : Copies) (changes : List Change) →
    CarriesOver p old left → Returns old left → Same old back → CarriesOver q back right → Returns back right →
    changes ≡ map (change_now left) (drop (length old.trail) left.trail) →
    ((object node : ℕ) → may_be_stale new object node ≡ (has (put_at object changes (set_before right (length old.trail) object)) node || may_be_stale right object node)) →
    CarriesOver (branch p q) old new
carries_branch p q old left back right new changes a r s b t e j object node =
    j object node
    ∙ (ap (λ n. has (put_at object changes n) node || may_be_stale right object node)
    (set_returned old right (returns_from old back right s t) object)
    ∙ (ap (λ n. has n node || may_be_stale right object node) (left_put old left changes r e object)
    ∙ (ap (λ x. x || may_be_stale right object node) (a object node)
    ∙ ap (λ x. may_leave object node p (may_be_stale old object node) || x) (carries_same q old back right s b object node))))

-- a branch as the code goes through it, from where the trail had `start` entries
pub branch_end : (p q : Plan Event) (start : ℕ) (old left back right new : Copies) (changes : List Change) → start ≡ length old.trail →
    CarriesOver p old left → Returns old left → changes ≡ map (change_now left) (drop start left.trail) →
    ((object : ℕ) → set_of back object ≡ set_before left start object) → back.trail ≡ take start left.trail →
    CarriesOver q back right → Returns back right →
    ((object node : ℕ) → may_be_stale new object node ≡ (has (put_at object changes (set_before right start object)) node || may_be_stale right object node)) →
    CarriesOver (branch p q) old new
branch_end p q start old left back right new changes is a r e s t b u j =
    carries_branch p q old left back right new changes a r
    (same_back old left back r (t ∙ ap (λ n. take n left.trail) is) (λ object. s object ∙ ap (λ n. set_before left n object) is)) b u
    (e ∙ ap (λ n. map (change_now left) (drop n left.trail)) is)
    (λ object node. j object node ∙ ap (λ n. has (put_at object changes (set_before right n object)) node || may_be_stale right object node) is)

-- where the left end was undone, there is what there was at the start
pub branch_start : (start : ℕ) (old left back : Copies) → start ≡ length old.trail → Returns old left →
    ((object : ℕ) → set_of back object ≡ set_before left start object) → back.trail ≡ take start left.trail → Same old back
branch_start start old left back is r s t =
    same_back old left back r (t ∙ ap (λ n. take n left.trail) is) (λ object. s object ∙ ap (λ n. set_before left n object) is)
