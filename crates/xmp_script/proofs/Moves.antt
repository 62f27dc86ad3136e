-- A move of an image that carries a script is some steps of the script, and brings the images further.
use Rattle.std.proofs.Common.{◌≡◌, ◌≢◌, ℕ, zero, suc, ◌+◌, ◌<◌, ◌≤◌, Bool, true, false, nat_lt, if◌then◌else◌, List, [], ◌∷◌, length, slice_get, Option, Some, None, refl, sym, ap, ◌∙◌, subst, arith, inl, inr}
use Rattle.std.proofs.lemmas.Bool.{cases_eq, cases_lt, cases_Bool, lt-ltb, le-ltb}
use Rattle.xmp_script.specs.Script.{Access, Script, at}
use Rattle.xmp_script.specs.World.{World, accessed, has_arrived, passed, Reached}
use Rattle.xmp_orders.specs.Movers.{Stepped, NotYet, AlreadyEnded}
use Rattle.xmp_script.specs.Images.{Images, Standing, Stand, AtAccess, AtSync, AtEnd, peer, does, takes, moved, found, answer}
use Rattle.xmp_script.specs.Carries.{own, AllCarry}
use Rattle.xmp_script.specs.Bounds.{sum_below, moves_below}
use Rattle.xmp_script.proofs.Words.{at_same, at_other}
use Rattle.xmp_script.proofs.Course.{Course, SameRow, runs, at_own, waits, access_course}
use Rattle.xmp_script.proofs.Syncs.{sync_course, alone_course, end_course}
use Rattle.xmp_script.proofs.Takes.{take_course, last_course}

-- ---- how far the images have come

abbrev pub far : {V : Type 0} → Script V → ℕ → ℕ → ℕ → ℕ → Bool → ℕ
far s k phase place next ended = moves_below s k phase + place + (if nat_lt next s.images then suc next else 0) + (if ended then 1 else 0)

abbrev pub far_of : {S V : Type 0} → Script V → Standing S V → World V → ℕ → ℕ
far_of s v w k = far s k (w.phase k) (w.place k) (v.next k) (v.ended k)

abbrev pub effort : {S V : Type 0} → Script V → Standing S V → World V → ℕ
effort s v w = sum_below (far_of s v w) s.images

sum_same : (f g : ℕ → ℕ) (c : ℕ) → ((j : ℕ) → j < c → g j ≡ f j) → sum_below g c ≡ sum_below f c
sum_same f g zero same = refl
sum_same f g (suc c) same = let h = sum_same f g c (λ j lj. same j (omega arith)) in let h' = same c (omega arith) in omega arith

sum_rises : (f g : ℕ → ℕ) (k c : ℕ) → k < c → f k < g k → ((j : ℕ) → j ≢ k → g j ≡ f j) → sum_below f c < sum_below g c
sum_rises f g k zero lt more same = absurd (omega arith)
sum_rises f g k (suc c) lt more same = elim (cases_eq c k) [
  | inl e ↦
      let P : ℕ → Type 0 = λ x. sum_below f x + f x < sum_below g x + g x in
      let h = sum_same f g k (λ j lj. same j (omega arith)) in subst P (sym e) (omega arith)
  | inr ne ↦ let h = sum_rises f g k c (omega arith) more same in let h' = same c ne in omega arith
]

pub sum_most : (f g : ℕ → ℕ) (c : ℕ) → ((j : ℕ) → j < c → f j ≤ g j) → sum_below f c ≤ sum_below g c
sum_most f g zero le = omega arith
sum_most f g (suc c) le = let h = sum_most f g c (λ j lj. le j (omega arith)) in let h' = le c (omega arith) in omega arith

effort_rises : {S V : Type 0} (s : Script V) (v u : Standing S V) (w z : World V) (k : ℕ) → k < s.images →
    ((j : ℕ) → j ≢ k → SameRow v u w z j) → far_of s v w k < far_of s u z k → effort s v w < effort s u z
effort_rises s v u w z k lk others more =
    sum_rises (far_of s v w) (far_of s u z) k s.images lk more (λ j ne. let o = others j ne in rw (o.next, o.ended, o.phase, o.place) refl)

far_access : {V : Type 0} (s : Script V) (k phase place next : ℕ) (ended : Bool) →
    far s k phase place next ended < far s k phase (suc place) next ended
far_access s k phase place next ended = omega arith

far_sync : {V : Type 0} (s : Script V) (k phase place next peer : ℕ) (ended : Bool) → s.images ≤ next →
    peer < s.images → far s k phase place next ended < far s k phase place peer ended
far_sync s k phase place next peer ended free some = rw (le-ltb next s.images free, lt-ltb peer s.images some) (omega arith)

far_end : {V : Type 0} (s : Script V) (k phase place next : ℕ) →
    far s k phase place next false < far s k phase place next true
far_end s k phase place next = omega arith

far_take : {V : Type 0} (s : Script V) (k phase place next after : ℕ) (ended : Bool) → next < after → after < s.images →
    far s k phase place next ended < far s k phase place after ended
far_take s k phase place next after ended less some = rw (lt-ltb next s.images (omega arith), lt-ltb after s.images some) (omega arith)

far_pass : {V : Type 0} (s : Script V) (k phase place next after : ℕ) (ended : Bool) →
    place ≡ length (s.accesses phase k) → s.images ≤ after →
    far s k phase place next ended < far s k (suc phase) 0 after ended
far_pass s k phase place next after ended whole none = elim (cases_lt next s.images) [
  | inl waiting ↦ rw (lt-ltb next s.images waiting, le-ltb after s.images none) (omega (arith, whole))
  | inr free ↦ rw (le-ltb next s.images free, le-ltb after s.images none) (omega (arith, whole))
]

next_more : (k i : ℕ) → i < peer k (suc i)
next_more k i = grind arith

-- ---- the moves

-- after a move the images stand as in a world that the script's steps come to, and further on
pub record Onward {S V : Type 0} (im : Images S V) (s : Script V) (v u : Standing S V) (w : World V) (z : World V) : Type 0 where
  pub reached : Reached s z
  pub course : Course im s u z
  pub further : effort s v w < effort s u z

pub get_none : {A : Type 0} (l : List A) (i : ℕ) → slice_get l i ≡ None → length l ≤ i
get_none [] i e = omega arith
get_none (x ∷ l) zero e = absurd (let h : Some x ≡ None = e in (cc))
get_none (x ∷ l) (suc i) e = let h = get_none l i e in omega arith

access_onward : {S V : Type 0} (im : Images S V) (s : Script V) → AllCarry im s → (v : Standing S V) (w : World V) →
    Reached s w → Course im s v w → (k : ℕ) → k < s.images →
    v.ended k ≡ false → s.images ≤ v.next k → (a : Access V) →
    slice_get (s.accesses (w.phase k) k) (w.place k) ≡ Some a →
    Onward im s v (does im s.images v k (im.go (v.state k)) (AtAccess a)) w (accessed w k a)
access_onward im s carry v w r c k lk going free a at-place =
    let m = access_course im s carry v w r c k lk going free a at-place in
    record {
      reached = m.0;
      course = m.1;
      further = effort_rises s v (does im s.images v k (im.go (v.state k)) (AtAccess a)) w (accessed w k a) k lk
          (λ j ne. record { state = at_other v.state k _ j ne; next = refl; ended = refl; phase = refl; place = at_other w.place k _ j ne; arrived = refl })
          (rw (at_same w.place k (suc (w.place k)) k refl) (far_access s k (w.phase k) (w.place k) (v.next k) (v.ended k)));
    }

sync_onward : {S V : Type 0} (im : Images S V) (s : Script V) (v : Standing S V) (w : World V) → Reached s w →
    Course im s v w → (k : ℕ) → k < s.images → v.ended k ≡ false → s.images ≤ v.next k →
    w.place k ≡ length (s.accesses (w.phase k) k) → suc (w.phase k) < s.phases → peer k 0 < s.images →
    Onward im s v (does im s.images v k (im.go (v.state k)) AtSync) w (has_arrived w k)
sync_onward im s v w r c k lk going free whole more some =
    let m = sync_course im s v w r c k lk going free whole more some in
    record {
      reached = m.0;
      course = m.1;
      further = effort_rises s v (does im s.images v k (im.go (v.state k)) AtSync) w (has_arrived w k) k lk
          (λ j ne. record { state = at_other v.state k _ j ne; next = at_other v.next k _ j ne; ended = refl; phase = refl; place = refl; arrived = at_other w.arrived k _ j ne })
          (rw (at_same v.next k (peer k 0) k refl) (far_sync s k (w.phase k) (w.place k) (v.next k) (peer k 0) (v.ended k) free some));
    }

alone_onward : {S V : Type 0} (im : Images S V) (s : Script V) (v : Standing S V) (w : World V) → Reached s w →
    Course im s v w → (k : ℕ) → k < s.images → v.ended k ≡ false → s.images ≤ v.next k →
    w.place k ≡ length (s.accesses (w.phase k) k) → suc (w.phase k) < s.phases → s.images ≤ peer k 0 →
    Onward im s v (does im s.images v k (im.go (v.state k)) AtSync) w (passed (has_arrived w k) k)
alone_onward im s v w r c k lk going free whole more none =
    let m = alone_course im s v w r c k lk going free whole more none in
    record {
      reached = m.0;
      course = m.1;
      further = effort_rises s v (does im s.images v k (im.go (v.state k)) AtSync) w (passed (has_arrived w k) k) k lk
          (λ j ne. record {
            state = at_other v.state k _ j ne;
            next = at_other v.next k _ j ne;
            ended = refl;
            phase = at_other w.phase k _ j ne;
            place = at_other w.place k _ j ne;
            arrived = at_other (at w.arrived k true) k _ j ne ∙ at_other w.arrived k _ j ne;
          })
          (rw (at_same v.next k (peer k 0) k refl, at_same w.phase k (suc (w.phase k)) k refl, at_same w.place k 0 k refl)
          (far_pass s k (w.phase k) (w.place k) (v.next k) (peer k 0) (v.ended k) whole none));
    }

end_onward : {S V : Type 0} (im : Images S V) (s : Script V) (v : Standing S V) (w : World V) → Reached s w →
    Course im s v w → (k : ℕ) → k < s.images → v.ended k ≡ false → s.images ≤ v.next k →
    w.place k ≡ length (s.accesses (w.phase k) k) → suc (w.phase k) ≡ s.phases →
    Onward im s v (does im s.images v k (im.go (v.state k)) AtEnd) w (has_arrived w k)
end_onward im s v w r c k lk going free whole end =
    let m = end_course im s v w r c k lk going free whole end in
    record {
      reached = m.0;
      course = m.1;
      further = effort_rises s v (does im s.images v k (im.go (v.state k)) AtEnd) w (has_arrived w k) k lk
          (λ j ne. record { state = at_other v.state k _ j ne; next = refl; ended = at_other v.ended k _ j ne; phase = refl; place = refl; arrived = at_other w.arrived k _ j ne })
          (rw (at_same v.ended k true k refl, going) (far_end s k (w.phase k) (w.place k) (v.next k)));
    }

take_onward : {S V : Type 0} (im : Images S V) (s : Script V) (v : Standing S V) (w : World V) → Reached s w →
    Course im s v w → (k rest : ℕ) → k < s.images → v.next k < s.images →
    v.queue (v.next k) k ≡ suc rest → peer k (suc (v.next k)) < s.images →
    Onward im s v (takes im s.images v k (suc rest)) w w
take_onward im s v w r c k rest lk waiting lies more = record {
  reached = r;
  course = take_course im s v w c k rest lk waiting lies more;
  further = effort_rises s v (takes im s.images v k (suc rest)) w w k lk
      (λ j ne. record { state = at_other v.state k _ j ne; next = at_other v.next k _ j ne; ended = refl; phase = refl; place = refl; arrived = refl })
      (rw (at_same v.next k (peer k (suc (v.next k))) k refl) (far_take s k (w.phase k) (w.place k) (v.next k) (peer k (suc (v.next k))) (v.ended k) (next_more k (v.next k)) more));
}

last_onward : {S V : Type 0} (im : Images S V) (s : Script V) (v : Standing S V) (w : World V) → Reached s w →
    Course im s v w → (k rest : ℕ) → k < s.images → v.next k < s.images →
    v.queue (v.next k) k ≡ suc rest → s.images ≤ peer k (suc (v.next k)) →
    Onward im s v (takes im s.images v k (suc rest)) w (passed w k)
last_onward im s v w r c k rest lk waiting lies none =
    let f = c.each k lk in
    let m = last_course im s v w r c k rest lk waiting lies none in
    record {
      reached = m.0;
      course = m.1;
      further = effort_rises s v (takes im s.images v k (suc rest)) w (passed w k) k lk
          (λ j ne. record {
            state = at_other v.state k _ j ne;
            next = at_other v.next k _ j ne;
            ended = refl;
            phase = at_other w.phase k _ j ne;
            place = at_other w.place k _ j ne;
            arrived = at_other w.arrived k _ j ne;
          })
          (rw (at_same v.next k (peer k (suc (v.next k))) k refl, at_same w.phase k (suc (w.phase k)) k refl, at_same w.place k 0 k refl)
          (far_pass s k (w.phase k) (w.place k) (v.next k) (peer k (suc (v.next k))) (v.ended k) (f.whole (waits f waiting)) none));
    }

-- what an image that runs comes to
pub stand_is : {S V : Type 0} (im : Images S V) (s : Script V) (v : Standing S V) (w : World V) → Course im s v w →
    (k : ℕ) → k < s.images → v.ended k ≡ false → s.images ≤ v.next k →
    im.stands (im.go (v.state k)) ≡ im.stands (im.go (own im s k (w.phase k) (w.place k)))
stand_is im s v w c k lk going free = let f = c.each k lk in ap (λ x. im.stands (im.go x)) (at_own f (runs f going free))

runs_onward : {S V : Type 0} (im : Images S V) (s : Script V) → AllCarry im s → (v : Standing S V) (w : World V) →
    Reached s w → Course im s v w → (k : ℕ) → k < s.images →
    v.ended k ≡ false → s.images ≤ v.next k → (o : Option (Access V)) →
    slice_get (s.accesses (w.phase k) k) (w.place k) ≡ o →
    (z : World V) × Onward im s v (does im s.images v k (im.go (v.state k)) (im.stands (im.go (v.state k)))) w z
runs_onward {S} {V} im s carry v w r c k lk going free (Some a) at-place =
    let f = c.each k lk in
    let P : Stand V → Type 0 = λ st. (z : World V) × Onward im s v (does im s.images v k (im.go (v.state k)) st) w z in
    subst P (sym (stand_is im s v w c k lk going free ∙ (carry.each k lk).accesses (w.phase k) (w.place k) a f.low at-place))
    (accessed w k a, access_onward im s carry v w r c k lk going free a at-place)
runs_onward {S} {V} im s carry v w r c k lk going free None at-place =
    let f = c.each k lk in
    let P : Stand V → Type 0 = λ st. (z : World V) × Onward im s v (does im s.images v k (im.go (v.state k)) st) w z in
    let long = get_none (s.accesses (w.phase k) k) (w.place k) at-place in
    let whole : w.place k ≡ length (s.accesses (w.phase k) k) = omega (arith, f.within, long) in
    let st = stand_is im s v w c k lk going free ∙ ap (λ i. im.stands (im.go (own im s k (w.phase k) i))) whole in
    elim (cases_lt (suc (w.phase k)) s.phases) [
      | inl more ↦
          subst P (sym (st ∙ (carry.each k lk).syncs (w.phase k) more)) (elim (cases_lt (peer k 0) s.images) [
            | inl some ↦ (has_arrived w k, sync_onward im s v w r c k lk going free whole more some)
            | inr none ↦ (passed (has_arrived w k) k, alone_onward im s v w r c k lk going free whole more none)
          ])
      | inr least ↦
          let end : suc (w.phase k) ≡ s.phases = omega (arith, f.low) in
          subst P (sym (st ∙ (carry.each k lk).ends (w.phase k) end)) (has_arrived w k, end_onward im s v w r c k lk going free whole end)
    ]

takes_onward : {S V : Type 0} (im : Images S V) (s : Script V) (v : Standing S V) (w : World V) → Reached s w →
    Course im s v w → (k : ℕ) → k < s.images → v.next k < s.images →
    (items : ℕ) → v.queue (v.next k) k ≡ items → found items ≡ Stepped →
    (z : World V) × Onward im s v (takes im s.images v k items) w z
takes_onward im s v w r c k lk waiting zero lies step = absurd (let h : NotYet ≡ Stepped = step in (cc))
takes_onward im s v w r c k lk waiting (suc rest) lies step = elim (cases_lt (peer k (suc (v.next k))) s.images) [
  | inl more ↦ (w, take_onward im s v w r c k rest lk waiting lies more)
  | inr none ↦ (passed w k, last_onward im s v w r c k rest lk waiting lies none)
]

pub answer_ended : {S V : Type 0} (images : ℕ) (v : Standing S V) (k : ℕ) → v.ended k ≡ true →
    answer images v k ≡ AlreadyEnded
answer_ended images v k e = rw e

pub answer_runs : {S V : Type 0} (images : ℕ) (v : Standing S V) (k : ℕ) → v.ended k ≡ false → images ≤ v.next k →
    answer images v k ≡ Stepped
answer_runs images v k e free = rw (e, le-ltb (v.next k) images free)

pub answer_waits : {S V : Type 0} (images : ℕ) (v : Standing S V) (k : ℕ) → v.ended k ≡ false → v.next k < images →
    answer images v k ≡ found (v.queue (v.next k) k)
answer_waits images v k e waiting = rw (e, lt-ltb (v.next k) images waiting)

-- a move that is a step
pub stepped : {S V : Type 0} (im : Images S V) (s : Script V) → AllCarry im s → (v : Standing S V) (w : World V) →
    Reached s w → Course im s v w → (k : ℕ) → k < s.images → answer s.images v k ≡ Stepped →
    (z : World V) × Onward im s v (moved im s.images v k) w z
stepped {S} {V} im s carry v w r c k lk step = elim (cases_Bool (v.ended k)) [
  | inl over ↦ absurd (let h : AlreadyEnded ≡ Stepped = sym (answer_ended s.images v k over) ∙ step in (cc))
  | inr going ↦ elim (cases_lt (v.next k) s.images) [
    | inl waiting ↦
        rw (going, lt-ltb (v.next k) s.images waiting)
        (takes_onward im s v w r c k lk waiting (v.queue (v.next k) k) refl (sym (answer_waits s.images v k going waiting) ∙ step))
    | inr free ↦
        rw (going, le-ltb (v.next k) s.images free)
        (runs_onward im s carry v w r c k lk going free (slice_get (s.accesses (w.phase k) k) (w.place k)) refl)
  ]
]

takes_nothing : {S V : Type 0} (im : Images S V) (images : ℕ) (v : Standing S V) (k items : ℕ) → found items ≢ Stepped →
    takes im images v k items ≡ v
takes_nothing im images v k zero no-step = refl
takes_nothing im images v k (suc rest) no-step = absurd (no-step refl)

-- a move that is none
pub stays : {S V : Type 0} (im : Images S V) (images : ℕ) (v : Standing S V) (k : ℕ) → answer images v k ≢ Stepped →
    moved im images v k ≡ v
stays im images v k no-step = elim (cases_Bool (v.ended k)) [
  | inl over ↦ rw over
  | inr going ↦ elim (cases_lt (v.next k) images) [
    | inl waiting ↦ rw (going, lt-ltb (v.next k) images waiting) (takes_nothing im images v k (v.queue (v.next k) k) (λ e. no-step (answer_waits images v k going waiting ∙ e)))
    | inr free ↦ absurd (no-step (answer_runs images v k going free))
  ]
]
