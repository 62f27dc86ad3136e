-- Syncs and ends of images that carry a script are steps of the script.
use Rattle.std.proofs.Common.{◌≡◌, ◌≢◌, ℕ, suc, ◌+◌, ◌<◌, ◌≤◌, true, false, length, refl, sym, ap, ◌∙◌, subst, arith, true≢false, inl, inr}
use Rattle.std.proofs.lemmas.Bool.{cases_eq, lt-ltb, le-ltb}
use Rattle.xmp_script.specs.Script.{Script, at}
use Rattle.xmp_script.specs.World.{World, MayArrive, MayPass, arrivals, has_arrived, passed, Arrives, Passes, Reached, Then}
use Rattle.xmp_script.specs.Images.{Images, Standing, AtSync, AtEnd, peer, settled, does, takes}
use Rattle.xmp_script.specs.Carries.{own}
use Rattle.xmp_script.proofs.Words.{at_same, at_other}
use Rattle.xmp_script.proofs.Course.{Course, row_update, peer_other, peer_below, puts, took, puts_in, puts_out, took_out, took_not, runs, at_own}

pub settled_in : {S V : Type 0} (im : Images S V) (images next : ℕ) (x : S) → next < images →
    settled im images next x ≡ x
settled_in im images next x lt = rw (lt-ltb next images lt)

pub settled_out : {S V : Type 0} (im : Images S V) (images next : ℕ) (x : S) → images ≤ next →
    settled im images next x ≡ im.pass x
settled_out im images next x le = rw (le-ltb next images le)

-- ---- the queues

sync_queue_other : {S V : Type 0} (im : Images S V) (images : ℕ) (v : Standing S V) (k i j : ℕ) (x : S) → i ≢ k →
    (does im images v k x AtSync).queue i j ≡ v.queue i j
sync_queue_other im images v k i j x ne = grind arith

sync_queue_put : {S V : Type 0} (im : Images S V) (images : ℕ) (v : Standing S V) (k j : ℕ) (x : S) → j ≢ k →
    (does im images v k x AtSync).queue k j ≡ suc (v.queue k j)
sync_queue_put im images v k j x ne = grind arith

pub take_queue_other : {S V : Type 0} (im : Images S V) (images : ℕ) (v : Standing S V) (k rest i j : ℕ) → j ≢ k →
    (takes im images v k (suc rest)).queue i j ≡ v.queue i j
take_queue_other im images v k rest i j ne = grind arith

pub take_queue_another : {S V : Type 0} (im : Images S V) (images : ℕ) (v : Standing S V) (k rest i : ℕ) →
    i ≢ v.next k → (takes im images v k (suc rest)).queue i k ≡ v.queue i k
take_queue_another im images v k rest i ne = grind arith

pub take_queue_it : {S V : Type 0} (im : Images S V) (images : ℕ) (v : Standing S V) (k rest i : ℕ) → i ≡ v.next k →
    (takes im images v k (suc rest)).queue i k ≡ rest
take_queue_it im images v k rest i e = grind arith

first_peer : (k i : ℕ) → i ≢ k → peer k 0 ≤ i
first_peer k i ne = grind arith

-- image k puts its messages
sync_queue : {S V : Type 0} (im : Images S V) (s : Script V) (v : Standing S V) (w : World V) → Course im s v w →
    (k : ℕ) (x : S) → k < s.images → s.images ≤ v.next k → peer k 0 < s.images →
    (i j : ℕ) → i < s.images → j < s.images → i ≢ j →
    took s.images (w.phase j) (at v.next k (peer k 0) j) i + (does im s.images v k x AtSync).queue i j ≡ puts s.images (w.phase i) (at v.next k (peer k 0) i)
sync_queue im s v w c k x lk free some i j li lj ne = elim (cases_eq j k) [
  | inl e ↦
      let P : ℕ → Type 0 = λ y. i ≢ y → took s.images (w.phase y) (at v.next k (peer k 0) y) i + (does im s.images v k x AtSync).queue i y ≡ puts s.images (w.phase i) (at v.next k (peer k 0) i) in
      subst P (sym e) (λ nk.
      rw (at_same v.next k (peer k 0) k refl, at_other v.next k (peer k 0) i nk, sync_queue_other im s.images v k i k x nk, took_not s.images (w.phase k) (peer k 0) i (first_peer k i nk))
      (rw (took_out s.images (w.phase k) (v.next k) i free) at (c.queue i k li lk nk))) ne
  | inr nk ↦ elim (cases_eq i k) [
    | inl e ↦
        let P : ℕ → Type 0 = λ y. took s.images (w.phase j) (at v.next k (peer k 0) j) y + (does im s.images v k x AtSync).queue y j ≡ puts s.images (w.phase y) (at v.next k (peer k 0) y) in
        let was = c.queue k j lk lj (λ eq. nk (sym eq)) in
        let one = puts_out s.images (w.phase k) (v.next k) free in
        subst P (sym e) (
        rw (at_other v.next k (peer k 0) j nk, at_same v.next k (peer k 0) k refl, sync_queue_put im s.images v k j x nk, puts_in s.images (w.phase k) (peer k 0) some)
        (omega (arith, was, one)))
    | inr ni ↦ rw (at_other v.next k (peer k 0) j nk, at_other v.next k (peer k 0) i ni, sync_queue_other im s.images v k i j x ni) (c.queue i j li lj ne)
  ]
]

arrive_may : {S V : Type 0} (im : Images S V) (s : Script V) (v : Standing S V) (w : World V) → Course im s v w →
    (k : ℕ) → k < s.images → v.ended k ≡ false → s.images ≤ v.next k →
    w.place k ≡ length (s.accesses (w.phase k) k) → MayArrive s w k
arrive_may im s v w c k lk going free whole = let f = c.each k lk in (f.low, runs f going free, whole)

-- image k comes to a sync with others
pub sync_course : {S V : Type 0} (im : Images S V) (s : Script V) (v : Standing S V) (w : World V) → Reached s w →
    Course im s v w → (k : ℕ) → k < s.images → v.ended k ≡ false → s.images ≤ v.next k →
    w.place k ≡ length (s.accesses (w.phase k) k) → suc (w.phase k) < s.phases → peer k 0 < s.images →
    Reached s (has_arrived w k) × Course im s (does im s.images v k (im.go (v.state k)) AtSync) (has_arrived w k)
sync_course im s v w r c k lk going free whole more some =
    let f = c.each k lk in
    let x = im.go (v.state k) in
    let here : w.arrived k ≡ false = runs f going free in (
      Then r (Arrives k lk (arrive_may im s v w c k lk going free whole)),
      record {
        words = c.words;
        each = row_update im s v (does im s.images v k x AtSync) w (has_arrived w k) k c.each
            (λ j ne. record { state = at_other v.state k _ j ne; next = at_other v.next k _ j ne; ended = refl; phase = refl; place = refl; arrived = at_other w.arrived k _ j ne })
            (rw (at_same v.state k (settled im s.images (peer k 0) x) k refl, at_same v.next k (peer k 0) k refl, at_same w.arrived k true k refl) (record {
              state = settled_in im s.images (peer k 0) x some ∙ ap im.go (at_own f here);
              is = rw (going, lt-ltb (peer k 0) s.images some);
              below = peer_below k s.images lk 0 (omega arith);
              other = peer_other k 0;
              low = f.low;
              syncing = λ lt. (more, going);
              last = λ e. absurd (true≢false (sym e ∙ going));
              within = f.within;
              whole = λ e. whole;
            }));
        queue = sync_queue im s v w c k x lk free some;
      },
    )

-- image k comes to its end
pub end_course : {S V : Type 0} (im : Images S V) (s : Script V) (v : Standing S V) (w : World V) → Reached s w →
    Course im s v w → (k : ℕ) → k < s.images → v.ended k ≡ false → s.images ≤ v.next k →
    w.place k ≡ length (s.accesses (w.phase k) k) → suc (w.phase k) ≡ s.phases →
    Reached s (has_arrived w k) × Course im s (does im s.images v k (im.go (v.state k)) AtEnd) (has_arrived w k)
end_course im s v w r c k lk going free whole end =
    let f = c.each k lk in
    let x = im.go (v.state k) in
    let here : w.arrived k ≡ false = runs f going free in (
      Then r (Arrives k lk (arrive_may im s v w c k lk going free whole)),
      record {
        words = c.words;
        each = row_update im s v (does im s.images v k x AtEnd) w (has_arrived w k) k c.each
            (λ j ne. record { state = at_other v.state k _ j ne; next = refl; ended = at_other v.ended k _ j ne; phase = refl; place = refl; arrived = at_other w.arrived k _ j ne })
            (rw (at_same v.state k x k refl, at_same v.ended k true k refl, at_same w.arrived k true k refl) (record {
              state = ap im.go (at_own f here);
              is = refl;
              below = f.below;
              other = f.other;
              low = f.low;
              syncing = λ lt. absurd (omega arith);
              last = λ e. (end, (let h = f.below in omega arith));
              within = f.within;
              whole = λ e. whole;
            }));
        queue = c.queue;
      },
    )

-- the state behind a sync begins the next phase
pub passed_state : {S V : Type 0} (im : Images S V) (s : Script V) (k phase place : ℕ) (x : S) →
    place ≡ length (s.accesses phase k) → x ≡ im.go (own im s k phase place) → im.pass x ≡ own im s k (suc phase) 0
passed_state im s k phase place x whole e = ap im.pass (e ∙ ap (λ i. im.go (own im s k phase i)) whole)

-- image k, alone, comes to a sync
pub alone_course : {S V : Type 0} (im : Images S V) (s : Script V) (v : Standing S V) (w : World V) → Reached s w →
    Course im s v w → (k : ℕ) → k < s.images → v.ended k ≡ false → s.images ≤ v.next k →
    w.place k ≡ length (s.accesses (w.phase k) k) → suc (w.phase k) < s.phases → s.images ≤ peer k 0 →
    Reached s (passed (has_arrived w k) k) × Course im s (does im s.images v k (im.go (v.state k)) AtSync) (passed (has_arrived w k) k)
alone_course {S} {V} im s v w r c k lk going free whole more none =
    let f = c.each k lk in
    let x = im.go (v.state k) in
    let here : w.arrived k ≡ false = runs f going free in
    let itself : (j : ℕ) → j < s.images → j ≡ k = λ j lj. only k j s.images lk lj none in
    let may : MayPass s (has_arrived w k) k = (
      at_same w.arrived k true k refl,
      λ j lj. (let P : ℕ → Type 0 = λ y. w.phase k < arrivals (has_arrived w k) y in subst P (sym (itself j lj)) (rw (at_same w.arrived k true k refl) (omega arith))),
    ) in (
      Then (Then r (Arrives k lk (arrive_may im s v w c k lk going free whole))) (Passes k lk may),
      record {
        words = c.words;
        each = row_update im s v (does im s.images v k x AtSync) w (passed (has_arrived w k) k) k c.each
            (λ j ne. record {
              state = at_other v.state k _ j ne;
              next = at_other v.next k _ j ne;
              ended = refl;
              phase = at_other w.phase k _ j ne;
              place = at_other w.place k _ j ne;
              arrived = at_other (at w.arrived k true) k _ j ne ∙ at_other w.arrived k _ j ne;
            })
            (rw (
              at_same v.state k (settled im s.images (peer k 0) x) k refl,
              at_same v.next k (peer k 0) k refl,
              at_same w.phase k (suc (w.phase k)) k refl,
              at_same w.place k 0 k refl,
              at_same (at w.arrived k true) k false k refl,
            ) (record {
              state = settled_out im s.images (peer k 0) x none ∙ passed_state im s k (w.phase k) (w.place k) x whole (ap im.go (at_own f here));
              is = rw (going, le-ltb (peer k 0) s.images none);
              below = peer_below k s.images lk 0 (omega arith);
              other = peer_other k 0;
              low = more;
              syncing = λ lt. absurd (omega arith);
              last = λ e. absurd (true≢false (sym e ∙ going));
              within = omega arith;
              whole = λ e. absurd (true≢false (sym e));
            }));
        queue = λ i j li lj ne. absurd (ne (itself i li ∙ sym (itself j lj)));
      },
    )
  where
    only : (k j images : ℕ) → k < images → j < images → images ≤ peer k 0 → j ≡ k
    only k j images lk lj le = grind arith
