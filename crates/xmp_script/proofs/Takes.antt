-- What an image takes at a sync lets it pass, as the script says, when all has come.
use Rattle.std.proofs.Common.{◌≡◌, ◌≢◌, ℕ, suc, ◌+◌, ◌<◌, ◌≤◌, true, false, refl, sym, ap, ◌∙◌, subst, arith, true≢false, inl, inr}
use Rattle.std.proofs.lemmas.Bool.{cases_eq, cases_lt, cases_Bool, lt-ltb, le-ltb}
use Rattle.xmp_script.specs.Script.{Script, at}
use Rattle.xmp_script.specs.World.{World, MayPass, arrivals, passed, Passes, Reached, Then}
use Rattle.xmp_script.specs.Images.{Images, Standing, peer, settled, takes}
use Rattle.xmp_script.proofs.Words.{at_same, at_other}
use Rattle.xmp_script.proofs.Course.{Course, row_update, peer_other, peer_below, puts, took, puts_in, puts_out, took_out, took_not, waits, at_stop}
use Rattle.xmp_script.proofs.Syncs.{settled_in, settled_out, take_queue_other, take_queue_another, take_queue_it, passed_state}

-- what image k took of i, as it takes one of its peer p
took_same : (images phase k p i : ℕ) → i ≢ k → i ≢ p → p < images → peer k (suc p) < images →
    took images phase (peer k (suc p)) i ≡ took images phase p i
took_same images phase k p i nk np lp ln = grind arith

took_more : (images phase k p : ℕ) → p ≢ k → peer k (suc p) < images → took images phase (peer k (suc p)) p ≡ suc phase
took_more images phase k p np ln = grind arith

-- what it took of all others, as it takes the last
took_last : (images phase k p i : ℕ) → i < images → i ≢ k → i ≢ p → p < images → images ≤ peer k (suc p) →
    took images phase p i ≡ suc phase
took_last images phase k p i li nk np lp le = grind arith

-- image k takes a message and awaits another
take_queue : {S V : Type 0} (im : Images S V) (s : Script V) (v : Standing S V) (w : World V) → Course im s v w →
    (k rest : ℕ) → k < s.images → v.next k < s.images →
    v.queue (v.next k) k ≡ suc rest → peer k (suc (v.next k)) < s.images → (i j : ℕ) → i < s.images → j < s.images →
    i ≢ j →
    took s.images (w.phase j) (at v.next k (peer k (suc (v.next k))) j) i + (takes im s.images v k (suc rest)).queue i j ≡ puts s.images (w.phase i) (at v.next k (peer k (suc (v.next k))) i)
take_queue {S} {V} im s v w c k rest lk waiting lies more i j li lj ne =
    let p : ℕ = v.next k in
    let next : ℕ = peer k (suc p) in
    let np : p ≢ k = (c.each k lk).other in
    let same : puts s.images (w.phase i) (at v.next k next i) ≡ puts s.images (w.phase i) (v.next i) = elim (cases_eq i k) [
      | inl e ↦
          let P : ℕ → Type 0 = λ y. puts s.images (w.phase y) (at v.next k next y) ≡ puts s.images (w.phase y) (v.next y) in
          subst P (sym e) (rw (at_same v.next k next k refl) (puts_in s.images (w.phase k) next more ∙ sym (puts_in s.images (w.phase k) p waiting)))
      | inr ni ↦ ap (puts s.images (w.phase i)) (at_other v.next k next i ni)
    ] in
    elim (cases_eq j k) [
      | inl e ↦
          let P : ℕ → Type 0 = λ y. i ≢ y → took s.images (w.phase y) (at v.next k next y) i + (takes im s.images v k (suc rest)).queue i y ≡ puts s.images (w.phase i) (at v.next k next i) in
          subst P (sym e) (λ nk. elim (cases_eq i p) [
            | inl is ↦
                let was = c.queue p k waiting lk np in
                let before = took_not s.images (w.phase k) p p (omega arith) in
                let Q : ℕ → Type 0 = λ y. took s.images (w.phase k) (at v.next k next k) y + (takes im s.images v k (suc rest)).queue y k ≡ puts s.images (w.phase y) (v.next y) in
                subst Q (sym is) (rw (at_same v.next k next k refl, took_more s.images (w.phase k) k p np more, take_queue_it im s.images v k rest p refl) (omega (arith, was, before, lies))) ∙ sym same
            | inr other ↦
                rw (at_same v.next k next k refl, took_same s.images (w.phase k) k p i nk other waiting more, take_queue_another im s.images v k rest i other) (c.queue i k li lk nk) ∙ sym same
          ]) ne
      | inr nj ↦ rw (at_other v.next k next j nj, take_queue_other im s.images v k rest i j nj) (c.queue i j li lj ne) ∙ sym same
    ]

-- image k takes the last message
last_queue : {S V : Type 0} (im : Images S V) (s : Script V) (v : Standing S V) (w : World V) → Course im s v w →
    (k rest : ℕ) → k < s.images → v.next k < s.images →
    v.queue (v.next k) k ≡ suc rest → s.images ≤ peer k (suc (v.next k)) → (i j : ℕ) → i < s.images → j < s.images →
    i ≢ j →
    took s.images (at w.phase k (suc (w.phase k)) j) (at v.next k (peer k (suc (v.next k))) j) i + (takes im s.images v k (suc rest)).queue i j
    ≡ puts s.images (at w.phase k (suc (w.phase k)) i) (at v.next k (peer k (suc (v.next k))) i)
last_queue {S} {V} im s v w c k rest lk waiting lies none i j li lj ne =
    let p : ℕ = v.next k in
    let next : ℕ = peer k (suc p) in
    let phase : ℕ → ℕ = at w.phase k (suc (w.phase k)) in
    let np : p ≢ k = (c.each k lk).other in
    let same : puts s.images (phase i) (at v.next k next i) ≡ puts s.images (w.phase i) (v.next i) = elim (cases_eq i k) [
      | inl e ↦
          let P : ℕ → Type 0 = λ y. puts s.images (at w.phase k (suc (w.phase k)) y) (at v.next k next y) ≡ puts s.images (w.phase y) (v.next y) in
          subst P (sym e) (rw (at_same v.next k next k refl, at_same w.phase k (suc (w.phase k)) k refl) (puts_out s.images (suc (w.phase k)) next none ∙ sym (puts_in s.images (w.phase k) p waiting)))
      | inr ni ↦ rw (at_other v.next k next i ni, at_other w.phase k (suc (w.phase k)) i ni) refl
    ] in
    elim (cases_eq j k) [
      | inl e ↦
          let P : ℕ → Type 0 = λ y. i ≢ y → took s.images (at w.phase k (suc (w.phase k)) y) (at v.next k next y) i + (takes im s.images v k (suc rest)).queue i y ≡ puts s.images (phase i) (at v.next k next i) in
          subst P (sym e) (λ nk. elim (cases_eq i p) [
            | inl is ↦
                let was = c.queue p k waiting lk np in
                let before = took_not s.images (w.phase k) p p (omega arith) in
                let Q : ℕ → Type 0 = λ y. took s.images (at w.phase k (suc (w.phase k)) k) (at v.next k next k) y + (takes im s.images v k (suc rest)).queue y k ≡ puts s.images (w.phase y) (v.next y) in
                subst Q (sym is) (
                rw (at_same v.next k next k refl, at_same w.phase k (suc (w.phase k)) k refl, took_out s.images (suc (w.phase k)) next p none, take_queue_it im s.images v k rest p refl)
                (omega (arith, was, before, lies))) ∙ sym same
            | inr other ↦
                let was = c.queue i k li lk nk in
                let before = took_last s.images (w.phase k) k p i li nk other waiting none in
                rw (at_same v.next k next k refl, at_same w.phase k (suc (w.phase k)) k refl, took_out s.images (suc (w.phase k)) next i none, take_queue_another im s.images v k rest i other)
                (omega (arith, was, before)) ∙ sym same
          ]) ne
      | inr nj ↦
          rw (at_other v.next k next j nj, at_other w.phase k (suc (w.phase k)) j nj, take_queue_other im s.images v k rest i j nj) (c.queue i j li lj ne) ∙ sym same
    ]

-- image k takes a message and awaits another
pub take_course : {S V : Type 0} (im : Images S V) (s : Script V) (v : Standing S V) (w : World V) → Course im s v w →
    (k rest : ℕ) → k < s.images → v.next k < s.images →
    v.queue (v.next k) k ≡ suc rest → peer k (suc (v.next k)) < s.images →
    Course im s (takes im s.images v k (suc rest)) w
take_course im s v w c k rest lk waiting lies more =
    let f = c.each k lk in
    let next = peer k (suc (v.next k)) in
    let there = waits f waiting in
    let going = f.syncing waiting in
    record {
      words = c.words;
      each = row_update im s v (takes im s.images v k (suc rest)) w w k c.each
          (λ j ne. record { state = at_other v.state k _ j ne; next = at_other v.next k _ j ne; ended = refl; phase = refl; place = refl; arrived = refl })
          (rw (at_same v.state k (settled im s.images next (v.state k)) k refl, at_same v.next k next k refl) (record {
            state = settled_in im s.images next (v.state k) more ∙ f.state;
            is = there ∙ rw (going.1, lt-ltb next s.images more) refl;
            below = peer_below k s.images lk (suc (v.next k)) waiting;
            other = peer_other k (suc (v.next k));
            low = f.low;
            syncing = λ lt. going;
            last = λ e. absurd (true≢false (sym e ∙ going.1));
            within = f.within;
            whole = f.whole;
          }));
      queue = take_queue im s v w c k rest lk waiting lies more;
    }

-- an image from which a message has come, or lies there, has arrived
puts_arrivals : {S V : Type 0} (im : Images S V) (s : Script V) (v : Standing S V) (w : World V) → Course im s v w →
    (j : ℕ) → j < s.images → puts s.images (w.phase j) (v.next j) ≤ arrivals w j
puts_arrivals im s v w c j lj = elim (cases_lt (v.next j) s.images) [
  | inl waiting ↦ rw (puts_in s.images (w.phase j) (v.next j) waiting, waits (c.each j lj) waiting) (omega arith)
  | inr free ↦ rw (puts_out s.images (w.phase j) (v.next j) free) (elim (cases_Bool (w.arrived j)) [ inl there ↦ rw there (omega arith) | inr away ↦ rw away (omega arith) ])
]

last_may : {S V : Type 0} (im : Images S V) (s : Script V) (v : Standing S V) (w : World V) → Course im s v w →
    (k rest : ℕ) → k < s.images → v.next k < s.images →
    v.queue (v.next k) k ≡ suc rest → s.images ≤ peer k (suc (v.next k)) → (j : ℕ) → j < s.images →
    w.phase k < arrivals w j
last_may {S} {V} im s v w c k rest lk waiting lies none j lj =
    let p : ℕ = v.next k in
    let np : p ≢ k = (c.each k lk).other in
    elim (cases_eq j k) [
      | inl e ↦ (let P : ℕ → Type 0 = λ y. w.phase k < arrivals w y in subst P (sym e) (rw (waits (c.each k lk) waiting) (omega arith)))
      | inr nk ↦
          let came = puts_arrivals im s v w c j lj in
          elim (cases_eq j p) [
            | inl is ↦
                let was = c.queue p k waiting lk np in
                let before = took_not s.images (w.phase k) p p (omega arith) in
                let Q : ℕ → Type 0 = λ y. puts s.images (w.phase y) (v.next y) ≤ arrivals w y → w.phase k < arrivals w y in
                subst Q (sym is) (λ h. omega (arith, was, before, lies, h)) came
            | inr other ↦
                let was = c.queue j k lj lk nk in
                let before = took_last s.images (w.phase k) k p j lj nk other waiting none in
                omega (arith, was, before, came)
          ]
    ]

-- image k takes the last message, and passes
pub last_course : {S V : Type 0} (im : Images S V) (s : Script V) (v : Standing S V) (w : World V) → Reached s w →
    Course im s v w → (k rest : ℕ) → k < s.images → v.next k < s.images →
    v.queue (v.next k) k ≡ suc rest → s.images ≤ peer k (suc (v.next k)) →
    Reached s (passed w k) × Course im s (takes im s.images v k (suc rest)) (passed w k)
last_course {S} {V} im s v w r c k rest lk waiting lies none =
    let f = c.each k lk in
    let next = peer k (suc (v.next k)) in
    let there : w.arrived k ≡ true = waits f waiting in
    let going = f.syncing waiting in
    let may : MayPass s w k = (there, last_may im s v w c k rest lk waiting lies none) in (
      Then r (Passes k lk may),
      record {
        words = c.words;
        each = row_update im s v (takes im s.images v k (suc rest)) w (passed w k) k c.each
            (λ j ne. record {
              state = at_other v.state k _ j ne;
              next = at_other v.next k _ j ne;
              ended = refl;
              phase = at_other w.phase k _ j ne;
              place = at_other w.place k _ j ne;
              arrived = at_other w.arrived k _ j ne;
            })
            (rw (
              at_same v.state k (settled im s.images next (v.state k)) k refl,
              at_same v.next k next k refl,
              at_same w.phase k (suc (w.phase k)) k refl,
              at_same w.place k 0 k refl,
              at_same w.arrived k false k refl,
            ) (record {
              state = settled_out im s.images next (v.state k) none ∙ passed_state im s k (w.phase k) (w.place k) (v.state k) (f.whole there) (at_stop f there);
              is = rw (going.1, le-ltb next s.images none);
              below = peer_below k s.images lk (suc (v.next k)) waiting;
              other = peer_other k (suc (v.next k));
              low = going.0;
              syncing = λ lt. absurd (omega arith);
              last = λ e. absurd (true≢false (sym e ∙ going.1));
              within = omega arith;
              whole = λ e. absurd (true≢false (sym e));
            }));
        queue = last_queue im s v w c k rest lk waiting lies none;
      },
    )
