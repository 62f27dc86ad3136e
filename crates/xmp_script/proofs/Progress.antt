-- While not all images have ended some image can move, and where all have, they stand in one way.
use Rattle.std.proofs.Common.{◌≡◌, ◌≢◌, ℕ, zero, suc, ◌-◌, ◌<◌, ◌≤◌, Bool, true, false, ◌||◌, nat_lt, length, slice_get, Option, Some, None, refl, sym, ap, ◌∙◌, subst, arith, true≢false, eq-or-lt_of_le, le_refl, ◌⊎◌, inl, inr}
use Rattle.std.proofs.lemmas.Bool.{cases_lt, cases_Bool, lt-ltb, le-ltb}
use Rattle.xmp_script.specs.Script.{Access, Get, Script, seen, words_at}
use Rattle.xmp_script.specs.World.{World, start, MayAccess, arrivals, Reached}
use Rattle.xmp_orders.specs.Movers.{Stepped, AlreadyEnded, AllEnded}
use Rattle.xmp_script.specs.Images.{Images, Standing, AtAccess, AtSync, AtEnd, begun, found, answer, movers}
use Rattle.xmp_script.specs.Carries.{own, AllCarry, StandsAs}
use Rattle.xmp_script.specs.Bounds.{moves_below, most_steps}
use Rattle.xmp_script.proofs.Orders.{gets_see, done_words}
use Rattle.xmp_script.proofs.Course.{Stands, Course, puts, puts_in, puts_out, took_out, took_not, runs, waits, at_stop}
use Rattle.xmp_script.proofs.Moves.{far_of, effort, sum_most, get_none, stand_is, answer_ended, answer_runs, answer_waits}

-- ---- the beginning

pub begun_course : {S V : Type 0} (im : Images S V) (s : Script V) → AllCarry im s →
    Course im s (begun im s.images s.start) (start s)
begun_course im s carry = record {
  words = λ e. refl;
  each = λ k lk. record {
    state = refl;
    is = rw (le-ltb s.images s.images (le_refl s.images)) refl;
    below = le_refl s.images;
    other = λ e. omega arith;
    low = carry.phases;
    syncing = λ lt. absurd (omega arith);
    last = λ e. absurd (true≢false (sym e));
    within = omega arith;
    whole = λ e. absurd (true≢false (sym e));
  };
  queue = λ i k li lk ne. rw (took_out s.images 0 s.images i (le_refl s.images), puts_out s.images 0 s.images (le_refl s.images)) refl;
}

-- ---- what stands

neither : (a b : Bool) → false ≡ (a || b) → (a ≡ false) × (b ≡ false)
neither true b e = absurd (true≢false (sym e))
neither false true e = absurd (true≢false (sym e))
neither false false e = (refl, refl)

one_of : (a b : Bool) → true ≡ (a || b) → (a ≡ true) ⊎ (b ≡ true)
one_of true b e = inl refl
one_of false true e = inr refl
one_of false false e = absurd (true≢false e)

running :
    {S V : Type 0} {im : Images S V} {s : Script V} {k : ℕ} {x : S} {next : ℕ} {ended : Bool} {phase place : ℕ} {arrived : Bool} →
    Stands im s k x next ended phase place arrived →
    arrived ≡ false → (ended ≡ false) × (s.images ≤ next)
running {s} {next} {ended} f e =
    let both = neither ended (nat_lt next s.images) (sym e ∙ f.is) in
    (both.0, elim (cases_lt next s.images) [ inl lt ↦ absurd (true≢false (sym (lt-ltb next s.images lt) ∙ both.1)) | inr le ↦ le ])

access_is : {V : Type 0} (a b : Access V) → AtAccess a ≡ AtAccess b → a ≡ b
access_is a b e = cc

sync_none : {V : Type 0} (a : Access V) → AtSync ≡ AtAccess a → ⊥
sync_none a e = cc

end_none : {V : Type 0} (a : Access V) → AtEnd ≡ AtAccess a → ⊥
end_none a e = cc

-- an image that stands at a get is about to find what it sees
gets_find : {S V : Type 0} (im : Images S V) (s : Script V) → AllCarry im s → (v : Standing S V) (w : World V) →
    Reached s w → Course im s v w → (k e : ℕ) → k < s.images →
    w.arrived k ≡ false → im.stands (im.go (v.state k)) ≡ AtAccess (Get e) → (o : Option (Access V)) →
    slice_get (s.accesses (w.phase k) k) (w.place k) ≡ o →
    v.words e ≡ seen s k (w.phase k) (w.place k) e
gets_find {S} {V} im s carry v w r c k e lk here stands (Some a) at-place =
    let f = c.each k lk in
    let free = running f here in
    let is : a ≡ Get e = access_is a (Get e) (sym (stand_is im s v w c k lk free.0 free.1 ∙ (carry.each k lk).accesses (w.phase k) (w.place k) a f.low at-place) ∙ stands) in
    let may : MayAccess s w k a = (f.low, here, at-place) in
    let P : Access V → Type 0 = λ b. MayAccess s w k b in
    c.words e ∙ gets_see s w k e carry.free r lk (subst P is may)
gets_find {S} {V} im s carry v w r c k e lk here stands None at-place =
    let f = c.each k lk in
    let free = running f here in
    let long = get_none (s.accesses (w.phase k) k) (w.place k) at-place in
    let whole : w.place k ≡ length (s.accesses (w.phase k) k) = omega (arith, f.within, long) in
    let st = stand_is im s v w c k lk free.0 free.1 ∙ ap (λ i. im.stands (im.go (own im s k (w.phase k) i))) whole in
    elim (cases_lt (suc (w.phase k)) s.phases) [
      | inl more ↦ absurd (sync_none (Get e) (sym (st ∙ (carry.each k lk).syncs (w.phase k) more) ∙ stands))
      | inr least ↦ absurd (end_none (Get e) (sym (st ∙ (carry.each k lk).ends (w.phase k) (omega (arith, f.low))) ∙ stands))
    ]

pub stands_as : {S V : Type 0} (im : Images S V) (s : Script V) → AllCarry im s → (v : Standing S V) (w : World V) →
    Reached s w → Course im s v w → StandsAs im s v w
stands_as im s carry v w r c = record {
  words = c.words;
  state = λ k lk. (c.each k lk).state;
  arrived = λ k lk e. elim (one_of (v.ended k) (nat_lt (v.next k) s.images) (sym e ∙ (c.each k lk).is)) [
    | inl over ↦ inl over
    | inr waiting ↦ inr (elim (cases_lt (v.next k) s.images) [ inl lt ↦ lt | inr le ↦ absurd (true≢false (sym waiting ∙ le-ltb (v.next k) s.images le)) ])
  ];
  running = λ k lk e. running (c.each k lk) e;
  gets = λ k e lk here stands. gets_find im s carry v w r c k e lk here stands (slice_get (s.accesses (w.phase k) k) (w.place k)) refl;
}

-- ---- progress

least : (f : ℕ → ℕ) (count : ℕ) → (k : ℕ) × (k < suc count) × ((j : ℕ) → j < suc count → f k ≤ f j)
least f zero = (0, omega arith, λ j lj. let e : j ≡ 0 = omega arith in rw e (le_refl (f 0)))
least f (suc c) =
    let rec = least f c in
    elim (cases_lt (f (suc c)) (f rec.0)) [
      | inl less ↦ (
        suc c,
        omega arith,
        λ j lj. elim (eq-or-lt_of_le lj) [
          | inl e ↦ (let e' : j ≡ suc c = omega arith in rw e' (le_refl (f (suc c))))
          | inr below ↦ (let h = rec.2 j (omega arith) in omega arith)
        ],
      )
      | inr other ↦ (
        rec.0,
        omega (arith, rec.1),
        λ j lj. elim (eq-or-lt_of_le lj) [
          | inl e ↦ (let e' : j ≡ suc c = omega arith in rw e' other)
          | inr below ↦ rec.2 j (omega arith)
        ],
      )
    ]

arrivals_yes : {V : Type 0} (w : World V) (k : ℕ) → w.arrived k ≡ true → arrivals w k ≡ suc (w.phase k)
arrivals_yes w k e = rw e

arrivals_not : {V : Type 0} (w : World V) (k : ℕ) → w.arrived k ≡ false → arrivals w k ≡ w.phase k
arrivals_not w k e = rw e

over_arrived :
    {S V : Type 0} {im : Images S V} {s : Script V} {k : ℕ} {x : S} {next : ℕ} {ended : Bool} {phase place : ℕ} {arrived : Bool} →
    Stands im s k x next ended phase place arrived →
    ended ≡ true → arrived ≡ true
over_arrived f e = f.is ∙ rw e refl

-- an image that has arrived as often as there are phases has ended
most_over : {S V : Type 0} (im : Images S V) (s : Script V) (v : Standing S V) (w : World V) → Course im s v w →
    (j : ℕ) → j < s.images → s.phases ≤ arrivals w j → v.ended j ≡ true
most_over im s v w c j lj most =
    let f = c.each j lj in
    elim (cases_Bool (w.arrived j)) [
      | inl there ↦ elim (one_of (v.ended j) (nat_lt (v.next j) s.images) (sym there ∙ f.is)) [
        | inl over ↦ over
        | inr waiting ↦ elim (cases_lt (v.next j) s.images) [
          | inl lt ↦ (let more = (f.syncing lt).0 in let a = arrivals_yes w j there in absurd (omega arith))
          | inr le ↦ absurd (true≢false (sym waiting ∙ le-ltb (v.next j) s.images le))
        ]
      ]
      | inr away ↦ (let low = f.low in let a = arrivals_not w j away in absurd (omega arith))
    ]

-- an image has put as many messages as it has arrived, but for its end
puts_enough : {S V : Type 0} (im : Images S V) (s : Script V) (v : Standing S V) (w : World V) → Course im s v w →
    (p n : ℕ) → p < s.images → n ≤ arrivals w p → n < s.phases → n ≤ puts s.images (w.phase p) (v.next p)
puts_enough im s v w c p n lp le less =
    let f = c.each p lp in
    elim (cases_lt (v.next p) s.images) [
      | inl waiting ↦ (let a = arrivals_yes w p (waits f waiting) in let b = puts_in s.images (w.phase p) (v.next p) waiting in omega arith)
      | inr free ↦
          let b = puts_out s.images (w.phase p) (v.next p) free in
          elim (cases_Bool (v.ended p)) [
            | inl over ↦ (let a = arrivals_yes w p (over_arrived f over) in let end = (f.last over).0 in omega arith)
            | inr going ↦ (let a = arrivals_not w p (runs f going free) in omega arith)
          ]
    ]

found_some : (items : ℕ) → 0 < items → found items ≡ Stepped
found_some zero lt = absurd (omega arith)
found_some (suc rest) lt = refl

-- what an image awaits that has arrived least is there
least_found : {S V : Type 0} (im : Images S V) (s : Script V) (v : Standing S V) (w : World V) → Course im s v w →
    (k : ℕ) → k < s.images → v.next k < s.images →
    ((j : ℕ) → j < s.images → arrivals w k ≤ arrivals w j) → 0 < v.queue (v.next k) k
least_found im s v w c k lk waiting fewest =
    let p = v.next k in
    let f = c.each k lk in
    let a = arrivals_yes w k (waits f waiting) in
    let enough = puts_enough im s v w c p (suc (w.phase k)) waiting (let h = fewest p waiting in omega arith) (f.syncing waiting).0 in
    let was = c.queue p k waiting lk f.other in
    let before = took_not s.images (w.phase k) p p (le_refl p) in
    omega (arith, was, before, enough)

-- While not all have ended, some image can move.
pub some_moves : {S V : Type 0} (im : Images S V) (s : Script V) → AllCarry im s → (v : Standing S V) (w : World V) →
    Course im s v w →
    AllEnded (movers im s.images) v ⊎ ((k : ℕ) × (k < s.images) × (answer s.images v k ≡ Stepped))
some_moves im s carry v w c =
    let some = carry.images in
    let l = least (arrivals w) (s.images - 1) in
    let k : ℕ = l.0 in
    let lk : k < s.images = omega (arith, l.1) in
    let fewest : (j : ℕ) → j < s.images → arrivals w k ≤ arrivals w j = λ j lj. l.2 j (omega arith) in
    let f = c.each k lk in
    elim (cases_Bool (v.ended k)) [
      | inl over ↦
          let a = arrivals_yes w k (over_arrived f over) in
          let end = (f.last over).0 in
          inl (λ j lj. answer_ended s.images v j (most_over im s v w c j lj (let h = fewest j lj in omega arith)))
      | inr going ↦ inr (
        k,
        lk,
        elim (cases_lt (v.next k) s.images) [
          | inl waiting ↦ answer_waits s.images v k going waiting ∙ found_some (v.queue (v.next k) k) (least_found im s v w c k lk waiting fewest)
          | inr free ↦ answer_runs s.images v k going free
        ],
      )
    ]

-- ---- the bound

moves_more : {V : Type 0} (s : Script V) (k q r : ℕ) → q ≤ r → moves_below s k q ≤ moves_below s k r
moves_more s k q zero le = (let P : ℕ → Type 0 = λ x. moves_below s k x ≤ 0 in let e : q ≡ 0 = omega arith in subst P (sym e) (omega arith))
moves_more s k q (suc r) le = elim (eq-or-lt_of_le le) [
  | inl e ↦ (let P : ℕ → Type 0 = λ x. moves_below s k x ≤ moves_below s k (suc r) in subst P (sym e) (le_refl (moves_below s k (suc r))))
  | inr less ↦ (let h = moves_more s k q r (omega arith) in omega arith)
]

far_most : {S V : Type 0} (im : Images S V) (s : Script V) (v : Standing S V) (w : World V) → Course im s v w →
    (k : ℕ) → k < s.images → far_of s v w k ≤ moves_below s k s.phases
far_most im s v w c k lk =
    let f = c.each k lk in
    let within = f.within in
    let more = moves_more s k (suc (w.phase k)) s.phases f.low in
    elim (cases_lt (v.next k) s.images) [
      | inl waiting ↦ rw (lt-ltb (v.next k) s.images waiting, (f.syncing waiting).1) (omega arith)
      | inr free ↦ rw (le-ltb (v.next k) s.images free) (elim (cases_Bool (v.ended k)) [ inl over ↦ rw over (omega arith) | inr going ↦ rw going (omega arith) ])
    ]

pub effort_most : {S V : Type 0} (im : Images S V) (s : Script V) (v : Standing S V) (w : World V) → Course im s v w →
    effort s v w ≤ most_steps s
effort_most im s v w c = sum_most (far_of s v w) (λ k. moves_below s k s.phases) s.images (λ k lk. far_most im s v w c k lk)

-- ---- the end

found_ended : (items : ℕ) → found items ≢ AlreadyEnded
found_ended zero e = cc
found_ended (suc rest) e = cc

pub ended_over : {S V : Type 0} (images : ℕ) (v : Standing S V) (k : ℕ) → answer images v k ≡ AlreadyEnded →
    v.ended k ≡ true
ended_over images v k e = elim (cases_Bool (v.ended k)) [
  | inl over ↦ over
  | inr going ↦ elim (cases_lt (v.next k) images) [
    | inl waiting ↦ absurd (found_ended (v.queue (v.next k) k) (sym (answer_waits images v k going waiting) ∙ e))
    | inr free ↦ absurd (let h : Stepped ≡ AlreadyEnded = sym (answer_runs images v k going free) ∙ e in (cc))
  ]
]

-- where all have ended, the words are the script's final ones, each image stands at the end of its own list, and
-- nothing lies between two
pub record AtTheEnd {S V : Type 0} (im : Images S V) (s : Script V) (v : Standing S V) : Type 0 where
  pub words : (e : ℕ) → v.words e ≡ words_at s s.phases e
  pub state : (k : ℕ) → k < s.images →
      v.state k ≡ im.go (own im s k (s.phases - 1) (length (s.accesses (s.phases - 1) k)))
  pub next : (k : ℕ) → k < s.images → v.next k ≡ s.images
  pub queue : (i k : ℕ) → i < s.images → k < s.images → i ≢ k → v.queue i k ≡ 0

pub at_the_end : {S V : Type 0} (im : Images S V) (s : Script V) → AllCarry im s → (v : Standing S V) (w : World V) →
    Reached s w → Course im s v w → AllEnded (movers im s.images) v → AtTheEnd im s v
at_the_end im s carry v w r c all =
    let over : (k : ℕ) → k < s.images → v.ended k ≡ true = λ k lk. ended_over s.images v k (all k lk) in
    let end : (k : ℕ) → k < s.images → suc (w.phase k) ≡ s.phases = λ k lk. ((c.each k lk).last (over k lk)).0 in
    let free : (k : ℕ) → k < s.images → v.next k ≡ s.images = λ k lk. ((c.each k lk).last (over k lk)).1 in
    let whole : (k : ℕ) → k < s.images → w.place k ≡ length (s.accesses (w.phase k) k) = λ k lk. (let f = c.each k lk in f.whole (over_arrived f (over k lk))) in
    record {
      words = λ e. c.words e ∙ done_words s w e carry.free r carry.images (λ k lk. (end k lk, whole k lk));
      state = λ k lk.
          let f = c.each k lk in
          let phase : w.phase k ≡ s.phases - 1 = (let h = end k lk in omega arith) in
          at_stop f (over_arrived f (over k lk)) ∙ ap (λ i. im.go (own im s k (w.phase k) i)) (whole k lk) ∙ ap (λ q. im.go (own im s k q (length (s.accesses q k)))) phase;
      next = free;
      queue = λ i k li lk ne.
          let was = c.queue i k li lk ne in
          let taken = took_out s.images (w.phase k) (v.next k) i (let h = free k lk in omega arith) in
          let put = puts_out s.images (w.phase i) (v.next i) (let h = free i li in omega arith) in
          let e = end i li in
          let e' = end k lk in
          omega arith;
    }
