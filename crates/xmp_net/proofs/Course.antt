-- A move keeps every node on its own list of states, and every queue on the traffic.
use Rattle.std.proofs.Common.{◌≡◌, ◌≢◌, ℕ, zero, suc, ◌-◌, ◌<◌, ◌≤◌, true, false, List, [], ◌∷◌, ◌++◌, length, get_or, refl, sym, ap, arith, subst, ◌∙◌, append_assoc, length-append, eq-or-lt_of_le, true≢false, inl, inr}
use Rattle.std.proofs.Math.ListN.{get_or-append}
use Rattle.std.proofs.Math.Seq.{get_or-append_seam}
use Rattle.std.proofs.lemmas.Bool.{cases_eq, cases_lt, cases_Bool, lt-ltb, le-ltb}
use Rattle.xmp_net.specs.Nodes.{Nodes, World, at, peer, start, ran, received, moved}
use Rattle.xmp_net.specs.Traffic.{Traffic, fed, own, Carries, firsts, took, sent, OnCourse}

pub at_same : {A : Type 0} → (f : ℕ → A) (k : ℕ) (v : A) (j : ℕ) → j ≡ k → at f k v j ≡ v
at_same f k v j e = grind arith

pub at_other : {A : Type 0} → (f : ℕ → A) (k : ℕ) (v : A) (j : ℕ) → j ≢ k → at f k v j ≡ f j
at_other f k v j ne = grind arith

pub fed_step : {S M : Type 0} → (n : Nodes S M) (all : Traffic M) (k t p : ℕ) (s : S) → p ≢ k →
    fed n all k t (suc p) s ≡ n.into (fed n all k t p s) p (all.message t p k)
fed_step n all k t p s ne = grind arith

pub fed_peer : {S M : Type 0} → (n : Nodes S M) (all : Traffic M) (k t i : ℕ) (s : S) →
    fed n all k t (peer k i) s ≡ fed n all k t i s
fed_peer n all k t i s = grind arith

pub length_firsts : {A : Type 0} → (f : ℕ → A) (c : ℕ) → length (firsts f c) ≡ c
length_firsts f zero = refl
length_firsts f (suc c) = omega (arith, length-append (firsts f c) (f c ∷ []), length_firsts f c)

pub get_firsts : {A : Type 0} → (f : ℕ → A) (c j : ℕ) (d : A) → j < c → get_or (firsts f c) j d ≡ f j
get_firsts f zero j d lt = absurd (omega arith)
get_firsts f (suc c) j d lt =
    elim (cases_lt j c) [
      | inl below ↦ get_or-append (firsts f c) (f c ∷ []) d j (rw length_firsts below) ∙ get_firsts f c j d below
      | inr past ↦
          let e : j ≡ c = omega arith in
          let P : ℕ → Type 0 = λ n. get_or (firsts f c ++ f c ∷ []) n d ≡ f c in
          ap (λ n. get_or (firsts f c ++ f c ∷ []) n d) e ∙ subst P (length_firsts f c) (get_or-append_seam (firsts f c) (f c) [] d) ∙ ap f (sym e)
    ]

-- the item behind the first c
next_first : {A : Type 0} → (f : ℕ → A) (c d : ℕ) (m : A) (rest : List A) → firsts f c ++ m ∷ rest ≡ firsts f d →
    (m ≡ f c) × (firsts f (suc c) ++ rest ≡ firsts f d)
next_first {A} f c d m rest e =
    let long : c < d = omega (arith, length-append (firsts f c) (m ∷ rest), length_firsts f c, length_firsts f d, ap length e) in
    let P : ℕ → Type 0 = λ n. get_or (firsts f c ++ m ∷ rest) n m ≡ m in
    let here : get_or (firsts f c ++ m ∷ rest) c m ≡ m = subst P (length_firsts f c) (get_or-append_seam (firsts f c) m rest m) in
    let is : m ≡ f c = sym here ∙ ap (λ xs. get_or xs c m) e ∙ get_firsts f d c m long in
    (is, append_assoc (firsts f c) (f c ∷ []) rest ∙ ap (λ x. firsts f c ++ x ∷ rest) (sym is) ∙ e)

peer_below : (k count : ℕ) → k < count → (i : ℕ) → i ≤ count → peer k i ≤ count
peer_below k count lt i le = grind arith

pub peer_other : (k i : ℕ) → peer k i ≢ k
peer_other k i = grind arith

-- what a node took, as it runs on
took_run : (ex runs k count i : ℕ) → i < count → i ≢ k → runs ≤ ex →
    took ex (suc runs) (peer k 0) i ≡ took ex runs count i
took_run ex runs k count i lt ne le = grind arith

-- what a node took from i, as it takes one of its peer p
took_same : (ex runs k p i : ℕ) → i ≢ k → i ≢ p → took ex runs (peer k (suc p)) i ≡ took ex runs p i
took_same ex runs k p i ne np = grind arith

pub took_more : (ex t k p : ℕ) → suc t ≤ ex → p ≢ k →
    (took ex (suc t) p p ≡ t) × (took ex (suc t) (peer k (suc p)) p ≡ suc t)
took_more ex t k p le ne = (grind arith, grind arith)

-- what holds at k of the new values, and elsewhere of the old ones, holds everywhere
everywhere : {A B : Type 0} (f : ℕ → A) (g : ℕ → B) (k : ℕ) (v : A) (u : B) (P : ℕ → A → B → Type 0) → P k v u →
    ((j : ℕ) → j ≢ k → P j (f j) (g j)) →
    (j : ℕ) → P j (at f k v j) (at g k u j)
everywhere {A} {B} f g k v u P here others j =
    elim (cases_eq j k) [
      | inl e ↦ rw (at_same f k v j e, at_same g k u j e) (let Q : ℕ → Type 0 = λ x. P x v u in subst Q (sym e) here)
      | inr ne ↦ rw (at_other f k v j ne, at_other g k u j ne) (others j ne)
    ]

everywhere3 :
    {A B C : Type 0} (f : ℕ → A) (g : ℕ → B) (h : ℕ → C) (k : ℕ) (v : A) (u : B) (z : C) (P : ℕ → A → B → C → Type 0) →
    P k v u z → ((j : ℕ) → j ≢ k → P j (f j) (g j) (h j)) →
    (j : ℕ) → P j (at f k v j) (at g k u j) (at h k z j)
everywhere3 {A} {B} {C} f g h k v u z P here others j =
    elim (cases_eq j k) [
      | inl e ↦ rw (at_same f k v j e, at_same g k u j e, at_same h k z j e) (let Q : ℕ → Type 0 = λ x. P x v u z in subst Q (sym e) here)
      | inr ne ↦ rw (at_other f k v j ne, at_other g k u j ne, at_other h k z j ne) (others j ne)
    ]

ran_queue_else : {S M : Type 0} (n : Nodes S M) (w : World S M) (k i j : ℕ) → i ≢ k →
    (ran n w k).queue i j ≡ w.queue i j
ran_queue_else n w k i j ne = grind arith

ran_queue_over : {S M : Type 0} (n : Nodes S M) (w : World S M) (k j : ℕ) → n.over (n.go (w.state k)) ≡ true →
    (ran n w k).queue k j ≡ w.queue k j
ran_queue_over n w k j e = grind arith

ran_queue_put : {S M : Type 0} (n : Nodes S M) (w : World S M) (k j : ℕ) → n.over (n.go (w.state k)) ≡ false → j ≢ k →
    (ran n w k).queue k j ≡ w.queue k j ++ n.out (n.go (w.state k)) j ∷ []
ran_queue_put n w k j e ne = grind arith

-- the queue from k, as it runs
ran_queue : {S M : Type 0} → (n : Nodes S M) (all : Traffic M) (w : World S M) (k t j : ℕ) → Carries n all k →
    k < n.count → t ≤ all.exchanges → n.go (w.state k) ≡ own n all k (suc t) 0 → j < n.count → j ≢ k →
    (firstly : List M) →
    firstly ++ w.queue k j ≡ firsts (λ x. all.message x k j) (sent all.exchanges t) →
    firstly ++ (ran n w k).queue k j ≡ firsts (λ x. all.message x k j) (sent all.exchanges (suc t))
ran_queue {S} {M} n all w k t j carries lt early is lj ne firstly before =
    elim (eq-or-lt_of_le early) [
      | inl e ↦
          let over : n.over (n.go (w.state k)) ≡ true = ap n.over (is ∙ ap (λ x. own n all k (suc x) 0) e) ∙ carries.ends in
          let same : sent all.exchanges (suc t) ≡ sent all.exchanges t = grind arith in
          rw (ran_queue_over n w k j over, same) before
      | inr less ↦
          let going : n.over (n.go (w.state k)) ≡ false = ap n.over is ∙ carries.goes (suc t) 0 less (omega arith) in
          let is-sent : sent all.exchanges t ≡ t = grind arith in
          let more : sent all.exchanges (suc t) ≡ suc t = grind arith in
          let message : n.out (n.go (w.state k)) j ≡ all.message t k j = ap (λ s. n.out s j) is ∙ carries.sends t j less lj ne in
          rw (ran_queue_put n w k j going ne, more, message) (sym (append_assoc firstly (w.queue k j) (all.message t k j ∷ [])) ∙ ap (λ xs. xs ++ all.message t k j ∷ []) (before ∙ ap (firsts (λ x. all.message x k j)) is-sent))
    ]

ran_queue_from : {S M : Type 0} → (n : Nodes S M) (all : Traffic M) (w : World S M) (runs : ℕ → ℕ) (k i x : ℕ) →
    Carries n all k → OnCourse n all w runs →
    k < n.count → runs k ≤ all.exchanges → n.go (w.state k) ≡ own n all k (suc (runs k)) 0 → x < n.count → i ≡ k →
    x ≢ k → i ≢ x →
    firsts (λ t. all.message t i x) (took all.exchanges (runs x) (w.next x) i) ++ (ran n w k).queue i x ≡ firsts (λ t. all.message t i x) (sent all.exchanges (at runs k (suc (runs k)) i))
ran_queue_from {S} {M} n all w runs k i x carries c lt early is lx e nx ne =
    let P : ℕ → Type 0 = λ i. firsts (λ t. all.message t i x) (took all.exchanges (runs x) (w.next x) i) ++ (ran n w k).queue i x ≡ firsts (λ t. all.message t i x) (sent all.exchanges (at runs k (suc (runs k)) i)) in
    subst P (sym e) (rw (at_same runs k (suc (runs k)) k refl)
    (ran_queue n all w k (runs k) x carries lt early is lx nx (firsts (λ t. all.message t k x) (took all.exchanges (runs x) (w.next x) k)) (c.queue k x lt lx (λ e'. nx (sym e')))))

-- a run of node k, which does not await anything and is not over
ran_at : {S M : Type 0} → (n : Nodes S M) (all : Traffic M) (w : World S M) (runs : ℕ → ℕ) (k : ℕ) → Carries n all k →
    OnCourse n all w runs →
    k < n.count → w.next k ≡ n.count → runs k ≤ all.exchanges → n.go (w.state k) ≡ own n all k (suc (runs k)) 0 →
    OnCourse n all (ran n w k) (at runs k (suc (runs k)))
ran_at {S} {M} n all w runs k carries c lt next early is =
    record {
      within = λ j lj. grind (arith, c.within j lj, early);
      below = λ j lj. grind (arith, c.below j lj, peer_below k n.count lt 0);
      other = λ j lj. everywhere w.next w.next k (peer k 0) (peer k 0) (λ x y z. x < n.count → y ≢ x) (λ lx. peer_other k 0) (λ x ne lx. c.other x lx) j lj;
      awaits = λ j lj aw. elim (cases_eq j k) [
        | inl e ↦ rw (at_same runs k (suc (runs k)) j e) (omega arith)
        | inr ne ↦ rw (at_other runs k (suc (runs k)) j ne) (c.awaits j lj (rw (at_other w.next k (peer k 0) j ne) at aw))
      ];
      ended = λ j lj. everywhere3 w.state w.next runs k (n.go (w.state k)) (peer k 0) (suc (runs k)) (λ x s i r. x < n.count → r ≡ suc all.exchanges → (i ≡ peer x 0) × (n.over s ≡ true))
          (λ lx e. (refl, ap n.over (is ∙ ap (λ r. own n all k r 0) e) ∙ carries.ends)) (λ x ne lx e. c.ended x lx e) j lj;
      state = λ j lj. everywhere3 w.state w.next runs k (n.go (w.state k)) (peer k 0) (suc (runs k)) (λ x s i r. x < n.count → s ≡ own n all x r i)
          (λ lx. is ∙ sym (fed_peer n all k (runs k) 0 (n.go (own n all k (runs k) n.count)))) (λ x ne lx. c.state x lx) j lj;
      queue = λ i j li lj. everywhere w.next runs k (peer k 0) (suc (runs k))
          (λ x i' r. x < n.count → i ≢ x → firsts (λ t. all.message t i x) (took all.exchanges r i' i) ++ (ran n w k).queue i x ≡ firsts (λ t. all.message t i x) (sent all.exchanges (at runs k (suc (runs k)) i)))
          (λ lx ne. rw (took_run all.exchanges (runs k) k n.count i li ne early, ran_queue_else n w k i k ne, at_other runs k (suc (runs k)) i ne) (ap (λ i'. firsts (λ t. all.message t i k) (took all.exchanges (runs k) i' i) ++ w.queue i k) (sym next) ∙ c.queue i k li lt ne))
          (λ x nx lx ne. elim (cases_eq i k) [ inl e ↦ ran_queue_from n all w runs k i x carries c lt early is lx e nx ne | inr nk ↦ rw (ran_queue_else n w k i x nk, at_other runs k (suc (runs k)) i nk) (c.queue i x li lx ne) ]) j lj;
    }

pub ran_course : {S M : Type 0} → (n : Nodes S M) (all : Traffic M) (w : World S M) (runs : ℕ → ℕ) (k : ℕ) →
    Carries n all k → OnCourse n all w runs →
    k < n.count → n.count ≤ w.next k → n.over (w.state k) ≡ false →
    OnCourse n all (ran n w k) (at runs k (suc (runs k)))
ran_course {S} {M} n all w runs k carries c lt free going =
    let next : w.next k ≡ n.count = omega (arith, c.below k lt) in
    let early : runs k ≤ all.exchanges = elim (eq-or-lt_of_le (c.within k lt)) [ inl e ↦ absurd (true≢false (sym (c.ended k lt e).1 ∙ going)) | inr less ↦ omega arith ] in
    let is : n.go (w.state k) ≡ own n all k (suc (runs k)) 0 = ap n.go (c.state k lt ∙ ap (own n all k (runs k)) next) in
    ran_at n all w runs k carries c lt next early is

received_queue_other : {S M : Type 0} (n : Nodes S M) (w : World S M) (k i j : ℕ) (m : M) (rest : List M) → j ≢ k →
    (received n w k (m ∷ rest)).queue i j ≡ w.queue i j
received_queue_other n w k i j m rest ne = grind arith

received_queue_another : {S M : Type 0} (n : Nodes S M) (w : World S M) (k i : ℕ) (m : M) (rest : List M) →
    i ≢ w.next k → (received n w k (m ∷ rest)).queue i k ≡ w.queue i k
received_queue_another n w k i m rest ne = grind arith

received_queue_same : {S M : Type 0} (n : Nodes S M) (w : World S M) (k i : ℕ) (m : M) (rest : List M) → i ≡ w.next k →
    (received n w k (m ∷ rest)).queue i k ≡ rest
received_queue_same n w k i m rest e = grind arith

-- node k takes a message
received_at : {S M : Type 0} →
    (n : Nodes S M) (all : Traffic M) (w : World S M) (runs : ℕ → ℕ) (k t : ℕ) (m : M) (rest : List M) →
    OnCourse n all w runs →
    k < n.count → w.next k < n.count → runs k ≡ suc t → suc t ≤ all.exchanges → w.queue (w.next k) k ≡ m ∷ rest →
    OnCourse n all (received n w k (m ∷ rest)) runs
received_at {S} {M} n all w runs k t m rest c lt waits is early at-head =
    let p : ℕ = w.next k in
    let np : p ≢ k = c.other k lt in
    let took-it = took_more all.exchanges t k p early np in
    let before : firsts (λ x. all.message x p k) t ++ m ∷ rest ≡ firsts (λ x. all.message x p k) (sent all.exchanges (runs p)) =
    rw (is, took-it.0, at-head) at (c.queue p k waits lt np) in
    let message = next_first (λ x. all.message x p k) t (sent all.exchanges (runs p)) m rest before in
    record {
      within = c.within;
      below = λ j lj. everywhere w.next w.next k (peer k (suc p)) (peer k (suc p)) (λ x y z. x < n.count → y ≤ n.count) (λ lx. peer_below k n.count lt (suc p) waits) (λ x ne lx. c.below x lx) j lj;
      other = λ j lj. everywhere w.next w.next k (peer k (suc p)) (peer k (suc p)) (λ x y z. x < n.count → y ≢ x) (λ lx. peer_other k (suc p)) (λ x ne lx. c.other x lx) j lj;
      awaits = λ j lj. everywhere w.next runs k (peer k (suc p)) (runs k) (λ x y z. x < n.count → y < n.count → 0 < runs x) (λ lx aw. omega arith) (λ x ne lx aw. c.awaits x lx aw) j lj;
      ended = λ j lj. everywhere w.state w.next k (n.into (w.state k) p m) (peer k (suc p)) (λ x s i. x < n.count → runs x ≡ suc all.exchanges → (i ≡ peer x 0) × (n.over s ≡ true))
          (λ lx e. absurd (omega arith)) (λ x ne lx e. c.ended x lx e) j lj;
      state = λ j lj. everywhere w.state w.next k (n.into (w.state k) p m) (peer k (suc p)) (λ x s i. x < n.count → s ≡ own n all x (runs x) i)
          (λ lx. rw is (
          ap (λ s. n.into s p m) (c.state k lt ∙ ap (λ r. own n all k r p) is)
          ∙ ap (n.into (own n all k (suc t) p) p) message.0
          ∙ sym (fed_step n all k t p (n.go (own n all k t n.count)) np)
          ∙ sym (fed_peer n all k t (suc p) (n.go (own n all k t n.count))))) (λ x ne lx. c.state x lx) j lj;
      queue = λ i j li lj. everywhere w.next w.next k (peer k (suc p)) (peer k (suc p))
          (λ x i' r. x < n.count → i ≢ x → firsts (λ t. all.message t i x) (took all.exchanges (runs x) i' i) ++ (received n w k (m ∷ rest)).queue i x ≡ firsts (λ t. all.message t i x) (sent all.exchanges (runs i)))
          (λ lx ne. elim (cases_eq i p) [
            | inl e ↦
                let P : ℕ → Type 0 = λ i. firsts (λ t. all.message t i k) (took all.exchanges (runs k) (peer k (suc p)) i) ++ (received n w k (m ∷ rest)).queue i k ≡ firsts (λ t. all.message t i k) (sent all.exchanges (runs i)) in
                subst P (sym e) (rw (is, took-it.1, received_queue_same n w k p m rest refl) message.1)
            | inr other ↦ rw (took_same all.exchanges (runs k) k p i ne other, received_queue_another n w k i m rest other) (c.queue i k li lt ne)
          ])
          (λ x nx lx ne. rw (received_queue_other n w k i x m rest nx) (c.queue i x li lx ne)) j lj;
    }

-- node k, which is not over and awaits a message
pub receive_course : {S M : Type 0} → (n : Nodes S M) (all : Traffic M) (w : World S M) (runs : ℕ → ℕ) (k : ℕ) →
    OnCourse n all w runs → k < n.count → w.next k < n.count →
    n.over (w.state k) ≡ false → (items : List M) → w.queue (w.next k) k ≡ items →
    OnCourse n all (received n w k items) runs
receive_course n all w runs k c lt waits going [] e = c
receive_course n all w runs k c lt waits going (m ∷ rest) e =
    let early : runs k ≤ all.exchanges = elim (eq-or-lt_of_le (c.within k lt)) [ inl e ↦ absurd (true≢false (sym (c.ended k lt e).1 ∙ going)) | inr less ↦ omega arith ] in
    let some : 0 < runs k = c.awaits k lt waits in
    received_at n all w runs k (runs k - 1) m rest c lt waits (omega arith) (omega arith) e

-- A move keeps every node on its own list, and every queue on the traffic.
pub moved_course : {S M : Type 0} → (n : Nodes S M) (all : Traffic M) (w : World S M) (runs : ℕ → ℕ) (k : ℕ) →
    Carries n all k → OnCourse n all w runs → k < n.count →
    (runs' : ℕ → ℕ) × OnCourse n all (moved n w k) runs'
moved_course {S} {M} n all w runs k carries c lt =
    elim (cases_Bool (n.over (w.state k))) [
      | inl over ↦ rw over (runs, c)
      | inr going ↦ elim (cases_lt (w.next k) n.count) [
        | inl waits ↦ rw (going, lt-ltb (w.next k) n.count waits) (runs, receive_course n all w runs k c lt waits going (w.queue (w.next k) k) refl)
        | inr free ↦ rw (going, le-ltb (w.next k) n.count free) (at runs k (suc (runs k)), ran_course n all w runs k carries c lt free going)
      ]
    ]

pub start_course : {S M : Type 0} → (n : Nodes S M) (all : Traffic M) → OnCourse n all (start n) (λ k. 0)
start_course n all = record {
  within = λ k lt. omega arith;
  below = λ k lt. omega arith;
  other = λ k lt e. omega arith;
  awaits = λ k lt aw. omega arith;
  ended = λ k lt e. absurd (omega arith);
  state = λ k lt. refl;
  queue = λ i k li lk ne. grind arith;
}
