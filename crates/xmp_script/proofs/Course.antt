-- Images that carry a script stand, after any moves, as in a world that the script's steps come to.
use Rattle.std.proofs.Common.{◌≡◌, ◌≢◌, ℕ, zero, suc, ◌+◌, ◌<◌, ◌≤◌, Bool, true, false, ◌&&◌, ◌||◌, nat_lt, if◌then◌else◌, List, [], ◌∷◌, length, slice_get, Some, None, refl, sym, ap, ◌∙◌, subst, arith, true≢false, inl, inr}
use Rattle.std.proofs.lemmas.Bool.{cases_eq, lt-ltb, le-ltb}
use Rattle.xmp_script.specs.Script.{Access, Get, Put, Script, seen}
use Rattle.xmp_script.specs.World.{World, MayAccess, accessed, Accesses, Reached, Then}
use Rattle.xmp_script.specs.Images.{Images, Standing, AtAccess, peer, behind, does}
use Rattle.xmp_script.specs.Carries.{onward, own, AllCarry}
use Rattle.xmp_script.proofs.Words.{at_same, at_other, after_local}
use Rattle.xmp_script.proofs.Orders.{gets_see}

-- image k as it stands, against its phase, place and arrival in a world of the script
pub record Stands {S V : Type 0} (im : Images S V) (s : Script V) (k : ℕ) (x : S) (next : ℕ) (ended : Bool) (phase place : ℕ) (arrived : Bool) : Type 0 where
  pub state : x ≡ (if arrived then im.go (own im s k phase place) else own im s k phase place)
  pub is : arrived ≡ (ended || nat_lt next s.images)
  pub below : next ≤ s.images
  pub other : next ≢ k
  pub low : phase < s.phases
  pub syncing : next < s.images → (suc phase < s.phases) × (ended ≡ false)
  pub last : ended ≡ true → (suc phase ≡ s.phases) × (next ≡ s.images)
  pub within : place ≤ length (s.accesses phase k)
  pub whole : arrived ≡ true → place ≡ length (s.accesses phase k)

-- how many messages an image has put for each other image, and how many it has taken from image i
abbrev pub puts : ℕ → ℕ → ℕ → ℕ
puts images phase next = if nat_lt next images then suc phase else phase

abbrev pub took : ℕ → ℕ → ℕ → ℕ → ℕ
took images phase next i = if nat_lt next images && nat_lt i next then suc phase else phase

-- the images stand as in world w, and each queue has what was put and not yet taken
pub record Course {S V : Type 0} (im : Images S V) (s : Script V) (v : Standing S V) (w : World V) : Type 0 where
  pub words : (e : ℕ) → v.words e ≡ w.words e
  pub each : (k : ℕ) → k < s.images →
      Stands im s k (v.state k) (v.next k) (v.ended k) (w.phase k) (w.place k) (w.arrived k)
  pub queue : (i k : ℕ) → i < s.images → k < s.images → i ≢ k →
      took s.images (w.phase k) (v.next k) i + v.queue i k ≡ puts s.images (w.phase i) (v.next i)

-- image j stands in two worlds alike
pub record SameRow {S V : Type 0} (v u : Standing S V) (w z : World V) (j : ℕ) : Type 0 where
  pub state : u.state j ≡ v.state j
  pub next : u.next j ≡ v.next j
  pub ended : u.ended j ≡ v.ended j
  pub phase : z.phase j ≡ w.phase j
  pub place : z.place j ≡ w.place j
  pub arrived : z.arrived j ≡ w.arrived j

-- what holds of image k now, and of the others as before, holds of all
pub row_update : {S V : Type 0} (im : Images S V) (s : Script V) (v u : Standing S V) (w z : World V) (k : ℕ) →
    ((j : ℕ) → j < s.images → Stands im s j (v.state j) (v.next j) (v.ended j) (w.phase j) (w.place j) (w.arrived j)) →
    ((j : ℕ) → j ≢ k → SameRow v u w z j) →
    Stands im s k (u.state k) (u.next k) (u.ended k) (z.phase k) (z.place k) (z.arrived k) →
    (j : ℕ) → j < s.images → Stands im s j (u.state j) (u.next j) (u.ended j) (z.phase j) (z.place j) (z.arrived j)
row_update im s v u w z k old others here j lj = elim (cases_eq j k) [
  | inl e ↦
      let P : ℕ → Type 0 = λ x. Stands im s x (u.state x) (u.next x) (u.ended x) (z.phase x) (z.place x) (z.arrived x) in
      subst P (sym e) here
  | inr ne ↦ let o = others j ne in rw (o.state, o.next, o.ended, o.phase, o.place, o.arrived) (old j lj)
]

pub peer_other : (k i : ℕ) → peer k i ≢ k
peer_other k i = grind arith

pub peer_below : (k images : ℕ) → k < images → (i : ℕ) → i ≤ images → peer k i ≤ images
peer_below k images lt i le = grind arith

pub puts_in : (images phase next : ℕ) → next < images → puts images phase next ≡ suc phase
puts_in images phase next lt = rw (lt-ltb next images lt)

pub puts_out : (images phase next : ℕ) → images ≤ next → puts images phase next ≡ phase
puts_out images phase next le = rw (le-ltb next images le)

pub took_out : (images phase next i : ℕ) → images ≤ next → took images phase next i ≡ phase
took_out images phase next i le = rw (le-ltb next images le)

pub took_not : (images phase next i : ℕ) → next ≤ i → took images phase next i ≡ phase
took_not images phase next i le = grind (arith, le-ltb i next le)

pub took_it : (images phase next i : ℕ) → next < images → i < next → took images phase next i ≡ suc phase
took_it images phase next i lt less = rw (lt-ltb next images lt, lt-ltb i next less)

-- an image that runs hasn't arrived, and stands at a state of its own list
pub runs :
    {S V : Type 0} {im : Images S V} {s : Script V} {k : ℕ} {x : S} {next : ℕ} {ended : Bool} {phase place : ℕ} {arrived : Bool} →
    Stands im s k x next ended phase place arrived →
    ended ≡ false → s.images ≤ next → arrived ≡ false
runs {s} {next} f going free = f.is ∙ rw (going, le-ltb next s.images free)

pub at_own :
    {S V : Type 0} {im : Images S V} {s : Script V} {k : ℕ} {x : S} {next : ℕ} {ended : Bool} {phase place : ℕ} {arrived : Bool} →
    Stands im s k x next ended phase place arrived →
    arrived ≡ false → x ≡ own im s k phase place
at_own f e = f.state ∙ rw e

pub waits :
    {S V : Type 0} {im : Images S V} {s : Script V} {k : ℕ} {x : S} {next : ℕ} {ended : Bool} {phase place : ℕ} {arrived : Bool} →
    Stands im s k x next ended phase place arrived →
    next < s.images → arrived ≡ true
waits {s} {next} f lt = f.is ∙ rw ((f.syncing lt).1, lt-ltb next s.images lt)

pub at_stop :
    {S V : Type 0} {im : Images S V} {s : Script V} {k : ℕ} {x : S} {next : ℕ} {ended : Bool} {phase place : ℕ} {arrived : Bool} →
    Stands im s k x next ended phase place arrived →
    arrived ≡ true → x ≡ im.go (own im s k phase place)
at_stop f e = f.state ∙ rw e

-- an access leads to the next state of the image's own list
own_next : {S V : Type 0} (im : Images S V) (s : Script V) (k q i : ℕ) (a : Access V) →
    slice_get (s.accesses q k) i ≡ Some a →
    own im s k q (suc i) ≡ behind im (seen s k q i) (im.go (own im s k q i)) a
own_next im s k q i a at-i = ap (λ o. onward im (seen s k q i) o (own im s k q i)) at-i

pub get_below : {A : Type 0} (l : List A) (i : ℕ) (a : A) → slice_get l i ≡ Some a → i < length l
get_below [] i a e = absurd (let h : None ≡ Some a = e in (cc))
get_below (x ∷ l) zero a e = omega arith
get_below (x ∷ l) (suc i) a e = let h = get_below l i a e in omega arith

-- behind an access an image is in the next state of its list, where a get finds what the list is fed with
behind_same : {S V : Type 0} (im : Images S V) (m n : ℕ → V) (x : S) (a : Access V) →
    ((e : ℕ) → a ≡ Get e → m e ≡ n e) → behind im m x a ≡ behind im n x a
behind_same im m n x (Get e) same = ap (im.answer x) (same e refl)
behind_same im m n x (Put e u) same = refl

-- an access of image k
pub access_course : {S V : Type 0} (im : Images S V) (s : Script V) → AllCarry im s → (v : Standing S V) (w : World V) →
    Reached s w → Course im s v w → (k : ℕ) → k < s.images →
    v.ended k ≡ false → s.images ≤ v.next k → (a : Access V) →
    slice_get (s.accesses (w.phase k) k) (w.place k) ≡ Some a →
    Reached s (accessed w k a) × Course im s (does im s.images v k (im.go (v.state k)) (AtAccess a)) (accessed w k a)
access_course {S} {V} im s carry v w r c k lk going free a at-place =
    let f = c.each k lk in
    let here : w.arrived k ≡ false = runs f going free in
    let may : MayAccess s w k a = (f.low, here, at-place) in
    let finds : (e : ℕ) → a ≡ Get e → v.words e ≡ seen s k (w.phase k) (w.place k) e = λ e is.
    (let P : Access V → Type 0 = λ b. MayAccess s w k b in c.words e ∙ gets_see s w k e carry.free r lk (subst P is may)) in
    let state : behind im v.words (im.go (v.state k)) a ≡ own im s k (w.phase k) (suc (w.place k)) =
    behind_same im v.words (seen s k (w.phase k) (w.place k)) (im.go (v.state k)) a finds
    ∙ ap (λ x. behind im (seen s k (w.phase k) (w.place k)) (im.go x) a) (at_own f here) ∙ sym (own_next im s k (w.phase k) (w.place k) a at-place) in (
      Then r (Accesses k a lk may),
      record {
        words = λ e. after_local a v.words w.words e (c.words e);
        each = row_update im s v (does im s.images v k (im.go (v.state k)) (AtAccess a)) w (accessed w k a) k c.each
            (λ j ne. record { state = at_other v.state k _ j ne; next = refl; ended = refl; phase = refl; place = at_other w.place k _ j ne; arrived = refl })
            (rw (at_same v.state k (behind im v.words (im.go (v.state k)) a) k refl, at_same w.place k (suc (w.place k)) k refl) (record {
              state = rw here state;
              is = f.is;
              below = f.below;
              other = f.other;
              low = f.low;
              syncing = f.syncing;
              last = f.last;
              within = get_below (s.accesses (w.phase k) k) (w.place k) a at-place;
              whole = λ e. absurd (true≢false (sym e ∙ here));
            }));
        queue = c.queue;
      },
    )
