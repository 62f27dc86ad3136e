-- Images that run by themselves and share words (this project, after the coarrays of XcalableMP 1.4). At a sync an
-- image puts an empty message to each other image, and takes one of each, in the order of their numbers.
use Rattle.std.specs.Prelude.{ℕ, zero, suc, Bool, true, false, not, ◌&&◌, ◌==◌, nat_lt, if◌then◌else◌}
use Rattle.xmp_orders.specs.Movers.{Moved, Movers, Stepped, NotYet, AlreadyEnded}
use Rattle.xmp_script.specs.Script.{Access, Get, Put, at, after}

-- what an image stands at
pub data Stand (V : Type 0) : Type 0 where
  AtAccess : Access V → Stand V
  AtSync : Stand V
  AtEnd : Stand V

-- Programs of images.
pub record Images (S V : Type 0) : Type 0 where
  pub begin : ℕ → S  -- the state of an image before it first runs
  pub go : S → S  -- the state at its next access, sync or end
  pub stands : S → Stand V  -- which of them that is
  pub answer : S → V → S  -- behind a get, which found this value
  pub pass : S → S  -- behind a put, or behind a sync when its messages are in

-- The images as they stand, the words that they share, and for each ordered pair a queue of empty messages, which has
-- no bound.
pub record Standing (S V : Type 0) : Type 0 where
  pub words : ℕ → V
  pub state : ℕ → S
  pub next : ℕ → ℕ  -- in a sync, the least image whose message is still awaited; else the number of images
  pub ended : ℕ → Bool
  pub queue : ℕ → ℕ → ℕ  -- from, to: how many messages

-- the least image other than k from i on
abbrev pub peer : ℕ → ℕ → ℕ
peer k i = if i == k then suc i else i

-- before any move of so many images, over these words
abbrev pub begun : {S V : Type 0} → Images S V → ℕ → (ℕ → V) → Standing S V
begun im images words = record { words = words; state = im.begin; next = λ k. images; ended = λ k. false; queue = λ i j. 0 }

-- an image in a sync, whose next awaited image this is: where none is awaited, the sync is behind it
abbrev pub settled : {S V : Type 0} → Images S V → ℕ → ℕ → S → S
settled im images next x = if nat_lt next images then x else im.pass x

-- the state behind an access, over these words
abbrev pub behind : {S V : Type 0} → Images S V → (ℕ → V) → S → Access V → S
behind im m x (Get e) = im.answer x (m e)
behind im m x (Put e u) = im.pass x

-- image k does what it has come to
abbrev pub does : {S V : Type 0} → Images S V → ℕ → Standing S V → ℕ → S → Stand V → Standing S V
does im images v k x (AtAccess a) = record v { words = after v.words a; state = at v.state k (behind im v.words x a) }
does im images v k x AtSync =
    record v {
      state = at v.state k (settled im images (peer k 0) x);
      next = at v.next k (peer k 0);
      queue = λ i j. if (i == k) && not (j == k) then suc (v.queue i j) else v.queue i j;
    }
does im images v k x AtEnd = record v { state = at v.state k x; ended = at v.ended k true }

-- image k takes the message of the least image that it awaits, where there is one
abbrev pub takes : {S V : Type 0} → Images S V → ℕ → Standing S V → ℕ → ℕ → Standing S V
takes im images v k zero = v
takes im images v k (suc rest) =
    let next = peer k (suc (v.next k)) in
    record v {
      state = at v.state k (settled im images next (v.state k));
      next = at v.next k next;
      queue = λ i j. if (i == v.next k) && (j == k) then rest else v.queue i j;
    }

-- image k runs to its next access, sync or end, and does that
abbrev pub goes : {S V : Type 0} → Images S V → ℕ → Standing S V → ℕ → Standing S V
goes im images v k =
    let x = im.go (v.state k) in
    does im images v k x (im.stands x)

-- one move of image k
abbrev pub moved : {S V : Type 0} → Images S V → ℕ → Standing S V → ℕ → Standing S V
moved im images v k =
    if v.ended k
    then v
    else (if nat_lt (v.next k) images then takes im images v k (v.queue (v.next k) k) else goes im images v k)

-- whether a message was there
abbrev pub found : ℕ → Moved
found zero = NotYet
found (suc rest) = Stepped

-- what that move comes to
abbrev pub answer : {S V : Type 0} → ℕ → Standing S V → ℕ → Moved
answer images v k =
    if v.ended k
    then AlreadyEnded
    else (if nat_lt (v.next k) images then found (v.queue (v.next k) k) else Stepped)

-- so many images, as things that move one at a time
abbrev pub movers : {S V : Type 0} → Images S V → ℕ → Movers (Standing S V)
movers im images = record { count = images; moved = moved im images; answer = answer images }
