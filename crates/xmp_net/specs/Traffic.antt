-- The messages of a whole run, and nodes that send just these (this project).
use Rattle.std.specs.Prelude.{◌≡◌, ◌≢◌, ℕ, zero, suc, ◌+◌, ◌-◌, ◌*◌, ◌<◌, ◌≤◌, min, true, false, ◌==◌, nat_lt, if◌then◌else◌, List, [], ◌∷◌, ◌++◌}
use Rattle.xmp_net.specs.Nodes.{Nodes, World, peer}

-- The messages of a whole run: at exchange t, from i to j.
pub record Traffic (M : Type 0) : Type 0 where
  pub exchanges : ℕ
  pub message : ℕ → ℕ → ℕ → M

-- state s of node k at exchange t, with the messages of its peers below i taken in
abbrev pub fed : {S M : Type 0} → Nodes S M → Traffic M → ℕ → ℕ → ℕ → S → S
fed n all k t zero s = s
fed n all k t (suc i) s = if i == k then fed n all k t i s else n.into (fed n all k t i s) i (all.message t i k)

-- Node k's own list of states, fed with the traffic: after so many runs, with the messages of its peers below i taken
-- in at the last stop.
abbrev pub own : {S M : Type 0} → Nodes S M → Traffic M → ℕ → ℕ → ℕ → S
own n all k zero i = n.begin k
own n all k (suc t) i = fed n all k t i (n.go (own n all k t n.count))

-- Node k carries the traffic: fed with its column of k, it sends its row of k, and ends after the last exchange.
pub record Carries {S M : Type 0} (n : Nodes S M) (all : Traffic M) (k : ℕ) : Type 0 where
  pub goes : (t i : ℕ) → t ≤ all.exchanges → i ≤ n.count → n.over (own n all k t i) ≡ false
  pub sends : (t j : ℕ) → t < all.exchanges → j < n.count → j ≢ k → n.out (own n all k (suc t) 0) j ≡ all.message t k j
  pub ends : n.over (own n all k (suc all.exchanges) 0) ≡ true

-- each node carries it
abbrev pub AllCarry : {S M : Type 0} → Nodes S M → Traffic M → Type 0
AllCarry n all = (k : ℕ) → k < n.count → Carries n all k

-- the first c of f
abbrev pub firsts : {A : Type 0} → (ℕ → A) → ℕ → List A
firsts f zero = []
firsts f (suc c) = firsts f c ++ f c ∷ []

-- how many messages a node has taken from peer i, after so many runs and with its peers below `next` served
abbrev pub took : ℕ → ℕ → ℕ → ℕ → ℕ
took exchanges runs next i = min exchanges (if nat_lt i next then runs else runs - 1)

-- how many messages a node has put for each peer, after so many runs
abbrev pub sent : ℕ → ℕ → ℕ
sent exchanges runs = min exchanges runs

-- Each node stands on its own list of states, after `runs k` runs. From each node to each other, the messages taken and
-- then those on the queue are a front of the traffic.
pub record OnCourse {S M : Type 0} (n : Nodes S M) (all : Traffic M) (w : World S M) (runs : ℕ → ℕ) : Type 0 where
  pub within : (k : ℕ) → k < n.count → runs k ≤ suc all.exchanges
  pub below : (k : ℕ) → k < n.count → w.next k ≤ n.count
  pub other : (k : ℕ) → k < n.count → w.next k ≢ k
  pub awaits : (k : ℕ) → k < n.count → w.next k < n.count → 0 < runs k
  pub ended : (k : ℕ) → k < n.count → runs k ≡ suc all.exchanges → (w.next k ≡ peer k 0) × (n.over (w.state k) ≡ true)
  pub state : (k : ℕ) → k < n.count → w.state k ≡ own n all k (runs k) (w.next k)
  pub queue : (i k : ℕ) → i < n.count → k < n.count → i ≢ k →
      firsts (λ t. all.message t i k) (took all.exchanges (runs k) (w.next k) i) ++ w.queue i k
      ≡ firsts (λ t. all.message t i k) (sent all.exchanges (runs i))

-- a bound of the steps of nodes that carry a traffic
abbrev pub most_steps : {S M : Type 0} → Nodes S M → Traffic M → ℕ
most_steps n all = n.count * (suc all.exchanges * suc n.count + n.count)

-- two worlds agree on all nodes and on all queues between two nodes
pub record IsSameWorld {S M : Type 0} (n : Nodes S M) (w v : World S M) : Type 0 where
  pub state : (k : ℕ) → k < n.count → w.state k ≡ v.state k
  pub next : (k : ℕ) → k < n.count → w.next k ≡ v.next k
  pub queue : (i k : ℕ) → i < n.count → k < n.count → i ≢ k → w.queue i k ≡ v.queue i k

-- two traffics have equally many exchanges, and the same messages between two nodes
pub record IsSameTraffic {S M : Type 0} (n : Nodes S M) (all other : Traffic M) : Type 0 where
  pub exchanges : all.exchanges ≡ other.exchanges
  pub message : (t i j : ℕ) → t < all.exchanges → i < n.count → j < n.count → i ≢ j →
      all.message t i j ≡ other.message t i j
