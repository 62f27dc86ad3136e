-- Nodes that exchange messages (this project, after the message passing of XcalableMP 1.4): the world that they stand
-- in, and its moves.
use Rattle.std.specs.Prelude.{ℕ, suc, Bool, not, ◌&&◌, ◌==◌, nat_lt, if◌then◌else◌, List, [], ◌∷◌, ◌++◌}
use Rattle.xmp_orders.specs.Movers.{Moved, Movers, Stepped, NotYet, AlreadyEnded}

-- Programs of some nodes. Each runs from stop to stop: a stop is an exchange or the end.
pub record Nodes (S M : Type 0) : Type 0 where
  pub count : ℕ
  pub begin : ℕ → S  -- the state of a node before it first runs
  pub go : S → S  -- the state at the next stop
  pub over : S → Bool  -- whether it stands at its end
  pub out : S → ℕ → M  -- at an exchange, its message to a node
  pub into : S → ℕ → M → S  -- at an exchange, a node's message comes in

-- The nodes as they stand, and for each ordered pair a queue, which has no bound.
pub record World (S M : Type 0) : Type 0 where
  pub state : ℕ → S
  pub next : ℕ → ℕ  -- the least peer whose message a node still awaits; `count` where it awaits none
  pub queue : ℕ → ℕ → List M  -- from, to

-- f, with v at k
abbrev pub at : {A : Type 0} → (ℕ → A) → ℕ → A → ℕ → A
at f k v j = if j == k then v else f j

-- the least peer of node k from i on
abbrev pub peer : ℕ → ℕ → ℕ
peer k i = if i == k then suc i else i

-- before any move
abbrev pub start : {S M : Type 0} → Nodes S M → World S M
start n = record { state = n.begin; next = λ k. n.count; queue = λ i j. [] }

-- node k runs to its next stop, and at an exchange puts all its messages
abbrev pub ran : {S M : Type 0} → Nodes S M → World S M → ℕ → World S M
ran n w k =
    let s = n.go (w.state k) in
    record {
      state = at w.state k s;
      next = at w.next k (peer k 0);
      queue = λ i j. if (i == k) && (not (n.over s) && not (j == k)) then w.queue i j ++ n.out s j ∷ [] else w.queue i j;
    }

-- node k takes the message of the least peer that it awaits, where there is one
abbrev pub received : {S M : Type 0} → Nodes S M → World S M → ℕ → List M → World S M
received n w k [] = w
received n w k (m ∷ rest) =
    record {
      state = at w.state k (n.into (w.state k) (w.next k) m);
      next = at w.next k (peer k (suc (w.next k)));
      queue = λ i j. if (i == w.next k) && (j == k) then rest else w.queue i j;
    }

-- one move of node k
abbrev pub moved : {S M : Type 0} → Nodes S M → World S M → ℕ → World S M
moved n w k =
    if n.over (w.state k)
    then w
    else (if nat_lt (w.next k) n.count then received n w k (w.queue (w.next k) k) else ran n w k)

-- whether a message was there
abbrev pub found : {M : Type 0} → List M → Moved
found [] = NotYet
found (m ∷ rest) = Stepped

-- what that move comes to
abbrev pub answer : {S M : Type 0} → Nodes S M → World S M → ℕ → Moved
answer n w k =
    if n.over (w.state k)
    then AlreadyEnded
    else (if nat_lt (w.next k) n.count then found (w.queue (w.next k) k) else Stepped)

-- the nodes, as things that move one at a time
abbrev pub movers : {S M : Type 0} → Nodes S M → Movers (World S M)
movers n = record { count = n.count; moved = moved n; answer = answer n }
