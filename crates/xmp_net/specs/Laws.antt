-- What holds of nodes that carry a traffic, in every order of their moves.
use Rattle.std.specs.Prelude.{◌≡◌, ◌≢◌, ℕ, suc, ◌<◌, List, []}
use Rattle.xmp_orders.specs.Movers.{run, AreMovers, AllEnded}
use Rattle.xmp_orders.specs.Progress.{AllEndFrom}
use Rattle.xmp_net.specs.Nodes.{Nodes, World, start, movers}
use Rattle.xmp_net.specs.Traffic.{Traffic, own, AllCarry, OnCourse, most_steps, IsSameWorld, IsSameTraffic}
use Rattle.xmp_net.specs.Tables.{Carried}

-- the world when these nodes have moved in turn
abbrev pub after : {S M : Type 0} → Nodes S M → List ℕ → World S M
after n ks = run (movers n) ks (start n)

-- in every order each node keeps to its own list of states, and each queue to the traffic
abbrev pub StaysOnCourse : {S M : Type 0} → Nodes S M → Traffic M → Type 0
StaysOnCourse n all = (ks : List ℕ) → AreMovers (movers n) ks → (runs : ℕ → ℕ) × OnCourse n all (after n ks) runs

-- in every order all have ended or some node can move, the steps are few, and lockstep and every choice come to the end of all
abbrev pub AllEnd : {S M : Type 0} → Nodes S M → Traffic M → Type 0
AllEnd n all = AllEndFrom (movers n) (most_steps n all) (start n)

-- two runs in which all end come to one world
abbrev pub OneEnd : {S M : Type 0} → Nodes S M → Type 0
OneEnd n =
    (ks ls : List ℕ) → AreMovers (movers n) ks → AreMovers (movers n) ls → AllEnded (movers n) (after n ks) →
    AllEnded (movers n) (after n ls) → IsSameWorld n (after n ks) (after n ls)

-- there each node stands at the end of its own list
abbrev pub EndsOwn : {S M : Type 0} → Nodes S M → Traffic M → Type 0
EndsOwn n all =
    (ks : List ℕ) → AreMovers (movers n) ks → AllEnded (movers n) (after n ks) → (k : ℕ) → k < n.count →
    (after n ks).state k ≡ own n all k (suc all.exchanges) 0

-- and no queue between two nodes holds a message
abbrev pub EndsEmpty : {S M : Type 0} → Nodes S M → Type 0
EndsEmpty n =
    (ks : List ℕ) → AreMovers (movers n) ks → AllEnded (movers n) (after n ks) → (i k : ℕ) → i < n.count → k < n.count →
    i ≢ k → (after n ks).queue i k ≡ []

-- the nodes carry one traffic alone
abbrev pub OneTraffic : {S M : Type 0} → Nodes S M → Type 0
OneTraffic {S} {M} n = (all other : Traffic M) → AllCarry n all → AllCarry n other → IsSameTraffic n all other

-- where messages can be compared, one table alone is that of the traffic
abbrev pub OneTable : {S M : Type 0} → Nodes S M → Type 0
OneTable {S} {M} n = (none : M) → IsSet M → IsProp (Carried n none)
