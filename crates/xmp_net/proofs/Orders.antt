-- Nodes that carry a traffic make progress, and all runs that end come to one world.
use Rattle.std.proofs.Common.{◌≡◌, ◌≢◌, ℕ, suc, ◌<◌, List, [], sym, ◌∙◌}
use Rattle.xmp_orders.specs.Movers.{AreMovers, AllEnded}
use Rattle.xmp_orders.specs.Progress.{Progress, AllEndFrom}
use Rattle.xmp_orders.proofs.Runs.{run_on, all_end}
use Rattle.xmp_net.specs.Nodes.{Nodes, start, movers}
use Rattle.xmp_net.specs.Traffic.{Traffic, own, AllCarry, OnCourse, IsSameWorld, most_steps}
use Rattle.xmp_net.specs.Laws.{after}
use Rattle.xmp_net.proofs.Course.{start_course}
use Rattle.xmp_net.proofs.Progress.{some_moves, one_end, stays, effort, effort_most, stepped}

pub progress : {S M : Type 0} (n : Nodes S M) (all : Traffic M) → AllCarry n all →
    Progress (movers n) (OnCourse n all) (effort n) (most_steps n all)
progress n all carry = record {
  moves = λ w runs c. some_moves n all carry w runs c;
  steps = λ w runs k c lt step. stepped n all w runs k (carry k lt) c lt step;
  stays = stays n;
  bound = effort_most n all;
}

pub in_every_order : {S M : Type 0} (n : Nodes S M) (all : Traffic M) → AllCarry n all →
    AllEndFrom (movers n) (most_steps n all) (start n)
in_every_order n all carry = all_end (progress n all carry) (start n) (λ k. 0) (start_course n all)

pub on_course : {S M : Type 0} (n : Nodes S M) (all : Traffic M) → AllCarry n all → (ks : List ℕ) → AreMovers (movers n) ks →
    (runs : ℕ → ℕ) × OnCourse n all (after n ks) runs
on_course n all carry ks ok = run_on (progress n all carry) ks ok (start n) (λ k. 0) (start_course n all)

-- all runs that end come to one world
pub same_end : {S M : Type 0} (n : Nodes S M) (all : Traffic M) → AllCarry n all → (ks ls : List ℕ) →
    AreMovers (movers n) ks → AreMovers (movers n) ls → AllEnded (movers n) (after n ks) → AllEnded (movers n) (after n ls) →
    IsSameWorld n (after n ks) (after n ls)
same_end n all carry ks ls oks ols e f =
    let c = on_course n all carry ks oks in
    let d = on_course n all carry ls ols in
    let x = one_end n all carry (after n ks) c.0 c.1 e in
    let y = one_end n all carry (after n ls) d.0 d.1 f in
    record {
      state = λ k lt. x.0 k lt ∙ sym (y.0 k lt);
      next = λ k lt. x.1 k lt ∙ sym (y.1 k lt);
      queue = λ i k li lk ne. x.2 i k li lk ne ∙ sym (y.2 i k li lk ne);
    }

-- there each node stands at the end of its own list
pub ends_own : {S M : Type 0} (n : Nodes S M) (all : Traffic M) → AllCarry n all → (ks : List ℕ) →
    AreMovers (movers n) ks → AllEnded (movers n) (after n ks) → (k : ℕ) → k < n.count →
    (after n ks).state k ≡ own n all k (suc all.exchanges) 0
ends_own n all carry ks ok e k lk =
    let c = on_course n all carry ks ok in (one_end n all carry (after n ks) c.0 c.1 e).0 k lk

-- there all queues are empty
pub ends_empty : {S M : Type 0} (n : Nodes S M) (all : Traffic M) → AllCarry n all → (ks : List ℕ) →
    AreMovers (movers n) ks → AllEnded (movers n) (after n ks) → (i k : ℕ) → i < n.count → k < n.count → i ≢ k →
    (after n ks).queue i k ≡ []
ends_empty n all carry ks ok e i k li lk ne =
    let c = on_course n all carry ks ok in (one_end n all carry (after n ks) c.0 c.1 e).2 i k li lk ne
