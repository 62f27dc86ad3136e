-- Images that carry a script make progress, and all runs that end come to the script's end.
use Rattle.std.proofs.Common.{◌≡◌, ℕ, ◌-◌, List, length, sym, ap, arith, ◌∙◌}
use Rattle.xmp_orders.specs.Movers.{AreMovers, AllEnded}
use Rattle.xmp_orders.specs.Progress.{Progress}
use Rattle.xmp_orders.proofs.Runs.{run_on, all_end}
use Rattle.xmp_script.specs.Script.{Script}
use Rattle.xmp_script.specs.World.{World, start, Reached, Begun}
use Rattle.xmp_script.specs.Images.{Images, Standing}
use Rattle.xmp_script.specs.Carries.{own, AllCarry}
use Rattle.xmp_script.specs.Bounds.{most_steps}
use Rattle.xmp_script.specs.Laws.{movers_of, begun_of, played, InEveryOrder}
use Rattle.xmp_script.proofs.Course.{Course}
use Rattle.xmp_script.proofs.Moves.{effort, stepped, stays}
use Rattle.xmp_script.proofs.Progress.{begun_course, stands_as, some_moves, effort_most, AtTheEnd, at_the_end}

-- the images stand as in a world that the script's steps come to
pub record Follows {S V : Type 0} (im : Images S V) (s : Script V) (v : Standing S V) (w : World V) : Type 0 where
  pub reached : Reached s w
  pub course : Course im s v w

pub progress : {S V : Type 0} (im : Images S V) (s : Script V) → AllCarry im s →
    Progress (movers_of im s) (Follows im s) (effort s) (most_steps s)
progress im s carry = record {
  moves = λ v w f. some_moves im s carry v w f.course;
  steps = λ v w k f lk step.
      let m = stepped im s carry v w f.reached f.course k lk step in
      (m.0, record { reached = m.1.reached; course = m.1.course }, m.1.further);
  stays = stays im s.images;
  bound = λ v w f. effort_most im s v w f.course;
}

pub begun_follows : {S V : Type 0} (im : Images S V) (s : Script V) → AllCarry im s → Follows im s (begun_of im s) (start s)
begun_follows im s carry = record { reached = Begun; course = begun_course im s carry }

-- after every run
pub follows : {S V : Type 0} (im : Images S V) (s : Script V) → AllCarry im s → (ks : List ℕ) → AreMovers (movers_of im s) ks →
    (w : World V) × Follows im s (played im s ks) w
follows im s carry ks ok = run_on (progress im s carry) ks ok (begun_of im s) (start s) (begun_follows im s carry)

ended_so : {S V : Type 0} (im : Images S V) (s : Script V) → AllCarry im s → (ks : List ℕ) → AreMovers (movers_of im s) ks →
    AllEnded (movers_of im s) (played im s ks) → AtTheEnd im s (played im s ks)
ended_so im s carry ks ok all =
    let f = follows im s carry ks ok in at_the_end im s carry (played im s ks) f.0 f.1.reached f.1.course all

-- What holds of images that carry a script, in every order of their moves.
pub in_every_order : {S V : Type 0} (im : Images S V) (s : Script V) → AllCarry im s → InEveryOrder im s
in_every_order im s carry = record {
  steps = λ ks ok.
      let f = follows im s carry ks ok in
      (f.0, f.1.reached, stands_as im s carry (played im s ks) f.0 f.1.reached f.1.course);
  orders = all_end (progress im s carry) (begun_of im s) (start s) (begun_follows im s carry);
  one = λ ks ls oks ols e f.
      let x = ended_so im s carry ks oks e in
      let y = ended_so im s carry ls ols f in
      record {
        words = λ a. x.words a ∙ sym (y.words a);
        state = λ k lk. x.state k lk ∙ sym (y.state k lk);
        next = λ k lk. x.next k lk ∙ sym (y.next k lk);
        queue = λ i k li lk ne. x.queue i k li lk ne ∙ sym (y.queue i k li lk ne);
      };
  last = λ ks ok e.
      let x = ended_so im s carry ks ok e in
      record {
        words = x.words;
        state = λ q k end lk.
            let same : s.phases - 1 ≡ q = omega (arith, sym end) in
            x.state k lk ∙ ap (λ r. im.go (own im s k r (length (s.accesses r k)))) same;
        empty = x.queue;
      };
}
