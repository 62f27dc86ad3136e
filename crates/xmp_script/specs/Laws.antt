-- What holds of a script without conflicts, and of images that carry it, in every order of their steps.
use Rattle.std.specs.Prelude.{◌≡◌, ◌≢◌, ℕ, suc, ◌<◌, List, length}
use Rattle.xmp_orders.specs.Movers.{Movers, run, AreMovers, AllEnded}
use Rattle.xmp_orders.specs.Progress.{AllEndFrom}
use Rattle.xmp_script.specs.Script.{Script, Get, seen, words_at}
use Rattle.xmp_script.specs.World.{World, Reached, MayAccess}
use Rattle.xmp_script.specs.LastPuts.{IsSeen}
use Rattle.xmp_script.specs.Images.{Images, Standing, begun, movers}
use Rattle.xmp_script.specs.Carries.{own, StandsAs, IsSameStanding}
use Rattle.xmp_script.specs.Bounds.{most_steps}

-- in every order a get finds what its image sees
abbrev pub GetsSee : {V : Type 0} → Script V → Type 0
GetsSee {V} s =
    (w : World V) (k e : ℕ) → Reached s w → k < s.images → MayAccess s w k (Get e) →
    w.words e ≡ seen s k (w.phase k) (w.place k) e

-- in every order, where all images have passed the last phase, the words are the final ones
abbrev pub EndsWithFinalWords : {V : Type 0} → Script V → Type 0
EndsWithFinalWords {V} s =
    (w : World V) (e : ℕ) → Reached s w → 0 < s.images → ((k : ℕ) → k < s.images → w.phase k ≡ s.phases) →
    w.words e ≡ words_at s s.phases e

-- what an image sees is the value of the last put that counts for it, and no other
abbrev pub SeesLastPut : {V : Type 0} → Script V → Type 0
SeesLastPut {V} s =
    (k q i e : ℕ) → IsSeen s k q i e (seen s k q i e) × ((v : V) → IsSeen s k q i e v → v ≡ seen s k q i e)

-- ---- images that carry a script

-- the images of a script, as things that move
abbrev pub movers_of : {S V : Type 0} → Images S V → Script V → Movers (Standing S V)
movers_of im s = movers im s.images

-- the images before any move
abbrev pub begun_of : {S V : Type 0} → Images S V → Script V → Standing S V
begun_of im s = begun im s.images s.start

-- the images when these have moved in turn
abbrev pub played : {S V : Type 0} → Images S V → Script V → List ℕ → Standing S V
played im s ks = run (movers_of im s) ks (begun_of im s)

-- every run is a run of the script's steps
abbrev pub StepsAreTheScripts : {S V : Type 0} → Images S V → Script V → Type 0
StepsAreTheScripts {S} {V} im s =
    (ks : List ℕ) → AreMovers (movers_of im s) ks → (w : World V) × Reached s w × StandsAs im s (played im s ks) w

-- two runs in which all end leave the same
abbrev pub OneEnd : {S V : Type 0} → Images S V → Script V → Type 0
OneEnd im s =
    (ks ls : List ℕ) → AreMovers (movers_of im s) ks → AreMovers (movers_of im s) ls →
    AllEnded (movers_of im s) (played im s ks) → AllEnded (movers_of im s) (played im s ls) →
    IsSameStanding s.images (played im s ks) (played im s ls)

-- that is the script's final words, each image at the end of its own list, and no message
pub record Ends {S V : Type 0} (im : Images S V) (s : Script V) (v : Standing S V) : Type 0 where
  pub words : (e : ℕ) → v.words e ≡ words_at s s.phases e
  pub state : (q k : ℕ) → suc q ≡ s.phases → k < s.images → v.state k ≡ im.go (own im s k q (length (s.accesses q k)))
  pub empty : (i k : ℕ) → i < s.images → k < s.images → i ≢ k → v.queue i k ≡ 0

-- where all have ended
abbrev pub EndsAsTheScript : {S V : Type 0} → Images S V → Script V → Type 0
EndsAsTheScript im s =
    (ks : List ℕ) → AreMovers (movers_of im s) ks → AllEnded (movers_of im s) (played im s ks) → Ends im s (played im s ks)

-- What holds of images that carry a script, in every order of their moves.
pub record InEveryOrder {S V : Type 0} (im : Images S V) (s : Script V) : Type 0 where
  pub steps : StepsAreTheScripts im s
  pub orders : AllEndFrom (movers_of im s) (most_steps s) (begun_of im s)
  pub one : OneEnd im s
  pub last : EndsAsTheScript im s
