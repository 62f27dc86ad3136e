-- What holds of every machine.
use Rattle.std.specs.Prelude.{◌≡◌, ℕ, ◌<◌, ◌≤◌, true, IsSome, Option, Some, Bool}
use Rattle.xmp_steps.specs.Machine.{Next, Goes, Stops, within, left, Steps, Comes, Is, fed, Stopping, until, turns}

-- whatever the bounds, one stop alone is found
abbrev pub OneStop : {S P : Type 0} → (S → Next S P) → Type 0
OneStop {S} {P} next = (s : S) (n m : ℕ) (x y : P × S) → within next n s ≡ Some x → within next m s ≡ Some y → x ≡ y

-- a larger bound finds the same stop
abbrev pub MoreFindsTheSame : {S P : Type 0} → (S → Next S P) → Type 0
MoreFindsTheSame {S} {P} next =
    (s : S) (n m : ℕ) (x : P × S) → n ≤ m → within next n s ≡ Some x → within next m s ≡ Some x

-- a step finds the same stop, and fewer steps are left
abbrev pub StepsComeNearer : {S P : Type 0} → (S → Next S P) → Type 0
StepsComeNearer {S} {P} next =
    (n : ℕ) (s t : S) (o : Option (P × S)) → IsSome o → within next n s ≡ o → next s ≡ Goes t →
    (within next n t ≡ o) × (left next n t < left next n s)

-- so do several
abbrev pub RunsComeNearer : {S P : Type 0} → (S → Next S P) → Type 0
RunsComeNearer {S} {P} next =
    (n : ℕ) (s t : S) (o : Option (P × S)) → IsSome o → within next n s ≡ o → Steps next s t →
    (within next n t ≡ o) × (left next n t < left next n s)

-- the state that was found stands at the stop, and the machine comes to it
abbrev pub StopsAreFound : {S P : Type 0} → (S → Next S P) → Type 0
StopsAreFound {S} {P} next =
    (n : ℕ) (s t : S) (p : P) → within next n s ≡ Some (p, t) → (next t ≡ Stops p) × Comes next (Is t) s

-- a stop that the machine comes to is found within some number of steps
abbrev pub StopsThatComeAreFound : {S P : Type 0} → (S → Next S P) → Type 0
StopsThatComeAreFound {S} {P} next =
    (t s : S) (p : P) → Comes next (Is t) s → next t ≡ Stops p → (n : ℕ) × (within next n s ≡ Some (p, t))

-- a run of the fed machine to an end is the plain machine's list of stops
abbrev pub FedIsStopping : {S P : Type 0} → (S → Next S P) → (P → S → Option S) → Type 0
FedIsStopping {S} {P} next resume =
    (s t : S) (p : P) → Comes (fed next resume) (Is t) s → fed next resume t ≡ Stops p → Stopping next resume (Is t) s

-- where the test holds after n turns, the loop comes to its end within as many
abbrev pub LoopsEnd : {S : Type 0} → (S → Bool) → (S → S) → Type 0
LoopsEnd {S} done turn = (n : ℕ) (s : S) → done (turns turn n s) ≡ true → IsSome (within (until done turn) n s)
