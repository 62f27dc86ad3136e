-- Plans of events of any kind E, and the paths through them. Source: this project, after the ways through the
-- statements of ISO C11, 6.8.
use Rattle.std.specs.Prelude.{ℕ, zero, suc, ◌≡◌, List, [], ◌∷◌, ◌++◌, ◌⊎◌}

-- what happens in a program, without the program: nothing, one event, one part after another, either of two, or a
-- part any number of times
pub data Plan (E : Type 0) : Type 0 where
  skip : Plan E
  emit : E → Plan E
  sequence : Plan E → Plan E → Plan E
  branch : Plan E → Plan E → Plan E
  loop : Plan E → Plan E

-- one list of each kind, laid end to end
pub record Joined {E : Type 0} (P Q : List E → Type 0) (events : List E) : Type 0 where
  pub front : List E
  pub back : List E
  pub whole : events ≡ front ++ back
  pub in_front : P front
  pub in_back : Q back

-- so many lists of one kind, laid end to end
abbrev pub Repeated : {E : Type 0} → (List E → Type 0) → ℕ → List E → Type 0
Repeated P zero events = events ≡ []
Repeated P (suc n) events = Joined P (Repeated P n) events

-- the events of one way through the plan
abbrev pub Path : {E : Type 0} → Plan E → List E → Type 0
Path skip events = events ≡ []
Path (emit e) events = events ≡ e ∷ []
Path (sequence p q) events = Joined (Path p) (Path q) events
Path (branch p q) events = Path p events ⊎ Path q events
Path (loop p) events = (n : ℕ) × Repeated (Path p) n events

-- the event stands somewhere in the plan
abbrev pub Stands : {E : Type 0} → Plan E → E → Type 0
Stands skip event = ⊥
Stands (emit e) event = e ≡ event
Stands (sequence p q) event = Stands p event ⊎ Stands q event
Stands (branch p q) event = Stands p event ⊎ Stands q event
Stands (loop p) event = Stands p event

-- the plans, one after another
abbrev pub in_order : {E : Type 0} → List (Plan E) → Plan E
in_order [] = skip
in_order (p ∷ rest) = sequence p (in_order rest)
