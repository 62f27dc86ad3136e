-- What the functions below `expand` do, in the form that their answers have.
use Rattle.std.specs.Prelude.{Bool, true, false, slice_get, ◌≡◌, ◌≤◌, ◌<◌, ◌+◌, ◌*◌, ℕ, List, [], ◌∷◌, ◌++◌, length, map, Some, None, ⊤}
use Rattle.xmp_base.specs.Limits.{token_limit}
use Rattle.xmp_base.specs.declared.place.Place.{Place}
use Rattle.xmp_base.specs.declared.refusal.Fault.{Fault}
use Rattle.xmp_base.specs.declared.refusal.Fault.TheVariants as fault
use Rattle.xmp_base.specs.declared.refusal.Phase.TheVariants as phase
use Rattle.xmp_lex.specs.declared.token.Token.{Token}
use Rattle.xmp_lex.specs.declared.token.TokenKind.TheVariants as t
use Rattle.xmp_lex.specs.declared.output.Output.{Output}
use Rattle.xmp_lex.specs.declared.token.TokenKind.{TokenKind}
use Rattle.xmp_lex.specs.declared.definitions.Use.{Use}
use Rattle.xmp_lex.specs.Expand.{Definition, Event, Replaces, moved, tokens_of, body_of, IsBody}

-- the refusal by a rule E
abbrev pub breaks_macro : ℕ → Place → Fault
breaks_macro rule at = fault.Refused (record { phase = phase.Macro; rule = rule; at = at })

-- there is no room for one more
abbrev pub IsFull : ℕ → Place → Fault → Type 0
IsFull count at fault.NoMemory = ⊤
IsFull count at (fault.Refused r) = (fault.Refused r ≡ breaks_macro 2 at) × (count ≡ token_limit)

-- these events are put out
pub record PutsOut (events : List Event) (old new : Output) : Type 0 where
  pub tokens : new.tokens.items ≡ old.tokens.items ++ tokens_of events
  pub count : new.count ≡ old.count + length events
  pub few : new.count ≤ token_limit

-- events of which P holds are put out
pub record Puts (P : List Event → Type 0) (old new : Output) : Type 0 where
  pub events : List Event
  pub are : P events
  pub put : PutsOut events old new

-- events of which P holds are too many
abbrev pub Overflows : (List Event → Type 0) → Output → Place → Fault → Type 0
Overflows P old at fault.NoMemory = ⊤
Overflows P old at (fault.Refused r) = (fault.Refused r ≡ breaks_macro 2 at)
    × ((events : List Event) × P events × (token_limit < old.count + length events))

-- What is still to come from the uses that stand open, the outermost first, each with its name and the tokens that it has left.
pub data Pending (known : List Definition) (at : Place) : List (List ℕ) → List Definition → List Event → Type 0 where
  none : (hidden : List (List ℕ)) → Pending known at hidden [] []
  within : (hidden : List (List ℕ)) (use_ : Definition) (uses : List Definition) (inner es : List Event)
      → Pending known at (use_.0 ∷ hidden) uses inner
      → Replaces known (use_.0 ∷ hidden) (moved at use_.1) es → Pending known at hidden (use_ ∷ uses) (inner ++ es)

abbrev pub names_of : List Definition → List (List ℕ)
names_of uses = map (λ u. u.0) uses

abbrev pub frame : Use → Definition
frame use_ = (use_.name.now, use_.rest.now)

abbrev pub frames : List Use → List Definition
frames uses = map frame uses

-- a use that has tokens left can't go on
abbrev pub IsStopped : ℕ → List Token → Place → Fault → Type 0
IsStopped count left at fault.NoMemory = ⊤
IsStopped count left at (fault.Refused r) = (fault.Refused r ≡ breaks_macro 2 at) × (count ≡ token_limit) × (0 < length left)

-- one step of the innermost use
pub record Advances (known : List Definition) (at : Place) (before after : List Definition) (hidden : List (List ℕ)) (old new : Output) : Type 0 where
  pub events : List Event
  pub to_come : (later : List Event) → Pending known at [] after later → Pending known at [] before (events ++ later)
  pub names : hidden ≡ names_of after
  pub put : PutsOut events old new
  pub smaller : length after < length before + 2 * length events

-- the tokens of a line before its Close, and what follows it
pub record IsLine (body behind rest : List Token) : Type 0 where
  pub close : Token
  pub line : behind ≡ body ++ close ∷ rest
  pub is_body : IsBody body
  pub closes : close.kind ≡ t.Close

-- a definition is read: its tokens, and what follows its line
pub record Defines (known new : List Definition) (name : List ℕ) (behind rest : List Token) : Type 0 where
  pub body : List Token
  pub is_line : IsLine body behind rest
  pub is_new : body_of known name ≡ None
  pub added : new ≡ known ++ (name, body) ∷ []

abbrev pub IsSecond : List Definition → List ℕ → Place → Fault → Type 0
IsSecond known name at fault.NoMemory = ⊤
IsSecond known name at (fault.Refused r) = (fault.Refused r ≡ breaks_macro 1 at) × ((body : List Token) × (body_of known name ≡ Some body))

abbrev pub is_close : TokenKind → Bool
is_close t.Close = true
is_close _ = false

-- expansion goes on behind a token of this kind: a definition is read, or events are put out
abbrev pub Steps : TokenKind → List Definition → List Definition → Token → List Token → List Token → Output → Output → Type 0
Steps (t.Define name) known new token behind rest old output = Defines known new name behind rest × (output ≡ old)
Steps _ known new token behind rest old output = (new ≡ known) × (rest ≡ behind) × Puts (Replaces known [] (token ∷ [])) old output

-- a rule E breaks at a token of this kind
abbrev pub BreaksAt : TokenKind → List Definition → Token → Output → Fault → Type 0
BreaksAt (t.Define name) known token old fault = IsSecond known name token.at fault
BreaksAt _ known token old fault = Overflows (Replaces known [] (token ∷ [])) old token.at fault
