-- Macros. Source: ISO C 6.10.3, object-like macros, by recursion on the names that are hidden.
use Rattle.std.specs.Prelude.{◌≡◌, ◌≢◌, ◌≤◌, ℕ, List, [], ◌∷◌, ◌++◌, length, map, All, Option, Some, None, option_map, Bool, true, false, nat_eq, if◌then◌else◌, ⊤}
use Rattle.std.specs.List.{list_any}
use Rattle.std.specs.Map.{lookup}
use Rattle.std.specs.Cmp.Lexicographic.{pointwise}
use Rattle.xmp_base.specs.Limits.{token_limit}
use Rattle.xmp_base.specs.declared.place.Place.{Place}
use Rattle.xmp_base.specs.declared.refusal.Fault.{Fault}
use Rattle.xmp_base.specs.declared.refusal.Fault.TheVariants as fault
use Rattle.xmp_base.specs.declared.refusal.Phase.TheVariants as phase
use Rattle.xmp_lex.specs.declared.token.Token.{Token}
use Rattle.xmp_lex.specs.declared.token.TokenKind.{TokenKind}
use Rattle.xmp_lex.specs.declared.token.TokenKind.TheVariants as t

-- a definition: a name and its tokens
abbrev pub Definition : Type 0
Definition = List ℕ × List Token

-- equal names
abbrev pub same : List ℕ → List ℕ → Bool
same a b = pointwise nat_eq a b

-- the tokens that a name is defined as
abbrev pub body_of : List Definition → List ℕ → Option (List Token)
body_of known name = lookup (same name) known

-- the definition by which a token is replaced: that of a name which isn't hidden
abbrev pub definition_of : List Definition → List (List ℕ) → TokenKind → Option Definition
definition_of known hidden (t.Name name) = if list_any (same name) hidden then None else option_map (λ body. (name, body)) (body_of known name)
definition_of known hidden _ = None

-- tokens at the place of a use
abbrev pub moved : Place → List Token → List Token
moved at tokens = map (λ x. record { kind = x.kind; at = at }) tokens

-- What expansion comes to: a token that stays, a name that is replaced, a name that is defined again.
pub data Event : Type 0 where
  out : Token → Event
  used : Place → Event
  again : Place → Event

-- Tokens with no definition among them, where these names are hidden: a name that is replaced stands before the tokens that it gives, and
-- is hidden in them.
pub data Replaces (known : List Definition) : List (List ℕ) → List Token → List Event → Type 0 where
  done : (hidden : List (List ℕ)) → Replaces known hidden [] []
  keep : (hidden : List (List ℕ)) (x : Token) (ts : List Token) (es : List Event) → definition_of known hidden x.kind ≡ None
      → Replaces known hidden ts es → Replaces known hidden (x ∷ ts) (out x ∷ es)
  replace : (hidden : List (List ℕ)) (x : Token) (d : Definition) (ts : List Token) (inner es : List Event)
      → definition_of known hidden x.kind ≡ Some d
      → Replaces known (d.0 ∷ hidden) (moved x.at d.1) inner → Replaces known hidden ts es
      → Replaces known hidden (x ∷ ts) (used x.at ∷ inner ++ es)

-- the start of a definition
abbrev pub IsDefine : TokenKind → Type 0
IsDefine (t.Define name) = ⊤
IsDefine _ = ⊥

-- the tokens of a definition: those before its Close
abbrev pub IsBody : List Token → Type 0
IsBody body = All (λ x. x.kind ≢ t.Close) body

-- The tokens of a text, behind these definitions: a definition serves what follows it, and gives no token.
pub data Expands : List Definition → List Token → List Event → Type 0 where
  end : (known : List Definition) → Expands known [] []
  token : (known : List Definition) (x : Token) (ts : List Token) (inner es : List Event) → (IsDefine x.kind → ⊥)
      → Replaces known [] (x ∷ []) inner → Expands known ts es → Expands known (x ∷ ts) (inner ++ es)
  define : (known : List Definition) (x close : Token) (name : List ℕ) (body ts : List Token) (es : List Event) → x.kind ≡ t.Define name
      → body_of known name ≡ None → IsBody body → close.kind ≡ t.Close
      → Expands (known ++ (name, body) ∷ []) ts es → Expands known (x ∷ (body ++ close ∷ ts)) es
  define_again : (known : List Definition) (x close : Token) (name : List ℕ) (old body ts : List Token) (es : List Event)
      → x.kind ≡ t.Define name → body_of known name ≡ Some old → IsBody body → close.kind ≡ t.Close
      → Expands known ts es → Expands known (x ∷ (body ++ close ∷ ts)) (again x.at ∷ es)

-- the tokens that stay
abbrev pub tokens_of : List Event → List Token
tokens_of [] = []
tokens_of (out x ∷ es) = x ∷ tokens_of es
tokens_of (used at ∷ es) = tokens_of es
tokens_of (again at ∷ es) = tokens_of es

-- tokens and replaced names count
abbrev pub counts : Event → Bool
counts (out x) = true
counts (used at) = true
counts (again at) = false

-- where an event is: for a use the place of the name
abbrev pub place_of : Event → Place
place_of (out x) = x.at
place_of (used at) = at
place_of (again at) = at

-- no rule E breaks in these events
pub record IsFine (es : List Event) : Type 0 where
  pub once : All (λ e. counts e ≡ true) es
  pub few : length es ≤ token_limit

-- The first event at which a rule E breaks: the rule, and the event's place.
pub data BreaksMacroRule (es : List Event) : ℕ → Place → Type 0 where
  twice : (before after : List Event) (at : Place) → es ≡ before ++ again at ∷ after → IsFine before → BreaksMacroRule es 1 at
  too_many : (before after : List Event) (e : Event) → es ≡ before ++ e ∷ after → counts e ≡ true → IsFine before
      → length before ≡ token_limit → BreaksMacroRule es 2 (place_of e)

-- The expansion of a text's tokens.
pub record Expanded (tokens result : List Token) : Type 0 where
  pub events : List Event
  pub expands : Expands [] tokens events
  pub fine : IsFine events
  pub result_is : result ≡ tokens_of events

-- A rule E breaks in the expansion, at this place and before no other.
pub record BreaksMacros (tokens : List Token) (rule : ℕ) (at : Place) : Type 0 where
  pub events : List Event
  pub expands : Expands [] tokens events
  pub breaks : BreaksMacroRule events rule at

-- The refusal of a text by a rule E, and want of memory, which no clause ties to anything.
abbrev pub IsMacroRefusal : List Token → Fault → Type 0
IsMacroRefusal tokens fault.NoMemory = ⊤
IsMacroRefusal tokens (fault.Refused r) = (r.phase ≡ phase.Macro) × BreaksMacros tokens r.rule r.at
