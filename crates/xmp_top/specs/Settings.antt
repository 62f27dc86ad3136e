-- The options of a command line.
use Rattle.std.specs.Prelude.{◌≡◌, ◌^◌, ◌-◌, ℕ, List, [], ◌∷◌, ◌++◌, Option, Some, None, Bool, true, false, nat_eq, codes}
use Rattle.std.specs.Option.{option_map}
use Rattle.std.specs.List.{starts_with}
use Rattle.xmp_base.specs.Limits.{node_limit}
use Rattle.xmp_top.specs.Numbers.{IsNumber}
use Rattle.xmp_top.specs.declared.options.Name.{Name}
use Rattle.xmp_top.specs.declared.options.Name.TheVariants.{Nodes, Steps, Input, Order, Node, Report}
use Rattle.xmp_top.specs.declared.options.Options.{Options}

-- A word that names a file begins with no `--`.
abbrev pub IsFileName : List ℕ → Type 0
IsFileName word = starts_with nat_eq word (codes "--") ≡ false

-- What the options of a command line set.
pub record Settings : Type 0 where
  pub nodes : Option ℕ
  pub steps : Option ℕ
  pub input : Option (List ℕ)
  pub order : Option ℕ
  pub node : Option ℕ
  pub report : Bool

abbrev pub unset : Settings
unset = record { nodes = None; steps = None; input = None; order = None; node = None; report = false }

-- how an option begins; its value stands behind
abbrev pub prefix_of : Name → List ℕ
prefix_of Nodes = codes "--nodes="
prefix_of Steps = codes "--steps="
prefix_of Input = codes "--input="
prefix_of Order = codes "--order="
prefix_of Node = codes "--node="
prefix_of Report = codes "--report"

-- The option, with this value, was not set before and is set now.
abbrev pub Adds : Name → List ℕ → Settings → Settings → Type 0
Adds Nodes value old new = (old.nodes ≡ None) × (n : ℕ) × IsNumber 1 node_limit value n × (new ≡ record old { nodes = Some n })
Adds Steps value old new = (old.steps ≡ None) × (n : ℕ) × IsNumber 0 (2 ^ 64 - 1) value n × (new ≡ record old { steps = Some n })
Adds Input value old new = (old.input ≡ None) × IsFileName value × (new ≡ record old { input = Some value })
Adds Order value old new = (old.order ≡ None) × (n : ℕ) × IsNumber 0 (2 ^ 64 - 1) value n × (new ≡ record old { order = Some n })
Adds Node value old new = (old.node ≡ None) × (n : ℕ) × IsNumber 0 (node_limit - 1) value n × (new ≡ record old { node = Some n })
Adds Report value old new = (old.report ≡ false) × (value ≡ []) × (new ≡ record old { report = true })

-- The word is an option with its value, and sets it.
abbrev pub Says : List ℕ → Settings → Settings → Type 0
Says word old new = (name : Name) × (value : List ℕ) × (word ≡ prefix_of name ++ value) × Adds name value old new

-- The words are options, in any order, each at most once. (The last word is taken first; since none is set twice, the order makes no difference.)
abbrev pub Sets : List (List ℕ) → Settings → Type 0
Sets [] s = s ≡ unset
Sets (word ∷ words) s = (t : Settings) × Sets words t × Says word t s

-- what the program's own record of options stands for
abbrev pub settings_of : Options → Settings
settings_of o = record { nodes = o.nodes; steps = o.steps; input = option_map (λ t. t.now) o.input; order = o.order; node = o.node; report = o.report }
