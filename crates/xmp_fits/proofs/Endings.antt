-- A world of a walk that ends in a program with no rule broken; and what names mean there.
use Rattle.std.proofs.Common.{◌≡◌, ◌<◌, ◌∙◌, sym, ap, refl, subst, ◌++◌, ◌∷◌, [], ℕ, zero, suc, Bool, true, false, not, List, Option, Some, None, length, ◌&&◌, eqb-true, IsTrue, arith}
use Rattle.std.specs.Prelude.{slice_get, is_some, ℤ, if◌then◌else◌}
use Rattle.std.proofs.lemmas.Option.{none-some}
use Rattle.std.specs.List.{flat_map, enumerate_from}
use Rattle.std.specs.Option.{unwrap_or}
use Rattle.xmp_base.specs.declared.place.Place.{Place}
use Rattle.xmp_prog.specs.declared.parts.Array as made_array
use Rattle.xmp_prog.specs.declared.parts.ProgParts.{ProgParts}
use Rattle.xmp_prog.specs.declared.statements.Stmt.{Stmt}
use Rattle.xmp_syntax.specs.declared.parts.Name as named
use Rattle.xmp_scopes.specs.Names as scope
use Rattle.xmp_names.specs.declared.mappings.NodesLine.{NodesLine}
use Rattle.xmp_names.specs.declared.names.Array as array
use Rattle.xmp_names.specs.declared.names.Meaning.{Meaning}
use Rattle.xmp_names.specs.declared.names.Meaning.TheVariants.{Scalar, Array, Nodes, Template, Function}
use Rattle.xmp_names.specs.declared.rules.Rule.{Rule}
use Rattle.xmp_names.specs.declared.rules.Rule.TheVariants.{N1, N3, N5, N9, M1}
use Rattle.xmp_names.specs.declared.rules.Broken.{Broken}
use Rattle.xmp_names.specs.declared.world.World.{World}
use Rattle.xmp_names.specs.Rules.{unless}
use Rattle.xmp_names.specs.Expressions.{is_function}
use Rattle.xmp_names.specs.Sizes.{given_or_one, line_sizes}
use Rattle.xmp_directives.specs.Directives.{sizes_in}
use Rattle.xmp_mapping_rules.specs.MappingRules.{mapping_rules, first_nodes, has_nodes, item_at, nodes_of, nodes_right, nodes_rule, nodes_rules, sizes_or_row}
use Rattle.xmp_mapping_rules.specs.Numbers.{is_at}
use Rattle.xmp_parts.specs.Narrow.{is_count}
use Rattle.xmp_parts.specs.Parts.{IsArray, Made}
use Rattle.xmp_names.specs.Walk.{Step, Gave, Run, and_then, first_of_two, a_nodes, a_template, an_array, name_of, of_kind}
use Rattle.xmp_fits.proofs.GoodSteps.{begins_get, true_name}
use Rattle.xmp_fits.proofs.GoodWorlds.{Good, Own}
use Rattle.xmp_fits.proofs.KeptRuns.{Goes, Kept, goes_noted, going}
use Rattle.xmp_fits.proofs.Respected.{Ends}
use Rattle.xmp_fits.proofs.RespectedSteps.{directive_at}
use Rattle.xmp_fits.proofs.Laters.{Later, later_trans, unbroken_before}
use Rattle.xmp_parts.proofs.MadeLists.{made_here}
use Rattle.xmp_parts.proofs.Unbroken.{holds, left_none, left_true, none_here, right_none}

-- ---- steps, opened

pub opened : {A B : Type 0} (s : Step A) (f : A → Run B) (Q : B → World → Type 0) → ((a : A) (v : World) → s ≡ Gave a v → Ends Q (f a v)) → Ends Q (and_then s f)
opened (Gave a v) f Q k = k a v refl

pub ends_at : {A : Type 0} (P : A → World → Type 0) (s : Step A) (a : A) (v : World) → Ends P s → s ≡ Gave a v → P a v
ends_at P s a v h e = subst (Ends P) e h

pub ends_in : {A : Type 0} (P : A → World → Type 0) (s : Step A) → ((a : A) (v : World) → s ≡ Gave a v → P a v) → Ends P s
ends_in P (Gave a v) k = k a v refl

pub later_at : {A : Type 0} (run : Run A) (w : World) (a : A) (v : World) → Kept run → run w ≡ Gave a v → Goes w v
later_at run w a v k e = ends_at (λ a v. Goes w v) (run w) a v (k.at w) e

-- ---- the end

-- The walk ends later in a world of which no rule breaks, and the parts are made of that.
pub record Ending (w : World) (p : ProgParts) : Type 0 where
  pub last : World
  pub main : Stmt
  pub later : Later w last
  pub unbroken : last.broken ≡ []
  pub rules : mapping_rules last ≡ []
  pub count : IsTrue (is_count last.given)
  pub made : Made main last p

abbrev pub earlier : (w v : World) (p : ProgParts) → Later w v → Ending v p → Ending w p
earlier w v p l e = record { last = e.last; main = e.main; later = later_trans l e.later; unbroken = e.unbroken; rules = e.rules; count = e.count; made = e.made }

pub no_broken : (w : World) (p : ProgParts) → Ending w p → w.broken ≡ []
no_broken w p e = unbroken_before w e.last e.later e.unbroken

-- A test that was judged last, and all before it.
pub judged_true : (bs : List Broken) (t : Bool) (rule : Rule) (at : Place) → bs ++ unless t rule at ≡ [] → t ≡ true
judged_true bs t rule at h = holds t rule at (right_none bs (unless t rule at) h)

abbrev pub before_judged : (w : World) (bs : List Broken) (p : ProgParts) → Ending (record w { broken = w.broken ++ bs }) p → Ending w p
before_judged w bs p e = earlier w (record w { broken = w.broken ++ bs }) p (goes_noted w w.deepest bs).onward.later e

abbrev pub before_noted : (w : World) (d : ℕ) (bs : List Broken) (p : ProgParts) → Ending (record w { deepest = d; broken = w.broken ++ bs }) p → Ending w p
before_noted w d bs p e = earlier w (record w { deepest = d; broken = w.broken ++ bs }) p (goes_noted w d bs).onward.later e

-- The world behind the word of a directive.
abbrev pub directed : Place → World → World
directed at w = record w {
  mappings = record w.mappings { first_directive = first_of_two w.mappings.first_directive at };
  broken = w.broken ++ unless (not (is_function w.names.region)) N5 at;
}

pub goes_directed : (at : Place) (w : World) → Goes w (directed at w)
goes_directed at w = (directive_at going at).kept.at w

-- What a step made.
abbrev value_in : {A : Type 0} → Step A → A
value_in (Gave a v) = a

pub same_value : {A : Type 0} {a b : A} {v u : World} → Gave a v ≡ Gave b u → a ≡ b
same_value e = ap value_in e

abbrev world_in : {A : Type 0} → Step A → World
world_in (Gave a v) = v

pub same_world : {A : Type 0} {a b : A} {v u : World} → Gave a v ≡ Gave b u → v ≡ u
same_world e = ap world_in e

-- ---- names

-- A name that is found, and is of the kind that is asked for.
pub record Named {A : Type 0} (kind : Meaning → Option A) (n : named.Name) (w : World) (o : Option A) : Type 0 where
  pub meaning : Meaning
  pub is : scope.nearest n.text w.names.scopes ≡ Some meaning
  pub gives : kind meaning ≡ o
  pub some : is_some o ≡ true

abbrev NameFound : {A : Type 0} → (Meaning → Option A) → named.Name → World → Option A → World → Type 0
NameFound kind n w o v = (p : ProgParts) → Ending v p → Named kind n w o

pub name_found : {A : Type 0} (kind : Meaning → Option A) (n : named.Name) (w : World) → Ends (NameFound kind n w) (name_of kind n w)
name_found {A} kind n w = go (scope.nearest n.text w.names.scopes) refl _
  where
    go : (o : Option Meaning) → scope.nearest n.text w.names.scopes ≡ o → (v : World) → Ends (NameFound kind n w) (of_kind kind n o v)
    go None e v = λ p h. absurd (cc (judged_true v.broken false N1 n.at (no_broken _ p h)))
    go (Some m) e v = λ p h. record { meaning = m; is = e; gives = refl; some = judged_true v.broken (is_some (kind m)) N3 n.at (no_broken _ p h) }

pub found_at : {A : Type 0} (kind : Meaning → Option A) (n : named.Name) (w v : World) (o : Option A) (p : ProgParts) → name_of kind n w ≡ Gave o v → Ending v p → Named kind n w o
found_at kind n w v o p e h = ends_at (NameFound kind n w) (name_of kind n w) o v (name_found kind n w) e p h

-- A nodes array, a template and an array by their numbers.
pub record Number (most : ℕ) (o : Option ℕ) : Type 0 where
  pub number : ℕ
  pub is : o ≡ Some number
  pub below : number < most

none_found : {B : Type 0} (o : Option ℕ) → None ≡ o → is_some o ≡ true → B
none_found None e h = absurd (cc)
none_found (Some x) e h = absurd (none-some x e)

pub nodes_number : (own : Own) (n : named.Name) (w : World) (o : Option ℕ) → Good own w → Named a_nodes n w o → Number (length w.mappings.nodes) o
nodes_number own n w o g f = go f.meaning f.is f.gives
  where
    go : (m : Meaning) → scope.nearest n.text w.names.scopes ≡ Some m → a_nodes m ≡ o → Number (length w.mappings.nodes) o
    go (Scalar slot ty) e k = none_found o k f.some
    go (Array j) e k = none_found o k f.some
    go (Nodes j) e k = record { number = j; is = sym k; below = true_name own w n.text (Nodes j) g e }
    go (Template j) e k = none_found o k f.some
    go (Function j r) e k = none_found o k f.some

pub template_number : (own : Own) (n : named.Name) (w : World) (o : Option ℕ) → Good own w → Named a_template n w o → Number (length w.mappings.templates) o
template_number own n w o g f = go f.meaning f.is f.gives
  where
    go : (m : Meaning) → scope.nearest n.text w.names.scopes ≡ Some m → a_template m ≡ o → Number (length w.mappings.templates) o
    go (Scalar slot ty) e k = none_found o k f.some
    go (Array j) e k = none_found o k f.some
    go (Nodes j) e k = none_found o k f.some
    go (Template j) e k = record { number = j; is = sym k; below = true_name own w n.text (Template j) g e }
    go (Function j r) e k = none_found o k f.some

pub array_number : (own : Own) (n : named.Name) (w : World) (o : Option ℕ) → Good own w → Named an_array n w o → Number (length w.names.arrays) o
array_number own n w o g f = go f.meaning f.is f.gives
  where
    go : (m : Meaning) → scope.nearest n.text w.names.scopes ≡ Some m → an_array m ≡ o → Number (length w.names.arrays) o
    go (Scalar slot ty) e k = none_found o k f.some
    go (Array j) e k = record { number = j; is = sym k; below = true_name own w n.text (Array j) g e }
    go (Nodes j) e k = none_found o k f.some
    go (Template j) e k = none_found o k f.some
    go (Function j r) e k = none_found o k f.some

-- ---- arrays, and the nodes array, at the end

-- An item that is there.
pub item_there : {A : Type 0} (xs : List A) (k : ℕ) → k < length xs → (x : A) × (slice_get xs k ≡ Some x)
item_there [] k h = absurd (omega arith)
item_there (x ∷ xs) zero h = (x, refl)
item_there (x ∷ xs) (suc k) h = item_there xs k (omega arith)

pub record ArrayThere (w : World) (p : ProgParts) (k : ℕ) : Type 0 where
  pub known : array.Array
  pub at : slice_get w.names.arrays k ≡ Some known
  pub made : made_array.Array
  pub is : slice_get p.arrays k ≡ Some made
  pub extents : made.extents ≡ known.extents

pub array_there : (w : World) (p : ProgParts) (k : ℕ) → Ending w p → k < length w.names.arrays → ArrayThere w p k
array_there w p k e h =
    let x = item_there w.names.arrays k h in
    let y : slice_get e.last.names.arrays k ≡ Some x.0 = begins_get w.names.arrays e.last.names.arrays k x.0 e.later.names.arrays x.1 in
    let m = made_here (IsArray e.last p.templates) e.last.names.arrays p.arrays k x.0 e.made.arrays y in
    record { known = x.0; at = x.1; made = m.0; is = m.1; extents = m.2.extents }

at_is : (k : ℕ) (place : Option ℕ) → is_at k place ≡ true → place ≡ Some k
at_is k None h = cc
at_is k (Some j) h = ap (λ (n : ℕ). Some n) (eqb-true j k h)

-- There is one nodes array, and no part of it.
only_first : (w : World) (k : ℕ) (l : NodesLine) → mapping_rules w ≡ [] → slice_get w.mappings.nodes k ≡ Some l → first_nodes w ≡ Some k
only_first w k l h e =
    let rules : nodes_rules w ≡ [] = left_none (nodes_rules w) _ h in
    by l.part (none_here (nodes_rule w) w.mappings.nodes k l (left_none (flat_map (nodes_rule w) (enumerate_from 0 w.mappings.nodes)) (has_nodes (first_nodes w) w.mappings.first_directive) rules) e)
  where
    sizes : List ℤ
    sizes = line_sizes (given_or_one w) l

    by : (part : Bool) → (if part then unless false N9 l.at else unless (is_at k (first_nodes w) && nodes_right w.given sizes) M1 l.at) ≡ [] → first_nodes w ≡ Some k
    by true one = cc
    by false one = at_is k (first_nodes w) (left_true (is_at k (first_nodes w)) (nodes_right w.given sizes) (holds (is_at k (first_nodes w) && nodes_right w.given sizes) M1 l.at one))

-- The sizes of a nodes array that is named are those of the grid.
pub sizes_at_end : (w : World) (p : ProgParts) (k : ℕ) (e : Ending w p) → k < length w.mappings.nodes → sizes_in (given_or_one w) (slice_get w.mappings.nodes k) ≡ nodes_of e.last
sizes_at_end w p k e h =
    let x = item_there w.mappings.nodes k h in
    let y : slice_get e.last.mappings.nodes k ≡ Some x.0 = begins_get w.mappings.nodes e.last.mappings.nodes k x.0 e.later.mappings.nodes x.1 in
    let z : item_at e.last.mappings.nodes (first_nodes e.last) ≡ Some x.0 = ap (item_at e.last.mappings.nodes) (only_first e.last k x.0 e.rules y) ∙ y in
    let given : given_or_one e.last ≡ given_or_one w = ap (λ g. unwrap_or g 1) e.later.given in
    ap (sizes_in (given_or_one w)) x.1 ∙ (ap (λ n. line_sizes n x.0) (sym given) ∙ ap (sizes_or_row (given_or_one e.last)) (sym z))
