-- Words set one thing.
use Rattle.std.proofs.Common.{◌≡◌, ◌∙◌, ◌++◌, ◌==◌, ℕ, List, [], ◌∷◌, sym, ap, refl, Some, rules, get_or, true, subst, if◌then◌else◌}
use Rattle.std.proofs.lemmas.Str.Parse.{IsNumeralModel, numerals_by_value}
use Rattle.std.specs.Str.{all_ascii_digits}
use Rattle.std.specs.Str.Parse.{digits_value}
use Rattle.xmp_top.specs.Settings.{Settings, Adds, Says, Sets, prefix_of}
use Rattle.xmp_top.specs.declared.options.Name.{Name}
use Rattle.xmp_top.specs.declared.options.Name.TheVariants.{Nodes, Steps, Input, Order, Node, Report}

pub own : IsNumeralModel (λ ds. all_ascii_digits ds ≡ true) (digits_value 10)
own = numerals_by_value _ (search rules)

pub cancel : (front a b : List ℕ) → front ++ a ≡ front ++ b → a ≡ b
cancel [] a b e = e
cancel (c ∷ front) a b e = cancel front a b (let P : front ++ a ≡ front ++ b = cc in P)

-- the option that a word can be: its third and its seventh byte tell
abbrev which : List ℕ → Name
which word =
    if get_or word 2 0 == 115 then Steps
    else (if get_or word 2 0 == 105 then Input
    else (if get_or word 2 0 == 111 then Order
    else (if get_or word 2 0 == 114 then Report
    else (if get_or word 6 0 == 61 then Node else Nodes))))

which_is : (name : Name) (value : List ℕ) → which (prefix_of name ++ value) ≡ name
which_is Nodes value = refl
which_is Steps value = refl
which_is Input value = refl
which_is Order value = refl
which_is Node value = refl
which_is Report value = refl

-- a word is one option with one value
pub same_name : (word : List ℕ) (n m : Name) (v w : List ℕ) → word ≡ prefix_of n ++ v → word ≡ prefix_of m ++ w → n ≡ m
same_name word n m v w e f = sym (which_is n v) ∙ (ap which (sym e ∙ f) ∙ which_is m w)

pub same_value : (word : List ℕ) (n m : Name) (v w : List ℕ) → word ≡ prefix_of n ++ v → word ≡ prefix_of m ++ w → v ≡ w
same_value word n m v w e f = cancel (prefix_of n) v w (sym e ∙ (f ∙ ap (λ (x : Name). prefix_of x ++ w) (sym (same_name word n m v w e f))))

-- an option with a value sets one thing
pub adds_one : (name : Name) (value : List ℕ) (s t u : Settings) → Adds name value s t → Adds name value s u → t ≡ u
adds_one Nodes value s t u (a, n, k, e) (b, m, l, f) = e ∙ (ap (λ (x : ℕ). record s { nodes = Some x }) (sym k.worth ∙ l.worth) ∙ sym f)
adds_one Steps value s t u (a, n, k, e) (b, m, l, f) = e ∙ (ap (λ (x : ℕ). record s { steps = Some x }) (sym k.worth ∙ l.worth) ∙ sym f)
adds_one Input value s t u (a, k, e) (b, l, f) = e ∙ sym f
adds_one Order value s t u (a, n, k, e) (b, m, l, f) = e ∙ (ap (λ (x : ℕ). record s { order = Some x }) (sym k.worth ∙ l.worth) ∙ sym f)
adds_one Node value s t u (a, n, k, e) (b, m, l, f) = e ∙ (ap (λ (x : ℕ). record s { node = Some x }) (sym k.worth ∙ l.worth) ∙ sym f)
adds_one Report value s t u (a, k, e) (b, l, f) = e ∙ sym f

-- what another reading of a word as an option sets, this one sets too
pub adds_as : (word : List ℕ) (n m : Name) (v w : List ℕ) (s t : Settings) → word ≡ prefix_of n ++ v → word ≡ prefix_of m ++ w → Adds n v s t → Adds m w s t
adds_as word n m v w s t e f a =
    let P : Name → Type 0 = λ x. Adds x w s t in
    let Q : List ℕ → Type 0 = λ x. Adds n x s t in
    subst P (same_name word n m v w e f) (subst Q (same_value word n m v w e f) a)

pub says_one : (word : List ℕ) (s t u : Settings) → Says word s t → Says word s u → t ≡ u
says_one word s t u (n, v, e, a) (m, w, f, b) = adds_one m w s t u (adds_as word n m v w s t e f a) b

-- words set one thing
pub sets_one : (words : List (List ℕ)) (s t : Settings) → Sets words s → Sets words t → s ≡ t
sets_one [] s t a b = a ∙ sym b
sets_one (word ∷ words) s t (x, a, p) (y, b, q) =
    let e = sets_one words x y a b in
    let P : Settings → Type 0 = λ z. Says word z s in
    says_one word y s t (subst P e p) q
