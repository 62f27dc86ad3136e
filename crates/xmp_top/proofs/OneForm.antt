-- Words spell one form.
use Rattle.std.proofs.Common.{◌≡◌, ◌∙◌, ◌++◌, ◌==◌, get_or, if◌then◌else◌, ℕ, List, [], ◌∷◌, map, sym, ap, refl, subst}
use Rattle.std.proofs.lemmas.List.{map-append}
use Rattle.xmp_top.specs.Settings.{Settings, Sets}
use Rattle.xmp_top.specs.Forms.{Form, SpellsForm, Takes, word_of}
use Rattle.xmp_top.specs.declared.forms.Command.{Command}
use Rattle.xmp_top.specs.declared.forms.Command.TheVariants.{Check, Serial, Run}
use Rattle.xmp_top.proofs.Unique.{sets_one}

not_empty : {A : Type 0} (xs : List A) (x : A) → [] ≡ xs ++ x ∷ [] → ⊥
not_empty [] x e = absurd (cc)
not_empty (y ∷ xs) x e = absurd (cc)

-- lists with an item at the end are the same in both
pub snoc_one : {A : Type 0} (xs ys : List A) (x y : A) → xs ++ x ∷ [] ≡ ys ++ y ∷ [] → (xs ≡ ys) × (x ≡ y)
snoc_one [] [] x y e = (refl, cc)
snoc_one [] (b ∷ ys) x y e = let t : [] ≡ ys ++ y ∷ [] = cc in absurd (not_empty ys y t)
snoc_one (a ∷ xs) [] x y e = let t : [] ≡ xs ++ x ∷ [] = cc in absurd (not_empty xs x t)
snoc_one (a ∷ xs) (b ∷ ys) x y e =
    let t : xs ++ x ∷ [] ≡ ys ++ y ∷ [] = cc in
    let r = snoc_one xs ys x y t in
    let h : a ≡ b = cc in
    let r0 : xs ≡ ys = r.0 in
    (cc, r.1)

-- the command that a word can be: its first byte tells
abbrev command_in : List ℕ → Command
command_in word = if get_or word 0 0 == 99 then Check else (if get_or word 0 0 == 115 then Serial else Run)

command_is : (command : Command) → command_in (word_of command) ≡ command
command_is Check = refl
command_is Serial = refl
command_is Run = refl

same_command : (a b : Command) → word_of a ≡ word_of b → a ≡ b
same_command a b e = sym (command_is a) ∙ (ap command_in e ∙ command_is b)

pub parts_one : (a b : Command) (xs ys : List (List ℕ)) (x y : List ℕ) → word_of a ∷ (xs ++ x ∷ []) ≡ word_of b ∷ (ys ++ y ∷ []) → (a ≡ b) × (xs ≡ ys) × (x ≡ y)
parts_one a b xs ys x y e =
    let h : word_of a ≡ word_of b = cc in
    let t : xs ++ x ∷ [] ≡ ys ++ y ∷ [] = cc in
    let r = snoc_one xs ys x y t in
    (same_command a b h, r.0, r.1)

-- words spell one form
pub spells_one : (f g : Form) (words : List (List ℕ)) → SpellsForm f words → SpellsForm g words → f ≡ g
spells_one f g words s t =
    let r = parts_one f.command g.command s.options t.options f.file g.file (sym s.words_are ∙ t.words_are) in
    let P : List (List ℕ) → Type 0 = λ x. Sets x f.settings in
    let q : f.settings ≡ g.settings = sets_one t.options f.settings g.settings (subst P r.1 s.sets) t.sets in
    ap (λ (x : Command). record f { command = x }) r.0
    ∙ (ap (λ (x : Settings). record f { command = g.command; settings = x }) q
    ∙ ap (λ (x : List ℕ). record f { command = g.command; settings = g.settings; file = x }) r.2)

-- where words are a command, options and a file, and spell a form, the command takes the options
pub takes_as : (command : Command) (options : List (List ℕ)) (settings : Settings) (file : List ℕ) (words : List (List ℕ)) (form : Form) →
    words ≡ word_of command ∷ (options ++ file ∷ []) → Sets options settings → SpellsForm form words → Takes command settings
takes_as command options settings file words form e s h =
    let r = parts_one form.command command h.options options form.file file (sym h.words_are ∙ e) in
    let P : List (List ℕ) → Type 0 = λ x. Sets x form.settings in
    let q : form.settings ≡ settings = sets_one options form.settings settings (subst P r.1 h.sets) s in
    let Q : Command → Type 0 = λ x. Takes x form.settings in
    let R : Settings → Type 0 = λ x. Takes command x in
    subst R q (subst Q r.0 h.takes)

pub words_of : {A : Type 0} (f : A → List ℕ) (words rest middle : List A) (first file : A) → words ≡ first ∷ rest → rest ≡ middle ++ file ∷ [] →
    map f words ≡ f first ∷ (map f middle ++ f file ∷ [])
words_of f words rest middle first file e r = ap (map f) e ∙ ap (λ x. f first ∷ x) (ap (map f) r ∙ map-append f middle (file ∷ []))
