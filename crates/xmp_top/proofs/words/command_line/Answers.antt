use Rattle.std.proofs.Common.{◌≡◌, ◌∙◌, ◌∷◌, ◌++◌, [], List, ℕ, map, string_bytes, sym, ap, true}
use Rattle.xmp_top.specs.Settings.{settings_of}
use Rattle.xmp_top.specs.Forms.{word_of}
use Rattle.xmp_top.proofs.Counts.{sets_count}
use Rattle.xmp_top.proofs.OneForm.{takes_as, words_of}
use Rattle.xmp_top.proofs.words.command_line.Goals as goal

pub returns-then-not-takes-clause-none : goal.returns-then-not-takes-clause-none
returns-then-not-takes-clause-none c = λ form h.
    let w = words_of (λ w. string_bytes w) c.args.words.now c.in_ok-first.rest.now c.in_ok-file.middle.now c.in_ok-first.first.now c.in_ok-file.file.now c.in_ok-first.ensures.cases.0 c.in_ok-file.ensures.cases.0 in
    let first : string_bytes c.in_ok-first.first.now ≡ word_of c.in_ok-command.command = sym c.as_str.ensures.value ∙ c.in_ok-command.ensures.some in
    let rest = map (λ w. string_bytes w) c.in_ok-file.middle.now ++ string_bytes c.in_ok-file.file.now ∷ [] in
    let taken = takes_as c.in_ok-command.command (map (λ w. string_bytes w) c.in_ok-file.middle.now) (settings_of c.in_ok-options.options) (string_bytes c.in_ok-file.file.now) (map (λ w. string_bytes w) c.args.words.now) form (w ∙ ap (λ (x : List ℕ). x ∷ rest) first) c.in_ok-options.ensures.some h in
    let yes : c.takes.result ≡ true = c.takes.ensures.1 taken in
    let no = c.if-not-takes.true in
    absurd (cc)

pub returns-clause-count : goal.returns-clause-count
returns-clause-count c = sets_count (map (λ w. string_bytes w) c.in_ok-file.middle.now) (settings_of c.in_ok-options.options) c.in_ok-options.ensures.some
