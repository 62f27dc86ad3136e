-- What is due, by its status.
use Rattle.std.proofs.Common.{◌≡◌, ◌≢◌, ◌∙◌, ℕ, List, [], Option, Some, None, refl, sym, ap, subst}
use Rattle.xmp_base.specs.declared.refusal.Refusal.{Refusal}
use Rattle.xmp_base.specs.declared.status.Status.TheVariants.{Ended}
use Rattle.xmp_prog.specs.declared.parts.ProgParts.{ProgParts}
use Rattle.xmp_meaning.specs.declared.outcome.Outcome.{Outcome}
use Rattle.xmp_meaning.specs.declared.outcome.Outcome.TheVariants as outcome
use Rattle.xmp_meaning.specs.Programs.{serial}
use Rattle.xmp_top.specs.declared.forms.Command.{Command}
use Rattle.xmp_top.specs.declared.forms.Command.TheVariants.{Check, Serial, Run}
use Rattle.xmp_top.specs.Forms.{Form, SpellsForm, SpellsNoForm}
use Rattle.xmp_top.specs.Delivery.{Due}
use Rattle.xmp_top.specs.Answer as a
use Rattle.xmp_top.specs.Answer.{FilesCall, AnswersText, AnswersForm, AnswersInput, AnswersRead, IsDue, IsRead, due_of, run_on, says_usage, says_read_fault, says_too_large, says_refused, steps_in}
use Rattle.xmp_top.specs.Causes as cause
use Rattle.xmp_top.specs.Causes.{ReadSource, ReadProgram, ReadFaulted, WasTooLarge, WasRefused, WasRun, HasEnded, IsEnd, IsInput}

ends : (o : Outcome) → IsEnd (due_of o).status
ends (outcome.Ended out arrays) = tt
ends (outcome.Trapped out kind at) = tt
ends (outcome.OutOfSteps out) = tt

-- What is due is one of these.
pub data Kind (words : List (List ℕ)) (files : FilesCall) (due : Due) : Type 0 where
  usage : SpellsNoForm words → due ≡ says_usage → Kind words files due
  read_fault : ReadFaulted words files → due ≡ says_read_fault → Kind words files due
  too_large : WasTooLarge words files → due ≡ says_too_large → Kind words files due
  refused : (r : Refusal) → WasRefused words files r → due ≡ says_refused r → Kind words files due
  ended : HasEnded words files due → due.status ≡ Ended → Kind words files due
  ran : WasRun words files due → IsEnd due.status → Kind words files due

pub status_is : (due other : Due) → due ≡ other → due.status ≡ other.status
status_is due other e = ap (λ (x : Due). x.status) e

ran_on : (words : List (List ℕ)) (files : FilesCall) (due : Due) (form : Form) (p : ProgParts) (input : List ℕ) → ReadProgram words files form p
    → IsInput files form.settings.input input → due ≡ run_on form.settings p input → Kind words files due
ran_on words files due form p input program is e =
    ran (record { form = form; p = p; program = program; input = input; is_input = is; due_is = e })
    (subst IsEnd (sym (status_is due (run_on form.settings p input) e)) (ends (serial p input (steps_in form.settings.steps))))

by_input : (words : List (List ℕ)) (files : FilesCall) (due : Due) (form : Form) (p : ProgParts) (named : Option (List ℕ)) → form.settings.input ≡ named
    → ReadProgram words files form p → AnswersInput files form.settings p named due → Kind words files due
by_input words files due form p None n program e = ran_on words files due form p [] program (subst (λ o. IsInput files o []) (sym n) refl) e
by_input words files due form p (Some name) n program (a.input_unread f e) = read_fault (cause.of_input form p program name n f) e
by_input words files due form p (Some name) n program (a.input_too_large input r l e) = too_large (cause.of_input form p program name n input r l) e
by_input words files due form p (Some name) n program (a.runs input r l e) = ran_on words files due form p input program (subst (λ o. IsInput files o input) (sym n) (r, l)) e

not_run : (c : Command) → c ≢ Run → (d : Command) → d ≡ c → d ≢ Run
not_run c n d e r = n (sym e ∙ r)

check_apart : Check ≢ Run
check_apart e = cc

serial_apart : Serial ≢ Run
serial_apart e = cc

by_command : (words : List (List ℕ)) (files : FilesCall) (due : Due) (form : Form) (text : List ℕ) → ReadSource words files form text → (c : Command)
    → form.command ≡ c → AnswersText files c form.settings text due → Kind words files due
by_command words files due form text s Check c (a.breaks r b e) = refused r (cause.by_rule form text s (not_run Check check_apart form.command c) b) e
by_command words files due form text s Check c (a.accepted p b e) = ended (cause.by_check form text s c p b e) (status_is due a.says_accepted e)
by_command words files due form text s Serial c (a.breaks r b e) = refused r (cause.by_rule form text s (not_run Serial serial_apart form.command c) b) e
by_command words files due form text s Serial c (a.accepted p b i) =
    by_input words files due form p form.settings.input refl (record { text = text; source = s; serial = c; accepted = b }) i
by_command words files due form text s Run c (a.no_program n e) = refused a.first_refusal (cause.by_form form text s c n refl) e
by_command words files due form text s Run c (a.printed out b e) = ended (cause.by_run form text s c out b e) (status_is due (a.prints out) e)

by_form : (words : List (List ℕ)) (files : FilesCall) (due : Due) (form : Form) → SpellsForm form words → AnswersForm files form due → Kind words files due
by_form words files due form s (a.source_unread f e) = read_fault (cause.of_source form s f) e
by_form words files due form s (a.source_too_large text r l e) = too_large (cause.of_source form s text r l) e
by_form words files due form s (a.answered text r l t) =
    by_command words files due form text (record { spells = s; read = r; fits = l }) form.command refl t

pub kind_of : (words : List (List ℕ)) (files : FilesCall) (due : Due) → IsDue files words due → Kind words files due
kind_of words files due (a.no_form n e) = usage n e
kind_of words files due (a.of_form form s t) = by_form words files due form s t
