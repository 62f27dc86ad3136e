-- The answer to a command line, in three layers: what the words ask for (Forms), what is due (here), and how it was
-- delivered (Delivery). What is due is looked at in this order: the words, the read of the source, its size, the verdict on it, the read of
-- the input, its size, the run.
use Rattle.std.specs.Prelude.{◌≡◌, ◌≤◌, ◌<◌, ◌+◌, ◌⊎◌, ℕ, List, [], length, take, Option, Some, None, IfSome, codes}
use Rattle.xmp_base.specs.Causes.{Rose}
use Rattle.xmp_base.specs.declared.refusal.Refusal.{Refusal}
use Rattle.xmp_base.specs.declared.refusal.Phase.TheVariants as phase
use Rattle.xmp_base.specs.declared.status.Status.{Status}
use Rattle.xmp_base.specs.declared.status.Status.TheVariants.{Ended, Trapped, OutOfSteps, Refused, Usage, ReadFault, NoMemory, TooLarge}
use Rattle.xmp_prog.specs.declared.parts.ProgParts.{ProgParts}
use Rattle.xmp_meaning.specs.declared.outcome.Outcome.{Outcome}
use Rattle.xmp_meaning.specs.declared.outcome.Outcome.TheVariants as outcome
use Rattle.xmp_meaning.specs.Programs.{serial}
use Rattle.xmp_drive.specs.Verdict.{IsAccepted, IsRefused}
use Rattle.xmp_first.specs.Accepts.{Accepts}
use Rattle.xmp_base.specs.Limits.{source_limit, input_limit, default_steps}
use Rattle.xmp_top.specs.declared.forms.Command.{Command}
use Rattle.xmp_top.specs.declared.forms.Command.TheVariants.{Check, Serial, Run}
use Rattle.xmp_top.specs.Settings.{Settings}
use Rattle.xmp_top.specs.Forms.{Form, SpellsForm, SpellsNoForm}
use Rattle.xmp_top.specs.Lines.{line, refused_text, trapped_text}
use Rattle.xmp_top.specs.Delivery.{Due, SinkCall, TookNothing, Delivered}

-- What the files told as the call began, and how often each name had failed then and at its return.
pub record FilesCall : Type 0 where
  pub told : List ℕ → Option (List ℕ)
  pub faults_before : List ℕ → ℕ
  pub faults_now : List ℕ → ℕ

-- ---- what is due

-- nothing on out, and a line on err
abbrev pub only_line : List ℕ → Status → Due
only_line text status = record { out = []; err = line text; status = status }

abbrev pub says_usage : Due
says_usage = only_line (codes "usage") Usage

abbrev pub says_read_fault : Due
says_read_fault = only_line (codes "read fault") ReadFault

abbrev pub says_too_large : Due
says_too_large = only_line (codes "too large") TooLarge

abbrev pub says_refused : Refusal → Due
says_refused r = only_line (refused_text r) Refused

-- bytes on out, and nothing on err
abbrev pub prints : List ℕ → Due
prints out = record { out = out; err = []; status = Ended }

abbrev pub says_accepted : Due
says_accepted = prints (line (codes "accepted"))

-- what a run comes to: its output, and a line where it doesn't end by itself
abbrev pub due_of : Outcome → Due
due_of (outcome.Ended out arrays) = prints out
due_of (outcome.Trapped out kind at) = record { out = out; err = line (trapped_text kind at); status = Trapped }
due_of (outcome.OutOfSteps out) = record { out = out; err = line (codes "out of steps"); status = OutOfSteps }

-- ---- reads

-- The bytes that were read: of a file that is told all of them, or its front with one byte more than the limit. Of a file that isn't told this says nothing.
abbrev pub IsRead : FilesCall → ℕ → List ℕ → List ℕ → Type 0
IsRead files limit name bytes = IfSome (files.told name) (λ all. bytes ≡ take (limit + 1) all)

-- The count of the name rose in the call.
abbrev pub ReadFailed : FilesCall → List ℕ → Type 0
ReadFailed files name = Rose (files.faults_before name) (files.faults_now name)

-- ---- `run`, which takes one form of programs as yet

-- The text is accepted by none of its outputs: it is no program.
abbrev pub IsNone : List ℕ → Type 0
IsNone text = (out : List ℕ) → Accepts text out → ⊥

abbrev pub first_refusal : Refusal
first_refusal = record { phase = phase.Syntax; rule = 1; at = record { line = 1; column = 1 } }

pub data AnswersRun (text : List ℕ) (due : Due) : Type 0 where
  no_program : IsNone text → due ≡ says_refused first_refusal → AnswersRun text due
  printed : (out : List ℕ) → Accepts text out → due ≡ prints out → AnswersRun text due

-- ---- `check`

pub data AnswersCheck (settings : Settings) (text : List ℕ) (due : Due) : Type 0 where
  breaks : (r : Refusal) → IsRefused text settings.nodes r → due ≡ says_refused r → AnswersCheck settings text due
  accepted : (p : ProgParts) → IsAccepted text settings.nodes p → due ≡ says_accepted → AnswersCheck settings text due

-- ---- `serial`

-- the steps of a run, where no number of them is given
abbrev pub steps_in : Option ℕ → ℕ
steps_in None = default_steps
steps_in (Some n) = n

-- the program with its directives erased, run on an input
abbrev pub run_on : Settings → ProgParts → List ℕ → Due
run_on settings p input = due_of (serial p input (steps_in settings.steps))

-- The input of a file that is named is read; it is too large, or the program runs on it.
pub data AnswersRead (files : FilesCall) (settings : Settings) (p : ProgParts) (name : List ℕ) (due : Due) : Type 0 where
  input_unread : ReadFailed files name → due ≡ says_read_fault → AnswersRead files settings p name due
  input_too_large : (input : List ℕ) → IsRead files input_limit name input → input_limit < length input → due ≡ says_too_large → AnswersRead files settings p name due
  runs : (input : List ℕ) → IsRead files input_limit name input → length input ≤ input_limit → due ≡ run_on settings p input → AnswersRead files settings p name due

-- Where none is named, the program runs on an empty input.
abbrev pub AnswersInput : FilesCall → Settings → ProgParts → Option (List ℕ) → Due → Type 0
AnswersInput files settings p None due = due ≡ run_on settings p []
AnswersInput files settings p (Some name) due = AnswersRead files settings p name due

pub data AnswersSerial (files : FilesCall) (settings : Settings) (text : List ℕ) (due : Due) : Type 0 where
  breaks : (r : Refusal) → IsRefused text settings.nodes r → due ≡ says_refused r → AnswersSerial files settings text due
  accepted : (p : ProgParts) → IsAccepted text settings.nodes p → AnswersInput files settings p settings.input due → AnswersSerial files settings text due

-- ---- all forms

-- What a command answers to a text that is not too large.
abbrev pub AnswersText : FilesCall → Command → Settings → List ℕ → Due → Type 0
AnswersText files Check settings text due = AnswersCheck settings text due
AnswersText files Serial settings text due = AnswersSerial files settings text due
AnswersText files Run settings text due = AnswersRun text due

-- What a form answers: its file could not be read, or is too large, or its text is answered to.
pub data AnswersForm (files : FilesCall) (form : Form) (due : Due) : Type 0 where
  source_unread : ReadFailed files form.file → due ≡ says_read_fault → AnswersForm files form due
  source_too_large : (text : List ℕ) → IsRead files source_limit form.file text → source_limit < length text → due ≡ says_too_large → AnswersForm files form due
  answered : (text : List ℕ) → IsRead files source_limit form.file text → length text ≤ source_limit → AnswersText files form.command form.settings text due
      → AnswersForm files form due

-- What is due for these words.
pub data IsDue (files : FilesCall) (words : List (List ℕ)) (due : Due) : Type 0 where
  no_form : SpellsNoForm words → due ≡ says_usage → IsDue files words due
  of_form : (form : Form) → SpellsForm form words → AnswersForm files form due → IsDue files words due

-- The whole of a call: want of memory before the first write, or what is due, delivered.
abbrev pub IsAnswer : List (List ℕ) → FilesCall → SinkCall → SinkCall → Status → Type 0
IsAnswer words files out err status =
    ((status ≡ NoMemory) × TookNothing out × TookNothing err)
    ⊎ ((due : Due) × IsDue files words due × Delivered due out err status)
