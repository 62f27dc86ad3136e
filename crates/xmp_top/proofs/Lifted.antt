-- A call of the files within another, whose reads before it have changed nothing that is told.
use Rattle.std.proofs.Common.{◌≡◌, ◌≤◌, ◌+◌, ℕ, List, take, Option, Some, None, IfSome, subst, arith}
use Rattle.xmp_base.specs.Causes.{Rose}
use Rattle.xmp_prog.specs.declared.parts.ProgParts.{ProgParts}
use Rattle.xmp_top.specs.declared.forms.Command.{Command}
use Rattle.xmp_top.specs.declared.forms.Command.TheVariants.{Check, Serial, Run}
use Rattle.xmp_base.specs.Limits.{input_limit}
use Rattle.xmp_top.specs.Settings.{Settings}
use Rattle.xmp_top.specs.Delivery.{Due}
use Rattle.xmp_top.specs.Answer as a
use Rattle.xmp_top.specs.Answer.{FilesCall, AnswersText, AnswersInput, AnswersRead, AnswersSerial, IsRead, ReadFailed}

pub record Within (inner outer : FilesCall) : Type 0 where
  pub told : (name : List ℕ) → inner.told name ≡ outer.told name
  pub before : (name : List ℕ) → outer.faults_before name ≤ inner.faults_before name
  pub now : (name : List ℕ) → inner.faults_now name ≡ outer.faults_now name

rose_before : (early late now : ℕ) → early ≤ late → Rose late now → Rose early now
rose_before early late now h r = omega arith

read : (inner outer : FilesCall) (limit : ℕ) (name bytes : List ℕ) → Within inner outer → IsRead inner limit name bytes → IsRead outer limit name bytes
read inner outer limit name bytes w r = subst (λ o. IfSome o (λ all. bytes ≡ take (limit + 1) all)) (w.told name) r

failed : (inner outer : FilesCall) (name : List ℕ) → Within inner outer → ReadFailed inner name → ReadFailed outer name
failed inner outer name w f =
    rose_before (outer.faults_before name) (inner.faults_before name) (outer.faults_now name) (w.before name) (subst (λ n. Rose (inner.faults_before name) n) (w.now name) f)

by_input : (inner outer : FilesCall) (settings : Settings) (p : ProgParts) (due : Due) (named : Option (List ℕ)) → Within inner outer → AnswersInput inner settings p named due
    → AnswersInput outer settings p named due
by_input inner outer settings p due None w e = e
by_input inner outer settings p due (Some name) w (a.input_unread f e) = a.input_unread (failed inner outer name w f) e
by_input inner outer settings p due (Some name) w (a.input_too_large input r l e) = a.input_too_large input (read inner outer input_limit name input w r) l e
by_input inner outer settings p due (Some name) w (a.runs input r l e) = a.runs input (read inner outer input_limit name input w r) l e

by_serial : (inner outer : FilesCall) (settings : Settings) (text : List ℕ) (due : Due) → Within inner outer → AnswersSerial inner settings text due → AnswersSerial outer settings text due
by_serial inner outer settings text due w (a.breaks r b e) = a.breaks r b e
by_serial inner outer settings text due w (a.accepted p b i) = a.accepted p b (by_input inner outer settings p due settings.input w i)

-- what is answered in the one is answered in the other
pub lifted : (inner outer : FilesCall) (c : Command) (settings : Settings) (text : List ℕ) (due : Due) → Within inner outer → AnswersText inner c settings text due
    → AnswersText outer c settings text due
lifted inner outer Check settings text due w t = t
lifted inner outer Serial settings text due w t = by_serial inner outer settings text due w t
lifted inner outer Run settings text due w t = t
