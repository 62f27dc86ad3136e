-- How an answer is delivered: the bytes for `out` first, then those for `err`, up to the first write that fails.
use Rattle.std.specs.Prelude.{◌≡◌, ◌<◌, ◌⊎◌, ℕ, List, length, Option}
use Rattle.xmp_base.specs.Causes.{Rose}
use Rattle.xmp_base.specs.Told.{added, TookUpTo}
use Rattle.xmp_base.specs.declared.status.Status.{Status}
use Rattle.xmp_base.specs.declared.status.Status.TheVariants.{WriteFault}

-- The answer that was prepared: the bytes for out, those for err, and the status.
pub record Due : Type 0 where
  pub out : List ℕ
  pub err : List ℕ
  pub status : Status

-- What a sink told, and how often it had failed, as the call began and at its return.
pub record SinkCall : Type 0 where
  pub before : Option (List ℕ)
  pub now : Option (List ℕ)
  pub faults_before : ℕ
  pub faults_now : ℕ

-- The sink took these bytes.
abbrev pub Took : SinkCall → List ℕ → Type 0
Took sink bytes = sink.now ≡ added sink.before bytes

-- The sink took nothing.
abbrev pub TookNothing : SinkCall → Type 0
TookNothing sink = sink.now ≡ sink.before

-- The sink's count of faults rose in the call.
abbrev pub SinkFailed : SinkCall → Type 0
SinkFailed sink = Rose sink.faults_before sink.faults_now

-- The sink failed in the call: there were bytes to write, it took them up to a rest, and its count rose.
pub record FailedAt (sink : SinkCall) (bytes : List ℕ) : Type 0 where
  pub due : 0 < length bytes
  pub rest : List ℕ
  pub front : TookUpTo sink.before sink.now bytes rest
  pub rose : SinkFailed sink

-- All of it was written.
pub record AllWritten (due : Due) (out err : SinkCall) (status : Status) : Type 0 where
  pub status_is : status ≡ due.status
  pub out_took : Took out due.out
  pub err_took : Took err due.err

-- out failed at its bytes, and err was offered nothing.
pub record OutFailed (due : Due) (out err : SinkCall) (status : Status) : Type 0 where
  pub status_is : status ≡ WriteFault
  pub out_failed : FailedAt out due.out
  pub err_took : TookNothing err

-- out took all of its bytes, and err failed at its own.
pub record ErrFailed (due : Due) (out err : SinkCall) (status : Status) : Type 0 where
  pub status_is : status ≡ WriteFault
  pub out_took : Took out due.out
  pub err_failed : FailedAt err due.err

-- What was prepared is delivered.
abbrev pub Delivered : Due → SinkCall → SinkCall → Status → Type 0
Delivered due out err status = AllWritten due out err status ⊎ (OutFailed due out err status ⊎ ErrFailed due out err status)
