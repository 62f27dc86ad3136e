-- What was written where no write fault is answered, and what isn't due.
use Rattle.std.proofs.Common.{◌≡◌, ◌≢◌, ◌∙◌, ℕ, List, [], inl, inr, ap}
use Rattle.xmp_base.specs.Told.{added}
use Rattle.xmp_base.proofs.Taken.{added-nil}
use Rattle.xmp_base.specs.declared.status.Status.{Status}
use Rattle.xmp_base.specs.declared.status.Status.TheVariants.{WriteFault}
use Rattle.xmp_top.specs.Lines.{line}
use Rattle.xmp_top.specs.Delivery.{SinkCall, Took, TookNothing, Due, AllWritten, Delivered}
use Rattle.xmp_top.specs.Answer.{only_line}
use Rattle.xmp_top.specs.Causes.{SaysOnly}

-- all was written, where no write fault is answered
pub written : (due : Due) (out err : SinkCall) (status : Status) → Delivered due out err status → status ≢ WriteFault → AllWritten due out err status
written due out err status (inl all) n = all
written due out err status (inr (inl f)) n = absurd (n f.status_is)
written due out err status (inr (inr f)) n = absurd (n f.status_is)

took_nil : (sink : SinkCall) (bytes : List ℕ) → Took sink bytes → bytes ≡ [] → TookNothing sink
took_nil sink bytes t e = t ∙ (ap (added sink.before) e ∙ added-nil sink.before)

took_other : (sink : SinkCall) (a b : List ℕ) → Took sink a → a ≡ b → Took sink b
took_other sink a b t e = t ∙ ap (added sink.before) e

-- only a line was written, where no more is due
pub says_only : (due : Due) (text : List ℕ) (kind : Status) (out err : SinkCall) (status : Status) → AllWritten due out err status → due ≡ only_line text kind → SaysOnly text out err
says_only due text kind out err status all d = record {
  out_took = took_nil out due.out all.out_took (ap (λ (x : Due). x.out) d);
  err_took = took_other err due.err (line text) all.err_took (ap (λ (x : Due). x.err) d);
}

-- what is due was written, and so was what equals it
pub wrote : (due wanted : Due) (out err : SinkCall) (status : Status) → AllWritten due out err status → due ≡ wanted → AllWritten wanted out err status
wrote due wanted out err status all d = record {
  status_is = all.status_is ∙ ap (λ (x : Due). x.status) d;
  out_took = took_other out due.out wanted.out all.out_took (ap (λ (x : Due). x.out) d);
  err_took = took_other err due.err wanted.err all.err_took (ap (λ (x : Due). x.err) d);
}
