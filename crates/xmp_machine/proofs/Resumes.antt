-- States that went on from a meeting, or stayed there, fit their code.
use Rattle.std.proofs.Common.{◌≡◌, ℕ, List, ℤ, Option, Some, slice_get, sym, ap, subst, ◌∙◌}
use Rattle.std.specs.Prelude.{Result, Ok, Err, OnOk, OnErr}
use Rattle.xmp_instr.specs.declared.parts.CodeParts.{CodeParts}
use Rattle.xmp_instr.specs.Resumed.{resumed_at, resumed_from}
use Rattle.xmp_instr.specs.Fits.{Fits}
use Rattle.xmp_instr.specs.Valid.{IsValid}
use Rattle.xmp_instr.proofs.Served.{resumed_fit}
use Rattle.xmp_code.specs.declared.state.Moving.{Moving}
use Rattle.xmp_code.specs.declared.state.Mode.{Mode}
use Rattle.xmp_code.specs.declared.state.Mode.TheVariants as mode
use Rattle.xmp_code.specs.declared.state.State.{State}
use Rattle.xmp_code.specs.States.{node_of, stage_of}
use Rattle.xmp_code.specs.Acting.{Keeps}
use Rattle.xmp_code.specs.Fitting.{MovingFits, SameBut, StateFits}
use Rattle.xmp_code.proofs.Advanced.{refits, same_fits}
use Rattle.xmp_machine.specs.Resuming.{IsPast, standing_in}

-- at no meeting there is no transfer
nothing_moves : (c : CodeParts) (m : Mode) (words : List ℤ) (moving : Option Moving) → IsPast m → MovingFits c m words moving
nothing_moves c mode.Going words moving h = tt
nothing_moves c (mode.Meets e mark) words moving h = absurd h
nothing_moves c (mode.Over kind at) words moving h = tt

pub resumes : {E : Type 0} (c : CodeParts) (s t : State) (e : ℕ) (mark : Option ℕ) (r : Result (Unit {0}) E) → IsValid c → StateFits c s → s.talk.mode ≡ mode.Meets e mark
    → OnOk r (resumed_from c (node_of s) (standing_in s e mark) (slice_get c.meetings e) ≡ Some (node_of t)) → Keeps s t → OnOk r (IsPast t.talk.mode)
    → OnErr r ((node_of t ≡ node_of s) × SameBut s t) → StateFits c t
resumes c s t e mark (Ok x) v f is ok k past err =
    let on = ap (λ m. resumed_at c (node_of s) (stage_of m s.talk s.data.out.items)) is ∙ ok in
    refits c s t f (resumed_fit c (node_of s) (node_of t) v f.node on) k.stack k.calls k.told k.heard
    (nothing_moves c t.talk.mode t.data.words.items t.talk.moving past)
resumes c s t e mark (Err x) v f is ok k past err = same_fits c s t f err.1 (subst (Fits c) (sym err.0) f.node)
