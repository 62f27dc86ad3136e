use Rattle.std.proofs.Common.{refl, sym, ap, ◌∙◌, Some, None, false}
use Rattle.xmp_loops.specs.Tables.{flag_at}
use Rattle.xmp_loops.proofs.LoopingLaws.{found_in, found_beside, found_behind}
use Rattle.xmp_loops.proofs.uncounted.+calls.Goals as goal

pub access_calls-returns-then-any_calls : goal.access_calls-returns-then-any_calls
access_calls-returns-then-any_calls t c =
    found_in c.args.p.now (flag_at c.args.loops.now) c.args.a.now c.as_slice.result.now c.any_calls.result c.as_slice.ensures c.any_calls.ensures c.if-any_calls.true

pub access_calls-returns-in-Some : goal.access_calls-returns-in-Some
access_calls-returns-in-Some t c =
    found_beside c.args.p.now (flag_at c.args.loops.now) c.args.a.now c.as_slice.result.now c.any_calls.result c.calls.result (Some c.get.result.now)
    c.as_slice.ensures c.any_calls.ensures c.if-any_calls.false (c.in-Some.is ∙ ap Some (sym c.get.ensures)) c.calls.ensures

pub access_calls-returns-in-None : goal.access_calls-returns-in-None
access_calls-returns-in-None t c =
    found_beside c.args.p.now (flag_at c.args.loops.now) c.args.a.now c.as_slice.result.now c.any_calls.result false None
    c.as_slice.ensures c.any_calls.ensures c.if-any_calls.false c.in-None.is refl

pub calls-returns-else-flag : goal.calls-returns-else-flag
calls-returns-else-flag t c =
    found_behind c.args.p.now (flag_at c.args.loops.now) c.args.e.now c.in-Call.function c.in-Call.arguments c.as_slice.result.now _ c.flag.result c.any_calls.result
    c.in-Call.is c.as_slice.ensures c.flag.ensures c.if-flag.false c.any_calls.ensures
