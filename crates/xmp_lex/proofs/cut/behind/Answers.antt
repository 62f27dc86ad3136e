use Rattle.std.proofs.Common.{get_or, sym, ◌∙◌, arith, ◌==◌}
use Rattle.xmp_lex.proofs.CutLemmas.{behind_next, behind_end, step_line, step_column}
use Rattle.xmp_lex.proofs.cut.behind.Goals as goal

pub loop-byte-preserved : goal.loop-byte-preserved
loop-byte-preserved c =
    let i = c.loop-byte.byte-index in let p = c.loop-byte.place in let b = get_or c.args.piece.now c.loop-byte.byte-index 0 == 10 in
    record {
      value = rw c.step-place.ensures (sym (behind_next p c.args.piece.now i c.loop-byte-test.true) ∙ c.loop-byte.invariant.value);
      line = rw c.step-place.ensures (let h = step_line p b in let g = c.loop-byte.invariant.line in omega arith);
      column = rw c.step-place.ensures (let h = step_column p b in let g = c.loop-byte.invariant.column in let r = c.requires.column in omega arith);
    }

pub returns-clause-value : goal.returns-clause-value
returns-clause-value c = behind_end c.loop-byte.place c.args.piece.now c.loop-byte.byte-index _ c.loop-byte-test.false c.loop-byte.invariant.value
