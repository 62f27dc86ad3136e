use Rattle.std.proofs.Common.{◌≡◌, arith}
use Rattle.xmp_lex.specs.Words.{word_text}
use Rattle.xmp_lex.specs.declared.token.Reserved.{Reserved}
use Rattle.xmp_lex.specs.declared.token.Reserved.TheVariants as w
use Rattle.xmp_lex.proofs.words.word_of.Goals as goal

pub returns : goal.returns
returns c = λ r. each r where
  each : (r : Reserved) → c.args.text.now ≡ word_text r → ⊥
  each w.Int = c.loop-word.invariant 0 (omega arith)
  each w.Long = c.loop-word.invariant 1 (omega arith)
  each w.Void = c.loop-word.invariant 2 (omega arith)
  each w.If = c.loop-word.invariant 3 (omega arith)
  each w.Else = c.loop-word.invariant 4 (omega arith)
  each w.While = c.loop-word.invariant 5 (omega arith)
  each w.For = c.loop-word.invariant 6 (omega arith)
  each w.Return = c.loop-word.invariant 7 (omega arith)
  each w.Printf = c.loop-word.invariant 8 (omega arith)
  each w.Scanf = c.loop-word.invariant 9 (omega arith)
  each w.SyncAll = c.loop-word.invariant 10 (omega arith)
