use Rattle.xmp_lex.proofs.macros.define.Goals as goal
