use Rattle.xmp_lex.proofs.macros.line.Goals as goal
