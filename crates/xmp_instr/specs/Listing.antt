-- The text of a code (this project): a line for each instruction.
use Rattle.std.specs.Prelude.{ℕ, suc, List, [], ◌∷◌, ◌++◌, codes}
use Rattle.std.specs.Fmt.{decimal, signed_decimal}
use Rattle.xmp_num.specs.declared.types.Ty.{Ty}
use Rattle.xmp_num.specs.declared.types.Ty.TheVariants.{Int, Long}
use Rattle.xmp_num.specs.declared.types.BinOp.{BinOp}
use Rattle.xmp_num.specs.declared.types.BinOp.TheVariants as op
use Rattle.xmp_instr.specs.declared.instr.Instr.{Instr}
use Rattle.xmp_instr.specs.declared.instr.Instr.TheVariants as i
use Rattle.xmp_instr.specs.declared.listing.Operands.{Operands}
use Rattle.xmp_instr.specs.declared.listing.Operands.TheVariants as o

-- operators and types have the names of their variants in lower case
abbrev pub type_name : Ty → List ℕ
type_name Int = codes "int"
type_name Long = codes "long"

abbrev pub operator_name : BinOp → List ℕ
operator_name op.Add = codes "add"
operator_name op.Sub = codes "sub"
operator_name op.Mul = codes "mul"
operator_name op.Div = codes "div"
operator_name op.Rem = codes "rem"
operator_name op.Shl = codes "shl"
operator_name op.Shr = codes "shr"
operator_name op.And = codes "and"
operator_name op.Or = codes "or"
operator_name op.Xor = codes "xor"
operator_name op.Less = codes "less"
operator_name op.LessEq = codes "lesseq"
operator_name op.Greater = codes "greater"
operator_name op.GreaterEq = codes "greatereq"
operator_name op.Equal = codes "equal"
operator_name op.Differ = codes "differ"

-- the name of an instruction
abbrev pub name : Instr → List ℕ
name (i.Push v) = codes "push"
name i.Drop = codes "drop"
name i.Dup = codes "dup"
name (i.Load slot) = codes "load"
name (i.Save slot) = codes "save"
name (i.LoadAt b n) = codes "loadat"
name (i.SaveAt b n) = codes "saveat"
name (i.Bound n at) = codes "bound"
name (i.Fold n) = codes "fold"
name (i.Local m d) = codes "local"
name (i.Bin op ty at) = codes "bin"
name (i.Conv ty) = codes "conv"
name (i.Jump k) = codes "jump"
name (i.JumpZero k) = codes "jumpzero"
name (i.Call k) = codes "call"
name i.Return = codes "return"
name i.Turn = codes "turn"
name (i.Mine t n) = codes "mine"
name (i.NextMine t d) = codes "nextmine"
name i.Count = codes "count"
name (i.Guard g) = codes "guard"
name i.Unguard = codes "unguard"
name i.Noted = codes "noted"
name (i.Print f) = codes "print"
name (i.Scan ty) = codes "scan"
name (i.Exchange e) = codes "exchange"
name i.Get = codes "get"
name i.Put = codes "put"
name i.Sync = codes "sync"
name (i.Lift at) = codes "lift"
name i.End = codes "end"

-- what is listed behind it; places aren't
abbrev pub listed : Instr → Operands
listed (i.Push v) = o.Value v
listed (i.Load slot) = o.One slot
listed (i.Save slot) = o.One slot
listed (i.LoadAt b n) = o.Two b n
listed (i.SaveAt b n) = o.Two b n
listed (i.Bound n at) = o.One n
listed (i.Fold n) = o.One n
listed (i.Local m d) = o.Two m d
listed (i.Bin op ty at) = o.Operator op ty
listed (i.Conv ty) = o.Type ty
listed (i.Jump k) = o.One k
listed (i.JumpZero k) = o.One k
listed (i.Call k) = o.One k
listed (i.Mine t n) = o.Two t n
listed (i.NextMine t d) = o.Two t d
listed (i.Guard g) = o.One g
listed (i.Print f) = o.One f
listed (i.Scan ty) = o.Type ty
listed (i.Exchange e) = o.One e
listed _ = o.Nothing

-- each behind a space
abbrev pub operand_text : Operands → List ℕ
operand_text o.Nothing = []
operand_text (o.Value v) = 32 ∷ signed_decimal v
operand_text (o.One n) = 32 ∷ decimal n
operand_text (o.Two n m) = 32 ∷ decimal n ++ 32 ∷ decimal m
operand_text (o.Type ty) = 32 ∷ type_name ty
operand_text (o.Operator op ty) = 32 ∷ operator_name op ++ 32 ∷ type_name ty

-- a line: the number, the name, the operands, a line feed
abbrev pub line : (number : ℕ) → Instr → List ℕ
line n instr = decimal n ++ 32 ∷ (name instr ++ (operand_text (listed instr) ++ 10 ∷ []))

-- the lines of instructions, the first of which has this number
abbrev pub lines : (number : ℕ) → List Instr → List ℕ
lines n [] = []
lines n (instr ∷ rest) = line n instr ++ lines (suc n) rest

-- The text of a code.
abbrev pub listing : List Instr → List ℕ
listing instrs = lines 0 instrs
