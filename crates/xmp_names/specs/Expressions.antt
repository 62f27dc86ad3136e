-- What is made of an expression where its names are known: its typed form, its type, and the rules that it breaks.
use Rattle.std.specs.Prelude.{◌++◌, ◌∷◌, [], ℕ, ◌+◌, ◌==◌, List, pos, Bool, true, false, not, ◌&&◌, ◌||◌, if◌then◌else◌, Option, Some, None, is_none, length, map, codes, nat_lt, slice_get}
use Rattle.std.specs.Option.{option_map}
use Rattle.xmp_base.specs.declared.place.Place.{Place}
use Rattle.xmp_num.specs.declared.types.Ty.{Ty}
use Rattle.xmp_num.specs.declared.types.Ty.TheVariants.{Int}
use Rattle.xmp_prog.specs.declared.expressions.Expr as prog
use Rattle.xmp_prog.specs.declared.expressions.Expr.TheVariants as e
use Rattle.xmp_prog.specs.declared.expressions.Access.{roll-Access}
use Rattle.xmp_syntax.specs.declared.parts.Name as named
use Rattle.xmp_syntax.specs.declared.parts.Inside.{Inside}
use Rattle.xmp_syntax.specs.declared.parts.CommaList.{CommaList}
use Rattle.xmp_syntax.specs.declared.parts.Next.{Next}
use Rattle.xmp_syntax.specs.declared.parts.Link.{Link}
use Rattle.xmp_syntax.specs.declared.parts.Reference.{Reference}
use Rattle.xmp_syntax.specs.declared.expression.Expr.{Expr, fold-Expr}
use Rattle.xmp_syntax.specs.declared.expression.Expr.TheOpen.{Expr-F}
use Rattle.xmp_scopes.specs.Names.{Name, is_same, nearest, depth_of}
use Rattle.xmp_names.specs.declared.names.Region.{Region}
use Rattle.xmp_names.specs.declared.names.Region.TheVariants as region
use Rattle.xmp_names.specs.declared.names.Meaning.{Meaning}
use Rattle.xmp_names.specs.declared.names.Meaning.TheVariants.{Scalar, Array, Function}
use Rattle.xmp_names.specs.declared.names.Array as array
use Rattle.xmp_names.specs.declared.names.Signature.{Signature}
use Rattle.xmp_names.specs.declared.names.Environment.{Environment}
use Rattle.xmp_names.specs.declared.rules.Notes.{Notes}
use Rattle.xmp_names.specs.declared.rules.Rule.{Rule}
use Rattle.xmp_names.specs.declared.rules.Rule.TheVariants.{N1, N3, N5, N10}
use Rattle.xmp_names.specs.declared.typed.Value.TheVariants.{Named}
use Rattle.xmp_names.specs.declared.typed.Typed.{Typed}
use Rattle.xmp_names.specs.declared.typed.Parts.{Parts}
use Rattle.xmp_names.specs.Rules.{greater, no_notes, joined, noted}
use Rattle.xmp_names.specs.Typing.{number, binary, unary, cast, choose, operator_of}

-- ---- expressions in a row

abbrev pub no_parts : Parts
no_parts = record { made = []; types = []; notes = no_notes }

abbrev pub add : Parts → Typed → Parts
add p x = record { made = p.made ++ x.operand.made ∷ []; types = p.types ++ x.operand.ty ∷ []; notes = joined p.notes x.notes }

-- ---- names

-- Whether a function other than main is being read.
abbrev pub is_function : Region → Bool
is_function region.File = false
is_function region.Function = true
is_function region.Main = false

-- Whether a name is declared at file scope, which is the first of the open scopes.
abbrev pub is_first : Option ℕ → Bool
is_first None = false
is_first (Some depth) = depth == 1

-- Whether a function may name this: what is declared in it, or an earlier function, which the one being read follows.
abbrev pub is_own : Environment → named.Name → Option Meaning → Bool
is_own env name (Some (Function k result)) = nat_lt (k + 1) (length env.functions)
is_own env name _ = not (is_first (depth_of name.text env.scopes))

-- Whether a name may be named here.
abbrev pub may_name : Environment → named.Name → Option Meaning → Bool
may_name env name meaning = not (is_function env.region) || is_own env name meaning

-- What stands for a name that means nothing here.
abbrev pub unknown : Notes → Rule → Place → Typed
unknown notes rule at = record { operand = record { made = e.Const (pos 0) Int; ty = None; value = Named }; notes = noted notes false rule at }

-- A name of this type, of whose value nothing is known.
abbrev pub of_type : Ty → prog.Expr → Notes → Typed
of_type ty made notes = record { operand = record { made = made; ty = Some ty; value = Named }; notes = notes }

abbrev pub is_nothing : {A : Type 0} → List A → Bool
is_nothing [] = true
is_nothing (x ∷ xs) = false

-- An element of an array has as many subscripts as the array has dimensions, and an image only where it is a coarray.
abbrev pub cell_of : Option array.Array → ℕ → Place → List prog.Expr → Option prog.Expr → Notes → Typed
cell_of None k at subscripts image notes = unknown notes N3 at
cell_of (Some of) k at subscripts image notes =
    of_type of.ty (e.Cell (roll-Access (record { array = k; subscripts = subscripts; image = image; at = at })))
    (noted notes ((length subscripts == length of.extents) && (of.coarray || is_none image)) N3 at)

abbrev pub cell : Environment → ℕ → Place → List prog.Expr → Option prog.Expr → Notes → Typed
cell env k = cell_of (slice_get env.arrays k) k

-- A variable or an element that is read.
abbrev pub read_as : Environment → Option Meaning → Place → List prog.Expr → Option prog.Expr → Notes → Typed
read_as env (Some (Scalar slot ty)) at subscripts image notes =
    of_type ty (e.Scalar slot at) (noted notes (is_nothing subscripts && is_none image) N3 at)
read_as env (Some (Array k)) at subscripts image notes = cell env k at subscripts image notes
read_as env (Some _) at subscripts image notes = unknown notes N3 at
read_as env None at subscripts image notes = unknown notes N1 at

abbrev pub image_notes : Option Typed → Notes → Notes
image_notes None notes = notes
image_notes (Some x) notes = joined notes x.notes

abbrev pub read : Environment → named.Name → Parts → Option Typed → Typed
read env name p image =
    let meaning : Option Meaning = nearest name.text env.scopes in
    read_as env meaning name.at p.made (option_map (λ x. x.operand.made) image)
    (noted (image_notes image p.notes) (may_name env name meaning) N5 name.at)

-- ---- calls

-- The functions that a program with a coarray may call without a declaration.
abbrev pub intrinsic : Name → Bool → Option prog.Expr
intrinsic name coarray =
    if coarray then (if is_same name (codes "xmp_node_num") then Some e.Node else (if is_same name (codes "xmp_num_nodes") then Some e.Nodes else None)) else None

abbrev pub call_intrinsic : Option prog.Expr → Place → Parts → Typed
call_intrinsic (Some made) at p = of_type Int made (noted p.notes (is_nothing p.made) N3 at)
call_intrinsic None at p = unknown p.notes N1 at

-- A call has as many arguments as its function has parameters. The function's call depth is at most 32.
abbrev pub called : ℕ → Notes → Notes
called depth notes = record notes { deepest = greater notes.deepest depth }

abbrev pub call_of : Option Signature → ℕ → Ty → Place → Parts → Typed
call_of None k result at p = unknown p.notes N3 at
call_of (Some f) k result at p =
    of_type result (e.Call k p.made at)
    (called f.depth (noted (noted p.notes (length p.made == f.parameters) N3 at) (nat_lt f.depth 33) N10 at))

abbrev pub call_as : Environment → Option Meaning → named.Name → Parts → Typed
call_as env (Some (Function k result)) name p = call_of (slice_get env.functions k) k result name.at p
call_as env (Some _) name p = unknown p.notes N3 name.at
call_as env None name p = call_intrinsic (intrinsic name.text env.coarray) name.at p

-- Nothing calls main.
abbrev pub may_call : Environment → named.Name → Option Meaning → Bool
may_call env name meaning = may_name env name meaning && not (is_same name.text (codes "main"))

abbrev pub judged_call : Environment → named.Name → Option Meaning → Parts → Parts
judged_call env name None p = p
judged_call env name (Some meaning) p = record p { notes = noted p.notes (may_call env name (Some meaning)) N5 name.at }

abbrev pub call : Environment → named.Name → Parts → Typed
call env name p =
    let meaning : Option Meaning = nearest name.text env.scopes in
    call_as env meaning name (judged_call env name meaning p)

-- ---- expressions

-- Operands of one level, from the left.
abbrev pub chain : Typed → List (Link Typed) → Typed
chain x [] = x
chain x (l ∷ ls) = chain (binary (operator_of l.operator.what) l.operator.at x l.right) ls

-- More subscripts, and more arguments.
abbrev pub each_subscript : Parts → List (Inside Typed) → Parts
each_subscript p [] = p
each_subscript p (d ∷ ds) = each_subscript (add p d.item) ds

abbrev pub each_next : Parts → List (Next Typed) → Parts
each_next p [] = p
each_next p (n ∷ ns) = each_next (add p n.item) ns

abbrev pub all_of : Option (CommaList Typed) → Parts
all_of None = no_parts
all_of (Some l) = each_next (add no_parts l.first) l.more

-- One level, with what is made of the expressions inside.
abbrev pub expr_step : Environment → Expr-F Typed → Typed
expr_step env (Expr-F.Number p v ty) = number v ty
expr_step env (Expr-F.Read r) = read env r.name (each_subscript no_parts r.subscripts) (option_map (λ i. i.number.item) r.image)
expr_step env (Expr-F.Call c) = call env c.name (all_of c.arguments.item)
expr_step env (Expr-F.Parens x) = x.item
expr_step env (Expr-F.Unary op x) = unary op.what op.at x
expr_step env (Expr-F.Cast ty x) = cast ty.item.what x
expr_step env (Expr-F.Chain x ls) = chain x ls
expr_step env (Expr-F.Conditional c p a q b) = choose c a b

abbrev pub expr_of : Environment → Expr → Typed
expr_of env = fold-Expr Typed (expr_step env)

-- The same of parts with expressions in them.
abbrev pub right_of : Environment → Link Expr → Link Typed
right_of env l = record { operator = l.operator; right = expr_of env l.right }

abbrev pub inside_of : Environment → Inside Expr → Inside Typed
inside_of env d = record { «open» = d.open; item = expr_of env d.item; close = d.close }

abbrev pub next_of : Environment → Next Expr → Next Typed
next_of env n = record { comma = n.comma; item = expr_of env n.item }

abbrev pub list_of : Environment → CommaList Expr → CommaList Typed
list_of env l = record { first = expr_of env l.first; more = map (next_of env) l.more }

abbrev pub reference_of : Environment → Reference Expr → Typed
reference_of env r = read env r.name (each_subscript no_parts (map (inside_of env) r.subscripts)) (option_map (λ i. expr_of env i.number.item) r.image)

abbrev pub arguments_of : Environment → Option (CommaList Expr) → Parts
arguments_of env None = no_parts
arguments_of env (Some l) = all_of (Some (list_of env l))
