-- Expressions and statements as contracts speak of them. They keep the place of each token. Source: this project.
use Rattle.std.specs.Prelude.{ℤ, List}
use Rattle.xmp_base.specs.declared.place.Place.{Place}
use Rattle.xmp_num.specs.declared.types.Ty.{Ty}
use Rattle.xmp_lex.specs.declared.token.Mark.{Mark}
use Rattle.xmp_syntax.specs.declared.parts.Name.{Name}
use Rattle.xmp_syntax.specs.declared.parts.Inside.{Inside}
use Rattle.xmp_syntax.specs.declared.expression.Expr as made
use Rattle.xmp_syntax.specs.declared.declaration.Declaration.{Declaration}
use Rattle.xmp_syntax.specs.declared.directive.DirectiveLine.{DirectiveLine}
use Rattle.xmp_syntax.specs.declared.directive.LoopLine.{LoopLine}
use Rattle.xmp_syntax.specs.declared.directive.TaskLine.{TaskLine}
use Rattle.xmp_syntax.specs.declared.directive.Mapping.{Mapping}
use Rattle.xmp_syntax.specs.declared.statement.ForHead.{ForHead}
use Rattle.xmp_syntax.specs.declared.statement.Plain.{Plain}

mutual
  pub data Expr : Type 0 where
    number : Place → ℤ → Ty → Expr
    read : Ref → Expr
    -- the name, `(`, the arguments and `)`
    call : Name → Place → Arguments → Place → Expr
    parens : Place → Expr → Place → Expr
    unary : Mark → Place → Expr → Expr
    -- `(`, the type, `)` and the operand
    cast : Place → Ty → Place → Place → Expr → Expr
    -- operands of one level
    chain : Expr → Links → Expr
    conditional : Expr → Place → Expr → Place → Expr → Expr

  pub data Ref : Type 0 where
    ref : Name → Subscripts → Image → Ref

  pub data Subscripts : Type 0 where
    no_more : Subscripts
    subscript : Place → Expr → Place → Subscripts → Subscripts

  pub data Image : Type 0 where
    no_image : Image
    -- `:`, `[`, the number and `]`
    image : Place → Place → Expr → Place → Image

  pub data Arguments : Type 0 where
    no_arguments : Arguments
    arguments : Expr → Rest → Arguments

  -- expressions behind commas
  pub data Rest : Type 0 where
    end : Rest
    comma : Place → Expr → Rest → Rest

  -- operators with their right operands
  pub data Links : Type 0 where
    last : Links
    link : Mark → Place → Expr → Links → Links

mutual
  pub data Stmt : Type 0 where
    plain : Plain → Stmt
    block : Place → BlockItems → Place → Stmt
    if_then : Place → Inside made.Expr → Stmt → Stmt
    if_else : Place → Inside made.Expr → Stmt → Place → Stmt → Stmt
    while_do : Place → Inside made.Expr → Stmt → Stmt
    for_do : ForHead → Stmt → Stmt
    loop : LoopLine → ForHead → Stmt → Stmt
    task : TaskLine → Stmt → Stmt
    tasks : DirectiveLine → Place → Tasks → Place → Stmt

  pub data BlockItems : Type 0 where
    none : BlockItems
    mapping : Mapping → BlockItems → BlockItems
    declaration : Declaration → BlockItems → BlockItems
    statement : Stmt → BlockItems → BlockItems

  pub data Tasks : Type 0 where
    no_task : Tasks
    a_task : TaskLine → Stmt → Tasks → Tasks
