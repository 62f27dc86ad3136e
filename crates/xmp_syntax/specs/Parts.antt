-- The parts of the grammar. Source: ISO C 6.5, 6.7 and 6.8 and XcalableMP 1.4, sections 4 to 6, less what this project's language leaves out.
use Rattle.std.specs.Prelude.{ℕ, Bool}

-- `colon` says that a `:` may stand behind an expression.
pub data Part : Type 0 where
  -- programs
  program : Part
  function_rest : Part
  declaration : Part
  declarator : Part
  declarator_rest : Part
  type_words : Part
  parameter : Part
  -- expressions
  expression : Bool → Part
  level : ℕ → Bool → Part
  number : Part
  named : Bool → Part
  parens_or_cast : Bool → Part
  unary : Bool → Part
  subscripts : Part
  image : Bool → Part
  reference : Bool → Part
  arguments : Part
  -- statements
  block : Part
  block_item : Part
  statement : Part
  empty : Part
  simple : Part
  simple_statement : Part
  return_statement : Part
  if_statement : Part
  while_statement : Part
  for_statement : Part
  for_first : Part
  print_statement : Part
  scan_statement : Part
  sync_statement : Part
  -- directives
  directive : Part
  mapping : Part
  line_in_block : Part
  nodes : Part
  template : Part
  distribute : Part
  align : Part
  shadow : Part
  loop : Part
  reflect : Part
  barrier : Part
  bcast : Part
  gmove : Part
  task : Part
  tasks : Part
  names : Part
  -- one dimension each: how it is distributed, one of an array's, a place on a template, a bound or a width, a piece, a section
  how : Part
  align_dimension : Part
  place : Part
  range : Part
  piece : Part
  section : Part
  -- a set of nodes, and a part of an array
  set : Part
  sections : Part
  reduction : Part
  -- nothing begins so
  no_part : Part
