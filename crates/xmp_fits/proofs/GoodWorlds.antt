-- A good world: each name in its scopes tells true numbers. And what the parts of the program that is made of it have of a world.
use Rattle.std.proofs.Common.{◌≡◌, ◌⊎◌, ◌∷◌, [], ℕ, ◌+◌, ◌<◌, List, Bool, true, false, length, Some}
use Rattle.std.specs.Prelude.{⊤, slice_get, codes}
use Rattle.std.specs.List.{AllByRecursion}
use Rattle.xmp_num.specs.declared.types.Ty.{Ty}
use Rattle.xmp_scopes.specs.Names as scope
use Rattle.xmp_prog.specs.declared.parts.Function as made_function
use Rattle.xmp_prog.specs.declared.parts.Array as made_array
use Rattle.xmp_prog.specs.declared.parts.ProgParts.{ProgParts}
use Rattle.xmp_prog.specs.Tests.{is_image}
use Rattle.xmp_prog.specs.Fits.{has_coarrays}
use Rattle.xmp_names.specs.declared.names.Region.{Region}
use Rattle.xmp_names.specs.declared.names.Region.TheVariants as region
use Rattle.xmp_names.specs.declared.names.Meaning.{Meaning}
use Rattle.xmp_names.specs.declared.names.Meaning.TheVariants.{Scalar, Array, Nodes, Template, Function}
use Rattle.xmp_names.specs.declared.names.Array as array
use Rattle.xmp_names.specs.declared.names.Signature.{Signature}
use Rattle.xmp_names.specs.declared.world.World.{World}
use Rattle.xmp_names.specs.Expressions.{is_function}
use Rattle.xmp_names.specs.Walk.{is_main}
use Rattle.xmp_fits.proofs.Laters.{Begins, Scopes}

-- ---- names

-- A function that is read to its end, with its result and as many parameters as a call has arguments.
pub record Finished (w : World) (k : ℕ) (result : Ty) : Type 0 where
  pub function : made_function.Function
  pub is : slice_get w.functions k ≡ Some function
  pub gives : function.result ≡ result
  pub signature : Signature
  pub known : slice_get w.names.functions k ≡ Some signature
  pub parameters : signature.parameters ≡ length function.parameters

-- The function that is being read: its name and its result. At file scope there is none.
pub record Own : Type 0 where
  pub name : scope.Name
  pub result : Ty

abbrev pub in_file : Region → Bool
in_file region.File = true
in_file region.Function = false
in_file region.Main = false

pub record Reading (own : Own) (w : World) (n : scope.Name) (k : ℕ) (result : Ty) : Type 0 where
  pub inside : in_file w.names.region ≡ false
  pub number : k + 1 ≡ length w.names.functions
  pub gives : result ≡ own.result
  pub named : scope.is_same n own.name ≡ true

-- A name's meaning is true in a world.
abbrev pub IsTrueIn : Own → World → scope.Name → Meaning → Type 0
IsTrueIn own w n (Scalar slot ty) = slice_get w.scalars slot ≡ Some ty
IsTrueIn own w n (Array k) = k < length w.names.arrays
IsTrueIn own w n (Nodes k) = k < length w.mappings.nodes
IsTrueIn own w n (Template k) = k < length w.mappings.templates
IsTrueIn own w n (Function k result) = Finished w k result ⊎ Reading own w n k result

pub record TrueScope (own : Own) (w : World) (names : List (scope.Name × Meaning)) : Type 0 where
  pub tells : (n : scope.Name) (m : Meaning) → scope.in_scope n names ≡ Some m → IsTrueIn own w n m

-- How many functions are being read.
abbrev pub being_read : Region → ℕ
being_read region.File = 0
being_read region.Function = 1
being_read region.Main = 1

-- No scope but the last one, which is that of the file, has an array.
pub record NoArray (names : List (scope.Name × Meaning)) : Type 0 where
  pub none : (n : scope.Name) (k : ℕ) → scope.in_scope n names ≡ Some (Array k) → ⊥

abbrev pub NoneInside : Scopes → Type 0
NoneInside [] = ⊤
NoneInside (s ∷ []) = ⊤
NoneInside (s ∷ t ∷ ts) = NoArray s × NoneInside (t ∷ ts)

pub record Good (own : Own) (w : World) : Type 0 where
  pub scopes : AllByRecursion (TrueScope own w) w.names.scopes
  -- all functions but the one that is being read are finished
  pub numbers : length w.names.functions ≡ length w.functions + being_read w.names.region
  -- main is called main
  pub main : is_main w.names.region ≡ true → scope.is_same own.name (codes "main") ≡ true
  -- a function other than main that breaks no rule declares no array
  pub inside : w.broken ≡ [] → is_function w.names.region ≡ true → NoneInside w.names.scopes

-- ---- the parts of the program

-- An array of the program is that of the walk.
pub record SameArray (a : array.Array) (b : made_array.Array) : Type 0 where
  pub ty : b.ty ≡ a.ty
  pub extents : b.extents ≡ a.extents
  pub image : is_image b.home ≡ a.coarray

pub record ArrayOf (p : ProgParts) (k : ℕ) (a : array.Array) : Type 0 where
  pub made : made_array.Array
  pub is : slice_get p.arrays k ≡ Some made
  pub same : SameArray a made

-- The parts of a program extend a world of its walk.
pub record Extends (p : ProgParts) (w : World) : Type 0 where
  pub scalars : Begins w.scalars p.scalars
  pub functions : Begins w.functions p.functions
  pub start : Begins w.start p.start
  pub arrays : (k : ℕ) (a : array.Array) → slice_get w.names.arrays k ≡ Some a → ArrayOf p k a
  pub kind : has_coarrays p.kind ≡ w.names.coarray
