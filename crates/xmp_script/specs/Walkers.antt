-- Images that know a script by heart (this project): each goes through its accesses, whatever its gets find.
use Rattle.std.specs.Prelude.{ℕ, suc, nat_lt, if◌then◌else◌, Option, Some, None, slice_get}
use Rattle.xmp_script.specs.Script.{Access, Script}
use Rattle.xmp_script.specs.Images.{Images, Stand, AtAccess, AtSync, AtEnd}

-- the image, its phase, and how many accesses of it are made
pub record Walker : Type 0 where
  pub image : ℕ
  pub phase : ℕ
  pub place : ℕ

-- the access that comes next; where none does, a sync, and in the last phase the end
abbrev pub stand_of : {V : Type 0} → ℕ → ℕ → Option (Access V) → Stand V
stand_of phases phase (Some a) = AtAccess a
stand_of phases phase None = if nat_lt (suc phase) phases then AtSync else AtEnd

-- behind the access, or in the next phase
abbrev pub onward : {V : Type 0} → Option (Access V) → Walker → Walker
onward (Some a) x = record x { place = suc x.place }
onward None x = record x { phase = suc x.phase; place = 0 }

-- the images of a script
abbrev pub walkers : {V : Type 0} → Script V → Images Walker V
walkers s = record {
  begin = λ k. record { image = k; phase = 0; place = 0 };
  go = λ x. x;
  stands = λ x. stand_of s.phases x.phase (slice_get (s.accesses x.phase x.image) x.place);
  answer = λ x v. record x { place = suc x.place };
  pass = λ x. onward (slice_get (s.accesses x.phase x.image) x.place) x;
}
