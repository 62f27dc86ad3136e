-- Runs of the walk that declare no array: the single steps leave the arrays, and whether the program has coarrays.
use Rattle.std.proofs.Common.{◌≡◌, ◌∙◌, refl}
use Rattle.xmp_names.specs.declared.world.World.{World}
use Rattle.xmp_names.specs.Walk.{Run}
use Rattle.xmp_fits.proofs.Respected as respected
use Rattle.xmp_fits.proofs.Respected.{Keeps, Respected, OfScalars}

pub record Goes (w v : World) : Type 0 where
  pub arrays : v.names.arrays ≡ w.names.arrays
  pub coarray : v.names.coarray ≡ w.names.coarray

pub goes_refl : (w : World) → Goes w w
goes_refl w = record { arrays = refl; coarray = refl }

goes_trans : {a b c : World} → Goes a b → Goes b c → Goes a c
goes_trans h k = record { arrays = k.arrays ∙ h.arrays; coarray = k.coarray ∙ h.coarray }

abbrev pub Kept : {A : Type 0} → Run A → Type 0
Kept run = Keeps Goes run

pub quiet : Respected Goes
quiet = record {
  same = goes_refl;
  then = goes_trans;
  mapped = λ w m d bs hm hb. record { arrays = refl; coarray = refl };
  nodes = λ l n. record { at = λ w. record { arrays = refl; coarray = refl } };
  template = λ at n written dims. record { at = λ w. record { arrays = refl; coarray = refl } };
}

pub quiet_scalars : OfScalars Goes
quiet_scalars n ty = record { at = λ w. record { arrays = refl; coarray = refl } }

abbrev pub Going : Type 0 → Type 0
Going A = respected.Going quiet A
