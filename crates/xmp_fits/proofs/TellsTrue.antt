-- What is known in a good world is true of the program that extends it.
use Rattle.std.proofs.Common.{◌≡◌, ◌∙◌, sym, ap, refl, ◌⊎◌, inl, inr, ◌+◌, ◌&&◌, ◌||◌, not, ℕ, Bool, true, false, Some, length, arith}
use Rattle.std.specs.Prelude.{slice_get, nat_lt, codes}
use Rattle.std.specs.Cmp.Lexicographic.{same_text}
use Rattle.std.proofs.lemmas.Bool.{ltb-true}
use Rattle.std.proofs.lemmas.Option.{same_Some}
use Rattle.xmp_num.specs.declared.types.Ty.{Ty}
use Rattle.xmp_scopes.specs.Names.{is_same}
use Rattle.xmp_prog.specs.declared.parts.ProgParts.{ProgParts}
use Rattle.xmp_syntax.specs.declared.parts.Name as named
use Rattle.xmp_names.specs.declared.names.Region.{Region}
use Rattle.xmp_names.specs.declared.names.Region.TheVariants as region
use Rattle.xmp_names.specs.declared.names.Meaning.TheVariants.{Scalar, Function}
use Rattle.xmp_names.specs.declared.names.Signature.{Signature}
use Rattle.xmp_names.specs.declared.world.World.{World}
use Rattle.xmp_names.specs.Expressions.{is_function, may_call}
use Rattle.xmp_names.specs.Walk.{is_main}
use Rattle.xmp_parts.proofs.Unbroken.{left_true}
use Rattle.xmp_fits.proofs.GoodWorlds.{Own, Good, Finished, Reading, Extends}
use Rattle.xmp_fits.proofs.GoodSteps.{begins_get, true_name}
use Rattle.xmp_fits.proofs.NamesFit.{Tells, FunctionOf}

module _ (own : Own) (w : World) (p : ProgParts) (g : Good own w) (x : Extends p w) where
  finished_is : (k : ℕ) (result : Ty) (s : Signature) → Finished w k result → slice_get w.names.functions k ≡ Some s → FunctionOf p k result s
  finished_is k result s f h = record {
    made = f.function;
    is = begins_get w.functions p.functions k f.function x.functions f.is;
    gives = f.gives;
    parameters = ap (λ t. t.parameters) (same_Some s f.signature (sym h ∙ f.known)) ∙ f.parameters;
  }

  -- The function that is read is called by none.
  named_main : (n : named.Name) → is_same n.text own.name ≡ true → is_same own.name (codes "main") ≡ true → not (is_same n.text (codes "main")) ≡ true → ⊥
  named_main n h k m = no_both (is_same n.text (codes "main")) m (ap (λ t. is_same t (codes "main")) (same_text n.text own.name (sym h)) ∙ k)
    where
      no_both : (b : Bool) → not b ≡ true → b ≡ true → ⊥
      no_both true h k = cc
      no_both false h k = cc

  not_read : (n : named.Name) (k : ℕ) (result : Ty) (r : Region) → w.names.region ≡ r → Reading own w n.text k result →
      ((not (is_function r) || nat_lt (k + 1) (length w.names.functions)) && not (is_same n.text (codes "main"))) ≡ true → ⊥
  not_read n k result region.File e r m = cc (r.inside, e)
  not_read n k result region.Function e r m =
      let l = ltb-true (k + 1) (length w.names.functions) (left_true (nat_lt (k + 1) (length w.names.functions)) _ m) in
      let q = r.number in
      omega arith
  not_read n k result region.Main e r m = named_main n r.named (g.main (ap is_main e)) m

  pub tells : Tells w.names p
  tells = record {
    scalars = λ n slot ty h. begins_get w.scalars p.scalars slot ty x.scalars (true_name own w n.text (Scalar slot ty) g h);
    arrays = x.arrays;
    functions = λ n k result s h m e. called n k result s m e (true_name own w n.text (Function k result) g h);
    kind = x.kind;
  }
    where
      called : (n : named.Name) (k : ℕ) (result : Ty) (s : Signature) → may_call w.names n (Some (Function k result)) ≡ true → slice_get w.names.functions k ≡ Some s → Finished w k result ⊎ Reading own w n.text k result → FunctionOf p k result s
      called n k result s m e (inl f) = finished_is k result s f e
      called n k result s m e (inr r) = absurd (not_read n k result w.names.region refl r m)
