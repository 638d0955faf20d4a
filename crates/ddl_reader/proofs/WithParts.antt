-- Parts that are added one after the other.
use Rattle.std.proofs.Common.{◌≡◌, ◌⊎◌, inl, inr, ℕ, ◌+◌, ◌<◌, List, [], ◌∷◌, length, get_or, drop, Option, None, Some, Result, Ok, Err, refl, sym, ap, subst, ◌∙◌}
use Rattle.pg_base.specs.Catalog.{CatalogParts}
use Rattle.pg_base.proofs.ListSteps.{drop-item}
use Rattle.pg_catalog.specs.declared.fault.CatalogFault.{CatalogFault}
use Rattle.pg_catalog.specs.declared.fault.BuildError.{BuildError}
use Rattle.pg_catalog.specs.declared.fault.BuildError.TheVariants as error
use Rattle.pg_catalog.specs.declared.part.Part.{Part}
use Rattle.pg_catalog.specs.Faults.{fault_of}
use Rattle.pg_catalog.specs.Added.{added}
use Rattle.pg_catalog.specs.Built.{Answers, step, catalog_after, unless_fault}
use Rattle.ddl_reader.specs.declared.fault.ScriptFault.{ScriptFault}
use Rattle.ddl_reader.specs.declared.fault.ScriptFault.TheVariants as fault
use Rattle.ddl_reader.specs.Script.{with_parts, of_parts}

-- one part
pub with_one : (c : CatalogParts) (p : Part) → with_parts c (p ∷ []) ≡ of_parts (step c p)
unfolding step catalog_after
with_one c p = refl

-- what the catalog answers of it
pub one_added : (c d : CatalogParts) (p : Part) → step c p ≡ Ok d → with_parts c (p ∷ []) ≡ Ok d
one_added c d p e = with_one c p ∙ ap of_parts e

pub one_refused : (c : CatalogParts) (p : Part) (e : BuildError) (f : CatalogFault) → e ≡ error.Fault f → Answers (step c p) (Err e) → with_parts c (p ∷ []) ≡ Err (fault.Catalog f)
one_refused c p e f is h =
    let here : step c p ≡ Err f = subst (λ (x : BuildError). Answers (step c p) (Err x)) is h in
    with_one c p ∙ ap of_parts here

pub with_none : (c : CatalogParts) → with_parts c [] ≡ Ok c
unfolding catalog_after
with_none c = refl

more : (o : Option CatalogFault) (d e : CatalogParts) (later : Result CatalogParts CatalogFault) (others : CatalogParts → Result CatalogParts CatalogFault) → later ≡ others e → of_parts (unless_fault o (Ok e)) ≡ Ok d → of_parts (others d) ≡ of_parts (unless_fault o later)
more None d e later others is took = let same : e ≡ d = cc in ap (λ x. of_parts (others x)) (sym same) ∙ ap of_parts (sym is)
more (Some f) d e later others is took = absurd cc

stops : (o : Option CatalogFault) (e : CatalogParts) (later : Result CatalogParts CatalogFault) (f : ScriptFault) → of_parts (unless_fault o (Ok e)) ≡ Err f → of_parts (unless_fault o later) ≡ Err f
stops None e later f took = absurd cc
stops (Some g) e later f took = took

-- a part, and then others
pub with_more : (c d : CatalogParts) (p : Part) (parts : List Part) → with_parts c (p ∷ []) ≡ Ok d → with_parts d parts ≡ with_parts c (p ∷ parts)
unfolding catalog_after
with_more c d p parts took = more (fault_of c p) d (added c p) (catalog_after (added c p) parts) (λ x. catalog_after x parts) refl took

pub with_fault : (c : CatalogParts) (p : Part) (parts : List Part) (f : ScriptFault) → with_parts c (p ∷ []) ≡ Err f → with_parts c (p ∷ parts) ≡ Err f
unfolding catalog_after
with_fault c p parts f took = stops (fault_of c p) (added c p) (catalog_after (added c p) parts) f took

-- ---- as a loop meets them

module _ (c d : CatalogParts) (parts : List Part) (due : Result CatalogParts ScriptFault) (i : ℕ) (p : Part) (lt : i < length parts) (is : p ≡ get_or parts i p) (so_far : with_parts d (drop i parts) ≡ due) where
  pub part_added : (e : CatalogParts) → with_parts d (p ∷ []) ≡ Ok e → with_parts e (drop (i + 1) parts) ≡ due
  part_added e took = with_more d e p (drop (i + 1) parts) took ∙ ap (λ (l : List Part). with_parts d l) (sym (drop-item parts i p lt is)) ∙ so_far

  pub part_stops : (f : ScriptFault) → (f ≡ fault.Memory) ⊎ (with_parts d (p ∷ []) ≡ Err f) → (f ≡ fault.Memory) ⊎ (due ≡ Err f)
  part_stops f (inl memory) = inl memory
  part_stops f (inr took) = inr (sym so_far ∙ ap (λ (l : List Part). with_parts d l) (drop-item parts i p lt is) ∙ with_fault d p (drop (i + 1) parts) f took)
