-- A step, by its check and what it makes.
use Rattle.std.proofs.Common.{◌≡◌, List, [], ◌∷◌, Option, None, Some, Ok, Err, refl, sym, ap, ◌∙◌}
use Rattle.pg_base.specs.Catalog.{CatalogParts}
use Rattle.pg_catalog.specs.declared.fault.CatalogFault.{CatalogFault}
use Rattle.pg_catalog.specs.declared.fault.BuildError.{BuildError}
use Rattle.pg_catalog.specs.declared.fault.BuildError.TheVariants as error
use Rattle.pg_catalog.specs.declared.part.CommentPart.{CommentPart}
use Rattle.pg_catalog.specs.declared.part.Part.{Part}
use Rattle.pg_catalog.specs.declared.part.Part.TheVariants as part
use Rattle.pg_catalog.specs.Faults.{fault_of}
use Rattle.pg_catalog.specs.Added.{added}
use Rattle.pg_catalog.specs.Built.{Answers, Tells, step, unless_fault, catalog_after}

-- the fault that a check tells
pub refused : (c : CatalogParts) (p : Part) (e : BuildError) → Tells (fault_of c p) (Err e) → Answers (step c p) (Err e)
unfolding step
refused c p (error.Fault fault) h = ap (λ (o : Option CatalogFault). unless_fault o (Ok (added c p))) h
refused c p error.Memory h = tt

-- what is made where there is none
pub made : (c : CatalogParts) (p : Part) (r : CatalogParts) → fault_of c p ≡ None → r ≡ added c p → step c p ≡ Ok r
unfolding step
made c p r none same = ap (λ (o : Option CatalogFault). unless_fault o (Ok (added c p))) none ∙ ap (λ (d : CatalogParts). Ok d) (sym same)

-- a comment has no fault
pub comment_passes : (c : CatalogParts) (m : CommentPart) → fault_of c (part.Comment m) ≡ None
unfolding fault_of
comment_passes c m = refl

-- a loop over parts: the fault of the next one, or the catalog after it
pub stops : (c : CatalogParts) (p : Part) (parts : List Part) (e : BuildError) → Answers (step c p) (Err e) → Answers (catalog_after c (p ∷ parts)) (Err e)
unfolding step catalog_after
stops c p parts (error.Fault fault) h = go (fault_of c p) h
  where
    go : (o : Option CatalogFault) → unless_fault o (Ok (added c p)) ≡ Err fault → unless_fault o (catalog_after (added c p) parts) ≡ Err fault
    go None h = absurd (cc)
    go (Some f) h = let same : f ≡ fault = cc in ap (λ (g : CatalogFault). Err g) same
stops c p parts error.Memory h = tt

pub goes_on : (c : CatalogParts) (p : Part) (parts : List Part) (next : CatalogParts) → step c p ≡ Ok next → catalog_after c (p ∷ parts) ≡ catalog_after next parts
unfolding step catalog_after
goes_on c p parts next h = go (fault_of c p) h
  where
    go : (o : Option CatalogFault) → unless_fault o (Ok (added c p)) ≡ Ok next → unless_fault o (catalog_after (added c p) parts) ≡ catalog_after next parts
    go None h = let same : added c p ≡ next = cc in ap (λ (d : CatalogParts). catalog_after d parts) same
    go (Some f) h = absurd (cc)

pub ends : (c : CatalogParts) → catalog_after c [] ≡ Ok c
unfolding catalog_after
ends c = refl
