-- The catalog of parts: each in turn is added to the catalog so far, up to the first that has a fault.
use Rattle.std.specs.Prelude.{◌≡◌, List, [], ◌∷◌, Option, None, Some, Result, Ok, Err, ⊤}
use Rattle.pg_base.specs.Catalog.{CatalogParts}
use Rattle.pg_catalog.specs.declared.fault.CatalogFault.{CatalogFault}
use Rattle.pg_catalog.specs.declared.fault.BuildError.{BuildError}
use Rattle.pg_catalog.specs.declared.fault.BuildError.TheVariants as error
use Rattle.pg_catalog.specs.declared.part.Part.{Part}
use Rattle.pg_catalog.specs.Faults.{fault_of}
use Rattle.pg_catalog.specs.Added.{added}

-- nothing stands
abbrev pub empty : CatalogParts
empty = record { enums = []; tables = [] }

-- the fault, or else the value
abbrev pub unless_fault : {A : Type 0} → Option CatalogFault → Result A CatalogFault → Result A CatalogFault
unless_fault None value = value
unless_fault (Some fault) value = Err fault

-- the catalog after one more part, or the part's fault
unfoldable pub step : CatalogParts → Part → Result CatalogParts CatalogFault
step c p = unless_fault (fault_of c p) (Ok (added c p))

-- the catalog after the parts, or the first one's fault
unfoldable pub catalog_after : CatalogParts → List Part → Result CatalogParts CatalogFault
catalog_after c [] = Ok c
catalog_after c (p ∷ parts) = unless_fault (fault_of c p) (catalog_after (added c p) parts)

abbrev pub catalog_of : List Part → Result CatalogParts CatalogFault
catalog_of parts = catalog_after empty parts

-- an answer is what is due, or that memory ran out
abbrev pub Answers : Result CatalogParts CatalogFault → Result CatalogParts BuildError → Type 0
Answers due (Ok c) = due ≡ Ok c
Answers due (Err (error.Fault fault)) = due ≡ Err fault
Answers due (Err error.Memory) = ⊤

-- a check tells the fault, or that there is none, or that memory ran out
abbrev pub Tells : Option CatalogFault → Result (Unit {0}) BuildError → Type 0
Tells due (Ok _) = due ≡ None
Tells due (Err (error.Fault fault)) = due ≡ Some fault
Tells due (Err error.Memory) = ⊤
