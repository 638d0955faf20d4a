-- Where the kinds of types are right, execution asks each field at a stand of its type's kind.
use Rattle.std.proofs.Common.{◌≡◌, ℕ, List, [], ◌∷◌, map, Option, Some, None, Bool, true, false, refl, sym, ◌∙◌, subst}
use Rattle.std.specs.Prelude.{slice_get, ⊤, IsSomeAnd}
use Rattle.pg_base.specs.declared.table_def.LinkDef.{LinkDef}
use Rattle.pg_base.specs.declared.table_def.KeyDef.{KeyDef}
use Rattle.rel_model.specs.declared.tables.Row.{Row}
use Rattle.rel_model.specs.declared.tables.Tables.{Tables}
use Rattle.rel_model.specs.Picked.{picked}
use Rattle.pg_base.specs.declared.vars.Vars.{Vars}
use Rattle.pg_base.specs.Base.{BaseParts}
use Rattle.pg_base.specs.declared.schema.FieldDef.{FieldDef}
use Rattle.pg_base.specs.declared.does.Does.{Does}
use Rattle.pg_base.specs.declared.does.Does.TheVariants as does
use Rattle.place_tree.specs.declared.place.Place.{Place}
use Rattle.place_tree.specs.Fold.{Answer, Shows, Fails, One, Many}
use Rattle.place_tree.specs.Fields.{field_of, key_at, link_at, finds_one}
use Rattle.place_tree.specs.declared.fetch.Fetch.{Fetch}
use Rattle.place_tree.specs.declared.fetch.Shape.{Shape}
use Rattle.place_tree.specs.declared.fetch.Shape.TheVariants as shape
use Rattle.place_tree.specs.declared.stand.Listed.{Listed}
use Rattle.place_tree.specs.declared.stand.Stand.{Stand}
use Rattle.place_tree.specs.declared.stand.Stand.TheVariants.{AtRow, AtList, AtEdge, AtPayload}
use Rattle.place_tree.specs.Fetch.{fetch_of, fetch_in, fetch_by, key_fetch, forward_fetch, backward_fetch, referring_fetch, argument_error}
use Rattle.place_tree.specs.Exec.{stand_cells, first_row, row_or_null, found_by, row_field, edge_of, nodes_at, edges_at, page_at, node_at, payload_at, other_field, by_field, by_fetch, resolved}
use Rattle.place_tree.specs.Typed.{Kind, OfRow, OfList, OfEdge, OfPage, backward_kind, Leads, AreKinds, IsAt}

-- each stand of an answer is of the kind
abbrev AllAt : Kind → List Stand → Type 0
AllAt kind [] = ⊤
AllAt kind (s ∷ ss) = IsAt kind s × AllAt kind ss

abbrev pub StandsAt : Kind → Answer Stand → Type 0
StandsAt kind (Shows l) = ⊤
StandsAt kind (Fails m) = ⊤
StandsAt kind (One s) = IsAt kind s
StandsAt kind (Many ss) = AllAt kind ss

abbrev shape_kind : Shape → ℕ → Kind
shape_kind shape.List table = OfList table
shape_kind shape.Row table = OfRow table

one_row : (table : ℕ) (found : Option Row) → StandsAt (OfRow table) (row_or_null found)
one_row table None = tt
one_row table (Some row) = tt

found_stands : (tables : Tables) (f : Fetch) (which : Shape) (above : _) → StandsAt (shape_kind which f.table) (found_by tables f which above)
found_stands tables f shape.List above = refl
found_stands tables f shape.Row above = one_row f.table (first_row (picked tables f.table f.by (Rattle.place_tree.specs.Exec.key_of f.key above) []))

field_stands : (tables : Tables) (error : Option (List ℕ)) (f : Fetch) (above : _) → StandsAt (shape_kind f.shape f.table) (row_field tables error f above)
field_stands tables None f above = found_stands tables f f.shape above
field_stands tables (Some m) f above = tt

-- a row field's fetch is of the kind of its type
link_fetch : (base : BaseParts) (fd : FieldDef) (vars : Vars) (p : Place) (table : ℕ) (l : LinkDef) (one : Bool) → shape_kind (backward_fetch base fd vars p table l one).shape (backward_fetch base fd vars p table l one).table ≡ backward_kind one table
link_fetch base fd vars p table l true = refl
link_fetch base fd vars p table l false = refl

abbrev IsOf : Kind → Option Fetch → Type 0
IsOf kind None = ⊤
IsOf kind (Some f) = shape_kind f.shape f.table ≡ kind

forward_kind : (base : BaseParts) (fd : FieldDef) (vars : Vars) (p : Place) (next : Kind) (l : Option LinkDef) → IsSomeAnd l (λ l. next ≡ OfRow l.target) → IsOf next (forward_fetch l)
forward_kind base fd vars p next None h = tt
forward_kind base fd vars p next (Some l) h = sym h

backward_kinds : (base : BaseParts) (fd : FieldDef) (vars : Vars) (p : Place) (table : ℕ) (kind next : Kind) (l : Option LinkDef) → IsSomeAnd l (λ l. (kind ≡ OfRow l.target) × (next ≡ backward_kind (finds_one (slice_get base.catalog.tables table) l) table)) → IsOf next (referring_fetch base fd vars p table l)
backward_kinds base fd vars p table kind next None h = tt
backward_kinds base fd vars p table kind next (Some l) h = link_fetch base fd vars p table l (finds_one (slice_get base.catalog.tables table) l) ∙ sym h.1

key_kind : (base : BaseParts) (fd : FieldDef) (vars : Vars) (p : Place) (table : ℕ) (next : Kind) (k : Option KeyDef) → IsSomeAnd k (λ k. next ≡ OfRow table) → IsOf next (key_fetch base fd vars p table k)
key_kind base fd vars p table next None h = tt
key_kind base fd vars p table next (Some k) h = sym h

fetch_kind : (base : BaseParts) (fd : FieldDef) (vars : Vars) (p : Place) (d : Does) (kind next : Kind) → Leads base.catalog d kind next → IsOf next (fetch_by base fd vars p d)
fetch_kind base fd vars p (does.All table) kind next h = sym h.2
fetch_kind base fd vars p (does.ByKey table key) kind next h = key_kind base fd vars p table next (key_at base.catalog table key) h.1
fetch_kind base fd vars p (does.Forward table link) kind next h = forward_kind base fd vars p next (link_at base.catalog table link) h.1
fetch_kind base fd vars p (does.Backward table link) kind next h = backward_kinds base fd vars p table kind next (link_at base.catalog table link) h
fetch_kind base fd vars p _ kind next h = tt

-- ---- other fields

all_rows : (table : ℕ) (rows : List Row) → AllAt (OfRow table) (map AtRow rows)
all_rows table [] = tt
all_rows table (r ∷ rows) = (tt, all_rows table rows)

all_edges : (l : Listed) (rows : List Row) → AllAt (OfEdge l.table) (map (edge_of l) rows)
all_edges l [] = tt
all_edges l (r ∷ rows) = (refl, all_edges l rows)

nodes_stand : (table : ℕ) (s : Stand) → StandsAt (OfRow table) (nodes_at s)
nodes_stand table (AtList l) = all_rows table l.rows
nodes_stand table _ = tt

edges_stand : (table : ℕ) (s : Stand) → IsAt (OfList table) s → StandsAt (OfEdge table) (edges_at s)
edges_stand table (AtList l) h = subst (λ t. AllAt (OfEdge t) (map (edge_of l) l.rows)) h (all_edges l l.rows)
edges_stand table _ h = tt

page_stands : (s : Stand) → StandsAt OfPage (page_at s)
page_stands (AtList l) = tt
page_stands _ = tt

node_stands : (table : ℕ) (s : Stand) → StandsAt (OfRow table) (node_at s)
node_stands table (AtEdge e) = tt
node_stands table _ = tt

payload_stands : (table : ℕ) (s : Stand) → StandsAt (OfRow table) (payload_at s)
payload_stands table (AtPayload row) = tt
payload_stands table _ = tt

other_stands : (base : BaseParts) (vars : Vars) (places : List Place) (p : Place) (fd : FieldDef) (d : Does) (kind next : Kind) (s : Stand) → Leads base.catalog d kind next → IsAt kind s → StandsAt next (other_field base vars places p fd d s)
other_stands base vars places p fd does.Nodes kind next s h at = subst (λ k. StandsAt k (nodes_at s)) (sym h.2) (nodes_stand h.0 s)
other_stands base vars places p fd does.Edges kind next s h at = subst (λ k. StandsAt k (edges_at s)) (sym h.2) (edges_stand h.0 s (subst (λ k. IsAt k s) h.1 at))
other_stands base vars places p fd does.PageInfo kind next s h at = subst (λ k. StandsAt k (page_at s)) (sym h.2) (page_stands s)
other_stands base vars places p fd does.Node kind next s h at = subst (λ k. StandsAt k (node_at s)) (sym h.2) (node_stands h.0 s)
other_stands base vars places p fd does.Payload kind next s h at = subst (λ k. StandsAt k (payload_at s)) (sym h.2) (payload_stands h.0 s)
other_stands base vars places p fd _ kind next s h at = tt

-- ---- each place

with_fetch : (base : BaseParts) (tables : Tables) (vars : Vars) (places : List Place) (p : Place) (fd : FieldDef) (kind next : Kind) (s : Stand) → field_of base.schema p ≡ Some fd → Leads base.catalog fd.does kind next → IsAt kind s → (f : Option Fetch) → IsOf next f → StandsAt next (by_fetch base tables vars places p f s)
with_fetch base tables vars places p fd kind next s is h at None k =
    subst (λ o. StandsAt next (by_field base vars places p o s)) (sym is) (other_stands base vars places p fd fd.does kind next s h at)
with_fetch base tables vars places p fd kind next s is h at (Some f) k =
    subst (λ n. StandsAt n (row_field tables (argument_error base vars p) f (stand_cells s))) k (field_stands tables (argument_error base vars p) f (stand_cells s))

-- the states that a field gives are stands of its type's kind
pub resolved_stands : (base : BaseParts) (kinds : ℕ → Kind) → AreKinds base kinds → (tables : Tables) (vars : Vars) (places : List Place) (p : Place) (fd : FieldDef) (s : Stand) → field_of base.schema p ≡ Some fd → IsAt (kinds p.ty) s → StandsAt (kinds fd.ty.name) (resolved base tables vars places p s)
unfolding resolved fetch_of
resolved_stands base kinds are tables vars places p fd s is at =
    let leads = are.fields p.ty p.field fd is in
    with_fetch base tables vars places p fd (kinds p.ty) (kinds fd.ty.name) s is leads at _
    (subst (λ o. IsOf (kinds fd.ty.name) (fetch_in base vars p o)) (sym is) (fetch_kind base fd vars p fd.does (kinds p.ty) (kinds fd.ty.name) leads))
