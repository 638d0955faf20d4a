-- Execution by recursion over the places (GraphQL, section 6).
use Rattle.std.specs.Prelude.{ℕ, ℤ, ◌-◌, ◌^◌, pos, Bool, true, false, ◌==◌, ◌&&◌, ◌||◌, nat_lt, if◌then◌else◌, List, [], ◌∷◌, map, length, Option, Some, None, slice_get, unwrap_or, codes}
use Rattle.json_out.specs.JsonText.{json_int}
use Rattle.pg_base.specs.declared.cell.Cell.{Cell}
use Rattle.pg_base.specs.declared.cell.Cell.TheVariants as cell
use Rattle.pg_base.specs.declared.cell.Mark.{Mark}
use Rattle.rel_model.specs.declared.tables.Row.{Row}
use Rattle.rel_model.specs.declared.tables.Tables.{Tables}
use Rattle.rel_model.specs.declared.window.By.{By}
use Rattle.rel_model.specs.Picked.{picked, cell_at}
use Rattle.rel_model.specs.Tables.{cells_at}
use Rattle.rel_model.specs.Ordered.{ordered, mark_of}
use Rattle.rel_model.specs.Interval.{interval_of, rows_between}
use Rattle.pg_base.specs.declared.value.Value.{Value}
use Rattle.pg_base.specs.declared.vars.Vars.{Vars}
use Rattle.pg_base.specs.Base.{BaseParts}
use Rattle.pg_base.specs.Catalog.{CatalogParts}
use Rattle.pg_base.specs.declared.schema.TypeRef.{TypeRef}
use Rattle.pg_base.specs.declared.schema.FieldDef.{FieldDef}
use Rattle.pg_base.specs.declared.does.Does.{Does}
use Rattle.pg_base.specs.declared.does.Does.TheVariants as does
use Rattle.pg_base.specs.Schema.{SchemaParts}
use Rattle.pg_base.specs.Value.{members_of, member_in}
use Rattle.pg_base.specs.Schema.{kind_at, cases_of, type_name_at}
use Rattle.place_tree.specs.declared.place.Place.{Place}
use Rattle.place_tree.specs.declared.place.Tree.{Tree}
use Rattle.place_tree.specs.Fold.{Leaf, null, int, truth, text, Answer, Shows, Fails, One, Many, same_place}
use Rattle.place_tree.specs.Response.{Members}
use Rattle.place_tree.specs.Spent.{spent}
use Rattle.place_tree.specs.Response as response
use Rattle.pg_base.specs.Schema.{int as int_type}
use Rattle.place_tree.specs.Fields.{typename, field_of, does_of, columns_of, is_row_field}
use Rattle.cursor_text.specs.CursorText.{cursor_text}
use Rattle.cursor_text.specs.Marked.{cursor_of}
use Rattle.place_tree.specs.Cursors.{labels_of}
use Rattle.place_tree.specs.Arguments.{argument, text_of}
use Rattle.place_tree.specs.declared.fetch.Fetch.{Fetch}
use Rattle.place_tree.specs.declared.fetch.KeyCells.{KeyCells}
use Rattle.place_tree.specs.declared.fetch.KeyCells.TheVariants.{Given, OfParent}
use Rattle.place_tree.specs.declared.fetch.Shape.{Shape}
use Rattle.place_tree.specs.declared.fetch.Shape.TheVariants as shape
use Rattle.place_tree.specs.declared.stand.Listed.{Listed}
use Rattle.place_tree.specs.declared.stand.Stand.{Stand}
use Rattle.place_tree.specs.declared.stand.Stand.TheVariants.{Root, AtRow, AtList, AtEdge, AtPayload}
use Rattle.place_tree.specs.Fetch.{fetch_of, argument_error}

-- ---- where places stand

abbrev pub row_at : Stand → Option Row
row_at Root = None
row_at (AtRow row) = Some row
row_at (AtList l) = None
row_at (AtEdge e) = None
row_at (AtPayload row) = Some row

abbrev pub cells_in : Option Row → List Cell
cells_in None = []
cells_in (Some row) = row.cells

-- the cells of the row at which a place stands
abbrev pub stand_cells : Stand → List Cell
stand_cells s = cells_in (row_at s)

-- ---- leaves

abbrev pub int_leaf : TypeRef → ℤ → Leaf
int_leaf ty n = if ty.name == int_type then int n else text (json_int n)

-- what a cell shows at a field of this type: a BigInt is a text, an enum's case its name
abbrev pub leaf_of : SchemaParts → TypeRef → Cell → Leaf
leaf_of schema ty cell.Null = null
leaf_of schema ty (cell.Int n) = int_leaf ty n
leaf_of schema ty (cell.Bool b) = truth b
leaf_of schema ty (cell.Text t) = text t
leaf_of schema ty (cell.EnumCase k) = text (unwrap_or (slice_get (cases_of (kind_at schema ty.name)) k) [])

-- Whether a row has a cursor in an order: the order has a name for each of its columns, and the row has a number from
-- 1, as those of valid tables have.
abbrev pub has_cursor : List (List ℕ) → List By → Row → Bool
has_cursor names order row = (length names == length order) && nat_lt 0 row.number

abbrev pub mark_cursor : CatalogParts → ℕ → List (List ℕ) → List By → Mark → List ℕ
mark_cursor catalog table names order mark =
    cursor_text (cursor_of names mark (labels_of catalog.enums (columns_of catalog table) order mark.values))

-- the cursor of a row of a table, in an order that has these names
abbrev pub row_cursor : CatalogParts → ℕ → List (List ℕ) → List By → Row → Leaf
row_cursor catalog table names order row =
    if has_cursor names order row then text (mark_cursor catalog table names order (mark_of order row)) else null

abbrev pub cursor_or_null : CatalogParts → Listed → Option Row → Leaf
cursor_or_null catalog l None = null
cursor_or_null catalog l (Some row) = row_cursor catalog l.table l.names l.order row

abbrev pub text_or_null : Option (List ℕ) → Leaf
text_or_null None = null
text_or_null (Some t) = text t

-- ---- row fields

-- the cells of a key, at the cells of the row above
abbrev pub key_of : KeyCells → List Cell → List Cell
key_of (Given cells) above = cells
key_of (OfParent columns) above = cells_at columns above

abbrev pub first_row : List Row → Option Row
first_row [] = None
first_row (row ∷ rows) = Some row

abbrev pub last_row : List Row → Option Row
last_row [] = None
last_row (row ∷ []) = Some row
last_row (row ∷ other ∷ rows) = last_row (other ∷ rows)

abbrev pub row_or_null : Option Row → Answer Stand
row_or_null None = Shows null
row_or_null (Some row) = One (AtRow row)

-- the ordered list that a fetch finds
abbrev pub list_found : Tables → Fetch → List Cell → List Row
list_found tables f above = ordered f.order (picked tables f.table f.by (key_of f.key above) f.condition)

-- of the list the part that is asked for
abbrev pub listed_between : Fetch → List Row → ℕ × ℕ → Listed
listed_between f list places = record {
  table = f.table;
  names = f.names;
  order = f.order;
  total = length list;
  from = places.0;
  to = places.1;
  rows = rows_between places list;
}

abbrev pub listed : Fetch → List Row → Listed
listed f list = listed_between f list (interval_of f.order f.window list)

-- what a fetch gives below a row with these cells
abbrev pub found_by : Tables → Fetch → Shape → List Cell → Answer Stand
found_by tables f shape.List above = One (AtList (listed f (list_found tables f above)))
found_by tables f shape.Row above =
    row_or_null (first_row (picked tables f.table f.by (key_of f.key above) []))

-- a row field: its error, or what it finds
abbrev pub row_field : Tables → Option (List ℕ) → Fetch → List Cell → Answer Stand
row_field tables (Some message) f above = Fails message
row_field tables None f above = found_by tables f f.shape above

-- ---- other fields; each stands where its type's fields are asked

abbrev pub nodes_at : Stand → Answer Stand
nodes_at (AtList l) = Many (map AtRow l.rows)
nodes_at _ = Many []

abbrev pub edge_of : Listed → Row → Stand
edge_of l row = AtEdge (record { table = l.table; names = l.names; order = l.order; row = row })

abbrev pub edges_at : Stand → Answer Stand
edges_at (AtList l) = Many (map (edge_of l) l.rows)
edges_at _ = Many []

abbrev pub page_at : Stand → Answer Stand
page_at (AtList l) = One (AtList l)
page_at _ = Shows null

abbrev pub node_at : Stand → Answer Stand
node_at (AtEdge e) = One (AtRow e.row)
node_at _ = Shows null

abbrev pub payload_at : Stand → Answer Stand
payload_at (AtPayload row) = One (AtRow row)
payload_at _ = Shows null

abbrev pub list_at : Stand → Option Listed
list_at Root = None
list_at (AtRow row) = None
list_at (AtList l) = Some l
list_at (AtEdge e) = None
list_at (AtPayload row) = None

abbrev pub leaf_in : (Listed → Leaf) → Option Listed → Leaf
leaf_in f None = null
leaf_in f (Some l) = f l

abbrev pub of_list : (Listed → Leaf) → Stand → Leaf
of_list f s = leaf_in f (list_at s)

-- a number, which as an integer has 64 bits
abbrev pub number_leaf : ℕ → Leaf
number_leaf n = if nat_lt n (2 ^ 63) then int (pos n) else null

abbrev pub total_of : Listed → Leaf
total_of l = number_leaf l.total

abbrev pub has_previous : Listed → Leaf
has_previous l = truth (nat_lt 0 l.from)

abbrev pub has_next : Listed → Leaf
has_next l = truth (nat_lt l.to l.total)

abbrev pub start_of : CatalogParts → Listed → Leaf
start_of catalog l = cursor_or_null catalog l (first_row l.rows)

abbrev pub end_of : CatalogParts → Listed → Leaf
end_of catalog l = cursor_or_null catalog l (last_row l.rows)

abbrev pub edge_cursor : CatalogParts → Stand → Leaf
edge_cursor catalog (AtEdge e) = row_cursor catalog e.table e.names e.order e.row
edge_cursor catalog _ = null

-- the `clientMutationId` in the input of the mutation field above
abbrev pub input_id : Option Value → Leaf
input_id None = null
input_id (Some input) = text_or_null (text_of (member_in (members_of input) (codes "clientMutationId")))

abbrev pub client_id : Vars → Option Place → Leaf
client_id vars None = null
client_id vars (Some above) = input_id (argument vars above 0)

abbrev pub place_at : List Place → Option ℕ → Option Place
place_at places None = None
place_at places (Some i) = slice_get places i

abbrev pub place_above : List Place → Place → Option Place
place_above places p = place_at places p.parent

-- a field that is no row field, or one whose key or link the catalog doesn't have
abbrev pub other_field : BaseParts → Vars → List Place → Place → FieldDef → Does → Stand → Answer Stand
other_field base vars places p f (does.Column table column) s =
    Shows (leaf_of base.schema f.ty (cell_at (stand_cells s) column))
other_field base vars places p f (does.Forward table link) s = Shows null
other_field base vars places p f (does.Backward table link) s = Shows null
other_field base vars places p f (does.All table) s = Shows null
other_field base vars places p f (does.ByKey table key) s = Shows null
other_field base vars places p f (does.Create table) s = Shows null
other_field base vars places p f (does.Update table key) s = Shows null
other_field base vars places p f (does.Delete table key) s = Shows null
other_field base vars places p f does.Nodes s = nodes_at s
other_field base vars places p f does.Edges s = edges_at s
other_field base vars places p f does.PageInfo s = page_at s
other_field base vars places p f does.Node s = node_at s
other_field base vars places p f does.Payload s = payload_at s
other_field base vars places p f does.Total s = Shows (of_list total_of s)
other_field base vars places p f does.HasPrevious s = Shows (of_list has_previous s)
other_field base vars places p f does.HasNext s = Shows (of_list has_next s)
other_field base vars places p f does.Start s = Shows (of_list (start_of base.catalog) s)
other_field base vars places p f does.End s = Shows (of_list (end_of base.catalog) s)
other_field base vars places p f does.Cursor s = Shows (edge_cursor base.catalog s)
other_field base vars places p f does.ClientId s = Shows (client_id vars (place_above places p))

abbrev pub by_field : BaseParts → Vars → List Place → Place → Option FieldDef → Stand → Answer Stand
by_field base vars places p None s =
    if p.field == typename then Shows (text (type_name_at base.schema p.ty)) else Shows null
by_field base vars places p (Some f) s = other_field base vars places p f f.does s

abbrev pub by_fetch : BaseParts → Tables → Vars → List Place → Place → Option Fetch → Stand → Answer Stand
by_fetch base tables vars places p None s = by_field base vars places p (field_of base.schema p) s
by_fetch base tables vars places p (Some f) s = row_field tables (argument_error base vars p) f (stand_cells s)

-- what a place gives
unfoldable pub resolved : BaseParts → Tables → Vars → List Place → Place → Stand → Answer Stand
resolved base tables vars places p s = by_fetch base tables vars places p (fetch_of base vars p) s

-- ---- the response

-- the members below a place, or at the root, from a stand on
abbrev pub executed_below : BaseParts → Tables → Vars → Tree → Option ℕ → Stand → Members
executed_below base tables vars tree parent s =
    response.members_of (λ i p s. resolved base tables vars tree.places p s) tree.places 0 parent s

-- the data of a query
abbrev pub executed : BaseParts → Tables → Vars → Tree → Members
executed base tables vars tree = executed_below base tables vars tree None Root

-- the payload of the mutation field at a place, whose commit gave the row
abbrev pub executed_payload : BaseParts → Tables → Vars → Tree → ℕ → Row → Members
executed_payload base tables vars tree place row =
    executed_below base tables vars tree (Some place) (AtPayload row)

-- ---- visited rows

-- whether it is one of the fields that show rows of a connection, or their page
abbrev pub shows_rows : Option Does → Bool
shows_rows (Some does.Nodes) = true
shows_rows (Some does.Edges) = true
shows_rows (Some does.PageInfo) = true
shows_rows _ = false

-- whether nodes, edges or pageInfo stands below the place
abbrev pub needs_rows : SchemaParts → List Place → ℕ → Bool
needs_rows schema [] i = false
needs_rows schema (p ∷ places) i =
    (same_place p.parent (Some i) && shows_rows (does_of schema p)) || needs_rows schema places i

-- the rows of a stand that a row field gave: the list's part where it is shown, or the one row
abbrev pub rows_at : Bool → Stand → ℕ
rows_at shown Root = 0
rows_at shown (AtRow row) = 1
rows_at shown (AtList l) = if shown then l.to - l.from else 0
rows_at shown (AtEdge e) = 0
rows_at shown (AtPayload row) = 0

abbrev pub rows_in : Bool → Answer Stand → ℕ
rows_in shown (Shows l) = 0
rows_in shown (Fails message) = 0
rows_in shown (One s) = rows_at shown s
rows_in shown (Many ss) = 0

-- how many rows the place at i visits, which gives this; a field that is no row field visits none
abbrev pub cost : SchemaParts → List Place → ℕ → Place → Answer Stand → ℕ
cost schema places i p a = if is_row_field (does_of schema p) then rows_in (needs_rows schema places i) a else 0

-- how many rows the places below a place, or at the root, visit
abbrev pub visited_below : BaseParts → Tables → Vars → Tree → Option ℕ → Stand → ℕ
visited_below base tables vars tree parent s =
    spent (λ i p s. resolved base tables vars tree.places p s) (λ i p a. cost base.schema tree.places i p a) tree.places
    0 parent s

abbrev pub visited : BaseParts → Tables → Vars → Tree → ℕ
visited base tables vars tree = visited_below base tables vars tree None Root
