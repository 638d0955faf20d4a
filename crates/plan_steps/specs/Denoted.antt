-- What a plan shows at each place.
use Rattle.std.specs.Prelude.{ℕ, List, [], ◌∷◌, ◌++◌, map, Option, Some, None}
use Rattle.pg_base.specs.Base.{BaseParts}
use Rattle.pg_base.specs.Schema.{SchemaParts}
use Rattle.pg_base.specs.declared.does.Does.{Does}
use Rattle.pg_base.specs.declared.does.Does.TheVariants as does
use Rattle.pg_base.specs.declared.schema.FieldDef.{FieldDef}
use Rattle.pg_base.specs.declared.schema.TypeRef.{TypeRef}
use Rattle.pg_base.specs.declared.value.Value.{Value, List', Object'}
use Rattle.pg_base.specs.declared.value.Value.TheVariants as value
use Rattle.pg_base.specs.declared.vars.Vars.{Vars}
use Rattle.rel_model.specs.declared.tables.Row.{Row}
use Rattle.rel_model.specs.declared.tables.Tables.{Tables}
use Rattle.place_tree.specs.declared.place.Place.{Place}
use Rattle.place_tree.specs.declared.place.Tree.{Tree}
use Rattle.place_tree.specs.declared.fetch.Fetch.{Fetch}
use Rattle.place_tree.specs.declared.fetch.Shape.{Shape}
use Rattle.place_tree.specs.declared.fetch.Shape.TheVariants as shape
use Rattle.place_tree.specs.Arguments.{nullable}
use Rattle.place_tree.specs.Exec.{first_row, leaf_of}
use Rattle.place_tree.specs.Fetch.{fetch_of, argument_error}
use Rattle.place_tree.specs.Fields.{field_of}
use Rattle.place_tree.specs.declared.answer.Leaf.{Leaf}
use Rattle.place_tree.specs.declared.answer.Leaf.TheVariants.{Null as null, Int as int, Truth as truth, Text as text}
use Rattle.place_tree.specs.declared.answer.Answer.{Answer}
use Rattle.place_tree.specs.declared.answer.Answer.TheVariants.{Shows, Fails, One, Many}
use Rattle.place_tree.specs.Response.{Members}
use Rattle.place_tree.specs.Response as response
use Rattle.plan_steps.specs.declared.plan.Plan.{Plan}
use Rattle.plan_steps.specs.declared.plan.Root.{Root}
use Rattle.plan_steps.specs.declared.plan.Root.TheVariants as root
use Rattle.plan_steps.specs.Named.{step_for}
use Rattle.plan_steps.specs.Under.{root_place}
use Rattle.plan_steps.specs.Values.{Moment, Listing, Val, NoVal, InputVal, RowVal, ListVal, CellVal, LeafVal, Path, listing_in, val_at, all_vals}

-- a path one row further
abbrev pub onto : ℕ → Path → Row → Path
onto step path row = path ++ record { step = step; row = row } ∷ []

-- ---- row fields

abbrev pub one_row : ℕ → Path → Option Row → Answer Path
one_row step path None = Shows null
one_row step path (Some row) = One (onto step path row)

-- a list, or the one row
abbrev pub row_shown : Shape → ℕ → Path → Listing → Answer Path
row_shown shape.List step path l = One path
row_shown shape.Row step path l = one_row step path (first_row l.rows)

-- ---- other fields

abbrev pub input_leaf : Value → Leaf
input_leaf value.Null = null
input_leaf (value.Int n) = int n
input_leaf (value.Bool b) = truth b
input_leaf (value.Text t) = text t
input_leaf (value.Case c) = null
input_leaf (List' s items) = null
input_leaf (Object' s members) = null

-- what a value shows at a field of this type
abbrev pub leaf_in : SchemaParts → TypeRef → Val → Leaf
leaf_in schema ty NoVal = null
leaf_in schema ty (InputVal v) = input_leaf v
leaf_in schema ty (RowVal row) = null
leaf_in schema ty (ListVal l) = null
leaf_in schema ty (CellVal c) = leaf_of schema ty c
leaf_in schema ty (LeafVal l) = l

abbrev pub rows_shown : ℕ → Path → Val → Answer Path
rows_shown step path v = Many (map (onto step path) (listing_in v).rows)

abbrev pub other_shown : SchemaParts → TypeRef → Does → ℕ → Path → Val → Answer Path
other_shown schema ty (does.Column table column) step path v = Shows (leaf_in schema ty v)
other_shown schema ty (does.Forward table link) step path v = Shows (leaf_in schema ty v)
other_shown schema ty (does.Backward table link) step path v = Shows (leaf_in schema ty v)
other_shown schema ty (does.All table) step path v = Shows (leaf_in schema ty v)
other_shown schema ty (does.ByKey table key) step path v = Shows (leaf_in schema ty v)
other_shown schema ty (does.Create table) step path v = Shows (leaf_in schema ty v)
other_shown schema ty (does.Update table key) step path v = Shows (leaf_in schema ty v)
other_shown schema ty (does.Delete table key) step path v = Shows (leaf_in schema ty v)
other_shown schema ty does.Nodes step path v = rows_shown step path v
other_shown schema ty does.Edges step path v = rows_shown step path v
other_shown schema ty does.PageInfo step path v = One path
other_shown schema ty does.Node step path v = One path
other_shown schema ty does.Payload step path v = One path
other_shown schema ty does.Total step path v = Shows (leaf_in schema ty v)
other_shown schema ty does.HasNext step path v = Shows (leaf_in schema ty v)
other_shown schema ty does.HasPrevious step path v = Shows (leaf_in schema ty v)
other_shown schema ty does.Start step path v = Shows (leaf_in schema ty v)
other_shown schema ty does.End step path v = Shows (leaf_in schema ty v)
other_shown schema ty does.Cursor step path v = Shows (leaf_in schema ty v)
other_shown schema ty does.ClientId step path v = Shows (leaf_in schema ty v)

abbrev pub by_field : BaseParts → Option FieldDef → ℕ → Path → Val → Answer Path
by_field base None step path v = Shows (leaf_in base.schema nullable v)
by_field base (Some f) step path v = other_shown base.schema f.ty f.does step path v

-- ---- places

abbrev pub by_error : Option (List ℕ) → Answer Path → Answer Path
by_error None a = a
by_error (Some message) a = Fails message

-- what a place shows of the value of its step: a row field with an error shows this in its place
abbrev pub by_fetch : BaseParts → Vars → Place → Option Fetch → ℕ → Path → Val → Answer Path
by_fetch base vars p None step path v = by_field base (field_of base.schema p) step path v
by_fetch base vars p (Some f) step path v =
    by_error (argument_error base vars p) (row_shown f.shape step path (listing_in v))

abbrev pub shown_at : Moment → Place → Option ℕ → Path → List Val → Answer Path
shown_at m p None path vals = Shows null
shown_at m p (Some step) path vals = by_fetch m.base m.vars p (fetch_of m.base m.vars p) step path (val_at vals step)

-- what a place shows at a path
abbrev pub denoted : Moment → Plan → ℕ → Place → Path → Answer Path
denoted m plan i p path = shown_at m p (step_for plan.out i) path (all_vals m plan.steps path)

abbrev pub root_row : Root → Option Row
root_row root.Query = None
root_row (root.Field place row) = Some row

abbrev pub moment : BaseParts → Tables → Vars → Root → Moment
moment base tables vars r = record { base = base; tables = tables; vars = vars; given = root_row r }

-- the data that a plan shows for a root
abbrev pub denotation : BaseParts → Tables → Vars → Plan → Tree → Root → Members
denotation base tables vars plan tree r =
    response.members_of (denoted (moment base tables vars r) plan) tree.places 0 (root_place r) []
