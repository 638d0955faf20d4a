-- The lines of `explain`.
use Rattle.std.specs.Prelude.{ℕ, ◌+◌, false, if◌then◌else◌, List, [], ◌∷◌, ◌++◌, Option, Some, None, length, sum, slice_get, unwrap_or, decimal, codes}
use Rattle.pg_base.specs.Base.{BaseParts}
use Rattle.pg_base.specs.Catalog.{CatalogParts}
use Rattle.pg_base.specs.Lookups.{no_column, table_at}
use Rattle.pg_base.specs.declared.table_def.ColumnDef.{ColumnDef}
use Rattle.plan_constraints.specs.declared.constraint.Constraint.{Constraint}
use Rattle.plan_constraints.specs.declared.constraint.Constraint.TheVariants.{Value, Exists, Null, Keys}
use Rattle.plan_constraints.specs.declared.part.Part.{Part}
use Rattle.plan_constraints.specs.declared.part.Part.TheVariants.{Name, Index}
use Rattle.plan_steps.specs.Sent.{is_sent}
use Rattle.plan_steps.specs.declared.plan.FetchStep.{FetchStep, FetchStep-F, out-FetchStep, fold-FetchStep}
use Rattle.plan_steps.specs.declared.plan.Plan.{Plan}
use Rattle.plan_steps.specs.declared.plan.Step.{Step}
use Rattle.plan_steps.specs.declared.plan.Step.TheVariants as step
use Rattle.explain_text.specs.Values.{separated, truth_text, value_json}

-- ---- constraints

abbrev pub part_text : Part → List ℕ
part_text (Name name) = name
part_text (Index place) = decimal place

-- the parts of a path, with dots
abbrev pub path_text : List Part → List ℕ
path_text = separated 46 part_text false

abbrev pub name_text : List ℕ → List ℕ
name_text name = name

abbrev pub about : List ℕ → List Part → List ℕ
about words path = words ++ (path_text path ++ codes " ")

abbrev pub ended : List ℕ → List ℕ
ended text = text ++ codes "\n"

abbrev pub constraint_line : Constraint → List ℕ
constraint_line (Value path value) = about (codes "when value ") path ++ ended (value_json value)
constraint_line (Exists path so) = about (codes "when exists ") path ++ ended (truth_text so)
constraint_line (Null path so) = about (codes "when null ") path ++ ended (truth_text so)
constraint_line (Keys path names) = about (codes "when keys ") path ++ ended (separated 44 name_text false names)

abbrev pub constraint_lines : List Constraint → List ℕ
constraint_lines [] = []
constraint_lines (c ∷ cs) = constraint_line c ++ constraint_lines cs

-- ---- fetches

-- how many fetches there are in the tree of a fetch, itself among them
abbrev pub nodes_from : FetchStep-F ℕ → ℕ
nodes_from f = sum f.children + 1

abbrev pub nodes : FetchStep → ℕ
nodes = fold-FetchStep ℕ nodes_from

abbrev pub column_name : List ColumnDef → ℕ → List ℕ
column_name columns column = (unwrap_or (slice_get columns column) no_column).name

-- the columns that the key is compared with, or a minus where no row above has the key
abbrev pub columns_text : List ColumnDef → Option ℕ → List ℕ → List ℕ
columns_text columns None by = codes "-"
columns_text columns (Some parent) by = separated 44 (column_name columns) false by

abbrev pub nodes_end : FetchStep → List ℕ
nodes_end f = codes " nodes " ++ ended (decimal (nodes f))

-- the line of a fetch of a table with this name and these columns
abbrev pub line_in : List ℕ → List ColumnDef → FetchStep → List ℕ
line_in name columns f = codes "fetch " ++ (name ++ (codes " by "
    ++ (columns_text columns (out-FetchStep f).parent (out-FetchStep f).by ++ nodes_end f)))

abbrev pub fetch_line : CatalogParts → FetchStep → List ℕ
fetch_line catalog f =
    line_in (table_at catalog (out-FetchStep f).table).name (table_at catalog (out-FetchStep f).table).columns f

abbrev pub step_line : CatalogParts → Step → List ℕ
step_line catalog (step.Fetch f) = fetch_line catalog f
step_line catalog (step.Const value) = []
step_line catalog (step.Var path) = []
step_line catalog step.Given = []
step_line catalog (step.Item fetch) = []
step_line catalog (step.Column item column) = []
step_line catalog (step.Count fetch) = []
step_line catalog (step.Page fetch part) = []
step_line catalog (step.CursorOf item) = []

-- a line for each fetch that is a statement of its own, of the steps from a place on
abbrev pub fetch_lines_from : CatalogParts → List Step → ℕ → List Step → List ℕ
fetch_lines_from catalog all k [] = []
fetch_lines_from catalog all k (s ∷ steps) =
    (if is_sent all k then step_line catalog s else []) ++ fetch_lines_from catalog all (k + 1) steps

abbrev pub fetch_lines : CatalogParts → List Step → List ℕ
fetch_lines catalog steps = fetch_lines_from catalog steps 0 steps

-- ---- all lines

abbrev pub number_line : List ℕ → ℕ → List ℕ
number_line words n = words ++ ended (decimal n)

abbrev pub plan_lines : CatalogParts → Plan → List ℕ
plan_lines catalog plan =
    fetch_lines catalog plan.steps ++ (number_line (codes "layers ") (length plan.layers)
    ++ number_line (codes "steps ") (length plan.steps))

abbrev pub explained : ℕ → BaseParts → List Constraint → Plan → List ℕ
explained needs base constraints plan =
    number_line (codes "needs ") needs ++ (constraint_lines constraints ++ plan_lines base.catalog plan)
