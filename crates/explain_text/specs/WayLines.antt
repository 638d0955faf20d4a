-- The lines of fetches, by how the rows of each step are come by.
use Rattle.std.specs.Prelude.{List, [], ◌∷◌, ◌++◌, ℕ}
use Rattle.pg_base.specs.Catalog.{CatalogParts}
use Rattle.batch_execute.specs.declared.way.Way.{Way}
use Rattle.batch_execute.specs.declared.way.Way.TheVariants.{Other, Once, Sent, Read}
use Rattle.plan_steps.specs.declared.plan.Step.{Step}
use Rattle.explain_text.specs.Explained.{step_line}

abbrev pub line_by : CatalogParts → Step → Way → List ℕ
line_by catalog s Once = step_line catalog s
line_by catalog s (Sent above) = step_line catalog s
line_by catalog s Other = []
line_by catalog s (Read above child) = []

abbrev pub lines_by : CatalogParts → List Step → List Way → List ℕ
lines_by catalog [] how = []
lines_by catalog (s ∷ steps) [] = []
lines_by catalog (s ∷ steps) (w ∷ how) = line_by catalog s w ++ lines_by catalog steps how
