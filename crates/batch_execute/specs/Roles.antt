-- What a place shows of what its step found: its role, which arguments and variables alone decide.
use Rattle.std.specs.Prelude.{ℕ, ◌+◌, Bool, List, [], ◌∷◌, Option, Some, None}
use Rattle.pg_base.specs.Base.{BaseParts}
use Rattle.pg_base.specs.declared.does.Does.{Does}
use Rattle.pg_base.specs.declared.does.Does.TheVariants as does
use Rattle.pg_base.specs.declared.vars.Vars.{Vars}
use Rattle.place_tree.specs.declared.fetch.Fetch.{Fetch}
use Rattle.place_tree.specs.declared.fetch.Shape.{Shape}
use Rattle.place_tree.specs.declared.fetch.Shape.TheVariants as shape
use Rattle.place_tree.specs.declared.place.Place.{Place}
use Rattle.place_tree.specs.Exec.{needs_rows}
use Rattle.place_tree.specs.Fetch.{fetch_of, argument_error}
use Rattle.place_tree.specs.Fields.{does_of}
use Rattle.plan_steps.specs.declared.plan.OutPlace.{OutPlace}
use Rattle.plan_steps.specs.Named.{step_for}
use Rattle.batch_execute.specs.declared.role.Role.{Role}
use Rattle.batch_execute.specs.declared.role.Role.TheVariants.{Failed, OfList, OfRow, Each, Same, OfLeaf}

-- a field that asks nothing of the tables
abbrev pub role_by : Option Does → Role
role_by None = OfLeaf
role_by (Some (does.Column table column)) = OfLeaf
role_by (Some (does.Forward table link)) = OfLeaf
role_by (Some (does.Backward table link)) = OfLeaf
role_by (Some (does.All table)) = OfLeaf
role_by (Some (does.ByKey table key)) = OfLeaf
role_by (Some (does.Create table)) = OfLeaf
role_by (Some (does.Update table key)) = OfLeaf
role_by (Some (does.Delete table key)) = OfLeaf
role_by (Some does.Nodes) = Each
role_by (Some does.Edges) = Each
role_by (Some does.PageInfo) = Same
role_by (Some does.Node) = Same
role_by (Some does.Payload) = Same
role_by (Some does.Total) = OfLeaf
role_by (Some does.HasNext) = OfLeaf
role_by (Some does.HasPrevious) = OfLeaf
role_by (Some does.Start) = OfLeaf
role_by (Some does.End) = OfLeaf
role_by (Some does.Cursor) = OfLeaf
role_by (Some does.ClientId) = OfLeaf

-- a list, whose rows are shown or not, or one row
abbrev pub role_in : Bool → Shape → Role
role_in shown shape.List = OfList shown
role_in shown shape.Row = OfRow

abbrev pub role_or : Option (List ℕ) → Role → Role
role_or None role = role
role_or (Some message) role = Failed message

-- a row field with an error shows that
abbrev pub role_with : BaseParts → Vars → List Place → ℕ → Place → Option Fetch → Role
role_with base vars places i p None = role_by (does_of base.schema p)
role_with base vars places i p (Some f) =
    role_or (argument_error base vars p) (role_in (needs_rows base.schema places i) f.shape)

-- that of the place at i
abbrev pub role_of : BaseParts → Vars → List Place → ℕ → Place → Role
role_of base vars places i p = role_with base vars places i p (fetch_of base vars p)

-- those of all places, which count from a number on
abbrev pub roles_from : BaseParts → Vars → List Place → ℕ → List Place → List Role
roles_from base vars all i [] = []
roles_from base vars all i (p ∷ places) = role_of base vars all i p ∷ roles_from base vars all (i + 1) places

abbrev pub roles_of : BaseParts → Vars → List Place → List Role
roles_of base vars places = roles_from base vars places 0 places

-- ---- the steps that places show

abbrev pub steps_from : List OutPlace → ℕ → List Place → List (Option ℕ)
steps_from out i [] = []
steps_from out i (p ∷ places) = step_for out i ∷ steps_from out (i + 1) places

abbrev pub steps_of : List OutPlace → List Place → List (Option ℕ)
steps_of out places = steps_from out 0 places
