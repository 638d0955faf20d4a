-- Execution of a query by its places is execution by its selection sets.
use Rattle.std.proofs.Common.{◌≡◌, ℕ, List, [], ◌∷◌, map, Option, Some, None, refl, sym, ap, ◌∙◌, subst}
use Rattle.std.specs.Prelude.{slice_get, option_map}
use Rattle.std.specs.Option.{option_and_then}
use Rattle.rel_model.specs.declared.tables.Tables.{Tables}
use Rattle.pg_base.specs.declared.vars.Vars.{Vars}
use Rattle.pg_base.specs.Base.{BaseParts}
use Rattle.pg_base.specs.declared.schema.FieldDef.{FieldDef}
use Rattle.pg_base.specs.declared.does.Does.{Does}
use Rattle.pg_base.specs.declared.does.Does.TheVariants as does
use Rattle.place_tree.specs.declared.place.Place.{Place}
use Rattle.place_tree.specs.declared.answer.Answer.{Answer}
use Rattle.place_tree.specs.declared.answer.Answer.TheVariants.{Shows, Fails, One, Many}
use Rattle.place_tree.specs.Fold.{below}
use Rattle.place_tree.specs.Fields.{field_of}
use Rattle.place_tree.specs.declared.fetch.Fetch.{Fetch}
use Rattle.place_tree.specs.Fetch.{fetch_of, argument_error}
use Rattle.place_tree.specs.declared.stand.Stand.{Stand}
use Rattle.place_tree.specs.declared.stand.Stand.TheVariants.{Root}
use Rattle.place_tree.specs.Exec.{client_id, place_above, other_field, by_field, by_fetch, resolved}
use Rattle.place_tree.specs.Response.{members_of}
use Rattle.place_tree.proofs.Folds.{Paired, Agree, members_same}
use Rattle.gql_collect.specs.Trees.{tree_of}
use Rattle.gql_collect.specs.CollectLaws.{bare, Where, alone, placed_under, stand_below, field_gives, QueriesExecuteBySelectionSets}
use Rattle.gql_collect.proofs.WholeTrees.{executes}

client_bare : (vars : Vars) (o : Option Place) → client_id vars (option_map bare o) ≡ client_id vars o
client_bare vars None = refl
client_bare vars (Some a) = refl

above_alone : (above : Option Place) (p : Place) → place_above (alone above) (placed_under above p) ≡ above
above_alone None p = refl
above_alone (Some a) p = refl

module _ (base : BaseParts) (tables : Tables) (vars : Vars) (places : List Place) (p q : Place) (others : List Place) (ty : q.ty ≡ p.ty) (s : Stand) (client : client_id vars (place_above others q) ≡ client_id vars (place_above places p)) where
  other_same : (f : FieldDef) (d : Does) → other_field base vars others q f d s ≡ other_field base vars places p f d s
  other_same f does.ClientId = ap (λ l. let a : Answer Stand = Shows l in a) client
  other_same f _ = refl

resolved_by : (base : BaseParts) (tables : Tables) (vars : Vars) (places : List Place) (p : Place) (s : Stand) (above : Option Place) → option_map bare (place_above places p) ≡ above → (f : Option FieldDef) → by_field base vars (alone above) (placed_under above (bare p)) f s ≡ by_field base vars places p f s
resolved_by base tables vars places p s None is None = refl
resolved_by base tables vars places p s (Some a) is None = refl
resolved_by base tables vars places p s None is (Some f) =
    other_same base tables vars places p (placed_under None (bare p)) (alone None) refl s (ap (client_id vars) (sym is) ∙ client_bare vars (place_above places p)) f f.does
resolved_by base tables vars places p s (Some a) is (Some f) =
    other_same base tables vars places p (placed_under (Some a) (bare p)) (alone (Some a)) refl s (ap (client_id vars) (sym is) ∙ client_bare vars (place_above places p)) f f.does

fetch_same : (base : BaseParts) (tables : Tables) (vars : Vars) (places : List Place) (p : Place) (s : Stand) (above : Option Place) → option_map bare (place_above places p) ≡ above → (f : Option Fetch) → by_fetch base tables vars (alone above) (placed_under above (bare p)) f s ≡ by_fetch base tables vars places p f s
unfolding argument_error fetch_of
fetch_same base tables vars places p s None is None = resolved_by base tables vars places p s None is (field_of base.schema p)
fetch_same base tables vars places p s (Some a) is None = resolved_by base tables vars places p s (Some a) is (field_of base.schema p)
fetch_same base tables vars places p s None is (Some f) = refl
fetch_same base tables vars places p s (Some a) is (Some f) = refl

resolved_same : (base : BaseParts) (tables : Tables) (vars : Vars) (places : List Place) (p : Place) (s : Stand) (above : Option Place) → option_map bare (place_above places p) ≡ above → resolved base tables vars (alone above) (placed_under above (bare p)) s ≡ resolved base tables vars places p s
unfolding resolved fetch_of
resolved_same base tables vars places p s None is = fetch_same base tables vars places p s None is (fetch_of base vars p)
resolved_same base tables vars places p s (Some a) is = fetch_same base tables vars places p s (Some a) is (fetch_of base vars p)

module _ {S T : Type 0} (R : S → T → Type 0) (f : S → T) (step : (s : S) → R s (f s)) where
  paired_below : (ss : List S) → Paired R ss (map f ss)
  paired_below [] = tt
  paired_below (s ∷ ss) = (step s, paired_below ss)

  agree_below : (a : Answer S) → Agree R a (below f a)
  agree_below (Shows l) = refl
  agree_below (Fails m) = refl
  agree_below (One s) = step s
  agree_below (Many ss) = paired_below ss

module _ (base : BaseParts) (tables : Tables) (vars : Vars) (places : List Place) where
  abbrev where_at : Option ℕ → Stand → Where
  where_at parent s = record { above = option_map bare (option_and_then (slice_get places) parent); stand = s }

  agree_at : (i : ℕ) (p : Place) (s : Stand) (t : Where) → slice_get places i ≡ Some p → where_at p.parent s ≡ t → Agree (λ u w. where_at (Some i) u ≡ w) (resolved base tables vars places p s) (field_gives base tables vars (bare p) t)
  agree_at i p s t at r =
      subst (λ (w : Where). Agree (λ u w. where_at (Some i) u ≡ w) (resolved base tables vars places p s) (field_gives base tables vars (bare p) w)) r
      (subst (λ (a : Answer Stand). Agree (λ u w. where_at (Some i) u ≡ w) (resolved base tables vars places p s) (below (stand_below (bare p)) a))
      (sym (resolved_same base tables vars places p s (option_map bare (place_above places p)) refl))
      (agree_below (λ u w. where_at (Some i) u ≡ w) (stand_below (bare p)) (λ u. ap (λ (o : Option Place). let w : Where = record { above = option_map bare o; stand = u } in w) at) (resolved base tables vars places p s)))

  pub at_places : members_of (λ i p s. resolved base tables vars places p s) places 0 None Root ≡ members_of (λ i p w. field_gives base tables vars (bare p) w) places 0 None (record { above = None; stand = Root })
  at_places =
      members_same (λ parent s t. where_at parent s ≡ t) (λ i p s. resolved base tables vars places p s) (λ i p w. field_gives base tables vars (bare p) w) places agree_at None Root (record { above = None; stand = Root }) refl

pub queries_execute : QueriesExecuteBySelectionSets
queries_execute base tables document operation vars o is =
    at_places base tables vars (tree_of base.schema document operation vars).places
    ∙ executes (field_gives base tables vars) base.schema document operation vars o (record { above = None; stand = Root }) is
