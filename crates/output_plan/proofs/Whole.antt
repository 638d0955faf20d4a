-- What is printed is what the values show.
use Rattle.std.proofs.Common.{◌≡◌, ℕ, List, [], ◌∷◌, map, Some, None, refl, ap, ◌∙◌, subst}
use Rattle.std.specs.Prelude.{slice_get, option_map}
use Rattle.pg_base.specs.declared.vars.Vars.{Vars}
use Rattle.place_tree.specs.declared.place.Place.{Place}
use Rattle.place_tree.specs.declared.answer.Answer.{Answer}
use Rattle.place_tree.specs.declared.answer.Answer.TheVariants.{Shows, Fails, One, Many}
use Rattle.place_tree.proofs.Folds.{Paired, Agree, members_same}
use Rattle.plan_steps.specs.declared.plan.Root.TheVariants as root
use Rattle.plan_steps.specs.Named.{step_for}
use Rattle.plan_steps.specs.View.{Planned}
use Rattle.batch_execute.specs.Fetched.{FetchedParts}
use Rattle.batch_execute.specs.Reading.{setting, Trail, shown_at, shown_for, type_of}
use Rattle.batch_execute.specs.Roles.{role_of, roles_of, steps_of}
use Rattle.batch_execute.specs.Values.{ValuesParts}
use Rattle.batch_execute.specs.Ways.{ways_of}
use Rattle.output_plan.specs.Laid.{Laid, show_or, type_or, shown_of, shown_on, shown_there}
use Rattle.output_plan.specs.Layout.{names_of}
use Rattle.output_plan.specs.Printed.{members_at}
use Rattle.output_plan.specs.Responses.{data_of}
use Rattle.output_plan.proofs.ShownLeaves.{shown_same}
use Rattle.output_plan.proofs.Tables.{get_map, role_at, show_at}

states_pair : (ss : List Trail) → Paired (λ s t. s ≡ t) ss ss
states_pair [] = tt
states_pair (s ∷ ss) = (refl, states_pair ss)

answer_pair : (a : Answer Trail) → Agree (λ s t. s ≡ t) a a
answer_pair (Shows l) = refl
answer_pair (Fails e) = refl
answer_pair (One s) = refl
answer_pair (Many ss) = states_pair ss

module _ (p : Planned) (vars : Vars) (fetched : List FetchedParts) where
  -- the tables that are laid out
  abbrev pub tables_of : Laid
  tables_of = record {
    base = p.base;
    vars = vars;
    steps = p.plan.steps;
    ways = ways_of p.plan.steps;
    names = map (names_of p.base) p.plan.steps;
    fetched = fetched;
    roles = roles_of p.base vars p.tree.places;
    shows = steps_of p.plan.out p.tree.places;
    types = map (type_of p.base.schema) p.tree.places;
  }

  place_same : (i : ℕ) (q : Place) (s : Trail) → slice_get p.tree.places i ≡ Some q → shown_on tables_of i s ≡ shown_at (setting p.base vars root.Query) fetched p.plan p.tree i q s
  place_same i q s at =
      ap (λ role. shown_of tables_of role s (type_or (slice_get tables_of.types i)) (show_or (slice_get tables_of.shows i))) (role_at p.base vars p.tree.places i q at)
      ∙ ap (λ ty. shown_of tables_of (role_of p.base vars p.tree.places i q) s ty (show_or (slice_get tables_of.shows i))) (ap type_or (get_map (type_of p.base.schema) p.tree.places i ∙ ap (λ o. option_map (type_of p.base.schema) o) at))
      ∙ ap (λ o. shown_of tables_of (role_of p.base vars p.tree.places i q) s (type_of p.base.schema q) o) (show_at p.plan.out p.tree.places i q at)
      ∙ shown_same tables_of refl refl q (role_of p.base vars p.tree.places i q) s (step_for p.plan.out i)

  pub data_same : members_at tables_of p.tree.places 0 None [] ≡ shown_for (setting p.base vars root.Query) fetched p.plan p.tree root.Query
  data_same =
      members_same (λ _ s t. s ≡ t) (shown_there tables_of) (shown_at (setting p.base vars root.Query) fetched p.plan p.tree) p.tree.places
      (λ i q s t at e. subst (λ a. Agree (λ s t. s ≡ t) (shown_on tables_of i s) a) (place_same i q s at ∙ ap (shown_at (setting p.base vars root.Query) fetched p.plan p.tree i q) e) (answer_pair (shown_on tables_of i s)))
      None [] [] refl

-- tables that are laid out so, field by field
pub laid_same : (p : Planned) (vars : Vars) (v : ValuesParts) (x : Laid) (places : List Place) → x ≡ tables_of p vars v.fetched → places ≡ p.tree.places → members_at x places 0 None [] ≡ data_of p vars v
laid_same p vars v x places e f =
    ap (λ y. members_at y places 0 None []) e
    ∙ ap (λ l. members_at (tables_of p vars v.fetched) l 0 None []) f
    ∙ data_same p vars v.fetched
