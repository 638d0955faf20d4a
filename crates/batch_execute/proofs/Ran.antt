-- What the run of an entry gives, from what was found for all its steps.
use Rattle.std.proofs.Common.{◌≡◌, ℕ, ◌+◌, ◌<◌, ◌≤◌, ◌^◌, List, [], Some, Result, Ok, Err, sym, ap, ◌∙◌, subst, arith}
use Rattle.std.specs.Prelude.{slice_get, IfSome, OnOk}
use Rattle.pg_base.specs.declared.vars.Vars.{Vars}
use Rattle.rel_model.specs.declared.tables.Tables.{Tables}
use Rattle.plan_steps.specs.declared.plan.FetchStep.{FetchStep}
use Rattle.plan_steps.specs.declared.plan.Root.{Root}
use Rattle.plan_steps.specs.declared.plan.Step.{Step}
use Rattle.plan_steps.specs.declared.plan.Step.TheVariants as step
use Rattle.plan_steps.specs.Denoted.{moment}
use Rattle.plan_steps.specs.Named.{named_by}
use Rattle.plan_steps.specs.Sent.{asked_count, places_from}
use Rattle.plan_steps.specs.Sound.{IsRootOf, MayRun}
use Rattle.plan_steps.specs.Sound as sound
use Rattle.plan_steps.specs.Values.{Moment}
use Rattle.plan_steps.specs.View.{Planned, IsSoundFor}
use Rattle.plan_steps.proofs.Earlier.{names_earlier}
use Rattle.batch_execute.specs.declared.fault.ExecFault.{ExecFault}
use Rattle.batch_execute.specs.declared.fault.ExecFault.TheVariants.{Store, TooManyRows, Memory}
use Rattle.batch_execute.specs.declared.role.Role.{Role}
use Rattle.batch_execute.specs.Entries.{fetched_all, sent_from, trees_found}
use Rattle.batch_execute.specs.Execution.{Answers, Finishes, GivesAll, SendsAll, SendsAsked, GetsFor, GetsWithin}
use Rattle.batch_execute.specs.Fetched.{FetchedParts}
use Rattle.batch_execute.specs.Reading.{setting, shown_for}
use Rattle.batch_execute.specs.Ready.{IsReadyFor}
use Rattle.batch_execute.specs.Roles.{roles_of}
use Rattle.batch_execute.specs.Values.{ValuesParts}
use Rattle.batch_execute.specs.Visited.{visited_for}
use Rattle.batch_execute.proofs.Checked.{item_fetch}
use Rattle.batch_execute.proofs.Listed.{listed_same}
use Rattle.batch_execute.proofs.Shown.{shown_same, rows_shown_same}
use Rattle.batch_execute.proofs.Sums.{sent_all, trees_all}

module _ (p : Planned) (is_sound : IsSoundFor p) (ready : IsReadyFor p) (tables : Tables) (vars : Vars) (r : Root) (may : MayRun p.base p.tree p.constraints tables vars r) where
  abbrev m : Moment
  m = moment p.base tables vars r

  abbrev all : List FetchedParts
  all = fetched_all m p.tree p.plan r

  earlier : (k : ℕ) (s : Step) → slice_get p.plan.steps k ≡ Some s → IfSome (named_by s) (λ j. j < k)
  earlier = names_earlier p.base p.tree p.plan is_sound.checked

  items : (q g : ℕ) → slice_get p.plan.steps q ≡ Some (step.Item g) → (f : FetchStep) × (slice_get p.plan.steps g ≡ Some (step.Fetch f))
  items = item_fetch p.base p.tree p.plan is_sound.checked

  few : trees_found all ≤ sound.visited_for p.base tables vars p.tree r
  few =
      let a = trees_all m p.tree p.plan r earlier ready.stands items in
      let b = is_sound.few tables vars r may in
      omega (arith, a, b)

  pub sends : (before now : ℕ) → SendsAll (moment p.base tables vars r) p.tree p.plan r before now → SendsAsked p tables vars r before now
  sends before now h less =
      let e : sent_from m p.tree p.plan r [] (places_from 0 p.plan.steps) ≡ asked_count m p.tree p.plan r = sent_all m p.tree p.plan r earlier ready.stands items in
      h (subst (λ n. before + n < 2 ^ 64) (sym e) less) ∙ ap (λ n. before + n) e

  pub gets : (room before now : ℕ) → GetsFor (moment p.base tables vars r) p.tree p.plan r room before now → GetsWithin p tables vars r room before now
  gets room before now h = record {
    rises = h.rises;
    room_ = h.room_;
    visited = let a = h.found in omega (arith, a, few);
  }

  shows : shown_for (setting p.base vars r) all p.plan p.tree r ≡ sound.executed_for p.base tables vars p.tree r
  shows =
      shown_same p.base p.plan p.tree p.constraints ready earlier items tables vars r may
      ∙ is_sound.same tables vars r may

  visits : visited_for p all (roles_of p.base vars p.tree.places) r ≡ sound.visited_for p.base tables vars p.tree r
  visits =
      listed_same p vars r all
      ∙ rows_shown_same p.base p.plan p.tree p.constraints ready earlier items tables vars r may
      ∙ ready.visits tables vars r may

  finishes : (room : ℕ) (result : Result ValuesParts ExecFault) → Finishes room (visited_for p all (roles_of p.base vars p.tree.places) r) all (roles_of p.base vars p.tree.places) result → Answers p tables vars r room result
  finishes room (Ok v) h =
      let visited : v.visited ≡ visited_for p all (roles_of p.base vars p.tree.places) r = ap (λ (x : ValuesParts). x.visited) h.0 in
      record {
        data_ = ap (λ (x : ValuesParts). shown_for (setting p.base vars r) x.fetched p.plan p.tree r) h.0 ∙ shows;
        visited = visited ∙ visits;
        within = (let a = h.1 in omega (arith, a, visited));
      }
  finishes room (Err Store) h = absurd h
  finishes room (Err TooManyRows) h = omega (arith, h, visits)
  finishes room (Err Memory) h = tt

  pub finished : (room : ℕ) (fetched : List FetchedParts) (roles : List Role) (result : Result ValuesParts ExecFault) → fetched ≡ fetched_all (moment p.base tables vars r) p.tree p.plan r → roles ≡ roles_of p.base vars p.tree.places →
      Finishes room (visited_for p fetched roles r) fetched roles result → Answers p tables vars r room result
  finished room fetched roles result ef er h =
      finishes room result (subst (λ f. Finishes room (visited_for p f (roles_of p.base vars p.tree.places) r) f (roles_of p.base vars p.tree.places) result) ef (subst (λ l. Finishes room (visited_for p fetched l r) fetched l result) er h))

  -- more was found than there was room for
  pub failed : (room now : ℕ) (fault : ExecFault) → GivesAll (moment p.base tables vars r) p.tree p.plan r room now (Err fault) → Answers p tables vars r room (Err fault)
  failed room now Store h = tt
  failed room now TooManyRows h = omega (arith, h, few)
  failed room now Memory h = tt

pub on_ok : {A E : Type 0} (r : Result A E) (P : Type 0) → P → OnOk r P
on_ok (Ok x) P h = h
on_ok (Err e) P h = tt
