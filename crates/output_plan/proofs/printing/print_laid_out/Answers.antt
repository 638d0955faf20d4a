use Rattle.std.proofs.Common.{◌≡◌, ap, ◌∙◌, subst}
use Rattle.place_tree.specs.declared.place.Tree.{Tree}
use Rattle.plan_steps.specs.declared.plan.Plan.{Plan}
use Rattle.output_plan.specs.Laid.{Laid}
use Rattle.output_plan.specs.Responses.{Responds}
use Rattle.output_plan.proofs.Whole.{tables_of, laid_same}
use Rattle.output_plan.proofs.printing.print_laid_out.Goals as goal

pub returns : goal.returns
returns c =
    let read : Laid = record {
      base = c.base.result.now;
      vars = c.args.vars.now;
      steps = c.as_slice.result.now;
      ways = c.args.ways.now;
      names = c.args.names.now;
      fetched = c.fetched.result.now;
      roles = c.roles.result.now;
      shows = c.args.shows.now;
      types = c.args.types.now;
    } in
    let same : read ≡ tables_of c.args.entry.now c.args.vars.now c.args.values.now.fetched = λ i. record {
      base = c.base.ensures i;
      vars = c.args.vars.now;
      steps = (c.as_slice.ensures ∙ ap (λ (q : Plan). q.steps) c.plan.ensures) i;
      ways = c.requires.ways i;
      names = c.requires.names i;
      fetched = c.fetched.ensures i;
      roles = (c.roles.ensures ∙ c.requires.roles) i;
      shows = c.requires.shows i;
      types = c.requires.types i;
    } in
    subst (λ m. Responds m c.response_of.result)
    (laid_same c.args.entry.now c.args.vars.now c.args.values.now read c.as_slice-2.result.now same (c.as_slice-2.ensures ∙ ap (λ (q : Tree). q.places) c.tree.ensures))
    c.response_of.ensures
