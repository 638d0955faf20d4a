use Rattle.std.proofs.Common.{◌≡◌, length, sym, ap, ◌∙◌, subst}
use Rattle.pg_base.specs.Lists.{Each}
use Rattle.stmt_tree.specs.declared.found.Key.{Key}
use Rattle.stmt_tree.specs.declared.stmt.Child.TheViews.{out-Stmt}
use Rattle.plan_steps.specs.declared.plan.FetchStep.{out-FetchStep}
use Rattle.plan_steps.specs.Filled.{stmt_of}
use Rattle.plan_steps.proofs.Listings.{stmt_is}
use Rattle.batch_execute.proofs.fetching.send.Goals as goal

pub run-requires-clause-keys : goal.run-requires-clause-keys
run-requires-clause-keys g c =
    let by : (out-Stmt c.in_ok-stmt.stmt).by ≡ (out-FetchStep c.args.fetch.now).by =
    ap (λ s. (out-Stmt s).by) (c.in_ok-stmt.ensures ∙ ap (λ b. stmt_of b c.args.q.now.vars.now c.args.fetch.now) c.base.ensures)
    ∙ ap (λ s. s.by) (stmt_is c.args.q.now.entry.now.base c.args.q.now.vars.now c.args.fetch.now) in
    subst (λ l. Each (λ (k : Key). length k.cells ≡ length (out-Stmt c.in_ok-stmt.stmt).by) l) (sym c.as_slice.ensures)
    (subst (λ b. Each (λ (k : Key). length k.cells ≡ length b) c.args.keys) (sym by) c.requires.keys)
