use Rattle.std.proofs.Common.{[], ◌∷◌, ◌++◌, ◌+◌, refl, sym, subst, ◌∙◌}
use Rattle.plan_cache.specs.Shelf.{Shows, Shelved}
use Rattle.kept_responses.specs.Counts.{counts}
use Rattle.kept_responses.specs.Kept.{KeptParts}
use Rattle.kept_responses.specs.Served.{asked_of}
use Rattle.kept_responses.proofs.Serving.{made_run, stopped_made}
use Rattle.kept_responses.proofs.responding.respond_new.Goals as goal

pub returns-in-Ok-clause-served : goal.returns-in-Ok-clause-served
returns-in-Ok-clause-served g c history tree n shows look made =
    let entered = subst (λ (k : KeptParts). Shows c.keep.new.shelf (history ++ k ∷ [])) (sym c.deref.ensures) (c.in-Ok.ensures.entered history shows) in
    made_run (g.R.Rows.tables_of c.args.rows.now c.args.at.now) (asked_of c.args.wanted.now) tree history c.args.shelf.now c.keep.new.shelf
    c.deref.result.now c.args.ready (c.deref.ensures ∙ c.in-Ok.ensures.kept) made look entered
    c.run_kept-answer.ensures.fits c.run_kept-answer.ensures.sound
    (counts (g.R.Rows.sent c.args.rows.now) (g.R.Rows.got c.args.rows.now) (g.R.Rows.faults c.args.rows.now) n)
    (counts (g.R.Rows.sent c.run_kept-answer.new.rows) (g.R.Rows.got c.run_kept-answer.new.rows) (g.R.Rows.faults c.run_kept-answer.new.rows) (n + 1))
    refl c.run_kept-answer.result (c.run_kept-answer.ensures.run n (n + 1))

pub returns-in-Err-clause-served : goal.returns-in-Err-clause-served
returns-in-Err-clause-served g c history tree n shows look made =
    stopped_made (g.R.Rows.tables_of c.args.rows.now c.args.at.now) (asked_of c.args.wanted.now) tree history c.args.shelf.now c.keep.new.shelf
    look (subst (λ (s : Shelved KeptParts). Shows s history) (sym c.in-Err.ensures.stays) shows)
    (g.R.Rows.sent c.args.rows.now) (g.R.Rows.got c.args.rows.now) (g.R.Rows.faults c.args.rows.now) n
