use Rattle.std.proofs.Common.{◌≡◌, option_map, refl, sym, subst}
use Rattle.std.specs.Prelude.{IfSome}
use Rattle.std.specs.Arc.{arc_value}
use Rattle.pg_base.specs.Base.{BaseParts}
use Rattle.plan_cache.specs.Shelf.{Look}
use Rattle.kept_responses.specs.Counts.{counts}
use Rattle.kept_responses.specs.Kept.{KeptParts, key_for, AsksFor}
use Rattle.kept_responses.specs.Served.{asked_of}
use Rattle.kept_responses.proofs.Serving.{found_run, stopped}
use Rattle.kept_responses.proofs.responding.respond_kept.Goals as goal

abbrev IsBasedOn : BaseParts → KeptParts → Type 0
IsBasedOn base kept = kept.planned.base ≡ base

pub returns-in-Ok-Some-clause-served : goal.returns-in-Ok-Some-clause-served
returns-in-Ok-Some-clause-served g c history shows =
    let asked = asked_of c.args.wanted.now in
    let asks = subst (λ (b : BaseParts). AsksFor b asked c.args.tree) (sym c.requires.shelved) c.requires.asks in
    let look = subst (λ f. Look key_for asked history (option_map arc_value f)) c.in-Ok-Some.field-0-is (c.in-Ok-Some.ensures.look history shows) in
    let based = subst (λ f. IfSome f (λ e. IsBasedOn c.args.shelf.now.base (arc_value e))) c.in-Ok-Some.field-0-is c.in-Ok-Some.ensures.base in
    found_run (g.R.Rows.tables_of c.args.rows.now c.args.at.now) asked c.args.tree history c.args.shelf.now c.args.shelf.now
    (arc_value c.in-Ok-Some.kept) c.deref-in-Ok-Some.result.now c.deref-in-Ok-Some.ensures asks shows look based
    c.run_kept-answer.ensures.fits c.run_kept-answer.ensures.sound
    (counts (g.R.Rows.sent c.args.rows.now) (g.R.Rows.got c.args.rows.now) (g.R.Rows.faults c.args.rows.now) c.args.plans.now)
    (counts (g.R.Rows.sent c.run_kept-answer.new.rows) (g.R.Rows.got c.run_kept-answer.new.rows) (g.R.Rows.faults c.run_kept-answer.new.rows) c.args.plans.now)
    refl c.run_kept-answer.result (c.run_kept-answer.ensures.run c.args.plans.now c.args.plans.now)

pub returns-in-Err-clause-served : goal.returns-in-Err-clause-served
returns-in-Err-clause-served g c history shows =
    stopped (g.R.Rows.tables_of c.args.rows.now c.args.at.now) (asked_of c.args.wanted.now) c.args.tree history c.args.shelf.now c.args.shelf.now
    shows (g.R.Rows.sent c.args.rows.now) (g.R.Rows.got c.args.rows.now) (g.R.Rows.faults c.args.rows.now) c.args.plans.now c.args.plans.now refl
