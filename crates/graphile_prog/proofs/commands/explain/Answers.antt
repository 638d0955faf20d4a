use Rattle.std.specs.Arc.{arc_value}
use Rattle.command_words.specs.Asked.{request_told}
use Rattle.graphile_prog.proofs.Results.{if_ok, if_err, on_ok, stay_on, stay_but}
use Rattle.graphile_prog.proofs.TaskStages.{plan_passed, query_unanswered}
use Rattle.graphile_prog.proofs.commands.explain.Goals as goal

pub returns-clause-ok : goal.returns-clause-ok
returns-clause-ok g c =
    if_ok c.plan_page.result _ _ (λ page a. plan_passed (g.F.Files.file c.args.files.now) (g.F.Files.file c.load_file.new.files) (g.F.Files.faults c.args.files.now)
    (g.F.Files.faults c.load_file.new.files) (g.F.Files.faults c.plan_page.new.files) (request_told c.args.asks) (arc_value c.in_ok-loaded.loaded.base) c.in_ok-loaded.loaded.tables
    c.in_ok-loaded.ensures.ok c.load_file.ensures.kept c.in_ok-loaded.ensures.quiet _ a) c.plan_page.ensures.ok

pub returns-clause-err : goal.returns-clause-err
returns-clause-err g c =
    if_err c.plan_page.result _ _ (query_unanswered (g.F.Files.file c.args.files.now) (g.F.Files.file c.load_file.new.files) (g.F.Files.faults c.args.files.now)
    (g.F.Files.faults c.load_file.new.files) (g.F.Files.faults c.plan_page.new.files) (request_told c.args.asks) (arc_value c.in_ok-loaded.loaded.base) c.in_ok-loaded.loaded.tables
    c.in_ok-loaded.ensures.ok c.load_file.ensures.kept c.in_ok-loaded.ensures.quiet) c.plan_page.ensures.err

pub returns-clause-counts : goal.returns-clause-counts
returns-clause-counts g c =
    if_err c.plan_page.result _ _ (stay_but (g.F.Files.faults c.args.files.now) (g.F.Files.faults c.load_file.new.files) (g.F.Files.faults c.plan_page.new.files)
    c.in_ok-loaded.ensures.quiet) c.plan_page.ensures.counts

pub returns-clause-quiet : goal.returns-clause-quiet
returns-clause-quiet g c =
    on_ok c.plan_page.result _ _ (stay_on (g.F.Files.faults c.args.files.now) (g.F.Files.faults c.load_file.new.files) (g.F.Files.faults c.plan_page.new.files)
    c.in_ok-loaded.ensures.quiet) c.plan_page.ensures.quiet
