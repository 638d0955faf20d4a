use Rattle.command_words.specs.Asked.{told}
use Rattle.graphile_prog.specs.Told.{Outside, Output, outside, output}
use Rattle.graphile_prog.proofs.RunEnds.{complete, ended_told, ended_done}
use Rattle.graphile_prog.proofs.run.run_once.Goals as goal

pub returns-in-Err-perform-clause-complete : goal.returns-in-Err-perform-clause-complete
returns-in-Err-perform-clause-complete g c =
    let o : Outside = outside (g.F.Files.file c.args.files.now) (g.F.Files.faults c.args.files.now) (g.F.Files.faults c.perform.new.files) in
    let out : Output = output (g.K.Sink.taken c.args.sink.now) (g.K.Sink.taken c.tell-in-Err-perform.new.sink) (g.K.Sink.faults c.args.sink.now) (g.K.Sink.faults c.tell-in-Err-perform.new.sink) in
    complete _ o out c.tell-in-Err-perform.result
    (ended_told _ (told c.in-Ok.command) o out _ c.tell-in-Err-perform.result c.in-Ok.ensures.found c.in-Err-perform.ensures.err c.tell-in-Err-perform.ensures.same)

pub returns-in-Ok-perform-clause-order : goal.returns-in-Ok-perform-clause-order
returns-in-Ok-perform-clause-order g c =
    let o : Outside = outside (g.F.Files.file c.args.files.now) (g.F.Files.faults c.args.files.now) (g.F.Files.faults c.perform.new.files) in
    let out : Output = output (g.K.Sink.taken c.args.sink.now) (g.K.Sink.taken c.deliver.new.sink) (g.K.Sink.faults c.args.sink.now) (g.K.Sink.faults c.deliver.new.sink) in
    ended_done _ (told c.in-Ok.command) o out c.deliver.result _ c.in-Ok.ensures.found c.in-Ok-perform.ensures.ok c.deliver.ensures
