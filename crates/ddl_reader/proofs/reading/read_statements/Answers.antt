use Rattle.std.proofs.Common.{◌+◌, ◌-◌, List, [], length, refl, ap, ◌∙◌}
use Rattle.std.proofs.lemmas.Result.{err_from_is_err_and}
use Rattle.pg_base.specs.Catalog.{CatalogParts}
use Rattle.pg_catalog.specs.Built.{empty}
use Rattle.ddl_reader.specs.declared.lexeme.Lexeme.{Lexeme}
use Rattle.ddl_reader.specs.declared.statement.InsertStatement.{InsertStatement}
use Rattle.ddl_reader.specs.declared.statement.Row.{Row}
use Rattle.ddl_reader.specs.Script.{progress, statements, read}
use Rattle.ddl_reader.proofs.ScriptTurns.{turns_begin, turn_stops, turn_ends, turn_goes_on, turns_run_out}
use Rattle.ddl_reader.proofs.reading.read_statements.Goals as goal

pub loop-turn-init : goal.loop-turn-init
loop-turn-init c =
    let turns = length c.args.bytes.now + 2 in
    ap (λ (d : CatalogParts). statements (turns - 0) (progress d c.new-inserts.result c.new-rows.result) c.new-tokens.result) c.new-catalog.ensures
    ∙ ap (λ (inserts : List InsertStatement). statements (turns - 0) (progress empty inserts c.new-rows.result) c.new-tokens.result) c.new-inserts.ensures
    ∙ ap (λ (rows : List Row). statements (turns - 0) (progress empty [] rows) c.new-tokens.result) c.new-rows.ensures
    ∙ ap (λ (ts : List Lexeme). statements (turns - 0) (progress empty [] []) ts) c.new-tokens.ensures
    ∙ turns_begin c.args.bytes.now turns refl

pub returns-in_err-catalog : goal.returns-in_err-catalog
returns-in_err-catalog c =
    let l = c.loop-turn in
    let p = err_from_is_err_and c.from_residual.result c.from_residual.ensures.1 in
    rw (p.1, p.2) (turn_stops (read c.args.bytes.now) (length c.args.bytes.now + 2) l._turn (progress l.catalog l.inserts l.rows) l.tokens c.loop-turn-test.true l.invariant c.in_err-catalog.field-0.0 c.in_err-catalog.ensures)

pub returns-then-not-eat : goal.returns-then-not-eat
returns-then-not-eat c =
    let l = c.loop-turn in
    turn_ends (read c.args.bytes.now) (length c.args.bytes.now + 2) l._turn (progress l.catalog l.inserts l.rows) l.tokens c.loop-turn-test.true l.invariant (progress c.in_ok-catalog.catalog c.step.new.inserts c.step.new.rows) c.step.new.tokens c.in_ok-catalog.ensures c.eat.result c.eat.ensures.found c.if-not-eat.true

pub loop-turn-preserved : goal.loop-turn-preserved
loop-turn-preserved c =
    let l = c.loop-turn in
    turn_goes_on (read c.args.bytes.now) (length c.args.bytes.now + 2) l._turn (progress l.catalog l.inserts l.rows) l.tokens c.loop-turn-test.true l.invariant (progress c.in_ok-catalog.catalog c.step.new.inserts c.step.new.rows) c.step.new.tokens c.in_ok-catalog.ensures c.eat.result c.eat.new.self c.eat.ensures.found c.eat.ensures.after c.if-not-eat.false

pub returns : goal.returns
returns c =
    let l = c.loop-turn in
    turns_run_out (read c.args.bytes.now) (length c.args.bytes.now + 2) l._turn (progress l.catalog l.inserts l.rows) l.tokens c.loop-turn-test.false l.invariant
