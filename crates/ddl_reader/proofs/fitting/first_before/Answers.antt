use Rattle.std.proofs.Common.{◌∙◌, sym, ap, arith}
use Rattle.pg_base.specs.declared.pos.Pos.{Pos}
use Rattle.ddl_reader.specs.Stops.{stands_at}
use Rattle.ddl_reader.proofs.Fronts.{begins, over, found, goes_on, enough}
use Rattle.ddl_reader.proofs.fitting.first_before.Goals as goal

pub loop-turn-init : goal.loop-turn-init
loop-turn-init c = begins c.args.pos c.args.most c.args.start.now c.fork-tokens.result c.new-front.result.items c.fork-tokens.ensures c.new-front.ensures.items

pub returns-in_default : goal.returns-in_default
returns-in_default c = over c.args.pos c.args.most c.loop-turn._turn _ c.loop-turn.front.items c.loop-turn.tokens c.loop-turn.invariant (sym c.peek.ensures ∙ c.in_default.is)

pub returns-then-stands_at : goal.returns-then-stands_at
returns-then-stands_at c = found c.args.pos c.args.most c.loop-turn._turn _ c.loop-turn.front.items c.loop-turn.tokens c.loop-turn.invariant c.in-Some.token (sym c.peek.ensures ∙ c.in-Some.is)
    (sym (ap (λ (p : Pos). stands_at p c.args.pos) c.pos.ensures) ∙ sym c.stands_at.ensures ∙ c.if-stands_at.true)

pub loop-turn-preserved : goal.loop-turn-preserved
loop-turn-preserved c = goes_on c.args.pos c.args.most c.loop-turn._turn _ c.loop-turn.front.items c.loop-turn.tokens c.loop-turn.invariant c.in-Some.token c.push.new.self.items c.skip.new.self (sym c.peek.ensures ∙ c.in-Some.is)
    (sym (ap (λ (p : Pos). stands_at p c.args.pos) c.pos.ensures) ∙ sym c.stands_at.ensures ∙ c.if-stands_at.false) c.loop-turn-test.true c.in_ok-push.ensures.items c.skip.ensures.after

pub returns : goal.returns
returns c = enough c.args.pos c.args.most c.loop-turn._turn _ c.loop-turn.front.items c.loop-turn.tokens c.loop-turn.invariant (let h = c.loop-turn-test.false in omega (arith, h))
