use Rattle.std.proofs.Common.{◌≡◌, ◌+◌, ◌<◌, ◌≤◌, length, sym, ◌∙◌, arith}
use Rattle.gql_nodes.specs.Listed.{views}
use Rattle.gql_validate.proofs.Spreading.{begin_turn, next_turn, end_turn}
use Rattle.gql_validate.proofs.spoiled.spread.Goals as goal

pub loop-turn-init : goal.loop-turn-init
loop-turn-init c = begin_turn (views c.args.graph.now.nodes.now) c.args.graph.now.tables c.args.spoiled.now.keys c.requires.some

pub loop-turn-preserved : goal.loop-turn-preserved
loop-turn-preserved c =
    next_turn (views c.args.graph.now.nodes.now) c.args.graph.now.tables c.args.spoiled.now.keys c.loop-turn.spoiled.keys c.put_each_led.new.spoiled.keys c.args.found.now c.loop-turn._turn
    c.requires.tables c.loop-turn.invariant c.in_ok-put_each_led.ensures (λ same. c.if-len-before.false (c.len.ensures.len ∙ same ∙ sym c.len-before.ensures.len))

pub returns-then-len-before : goal.returns-then-len-before
returns-then-len-before c =
    end_turn (views c.args.graph.now.nodes.now) c.args.graph.now.tables c.args.spoiled.now.keys c.loop-turn.spoiled.keys c.put_each_led.new.spoiled.keys c.args.found.now c.loop-turn._turn
    c.requires.tables c.loop-turn.invariant c.in_ok-put_each_led.ensures (sym c.len.ensures.len ∙ c.if-len-before.true ∙ c.len-before.ensures.len)

pub returns : goal.returns
returns c =
    let grown : c.loop-turn._turn + 1 ≤ length c.loop-turn.spoiled.keys = c.loop-turn.invariant.grown in
    let len : c.len-count.result ≡ length c.loop-turn.spoiled.keys = c.len-count.ensures.len in
    let small : c.len-count.result < 9223372036854775808 = c.len-count.ensures.small in
    let last : 18446744073709551615 ≤ c.loop-turn._turn = c.loop-turn-test.false in
    absurd (omega arith)
