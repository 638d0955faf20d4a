use Rattle.std.proofs.Common.{rules, arith, ◌≤◌, length}
use Rattle.std.proofs.lemmas.List.{take_rest}
use Rattle.http_sessions.proofs.HeadLines.{refused_early, few_lines, asks_so}
use Rattle.http_sessions.proofs.wants.read_head.Goals as goal

pub returns-then-extent-clause-value : goal.returns-then-extent-clause-value
returns-then-extent-clause-value c = refused_early c.args.head.now c.args.extent.first c.args.extent.lines c.requires.size c.requires.extent (omega (arith, c.if-extent.true))

pub read_lines-requires : goal.read_lines-requires
read_lines-requires c = few_lines c.args.head.now _ c.args.extent.first c.args.extent.lines c.requires.extent (omega (arith, c.if-extent.false)) (take_rest c.args.head.now c.args.extent.first)

pub returns-clause-value : goal.returns-clause-value
returns-clause-value c = asks_so c.args.head.now _ c.args.extent.first c.args.extent.lines _ c.requires.size c.requires.extent (omega (arith, c.if-extent.false)) (take_rest c.args.head.now c.args.extent.first) c.read_lines.ensures.value
