use Rattle.std.proofs.Common.{IsUtf8}
use Rattle.json_out.specs.JsonText.{json_text}
use Rattle.pg_base.proofs.ListSteps.{drop-item, drop-past}
use Rattle.cursor_text.proofs.Written.{start, turn, closed, all_valid}
use Rattle.cursor_text.proofs.write.put_later_names.Goals as goal

pub loop-name-init : goal.loop-name-init
loop-name-init c = start IsUtf8 json_text _ _

pub loop-name-preserved : goal.loop-name-preserved
loop-name-preserved c =
    turn IsUtf8 json_text _ _ _ _ _ _ _ c.loop-name.invariant (drop-item _ _ _ c.loop-name-test.true c.name-item.is)
    c.in_ok-put_later_name.ensures.ok c.in_ok-put_later_name.ensures.utf8

pub returns-clause-ok : goal.returns-clause-ok
returns-clause-ok c =
    closed IsUtf8 json_text _ _ _ _ c.loop-name.invariant (drop-past _ _ c.loop-name-test.false) _ c.in_ok-push.ensures.items

pub returns-clause-utf8 : goal.returns-clause-utf8
returns-clause-utf8 c = all_valid IsUtf8 json_text _ _ _ _ c.loop-name.invariant (drop-past _ _ c.loop-name-test.false)
