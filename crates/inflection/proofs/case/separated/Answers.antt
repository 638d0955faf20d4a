use Rattle.std.proofs.Common.{arith}
use Rattle.std.proofs.lemmas.Iterator.{YieldsList-from_chars}
use Rattle.std.proofs.lemmas.Iterator.Consumers.{YieldsList-turn, YieldsList-end}
use Rattle.std.specs.Str.{chars}
use Rattle.inflection.proofs.Cases.{due_more, due_all}
use Rattle.inflection.proofs.case.separated.Goals as goal

pub loop-character-preserved : goal.loop-character-preserved
loop-character-preserved c =
    let turn = YieldsList-turn (YieldsList-from_chars c.args.label.now c.utf8.label cc) c.loop-character.yielded _ c.loop-character.yielded_by _ _ c.in-Some.character c.in-Some.is c.next.ensures.steps in
    due_more (chars c.args.label.now) c.loop-character.yielded c.in-Some.character _ c.loop-character.before _ _ _ turn c.name_byte-next.ensures c.loop-character.invariant c.in_ok-push_separated.ensures

pub returns : goal.returns
returns c =
    let end = YieldsList-end (YieldsList-from_chars c.args.label.now c.utf8.label cc) c.loop-character.yielded _ c.loop-character.yielded_by _ _ c.in-None.is c.next.ensures.steps in
    due_all (chars c.args.label.now) c.loop-character.yielded c.loop-character.before c.loop-character.bytes.items (omega (arith, end.1)) c.loop-character.invariant
