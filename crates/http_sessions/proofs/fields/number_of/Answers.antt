use Rattle.std.proofs.Common.{◌≡◌, ◌≤◌, ◌<◌, ◌+◌, ◌*◌, ◌-◌, ℕ, List, drop, get_or, sym, ap, ◌∙◌, subst, rules, arith}
use Rattle.std.proofs.lemmas.Grind.{common_steps}
use Rattle.http_sessions.specs.HeadTests.{number_from}
use Rattle.http_sessions.proofs.FieldLists.{number_grows, too_large, at_digit}
use Rattle.http_sessions.proofs.fields.number_of.Goals as goal

pub returns-then-number-gt-MOST_BODY_BYTES-clause-value : goal.returns-then-number-gt-MOST_BODY_BYTES-clause-value
returns-then-number-gt-MOST_BODY_BYTES-clause-value c =
    let big : 1048576 < c.loop-digit.number * 10 + c.from.result = omega arith in
    let here : c.from.result ≡ get_or c.args.digits.now c.loop-digit.digit-index 0 - 48 = search rules in
    let grows = at_digit c.args.digits.now c.loop-digit.digit-index c.loop-digit.number c.from.result (number_from 0 c.args.digits.now) (search rules) here c.loop-digit.invariant.same in
    sym (too_large _ _ big grows)
