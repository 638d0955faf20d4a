use Rattle.std.proofs.Common.{◌≡◌, ◌≢◌, ◌+◌, length, true, false, sym, ◌∙◌, rules, arith}
use Rattle.std.proofs.lemmas.List.{take_rest}
use Rattle.http_sessions.specs.HeadTests.{is_close}
use Rattle.http_sessions.proofs.FieldLists.{found, not_found, go_on}
use Rattle.http_sessions.proofs.fields.has_close.Goals as goal

pub returns-then-is_close : goal.returns-then-is_close
returns-then-is_close c =
    let is_so : is_close c.first_part-part.result.now ≡ true = search rules in
    found c.args.value.now _ c.first_part-part.result.now c.parts.at c.parts.invariant.within (take_rest c.args.value.now c.parts.at) c.first_part-part.ensures.part c.first_part-part.ensures.count c.parts.invariant.same is_so

pub returns-then-end-value : goal.returns-then-end-value
returns-then-end-value c =
    let nay : is_close c.first_part-part.result.now ≡ false = search rules in
    let end : c.parts.at + length c.first_part-part.result.now ≡ length c.args.value.now = search rules in
    not_found c.args.value.now _ c.first_part-part.result.now c.parts.at c.parts.invariant.within (take_rest c.args.value.now c.parts.at) c.first_part-part.ensures.part c.first_part-part.ensures.count c.parts.invariant.same nay end

pub parts-preserved : goal.parts-preserved
parts-preserved c =
    let nay : is_close c.first_part-part.result.now ≡ false = search rules in
    let on : c.parts.at + length c.first_part-part.result.now ≢ length c.args.value.now = search rules in
    let k = go_on c.args.value.now _ c.first_part-part.result.now c.parts.at c.parts.invariant.within (take_rest c.args.value.now c.parts.at) c.first_part-part.ensures.part c.first_part-part.ensures.count c.parts.invariant.same nay on in
    record { within = k.0; same = k.1 }
