use Rattle.std.proofs.Common.{◌≡◌, true, Ok, sym, ap, ◌∙◌}
use Rattle.gql_input.specs.Spelled.{is_int_value}
use Rattle.gql_input.proofs.Integers.{read, spelled, kept}
use Rattle.gql_input.proofs.spelled.read_integer.Goals as goal

pub returns-in-Ok : goal.returns-in-Ok
returns-in-Ok c =
    let is : is_int_value c.args.text.now ≡ true = cc in
    ap (λ z. Ok z) (kept c.args.text.now c.in-Ok.number c.parse.result c.in-Ok.is c.parse.ensures.value.0)
    ∙ sym (spelled c.args.text.now c.parse.result c.parse.ensures.value.0 is ∙ ap read c.in-Ok.is)

pub returns-in-Err : goal.returns-in-Err
returns-in-Err c =
    let is : is_int_value c.args.text.now ≡ true = cc in
    sym (spelled c.args.text.now c.parse.result c.parse.ensures.value.0 is ∙ ap read c.in-Err.is)
