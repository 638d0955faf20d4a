use Rattle.std.proofs.Common.{subst, arith, length-drop}
use Rattle.std.specs.Str.{IsUtf8}
use Rattle.std.proofs.lemmas.List.{take_rest}
use Rattle.std.proofs.lemmas.Str.{utf8_valid_len-IsUtf8}
use Rattle.sql_lex.proofs.lex.first_bad_byte.Goals as goal

pub returns-in-Ok-clause-value : goal.returns-in-Ok-clause-value
returns-in-Ok-clause-value c =
    let u = subst IsUtf8 (take_rest c.args.text.now c.args.at) c.in-Ok.ensures.cases.1 in
    omega (arith, utf8_valid_len-IsUtf8 _ u, length-drop c.args.at c.args.text.now)
