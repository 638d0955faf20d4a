use Rattle.std.proofs.Common.{◌∙◌, ap, List, ℕ, ◌∷◌, [], arith}
use Rattle.std.proofs.lemmas.Str.{IsUtf8-append, IsUtf8-from_ascii}
use Rattle.std.proofs.lemmas.Str.Ascii.{IsAscii-cons, IsAscii-nil}
use Rattle.ddl_reader.proofs.literals.negated.Goals as goal

pub of_bytes-requires : goal.of_bytes-requires
of_bytes-requires c =
    let sign = IsUtf8-from_ascii (45 ∷ []) (IsAscii-cons 45 [] (omega arith) IsAscii-nil) in
    rw (c.in_ok-bytes.ensures ∙ ap (λ (w : List ℕ). 45 ∷ w) c.bytes.ensures.value) (IsUtf8-append (45 ∷ []) c.args.digits.now sign c.bytes.ensures.utf8)
