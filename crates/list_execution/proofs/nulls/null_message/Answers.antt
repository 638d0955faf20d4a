use Rattle.std.proofs.Common.{rules, ◌≡◌, ◌++◌, codes, sym, subst, IsUtf8}
use Rattle.std.proofs.lemmas.Str.{IsUtf8-append}
use Rattle.list_execution.proofs.Texts.{IsUtf8-start}
use Rattle.list_execution.proofs.nulls.null_message.Goals as goal

pub of_bytes-requires : goal.of_bytes-requires
of_bytes-requires c =
    let e : c.extend_from_slice-2.new.self.items ≡ codes "null for argument " ++ c.bytes.result.now = search rules in
    let u : IsUtf8 c.bytes.result.now = subst IsUtf8 (sym c.bytes.ensures.value) c.bytes.ensures.utf8 in
    subst IsUtf8 (sym e) (IsUtf8-append (codes "null for argument ") c.bytes.result.now IsUtf8-start u)
