use Rattle.std.proofs.Common.{ap}
use Rattle.std.proofs.lemmas.Str.{IsUtf8-string_bytes}
use Rattle.cursor_text.proofs.Written.{written}
use Rattle.cursor_text.proofs.write.write_cursor.Goals as goal

pub of_bytes-requires : goal.of_bytes-requires
of_bytes-requires c = rw c.into_bytes.ensures.value (IsUtf8-string_bytes c.in_ok-text.text)

pub returns : goal.returns
returns c =
    written _ _ _ _ _ _ _ _ _ c.of_bytes.ensures (ap (λ v. v.items) c.into_bytes.ensures.value) c.in_ok-text.ensures.text c.as_slice.ensures.value
    c.in_ok-put_cursor.ensures.ok c.new-json.ensures.items c.in_ok-put_cursor.ensures.order c.in_ok-put_cursor.ensures.values
    c.requires.values c.requires.number c.in_ok-put_cursor.ensures.number
