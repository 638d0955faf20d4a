use Rattle.std.proofs.Common.{sym, ap, ◌∙◌, Some, subst, List, ℕ, IsUtf8}
use Rattle.cursor_text.proofs.Utf8.{utf8_some, utf8_none}
use Rattle.cursor_text.proofs.texts.text_of.Goals as goal

pub returns-in-Ok : goal.returns-in-Ok
returns-in-Ok c =
    ap (λ (t : List ℕ). Some t) (c.of_bytes.ensures ∙ c.into_vec.ensures)
    ∙ sym (utf8_some c.args.bytes (subst IsUtf8 c.as_slice.ensures c.in-Ok.ensures.cases.1))

pub returns-in-Err : goal.returns-in-Err
returns-in-Err c =
    sym (utf8_none c.args.bytes (subst (λ (l : List ℕ). IsUtf8 l → ⊥) c.as_slice.ensures c.in-Err.ensures.cases.0))
