use Rattle.std.proofs.Common.{refl}
use Rattle.cursor_text.proofs.Decoded.{found_by, none_by, not_decoded, value_by, none_at}
use Rattle.cursor_text.proofs.read.read_cursor.Goals as goal

pub returns-in-Ok-clause-found : goal.returns-in-Ok-clause-found
returns-in-Ok-clause-found c =
    found_by c.args.text.now c.in-Ok.json.items _ _ (c.in-Ok.ensures.exact (refl, refl)) c.as_slice.ensures.value c.cursor_in.ensures

pub returns-in-Ok-clause-none : goal.returns-in-Ok-clause-none
returns-in-Ok-clause-none c =
    none_by c.args.text.now c.in-Ok.json.items _ _ c.in-Ok.ensures.ok c.as_slice.ensures.value c.cursor_in.ensures

pub returns-in-Err-DecodeError-clause-none : goal.returns-in-Err-DecodeError-clause-none
returns-in-Err-DecodeError-clause-none c =
    λ _. not_decoded c.args.text.now c.in-Err-DecodeError.field-0 c.in-Err-DecodeError.field-0-0 c.in-Err-DecodeError.ensures.err c.in-Err-DecodeError.field-0-is

pub returns-in-Ok-clause-value : goal.returns-in-Ok-clause-value
returns-in-Ok-clause-value c =
    value_by c.args.text.now c.in-Ok.json.items _ _ c.in-Ok.ensures.ok c.as_slice.ensures.value c.cursor_in.ensures

pub returns-in-Err-DecodeError-clause-value : goal.returns-in-Err-DecodeError-clause-value
returns-in-Err-DecodeError-clause-value c =
    none_at c.args.text.now c.in-Err-DecodeError.field-0 c.in-Err-DecodeError.field-0-0 c.in-Err-DecodeError.ensures.err c.in-Err-DecodeError.field-0-is
