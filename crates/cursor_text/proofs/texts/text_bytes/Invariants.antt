use Rattle.std.proofs.Common.{◌≡◌, ◌-◌, length}
use Rattle.cursor_text.specs.Reader.{after_items, items_until, until}
use Rattle.cursor_text.specs.Reading as spec
use Rattle.cursor_text.proofs.texts.text_bytes.Given as goal

abbrev pub invariant-loop-turn : goal.invariant-loop-turn
invariant-loop-turn l =
    until 34 spec.text_byte l.fn.bytes.rest.now
    ≡ after_items l.found (items_until 34 spec.text_byte (length l.fn.bytes.rest.now - l._turn)) l.bytes.rest.now
