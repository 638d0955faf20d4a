use Rattle.std.proofs.Common.{◌≡◌, ◌-◌, length}
use Rattle.cursor_text.specs.Reader.{after_items, items_until, until}
use Rattle.cursor_text.specs.Reading as spec
use Rattle.cursor_text.proofs.read.later_values.Given as goal

abbrev pub invariant-loop-turn : goal.invariant-loop-turn
invariant-loop-turn l =
    after_items l.fn.found (until 93 (spec.later spec.mark_value)) l.fn.bytes.rest.now
    ≡ after_items l.found (items_until 93 (spec.later spec.mark_value) (length l.fn.bytes.rest.now - l._turn)) l.bytes.rest.now
