use Rattle.std.proofs.Common.{◌≡◌, map, drop}
use Rattle.httparse.specs.Spans.{header_bytes}
use Rattle.http_sessions.specs.HeadTests as spec
use Rattle.http_sessions.proofs.fields.has_encoding.Given as goal

abbrev pub invariant-loop-header : goal.invariant-loop-header
invariant-loop-header l = spec.any_field spec.is_encoding (map (header_bytes l.head) (drop l.header-index l.headers)) ≡ spec.any_field spec.is_encoding (map (header_bytes l.head) l.headers)
