use Rattle.std.proofs.Common.{◌∙◌}
use Rattle.std.proofs.lemmas.Str.{IsUtf8-append}
use Rattle.gql_vectors.proofs.joined.Goals as goal

pub of_bytes-requires : goal.of_bytes-requires
of_bytes-requires c = rw c.in_ok-bytes.ensures (IsUtf8-append c.args.first.now c.args.second.now c.utf8.first c.utf8.second)
