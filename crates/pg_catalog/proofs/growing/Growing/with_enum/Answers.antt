use Rattle.std.proofs.Common.{rules}
use Rattle.pg_catalog.proofs.Indexes.{enum_free, with_enum, enum_added}
use Rattle.pg_catalog.proofs.growing.Growing.with_enum.Goals as goal

pub push-requires : goal.push-requires
push-requires c = enum_free _ _ c.self.view_is _ _ _ c.self.invariant c.args.part.now c.requires

pub indexed-requires : goal.indexed-requires
indexed-requires c =
    with_enum _ _ c.self.view_is _ _ _ c.self.invariant c.args.part.now (record { name = c.know_text.ensures; cases = search rules }) c.requires _ (search rules) _ (search rules)

pub returns : goal.returns
returns c = enum_added _ _ c.self.view_is _ _ _ c.self.invariant c.args.part.now c.append.new.items.items (search rules) c.indexed.result c.indexed.ensures
