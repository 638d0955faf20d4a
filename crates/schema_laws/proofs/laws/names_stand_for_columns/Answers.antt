use Rattle.schema_laws.proofs.Orders.{has_orders, has_inputs}
use Rattle.schema_laws.proofs.laws.names_stand_for_columns.Goals as goal

pub returns : goal.returns
returns c = record { orders = has_orders c.args.catalog.now; inputs = has_inputs c.args.catalog.now }
