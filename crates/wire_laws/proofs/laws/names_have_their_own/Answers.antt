use Rattle.fidl_wire.proofs.Rows.{method_ordinal-injective, event_apart}
use Rattle.wire_laws.proofs.laws.names_have_their_own.Goals as goal

pub returns-clause-methods : goal.returns-clause-methods
returns-clause-methods c = method_ordinal-injective

pub returns-clause-event : goal.returns-clause-event
returns-clause-event c = event_apart
