use Rattle.std.proofs.Common.{◌≡◌, None, Some, sym, ap, ◌∙◌}
use Rattle.std.specs.FinMap as finite
use Rattle.std.specs.Option.{option_map}
use Rattle.link_admission.proofs.Tabled.{changes-table, map-remove}
use Rattle.conn_rules.specs.Births.{Connection}
use Rattle.vfs_server.specs.Steps.{seen_in}
use Rattle.vfs_server.proofs.Found.{kind_cut, none_seen, seen_there, seen_updates}
use Rattle.vfs_server.proofs.connections.Connections.remove.Goals as goal

pub returns-in_err-conn-clause-given : goal.returns-in_err-conn-clause-given
returns-in_err-conn-clause-given c =
    c.from_residual.ensures
    ∙ sym (ap (option_map (λ (connection : Connection). connection.birth.node)) (none_seen c.self.inside.kept.entries c.args.self.now c.args.endpoint c.self.view_is (sym c.in_err-conn.was ∙ c.remove.ensures.value)))

pub returns-in_err-conn-clause-removed : goal.returns-in_err-conn-clause-removed
returns-in_err-conn-clause-removed c =
    map-remove (finite.from_entries (seen_in c.self.inside.kept.entries)) (finite.from_entries (seen_in c.remove.new.self.entries)) c.args.endpoint
    (changes-table (seen_in c.self.inside.kept.entries) (seen_in c.remove.new.self.entries) c.args.endpoint None (seen_updates c.self.inside.kept.entries c.remove.new.self.entries c.args.endpoint None c.remove.ensures.updates.0))
    ∙ ap (λ m. finite.remove m c.args.endpoint) c.self.view_is

pub invariant_of-self-2 : goal.invariant_of-self-2
invariant_of-self-2 c = kind_cut c.self.inside.kept.entries c.remove.new.self.entries c.args.endpoint c.remove.ensures.updates.0 c.self.invariant

pub returns-clause-given : goal.returns-clause-given
returns-clause-given c =
    ap Some c.node.ensures
    ∙ sym (ap (option_map (λ (connection : Connection). connection.birth.node)) (seen_there c.self.inside.kept.entries c.args.self.now c.args.endpoint c.in_ok-conn.conn c.self.view_is (sym c.in_ok-conn.was ∙ c.remove.ensures.value)))

pub returns-clause-removed : goal.returns-clause-removed
returns-clause-removed c =
    map-remove (finite.from_entries (seen_in c.self.inside.kept.entries)) (finite.from_entries (seen_in c.remove.new.self.entries)) c.args.endpoint
    (changes-table (seen_in c.self.inside.kept.entries) (seen_in c.remove.new.self.entries) c.args.endpoint None (seen_updates c.self.inside.kept.entries c.remove.new.self.entries c.args.endpoint None c.remove.ensures.updates.0))
    ∙ ap (λ m. finite.remove m c.args.endpoint) c.self.view_is
